-- Pages that are sound where they stand, and what may be told of the others.
use Rattle.std.proofs.Common.{◌≡◌, ℕ, ◌-◌, ◌<◌, ◌≤◌, List, length, inl, inr, refl, sym, subst, arith, true≢false}
use Rattle.std.specs.Prelude.{Option, None, Some, IsSome, IfSome, All, Result, Ok, Err, slice_get}
use Rattle.std.proofs.lemmas.List.Elements.{recursion_from_All}
use Rattle.hm_types.specs.Faults.{IsCaused, HasFaultCause}
use Rattle.hm_types.specs.declared.fault.Fault.{Fault}
use Rattle.hm_types.specs.declared.fault.Fault.TheVariants.{Media, Damaged, NoMemory}
use Rattle.hm_fields.specs.Pages.{PageMap, page_in}
use Rattle.hm_types.specs.Faults.{IsUndamaged}
use Rattle.hm_node.specs.Damage.{Keeps, number_of, IsLowestKind, IsDamage}
use Rattle.hm_node.specs.Node.{node_in, IsNode, Spells}
use Rattle.hm_node.specs.declared.node.Node.{Node}
use Rattle.hm_node.specs.declared.rule.Rule.{Rule}
use Rattle.hm_node.proofs.NodeLemmas.{spells_kept}
use Rattle.hm_key.specs.Elements.{element_key}
use Rattle.hm_key.specs.declared.base.Base.{Base}
use Rattle.hm_node.specs.declared.node.Node.TheVariants.{Leaf as leaf_node, Inner as inner_node}
use Rattle.hm_search.specs.Place.{Fits, FitsBounds, FitsBy, IsInside, MeetsBounds, MeetsBy, place_number, SpellsHere, Breaks, IsFirstUnmet, IsLowestBroken}
use Rattle.hm_search.specs.Place.{TellsDamage, TellsUnmet}
use Rattle.hm_search.specs.Tree.{node_at, IsStoredTree}
use Rattle.hm_search.specs.declared.place_rule.PlaceRule.{PlaceRule}
use Rattle.hm_search.specs.declared.place_rule.PlaceRule.TheVariants.{Level, Count, Bounds, Mirror}
use Rattle.hm_search.specs.declared.subtree.Subtree.{Subtree}
use Rattle.hm_search.proofs.ListLemmas.{each_get}

-- a node that keeps each rule of its place fits there
pub fits_all : (s : Subtree) (page : List ℕ) (node : Node) → node_in page ≡ node → ((rule : PlaceRule) → place_number rule < 10 → FitsBy s (node_in page) rule)
    → Fits s node
fits_all s page node is kept = subst (λ (n : Node). Fits s n) is
    (record { level = kept Level (omega arith); count = kept Count (omega arith); bounds = kept Bounds (omega arith); mirror = kept Mirror (omega arith) })

pub fits_by : (s : Subtree) (node : Node) → Fits s node → (rule : PlaceRule) → FitsBy s node rule
fits_by s node fits Level = fits.level
fits_by s node fits Count = fits.count
fits_by s node fits Bounds = fits.bounds
fits_by s node fits Mirror = fits.mirror

-- the node in a page that keeps its own rules and those of its place
pub spells_here : (s : Subtree) (page : List ℕ) (node : Node) → IsNode node × Spells page node
    → ((rule : PlaceRule) → place_number rule < 10 → FitsBy s (node_in page) rule) → SpellsHere s page node
spells_here s page node both kept = record { spelled = both.1; sound = both.0; fits = fits_all s page node both.1.value kept }

-- such a page breaks no rule there
pub not_broken : (s : Subtree) (page : List ℕ) (node : Node) (kind : ℕ) → SpellsHere s page node → IsLowestBroken s page kind → ⊥
not_broken s page node kind here low = by_side low.broken where
  by_side : Breaks s page kind → ⊥
  by_side (inl (rule, is, broken)) = broken (spells_kept page node here.sound here.spelled rule)
  by_side (inr (rule, is, broken)) = broken (fits_by s (node_in page) (subst (λ (n : Node). Fits s n) (sym here.spelled.value) here.fits) rule)

-- the page of a stored tree
pub stored_here : (map : PageMap) (height : ℕ) (s : Subtree) → IsStoredTree map height s → SpellsHere s (page_in (map s.at)) (node_at map s.at)
stored_here map height s stored = record { spelled = stored.spelled; sound = stored.tree.sound; fits = stored.tree.fits }

-- the lowest rule that a page breaks is one of its own
pub own_broken : (s : Subtree) (page : List ℕ) (kind : ℕ) → IsLowestKind page kind
    → ((rule : PlaceRule) → place_number rule < kind → FitsBy s (node_in page) rule) → IsLowestBroken s page kind
own_broken s page kind (rule, is, first) kept = record {
  broken = inl (rule, is, first.broken);
  kept = record { own = λ other low. first.kept other (omega (arith, is)); place = kept };
}

-- or one of its place
pub place_broken : (s : Subtree) (page : List ℕ) (limit : ℕ) (rule : PlaceRule) → ((other : Rule) → number_of other < limit → Keeps page other)
    → place_number rule < limit
    → (FitsBy s (node_in page) rule → ⊥) → ((other : PlaceRule) → place_number other < place_number rule → FitsBy s (node_in page) other)
    → IsLowestBroken s page (place_number rule)
place_broken s page limit rule own low broken kept = record {
  broken = inr (rule, refl, broken);
  kept = record { own = λ other below. own other (omega arith); place = kept };
}

-- each own rule is kept by a page that spells a sound node
pub own_kept : (page : List ℕ) (node : Node) (limit : ℕ) → IsNode node × Spells page node → (other : Rule) → number_of other < limit → Keeps page other
own_kept page node limit both other low = spells_kept page node both.0 both.1 other

-- and each below the lowest that a page breaks
pub lower_kept : (page : List ℕ) (kind : ℕ) → IsLowestKind page kind → (other : Rule) → number_of other < kind → Keeps page other
lower_kept page kind (rule, is, first) other low = first.kept other (omega (arith, is))

-- damage that is told of a page has the lowest number of its own rules
pub damage_lowest : (at : ℕ) (page : List ℕ) (there kind : ℕ) → IsDamage at page (Damaged there kind) → IsLowestKind page kind
damage_lowest at page there kind (k, is, low) = let same : kind ≡ k = cc in subst (IsLowestKind page) (sym same) low

-- and no other fault is
pub no_media : (at : ℕ) (page : List ℕ) (before after : ℕ) → IsDamage at page (Media before after) → ⊥
no_media at page before after (k, is, low) = cc

pub no_refusal : (at : ℕ) (page : List ℕ) → IsDamage at page NoMemory → ⊥
no_refusal at page (k, is, low) = cc

-- what is told of a sound page is no damage
pub tells_undamaged : (s : Subtree) (page : Option (List ℕ)) (node : Node) (fault : Fault) → IsSome page → SpellsHere s (page_in page) node
    → TellsDamage s page fault → IsUndamaged fault
tells_undamaged s page node (Media before after) there here tells = tt
tells_undamaged s (Some page) node (Damaged at kind) there here tells = not_broken s page node kind here tells.1
tells_undamaged s None node (Damaged at kind) there here tells = absurd (true≢false (sym there))
tells_undamaged s page node NoMemory there here tells = tt

-- what holds of all holds at each place
all_at : {A : Type 0} (P : A → Type 0) (xs : List A) (i : ℕ) → All P xs → IfSome (slice_get xs i) P
all_at {A = A} P xs i all = by_value (slice_get xs i) refl where
  by_value : (o : Option A) → slice_get xs i ≡ o → IfSome o P
  by_value None is = tt
  by_value (Some x) is = each_get P xs i x is (recursion_from_All P xs all)

bounds_met : (left right : Base) (node : Node) → FitsBounds left right node → MeetsBounds left right node
bounds_met left right (leaf_node leaf) fits = (
  all_at (λ e. IsInside left right (element_key e)) leaf.places.items 0 fits,
  all_at (λ e. IsInside left right (element_key e)) leaf.places.items (length leaf.places.items - 1) fits,
)
bounds_met left right (inner_node inner) fits = fits

-- a node that fits its place breaks no rule there that a search checks
pub fits_meets : (s : Subtree) (node : Node) → Fits s node → (rule : PlaceRule) → MeetsBy s node rule
fits_meets s node fits Level = fits.level
fits_meets s node fits Count = fits.count
fits_meets s node fits Bounds = bounds_met s.left s.right node fits.bounds
fits_meets s node fits Mirror = fits.mirror

-- so a search tells no damage of it
pub tells_met : (s : Subtree) (page : Option (List ℕ)) (fault : Fault) → IsSome page → Fits s (node_in (page_in page)) → TellsUnmet s page fault
    → IsUndamaged fault
tells_met s page (Media before after) there fits tells = tt
tells_met s (Some page) (Damaged at kind) there fits tells =
    let unmet : (rule : PlaceRule) × (place_number rule ≡ kind) × IsFirstUnmet s page rule = tells.1 in
    unmet.2.broken (fits_meets s (node_in page) fits unmet.0)
tells_met s None (Damaged at kind) there fits tells = absurd (true≢false (sym there))
tells_met s page NoMemory there fits tells = tt

-- causes within a longer call
pub caused_since : (old mid new : ℕ) (fault : Fault) → old ≤ mid → IsCaused mid new fault → IsCaused old new fault
caused_since old mid new (Media before after) low caused = record { begin = omega (arith, caused.begin); rose = caused.rose; end = caused.end }
caused_since old mid new (Damaged at kind) low caused = tt
caused_since old mid new NoMemory low caused = tt

pub cause_since : {T : Type 0} (old mid new : ℕ) (result : Result T Fault) → old ≤ mid → HasFaultCause mid new result → HasFaultCause old new result
cause_since old mid new (Ok x) low cause = record { never_falls = omega (arith, cause.never_falls); caused = tt }
cause_since old mid new (Err fault) low cause =
    record { never_falls = omega (arith, cause.never_falls); caused = caused_since old mid new fault low cause.caused }

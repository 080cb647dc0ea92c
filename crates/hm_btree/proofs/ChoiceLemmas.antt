-- Nodes of a sound tree that lie in some big-blocks.
use Rattle.std.proofs.Common.{◌≡◌, ◌⊎◌, ℕ, zero, suc, ◌+◌, ◌<◌, ◌≤◌, List, [], ◌∷◌, length, Some, None, Ok, Err, Result}
use Rattle.std.proofs.Common.{true≢false, eqb-true, refl, sym, ap, subst, ◌∙◌, arith, inl, inr}
use Rattle.std.specs.Prelude.{Option, IfSome, IfOk, nat_eq, slice_get}
use Rattle.std.specs.List.{AllByRecursion}
use Rattle.std.proofs.Math.Nat.{eq-or-lt_of_le}
use Rattle.hm_types.specs.Elements.{Key}
use Rattle.hm_types.specs.declared.fault.Fault.{Fault}
use Rattle.hm_fields.specs.Pages.{PageMap, page_in}
use Rattle.hm_key.specs.Key.{key_of, least_key, greatest_key, IsBefore, IsFrom}
use Rattle.hm_key.specs.declared.base.Base.{Base}
use Rattle.hm_key.proofs.KeyLemmas.{key_not_before, key_before_from}
use Rattle.hm_node.specs.Node.{level_of, Spells}
use Rattle.hm_node.specs.declared.inner.Child.{Child}
use Rattle.hm_node.specs.declared.inner.Inner.{Inner}
use Rattle.hm_node.specs.declared.leaf.Leaf.{Leaf}
use Rattle.hm_node.specs.declared.node.Node.{Node}
use Rattle.hm_node.specs.declared.node.Node.TheVariants.{Leaf as leaf_node, Inner as inner_node}
use Rattle.hm_search.specs.Descent.{PassesHere, Goes}
use Rattle.hm_search.specs.Place.{Fits, MeetsBy}
use Rattle.hm_search.specs.Tree.{node_at, children_of, next_left, child_place, places_of, reaches, root_place, height_of, Reaches, IsTree, IsStoredTree}
use Rattle.hm_search.specs.declared.place_rule.PlaceRule.{PlaceRule}
use Rattle.hm_search.specs.declared.place_rule.PlaceRule.TheVariants.{Level, Count, Bounds, Mirror}
use Rattle.hm_search.specs.declared.subtree.Subtree.{Subtree}
use Rattle.hm_search.proofs.ChildLemmas.{begins_before, from_next, later_sorted, place_is}
use Rattle.hm_search.proofs.ContentLemmas.{from_left}
use Rattle.hm_search.proofs.DescentLemmas.{child_stored, goes_sound}
use Rattle.hm_search.proofs.ListLemmas.{each_both, each_get, each_so}
use Rattle.hm_search.proofs.OrderLemmas.{from_then_before, from_trans}
use Rattle.hm_search.proofs.ReachLemmas.{either, one_under, places_within, IsWithin}
use Rattle.hm_btree.specs.Below.{AreRising}
use Rattle.hm_btree.specs.Calls.Choice.{FindsBelow, FindsFrom, FindsNode, IsChosenFrom, LiesIn}
use Rattle.hm_btree.specs.Tree.{IsTreeSpace}
use Rattle.hm_btree.proofs.ExchangeLemmas.{inside_whole}
use Rattle.hm_btree.proofs.OrderLemmas.{before_before}
use Rattle.hm_btree.proofs.ToldLemmas.{IfSome_both}

-- a place ends after it begins
abbrev pub IsWide : Subtree → Type 0
IsWide s = IsBefore (key_of s.left) (key_of s.right)

-- the places of the children of a node
module _ (level : ℕ) (right : Base) where
  wide_places : (cs : List Child) → AreRising right cs → AllByRecursion IsWide (places_of level right cs)
  wide_places [] rising = tt
  wide_places (c ∷ cs) rising = (begins_before right c cs rising, wide_places cs (later_sorted right c cs rising))

  -- one begins where an earlier one ends, or later
  later_place : (cs : List Child) (i j : ℕ) (s t : Subtree) → AreRising right cs → i < j → slice_get (places_of level right cs) i ≡ Some s
      → slice_get (places_of level right cs) j ≡ Some t → IsFrom (key_of s.right) (key_of t.left)
  later_place [] i j s t rising less first second = absurd cc
  later_place (c ∷ cs) i zero s t rising less first second = absurd (omega arith)
  later_place (c ∷ cs) zero (suc j) s t rising less first second =
      let same : child_place level (next_left right cs) c ≡ s = cc in
      let later = later_sorted right c cs rising in
      subst (λ (x : Subtree). IsFrom (key_of x.right) (key_of t.left)) same
      (each_get (IsWithin (next_left right cs) right) (places_of level right cs) j t second
      (places_within level (next_left right cs) right cs later (from_next right cs later))).from
  later_place (c ∷ cs) (suc i) (suc j) s t rising less first second =
      later_place cs i j s t (later_sorted right c cs rising) (omega arith) first second

-- a place inside another one
pub record IsInPlace (s place : Subtree) : Type 0 where
  pub from : IsFrom (key_of s.left) (key_of place.left)
  pub wide : IsWide place
  pub to : IsFrom (key_of place.right) (key_of s.right)

child_in_place : (map : PageMap) (height : ℕ) (s : Subtree) (inner : Inner) (i : ℕ) (child : Subtree) → IsTree map height s (inner_node inner)
    → slice_get (children_of inner) i ≡ Some child → IsInPlace s child
child_in_place map height s inner i child tree at =
    let rising = tree.sound.order in
    let one = each_get (IsWithin s.left inner.right) (children_of inner) i child at
    (places_within inner.level s.left inner.right inner.places.items rising (from_left s.left inner.right inner.places.items tree.fits.bounds.0 rising)) in
    record {
      from = one.from;
      wide = each_get IsWide (children_of inner) i child at (wide_places inner.level inner.right inner.places.items rising);
      to = subst (λ (k : Key). IsFrom (key_of child.right) k) tree.fits.bounds.1 one.to;
    }

-- each node to which a search comes lies inside the place from which it came
pub goes_in_place : (map : PageMap) (steps height : ℕ) (s place : Subtree) → IsStoredTree map height s → IsWide s → Goes map steps s place
    → IsInPlace s place
goes_in_place map zero height s place stored wide is = subst (λ (x : Subtree). IsInPlace s x) is (record {
  from = key_not_before (key_of s.left);
  wide = wide;
  to = key_not_before (key_of s.right);
})
goes_in_place map (suc steps) height s place stored wide (next, (inner, here, i, at), goes) =
    let below = child_stored map height s inner i next stored (here.spelled stored.there).value at in
    let child = child_in_place map (suc below.lower) s inner i next below.tree at in
    let rest = goes_in_place map steps below.lower next place below.stored child.wide goes in
    record {
      from = from_trans (key_of s.left) (key_of next.left) (key_of place.left) child.from rest.from;
      wide = rest.wide;
      to = from_trans (key_of place.right) (key_of next.right) (key_of s.right) rest.to child.to;
    }

-- a place of a list
get_within : {A : Type 0} (xs : List A) (i : ℕ) (x : A) → slice_get xs i ≡ Some x → i < length xs
get_within [] i x is = absurd cc
get_within (y ∷ ys) zero x is = omega arith
get_within (y ∷ ys) (suc i) x is = omega (arith, get_within ys i x is)

before_same_after : (j i : ℕ) → (j < i) ⊎ (j ≡ i) ⊎ (i < j)
before_same_after zero zero = inr (inl refl)
before_same_after zero (suc i) = inl (omega arith)
before_same_after (suc j) zero = inr (inr (omega arith))
before_same_after (suc j) (suc i) = elim (before_same_after j i) [
  | inl less ↦ inl (omega arith)
  | inr rest ↦ elim rest [ inl same ↦ inr (inl (ap suc same)) | inr more ↦ inr (inr (omega arith)) ]
]

module _ (chosen : List ℕ) (from : Key) (map : PageMap) where
  -- none of the nodes below the first so many children of a node
  abbrev pub NoneAmong : Inner → ℕ → Type 0
  NoneAmong inner n = (j : ℕ) → j < n → (child : Subtree) → slice_get (children_of inner) j ≡ Some child → FindsBelow chosen from map child None

  pub none_more : (inner : Inner) (n : ℕ) (child : Subtree) → slice_get (children_of inner) n ≡ Some child → NoneAmong inner n
      → FindsBelow chosen from map child None → NoneAmong inner (n + 1)
  none_more inner n child at none here j less other is = elim (eq-or-lt_of_le {n = j} {m = n} (omega arith)) [
    | inr before ↦ none j before other is
    | inl same ↦ let one : other ≡ child = some_same (sym is ∙ ap (slice_get (children_of inner)) same ∙ at) in
        subst (λ (x : Subtree). FindsBelow chosen from map x None) (sym one) here
  ] where
    some_same : Some other ≡ Some child → other ≡ child
    some_same both = cc

  -- the node at a place itself
  pub here_finds : (height : ℕ) (s : Subtree) → IsStoredTree map height s → IsWide s → IsBefore from (key_of s.right) → LiesIn chosen s.at
      → FindsBelow chosen from map s (Some s)
  here_finds height s stored wide after lies = (
    record { steps = 0; goes = refl; after = after; lies = lies },
    λ place is. let range = goes_in_place map is.steps height s place stored wide is.goes in
        from_then_before (key_of s.left) (key_of place.left) (key_of place.right) range.from range.wide,
  )

  -- nothing below a place ends after the key where the place doesn't
  pub past_finds : (height : ℕ) (s : Subtree) → IsStoredTree map height s → IsWide s → (IsBefore from (key_of s.right) → ⊥)
      → FindsBelow chosen from map s None
  past_finds height s stored wide past place is =
      let range = goes_in_place map is.steps height s place stored wide is.goes in
      past (key_before_from from (key_of place.right) (key_of s.right) is.after range.to)

  -- nothing is below a leaf
  pub leaf_finds : (height : ℕ) (s : Subtree) (leaf : Leaf) → IsStoredTree map height s → (LiesIn chosen s.at → ⊥)
      → node_at map s.at ≡ leaf_node leaf → FindsBelow chosen from map s None
  leaf_finds height s leaf stored other here place is = by_steps is.steps is.goes is.lies where
    by_steps : (steps : ℕ) → Goes map steps s place → LiesIn chosen place.at → ⊥
    by_steps zero same lies = other (subst (λ (x : Subtree). LiesIn chosen x.at) (sym same) lies)
    by_steps (suc steps) (next, (inner, passes, i, at), goes) lies =
        let clash : leaf_node leaf ≡ inner_node inner = sym here ∙ (passes.spelled stored.there).value in
        omega (arith, ap level_of clash, passes.level.0)

  -- an inner node, which doesn't lie there itself
  module _ (height : ℕ) (s : Subtree) (inner : Inner) (stored : IsStoredTree map height s) (wide : IsWide s)
      (here : PassesHere map s (inner_node inner)) (other : LiesIn chosen s.at → ⊥) where
    its_inner : (one : Inner) → PassesHere map s (inner_node one) → one ≡ inner
    its_inner one passes =
        let same : inner_node one ≡ inner_node inner = sym (passes.spelled stored.there).value ∙ (here.spelled stored.there).value in
        cc

    -- a fact of each chosen node below it: of those below each child
    pub below_inner : (P : Subtree → Type 0) → ((j : ℕ) (next : Subtree) → slice_get (children_of inner) j ≡ Some next
        → (place : Subtree) → IsChosenFrom chosen from map next place → P place) → (place : Subtree) → IsChosenFrom chosen from map s place → P place
    below_inner P each place is = by_steps is.steps is.goes where
      by_steps : (steps : ℕ) → Goes map steps s place → P place
      by_steps zero same = absurd (other (subst (λ (x : Subtree). LiesIn chosen x.at) (sym same) is.lies))
      by_steps (suc steps) (next, (one, passes, j, at), goes) =
          each j next (subst (λ (x : Inner). slice_get (children_of x) j ≡ Some next) (its_inner one passes) at) place
          (record { steps = steps; goes = goes; after = is.after; lies = is.lies })

    pub none_finds : (n : ℕ) → length inner.places.items ≤ n → NoneAmong inner n → FindsBelow chosen from map s None
    none_finds n all none = below_inner (λ _. ⊥) (λ j next at place is.
        let one = place_is inner.level inner.right inner.places.items j next at in
        none j (omega (arith, get_within inner.places.items j one.child one.is)) next at place is)

    pub child_finds : (i : ℕ) (child found : Subtree) → slice_get (children_of inner) i ≡ Some child → NoneAmong inner i
        → FindsBelow chosen from map child (Some found) → FindsBelow chosen from map s (Some found)
    child_finds i child found at none finds = (
      record { steps = suc finds.0.steps; goes = (child, (inner, here, i, at), finds.0.goes); after = finds.0.after; lies = finds.0.lies },
      below_inner (λ place. IsBefore (key_of found.left) (key_of place.right)) (λ j next is place lies. elim (before_same_after j i) [
        | inl less ↦ absurd (none j less next is place lies)
        | inr rest ↦ elim rest [
          | inl same ↦ finds.1 place (subst (λ (x : Subtree). IsChosenFrom chosen from map x place) (one_child j next is same) lies)
          | inr more ↦ after j next is more place lies
        ]
      ]),
    ) where
      one_child : (j : ℕ) (next : Subtree) → slice_get (children_of inner) j ≡ Some next → j ≡ i → next ≡ child
      one_child j next is same = some_same (sym is ∙ ap (slice_get (children_of inner)) same ∙ at) where
        some_same : Some next ≡ Some child → next ≡ child
        some_same both = cc

      after : (j : ℕ) (next : Subtree) → slice_get (children_of inner) j ≡ Some next → i < j → (place : Subtree)
          → IsChosenFrom chosen from map next place → IsBefore (key_of found.left) (key_of place.right)
      after j next is more place lies =
          let first = child_stored map height s inner i child stored (here.spelled stored.there).value at in
          let second = child_stored map height s inner j next stored (here.spelled stored.there).value is in
          let one = child_in_place map (suc first.lower) s inner i child first.tree at in
          let two = child_in_place map (suc second.lower) s inner j next second.tree is in
          let low = goes_in_place map finds.0.steps first.lower child found first.stored one.wide finds.0.goes in
          let high = goes_in_place map lies.steps second.lower next place second.stored two.wide lies.goes in
          let apart = later_place inner.level inner.right inner.places.items i j child next first.tree.sound.order more at is in
          let before = key_before_from (key_of found.left) (key_of found.right) (key_of child.right) low.wide low.to in
          let begun = key_before_from (key_of found.left) (key_of child.right) (key_of next.left) before apart in
          before_before (key_of found.left) (key_of place.left) (key_of place.right)
          (key_before_from (key_of found.left) (key_of next.left) (key_of place.left) begun high.from) high.wide

-- the same of pages that may be told
module _ (chosen : List ℕ) (from : Key) (told : Option PageMap) (s : Subtree) (inner : Inner) where
  -- none of the nodes below the first so many children, where the place is that of a sound tree
  abbrev pub NoneTold : ℕ → Type 0
  NoneTold n = IfSome told (λ map. (height : ℕ) → IsStoredTree map height s → IsWide s → NoneAmong chosen from map inner n)

  -- what is found below a place, where it is that of a sound tree
  abbrev pub FindsTold : Option PageMap → Subtree → Option Subtree → Type 0
  FindsTold pages place found =
      IfSome pages (λ map. (height : ℕ) → IsStoredTree map height place → IsWide place → FindsBelow chosen from map place found)

  module _ (here : IfSome told (λ map. PassesHere map s (inner_node inner))) where
    pub none_told : (n : ℕ) → length inner.places.items ≤ n → (LiesIn chosen s.at → ⊥) → NoneTold n → FindsTold told s None
    none_told n all other none = IfSome_both told here none
        (λ map here none height stored wide. none_finds chosen from map height s inner stored wide here other n all (none height stored wide))

    module _ (i : ℕ) (child : Subtree) (at : slice_get (children_of inner) i ≡ Some child) (none : NoneTold i) where
      -- the child is that of a sound tree
      child_tree : (map : PageMap) (height : ℕ) → IsStoredTree map height s → PassesHere map s (inner_node inner)
          → (lower : ℕ) × IsStoredTree map lower child × IsWide child
      child_tree map height stored here =
          let below = child_stored map height s inner i child stored (here.spelled stored.there).value at in
          (below.lower, below.stored, (child_in_place map (suc below.lower) s inner i child below.tree at).wide)

      pub past_told : (IsBefore from (key_of child.right) → ⊥) → NoneTold (i + 1)
      past_told past = IfSome_both told here none (λ map here none height stored wide.
          let below = child_tree map height stored here in
          none_more chosen from map inner i child at (none height stored wide) (past_finds chosen from map below.0 child below.1 below.2 past))

      -- what is known of the node and of its first children
      both : IfSome told (λ map. PassesHere map s (inner_node inner)
          × ((height : ℕ) → IsStoredTree map height s → IsWide s → NoneAmong chosen from map inner i))
      both = IfSome_both told here none (λ map here none. (here, none))

      module _ (now : Option PageMap) (same : now ≡ told) where
        pub more_told : FindsTold now child None → NoneTold (i + 1)
        more_told finds = IfSome_both told both
            (subst (λ (o : Option PageMap). FindsTold o child None) same finds) (λ map both finds height stored wide.
            let below = child_tree map height stored both.0 in
            none_more chosen from map inner i child at (both.1 height stored wide) (finds below.0 below.1 below.2))

        pub found_told : (found : Subtree) → (LiesIn chosen s.at → ⊥) → FindsTold now child (Some found) → FindsTold told s (Some found)
        found_told found other finds = IfSome_both told both
            (subst (λ (o : Option PageMap). FindsTold o child (Some found)) same finds) (λ map both finds height stored wide.
            let below = child_tree map height stored both.0 in
            child_finds chosen from map height s inner stored wide both.0 other i child found at (both.1 height stored wide)
            (finds below.0 below.1 below.2))

-- What was found of the tree from a root on. Its least key is before all ends.
pub from_tree : (chosen : List ℕ) (from : Key) (told : Option PageMap) (root : ℕ) (s : Subtree) (r : Result (Option Subtree) Fault)
    → s ≡ root_place root → IsBefore from greatest_key → IfSome told (λ map. IsTreeSpace map root)
    → IfSome told (λ map. (height : ℕ) → IsStoredTree map height s → IsWide s → IfOk r (FindsBelow chosen from map s))
    → IfOk r (λ found. IfSome told (λ map. FindsFrom chosen from map root found))
from_tree chosen from told root s (Err fault) is before tree finds = tt
from_tree chosen from None root s (Ok found) is before tree finds = tt
from_tree chosen from (Some map) root s (Ok found) is before tree finds =
    let asked = subst (λ (x : Subtree). (height : ℕ) → IsStoredTree map height x → IsWide x → FindsBelow chosen from map x found) is finds in
    asked (height_of (node_at map root)) tree.sound (from_then_before least_key from greatest_key (inside_whole root from before).from before)

root_wide : (root : ℕ) → IsWide (root_place root)
root_wide root = refl

-- a search may come to an inner node of a sound tree
stored_passes : (map : PageMap) (height : ℕ) (s : Subtree) (inner : Inner) → IsStoredTree map height s → node_at map s.at ≡ inner_node inner
    → PassesHere map s (inner_node inner)
stored_passes map height s inner stored is =
    let tree = subst (λ (n : Node). IsTree map height s n) is stored.tree in
    record {
      level = tree.sound.level;
      count = tree.sound.count;
      fields = tree.sound.fields;
      meets = meets tree.fits;
      spelled = λ _. subst (λ (n : Node). Spells (page_in (map s.at)) n) is stored.spelled;
    } where
      meets : Fits s (inner_node inner) → (rule : PlaceRule) → MeetsBy s (inner_node inner) rule
      meets fits Level = fits.level
      meets fits Count = fits.count
      meets fits Bounds = fits.bounds
      meets fits Mirror = fits.mirror

-- each of a list has its place there
each_listed : {A : Type 0} (xs : List A) → AllByRecursion (λ x. (i : ℕ) × (slice_get xs i ≡ Some x)) xs
each_listed [] = tt
each_listed {A = A} (x ∷ xs) = (
  (0, refl),
  each_so (λ (y : A). (i : ℕ) × (slice_get xs i ≡ Some y)) (λ (y : A). (i : ℕ) × (slice_get (x ∷ xs) i ≡ Some y)) xs
      (λ y at. (suc at.0, at.1)) (each_listed xs),
)

-- a search comes to each node that is reached
abbrev IsComeTo : PageMap → Subtree → ℕ → Type 0
IsComeTo map s x = (steps : ℕ) × (place : Subtree) × Goes map steps s place × (place.at ≡ x)

reached_goes : (map : PageMap) (height : ℕ) (s : Subtree) (x : ℕ) → IsStoredTree map height s → Reaches map height (node_at map s.at) x → IsComeTo map s x
reached_goes map zero s x stored is = by_node (node_at map s.at) is where
  by_node : (n : Node) → Reaches map zero n x → IsComeTo map s x
  by_node (leaf_node leaf) is = absurd (true≢false (sym is))
  by_node (inner_node inner) is = absurd (true≢false (sym is))
reached_goes map (suc height) s x stored is =
    by_node (node_at map s.at) refl is (λ c stored reached. reached_goes map height c x stored reached) where
      by_node : (n : Node) → node_at map s.at ≡ n → Reaches map (suc height) n x
          → ((c : Subtree) → IsStoredTree map height c → Reaches map height (node_at map c.at) x → IsComeTo map c x) → IsComeTo map s x
      by_node (leaf_node leaf) here is further = absurd (true≢false (sym is))
      by_node (inner_node inner) here is further =
          let tree = subst (λ (n : Node). IsTree map (suc height) s n) here stored.tree in
          let passes = stored_passes map (suc height) s inner stored here in
          let one = one_under map height (λ c. IsStoredTree map height c × ((i : ℕ) × (slice_get (children_of inner) i ≡ Some c)))
          x inner.level inner.right inner.places.items
          (each_both (IsStoredTree map height) (λ c. (i : ℕ) × (slice_get (children_of inner) i ≡ Some c)) (children_of inner) tree.below
          (each_listed (children_of inner))) is in
          elim one.under [
            | inl at ↦ (1, one.place, (one.place, (inner, passes, one.fact.1.0, one.fact.1.1), refl), at)
            | inr more ↦ let rest = further one.place one.fact.0 more in
                (suc rest.0, rest.1, (one.place, (inner, passes, one.fact.1.0, one.fact.1.1), rest.2), rest.3)
          ]

-- what was found of all nodes
pub found_node : (chosen : List ℕ) (from : Key) (told : Option PageMap) (root : ℕ) (place : Subtree) → IfSome told (λ map. IsTreeSpace map root)
    → IfSome told (λ map. FindsFrom chosen from map root (Some place)) → IfSome told (λ map. FindsNode chosen map (Some place.at))
found_node chosen from told root place tree finds = IfSome_both told tree finds (λ map tree finds.
    let stored = goes_sound map finds.0.steps (height_of (node_at map root)) (root_place root) place tree.sound finds.0.goes in
    (stored.1.there, finds.0.lies))

pub no_node : (chosen : List ℕ) (told : Option PageMap) (root : ℕ) → IfSome told (λ map. IsTreeSpace map root)
    → IfSome told (λ map. FindsFrom chosen least_key map root None) → IfSome told (λ map. FindsNode chosen map None)
no_node chosen told root tree finds = IfSome_both told tree finds (λ map tree none at there lies.
    let height = height_of (node_at map root) in
    elim (either (nat_eq at root) (reaches map height (node_at map root) at) (tree.whole at there)) [
      | inl same ↦ none (root_place root) (record {
        steps = 0;
        goes = refl;
        after = root_wide root;
        lies = subst (λ (x : ℕ). LiesIn chosen x) (eqb-true at root same) lies;
      })
      | inr reached ↦
          let come = reached_goes map height (root_place root) at tree.sound reached in
          let range = goes_in_place map come.0 height (root_place root) come.1 tree.sound (root_wide root) come.2 in
          none come.1 (record {
            steps = come.0;
            goes = come.2;
            after = from_then_before least_key (key_of come.1.left) (key_of come.1.right) range.from range.wide;
            lies = subst (λ (x : ℕ). LiesIn chosen x) (sym come.3) lies;
          })
    ])

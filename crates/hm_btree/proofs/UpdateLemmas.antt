-- A node that is written where it changed: one that stays is the one that its page holds.
use Rattle.std.proofs.Common.{◌≡◌, Bool, true, false, true≢false, ℕ, List, refl, sym, ap, subst, ◌∙◌, nat_eq, eqb-true, Some, None}
use Rattle.std.specs.Prelude.{Option, IsSome, if◌then◌else◌}
use Rattle.hm_types.specs.Told.{BothTell}
use Rattle.hm_fields.specs.Pages.{PageMap, page_in}
use Rattle.hm_node.specs.Node.{Spells}
use Rattle.hm_node.specs.declared.node.Node.{Node}
use Rattle.hm_search.specs.Tree.{node_at, reaches, IsTree}
use Rattle.hm_search.specs.declared.subtree.Subtree.{Subtree}
use Rattle.hm_search.proofs.ReachLemmas.{not_below_itself}
use Rattle.hm_btree.specs.Below.{Replaces}
use Rattle.hm_btree.specs.Space.{HasWritten, IsUpdated}

some_page : (o : Option (List ℕ)) → IsSome o → o ≡ Some (page_in o)
some_page None there = absurd (true≢false (sym there))
some_page (Some page) there = refl

-- a page that holds a node is as if the node was written to it
held_written : (at : ℕ) (page : List ℕ) (node : Node) (map : PageMap) → map at ≡ Some page → Spells page node → HasWritten at node map map
held_written at page node map held spells = (page, spells, λ x. by_test x (nat_eq x at) refl) where
  by_test : (x : ℕ) (b : Bool) → nat_eq x at ≡ b → map x ≡ (if nat_eq x at then Some page else map x)
  by_test x true is = rw is (ap map (eqb-true x at is) ∙ held)
  by_test x false is = rw is refl

-- a node of a sound tree, after a call that changed what is below it
pub written_below : (changed : Bool) (at height : ℕ) (s : Subtree) (before after : Node) (old mid new : PageMap) (news : ℕ → Bool)
    → IsUpdated changed at after mid new → (changed ≡ false → after ≡ before) → IsSome (old at) → Spells (page_in (old at)) (node_at old at)
    → node_at old at ≡ before → IsTree old height s before → Replaces (reaches old height before) news old mid → HasWritten at after mid new
written_below true at height s before after old mid new news updated kept there spelled read tree replaces = updated
written_below false at height s before after old mid new news updated kept there spelled read tree replaces =
    let itself : reaches old height before at ≡ false = not_below_itself old height s before at tree read in
    let held : mid at ≡ Some (page_in (old at)) = replaces.kept at itself there ∙ some_page (old at) there in
    let spells : Spells (page_in (old at)) after = subst (λ (n : Node). Spells (page_in (old at)) n) (read ∙ sym (kept refl)) spelled in
    subst (λ (m : PageMap). HasWritten at after mid m) (sym updated) (held_written at (page_in (old at)) after mid held spells)

-- one that changed for certain
pub surely_written : (changed : Bool) (at : ℕ) (node : Node) (p q : Option PageMap) → (changed ≡ false → ⊥)
    → BothTell p q (IsUpdated changed at node) → BothTell p q (HasWritten at node)
surely_written true at node p q surely both = both
surely_written false at node p q surely both = absurd (surely refl)

-- nothing is written
pub not_written : (at : ℕ) (node : Node) (p : Option PageMap) → BothTell p p (IsUpdated false at node)
not_written at node None = tt
not_written at node (Some map) = refl

-- Pages in memory of which each holds a node.
use Rattle.std.proofs.Common.{Bool, true, false, ℕ, List, sym, subst, Some, None, Result, Ok, Err}
use Rattle.std.specs.Prelude.{Option, IfSome, OnOk, OnErr, Box, cond}
use Rattle.std.specs.declared.alloc.Global.{Global}
use Rattle.std.specs.Ordering.{nat_cmp}
use Rattle.std.specs.BTreeMap as tree
use Rattle.std.specs.BTreeMap.{is_at, Updates, UpdatesBy, IsUnchanged}
use Rattle.std.specs.Map.{lookup}
use Rattle.hm_node.specs.Shape.{HoldsNode}
use Rattle.hm_btree.specs.MemSpace.{HeldPages, AllHoldNodes}

-- one more page
pub held_put : {A B : Type 0} (old new : HeldPages) (at : ℕ) (page : Box (List ℕ) Global) (r : Result A B) → AllHoldNodes old
    → HoldsNode page.value → OnOk r (Updates nat_cmp old new at (Some page)) → OnErr r (IsUnchanged old new) → AllHoldNodes new
held_put old new at page (Ok x) held node updates same = λ other. subst (λ (o : Option (Box (List ℕ) Global)). IfSome o
    (λ p. HoldsNode p.value)) (sym (updates.0 other)) (by_test (is_at (nat_cmp at) other) other) where
      by_test : (b : Bool) (other : ℕ) → IfSome (cond b (Some page) (tree.get nat_cmp old other)) (λ p. HoldsNode p.value)
      by_test true other = node
      by_test false other = held other
held_put old new at page (Err x) held node updates same = λ other. subst (λ (es : List (ℕ × Box (List ℕ) Global)). IfSome
    (lookup (is_at (nat_cmp other)) es) (λ p. HoldsNode p.value)) (sym same) (held other)

-- one page less
pub held_lost : (old new : HeldPages) (at : ℕ) → AllHoldNodes old → UpdatesBy nat_cmp (nat_cmp at) old new None → AllHoldNodes new
held_lost old new at held updates = λ other. subst (λ (o : Option (Box (List ℕ) Global)). IfSome o (λ p. HoldsNode p.value))
    (sym (updates.0 other)) (by_test (is_at (nat_cmp at) other) other) where
      by_test : (b : Bool) (other : ℕ) → IfSome (cond b None (tree.get nat_cmp old other)) (λ p. HoldsNode p.value)
      by_test true other = tt
      by_test false other = held other

-- What the calls make of a store that let a node of its tree stand elsewhere.
use Rattle.std.specs.Prelude.{◌≡◌, ℕ, List, Some, Result, Ok, Err, IfSome}
use Rattle.hm_types.specs.declared.fault.Fault.{Fault}
use Rattle.hm_btree.specs.Calls.Choice.{FindsNode}
use Rattle.hm_btree.specs.Calls.Move.{Exchanges}
use Rattle.hm_key.specs.Marks.{MarksStay}
use Rattle.hm_search.specs.declared.subtree.Subtree.{Subtree}
use Rattle.hm_stored.specs.Heap.{Heap, extents_in, pages_of}
use Rattle.hm_stored.specs.Told.{elements_told, mark_told}

-- how a call ended, without what it answered
abbrev pub outcome : {A : Type 0} → Result A Fault → Result (Unit {0}) Fault
outcome (Ok x) = Ok tt
outcome (Err fault) = Err fault

-- as far as nodes are told, one stands at a place, in one of these big-blocks
abbrev pub StandsIn : List ℕ → Heap → Subtree → Type 0
StandsIn chosen h place = IfSome (pages_of h) (λ map. FindsNode chosen map (Some place.at))

-- as far as nodes are told, the one at an offset stands at another one, which had none, and the others where they stood
abbrev pub MovesNodeTo : ℕ → Heap → Heap → ℕ → Type 0
MovesNodeTo at old new to = IfSome (pages_of old) (λ was. IfSome (pages_of new) (Exchanges at to was))

-- A node of a store stands elsewhere: what the store tells of elements, marks and extents is the same.
pub record RelocatesNode (at : ℕ) (old new : Heap) (root root' to : ℕ) : Type 0 where
  pub elements : elements_told new root' ≡ elements_told old root
  pub marks : IfSome (elements_told old root) (λ _. MarksStay (mark_told old root) (mark_told new root'))
  pub extents : extents_in new ≡ extents_in old
  pub moves : MovesNodeTo at old new to

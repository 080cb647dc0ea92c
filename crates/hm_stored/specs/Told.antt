-- What the store of a volume tells, by its space and the root of its tree, and what its calls make of that.
use Rattle.std.specs.Prelude.{◌≡◌, Bool, true, false, ℕ, List, Option, Some, Result, Ok, Err, IfSome, IsSomeAnd, OnOk, option_map}
use Rattle.hm_types.specs.Elements.{FullElement, Key}
use Rattle.hm_types.specs.declared.fault.Fault.{Fault}
use Rattle.hm_types.specs.declared.fault.SpaceFault.{SpaceFault}
use Rattle.hm_types.specs.declared.fault.SpaceFault.TheVariants.{NoSpace, Fault as of_store}
use Rattle.hm_key.specs.Balance.{IsBalanced, content_of, full_elements}
use Rattle.hm_key.specs.declared.element.Element.{Element}
use Rattle.hm_btree.specs.Tree.{HoldsTree, told_elements, told_mark}
use Rattle.hm_stored.specs.Calls.{Stays}
use Rattle.hm_stored.specs.Heap.{Heap, begun_content, extents_in, frame_of, free_of, pages_of, room_of}

-- its elements
abbrev pub elements_told : Heap → ℕ → Option (List Element)
elements_told h root = told_elements true (pages_of h) root

-- its marks
abbrev pub mark_told : Heap → ℕ → Key → ℕ
mark_told h root = told_mark (pages_of h) root

-- the elements changed just so and the marks in this way, and the extents stayed
pub record ChangesElements (change : List Element → List Element) (Marked : (Key → ℕ) → (Key → ℕ) → Type 0) (old new : Heap) (root root' : ℕ) : Type 0 where
  pub elements : elements_told new root' ≡ option_map change (elements_told old root)
  pub mark : IfSome (elements_told old root) (λ _. Marked (mark_told old root) (mark_told new root'))
  pub extents : extents_in new ≡ extents_in old

-- What a call that writes made of the tree from a root on: it changed the elements so, or it failed, and nothing is told
-- any more. It spent so much at most.
pub record WritesTree (most : ℕ → ℕ) (change : List Element → List Element) (Marked : (Key → ℕ) → (Key → ℕ) → Type 0) (old new : Heap) (root root' : ℕ)
    (result : Result (Unit {0}) Fault) : Type 0 where
  pub tree : HoldsTree (pages_of new) root'
  pub ok : OnOk result (ChangesElements change Marked old new root root')
  pub stays : Stays most old new

-- a call that reads the tree from a root on left what is told
pub record ReadsTree (old new : Heap) (root root' : ℕ) : Type 0 where
  pub tree : HoldsTree (pages_of new) root'
  pub elements : elements_told new root' ≡ elements_told old root
  pub mark : mark_told new root' ≡ mark_told old root
  pub extents : extents_in new ≡ extents_in old
  pub room : room_of new ≡ room_of old
  pub free : free_of new ≡ free_of old
  pub frame : frame_of new ≡ frame_of old

-- whether a call on the room of zones changed nothing half-way: there is room, or none is to be had
abbrev pub is_settled : Result (Unit {0}) SpaceFault → Bool
is_settled (Ok x) = true
is_settled (Err (NoSpace free needed)) = true
is_settled (Err (of_store fault)) = false

-- As a call was opened, just these elements with their payloads are told, and they are those that a dropped call brings
-- back.
pub record Tells (h : Heap) (root : ℕ) (es : List FullElement) : Type 0 where
  pub lists : IsSomeAnd (content_of (elements_told h root) (extents_in h)) (λ lists. IsBalanced lists.0 lists.1 × (full_elements lists.0 lists.1 ≡ es))
  pub begun : begun_content h ≡ Some es

-- What a space tells of what it held, as a call is opened, and what it holds once the call is closed.
use Rattle.std.specs.Prelude.{◌≡◌, ℕ, true, List, Some, IfSome, IsTrue}
use Rattle.hm_types.specs.Elements.{FullElement}
use Rattle.hm_btree.specs.Tree.{HoldsTree, IsTreeSpace, told_elements}
use Rattle.hm_key.specs.Balance.{IsBalanced, content_of, full_elements}
use Rattle.hm_key.specs.Extents.{Extent}
use Rattle.hm_key.specs.declared.element.Element.{Element}
use Rattle.hm_stored.specs.Basis.{nodes}
use Rattle.hm_stored.specs.Heap.{Heap, begun_content, does_tell, extents_in, pages_of}
use Rattle.hm_stored.specs.Known.{is_known}
use Rattle.hm_stored.specs.Standing.{Holds}

-- a fact of the elements of the tree from a root on and of the extents, where a space tells them
abbrev pub OfLists : Heap → ℕ → (List Element → List Extent → Type 0) → Type 0
OfLists h root P = IfSome (content_of (told_elements true (pages_of h) root) (extents_in h)) (λ lists. P lists.0 lists.1)

-- these elements with their payloads, balanced
pub record HaveContent (es : List FullElement) (elements : List Element) (extents : List Extent) : Type 0 where
  pub balanced : IsBalanced elements extents
  pub fulls : full_elements elements extents ≡ es

-- A space tells these elements as those of the call's beginning, and its tree from a root on and its extents have them.
pub record TellsContent (h : Heap) (root : ℕ) (es : List FullElement) : Type 0 where
  pub content : begun_content h ≡ Some es
  pub tells : IsTrue (does_tell h)
  pub tree : IsTreeSpace (nodes h.pages.current) root
  pub lists : OfLists h root (HaveContent es)

-- what a space held is told once a call was opened over that tree, where the ids are known
abbrev pub OpensContent : ℕ → ℕ → Heap → Heap → Type 0
OpensContent root last old new = (es : List FullElement) → Holds old root es → IsTrue (is_known last es) → TellsContent new root es

-- what the call told of the content at its beginning is held once it was dropped
abbrev pub DropsContent : Heap → Heap → Type 0
DropsContent old new = IfSome (begun_content old) (λ es. Holds new old.roots.current es)

-- what the call told of its tree and its extents is held once it was kept, where they are balanced
abbrev pub KeepsContent : Heap → Heap → Type 0
KeepsContent old new = (root : ℕ) → HoldsTree (pages_of old) root
    → OfLists old root (λ elements extents. IsBalanced elements extents → Holds new root (full_elements elements extents))

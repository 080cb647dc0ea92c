-- What a space of a volume holds between two calls.
use Rattle.std.specs.Prelude.{◌≡◌, ℕ, List, IsSomeAnd}
use Rattle.hm_types.specs.Elements.{FullElement}
use Rattle.hm_stored.specs.Basis.{Basis, IsFirm, fulls_in}
use Rattle.hm_stored.specs.Heap.{Heap, maps_of}

-- its state as it is now, with the tree that begins at a root
abbrev pub basis_now : Heap → ℕ → Basis
basis_now h root = record {
  bigblocks = h.bigblocks;
  append = h.append;
  maps = maps_of h;
  roots = record h.roots { current = root };
}

-- its books are in order, and its tree has these elements, with their payloads as bytes of a volume hold them
pub record HoldsBy (h : Heap) (root : ℕ) (bytes : List ℕ) (es : List FullElement) : Type 0 where
  pub firm : IsFirm (basis_now h root)
  pub elements : fulls_in (basis_now h root) bytes ≡ es

-- the same, as its disk tells them
abbrev pub Holds : Heap → ℕ → List FullElement → Type 0
Holds h root es = IsSomeAnd h.disk (λ t. HoldsBy h root t.bytes es)

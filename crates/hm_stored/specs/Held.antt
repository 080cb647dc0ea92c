-- What always holds of a space.
use Rattle.std.specs.Prelude.{◌≡◌, ◌⊎◌, ℕ, ◌+◌, ◌*◌, ◌^◌, ◌<◌, ◌≤◌, Bool, ◌&&◌, false, nat_eq, List, Option, None, Some, if◌then◌else◌, is_some, length, map}
use Rattle.std.specs.Prelude.{All, IfSome, IsSome, IsTrue, count_by, pos, ◌<ℤ◌, slice_index, true}
use Rattle.hm_types.specs.Offset.{zone_of}
use Rattle.hm_types.specs.References.{IsPlaced, Reference, References}
use Rattle.hm_types.specs.Space.{rounded}
use Rattle.hm_types.specs.declared.limits.TheConstants.{BIGBLOCK_BYTES, PAGE_BYTES}
use Rattle.hm_types.specs.declared.zone.TheConstants.{TREE_ZONE}
use Rattle.hm_fields.specs.Pages.{PageMap}
use Rattle.hm_key.specs.Extents.{AreExtents, Extent, extent_at}
use Rattle.hm_node.specs.Inner.{IsNodeOffset}
use Rattle.hm_node.specs.Shape.{HoldsNode}
use Rattle.hm_freemap.specs.Extents.{is_extent, reference}
use Rattle.hm_freemap.specs.Places.{IsPageOf}
use Rattle.hm_header.specs.Range.{IsRoot}
use Rattle.hm_undo.specs.Entry.{IsUndoPageOf}
use Rattle.hm_image.specs.Referred.{references_of}
use Rattle.hm_pages.specs.Store.{Store}
use Rattle.hm_freemap.specs.Stand.{IsBelow, StandBy, entry_of, home_of}
use Rattle.hm_stored.specs.Basis.{AreFixed, Basis, nodes, states_of}
use Rattle.hm_stored.specs.Heap.{Heap, basis_with, bytes_of, does_hold, does_tell, maps_of, places_in}
use Rattle.hm_stored.specs.Log.{filled}

-- how many references there are to so many bytes at an offset: a node's page is referred to once
abbrev pub expected : PageMap → List Extent → ℕ → ℕ → ℕ
expected pages xs at len =
    (if nat_eq (rounded len) PAGE_BYTES && is_some (pages at) then 1 else 0) + references_of len (extent_at at xs)

-- what three states refer to, with another list for the current one
abbrev pub with_refs : List Reference → References → References
with_refs refs states = record states { current = refs }

-- The books of a space that tells are in order at each moment of the open call: the freemap stands for what the
-- committed and the frozen tree refer to and for these references, which are as many as nodes and extents have; entries
-- outside the pool are as they must be.
pub record HeldBy (h : Heap) (b : Basis) (refs : List Reference) : Type 0 where
  pub stand : StandBy h.bigblocks h.append (maps_of h) (with_refs refs (states_of b))
  pub counted : (at len : ℕ) → count_by (is_extent (reference at len)) refs ≡ expected (nodes h.pages.current) (places_in h) at len
  pub extents : AreExtents (map (filled (bytes_of h.disk)) (places_in h))
  pub fixed : AreFixed h.bigblocks h.pages.current

-- bytes of the big-block of a reference are in use by its entry
abbrev pub IsInUse : PageMap → Reference → Type 0
IsInUse pages r = (entry_of pages (home_of r)).bytes_free <ℤ pos BIGBLOCK_BYTES

-- What the tree referred to as the call began lies below what zones append next, and no zone begins its big-block until
-- the call gives something back.
pub record IsSafe (h : Heap) (b : Basis) : Type 0 where
  pub placed : All (IsPlaced h.bigblocks) (states_of b).current
  pub below : All (IsBelow h.pages.current) (states_of b).current
  pub used : h.gave ≡ false → All (IsInUse h.pages.current) (states_of b).current

-- the same, where the books were in order then
abbrev pub Safe : Heap → Type 0
Safe h = IsTrue (does_hold h) → IfSome h.pages.begin (λ begin. IsSafe h (basis_with h begin))

-- the same, where the space tells
abbrev pub Held : Heap → Type 0
Held h = IsTrue (does_tell h) → IfSome h.pages.begin (λ begin. (refs : List Reference) × HeldBy h (basis_with h begin) refs)

-- Each page of the tree's zone stands at an offset, and holds a node where one may stand.
abbrev pub AreNodes : PageMap → Type 0
AreNodes pages = (at : ℕ) → IfSome (nodes pages at) (λ bytes. (at < 2 ^ 64) × (IsNodeOffset at → HoldsNode bytes))

-- What always holds of a space: its pages are nodes, as they were when the open call began, its disk has the size of
-- the volume, and its books are in order.
pub record IsKept (h : Heap) : Type 0 where
  pub nodes : IsTrue h.whole → AreNodes h.pages.current
  pub begun : IfSome h.pages.begin AreNodes
  pub size : IfSome h.disk (λ t. h.bigblocks * BIGBLOCK_BYTES ≤ length t.bytes)
  pub safe : Safe h
  pub held : Held h

-- each page of a map is a node, or has entries of layer 2 for big-blocks of a volume of so many
abbrev pub AreOnlyOf : ℕ → PageMap → Type 0
AreOnlyOf bigblocks pages = (at : ℕ) → IsSome (pages at) → (zone_of at ≡ TREE_ZONE) ⊎ IsPageOf bigblocks at

-- each page of a space is a node, or has entries of layer 2 for big-blocks of its volume
abbrev pub AreOfVolume : Heap → Type 0
AreOfVolume h = AreOnlyOf h.bigblocks h.pages.current

-- Each page that the open call or the group changed stands where an entry of the UNDO log may name it: in the pool, or in layer 2.
-- So does each frozen one.
pub record ArePlaced (bigblocks : ℕ) (s : Store) : Type 0 where
  pub call : (at : ℕ) → s.call.changed at ≡ true → IsUndoPageOf bigblocks at
  pub group : (at : ℕ) → s.group.changed at ≡ true → IsUndoPageOf bigblocks at
  pub frozen : (i : ℕ) → i < length s.frozen_group → IsUndoPageOf bigblocks (slice_index s.frozen_group i)

-- What always holds of the pages of a space beside: they are of its volume, and were when the open call began, and those that
-- changed stand where they may.
pub record IsOfVolume (h : Heap) : Type 0 where
  pub only : AreOfVolume h
  pub begun : IfSome h.pages.begin (AreOnlyOf h.bigblocks)
  pub placed : ArePlaced h.bigblocks h.pages

-- Where the tree of a store begins, and whether a call is open. Without one, its root stands where the next header may name it;
-- and while one is open, so does the root to which dropping it leads.
pub record IsRooted (opened : Bool) (h : Heap) (root : ℕ) : Type 0 where
  pub opened_is : is_some h.pages.begin ≡ opened
  pub root_is : opened ≡ false → IsRoot h.bigblocks root
  pub begun : opened ≡ true → IsRoot h.bigblocks h.roots.current

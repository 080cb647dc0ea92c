-- What the calls of a space of nodes do to its pages.
use Rattle.std.specs.Prelude.{◌≡◌, ℕ, ◌+◌, ◌==◌, ◌<◌, ◌^◌, Bool, true, false, List, Option, None, if◌then◌else◌}
use Rattle.hm_types.specs.Offset.{byte_of}
use Rattle.hm_types.specs.Space.{in_zone}
use Rattle.hm_types.specs.Told.{BothTell}
use Rattle.hm_types.specs.declared.zone.TheConstants.{TREE_ZONE}
use Rattle.hm_fields.specs.Pages.{PageMap, HasPut}
use Rattle.hm_key.specs.Extents.{Extent}
use Rattle.hm_node.specs.Inner.{IsNodeOffset}
use Rattle.hm_node.specs.Node.{Spells}
use Rattle.hm_node.specs.declared.node.Node.{Node}
use Rattle.hm_btree.specs.declared.space.TheConstants.{NODE_BYTES}

-- a map had no page at the offset, and now has this one there; it is as before elsewhere
pub record HasNew (at : ℕ) (bytes : List ℕ) (old new : PageMap) : Type 0 where
  pub free : old at ≡ None
  pub put : HasPut at bytes old new

-- a map has no page at the offset, and is as before elsewhere
abbrev pub HasLost : ℕ → PageMap → PageMap → Type 0
HasLost at old new = (other : ℕ) → new other ≡ (if other == at then None else old other)

-- a node was written to the page at the offset
abbrev pub HasWritten : ℕ → Node → PageMap → PageMap → Type 0
HasWritten at node old new = (page : List ℕ) × Spells page node × HasPut at page old new

-- a node was written to the page at the offset where it changed, and else the pages stay
abbrev pub IsUpdated : Bool → ℕ → Node → PageMap → PageMap → Type 0
IsUpdated true at node old new = HasWritten at node old new
IsUpdated false at node old new = new ≡ old

-- a node was written to a page at an offset that had none
abbrev pub HasAdded : ℕ → Node → PageMap → PageMap → Type 0
HasAdded at node old new = (page : List ℕ) × Spells page node × HasNew at page old new

-- an offset at which a space of nodes may have a page: a multiple of 4,096 below 2^43, in zone 8
pub record IsSpot (at : ℕ) : Type 0 where
  pub node : IsNodeOffset at
  pub below : byte_of at < 2 ^ 43

-- a node was added at an offset where one may stand, to pages that may be told, and the extents are the same
pub record AddsNode {S : Type 0} (pages_of : S → Option PageMap) (extents_of : S → Option (List Extent)) (node : Node)
    (old new : S) (at : ℕ) : Type 0 where
  pub told : BothTell (pages_of old) (pages_of new) (HasAdded at node)
  pub spot : IsSpot at
  pub extents : extents_of new ≡ extents_of old

-- A page was put at an offset that had none, where a node may stand, to pages that may be told. It took its room in
-- zone 8, and the extents are the same.
pub record PutsNew {S : Type 0} (pages_of : S → Option PageMap) (room_of : S → ℕ → ℕ) (extents_of : S → Option (List Extent))
    (bytes : List ℕ) (old new : S) (at : ℕ) : Type 0 where
  pub told : BothTell (pages_of old) (pages_of new) (HasNew at bytes)
  pub spot : IsSpot at
  pub room : (zone : ℕ) → room_of new zone + in_zone TREE_ZONE NODE_BYTES zone ≡ room_of old zone
  pub extents : extents_of new ≡ extents_of old

-- Nodes in a store of pages: what is known of each, and how one comes and goes.
use Rattle.std.specs.Prelude.{◌≡◌, ◌≢◌, ◌⊎◌, ℕ, Bool, true, ◌&&◌, not, List, None, Some, is_some}
use Rattle.hm_types.specs.Offset.{zone_of}
use Rattle.hm_types.specs.Space.{rounded}
use Rattle.hm_types.specs.declared.zone.TheConstants.{TREE_ZONE}
use Rattle.hm_fields.specs.Pages.{PageMap}
use Rattle.hm_freemap.specs.Change.{given}
use Rattle.hm_freemap.specs.Extents.{Changes, IsReferred, Takes, reference, unreferred}
use Rattle.hm_freemap.specs.Stand.{Maps}
use Rattle.hm_header.specs.Range.{IsRoot}
use Rattle.hm_node.specs.Inner.{IsNodeOffset}
use Rattle.hm_node.specs.Shape.{HoldsNode}
use Rattle.hm_pages.specs.Maps.{set_at}
use Rattle.hm_pages.specs.Sets.{ChangeSet, in_freemap}
use Rattle.hm_pages.specs.Store.{Store}
use Rattle.hm_btree.specs.declared.space.TheConstants.{NODE_BYTES}

-- where a node may stand, a page holds one
pub record KeepsNodes (at : ℕ) (bytes : List ℕ) : Type 0 where
  pub node : IsNodeOffset at → HoldsNode bytes

-- what no call on the freemap alters: at which offsets a page stands, and which offsets beside the freemap's pages the open call
-- and the group changed
pub record Spots : Type 0 where
  pub there : ℕ → Bool
  pub call : ℕ → Bool
  pub group : ℕ → Bool

-- which changed offsets have no page of the freemap
abbrev pub beside_freemap : PageMap → ChangeSet → ℕ → Bool
beside_freemap pages set at = set.changed at && not (in_freemap at && is_some (pages at))

abbrev pub spots : Store → Spots
spots s = record {
  there = λ at. is_some (s.current at);
  call = beside_freemap s.current s.call;
  group = beside_freemap s.current s.group;
}

-- each changed offset was so before, or is one at which a page of the tree may stand
abbrev pub AddsPlaces : ℕ → (ℕ → Bool) → (ℕ → Bool) → Type 0
AddsPlaces bigblocks old new = (at : ℕ) → new at ≡ true → (old at ≡ true) ⊎ IsRoot bigblocks at

-- pages came and went in the zone of nodes alone, where one of the tree may stand
pub record MovesNodes (bigblocks : ℕ) (old new : Spots) : Type 0 where
  pub there : (at : ℕ) → zone_of at ≢ TREE_ZONE → new.there at ≡ old.there at
  pub call : AddsPlaces bigblocks old.call new.call
  pub group : AddsPlaces bigblocks old.group new.group

-- the maps of a store of pages
abbrev pub maps_in : Store → Maps
maps_in s = record { committed = s.committed; frozen = s.frozen; current = s.current }

-- the extent of a node was taken, and its page put there
pub record AddsNode (bigblocks : ℕ) (append : List ℕ) (page : List ℕ) (at : ℕ) (old new : Store) : Type 0 where
  pub now : PageMap
  pub takes : Takes bigblocks append TREE_ZONE NODE_BYTES at (maps_in old) now
  pub spot : IsNodeOffset at
  pub put : new.current ≡ set_at at (Some page) now

-- the extent of a node was given back, and its page taken out
pub record DropsNode (bigblocks : ℕ) (append : List ℕ) (at : ℕ) (old new : Store) : Type 0 where
  pub now : PageMap
  pub gives : Changes bigblocks append (reference at NODE_BYTES) (IsReferred (reference at NODE_BYTES))
      (unreferred (reference at NODE_BYTES)) (given (rounded NODE_BYTES)) (maps_in old) now
  pub put : new.current ≡ set_at at None now

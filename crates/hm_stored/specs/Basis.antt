-- What a space of a volume is told by: its state as the open call began.
use Rattle.std.specs.Prelude.{ℕ, ◌*◌, ◌==◌, ◌<◌, List, None, if◌then◌else◌, map, nat_eq, nat_lt, All, IfSome}
use Rattle.hm_types.specs.Elements.{FullElement}
use Rattle.hm_types.specs.Layout.{IsPool, blocks_per_layer2, first_pool, first_undo, layer2_blocks}
use Rattle.hm_types.specs.Offset.{zone_of}
use Rattle.hm_types.specs.References.{Reference, References}
use Rattle.hm_types.specs.declared.zone.TheConstants.{FREEMAP_ZONE, TREE_ZONE, UNAVAILABLE_ZONE, UNDO_ZONE, VOLUME_ZONE}
use Rattle.hm_fields.specs.Pages.{PageMap}
use Rattle.hm_key.specs.declared.element.Element.{Element}
use Rattle.hm_search.specs.Tree.{elements_of}
use Rattle.hm_btree.specs.Tree.{IsTreeSpace}
use Rattle.hm_freemap.specs.Entry.{SpellsEntry}
use Rattle.hm_freemap.specs.Fresh.{reserved_entry}
use Rattle.hm_freemap.specs.Places.{page_of, place_of}
use Rattle.hm_freemap.specs.Stand.{Maps, StandBy}
use Rattle.hm_freemap.specs.declared.entry.Entry.{Entry}
use Rattle.hm_image.specs.Image.{full_of, references_from}
use Rattle.hm_image.specs.Sound.{IsAmongPayloads}
use Rattle.hm_stored.specs.declared.roots.Roots.{Roots}

-- the pages of a map that are nodes
abbrev pub nodes : PageMap → PageMap
nodes pages at = if zone_of at == TREE_ZONE then pages at else None

-- what the tree from a root on refers to
abbrev pub refers : PageMap → ℕ → List Reference
refers pages root = references_from (nodes pages) root

-- a volume in its three states: how many big-blocks it has, which of them its zones append to, its pages, and its trees
pub record Basis : Type 0 where
  pub bigblocks : ℕ
  pub append : List ℕ
  pub maps : Maps
  pub roots : Roots

-- what the three trees refer to
abbrev pub states_of : Basis → References
states_of b = record {
  committed = refers b.maps.committed b.roots.committed;
  frozen = refers b.maps.frozen b.roots.frozen;
  current = refers b.maps.current b.roots.current;
}

-- the elements of the current tree
abbrev pub elements_in : Basis → List Element
elements_in b = elements_of (nodes b.maps.current) b.roots.current

-- the same with their payloads, as these bytes of a volume hold them
abbrev pub fulls_in : Basis → List ℕ → List FullElement
fulls_in b bytes = map (full_of bytes) (elements_in b)

-- the entry of a big-block outside the pool: of the header slots, of the freemap, of the UNDO log, or past the volume
abbrev pub entry_outside : ℕ → ℕ → Entry
entry_outside bigblocks block = reserved_entry
    (if nat_eq block 0 then VOLUME_ZONE else
    (if nat_lt block (first_undo bigblocks) then FREEMAP_ZONE else
    (if nat_lt block (first_pool bigblocks) then UNDO_ZONE else UNAVAILABLE_ZONE)))

-- the pages of layer 2 that are there have these entries for the big-blocks outside the pool
abbrev pub AreFixed : ℕ → PageMap → Type 0
AreFixed bigblocks pages =
    (block : ℕ) → block < layer2_blocks bigblocks * blocks_per_layer2 → ¬ IsPool bigblocks block
    → IfSome (pages (page_of block)) (λ page. SpellsEntry page (place_of block) (entry_outside bigblocks block))

-- The books of a volume are in order: its tree is sound and alone in its pages, the freemap stands for what the three
-- trees refer to, payloads stand in zones of payloads, and entries outside the pool are as they must be.
pub record IsFirm (b : Basis) : Type 0 where
  pub tree : IsTreeSpace (nodes b.maps.current) b.roots.current
  pub stand : StandBy b.bigblocks b.append b.maps (states_of b)
  pub zones : All IsAmongPayloads (elements_in b)
  pub fixed : AreFixed b.bigblocks b.maps.current

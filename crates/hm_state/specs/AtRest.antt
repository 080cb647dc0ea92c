-- A state of a volume by itself: the one that a header and a map of pages make, with nothing beside it in use.
use Rattle.std.specs.Prelude.{◌≡◌, ℕ, ◌*◌, ◌<◌, ◌≤◌, true, false, List, [], Option, None, Some, length}
use Rattle.hm_types.specs.Layout.{blocks_per_layer2, layer2_blocks, start_of}
use Rattle.hm_disk.specs.Crash.{Told}
use Rattle.hm_fields.specs.Pages.{PageMap}
use Rattle.hm_freemap.specs.Places.{page_of}
use Rattle.hm_header.specs.declared.header.Header.{Header}
use Rattle.hm_image.specs.Sound.{HasEntry, HasLayer1}
use Rattle.hm_model.specs.Volume.{Volume}
use Rattle.hm_pages.specs.Store.{empty_store}
use Rattle.hm_stored.specs.Basis.{entry_outside}
use Rattle.hm_stored.specs.Heap.{Heap}
use Rattle.hm_state.specs.Volume.{HoldsVolume}
use Rattle.hm_state.specs.Written.{HasSamePayloads}

-- a space with these pages in each of its states, by this header, over a disk
abbrev pub at_rest : Option Told → Header → PageMap → Heap
at_rest disk header map = record {
  pages = record empty_store { committed = map; frozen = map; current = map };
  disk = disk;
  bigblocks = header.bigblocks;
  begun = header.append;
  append = header.append;
  roots = record { committed = header.root; frozen = header.root; current = header.root };
  last = header.last.0;
  log = [];
  gave = false;
  whole = true;
}

-- the state holds a volume, with the payloads that a disk tells
abbrev pub HoldsAtRest : Told → Header → PageMap → Volume → Type 0
HoldsAtRest t header map volume = HoldsVolume (at_rest (Some t) header map) header.root header.last.0 volume

-- The bytes of an image have all of such a state but the pages of its map: layer 1, the entries of layer 2 that no page of the
-- map has, and the payloads that a disk tells.
pub record HasBeside (t : Told) (header : Header) (map : PageMap) (image : List ℕ) : Type 0 where
  pub size : start_of header.bigblocks ≤ length image
  pub layer1 : HasLayer1 image header.bigblocks
  pub past : (block : ℕ) → block < layer2_blocks header.bigblocks * blocks_per_layer2 → map (page_of block) ≡ None
      → HasEntry image block (entry_outside header.bigblocks block)
  pub payloads : HasSamePayloads (at_rest (Some t) header map) header.root t.bytes image

-- When the freemap of a volume stands for what the trees of three states refer to.
use Rattle.std.specs.Prelude.{◌≡◌, ◌≢◌, ℕ, ◌+◌, ◌-◌, ◌<◌, ◌≤◌, Bool, ◌&&◌, not, nat_le, nat_eq, if◌then◌else◌, false, List, ◌++◌, length, slice_index, slice_range, Option, None, Some, IfSome, All, ℤ, pos, negsuc, ◌+ℤ◌, count_by}
use Rattle.hm_types.specs.Layout.{IsPool, block_of, start_of}
use Rattle.hm_types.specs.Offset.{zone_of}
use Rattle.hm_types.specs.References.{Reference, References, IsPlaced, NoneOverlap, AreFew, begin_of, end_of, live_bytes, is_append, pool}
use Rattle.hm_types.specs.declared.limits.TheConstants.{BIGBLOCK_BYTES}
use Rattle.hm_types.specs.declared.zone.TheConstants.{TREE_ZONE, SMALL_ZONE}
use Rattle.hm_fields.specs.Fields.{get}
use Rattle.hm_fields.specs.Pages.{PageMap, page_in}
use Rattle.hm_freemap.specs.Entry.{entry_in, IsPoolEntry}
use Rattle.hm_freemap.specs.Places.{page_of, place_of}
use Rattle.hm_freemap.specs.declared.entry.Entry.{Entry}

-- the maps of pages of the three states
pub record Maps : Type 0 where
  pub committed : PageMap
  pub frozen : PageMap
  pub current : PageMap

-- a fact of the three, where they are told
abbrev pub WhereTold : Option PageMap → Option PageMap → Option PageMap → (Maps → Type 0) → Type 0
WhereTold committed frozen current P =
    IfSome committed (λ c. IfSome frozen (λ f. IfSome current (λ u. P (record { committed = c; frozen = f; current = u }))))

-- the bytes of the page with the entry of a big-block
abbrev pub entry_page : PageMap → ℕ → List ℕ
entry_page map block = page_in (map (page_of block))

-- the entry of a big-block in a map, whether or not it keeps any rule
abbrev pub entry_of : PageMap → ℕ → Entry
entry_of map block = entry_in (entry_page map block) (place_of block)

-- a page has an entry for a big-block of the pool, and zeros after it
pub record HoldsPoolEntry (page : List ℕ) (block : ℕ) : Type 0 where
  pub entry : IsPoolEntry (entry_in page (place_of block))
  pub zero : get page (place_of block + 12) 4 ≡ 0

-- the entry of a big-block tells the space that these references leave free
pub record TellsBlock (map : PageMap) (refs : List Reference) (block : ℕ) : Type 0 where
  pub entry : HoldsPoolEntry (entry_page map block) block
  pub free : (entry_of map block).bytes_free +ℤ pos (live_bytes refs block) ≡ pos BIGBLOCK_BYTES

-- each big-block of the pool has such an entry
abbrev pub Tells : ℕ → PageMap → List Reference → Type 0
Tells bigblocks map refs = (block : ℕ) → IsPool bigblocks block → TellsBlock map refs block

-- the big-block in which a reference begins
abbrev pub home_of : Reference → ℕ
home_of r = block_of (begin_of r)

-- the big-block of a reference belongs to its zone, and is filled beyond its end
pub record IsBelow (current : PageMap) (r : Reference) : Type 0 where
  pub zone : (entry_of current (home_of r)).zone ≡ zone_of r.at
  pub end : end_of r ≤ start_of (home_of r) + (entry_of current (home_of r)).append_off

-- the append big-blocks are of the pool
abbrev pub AreOfPool : ℕ → List ℕ → Type 0
AreOfPool bigblocks append = (k : ℕ) → k < 4 → IsPool bigblocks (slice_index append k)

-- they are four of the pool, each of its own zone
pub record AreAppended (bigblocks : ℕ) (append : List ℕ) (current : PageMap) : Type 0 where
  pub four : length append ≡ 4
  pub pool : AreOfPool bigblocks append
  pub zone : (k : ℕ) → k < 4 → (entry_of current (slice_index append k)).zone ≡ TREE_ZONE + k

-- what any of the three states refers to
abbrev pub all_of : References → List Reference
all_of states = states.current ++ (states.frozen ++ states.committed)

-- The freemap stands for what three states refer to: each map tells the space that its state leaves free, and what is
-- appended next touches no extent of any of the three.
pub record StandBy (bigblocks : ℕ) (append : List ℕ) (maps : Maps) (states : References) : Type 0 where
  pub committed : Tells bigblocks maps.committed states.committed
  pub frozen : Tells bigblocks maps.frozen states.frozen
  pub current : Tells bigblocks maps.current states.current
  pub appended : AreAppended bigblocks append maps.current
  pub placed : All (IsPlaced bigblocks) (all_of states)
  pub below : All (IsBelow maps.current) (all_of states)
  pub apart : NoneOverlap (all_of states)
  pub few : AreFew states.committed × AreFew states.frozen × AreFew states.current

-- a zone that space is handed out in
abbrev pub is_handed_out : ℕ → Bool
is_handed_out zone = nat_le TREE_ZONE zone && nat_le zone SMALL_ZONE

-- the append big-block of a zone
abbrev pub append_of : List ℕ → ℕ → ℕ
append_of append zone = slice_index append (zone - TREE_ZONE)

-- how many bytes the append big-block of a zone has left
abbrev pub room_in : List ℕ → PageMap → ℕ → ℕ
room_in append current zone =
    if is_handed_out zone then BIGBLOCK_BYTES - (entry_of current (append_of append zone)).append_off else 0

-- the same, and a whole big-block where pages are not told
abbrev pub room : List ℕ → Option PageMap → ℕ → ℕ
room append None zone = if is_handed_out zone then BIGBLOCK_BYTES else 0
room append (Some current) zone = room_in append current zone

-- whether a number of free bytes is that of a whole big-block
abbrev pub is_whole_block : ℤ → Bool
is_whole_block (pos n) = nat_eq n BIGBLOCK_BYTES
is_whole_block (negsuc n) = false

-- whether all bytes of a big-block are free by the entry that a page has for it
abbrev pub is_clear_in : List ℕ → ℕ → Bool
is_clear_in page block = is_whole_block (entry_in page (place_of block)).bytes_free

-- whether a big-block is free by the entries that pages of the three states have for it
abbrev pub is_free_in : List ℕ → List ℕ → List ℕ → List ℕ → ℕ → Bool
is_free_in append committed frozen current block =
    not (is_append append block) && (is_clear_in committed block && (is_clear_in frozen block && is_clear_in current block))

-- whether it is free by the three maps
abbrev pub is_free_by : List ℕ → Maps → ℕ → Bool
is_free_by append maps block =
    is_free_in append (entry_page maps.committed block) (entry_page maps.frozen block) (entry_page maps.current block) block

-- how many big-blocks of the pool are free by the three maps
abbrev pub free_by : ℕ → List ℕ → Maps → ℕ
free_by bigblocks append maps = count_by (is_free_by append maps) (pool bigblocks)

-- the 16 bytes of the entry of a big-block in a map
abbrev pub entry_part : PageMap → ℕ → List ℕ
entry_part map block = slice_range (entry_page map block) (place_of block) (place_of block + 16)

-- an entry was put in place of that of a big-block, and all else stayed
pub record EntryPut (block : ℕ) (entry : Entry) (old new : PageMap) : Type 0 where
  pub put : entry_of new block ≡ entry
  pub zero : get (entry_page new block) (place_of block + 12) 4 ≡ 0
  pub others : (other : ℕ) → other ≢ block → entry_of new other ≡ entry_of old other
  pub zeros : (other : ℕ) → other ≢ block → get (entry_page new other) (place_of other + 12) 4 ≡ get (entry_page old other) (place_of other + 12) 4
  pub bytes : (other : ℕ) → other ≢ block → entry_part new other ≡ entry_part old other
  pub pages : (at : ℕ) → at ≢ page_of block → new at ≡ old at

-- the entry of a big-block became what this makes of it
abbrev pub EntryChanged : ℕ → (Entry → Entry) → PageMap → PageMap → Type 0
EntryChanged block next old new = EntryPut block (next (entry_of old block)) old new

-- no two of the append big-blocks are one
abbrev pub AreDistinct : List ℕ → Type 0
AreDistinct append = (j k : ℕ) → j < 4 → k < 4 → slice_index append j ≡ slice_index append k → j ≡ k

-- the append big-blocks lie on the volume
abbrev pub AreBelow : ℕ → List ℕ → Type 0
AreBelow bigblocks append = (k : ℕ) → k < 4 → slice_index append k < bigblocks

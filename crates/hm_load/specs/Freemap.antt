-- Layer 2: what is asked of its entries, and which of its pages are loaded.
use Rattle.std.specs.Prelude.{◌≡◌, ℕ, ◌+◌, ◌*◌, ◌<◌, List, IsSome, Some, slice_index, slice_range}
use Rattle.hm_types.specs.Layout.{first_layer2, layer2_blocks, start_of}
use Rattle.hm_types.specs.declared.damage.TheConstants.{BAD_FREEMAP}
use Rattle.hm_types.specs.declared.limits.TheConstants.{PAGE_BYTES}
use Rattle.hm_types.specs.declared.zone.TheConstants.{TREE_ZONE, UNAVAILABLE_ZONE}
use Rattle.hm_fields.specs.Fields.{get}
use Rattle.hm_fields.specs.Pages.{PageMap}
use Rattle.hm_freemap.specs.Entry.{IsEntryOf, entry_in}
use Rattle.hm_freemap.specs.Places.{entries_per_page, page_of, place_of}
use Rattle.hm_header.specs.declared.header.Header.{Header}
use Rattle.hm_load.specs.Faults.{IsFirstBad}

-- a big-block may belong to a zone: where the header names it as the append big-block of one, it is of that zone
abbrev pub IsZoneOf : Header → ℕ → ℕ → Type 0
IsZoneOf header block zone = (k : ℕ) → k < 4 → slice_index header.append k ≡ block → zone ≡ TREE_ZONE + k

-- a page has an entry that may be that of a big-block, by this header: zeros stand after it, and the append big-block
-- of a zone is of that zone
pub record HoldsEntryOf (header : Header) (block : ℕ) (page : List ℕ) : Type 0 where
  pub entry : IsEntryOf header.bigblocks block (entry_in page (place_of block))
  pub zero : get page (place_of block + 12) 4 ≡ 0
  pub appended : IsZoneOf header block (entry_in page (place_of block)).zone

-- the entry in a place is that of a big-block past the end of the volume
pub record IsPastEntry (page : List ℕ) (at : ℕ) : Type 0 where
  pub zone : get page at 4 ≡ UNAVAILABLE_ZONE
  pub append : get page (at + 4) 4 ≡ 0
  pub free : get page (at + 8) 4 ≡ 0
  pub zero : get page (at + 12) 4 ≡ 0

-- each entry of the page of this number may be that of its big-block
abbrev pub HoldsEntries : Header → ℕ → List ℕ → Type 0
HoldsEntries header number page = (k : ℕ) → k < entries_per_page → HoldsEntryOf header (number * entries_per_page + k) page

-- how many pages layer 2 has
abbrev pub layer2_pages : ℕ → ℕ
layer2_pages bigblocks = layer2_blocks bigblocks * 2048

-- the offset of the page of this number
abbrev pub layer2_page : ℕ → ℕ
layer2_page number = page_of (number * entries_per_page)

-- the page that stands there, in the bytes of a volume
abbrev pub layer2_bytes : List ℕ → ℕ → List ℕ
layer2_bytes image number =
    slice_range image (start_of first_layer2 + number * PAGE_BYTES) (start_of first_layer2 + number * PAGE_BYTES + PAGE_BYTES)

-- the page so far from the first one of a piece
abbrev pub piece_page : List ℕ → ℕ → List ℕ
piece_page bytes k = slice_range bytes (k * PAGE_BYTES) (k * PAGE_BYTES + PAGE_BYTES)

-- the first damage of layer 2
pub record IsLayer2Damage (image : List ℕ) (header : Header) (at kind : ℕ) : Type 0 where
  pub number : ℕ
  pub low : number < layer2_pages header.bigblocks
  pub first : IsFirstBad (λ n. HoldsEntries header n (layer2_bytes image n)) number
  pub place : at ≡ layer2_page number
  pub told : kind ≡ BAD_FREEMAP

-- the first damage of a piece that begins with the page of this number
pub record IsPieceDamage (header : Header) (number : ℕ) (bytes : List ℕ) (at kind : ℕ) : Type 0 where
  pub k : ℕ
  pub low : k < 32
  pub first : IsFirstBad (λ j. HoldsEntries header (number + j) (piece_page bytes j)) k
  pub place : at ≡ layer2_page (number + k)
  pub told : kind ≡ BAD_FREEMAP

-- damage of one page
pub record IsPageDamage (header : Header) (number : ℕ) (page : List ℕ) (at kind : ℕ) : Type 0 where
  pub bad : HoldsEntries header number page → ⊥
  pub place : at ≡ layer2_page number
  pub told : kind ≡ BAD_FREEMAP

-- Of the first pages of layer 2, so many of them, those with entries of the volume's big-blocks are in a map, and no
-- other page.
pub record HoldsLayer2 (header : Header) (count : ℕ) (map : PageMap) : Type 0 where
  pub there : (number : ℕ) → number < count → number * entries_per_page < header.bigblocks → IsSome (map (layer2_page number))
  pub entries : (number : ℕ) (page : List ℕ) → map (layer2_page number) ≡ Some page → HoldsEntries header number page
  pub only : (at : ℕ) → IsSome (map at) → (number : ℕ) × (number < count) × (number * entries_per_page < header.bigblocks) × (at ≡ layer2_page number)

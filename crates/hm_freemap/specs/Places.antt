-- Where the entries of layer 2 stand. Its big-blocks follow one another, so its pages do, each with 256 entries.
use Rattle.std.specs.Prelude.{◌≡◌, ℕ, ◌+◌, ◌*◌, ◌/◌, ◌%◌, ◌<◌, Bool, IsTrue}
use Rattle.hm_types.specs.Layout.{first_layer2, start_of}
use Rattle.hm_types.specs.Offset.{raw_of}
use Rattle.hm_types.specs.declared.limits.TheConstants.{PAGE_BYTES}
use Rattle.hm_types.specs.declared.zone.TheConstants.{FREEMAP_ZONE}

-- how many entries a page of layer 2 has
abbrev pub entries_per_page : ℕ
entries_per_page = 256

-- the raw offset of the page with the entry of a big-block
unfoldable pub page_of : ℕ → ℕ
page_of block = raw_of FREEMAP_ZONE (start_of first_layer2 + block / entries_per_page * PAGE_BYTES)

-- where in that page it begins, in bytes
unfoldable pub place_of : ℕ → ℕ
place_of block = block % entries_per_page * 16

-- the offset of the page with an entry of one of so many big-blocks
abbrev pub IsPageOf : ℕ → ℕ → Type 0
IsPageOf bigblocks at = (block : ℕ) × (block < bigblocks) × (at ≡ page_of block)

-- at each page of layer 2 of so many big-blocks one stands
abbrev pub HasLayer2 : ℕ → (ℕ → Bool) → Type 0
HasLayer2 bigblocks layer2 = (block : ℕ) → block < bigblocks → IsTrue (layer2 (page_of block))

-- The pages of the freemap of a volume as it is made.
use Rattle.std.specs.Prelude.{◌≡◌, ℕ, ◌+◌, ◌*◌, ◌<◌, List, [], ◌∷◌, slice_range}
use Rattle.hm_types.specs.Layout.{first_layer2, layer2_blocks, start_of}
use Rattle.hm_types.specs.declared.limits.TheConstants.{PAGE_BYTES}
use Rattle.hm_fields.specs.Fields.{get}
use Rattle.hm_freemap.specs.Entry.{SpellsEntry}
use Rattle.hm_freemap.specs.Fresh.{HoldsFresh}
use Rattle.hm_freemap.specs.Layer1.{layer1_bytes, layer1_of}
use Rattle.hm_image.specs.Fresh.{fresh_entry}
use Rattle.hm_newfs.specs.declared.layer.Layer.{Layer}
use Rattle.hm_newfs.specs.declared.layer.Layer.TheVariants.{First, Second}
use Rattle.hm_newfs.specs.declared.layer.TheConstants.{ENTRIES_PER_PAGE, OFFSETS_PER_PAGE}
use Rattle.hm_newfs.specs.declared.tree.TheConstants.{PAYLOAD_BYTES}

-- how many bytes are live in the first four big-blocks of the pool
abbrev pub taken_at_first : List ℕ
taken_at_first = PAGE_BYTES ∷ PAYLOAD_BYTES ∷ 0 ∷ 0 ∷ []

-- so many entries of layer 1 are in a page, from this one on
pub record HoldsOffsets (bigblocks first many : ℕ) (page : List ℕ) : Type 0 where
  pub offset : (i : ℕ) → i < many → get page (i * 32) 8 ≡ layer1_of bigblocks (first + i)
  pub zero : (i : ℕ) → i < many
      → (get page (i * 32 + 8) 8 ≡ 0) × (get page (i * 32 + 16) 8 ≡ 0) × (get page (i * 32 + 24) 8 ≡ 0)

-- the fields of this page of a layer are in a page
abbrev pub HoldsLayerPage : ℕ → Layer → ℕ → List ℕ → Type 0
HoldsLayerPage bigblocks First number page = HoldsOffsets bigblocks (number * OFFSETS_PER_PAGE) OFFSETS_PER_PAGE page
HoldsLayerPage bigblocks Second number page = HoldsFresh bigblocks taken_at_first (number * ENTRIES_PER_PAGE) ENTRIES_PER_PAGE page

-- these are the bytes of this page of a layer
abbrev pub HasPage : ℕ → Layer → ℕ → List ℕ → Type 0
HasPage bigblocks First number page =
    (i : ℕ) → i < OFFSETS_PER_PAGE
    → slice_range page (i * 32) (i * 32 + 32) ≡ layer1_bytes (layer1_of bigblocks (number * OFFSETS_PER_PAGE + i))
HasPage bigblocks Second number page =
    (i : ℕ) → i < ENTRIES_PER_PAGE → SpellsEntry page (i * 16) (fresh_entry bigblocks (number * ENTRIES_PER_PAGE + i))

-- each of so many pages that follow one another from a byte on has what one of its number is to have
abbrev pub HasPages : (ℕ → List ℕ → Type 0) → ℕ → ℕ → List ℕ → Type 0
HasPages Has from count bytes =
    (k : ℕ) → k < count → Has k (slice_range bytes (from + k * PAGE_BYTES) (from + k * PAGE_BYTES + PAGE_BYTES))

-- how many big-blocks a layer has
abbrev pub layer_blocks : ℕ → Layer → ℕ
layer_blocks bigblocks First = 1
layer_blocks bigblocks Second = layer2_blocks bigblocks

-- where it begins, and its size, in bytes
abbrev pub layer_start : Layer → ℕ
layer_start First = start_of 1
layer_start Second = start_of first_layer2

abbrev pub layer_bytes : ℕ → Layer → ℕ
layer_bytes bigblocks layer = start_of (layer_blocks bigblocks layer)

-- the whole layer is there
abbrev pub HasLayer : ℕ → Layer → List ℕ → Type 0
HasLayer bigblocks layer bytes =
    HasPages (HasPage bigblocks layer) (layer_start layer) (layer_blocks bigblocks layer * 2048) bytes

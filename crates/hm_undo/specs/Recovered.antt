-- What an image recovers to.
use Rattle.std.specs.Prelude.{◌≡◌, ◌⊎◌, ℕ, ◌+◌, ◌-◌, ◌%◌, ◌^◌, ◌<◌, List, [], ◌∷◌, ◌++◌}
use Rattle.hm_disk.specs.Disk.{overwritten}
use Rattle.hm_header.specs.declared.header.Header.{Header}
use Rattle.hm_header.specs.declared.header.TheConstants.{GATE_OPEN}
use Rattle.hm_header.specs.Layout.{body_of}
use Rattle.hm_header.specs.OnDisk.{HasHeader, slot_place}
use Rattle.hm_undo.specs.Range.{HasRange, OldPage, put_back}

-- the image with this header in the slot of this number, under an open gate
abbrev pub with_slot : List ℕ → ℕ → Header → List ℕ
with_slot image number header = overwritten image (slot_place number) (body_of header ++ GATE_OPEN ∷ [])

-- the header after recovery: the next one, with the same fields but for the range, of which nothing is left
abbrev pub recovered_header : Header → Header
recovered_header header = record header { generation = (header.generation + 1) % 2 ^ 64; undo_count = 0 }

-- The range that a header of this slot names is undone: the old pages are put back, and the next header stands in
-- the other slot.
pub record IsRangeUndone (image : List ℕ) (header : Header) (slot : ℕ) (result : List ℕ) : Type 0 where
  pub olds : List OldPage
  pub some : 0 < header.undo_count
  pub range : HasRange image header olds
  pub result_is : result ≡ with_slot (put_back image olds) (1 - slot) (recovered_header header)

-- An image recovers to this one: to itself where the header that counts names no range, and else to the image in
-- which this range is undone. One whose range is damaged recovers to none, and so does one without a header.
pub record RecoversTo (image result : List ℕ) : Type 0 where
  pub header : Header
  pub slot : ℕ
  pub counts : HasHeader image header slot
  pub how : ((header.undo_count ≡ 0) × (result ≡ image)) ⊎ IsRangeUndone image header slot result

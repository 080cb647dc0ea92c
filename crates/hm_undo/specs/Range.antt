-- The range of entries that a header names, and what is put back by it. An image is a list of any numbers.
use Rattle.std.specs.Prelude.{◌≡◌, ℕ, ◌+◌, ◌≤◌, List, [], ◌∷◌, length, slice_range, slice_get, IfSome}
use Rattle.std.specs.List.{AllByRecursion}
use Rattle.hm_types.specs.declared.limits.TheConstants.{UNDO_ENTRY_BYTES}
use Rattle.hm_types.specs.Offset.{byte_of}
use Rattle.hm_disk.specs.Disk.{overwritten}
use Rattle.hm_header.specs.declared.header.Header.{Header}
use Rattle.hm_undo.specs.Entry.{IsUndoPageOf, SpellsUndoEntry}
use Rattle.hm_undo.specs.Log.{entry_at, entry_place}

-- the old bytes of a page, and the raw offset where it stands
pub record OldPage : Type 0 where
  pub at : ℕ
  pub bytes : List ℕ

-- the bytes of an entry in an image, on a volume of so many big-blocks
abbrev pub undo_entry_in : List ℕ → ℕ → ℕ → List ℕ
undo_entry_in image bigblocks entry =
    slice_range image (entry_place bigblocks entry) (entry_place bigblocks entry + UNDO_ENTRY_BYTES)

-- An image has this old page in this entry, for this header: the entry has the header's generation, and names a
-- page of the header's volume.
pub record HasUndoEntry (image : List ℕ) (header : Header) (entry : ℕ) (old : OldPage) : Type 0 where
  pub spelled : SpellsUndoEntry (undo_entry_in image header.bigblocks entry) old.at header.generation old.bytes
  pub page : IsUndoPageOf header.bigblocks old.at

-- the entries that a header names have these old pages, in the order of the entries
pub record HasRange (image : List ℕ) (header : Header) (olds : List OldPage) : Type 0 where
  pub count : length olds ≡ header.undo_count
  pub each : (i : ℕ) → IfSome (slice_get olds i) (HasUndoEntry image header (entry_at header.undo_first i))

-- the range of bytes of each page: its place, and how many they are
abbrev pub old_places_of : List OldPage → List (ℕ × ℕ)
old_places_of [] = []
old_places_of (old ∷ olds) = (byte_of old.at, length old.bytes) ∷ old_places_of olds

-- each page lies inside an image of so many bytes
abbrev pub Fit : ℕ → List OldPage → Type 0
Fit size olds = AllByRecursion (λ old. byte_of old.at + length old.bytes ≤ size) olds

-- the image with these pages put back, from the last to the first
abbrev pub put_back : List ℕ → List OldPage → List ℕ
put_back image [] = image
put_back image (old ∷ olds) = overwritten (put_back image olds) (byte_of old.at) old.bytes

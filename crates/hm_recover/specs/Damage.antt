-- Which entry of a range is told as damaged.
use Rattle.std.specs.Prelude.{◌≡◌, ℕ, ◌<◌, List}
use Rattle.hm_types.specs.Offset.{raw_of}
use Rattle.hm_types.specs.declared.damage.TheConstants.{BAD_UNDO}
use Rattle.hm_types.specs.declared.zone.TheConstants.{UNDO_ZONE}
use Rattle.hm_header.specs.OnDisk.{HasHeader}
use Rattle.hm_header.specs.declared.header.Header.{Header}
use Rattle.hm_undo.specs.Entry.{IsUndoPageOf, SpellsUndoEntry}
use Rattle.hm_undo.specs.Log.{entry_at, entry_place}
use Rattle.hm_undo.specs.Range.{HasUndoEntry, OldPage}

-- an old page, by its offset and its bytes
abbrev pub old_page : ℕ → List ℕ → OldPage
old_page at bytes = record { at = at; bytes = bytes }

-- these bytes are the entry of this old page, for this header
pub record SpellsOldPage (bytes : List ℕ) (header : Header) (old : OldPage) : Type 0 where
  pub spelled : SpellsUndoEntry bytes old.at header.generation old.bytes
  pub page : IsUndoPageOf header.bigblocks old.at

-- an entry holds some old page for this header
abbrev pub IsWholeEntry : List ℕ → Header → ℕ → Type 0
IsWholeEntry image header entry = (old : OldPage) × HasUndoEntry image header entry old

-- the offset of an entry
abbrev pub entry_offset : ℕ → ℕ → ℕ
entry_offset bigblocks entry = raw_of UNDO_ZONE (entry_place bigblocks entry)

-- Of the entries that a header names the one at this offset holds no old page, and each after it holds one. So it is the
-- first that is met, from the last entry to the first.
pub record IsRangeDamage (image : List ℕ) (header : Header) (at : ℕ) : Type 0 where
  pub i : ℕ
  pub within : i < header.undo_count
  pub place : at ≡ entry_offset header.bigblocks (entry_at header.undo_first i)
  pub damaged : IsWholeEntry image header (entry_at header.undo_first i) → ⊥
  pub later : (j : ℕ) → i < j → j < header.undo_count → IsWholeEntry image header (entry_at header.undo_first j)

-- this is the damage of the range that the header that counts names
pub record HasRangeDamage (image : List ℕ) (at kind : ℕ) : Type 0 where
  pub header : Header
  pub slot : ℕ
  pub counts : HasHeader image header slot
  pub kind_is : kind ≡ BAD_UNDO
  pub damage : IsRangeDamage image header at

-- What becomes of a disk while the pages of a range are put back.
use Rattle.std.specs.Prelude.{◌≡◌, ℕ, List, [], length}
use Rattle.hm_types.specs.Offset.{byte_of}
use Rattle.hm_disk.specs.Crash.{Told, MayLeave, Outside}
use Rattle.hm_disk.specs.Disk.{Written}
use Rattle.hm_disk.specs.Moments.{Elapses, LeftSince, WriteElapses}
use Rattle.hm_disk.specs.Transfer.{TornAll}
use Rattle.hm_header.specs.declared.header.Header.{Header}
use Rattle.hm_undo.specs.Range.{HasUndoEntry, HasRange, OldPage, old_places_of, put_back}

-- the old page of an entry stands in its place
abbrev pub HasPutPage : Header → ℕ → Told → Told → Type 0
HasPutPage header entry old new =
    (page : OldPage) → HasUndoEntry old.bytes header entry page → Written (byte_of page.at) page.bytes old new

-- a page was put back, or not, or in part
pub record MayPutPage (page : OldPage) (past since : LeftSince) (old new : Told) : Type 0 where
  pub torn : TornAll (byte_of page.at) (length page.bytes) old new
  pub time : WriteElapses (byte_of page.at) (length page.bytes) past since old new

-- so was the old page of an entry
abbrev pub MayPut : Header → ℕ → LeftSince → LeftSince → Told → Told → Type 0
MayPut header entry past since old new =
    (page : OldPage) → HasUndoEntry old.bytes header entry page → MayPutPage page past since old new

-- all pages of a range stand in their places
abbrev pub HasPutAll : Header → Told → Told → Type 0
HasPutAll header old new =
    (olds : List OldPage) → HasRange old.bytes header olds → new.bytes ≡ put_back old.bytes olds

-- Some pages were put back: each byte outside of them is as before, and settled where it was so. Where nothing was
-- unsettled, a crash within changes these pages alone.
pub record MayPutPages (olds : List OldPage) (past since : LeftSince) (old new : Told) : Type 0 where
  pub bytes_are : MayLeave old.bytes (old_places_of olds) new.bytes
  pub unsettled_are : (byte : ℕ) → Outside (old_places_of olds) byte → Outside old.unsettled byte → Outside new.unsettled byte
  pub time : old.unsettled ≡ [] → Elapses (MayLeave old.bytes (old_places_of olds)) past since old new

-- so were some pages of a range
abbrev pub MayPutAll : Header → LeftSince → LeftSince → Told → Told → Type 0
MayPutAll header past since old new =
    (olds : List OldPage) → HasRange old.bytes header olds → MayPutPages olds past since old new

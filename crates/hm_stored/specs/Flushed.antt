-- A stage of a flush over a space between two calls, and what it makes of the space.
use Rattle.std.specs.Prelude.{◌≡◌, ℕ, List, Some, Result, Ok, Err, IfSome}
use Rattle.hm_types.specs.declared.fault.Fault.{Fault}
use Rattle.hm_fields.specs.Fields.{AreBytes}
use Rattle.hm_fields.specs.Pages.{PageMap}
use Rattle.hm_header.specs.declared.header.Header.{Header}
use Rattle.hm_pages.specs.Sound.{IsSound}
use Rattle.hm_freemap.specs.Places.{HasLayer2}
use Rattle.hm_pages.specs.Store.{Store, layer2}
use Rattle.hm_flush.specs.declared.change.Change.TheVariants.{Close, Write, Open}
use Rattle.hm_flush.specs.declared.flush.Flush.{Flush}
use Rattle.hm_flush.specs.declared.flush.Position.{Position}
use Rattle.hm_flush.specs.declared.flush.Position.TheVariants.{Idle, Undoing, Arming, Placing, Committing}
use Rattle.hm_flush.specs.declared.stage.Stage.{Stage}
use Rattle.hm_flush.specs.Calls.{FlushStands, IsFlushReady}
use Rattle.hm_flush.specs.Ends.{StageEnds}
use Rattle.hm_flush.specs.Flush.{IsFlush, IsGroupOf}
use Rattle.hm_stored.specs.declared.roots.Roots.{Roots}
use Rattle.hm_stored.specs.Heap.{Heap}
use Rattle.hm_stored.specs.Held.{AreOnlyOf}
use Rattle.hm_stored.specs.Turn.{IsClosed}

-- A space is ready for a stage of a flush: no call is open, the flush is one over its volume and its pages, and where its disk
-- tells, the header that counts stands there as the stage needs it.
pub record IsFlushedBy (f : Flush) (h : Heap) : Type 0 where
  pub closed : IsClosed h
  pub bigblocks : f.header.bigblocks ≡ h.bigblocks
  pub group : IsGroupOf f h.pages
  pub stands : IfSome h.disk (FlushStands f)

-- The roots after a stage that succeeded: Freeze takes the frozen tree's from the header that it is given, and the last stage
-- makes it the committed one's.
abbrev pub roots_made : Position → Header → Roots → Roots
roots_made Idle now roots = record roots { frozen = now.root }
roots_made (Undoing from) now roots = roots
roots_made (Arming change) now roots = roots
roots_made (Placing i) now roots = roots
roots_made (Committing Close) now roots = roots
roots_made (Committing Write) now roots = roots
roots_made (Committing (Open tried)) now roots = record roots { committed = roots.frozen }

-- the roots after a stage, which may have failed
abbrev pub roots_after : Position → Header → Result Stage Fault → Roots → Roots
roots_after at now (Ok stage) roots = roots_made at now roots
roots_after at now (Err fault) roots = roots

-- each page of a map is bytes
abbrev pub ArePages : PageMap → Type 0
ArePages map = (at : ℕ) (page : List ℕ) → map at ≡ Some page → AreBytes page

-- what always holds of the pages of a space over a volume of so many big-blocks
pub record AreSoundPages (bigblocks : ℕ) (s : Store) : Type 0 where
  pub sound : IsSound s
  pub layer2 : HasLayer2 bigblocks (layer2 s)
  pub committed : ArePages s.committed
  pub frozen : ArePages s.frozen
  pub current : ArePages s.current
  pub only : AreOnlyOf bigblocks s.current

-- A stage ended so over a space: the flush and the pages are as it leaves them, the roots moved, and all else of the space is as
-- before but the disk.
pub record FlushesSpace (now : Header) (f f' : Flush) (old new : Heap) (result : Result Stage Fault) : Type 0 where
  pub ends : StageEnds now f f' old.pages new.pages result
  pub rest : new ≡ record old { pages = new.pages; disk = new.disk; roots = roots_after f.at now result old.roots }
  pub flush : IsFlush f
  pub ready : IsFlushReady f old.pages
  pub before : AreSoundPages old.bigblocks old.pages
  pub after : AreSoundPages new.bigblocks new.pages

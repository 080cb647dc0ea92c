-- How a stage of a flush ended, and what it did to a disk that tells so.
use Rattle.std.specs.Prelude.{Result, Ok, Err, []}
use Rattle.hm_types.specs.declared.fault.Fault.{Fault}
use Rattle.hm_disk.specs.Crash.{Told}
use Rattle.hm_disk.specs.Moments.{LeftSince}
use Rattle.hm_header.specs.declared.header.Header.{Header}
use Rattle.hm_header.specs.Change.{StageElapses, StageFailed}
use Rattle.hm_pages.specs.Store.{Store}
use Rattle.hm_flush.specs.declared.flush.Flush.{Flush}
use Rattle.hm_flush.specs.declared.stage.Stage.{Stage}
use Rattle.hm_flush.specs.Calls.{StageFails, StageSucceeds}
use Rattle.hm_flush.specs.Group.{Group, group_of}
use Rattle.hm_flush.specs.Guard.{ElapsesRecoverable, GuardsOn}
use Rattle.hm_flush.specs.Stages.{DueStageMade, asks, range_of}

-- what it made of the flush and of the store of pages: `now` is the header that Freeze takes
abbrev pub StageEnds : Header → Flush → Flush → Store → Store → Result Stage Fault → Type 0
StageEnds now f f' s s' (Ok stage) = StageSucceeds now stage f f' s s'
StageEnds now f f' s s' (Err fault) = StageFails f f' s s'

-- what it did to the disk
abbrev pub StageDoes : Flush → Group → Result Stage Fault → Told → Told → Type 0
StageDoes f g (Ok stage) old new = DueStageMade f g old new
StageDoes f g (Err fault) old new = StageFailed (asks f) (range_of f g).0 (range_of f g).1 old new

-- The same, with what a crash within it may leave. Where the committed pages were guarded they are guarded still, and each such
-- image is recoverable.
pub record StageTells (f f' : Flush) (s s' : Store) (result : Result Stage Fault) (past since : LeftSince) (old new : Told) : Type 0 where
  pub does : StageDoes f (group_of s) result old new
  pub any_moment : StageElapses (asks f) (range_of f (group_of s)).0 (range_of f (group_of s)).1 past since old new
  pub guards : GuardsOn f s f' s' old new
  pub recoverable : ElapsesRecoverable f s past since old new

-- A disk as if all that it holds were settled: what is guarded there stands as reads give it, whatever is settled.
abbrev pub as_read : Told → Told
as_read t = record t { unsettled = [] }

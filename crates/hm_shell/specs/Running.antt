-- The run of a script's lines on the volume of a disk.
use Rattle.std.specs.Prelude.{◌≡◌, ◌≢◌, ◌⊎◌, ℕ, ◌≤◌, List, [], ◌++◌, Option, IfSome, IsSomeAnd, length, take}
use Rattle.hm_types.specs.Faults.{IsMedia, Rose}
use Rattle.hm_types.specs.Told.{BothTell}
use Rattle.hm_pipe.specs.Pipe.{Gains}
use Rattle.hm_disk.specs.Crash.{MayLeave, Told}
use Rattle.hm_disk.specs.Moments.{Each, LeftSince}
use Rattle.hm_header.specs.OnDisk.{HasHeader}
use Rattle.hm_header.specs.declared.header.Header.{Header}
use Rattle.hm_image.specs.Stands.{StandsFor}
use Rattle.hm_model.specs.declared.entry.Entry.{Entry}
use Rattle.hm_model.specs.declared.line.Line.{Line}
use Rattle.hm_model.specs.After.{Event, after}
use Rattle.hm_model.specs.Caused.{Counts}
use Rattle.hm_model.specs.Foreign.{Foreigners}
use Rattle.hm_model.specs.Legal.{IsLegal, entries_of}
use Rattle.hm_model.specs.Out.{IsOut}
use Rattle.hm_model.specs.Volume.{Volume}
use Rattle.hm_state.specs.Free.{free_in}
use Rattle.hm_core.specs.Caused.{IsCausedFrom}
use Rattle.hm_core.specs.Counts.{AreLater, with_disk}
use Rattle.hm_core.specs.Crash.{IsBetween, RecoversToPrefix}
use Rattle.hm_core.specs.Inside.{AreUpTo}
use Rattle.hm_core.specs.History.{setting_of}
use Rattle.hm_shell.specs.declared.stop.RunStop.{RunStop}
use Rattle.hm_shell.specs.declared.stop.RunStop.TheVariants.{Usage, NotVolume, BadField, DiskFault, Damaged, ScriptFault, OutFault, NoMemory, BadLine, TooLong}
use Rattle.hm_shell.specs.Alone.{alone, out_text}
use Rattle.hm_shell.specs.Making.{MakesWhereAsked}
use Rattle.hm_shell.specs.Opening.{OpensDisk, StoppedOpening}
use Rattle.hm_shell.specs.Seen.{Seen}

-- What a core tells of a run: its history, the last id as it began and at its end, how many big-blocks were free as it began,
-- and the counts of the devices' faults as it began and at its end.
pub record Ran : Type 0 where
  pub history : List Entry
  pub first : ℕ
  pub last : ℕ
  pub free : ℕ
  pub start : Counts
  pub counts : Counts

-- a boundary that is no earlier than the last id as the run began and each that a sync of its history told, and no later than its last id
pub record HoldsSyncs (ran : Ran) (boundary : ℕ) : Type 0 where
  pub between : IsBetween ran.first ran.last boundary
  pub synced : AreUpTo boundary ran.history

-- Over a disk that told the one as mounting began and tells the other now: each image that a crash since then may have left recovers to
-- the volume after a prefix of these events; and each that a crash now may leave to one that has all that a sync acknowledged.
pub record SurvivesCrashes (ran : Ran) (since : LeftSince) (opening : Volume) (foreigners : Foreigners) (events : List Event)
    (began new : Told) : Type 0 where
  pub mounted : Each (since began.moment) (RecoversToPrefix (IsBetween ran.first ran.last) opening foreigners events)
  pub now : Each (MayLeave new.bytes new.unsettled) (RecoversToPrefix (HoldsSyncs ran) opening foreigners events)

-- its counts lie between two counts of the disk's faults, and none fell
pub record IsCountedBetween (old new : ℕ) (ran : Ran) : Type 0 where
  pub begin : old ≤ ran.start.disk
  pub rose : AreLater ran.start ran.counts
  pub end : ran.counts.disk ≤ new

-- each reply of its history has its cause, from the last id and the counts of faults as it began on
abbrev pub HasCauses : Ran → Type 0
HasCauses ran = ∥ IsCausedFrom ran.first ran.start ran.counts ran.last ran.history ∥₁

-- the same by so many faults of its disk: no reply told more of them
abbrev pub HasCausesBy : ℕ → Ran → Type 0
HasCausesBy faults ran = HasCauses (record ran { counts = with_disk ran.counts faults })

-- A run began on a disk that told this: with the last id of the header that counts, and, where the disk stood for a volume, with
-- as many free big-blocks as its bytes leave.
pub record BeginsOn (ran : Ran) (t : Told) : Type 0 where
  pub header : Header
  pub slot : ℕ
  pub counts : HasHeader t.bytes header slot
  pub first_is : ran.first ≡ header.last.0
  pub free_is : (volume : Volume) → StandsFor t.bytes volume → ran.free ≡ free_in t.bytes header

-- All lines of a script were answered, and the sink gained what a run with this history prints.
pub record AnswersEveryLine (lines : List Line) (ran : Ran) (old new : Option (List ℕ)) : Type 0 where
  pub text : List ℕ
  pub out : IsOut (alone lines) ran.history ran.last text
  pub gained : Gains old text new

-- A run that stopped at a line. The lines before it were answered and printed whole; it itself, if it was run, was
-- answered and printed in part or not at all; and those after it were not run, since the history is that of the others
-- alone. The text is what was printed.
pub record AnswersInPart (lines : List Line) (text : List ℕ) (ran : Ran) : Type 0 where
  pub before : List Line
  pub last : List Line
  pub rest : List Line
  pub split : lines ≡ before ++ (last ++ rest)
  pub one : length last ≤ 1
  pub out : IsOut (alone (before ++ last)) ran.history ran.last (out_text (before ++ last) ran.history)
  pub printed : ℕ
  pub text_is : text ≡ out_text before ran.history ++ take printed (out_text last ran.history)

-- The history of a run is a legal one over an opening volume, with these foreign masters, and leaves its last id. The disk, as it reads
-- now, recovers to the volume after a prefix of it that has all that a sync acknowledged; and where nothing was unsettled as mounting
-- began, each image that a crash since then may have left recovers to the volume after such a prefix, or an earlier one.
pub record HasHistory (ran : Ran) (since : LeftSince) (began new : Option Told) (opening : Volume) (foreigners : Foreigners) : Type 0 where
  pub events : List Event
  pub entries : entries_of events ≡ ran.history
  pub legal : IsLegal (setting_of ran.free ran.start ran.counts opening foreigners) events
  pub last : (after opening foreigners events).volume.last ≡ ran.last
  pub read : IfSome new (λ t. RecoversToPrefix (HoldsSyncs ran) opening foreigners events t.bytes)
  pub crashed : BothTell began new (λ s t. s.unsettled ≡ [] → SurvivesCrashes ran since opening foreigners events s t)

-- the same, and the disk stands for the volume after that history
pub record StandsForHistory (ran : Ran) (since : LeftSince) (began new : Option Told) (opening : Volume) (foreigners : Foreigners) : Type 0 where
  pub has : HasHistory ran since began new opening foreigners
  pub stands : IsSomeAnd new (λ t. StandsFor t.bytes (after opening foreigners has.events).volume)

-- a fact of each volume that a disk stands for which tells this, and of all foreign masters
abbrev pub OverEach : Option Told → (Volume → Foreigners → Type 0) → Type 0
OverEach opened P = IfSome opened (λ t. (opening : Volume) (foreigners : Foreigners) → StandsFor t.bytes opening → P opening foreigners)

-- What came of a disk that told the one as mounting began, the next once a volume was opened on it, and tells the last now: it stands
-- for the volume after the history, over each that it stood for. Where the history has no entry nothing was written since it was
-- opened, and else all is settled.
pub record KeepsVolume (since : LeftSince) (began opened new : Option Told) (ran : Ran) : Type 0 where
  pub unwritten : ran.history ≡ [] → new ≡ opened
  pub settled : ran.history ≢ [] → IfSome new (λ t. t.unsettled ≡ [])
  pub volume : OverEach opened (StandsForHistory ran since began new)

-- On a disk that told the one once a volume was opened, and tells the other now, the header that counts is that volume's, or one of a
-- flush since, whether the disk stands for a volume or not: it is of as many big-blocks, and its boundary is one that the run may leave.
pub record KeepsHeader (ran : Ran) (opened new : Told) : Type 0 where
  pub was : Header
  pub was_slot : ℕ
  pub counted : HasHeader opened.bytes was was_slot
  pub now : Header
  pub now_slot : ℕ
  pub counts : HasHeader new.bytes now now_slot
  pub bigblocks : now.bigblocks ≡ was.bigblocks
  pub boundary : HoldsSyncs ran now.last.0

-- the same where both tell
abbrev pub KeepsHeaderOn : Ran → Option Told → Option Told → Type 0
KeepsHeaderOn ran opened new = IfSome opened (λ s. IfSome new (KeepsHeader ran s))

-- The whole run of a script's lines: a volume is made or not, opened and used, and all is committed. Each reply has its cause.
pub record RunsAll (newfs : Option ℕ) (lines : List Line) (since : LeftSince) (old_disk new_disk : Seen Told)
    (old_out new_out : Option (List ℕ)) : Type 0 where
  pub began : Option Told
  pub makes : MakesWhereAsked newfs old_disk.told began
  pub opened : Option Told
  pub opens : BothTell began opened OpensDisk
  pub ran : Ran
  pub begins : IfSome opened (BeginsOn ran)
  pub counted : IsCountedBetween old_disk.faults new_disk.faults ran
  pub caused : HasCauses ran
  pub answered : AnswersEveryLine lines ran old_out new_out
  pub header : KeepsHeaderOn ran opened new_disk.told
  pub kept : KeepsVolume since began opened new_disk.told ran

-- what made the run stop at a line: the sink failed, or memory ran out
abbrev pub IsOutCause : ℕ → ℕ → RunStop → Type 0
IsOutCause before after OutFault = Rose before after
IsOutCause before after NoMemory = Unit {0}
IsOutCause before after Usage = ⊥
IsOutCause before after NotVolume = ⊥
IsOutCause before after (BadField place) = ⊥
IsOutCause before after (DiskFault b a) = ⊥
IsOutCause before after (Damaged at kind) = ⊥
IsOutCause before after (ScriptFault b a) = ⊥
IsOutCause before after (BadLine number why) = ⊥
IsOutCause before after TooLong = ⊥

-- A run stopped at a line, before the last flush, and the sink gained what was printed. Something of that line, which may be cut short,
-- was printed only where the sink's count of faults rose.
pub record StopsAtLine (lines : List Line) (ran : Ran) (old_out new_out : Seen (List ℕ)) (stop : RunStop) : Type 0 where
  pub text : List ℕ
  pub answered : AnswersInPart lines text ran
  pub gained : Gains old_out.told text new_out.told
  pub cut : (answered.printed ≡ 0) ⊎ Rose old_out.faults new_out.faults
  pub cause : IsOutCause old_out.faults new_out.faults stop

-- what made the run stop in the last flush, over every disk: the disk failed, or memory was refused
abbrev pub IsWriteCause : ℕ → ℕ → RunStop → Type 0
IsWriteCause before after (DiskFault b a) = IsMedia before after b a
IsWriteCause before after NoMemory = Unit {0}
IsWriteCause before after (Damaged at kind) = ⊥
IsWriteCause before after Usage = ⊥
IsWriteCause before after NotVolume = ⊥
IsWriteCause before after (BadField place) = ⊥
IsWriteCause before after (ScriptFault b a) = ⊥
IsWriteCause before after OutFault = ⊥
IsWriteCause before after (BadLine number why) = ⊥
IsWriteCause before after TooLong = ⊥

-- All lines were answered and printed, and a stage of the last flush failed, over which the count of faults went from one to another,
-- and no reply had told more of them than the one.
pub record StopsWriting (lines : List Line) (ran : Ran) (faults : ℕ) (old_out new_out : Option (List ℕ)) (stop : RunStop) : Type 0 where
  pub answered : AnswersEveryLine lines ran old_out new_out
  pub before : ℕ
  pub later : ran.start.disk ≤ before
  pub caused : HasCausesBy before ran
  pub cause : IsWriteCause before faults stop

-- A run stopped with an open volume: at a line, or in the last flush. Each reply of its history has its cause,
-- and it is a legal one over each volume that the disk stood for as it was opened. The header that counts is of that volume still.
pub record StoppedUsing (newfs : Option ℕ) (lines : List Line) (since : LeftSince) (old_disk new_disk : Seen Told)
    (old_out new_out : Seen (List ℕ)) (stop : RunStop) : Type 0 where
  pub began : Option Told
  pub makes : MakesWhereAsked newfs old_disk.told began
  pub opened : Option Told
  pub opens : BothTell began opened OpensDisk
  pub ran : Ran
  pub begins : IfSome opened (BeginsOn ran)
  pub counted : IsCountedBetween old_disk.faults new_disk.faults ran
  pub caused : HasCauses ran
  pub header : KeepsHeaderOn ran opened new_disk.told
  pub legal : OverEach opened (HasHistory ran since began new_disk.told)
  pub stops : StopsAtLine lines ran old_out new_out stop
      ⊎ StopsWriting lines ran new_disk.faults old_out.told new_out.told stop

-- a run stopped before a volume was open, and nothing was printed, or with an open volume
abbrev pub StoppedRunning : Option ℕ → List Line → LeftSince → LeftSince → Seen Told → Seen Told → Seen (List ℕ) → Seen (List ℕ) → RunStop → Type 0
StoppedRunning newfs lines past since old_disk new_disk old_out new_out stop =
    (StoppedOpening newfs past since old_disk new_disk stop × (new_out ≡ old_out))
    ⊎ StoppedUsing newfs lines since old_disk new_disk old_out new_out stop

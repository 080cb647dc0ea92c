-- The last flush, stage by stage, and what has come of a core by its end.
use Rattle.std.proofs.Common.{◌≡◌, ◌≢◌, ◌⊎◌, ℕ, ◌≤◌, List, [], Option, refl, sym, ◌∙◌, ap, subst, inl, inr, arith}
use Rattle.std.specs.Prelude.{Bool, Contains, Err, IfErr, IfSome, Ok, OnOk, Result, true, false}
use Rattle.std.proofs.Math.Logic.{∥∥₁_map}
use Rattle.hm_types.specs.declared.fault.Fault.{Fault}
use Rattle.hm_types.specs.declared.fault.Fault.TheVariants.{Damaged as damage, Media as media, NoMemory as no_memory}
use Rattle.hm_pipe.specs.Pipe.{Gains}
use Rattle.hm_disk.specs.Crash.{Told}
use Rattle.hm_disk.specs.Moments.{LeftSince}
use Rattle.hm_header.specs.declared.header.Header.{Header}
use Rattle.hm_flush.specs.Calls.{HasStageCause, IsMoved}
use Rattle.hm_flush.specs.declared.flush.Flush.{Flush}
use Rattle.hm_flush.specs.declared.flush.Position.{Position}
use Rattle.hm_flush.specs.declared.flush.Position.TheVariants.{Idle}
use Rattle.hm_model.specs.Caused.{Counts}
use Rattle.hm_model.specs.declared.entry.Entry.{Entry}
use Rattle.hm_model.specs.declared.line.Line.{Line}
use Rattle.hm_core.specs.Caused.{IsCausedFrom}
use Rattle.hm_core.specs.Core.{Follows, IsCausedRun, IsSoundCore, Waits}
use Rattle.hm_core.specs.Counts.{AreLater, with_disk}
use Rattle.hm_core.specs.Finished.{IsCommittedOn}
use Rattle.hm_core.specs.Staged.{EndsBy, EndsFlush, IsFlushed, MakesStage, header_now}
use Rattle.hm_core.specs.State.{CoreState, Mounted}
use Rattle.hm_core.proofs.CausedLemmas.{caused_later}
use Rattle.hm_core.proofs.CoreLemmas.{follows_further}
use Rattle.hm_shell.specs.Alone.{AnswersEach, out_text}
use Rattle.hm_shell.specs.Running.{IsWriteCause}
use Rattle.hm_shell.specs.Seen.{Seen}
use Rattle.hm_shell.specs.Serving.{Commits, IsUncommitted, IsCommittedAtEnd, KeepsSize, Served, StopsUsing, UsesAll}
use Rattle.hm_shell.specs.Stop.{of_fault}
use Rattle.hm_shell.specs.declared.stop.RunStop.{RunStop}
use Rattle.hm_shell.proofs.WaitLemmas.{waits_more}

-- no stage was made so far, or some were, and not all is committed
abbrev pub SoFar : CoreState → CoreState → Type 0
SoFar old mid = (mid ≡ old) ⊎ ((¬ IsFlushed old) × (¬ IsFlushed mid))

-- nothing is entered by a stage, however it ends
waits_by : (mid new : CoreState) (r : Result Bool Fault) → EndsBy mid new r → Waits mid new
waits_by mid new (Ok true) ends = elim ends.1 [
  | inl same ↦ subst (λ (c : CoreState). Waits mid c) (sym same) (record { history = refl; last = refl; running = refl; spare = refl })
  | inr flush ↦ flush.makes.waits
]
waits_by mid new (Ok false) ends = ends.2.waits
waits_by mid new (Err fault) ends = ends.1.waits

-- and the header is of as many big-blocks
size_by : (mid new : CoreState) (r : Result Bool Fault) → EndsBy mid new r → KeepsSize mid new
size_by mid new (Ok true) ends = elim ends.1 [
  | inl same ↦ ap (λ (c : CoreState). c.flush.header.bigblocks) same
  | inr flush ↦ flush.makes.made.volume
]
size_by mid new (Ok false) ends = ends.2.made.volume
size_by mid new (Err fault) ends = ends.1.failed.volume

pub size_at_end : (old mid new : CoreState) (r : Result Bool Fault) → KeepsSize old mid → EndsBy mid new r → KeepsSize old new
size_at_end old mid new r size ends = size_by mid new r ends ∙ size

pub waits_at_end : (old mid new : CoreState) (r : Result Bool Fault) → Waits old mid → EndsBy mid new r → Waits old new
waits_at_end old mid new r waits ends = waits_more old mid new waits (waits_by mid new r ends)

-- a stage of a flushed core begins a flush
begun_flies : (now : Header) (old new : CoreState) (makes : MakesStage old new) → old.flush.at ≡ Idle → new.flush.at ≡ Idle → ⊥
begun_flies now old new makes idle ended =
    let begun = subst (λ (p : Position). IsMoved p (header_now old) makes.stage new.heap.pages old.flush new.flush) idle makes.made.flush in
    let at = ap (λ (f : Flush). f.at) begun in
    absurd (cc)

ends_open : (mid new : CoreState) → IsFlushed new → EndsFlush mid new → ¬ IsFlushed mid
ends_open mid new flushed ends was = begun_flies (header_now mid) mid new ends.makes was.idle flushed.idle

module _ (old mid new : CoreState) where
  -- a stage more was made
  pub so_far_more : SoFar old mid → EndsBy mid new (Ok false) → SoFar old new
  so_far_more (inl same) ends = inr (subst (λ (c : CoreState). ¬ IsFlushed c) same ends.0, ends.1)
  so_far_more (inr open_yet) ends = inr (open_yet.0, ends.1)

  -- and that was the last one
  pub commits_all : SoFar old mid → EndsBy mid new (Ok true) → IfSome new.heap.disk (IsCommittedOn new) → Commits old new
  commits_all so_far ends committed = record { flushed = ends.0; committed = committed; made = by so_far ends.1 } where
    by : SoFar old mid → (new ≡ mid) ⊎ EndsFlush mid new
        → (new ≡ old) ⊎ ((¬ IsFlushed old) × IfSome new.heap.disk (λ t. t.unsettled ≡ []))
    by (inl same) (inl still) = inl (still ∙ same)
    by (inl same) (inr flush) = inr (subst (λ (c : CoreState). ¬ IsFlushed c) same (ends_open mid new ends.0 flush), flush.settled)
    by (inr open_yet) (inl still) = absurd (open_yet.1 (subst IsFlushed still ends.0))
    by (inr open_yet) (inr flush) = inr (open_yet.0, flush.settled)

-- a stage of the last flush failed
pub write_cause : (first before after : ℕ) (at : Position) (fault : Fault) → first ≤ before
    → HasStageCause {T = Bool} at before after (Err fault) → IsWriteCause first after (of_fault fault)
write_cause first before after at (media b a) earlier cause =
    let is = cause.counted.caused in
    let begin = is.begin in
    record { begin = omega (arith, earlier, begin); rose = is.rose; end = is.end }
write_cause first before after at (damage here kind) earlier cause = absurd cause.faults
write_cause first before after at no_memory earlier cause = tt

-- the disk of a core
abbrev disk_of : CoreState → Seen Told
disk_of core = record { told = core.heap.disk; faults = core.counts.disk }

-- The use of an open volume whose lines were all served, once the last flush was tried.
module _ (lines : List Line) (past left since : LeftSince) (begun mid core : CoreState) (held holds : Option (List ℕ))
    (served : Served lines past left begun mid held holds) (waits : Waits mid core) (follows : Follows left since mid core)
    (size : KeepsSize mid core) where
  Served-committed : Served lines past since begun core held holds
  Served-committed = record {
    from = follows_further past left since begun mid core served.from follows;
    size = size ∙ served.size;
    answers = subst (λ (n : ℕ). AnswersEach n lines core.history) (sym waits.last)
        (subst (λ (h : List Entry). AnswersEach mid.last lines h) (sym waits.history) served.answers);
    up_to = λ e has. (let last = waits.last in
        let least = served.up_to e (subst (λ (h : List Entry). Contains h e) waits.history has) in omega (arith, last, least));
    gained = subst (λ (h : List Entry). Gains held (out_text lines h) holds) (sym waits.history) served.gained;
  }

  module _ (flushed : IsFlushed begun) (behind : IsUncommitted begun mid) (commits : Commits mid core) where
    -- where nothing was entered, all was committed before
    idle_flushed : mid.history ≡ [] → IsFlushed mid
    idle_flushed none = subst IsFlushed (sym (behind.idle none)) (record { idle = flushed.idle; last = flushed.last })

    is_ended : IsCommittedAtEnd begun core
    is_ended = record {
      committed = commits.committed;
      settled = λ some. settled (λ none. some (waits.history ∙ none)) commits.made;
      unwritten = λ none. (let empty = sym waits.history ∙ none in
          unwritten empty commits.made ∙ ap (λ (c : CoreState). c.heap.disk) (behind.idle empty));
    } where
      settled : mid.history ≢ [] → (core ≡ mid) ⊎ ((¬ IsFlushed mid) × IfSome core.heap.disk (λ t. t.unsettled ≡ []))
          → IfSome core.heap.disk (λ t. t.unsettled ≡ [])
      settled some (inl same) =
          let before = behind.behind some in
          let last = (subst IsFlushed same commits.flushed).last in
          absurd (omega (arith, before, last))
      settled some (inr made) = made.1

      unwritten : mid.history ≡ [] → (core ≡ mid) ⊎ ((¬ IsFlushed mid) × IfSome core.heap.disk (λ t. t.unsettled ≡ []))
          → core.heap.disk ≡ mid.heap.disk
      unwritten none (inl same) = ap (λ (c : CoreState). c.heap.disk) same
      unwritten none (inr made) = absurd (made.0 (idle_flushed none))

  -- it came to its end
  pub UsesAll-committed : IsFlushed begun → IsUncommitted begun mid → (r : Result (Unit {0}) RunStop) → OnOk r (Commits mid core)
      → OnOk r (UsesAll lines past since begun (disk_of core) held holds)
  UsesAll-committed flushed behind (Ok done) commits = record {
    core = core;
    served = Served-committed;
    ended = is_ended flushed behind commits;
    disk_is = record { told = refl; faults = refl };
  }
  UsesAll-committed flushed behind (Err stop) commits = tt

-- stages that enter nothing leave each reply its cause by the faults of the disk before them
caused_before : (left since : LeftSince) (mid core : CoreState) → IsSoundCore mid → Waits mid core → Follows left since mid core
    → IsCausedRun (record core { counts = with_disk core.counts mid.counts.disk })
caused_before left since mid core sound waits follows =
    let falls = follows.never_falls in
    let counts : Counts = with_disk core.counts mid.counts.disk in
    let later : AreLater mid.counts counts = record { disk = omega arith; input = falls.input; output = falls.output } in
    ∥∥₁_map sound.caused (λ so_far.
    subst (λ (m : Mounted). IsCausedFrom m.first m.counts counts core.last core.history) (sym follows.mounted)
    (subst (λ (n : ℕ). IsCausedFrom mid.mounted.first mid.mounted.counts counts n core.history) (sym waits.last)
    (subst (λ (h : List Entry). IsCausedFrom mid.mounted.first mid.mounted.counts counts mid.last h) (sym waits.history)
    (caused_later mid.mounted.first mid.mounted.counts mid.counts counts mid.last [] mid.history (record { causes = so_far; opened = tt }) later).causes)))

-- or it stopped there
pub StopsUsing-failed : (lines : List Line) (past left since : LeftSince) (begun mid core : CoreState) (old new : Seen (List ℕ))
    → Served lines past left begun mid old.told new.told → Waits mid core → Follows left since mid core → KeepsSize mid core
    → (r : Result (Unit {0}) RunStop)
    → IfErr r (IsWriteCause mid.counts.disk core.counts.disk) → IfErr r (StopsUsing lines past since begun (disk_of core) old new)
StopsUsing-failed lines past left since begun mid core old new served waits follows size (Ok done) cause = tt
StopsUsing-failed lines past left since begun mid core old new served waits follows size (Err stop) cause = inr (record {
  core = core;
  served = Served-committed lines past left since begun mid core old.told new.told served waits follows size;
  before = mid.counts.disk;
  later = served.from.never_falls.disk;
  caused = caused_before left since mid core served.from.sound waits follows;
  cause = cause;
  disk_is = record { told = refl; faults = refl };
})

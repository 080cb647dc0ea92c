-- From the lines that were served on an open volume to the run of a script's lines on a disk.
use Rattle.std.proofs.Common.{◌≡◌, ◌⊎◌, ℕ, ◌-◌, ◌≤◌, List, [], ◌++◌, take, refl, sym, ◌∙◌, ap, append_assoc, arith, subst}
use Rattle.std.proofs.Common.{inl, inr}
use Rattle.std.specs.Prelude.{All, Contains, Err, IfErr, IfSome, IsSomeAnd, None, Ok, OnOk, Option, Result, Some}
use Rattle.std.proofs.lemmas.List.Elements.{All-contains, Contains-append_left}
use Rattle.hm_types.specs.Told.{BothTell}
use Rattle.hm_types.specs.declared.id.Id.{Id}
use Rattle.hm_disk.specs.Crash.{MayLeave, Told}
use Rattle.hm_disk.specs.Moments.{Each, LeftSince}
use Rattle.hm_disk.proofs.CrashLemmas.{MayLeave-settled}
use Rattle.hm_header.specs.OnDisk.{HasHeader}
use Rattle.hm_flush.specs.Flush.{header_to_write, header_to_write_at}
use Rattle.hm_flush.specs.declared.flush.Flush.{Flush}
use Rattle.hm_flush.specs.declared.flush.Position.{Position}
use Rattle.hm_flush.specs.declared.flush.Position.TheVariants.{Arming, Committing, Idle, Placing, Undoing}
use Rattle.hm_image.specs.Stands.{StandsFor}
use Rattle.hm_model.specs.declared.line.Line.{Line}
use Rattle.hm_model.specs.After.{Event}
use Rattle.hm_model.specs.Caused.{Counts}
use Rattle.hm_model.specs.Foreign.{Foreigners}
use Rattle.hm_model.specs.Volume.{Volume}
use Rattle.hm_recover.proofs.BoundaryLemmas.{boundary-kept}
use Rattle.hm_core.specs.Core.{Follows, GoesOnBy, IsGuarded}
use Rattle.hm_core.specs.Counts.{AreLater}
use Rattle.hm_core.specs.Crash.{HasHeaderOf, IsBetween, IsLeftBoundary, MayHaveChanged, RecoversToPrefix}
use Rattle.hm_core.specs.Finished.{IsCommittedOn}
use Rattle.hm_core.specs.History.{up_to, volume_of}
use Rattle.hm_core.specs.Opened.{IsMounted, MountsDisk}
use Rattle.hm_core.specs.State.{CoreState, Mounted}
use Rattle.hm_core.proofs.CrashLemmas.{left_tried, prefix_weaker}
use Rattle.hm_shell.specs.declared.stop.RunStop.{RunStop}
use Rattle.hm_shell.specs.Alone.{IsAlone, out_text}
use Rattle.hm_shell.specs.Lines.{IsServedLine}
use Rattle.hm_shell.specs.Making.{MakesWhereAsked}
use Rattle.hm_shell.specs.Opening.{OpensDisk}
use Rattle.hm_shell.specs.Running.{AnswersEveryLine, AnswersInPart, BeginsOn, HasHistory, HoldsSyncs, IsCountedBetween}
use Rattle.hm_shell.specs.Running.{KeepsVolume, KeepsHeader, KeepsHeaderOn, OverEach, Ran}
use Rattle.hm_shell.specs.Running.{RunsAll, StandsForHistory, StopsAtLine, StopsWriting, StoppedRunning, StoppedUsing}
use Rattle.hm_shell.specs.Seen.{Seen}
use Rattle.hm_shell.specs.Serving.{IsCommittedAtEnd, KeepsSize, Served, ServedInPart, StopsUsing, UsesAll}
use Rattle.hm_shell.proofs.AloneLemmas.{answers_out}
use Rattle.hm_shell.proofs.AloneMoreLemmas.{each_from}
use Rattle.hm_shell.proofs.OpenLemmas.{LeavesOnly}

-- lines that are served run by themselves
are_alone : (lines : List Line) → All IsServedLine lines → All IsAlone lines
are_alone lines each = λ k d below. (each k d below).by_itself

some_told : (o : Option Told) (P Q R : Told → Type 0) → ((t : Told) → Q t → R t) → IsSomeAnd o P → IfSome o Q → IsSomeAnd o R
some_told None P Q R from some q = absurd some
some_told (Some t) P Q R from some q = from t q

each_told : (o : Option Told) (P Q : Told → Type 0) → ((t : Told) → P t → Q t) → IfSome o P → IfSome o Q
each_told None P Q from p = tt
each_told (Some t) P Q from p = from t p

both_told : (s : Told) (o : Option Told) (P Q : Told → Type 0) (R : Told → Told → Type 0) → ((t : Told) → Q t → R s t) → IsSomeAnd o P
    → IfSome o Q → BothTell (Some s) o R
both_told s None P Q R from some q = absurd some
both_told s (Some t) P Q R from some q = from t q

both_each : (o p : Option Told) (P Q : Told → Told → Type 0) → ((s t : Told) → P s t → Q s t) → BothTell o p P → BothTell o p Q
both_each None None P Q from both = tt
both_each None (Some t) P Q from both = absurd both
both_each (Some s) None P Q from both = absurd both
both_each (Some s) (Some t) P Q from both = from s t both

-- the header that is written next is of as many big-blocks, and has a boundary that a crash may leave once it may count
written_size : (at : Position) (f : Flush) → (header_to_write_at at f).bigblocks ≡ f.header.bigblocks
written_size Idle f = refl
written_size (Undoing from) f = refl
written_size (Arming change) f = refl
written_size (Placing i) f = refl
written_size (Committing change) f = refl

written_boundary : (f : Flush) → MayHaveChanged f → IsLeftBoundary f (header_to_write f).last.0
written_boundary f (inl arming) = inl (ap (λ (p : Position). (header_to_write_at p f).last.0) arming)
written_boundary f (inr committing) = inr (committing, ap (λ (p : Position). (header_to_write_at p f).last.0) committing)

-- what a core tells of the run
abbrev pub ran_of : CoreState → Ran
ran_of core = record {
  history = core.history;
  first = core.mounted.first;
  last = core.last;
  free = core.mounted.free;
  start = core.mounted.counts;
  counts = core.counts;
}

module _ (faults : ℕ) (begun core : CoreState) (past mid since : LeftSince) (mounted : IsMounted faults begun)
    (from : Follows mid since begun core) where
  start_is : core.mounted.counts ≡ begun.counts
  start_is = ap (λ (m : Mounted). m.counts) from.mounted ∙ mounted.counts.1

  first_is : core.mounted.first ≡ begun.boundary
  first_is = ap (λ (m : Mounted). m.first) from.mounted ∙ mounted.ids.1

  counted : (old new : ℕ) → old ≤ faults → core.counts.disk ≤ new → IsCountedBetween old new (ran_of core)
  counted old new earlier later =
      let first = mounted.counts.0 in let start = ap (λ (c : Counts). c.disk) start_is in
      record {
        begin = omega (arith, earlier, first, start);
        rose = subst (λ (c : Counts). AreLater c core.counts) (sym start_is) from.never_falls;
        end = later;
      }

  -- each boundary that a crash may leave is drawn, and has all that a sync told
  holds_syncs : (boundary : ℕ) → IsLeftBoundary core.flush boundary → HoldsSyncs (ran_of core) boundary
  holds_syncs boundary left =
      let between = from.sound.between boundary (left_tried core.flush boundary left) in
      let grown = from.boundary in
      record {
        between = (omega (arith, first_is, grown, between.0), between.1);
        synced = λ e has. (let told = from.sound.told e has in omega (arith, told, between.0));
      }

  -- the header that counts is of the volume that was opened
  header_on : KeepsSize begun core → (s t : Told) → HasHeader s.bytes begun.flush.header begun.flush.slot → HasHeaderOf core.flush t.bytes
      → KeepsHeader (ran_of core) s t
  header_on size s t was (inl same) = record {
    was = begun.flush.header;
    was_slot = begun.flush.slot;
    counted = was;
    now = core.flush.header;
    now_slot = core.flush.slot;
    counts = same;
    bigblocks = size;
    boundary = holds_syncs core.flush.header.last.0 (inl refl);
  }
  header_on size s t was (inr changed) = record {
    was = begun.flush.header;
    was_slot = begun.flush.slot;
    counted = was;
    now = header_to_write core.flush;
    now_slot = 1 - core.flush.slot;
    counts = changed.1;
    bigblocks = written_size core.flush.at core.flush ∙ size;
    boundary = holds_syncs (header_to_write core.flush).last.0 (written_boundary core.flush changed.0);
  }

  prefix_holds : (opening : Volume) (foreigners : Foreigners) (events : List Event) (image : List ℕ)
      → RecoversToPrefix (IsLeftBoundary core.flush) opening foreigners events image
      → RecoversToPrefix (HoldsSyncs (ran_of core)) opening foreigners events image
  prefix_holds opening foreigners events image prefix =
      prefix_weaker (IsLeftBoundary core.flush) (HoldsSyncs (ran_of core)) opening foreigners events events holds_syncs (λ boundary left. refl) image prefix

  -- on a disk that told the one as mounting began, and the other as it ended
  module _ (s u : Told) (mounts : MountsDisk begun past mid s u) where
    opens_on : OpensDisk s u
    opens_on = record {
      recovers = mounts.recovers;
      written = mounts.written;
      whole = record {
        header = begun.flush.header;
        slot = begun.flush.slot;
        counts = mounts.counts;
        whole = mounts.whole;
        unarmed = mounted.idle.1;
      };
    }

    begins_on : BeginsOn (ran_of core) u
    begins_on = record {
      header = begun.flush.header;
      slot = begun.flush.slot;
      counts = mounts.counts;
      first_is = first_is ∙ mounted.ids.2;
      free_is = λ volume stands. ap (λ (m : Mounted). m.free) from.mounted ∙ mounts.counted volume stands;
    }

    -- it stands for each volume that the disk stood for
    module _ (only : LeavesOnly past s) (opening : Volume) (foreigners : Foreigners) (stood : StandsFor u.bytes opening) where
      on : GoesOnBy mid since begun core opening foreigners []
      on = from.goes_on opening foreigners [] (mounts.stands opening foreigners stood)

      abbrev events : List Event
      events = [] ++ on.more

      -- the disk as mounting began recovers to the volume that was opened
      opened_prefix : RecoversToPrefix (λ boundary. boundary ≡ begun.boundary) opening foreigners [] s.bytes
      unfolding up_to
      opened_prefix =
          let kept = boundary-kept s.bytes u.bytes mounts.recovers.header begun.flush.header mounts.recovers.slot begun.flush.slot mounts.recovers
          mounts.recovers.counts mounts.counts in
          record {
            result = u.bytes;
            recovers = mounts.recovers;
            boundary = sym (mounted.ids.2 ∙ ap (λ (id : Id). id.0) kept);
            stands = stood;
          }

      was_between : (boundary : ℕ) → boundary ≡ begun.boundary → IsBetween core.mounted.first core.last boundary
      was_between boundary is =
          let drawn = mounted.ids.0 in
          let later = from.last in
          (omega (arith, first_is, is), omega (arith, is, drawn, later))

      still_between : (boundary : ℕ) → IsBetween begun.boundary core.last boundary → IsBetween core.mounted.first core.last boundary
      still_between boundary between = (omega (arith, first_is, between.0), between.1)

      stays : (boundary : ℕ) → boundary ≡ begun.boundary → up_to boundary events ≡ up_to boundary []
      stays boundary is = (let drawn = mounted.ids.0 in on.stay boundary (omega (arith, is, drawn)))

      earlier_prefix : (image : List ℕ) → RecoversToPrefix (λ boundary. boundary ≡ begun.boundary) opening foreigners [] image
          → RecoversToPrefix (IsBetween core.mounted.first core.last) opening foreigners events image
      earlier_prefix image prefix =
          prefix_weaker (λ boundary. boundary ≡ begun.boundary) (IsBetween core.mounted.first core.last) opening foreigners [] events was_between stays
          image prefix

      module _ (settled : s.unsettled ≡ []) where
        guarded : IsGuarded begun opening foreigners []
        guarded = mounts.guarded settled opening foreigners stood

        -- as mounting began only the disk itself was left
        before_mounting : (image : List ℕ) → past s.moment image
            → RecoversToPrefix (IsBetween core.mounted.first core.last) opening foreigners events image
        before_mounting image was =
            let left = subst (λ (ranges : List (ℕ × ℕ)). MayLeave s.bytes ranges image) settled (only image was) in
            subst (λ (bytes : List ℕ). RecoversToPrefix (IsBetween core.mounted.first core.last) opening foreigners events bytes)
            (sym (MayLeave-settled s.bytes image left)) (earlier_prefix s.bytes opened_prefix)

        in_mounting : (image : List ℕ) → mid s.moment image
            → RecoversToPrefix (IsBetween core.mounted.first core.last) opening foreigners events image
        in_mounting image was = elim (mounts.crashed settled opening foreigners stood s.moment image was) [
          | inl before ↦ before_mounting image before
          | inr prefix ↦ earlier_prefix image prefix
        ]

        since_mounting : Each (since s.moment) (RecoversToPrefix (IsBetween core.mounted.first core.last) opening foreigners events)
        since_mounting image left = elim (on.crashed guarded s.moment image left) [
          | inl was ↦ in_mounting image was
          | inr prefix ↦ prefix_weaker (IsBetween begun.boundary core.last) (IsBetween core.mounted.first core.last) opening foreigners events events
              still_between (λ boundary between. refl) image prefix
        ]

      -- what a crash now may leave, where the core is guarded
      abbrev LeavesNow : Told → Type 0
      LeavesNow t = s.unsettled ≡ [] → Each (MayLeave t.bytes t.unsettled) (RecoversToPrefix (IsLeftBoundary core.flush) opening foreigners events)

      leaves_now : IfSome core.heap.disk LeavesNow
      leaves_now = under core.heap.disk (λ settled. from.sound.now opening foreigners events (on.guarded (guarded settled))) where
        under : (o : Option Told) → (s.unsettled ≡ [] → IfSome o (λ t. Each (MayLeave t.bytes t.unsettled)
            (RecoversToPrefix (IsLeftBoundary core.flush) opening foreigners events)))
            → IfSome o LeavesNow
        under None now = tt
        under (Some t) now = now

      has_history : HasHistory (ran_of core) since (Some s) core.heap.disk opening foreigners
      has_history = record {
        events = events;
        entries = on.stands.legal.entries;
        legal = on.stands.legal.legal;
        last = sym on.stands.legal.held.holds.last_is;
        read = each_told core.heap.disk _ _ (λ t prefix. prefix_holds opening foreigners events t.bytes prefix)
            (from.sound.read opening foreigners events on.stands);
        crashed = both_told s core.heap.disk _ LeavesNow _ (λ t now settled. record {
          mounted = since_mounting settled;
          now = λ image left. prefix_holds opening foreigners events image (now settled image left);
        }) on.stands.legal.held.holds.elements.1 leaves_now;
      }

      leaves : IsCommittedAtEnd begun core → StandsForHistory (ran_of core) since (Some s) core.heap.disk opening foreigners
      unfolding has_history
      leaves ended = record {
        has = has_history;
        stands = some_told core.heap.disk _ (IsCommittedOn core) (λ t. StandsFor t.bytes (volume_of opening foreigners events))
            (λ t committed. committed.volume opening foreigners events on.stands) on.stands.legal.held.holds.elements.1 ended.committed;
      }

  module _ (began : Option Told) (mounts : BothTell began begun.heap.disk (MountsDisk begun past mid)) (only : IfSome began (LeavesOnly past)) where
    opens : BothTell began begun.heap.disk OpensDisk
    opens = both_each began begun.heap.disk (MountsDisk begun past mid) OpensDisk opens_on mounts

    begins : IfSome begun.heap.disk (BeginsOn (ran_of core))
    begins = by began begun.heap.disk mounts where
      by : (o p : Option Told) → BothTell o p (MountsDisk begun past mid) → IfSome p (BeginsOn (ran_of core))
      by None None mounts = tt
      by None (Some u) mounts = absurd mounts
      by (Some s) None mounts = tt
      by (Some s) (Some u) mounts = begins_on s u mounts

    headers : KeepsSize begun core → KeepsHeaderOn (ran_of core) begun.heap.disk core.heap.disk
    headers size = by began begun.heap.disk mounts where
      by : (o p : Option Told) → BothTell o p (MountsDisk begun past mid) → KeepsHeaderOn (ran_of core) p core.heap.disk
      by None None mounts = tt
      by None (Some u) mounts = absurd mounts
      by (Some s) None mounts = tt
      by (Some s) (Some u) mounts = each_told core.heap.disk (λ t. HasHeaderOf core.flush t.bytes) (KeepsHeader (ran_of core) u)
          (λ t has. header_on size u t mounts.counts has) from.sound.header

    histories : OverEach begun.heap.disk (HasHistory (ran_of core) since began core.heap.disk)
    histories = by began begun.heap.disk mounts only where
      by : (o p : Option Told) → BothTell o p (MountsDisk begun past mid) → IfSome o (LeavesOnly past)
          → OverEach p (HasHistory (ran_of core) since o core.heap.disk)
      by None None mounts only = tt
      by None (Some u) mounts only = absurd mounts
      by (Some s) None mounts only = tt
      by (Some s) (Some u) mounts only = λ opening foreigners stood. has_history s u mounts only opening foreigners stood

    is_kept : IsCommittedAtEnd begun core → KeepsVolume since began begun.heap.disk core.heap.disk (ran_of core)
    is_kept ended = record {
      unwritten = ended.unwritten;
      settled = ended.settled;
      volume = by began begun.heap.disk mounts only;
    } where
      by : (o p : Option Told) → BothTell o p (MountsDisk begun past mid) → IfSome o (LeavesOnly past)
          → OverEach p (StandsForHistory (ran_of core) since o core.heap.disk)
      by None None mounts only = tt
      by None (Some u) mounts only = absurd mounts
      by (Some s) None mounts only = tt
      by (Some s) (Some u) mounts only = λ opening foreigners stood. leaves s u mounts only opening foreigners stood ended

module _ (lines : List Line) (each : All IsServedLine lines) (past since : LeftSince) (begun core : CoreState) where
  answers_all : (old new : Option (List ℕ)) → Served lines past since begun core old new → AnswersEveryLine lines (ran_of core) old new
  answers_all old new served = record {
    text = out_text lines core.history;
    out = answers_out core.last core.history lines (are_alone lines each) served.answers;
    gained = served.gained;
  }

  answers_in_part : (old new : Seen (List ℕ)) (part : ServedInPart lines past since begun core old new)
      → AnswersInPart lines (out_text part.before core.history ++ take part.printed (out_text part.last core.history)) (ran_of core)
  answers_in_part old new part = record {
    before = part.before;
    last = part.last;
    rest = part.rest;
    split = part.split;
    one = part.one;
    out = answers_out core.last core.history (part.before ++ part.last) front part.answers;
    printed = part.printed;
    text_is = refl;
  } where
    front : All IsAlone (part.before ++ part.last)
    front = each_from IsAlone (part.before ++ part.last) (λ l has. All-contains IsAlone lines l (are_alone lines each)
        (subst (λ (ls : List Line). Contains ls l) (sym (part.split ∙ sym (append_assoc part.before part.last part.rest)))
        (Contains-append_left (part.before ++ part.last) part.rest l has)))

module _ (newfs : Option ℕ) (lines : List Line) (each : All IsServedLine lines) (old made new : Seen Told) (begun : CoreState)
    (before past mid since : LeftSince) (makes : MakesWhereAsked newfs old.told made.told) (earlier : old.faults ≤ made.faults)
    (mounted : IsMounted made.faults begun) (mounts : BothTell made.told begun.heap.disk (MountsDisk begun past mid))
    (only : IfSome made.told (LeavesOnly past)) where
  -- all lines were run, and all is committed
  RunsAll-used : (old_out new_out : Option (List ℕ)) → UsesAll lines mid since begun new old_out new_out
      → RunsAll newfs lines since old new old_out new_out
  RunsAll-used old_out new_out used =
      let core = used.core in
      let from = used.served.from in
      record {
        began = made.told;
        makes = makes;
        opened = begun.heap.disk;
        opens = opens made.faults begun core past mid since mounted from made.told mounts only;
        ran = ran_of core;
        begins = begins made.faults begun core past mid since mounted from made.told mounts only;
        counted = counted made.faults begun core past mid since mounted from old.faults new.faults earlier
            (let faults = used.disk_is.faults in omega (arith, faults));
        caused = from.sound.caused;
        answered = answers_all lines each mid since begun core old_out new_out used.served;
        header = subst (λ (o : Option Told). KeepsHeaderOn (ran_of core) begun.heap.disk o) (sym used.disk_is.told)
            (headers made.faults begun core past mid since mounted from made.told mounts only used.served.size);
        kept = subst (λ (o : Option Told). KeepsVolume since made.told begun.heap.disk o (ran_of core)) (sym used.disk_is.told)
            (is_kept made.faults begun core past mid since mounted from made.told mounts only used.ended);
      }

  -- the run stopped, at a line or in the last flush
  stopped_by : (core : CoreState) → Follows mid since begun core → KeepsSize begun core → new.told ≡ core.heap.disk → new.faults ≡ core.counts.disk
      → (old_out new_out : Seen (List ℕ)) (stop : RunStop)
      → StopsAtLine lines (ran_of core) old_out new_out stop
      ⊎ StopsWriting lines (ran_of core) new.faults old_out.told new_out.told stop
      → StoppedUsing newfs lines since old new old_out new_out stop
  stopped_by core from size told faults old_out new_out stop stops = record {
    began = made.told;
    makes = makes;
    opened = begun.heap.disk;
    opens = opens made.faults begun core past mid since mounted from made.told mounts only;
    ran = ran_of core;
    begins = begins made.faults begun core past mid since mounted from made.told mounts only;
    counted = counted made.faults begun core past mid since mounted from old.faults new.faults earlier (omega (arith, faults));
    caused = from.sound.caused;
    header = subst (λ (o : Option Told). KeepsHeaderOn (ran_of core) begun.heap.disk o) (sym told)
        (headers made.faults begun core past mid since mounted from made.told mounts only size);
    legal = subst (λ (o : Option Told). OverEach begun.heap.disk (HasHistory (ran_of core) since made.told o)) (sym told)
        (histories made.faults begun core past mid since mounted from made.told mounts only);
    stops = stops;
  }

  StoppedUsing-stopped : (old_out new_out : Seen (List ℕ)) (stop : RunStop) → StopsUsing lines mid since begun new old_out new_out stop
      → StoppedUsing newfs lines since old new old_out new_out stop
  unfolding answers_in_part
  StoppedUsing-stopped old_out new_out stop (inl line) =
      let part = line.served in
      stopped_by line.core part.from part.size line.disk_is.told line.disk_is.faults old_out new_out stop (inl (record {
        text = out_text part.before line.core.history ++ take part.printed (out_text part.last line.core.history);
        answered = answers_in_part lines each mid since begun line.core old_out new_out part;
        gained = part.gained;
        cut = part.cut;
        cause = line.cause;
      }))
  StoppedUsing-stopped old_out new_out stop (inr writing) =
      let core = writing.core in
      let from = writing.served.from in
      let later = writing.later in
      let start = ap (λ (c : Counts). c.disk) (start_is made.faults begun core past mid since mounted from) in
      stopped_by core from writing.served.size writing.disk_is.told writing.disk_is.faults old_out new_out stop (inr (record {
        answered = answers_all lines each mid since begun core old_out.told new_out.told writing.served;
        before = writing.before;
        later = omega (arith, later, start);
        caused = writing.caused;
        cause = writing.cause;
      }))

  -- the same where there was no error, and where there was one
  pub RunsAll-opened : (old_out new_out : Option (List ℕ)) (r : Result (Unit {0}) RunStop) → OnOk r (UsesAll lines mid since begun new old_out new_out)
      → OnOk r (RunsAll newfs lines since old new old_out new_out)
  RunsAll-opened old_out new_out (Ok done) used = RunsAll-used old_out new_out used
  RunsAll-opened old_out new_out (Err stop) used = tt

  pub StoppedRunning-opened : (old_out new_out : Seen (List ℕ)) (r : Result (Unit {0}) RunStop)
      → IfErr r (StopsUsing lines mid since begun new old_out new_out) → IfErr r (StoppedRunning newfs lines before since old new old_out new_out)
  StoppedRunning-opened old_out new_out (Ok done) stops = tt
  StoppedRunning-opened old_out new_out (Err stop) stops = inr (StoppedUsing-stopped old_out new_out stop stops)

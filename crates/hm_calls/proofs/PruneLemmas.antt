-- From what the steps of a prune's opening tell to what it is due, and to what it does.
use Rattle.std.proofs.Common.{◌≡◌, ℕ, ◌^◌, ◌<◌, List, [], ◌∷◌, false, length, Option, Some, None, Result, Ok, Err, refl, sym, ap, subst, ◌∙◌, arith}
use Rattle.std.specs.Prelude.{◌==◌, IfOk, IfSome, OnOk, if◌then◌else◌}
use Rattle.std.specs.List.{Contains}
use Rattle.std.specs.List.Sorted.{IsPermutation}
use Rattle.hm_types.specs.Elements.{FullElement, Key}
use Rattle.hm_types.specs.declared.id.Id.{Id}
use Rattle.hm_types.specs.declared.id.Pfs.{Pfs}
use Rattle.hm_key.specs.Balance.{Balanced, content_of}
use Rattle.hm_key.specs.Elements.{IsContent}
use Rattle.hm_key.specs.Extents.{Extent}
use Rattle.hm_key.specs.Stores.{Same}
use Rattle.hm_key.specs.declared.element.Element.{Element}
use Rattle.hm_retain.specs.Retention.{IsCut, IsRetention, IsTooMany}
use Rattle.hm_cursor.proofs.CallLemmas.{known_both, writes_from, writes_so}
use Rattle.hm_cursor.specs.Names.{IsHash}
use Rattle.hm_cursor.specs.Told.{IsRecordNow, Lists, OnBalanced, fulls}
use Rattle.hm_cursor.specs.Write.{Writes}
use Rattle.hm_model.specs.Call.{Call}
use Rattle.hm_model.specs.Caused.{number_of, possible}
use Rattle.hm_model.specs.Cut.{greatest, snapshot_ids}
use Rattle.hm_model.specs.Due.{Check, accepted, first_refusal, is_dir}
use Rattle.hm_model.specs.Needs.{names_zones}
use Rattle.hm_model.specs.Sites.{Parsed}
use Rattle.hm_model.specs.View.{Position as Place, object_at}
use Rattle.hm_model.specs.Walk.{Follows}
use Rattle.hm_model.specs.declared.command.Command.{Command}
use Rattle.hm_model.specs.declared.command.Command.TheVariants.{Prune}
use Rattle.hm_model.specs.declared.reply.Reply.{Reply}
use Rattle.hm_model.specs.declared.reply.Reply.TheVariants.{Done, NoSnapshots, NoSpace, NotDir, TooManyIntervals}
use Rattle.hm_model.proofs.PlainCheckLemmas.{first_none, first_some}
use Rattle.hm_records.specs.declared.pfs_record.PfsRecord.{PfsRecord}
use Rattle.hm_dirs.specs.Walk.{IsRead, Scene, place_of}
use Rattle.hm_dirs.specs.declared.position.Stand.{Stand}
use Rattle.hm_dirs.proofs.WalkLoopLemmas.{same_twice}
use Rattle.hm_view.specs.Trees.{OnTrees}
use Rattle.hm_calls.specs.Call.{IsCall, OnCalls}
use Rattle.hm_calls.specs.Due.{refusal_over, space_for, space_left}
use Rattle.hm_calls.specs.Places.{ask_kind}
use Rattle.hm_calls.specs.Possible.{IsGiven, IsNoSpace}
use Rattle.hm_calls.specs.Prunes.{CutsEach, GivesOpening, HasRecordAfter, IsRecordAfter, IsRefusedBy, OpeningLeadsTo, SetsTo, command_of, kept_by}
use Rattle.hm_calls.specs.Prunes.{mode_by, system_after}
use Rattle.hm_calls.specs.Replies.{IsRefusalOf}
use Rattle.hm_calls.specs.Stop.{Answers, Decides, IfRefused, OfRefusal, TellsRefusal}
use Rattle.hm_calls.specs.Systems.{ComesTo, MayRefuse, PassesEarly, later_checks}
use Rattle.hm_calls.specs.declared.pruning.Led.{Led}
use Rattle.hm_calls.specs.declared.pruning.Pruning.{Pruning}
use Rattle.hm_calls.specs.declared.pruning.Pruning.TheVariants.{Present, Snapshots}
use Rattle.hm_calls.specs.declared.stop.Stop.{Stop}
use Rattle.hm_calls.specs.declared.stop.Stop.TheVariants.{Failed, Refused}
use Rattle.hm_calls.proofs.RetentionLemmas.{numbers}
use Rattle.hm_calls.proofs.SceneLemmas.{IsStoppedBy}
use Rattle.hm_calls.proofs.StageLemmas.{space_before}
use Rattle.hm_calls.proofs.SystemLemmas.{given_later}
use Rattle.hm_calls.proofs.PruneCheckLemmas.{IsDirectory, FindsKept, AreNamed, calls_both, calls_each, calls_so, both_told, done_is, empty_refused}
use Rattle.hm_calls.proofs.PruneCheckLemmas.{finds_kept, gone_refused, many_refused, named_passes, named_record, no_directory, present_passes, retained_by}
use Rattle.hm_calls.proofs.PruneCheckLemmas.{space_is}

-- ---- what the look for the record tells

-- of the later checks of `prune`, and of the record that it is to have
abbrev pub Names : List ℕ → (ℕ → ℕ) → ℕ → Stand → Result PfsRecord Stop → List FullElement → Call → Type 0
Names word room free stand result list call =
    call.command ≡ Prune word → ComesTo Follows room free stand list call
    → Answers (first_refusal (later_checks call)) result
    × IfOk result (λ to. IsRecordAfter (system_after Snapshots call) call.volume stand.at.pfs.0 to list)

-- of those of both openings
abbrev pub Tells : Pruning → List ℕ → (ℕ → ℕ) → ℕ → Stand → Result (Option PfsRecord) Stop → List FullElement → Call → Type 0
Tells pruning word room free stand result list call =
    call.command ≡ command_of pruning word → ComesTo (mode_by pruning) room free stand list call
    → Answers (first_refusal (later_checks call)) result
    × IfOk result (λ to. HasRecordAfter (system_after pruning call) call.volume stand.at.pfs.0 to list)

module _ (word : List ℕ) (room : ℕ → ℕ) (free : ℕ) (stand : Stand) (hash : List ℕ → ℕ) (id : ℕ) (es : Option (List Element)) (xs : Option (List Extent)) where
  -- the walk came to no directory
  pub names_stopped : (result : Result PfsRecord Stop) (stopped : Stop) → result ≡ Err stopped
      → ((scene : Scene) → IsRead scene stand
      → Decides {T = Unit {0}} (ask_kind is_dir NotDir (object_at scene.view (place_of stand.at))) (Err stopped))
      → OnCalls hash id es xs (Names word room free stand result)
  names_stopped result stopped is told =
      subst (λ (r : Result PfsRecord Stop). OnCalls hash id es xs (Names word room free stand r)) (sym is)
      (calls_each hash id es xs (Names word room free stand (Err stopped)) (λ list call of_call asks comes.
      by_stop stopped call (no_directory call word room free stand list stopped asks comes told))) where
        by_stop : (s : Stop) (call : Call) → IsStoppedBy (first_refusal (later_checks call)) s
            → Answers {T = PfsRecord} (first_refusal (later_checks call)) (Err s) × Unit {0}
        by_stop (Refused reply) call refuses = (refuses, tt)
        by_stop (Failed fault) call refuses = (tt, tt)

  -- there is no record
  pub names_gone : IfSome es IsContent → IsDirectory stand → OnBalanced es xs (λ lists. IsRecordNow lists stand.at.pfs.0 None)
      → OnCalls hash id es xs (Names word room free stand (Err (Refused NoSnapshots)))
  names_gone content directory told =
      calls_so hash id es xs (Names word room free stand (Err (Refused NoSnapshots))) (λ lists. IsRecordNow lists stand.at.pfs.0 None) content told
      (λ lists call own none is asks comes. (gone_refused call word room free stand lists hash id asks is comes directory none, tt))

  -- a record, and the ids that the softlinks name
  module _ (es' : Option (List Element)) (xs' : Option (List Extent)) (few : IsHash hash) (content : IfSome es IsContent) (directory : IsDirectory stand)
      (was : PfsRecord) (ids : List Id) (shown : ℕ) (shown_by : shown ≡ (if was.master then id else was.sync_end.0))
      (now : OnBalanced es xs (λ lists. IsRecordNow lists stand.at.pfs.0 (Some was)))
      (named : OnTrees es' xs' stand.at.pfs.0 stand.as_of.0 (λ lists tree. IsPermutation (snapshot_ids tree stand.at.object shown) (numbers ids)))
      (same : es' ≡ es) (same' : xs' ≡ xs) where
    here : OnBalanced es xs (AreNamed stand shown ids)
    here =
        subst (λ (o : Option (List Extent)). OnBalanced es o (AreNamed stand shown ids)) same'
        (subst (λ (o : Option (List Element)). OnBalanced o xs' (AreNamed stand shown ids)) same named)

    names_by : (result : Result PfsRecord Stop)
        → ((lists : Lists) (call : Call) → IsRecordNow lists stand.at.pfs.0 (Some was) → call.command ≡ Prune word
        → ComesTo Follows room free stand (fulls lists) call → FindsKept call stand.at.pfs.0 was ids
        → Answers (first_refusal (later_checks call)) result
        × IfOk result (λ to. IsRecordAfter (system_after Snapshots call) call.volume stand.at.pfs.0 to (fulls lists)))
        → OnCalls hash id es xs (Names word room free stand result)
    names_by result next =
        calls_so hash id es xs (Names word room free stand result)
        (λ lists. IsRecordNow lists stand.at.pfs.0 (Some was) × AreNamed stand shown ids lists) content
        (both_told es xs (λ lists. IsRecordNow lists stand.at.pfs.0 (Some was)) (AreNamed stand shown ids) now here)
        (λ lists call own known is asks comes.
        next lists call known.0 asks comes
        (finds_kept call room free stand lists hash id shown was ids own few is comes known.0 shown_by known.1))

    -- they name none
    pub names_empty : length ids ≡ 0 → OnCalls hash id es xs (Names word room free stand (Err (Refused NoSnapshots)))
    names_empty none =
        names_by (Err (Refused NoSnapshots))
        (λ lists call record_now asks comes finds.
        (empty_refused call word room free stand (fulls lists) was ids asks comes directory finds none, tt))

    -- too many intervals would be left
    pub names_many : (result : Result PfsRecord Stop) (stopped : Stop) → result ≡ Err stopped → (length ids == 0) ≡ false
        → OfRefusal (λ reply. (count : ℕ) × (reply ≡ TooManyIntervals count) × IsTooMany (IsCut was.retention ids (greatest (numbers ids))) count) stopped
        → OnCalls hash id es xs (Names word room free stand result)
    names_many result stopped is some many =
        subst (λ (r : Result PfsRecord Stop). OnCalls hash id es xs (Names word room free stand r)) (sym is) (by_stop stopped many) where
          by_stop : (s : Stop)
              → OfRefusal (λ reply. (count : ℕ) × (reply ≡ TooManyIntervals count) × IsTooMany (IsCut was.retention ids (greatest (numbers ids))) count) s
              → OnCalls hash id es xs (Names word room free stand (Err s))
          by_stop (Refused reply) (count, told, counted) =
              names_by (Err (Refused reply))
              (λ lists call record_now asks comes finds. (
                many_refused call word room free stand (fulls lists) was ids count asks comes directory record_now.0 finds some counted
                    ∙ ap Some (sym told),
                tt,
              ))
          by_stop (Failed fault) told = names_by (Err (Failed fault)) (λ lists call record_now asks comes finds. (tt, tt))

    -- this is left
    pub names_left : (left : List (ℕ × ℕ)) → (length ids == 0) ≡ false → IsCut was.retention ids (greatest (numbers ids)) left → IsRetention left
        → greatest (numbers ids) < 2 ^ 64 → OnCalls hash id es xs (Names word room free stand (Ok (record was { retention = left })))
    names_left left some is small less =
        names_by (Ok (record was { retention = left }))
        (λ lists call record_now asks comes finds. (
          named_passes call word room free stand (fulls lists) was ids left asks comes directory record_now.0 finds some is small,
          named_record call stand.at.pfs.0 was ids left (fulls lists) record_now.0 finds is small
              (retained_by stand.at.pfs.0 was (fulls lists) ids (greatest (numbers ids)) left record_now.0 record_now.1 is small (λ _. less)),
        ))

  -- what `prune` looked for was refused
  pub tells_stopped : (result : Result (Option PfsRecord) Stop) (stopped : Stop) → result ≡ Err stopped
      → OnCalls hash id es xs (Names word room free stand (Err stopped)) → OnCalls hash id es xs (Tells Snapshots word room free stand result)
  tells_stopped result stopped is told =
      subst (λ (r : Result (Option PfsRecord) Stop). OnCalls hash id es xs (Tells Snapshots word room free stand r)) (sym is)
      (calls_both hash id es xs (Names word room free stand (Err stopped)) (Names word room free stand (Err stopped))
      (Tells Snapshots word room free stand (Err stopped)) (λ list call of_call one two asks comes. (by_stop stopped call (one asks comes).0, tt))
      told told) where
        by_stop : (s : Stop) (call : Call) → Answers {T = PfsRecord} (first_refusal (later_checks call)) (Err s)
            → Answers {T = Option PfsRecord} (first_refusal (later_checks call)) (Err s)
        by_stop (Refused reply) call refuses = refuses
        by_stop (Failed fault) call refuses = tt

  -- it was found
  pub tells_named : (to : PfsRecord) → OnCalls hash id es xs (Names word room free stand (Ok to))
      → OnCalls hash id es xs (Tells Snapshots word room free stand (Ok (Some to)))
  tells_named to told =
      calls_both hash id es xs (Names word room free stand (Ok to)) (Names word room free stand (Ok to))
      (Tells Snapshots word room free stand (Ok (Some to))) (λ list call of_call one two asks comes. one asks comes) told told

  -- so was that of `prune-everything`
  pub tells_present : (to : Option PfsRecord)
      → OnCalls hash id es xs (λ list call. HasRecordAfter (system_after Present call) call.volume stand.at.pfs.0 to list)
      → OnCalls hash id es xs (Tells Present word room free stand (Ok to))
  tells_present to told =
      calls_both hash id es xs (λ list call. HasRecordAfter (system_after Present call) call.volume stand.at.pfs.0 to list)
      (λ list call. HasRecordAfter (system_after Present call) call.volume stand.at.pfs.0 to list)
      (Tells Present word room free stand (Ok to)) (λ list call of_call one two asks comes. (present_passes call word asks, one)) told told

-- ---- what the opening leads to

module _ {S : Type 0} (elements_of : S → Option (List Element)) (mark_of : S → Key → ℕ) (extents_of : S → Option (List Extent)) (room_of : S → ℕ → ℕ)
    (free_of : S → ℕ) (hash : List ℕ → ℕ) (id : ℕ) (pruning : Pruning) (word : List ℕ) where
  abbrev Asks : Call → Type 0
  Asks call = call.command ≡ command_of pruning word

  -- a step before the walk's end, or the walk, refused it
  pub leads_refused : (old new : S) (result : Result Led Stop) (stopped : Stop) → result ≡ Err stopped
      → OfRefusal (IsRefusalOf hash id Asks (elements_of old) (extents_of old) (room_of old) (free_of old)) stopped
      → Same elements_of mark_of extents_of room_of free_of old new
      → OpeningLeadsTo elements_of mark_of extents_of room_of free_of hash id pruning word old new result
  leads_refused old new result stopped is refuses same =
      subst (λ (r : Result Led Stop). OpeningLeadsTo elements_of mark_of extents_of room_of free_of hash id pruning word old new r) (sym is)
      (by_stop stopped refuses) where
        by_stop : (s : Stop) → OfRefusal (IsRefusalOf hash id Asks (elements_of old) (extents_of old) (room_of old) (free_of old)) s
            → OpeningLeadsTo elements_of mark_of extents_of room_of free_of hash id pruning word old new (Err s)
        by_stop (Refused reply) refuses = (refuses, same)
        by_stop (Failed fault) refuses = tt

  module _ (old mid : S) (stand : Stand) (comes : OnCalls hash id (elements_of old) (extents_of old)
      (λ list call. Asks call → ComesTo (mode_by pruning) (room_of old) (free_of old) stand list call)) where
    -- what the look for the record tells
    abbrev pub IsTold : Result (Option PfsRecord) Stop → List FullElement → Call → Type 0
    IsTold = Tells pruning word (room_of old) (free_of old) stand

    -- one of its own checks did
    pub later_refused : (stopped : Stop) → OnCalls hash id (elements_of old) (extents_of old) (IsTold (Err stopped))
        → OfRefusal (IsRefusalOf hash id Asks (elements_of old) (extents_of old) (room_of old) (free_of old)) stopped
    later_refused (Failed fault) told = tt
    later_refused (Refused reply) told =
        calls_both hash id (elements_of old) (extents_of old)
        (λ list call. Asks call → ComesTo (mode_by pruning) (room_of old) (free_of old) stand list call)
        (IsTold (Err (Refused reply)))
        (λ list call. Asks call → refusal_over call (room_of old) (free_of old) ≡ Some reply)
        (λ list call is come refuses asks.
        (come asks).due
        ∙ first_some (later_checks call) (space_left call (room_of old) (free_of old) ∷ []) reply (refuses asks (come asks)).0) comes told

    module _ (to : Option PfsRecord) (after : OnCalls hash id (elements_of old) (extents_of old) (IsTold (Ok to)))
        (same : Same elements_of mark_of extents_of room_of free_of old mid) where
      abbrev Finds : List FullElement → Call → Type 0
      Finds list call =
          Asks call → ComesTo (mode_by pruning) (room_of old) (free_of old) stand list call × (first_refusal (later_checks call) ≡ None)
          × HasRecordAfter (system_after pruning call) call.volume stand.at.pfs.0 to list

      finds : OnCalls hash id (elements_of old) (extents_of old) Finds
      finds =
          calls_both hash id (elements_of old) (extents_of old)
          (λ list call. Asks call → ComesTo (mode_by pruning) (room_of old) (free_of old) stand list call)
          (IsTold (Ok to)) Finds
          (λ list call is come tells asks. let (passes, has) = tells asks (come asks) in (come asks, passes, has)) comes after

      -- the check on space alone is left
      over_space : (check : Check) → space_for names_zones 0 (room_of mid) (free_of mid) ≡ check
          → OnCalls hash id (elements_of old) (extents_of old)
          (λ list call. Asks call → first_refusal (check ∷ []) ≡ refusal_over call (room_of old) (free_of old))
      over_space check is =
          calls_both hash id (elements_of old) (extents_of old) Finds Finds
          (λ list call. Asks call → first_refusal (check ∷ []) ≡ refusal_over call (room_of old) (free_of old))
          (λ list call of_call known also asks.
          let (come, passes, has) = known asks in
          let here : space_for names_zones 0 (room_of old) (free_of old) ≡ check =
          space_before (λ r f. space_for names_zones 0 r f ≡ check) (room_of old) (room_of mid) (free_of old) (free_of mid) same.room same.free is in
          sym (come.due ∙ first_none (later_checks call) (space_left call (room_of old) (free_of old) ∷ []) passes
          ∙ ap (λ (c : Check). first_refusal (c ∷ [])) (space_is pruning word call (room_of old) (free_of old) asks ∙ here))) finds finds

      pub leads_cut : (new : S) (result : Result Led Stop) → Balanced (elements_of old) (extents_of old)
          → Answers (space_for names_zones 0 (room_of mid) (free_of mid)) result
          → IfOk result (λ led. (led.pfs ≡ stand.at.pfs) × (led.kept ≡ kept_by to))
          → OnOk result (Writes elements_of extents_of (SetsTo stand.at.pfs.0 to) mid new)
          → IfRefused result (λ _. Same elements_of mark_of extents_of room_of free_of mid new)
          → OpeningLeadsTo elements_of mark_of extents_of room_of free_of hash id pruning word old new result
      leads_cut new (Ok led) balanced check is sets stayed = (
        calls_both hash id (elements_of old) (extents_of old)
            (λ list call. Asks call → first_refusal (None ∷ []) ≡ refusal_over call (room_of old) (free_of old))
            (λ list call. Asks call → first_refusal (None ∷ []) ≡ refusal_over call (room_of old) (free_of old))
            (λ list call. Asks call → (refusal_over call (room_of old) (free_of old) ≡ None) × (accepted call ≡ Done))
            (λ list call of_call one two asks. (sym (one asks), done_is pruning word call asks)) (over_space None check) (over_space None check),
        writes_so elements_of extents_of (SetsTo stand.at.pfs.0 to) (CutsEach elements_of mark_of extents_of room_of free_of hash id pruning word led)
            (λ was. (call : Call) → IsCall hash id (fulls was) call → Finds (fulls was) call) old new
            (known_both (content_of (elements_of old) (extents_of old)) (λ lists found balanced. found balanced) finds balanced)
            (λ was es' known set call called asks.
            let (come, passes, has) = known call called asks in
            record {
              pfs = ap (λ (p : Pfs). p.0) is.0 ∙ sym (ap (λ (p : Place). p.pfs) come.at);
              to = to;
              after = subst (λ (p : Pfs). HasRecordAfter (system_after pruning call) call.volume p.0 to (fulls was)) (sym is.0) has;
              kept = is.1;
              sets = subst (λ (p : Pfs). SetsTo p.0 to (fulls was) es') (sym is.0) set;
            })
            (writes_from elements_of extents_of (SetsTo stand.at.pfs.0 to) old mid new same.elements same.extents sets),
      )
      leads_cut new (Err (Refused reply)) balanced check is sets stayed = (
        calls_both hash id (elements_of old) (extents_of old)
            (λ list call. Asks call → first_refusal (Some reply ∷ []) ≡ refusal_over call (room_of old) (free_of old))
            (λ list call. Asks call → first_refusal (Some reply ∷ []) ≡ refusal_over call (room_of old) (free_of old))
            (λ list call. Asks call → refusal_over call (room_of old) (free_of old) ≡ Some reply)
            (λ list call of_call one two asks. sym (one asks)) (over_space (Some reply) check) (over_space (Some reply) check),
        same_twice same stayed,
      )
      leads_cut new (Err (Failed fault)) balanced check is sets stayed = tt

-- ---- what may be answered

pub gives_stopped : (id : ℕ) (command : Command) (result : Result Led Stop) (stopped : Stop) → result ≡ Err stopped → OfRefusal (IsRefusedBy id command) stopped
    → GivesOpening id command result
gives_stopped id command result stopped is told = subst (GivesOpening id command) (sym is) told

-- a walk that was refused may be, and tells a refusal
pub refused_both : (id : ℕ) (command : Command) (stopped : Stop) → OfRefusal (IsGiven id command) stopped → OfRefusal TellsRefusal stopped
    → OfRefusal (IsRefusedBy id command) stopped
refused_both id command (Refused reply) given refuses = record { given = given; refuses = refuses }
refused_both id command (Failed fault) given refuses = tt

refused_later : (id : ℕ) (command : Command) (reply : Reply) → PassesEarly id command → MayRefuse command reply → IsRefusedBy id command reply
refused_later id command reply early may = record {
  given = given_later id command reply may.own early may.listed;
  refuses = may.refuses;
}

pub gives_later : (id : ℕ) (command : Command) (stopped : Stop) → PassesEarly id command → OfRefusal (MayRefuse command) stopped
    → OfRefusal (IsRefusedBy id command) stopped
gives_later id command (Refused reply) early may = refused_later id command reply early may
gives_later id command (Failed fault) early may = tt

lacks_space : (pruning : Pruning) (word : List ℕ) (reply : Reply) → IsNoSpace reply → MayRefuse (command_of pruning word) reply
lacks_space Snapshots word (NoSpace free needed) is = record { own = tt; listed = λ paths. (3, omega arith, refl); refuses = refl }
lacks_space Present word (NoSpace free needed) is = record { own = tt; listed = λ paths. (1, omega arith, refl); refuses = refl }
lacks_space pruning word other is = absurd is

-- the refusals of its own checks
pub may_be_no_directory : (word : List ℕ) (reply : Reply) → reply ≡ NotDir → MayRefuse (Prune word) reply
may_be_no_directory word reply is = subst (MayRefuse (Prune word)) (sym is) (record { own = tt; listed = λ paths. (5, omega arith, refl); refuses = refl })

pub may_be_unnamed : (word : List ℕ) → MayRefuse (Prune word) NoSnapshots
may_be_unnamed word = record { own = tt; listed = λ paths. (1, omega arith, refl); refuses = refl }

pub may_be_many : (word : List ℕ) (reply : Reply) (count : ℕ) → reply ≡ TooManyIntervals count → MayRefuse (Prune word) reply
may_be_many word reply count is = subst (MayRefuse (Prune word)) (sym is) (record { own = tt; listed = λ paths. (2, omega arith, refl); refuses = refl })

-- what a step that was stopped may give, the call may give
pub may_stop : {A : Type 0} (command : Command) (result : Result A Stop) (stopped : Stop) → result ≡ Err stopped → OfRefusal (MayRefuse command) stopped
    → IfRefused result (MayRefuse command)
may_stop command result stopped is may = subst (λ r. IfRefused r (MayRefuse command)) (sym is) may

pub refusal_each : (P Q : Reply → Type 0) (stopped : Stop) → ((reply : Reply) → P reply → Q reply) → OfRefusal P stopped → OfRefusal Q stopped
refusal_each P Q (Refused reply) step told = step reply told
refusal_each P Q (Failed fault) step told = tt

is_done : (pruning : Pruning) (word : List ℕ) (paths : List Parsed) → Contains (possible (command_of pruning word) paths) (number_of Done)
is_done Snapshots word paths = (0, omega arith, refl)
is_done Present word paths = (0, omega arith, refl)

pub gives_cut : (id : ℕ) (pruning : Pruning) (word : List ℕ) (result : Result Led Stop) → PassesEarly id (command_of pruning word)
    → IfRefused result IsNoSpace → GivesOpening id (command_of pruning word) result
gives_cut id pruning word (Ok led) early lacks = given_later id (command_of pruning word) Done tt early (is_done pruning word)
gives_cut id pruning word (Err (Refused reply)) early lacks =
    refused_later id (command_of pruning word) reply early (lacks_space pruning word reply lacks)
gives_cut id pruning word (Err (Failed fault)) early lacks = tt

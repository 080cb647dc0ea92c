-- The checks of a prune's opening, from what its steps tell, and the record that they lead to.
use Rattle.std.proofs.Common.{◌≡◌, ℕ, suc, ◌-◌, ◌^◌, ◌<◌, List, [], ◌∷◌, Bool, true, false, length, min, Option, Some, None, Err, refl, sym, ap, subst, ◌∙◌}
use Rattle.std.proofs.Common.{arith}
use Rattle.std.specs.Prelude.{◌==◌, IfSome, if◌then◌else◌}
use Rattle.std.specs.Bool.{nat_lt}
use Rattle.std.specs.List.Sorted.{IsPermutation}
use Rattle.std.specs.Option.{option_map_or}
use Rattle.std.proofs.lemmas.Bool.{false≢true}
use Rattle.std.proofs.lemmas.Bool.Decides.{nat_tests}
use Rattle.std.proofs.lemmas.List.Sorted.{length_permutation}
use Rattle.hm_types.specs.Elements.{FullElement}
use Rattle.hm_types.specs.Tree.{FileTree}
use Rattle.hm_types.specs.declared.id.Id.{Id}
use Rattle.hm_types.specs.declared.limits.TheConstants.{MOST_INTERVALS}
use Rattle.hm_key.specs.Balance.{content_of, full_elements}
use Rattle.hm_key.specs.Counts.{Counts, record_subject}
use Rattle.hm_key.specs.Elements.{IsContent}
use Rattle.hm_key.specs.Extents.{Extent}
use Rattle.hm_key.specs.Versions.{HaveOwnKeys}
use Rattle.hm_key.specs.declared.element.Element.{Element}
use Rattle.hm_retain.specs.Retention.{IsCut, IsRetention, IsTooMany}
use Rattle.hm_cursor.proofs.CallLemmas.{known_both}
use Rattle.hm_cursor.proofs.PayloadLemmas.{full_sorted}
use Rattle.hm_cursor.specs.Names.{IsHash}
use Rattle.hm_cursor.specs.Told.{IsRecordNow, Lists, OnBalanced, fulls}
use Rattle.hm_model.specs.After.{present_only, retaining}
use Rattle.hm_model.specs.Call.{Call, call_shown, first_site}
use Rattle.hm_model.specs.Cut.{cut, greatest, pruned, snapshot_ids}
use Rattle.hm_model.specs.Due.{Check, a_dir, accepted, first_refusal, has_snapshots, is_dir, kept_ids, pruned_count, refuse_if}
use Rattle.hm_model.specs.Needs.{names_zones}
use Rattle.hm_model.specs.View.{Position as Place, object_at}
use Rattle.hm_model.specs.Volume.{PseudoFileSystem, Role, Master, Slave, shown_id, system_of}
use Rattle.hm_model.specs.Walk.{Follow as Mode, Follows}
use Rattle.hm_model.specs.declared.command.Command.{Command}
use Rattle.hm_model.specs.declared.command.Command.TheVariants.{Prune, PruneAll}
use Rattle.hm_model.specs.declared.reply.Reply.TheVariants.{Done, NoSnapshots, NotDir, TooManyIntervals}
use Rattle.hm_records.proofs.CountsLemmas.{own_keys-sorted}
use Rattle.hm_records.specs.KeysFit.{KeysFit}
use Rattle.hm_records.specs.PfsRecord.{IsPfsRecord, pfs_bytes}
use Rattle.hm_types.specs.Intervals.{open_end}
use Rattle.hm_records.specs.View.{IsViewOf}
use Rattle.hm_records.specs.declared.pfs_record.PfsRecord.{PfsRecord}
use Rattle.hm_volume.specs.Records.{IsRecordFor, is_master as is_master_role}
use Rattle.hm_dirs.specs.Walk.{IsRead, Scene, place_of, when_of}
use Rattle.hm_dirs.specs.declared.position.Stand.{Stand}
use Rattle.hm_calls.specs.Call.{IsCall, OnCalls}
use Rattle.hm_calls.specs.Due.{space_for, space_left}
use Rattle.hm_calls.specs.Places.{ask_kind}
use Rattle.hm_calls.specs.Prunes.{HasRecordAfter, IsRecordAfter, IsRetained, IsPresentOf, command_of, mode_by, system_after}
use Rattle.hm_calls.specs.Stop.{Decides}
use Rattle.hm_calls.specs.Systems.{ComesTo, IsOnSystem, later_checks, of_prune, of_prune_all, scene_of}
use Rattle.hm_calls.specs.declared.pruning.Pruning.{Pruning}
use Rattle.hm_calls.specs.declared.pruning.Pruning.TheVariants.{Present, Snapshots}
use Rattle.hm_calls.specs.declared.stop.Stop.{Stop}
use Rattle.hm_calls.specs.declared.stop.Stop.TheVariants.{Failed, Refused}
use Rattle.hm_calls.proofs.RefusalLemmas.{all_pass, pass, stop}
use Rattle.hm_calls.proofs.RetentionLemmas.{cut_record, numbers, present_is, pruned_is, synced_is}
use Rattle.hm_calls.proofs.SceneLemmas.{IsStoppedBy}
use Rattle.hm_calls.proofs.SystemLemmas.{as_command, system_gone, system_there}

-- ---- the checks of both

pub on_system : (pruning : Pruning) (word : List ℕ) → IsOnSystem word (mode_by pruning) (command_of pruning word)
on_system Snapshots word = of_prune
on_system Present word = of_prune_all

pub on_by : (pruning : Pruning) (word : List ℕ) (mode : Mode) → mode ≡ mode_by pruning → IsOnSystem word mode (command_of pruning word)
on_by pruning word mode is = subst (λ (m : Mode). IsOnSystem word m (command_of pruning word)) (sym is) (on_system pruning word)

-- those of `prune`
abbrev named_checks : Call → List Check
named_checks call =
    a_dir call (first_site call) ∷ has_snapshots call
    ∷ refuse_if (nat_lt MOST_INTERVALS (pruned_count call)) (TooManyIntervals (min (pruned_count call) (2 ^ 32 - 1))) ∷ []

named_are : (call : Call) (word : List ℕ) → call.command ≡ Prune word → later_checks call ≡ named_checks call
named_are call word asks = as_command (λ c. later_checks c ≡ named_checks c) call (Prune word) asks refl

-- `prune-everything` has none
pub present_passes : (call : Call) (word : List ℕ) → call.command ≡ PruneAll word → first_refusal (later_checks call) ≡ None
present_passes call word asks = as_command (λ c. first_refusal (later_checks c) ≡ None) call (PruneAll word) asks refl

pub space_is : (pruning : Pruning) (word : List ℕ) (call : Call) (room : ℕ → ℕ) (free : ℕ) → call.command ≡ command_of pruning word
    → space_left call room free ≡ space_for names_zones 0 room free
space_is Snapshots word call room free asks =
    as_command (λ c. space_left c room free ≡ space_for names_zones 0 room free) call (Prune word) asks refl
space_is Present word call room free asks =
    as_command (λ c. space_left c room free ≡ space_for names_zones 0 room free) call (PruneAll word) asks refl

pub done_is : (pruning : Pruning) (word : List ℕ) (call : Call) → call.command ≡ command_of pruning word → accepted call ≡ Done
done_is Snapshots word call asks = as_command (λ c. accepted c ≡ Done) call (Prune word) asks refl
done_is Present word call asks = as_command (λ c. accepted c ≡ Done) call (PruneAll word) asks refl

-- ---- facts of calls

-- what holds of each call over a content that is told holds of each
pub calls_so : (hash : List ℕ → ℕ) (id : ℕ) (es : Option (List Element)) (xs : Option (List Extent)) (R : List FullElement → Call → Type 0) (Q : Lists → Type 0)
    → IfSome es IsContent → OnBalanced es xs Q
    → ((lists : Lists) (call : Call) → HaveOwnKeys (fulls lists) → Q lists → IsCall hash id (fulls lists) call → R (fulls lists) call)
    → OnCalls hash id es xs R
calls_so hash id None xs R Q content told next = tt
calls_so hash id (Some es) None R Q content told next = tt
calls_so hash id (Some es) (Some xs) R Q content told next = λ balanced call is.
    next (es, xs) call (own_keys-sorted (full_elements es xs) (full_sorted es xs content.rising)) (told balanced) is

pub calls_each : (hash : List ℕ → ℕ) (id : ℕ) (es : Option (List Element)) (xs : Option (List Extent)) (R : List FullElement → Call → Type 0)
    → ((list : List FullElement) (call : Call) → IsCall hash id list call → R list call) → OnCalls hash id es xs R
calls_each hash id None xs R next = tt
calls_each hash id (Some es) None R next = tt
calls_each hash id (Some es) (Some xs) R next = λ balanced call is. next (fulls (es, xs)) call is

pub calls_both : (hash : List ℕ → ℕ) (id : ℕ) (es : Option (List Element)) (xs : Option (List Extent)) (P Q R : List FullElement → Call → Type 0)
    → ((list : List FullElement) (call : Call) → IsCall hash id list call → P list call → Q list call → R list call)
    → OnCalls hash id es xs P → OnCalls hash id es xs Q → OnCalls hash id es xs R
calls_both hash id None xs P Q R next one two = tt
calls_both hash id (Some es) None P Q R next one two = tt
calls_both hash id (Some es) (Some xs) P Q R next one two = λ balanced call is. next (fulls (es, xs)) call is (one balanced call is) (two balanced call is)

-- where the walk of such a call came
pub comes_by : (hash : List ℕ → ℕ) (id : ℕ) (es : Option (List Element)) (xs : Option (List Extent)) (room : ℕ → ℕ) (free : ℕ) (stand : Stand)
    (pruning : Pruning) (word : List ℕ) (mode : Mode) → mode ≡ mode_by pruning
    → ((command : Command) → IsOnSystem word mode command
    → OnCalls hash id es xs (λ list call. call.command ≡ command → ComesTo mode room free stand list call))
    → OnCalls hash id es xs (λ list call. call.command ≡ command_of pruning word → ComesTo (mode_by pruning) room free stand list call)
comes_by hash id es xs room free stand pruning word mode is comes =
    subst (λ (m : Mode). OnCalls hash id es xs (λ list call. call.command ≡ command_of pruning word → ComesTo m room free stand list call)) is
    (comes (command_of pruning word) (on_by pruning word mode is))

-- two facts of a content
pub both_told : (es : Option (List Element)) (xs : Option (List Extent)) (P Q : Lists → Type 0) → OnBalanced es xs P → OnBalanced es xs Q
    → OnBalanced es xs (λ lists. P lists × Q lists)
both_told es xs P Q = known_both (content_of es xs) (λ lists one two balanced. (one balanced, two balanced))

-- ---- the directory of `prune`

-- the walk came to no directory
pub no_directory : (call : Call) (word : List ℕ) (room : ℕ → ℕ) (free : ℕ) (stand : Stand) (list : List FullElement) (stopped : Stop)
    → call.command ≡ Prune word → ComesTo Follows room free stand list call
    → ((scene : Scene) → IsRead scene stand
    → Decides {T = Unit {0}} (ask_kind is_dir NotDir (object_at scene.view (place_of stand.at))) (Err stopped))
    → IsStoppedBy (first_refusal (later_checks call)) stopped
no_directory call word room free stand list (Failed fault) asks comes told = tt
no_directory call word room free stand list (Refused reply) asks comes told =
    ap first_refusal (named_are call word asks)
    ∙ (stop (ap (λ (p : Place). ask_kind is_dir NotDir (object_at call.view p)) comes.at ∙ told (scene_of list call comes.course) (comes.read tt))).is

-- it came to one
abbrev pub IsDirectory : Stand → Type 0
IsDirectory stand = (scene : Scene) → IsRead scene stand → ask_kind is_dir NotDir (object_at scene.view (place_of stand.at)) ≡ None

directory_passes : (call : Call) (room : ℕ → ℕ) (free : ℕ) (stand : Stand) (list : List FullElement) → ComesTo Follows room free stand list call
    → IsDirectory stand → a_dir call (first_site call) ≡ None
directory_passes call room free stand list comes told =
    ap (λ (p : Place). ask_kind is_dir NotDir (object_at call.view p)) comes.at ∙ told (scene_of list call comes.course) (comes.read tt)

none_kept : (call : Call) → length (kept_ids call) ≡ 0 → has_snapshots call ≡ Some NoSnapshots
none_kept call none = ap (λ (n : ℕ). refuse_if (n == 0) NoSnapshots) none

some_kept : (call : Call) → (length (kept_ids call) == 0) ≡ false → has_snapshots call ≡ None
some_kept call some = ap (λ (b : Bool). refuse_if b NoSnapshots) some

-- it has no id to keep
unnamed_refused : (call : Call) (word : List ℕ) → call.command ≡ Prune word → a_dir call (first_site call) ≡ None → length (kept_ids call) ≡ 0
    → first_refusal (later_checks call) ≡ Some NoSnapshots
unnamed_refused call word asks directory none =
    ap first_refusal (named_are call word asks) ∙ (pass directory (stop (none_kept call none))).is

-- there is no such pseudo file system
pub gone_refused : (call : Call) (word : List ℕ) (room : ℕ → ℕ) (free : ℕ) (stand : Stand) (lists : Lists) (hash : List ℕ → ℕ) (id : ℕ)
    → call.command ≡ Prune word → IsCall hash id (fulls lists) call → ComesTo Follows room free stand (fulls lists) call → IsDirectory stand
    → IsRecordNow lists stand.at.pfs.0 None → first_refusal (later_checks call) ≡ Some NoSnapshots
gone_refused call word room free stand lists hash id asks is comes directory none =
    unnamed_refused call word asks (directory_passes call room free stand (fulls lists) comes directory)
    (ap length (ap (λ (o : Option PseudoFileSystem). option_map_or named o [])
    (ap (λ (p : Place). system_of call.volume p.pfs) comes.at ∙ system_gone lists call.volume call.view stand.at.pfs.0 is.shows none))) where
      named : PseudoFileSystem → List ℕ
      named s =
          snapshot_ids (call.view (first_site call).directory.pfs (first_site call).directory.when) (first_site call).at.object (call_shown call s)

-- The ids that its softlinks name, up to the shown one, are those that the call keeps, and its pseudo file system has this
-- record.
pub record FindsKept (call : Call) (pfs : ℕ) (was : PfsRecord) (ids : List Id) : Type 0 where
  pub system : PseudoFileSystem
  pub found : system_of call.volume pfs ≡ Some system
  pub for : IsRecordFor system was
  pub kept : IsPermutation (kept_ids call) (numbers ids)

-- what a look for the names tells
abbrev pub AreNamed : Stand → ℕ → List Id → Lists → Type 0
AreNamed stand shown ids lists =
    (hash : List ℕ → ℕ) → IsHash hash → KeysFit hash (fulls lists) → (tree : FileTree) → IsViewOf (fulls lists) stand.at.pfs.0 stand.as_of.0 tree
    → IsPermutation (snapshot_ids tree stand.at.object shown) (numbers ids)

shown_is : (s : PseudoFileSystem) (was : PfsRecord) (id : ℕ) → IsRecordFor s was → shown_id id s ≡ (if was.master then id else was.sync_end.0)
shown_is s was id for = by_role s.role refl where
  by_role : (role : Role) → s.role ≡ role → elim role [ Master ↦ id | Slave ↦ s.sync_end ] ≡ (if was.master then id else was.sync_end.0)
  by_role Master is = let master : was.master ≡ true = for.0 ∙ ap is_master_role is in rw master refl
  by_role Slave is = let slave : was.master ≡ false = for.0 ∙ ap is_master_role is in rw slave (sym for.2)

pub finds_kept : (call : Call) (room : ℕ → ℕ) (free : ℕ) (stand : Stand) (lists : Lists) (hash : List ℕ → ℕ) (id shown : ℕ) (was : PfsRecord) (ids : List Id)
    → HaveOwnKeys (fulls lists) → IsHash hash → IsCall hash id (fulls lists) call → ComesTo Follows room free stand (fulls lists) call
    → IsRecordNow lists stand.at.pfs.0 (Some was) → shown ≡ (if was.master then id else was.sync_end.0) → AreNamed stand shown ids lists
    → FindsKept call stand.at.pfs.0 was ids
finds_kept call room free stand lists hash id shown was ids own few is comes now shown_by named =
    let (s, there, for) = system_there lists call.volume call.view stand.at.pfs.0 was own is.shows now in
    let tree : FileTree = call.view stand.at.pfs.0 (when_of stand.at.when) in
    let placed : kept_ids call
    ≡ option_map_or (λ (x : PseudoFileSystem). snapshot_ids tree stand.at.object (call_shown call x)) (system_of call.volume stand.at.pfs.0) [] =
    (λ i. option_map_or (λ (x : PseudoFileSystem). snapshot_ids (call.view (comes.directory i).pfs (comes.directory i).when) (comes.at i).object
    (call_shown call x)) (system_of call.volume (comes.at i).pfs) []) in
    let seen : call_shown call s ≡ shown =
    ap (λ (n : ℕ). shown_id n s) is.own ∙ shown_is s was id for ∙ sym shown_by in
    let same : kept_ids call ≡ snapshot_ids tree stand.at.object shown =
    placed
    ∙ ap (λ (o : Option PseudoFileSystem). option_map_or (λ (x : PseudoFileSystem). snapshot_ids tree stand.at.object (call_shown call x)) o []) there
    ∙ ap (snapshot_ids tree stand.at.object) seen in
    record {
      system = s;
      found = there;
      for = for;
      kept = subst (λ (l : List ℕ). IsPermutation l (numbers ids)) (sym same) (named hash few is.keys tree (comes.read tt).view);
    }

length_numbers : (ids : List Id) → length (numbers ids) ≡ length ids
length_numbers [] = refl
length_numbers (id ∷ ids) = ap suc (length_numbers ids)

kept_length : (call : Call) (pfs : ℕ) (was : PfsRecord) (ids : List Id) → FindsKept call pfs was ids → length (kept_ids call) ≡ length ids
kept_length call pfs was ids finds = sym (length_permutation (kept_ids call) (numbers ids) finds.kept) ∙ length_numbers ids

-- no softlink names an id
pub empty_refused : (call : Call) (word : List ℕ) (room : ℕ → ℕ) (free : ℕ) (stand : Stand) (list : List FullElement) (was : PfsRecord) (ids : List Id)
    → call.command ≡ Prune word → ComesTo Follows room free stand list call → IsDirectory stand → FindsKept call stand.at.pfs.0 was ids
    → length ids ≡ 0 → first_refusal (later_checks call) ≡ Some NoSnapshots
empty_refused call word room free stand list was ids asks comes directory finds none =
    unnamed_refused call word asks (directory_passes call room free stand list comes directory) (kept_length call stand.at.pfs.0 was ids finds ∙ none)

-- how many intervals are left
count_is : (call : Call) (room : ℕ → ℕ) (free : ℕ) (stand : Stand) (list : List FullElement) (was : PfsRecord) (ids : List Id) (left : List (ℕ × ℕ))
    → ComesTo Follows room free stand list call → (finds : FindsKept call stand.at.pfs.0 was ids)
    → left ≡ pruned finds.system.retention (kept_ids call) → pruned_count call ≡ length left
count_is call room free stand list was ids left comes finds is =
    ap (λ (p : Place). option_map_or (λ (s : PseudoFileSystem). length (pruned s.retention (kept_ids call))) (system_of call.volume p.pfs) 0) comes.at
    ∙ ap (λ (o : Option PseudoFileSystem). option_map_or (λ (s : PseudoFileSystem). length (pruned s.retention (kept_ids call))) o 0) finds.found
    ∙ ap length (sym is)

left_is : (call : Call) (pfs : ℕ) (was : PfsRecord) (ids : List Id) (left : List (ℕ × ℕ)) → IsPfsRecord was → (finds : FindsKept call pfs was ids)
    → IsCut was.retention ids (greatest (numbers ids)) left → IsRetention left → left ≡ pruned finds.system.retention (kept_ids call)
left_is call pfs was ids left ranges finds is small =
    pruned_is was.retention left ids (kept_ids call) ranges.retention.intervals small.intervals finds.kept is
    ∙ ap (λ (r : List (ℕ × ℕ)). pruned r (kept_ids call)) finds.for.3

-- too many are
pub many_refused : (call : Call) (word : List ℕ) (room : ℕ → ℕ) (free : ℕ) (stand : Stand) (list : List FullElement) (was : PfsRecord) (ids : List Id)
    (count : ℕ)
    → call.command ≡ Prune word → ComesTo Follows room free stand list call → IsDirectory stand → IsPfsRecord was
    → (finds : FindsKept call stand.at.pfs.0 was ids) → (length ids == 0) ≡ false → IsTooMany (IsCut was.retention ids (greatest (numbers ids))) count
    → first_refusal (later_checks call) ≡ Some (TooManyIntervals count)
many_refused call word room free stand list was ids count asks comes directory ranges finds some many =
    let left : many.list ≡ pruned finds.system.retention (kept_ids call) =
    pruned_is was.retention many.list ids (kept_ids call) ranges.retention.intervals many.intervals finds.kept many.meets
    ∙ ap (λ (r : List (ℕ × ℕ)). pruned r (kept_ids call)) finds.for.3 in
    let counted : pruned_count call ≡ length many.list = count_is call room free stand list was ids many.list comes finds left in
    let above : nat_lt MOST_INTERVALS (length many.list) ≡ true = let more = many.many in grind (arith, nat_tests, more) in
    ap first_refusal (named_are call word asks)
    ∙ (pass (directory_passes call room free stand list comes directory)
    (pass (some_kept call (ap (λ (n : ℕ). n == 0) (kept_length call stand.at.pfs.0 was ids finds) ∙ some))
    (stop (ap (λ (n : ℕ). refuse_if (nat_lt MOST_INTERVALS n) (TooManyIntervals (min n (2 ^ 32 - 1)))) counted
    ∙ ap (λ (b : Bool). refuse_if b (TooManyIntervals (min (length many.list) (2 ^ 32 - 1)))) above
    ∙ ap (λ (n : ℕ). Some (TooManyIntervals n)) (sym many.told))))).is

-- all pass
pub named_passes : (call : Call) (word : List ℕ) (room : ℕ → ℕ) (free : ℕ) (stand : Stand) (list : List FullElement) (was : PfsRecord) (ids : List Id)
    (left : List (ℕ × ℕ)) → call.command ≡ Prune word → ComesTo Follows room free stand list call → IsDirectory stand → IsPfsRecord was
    → (finds : FindsKept call stand.at.pfs.0 was ids) → (length ids == 0) ≡ false → IsCut was.retention ids (greatest (numbers ids)) left
    → IsRetention left → first_refusal (later_checks call) ≡ None
named_passes call word room free stand list was ids left asks comes directory ranges finds some is small =
    let same : left ≡ pruned finds.system.retention (kept_ids call) = left_is call stand.at.pfs.0 was ids left ranges finds is small in
    let counted : pruned_count call ≡ length left = count_is call room free stand list was ids left comes finds same in
    let fits : nat_lt MOST_INTERVALS (length left) ≡ false = let few = small.few in grind (arith, nat_tests, few) in
    ap first_refusal (named_are call word asks)
    ∙ (pass (directory_passes call room free stand list comes directory)
    (pass (some_kept call (ap (λ (n : ℕ). n == 0) (kept_length call stand.at.pfs.0 was ids finds) ∙ some))
    (pass (ap (λ (n : ℕ). refuse_if (nat_lt MOST_INTERVALS n) (TooManyIntervals (min n (2 ^ 32 - 1)))) counted
    ∙ ap (λ (b : Bool). refuse_if b (TooManyIntervals (min (length left) (2 ^ 32 - 1)))) fits) all_pass))).is

-- the record that it is to have
pub retained_by : (pfs : ℕ) (was : PfsRecord) (list : List FullElement) (ids : List Id) (from : ℕ) (left : List (ℕ × ℕ)) → IsPfsRecord was
    → Counts list open_end (record_subject pfs) (pfs_bytes was) → IsCut was.retention ids from left → IsRetention left → (was.master ≡ true → from < 2 ^ 64)
    → IsRetained pfs (record was { retention = left }) list
retained_by pfs was list ids from left ranges counts is small late = record {
  was = was;
  ranges_before = ranges;
  counts = counts;
  rest = refl;
  ranges = cut_record was ids from left ranges small is late;
}

pub named_record : (call : Call) (pfs : ℕ) (was : PfsRecord) (ids : List Id) (left : List (ℕ × ℕ)) (list : List FullElement) → IsPfsRecord was
    → (finds : FindsKept call pfs was ids) → IsCut was.retention ids (greatest (numbers ids)) left → IsRetention left
    → IsRetained pfs (record was { retention = left }) list
    → IsRecordAfter (system_after Snapshots call) call.volume pfs (record was { retention = left }) list
named_record call pfs was ids left list ranges finds is small retained = record {
  retained = retained;
  system = finds.system;
  found = finds.found;
  kept = left_is call pfs was ids left ranges finds is small;
}

-- ---- what `prune-everything` keeps

pub present_kept : (s : PseudoFileSystem) (was : PfsRecord) (id : ℕ) (left : List (ℕ × ℕ)) → IsRecordFor s was
    → (was.master ≡ true → left ≡ cut was.retention [] id) → (was.master ≡ false → left ≡ cut was.retention (was.sync_end.0 ∷ []) (2 ^ 64))
    → left ≡ (present_only id s).retention
present_kept s was id left for of_master of_slave = by_role s.role refl where
  by_role : (role : Role) → s.role ≡ role → left ≡ (elim role as (λ _. PseudoFileSystem) [
    | Master ↦ retaining (cut s.retention [] id) s
    | Slave ↦ retaining (cut s.retention (s.sync_end ∷ []) (2 ^ 64)) s
  ]).retention
  by_role Master is = of_master (for.0 ∙ ap is_master_role is) ∙ ap (λ (r : List (ℕ × ℕ)). cut r [] id) for.3
  by_role Slave is =
      of_slave (for.0 ∙ ap is_master_role is)
      ∙ ap (λ (r : List (ℕ × ℕ)). cut r (was.sync_end.0 ∷ []) (2 ^ 64)) for.3
      ∙ ap (λ (n : ℕ). cut s.retention (n ∷ []) (2 ^ 64)) for.2

pub present_retained : (id pfs : ℕ) (was : PfsRecord) (left : List (ℕ × ℕ)) (list : List FullElement) → IsPfsRecord was
    → Counts list open_end (record_subject pfs) (pfs_bytes was) → IsRetention left → (was.master ≡ true → IsCut was.retention [] id left × (id < 2 ^ 64))
    → (was.master ≡ false → IsCut was.retention (was.sync_end ∷ []) (2 ^ 64) left) → IsRetained pfs (record was { retention = left }) list
present_retained id pfs was left list ranges counts small of_master of_slave = by was.master refl where
  by : (master : Bool) → was.master ≡ master → IsRetained pfs (record was { retention = left }) list
  by true is =
      let (cuts, less) = of_master is in
      retained_by pfs was list [] id left ranges counts cuts small (λ _. less)
  by false is =
      retained_by pfs was list (was.sync_end ∷ []) (2 ^ 64) left ranges counts (of_slave is) small (λ master. absurd (false≢true (sym is ∙ master)))

-- it has no record
pub present_none : (hash : List ℕ → ℕ) (id pfs : ℕ) (es : Option (List Element)) (xs : Option (List Extent)) → IfSome es IsContent
    → OnBalanced es xs (λ lists. IsRecordNow lists pfs None)
    → OnCalls hash id es xs (λ list call. HasRecordAfter (system_after Present call) call.volume pfs None list)
present_none hash id pfs es xs content told =
    calls_so hash id es xs (λ list call. HasRecordAfter (system_after Present call) call.volume pfs None list) (λ lists. IsRecordNow lists pfs None)
    content told
    (λ lists call own now is. record { counts = now; none = system_gone lists call.volume call.view pfs is.shows now })

-- it has one, and this is left of its retention
pub present_some : (hash : List ℕ → ℕ) (id pfs : ℕ) (es : Option (List Element)) (xs : Option (List Extent)) (was : PfsRecord) (left : List (ℕ × ℕ))
    → IfSome es IsContent → OnBalanced es xs (λ lists. IsRecordNow lists pfs (Some was)) → IsRetention left → IsPresentOf was id left → id < 2 ^ 64
    → OnCalls hash id es xs (λ list call. HasRecordAfter (system_after Present call) call.volume pfs (Some (record was { retention = left })) list)
present_some hash id pfs es xs was left content told small present less =
    calls_so hash id es xs (λ list call. HasRecordAfter (system_after Present call) call.volume pfs (Some (record was { retention = left })) list)
    (λ lists. IsRecordNow lists pfs (Some was)) content told
    (λ lists call own now is.
    let (s, there, for) = system_there lists call.volume call.view pfs was own is.shows now in
    record {
      retained = present_retained id pfs was left (fulls lists) now.0 now.1 small (λ master. (present.of_master master, less)) present.of_slave;
      system = s;
      found = there;
      kept = subst (λ (n : ℕ). left ≡ (present_only n s).retention) (sym is.own)
          (present_kept s was id left for
          (λ master. present_is was.retention left id now.0.retention.intervals small.intervals (present.of_master master))
          (λ slave. synced_is was.retention left was.sync_end now.0.retention.intervals small.intervals (present.of_slave slave)));
    })

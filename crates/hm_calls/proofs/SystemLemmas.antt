-- Where the calls that speak of a pseudo file system come, and what `pfs-status` answers there.
use Rattle.std.proofs.Common.{◌≡◌, ℕ, suc, ◌+◌, ◌-◌, ◌^◌, ◌≤◌, List, [], ◌∷◌, ◌++◌, Bool, true, false, cond, length, Option, Some, None, Result, Ok}
use Rattle.std.proofs.Common.{Err, refl, sym, ap, subst, ◌∙◌, arith}
use Rattle.std.specs.Prelude.{◌==◌, IfOk, IfSome, find}
use Rattle.std.specs.List.{AllZip, Contains}
use Rattle.std.specs.Option.{option_map_or}
use Rattle.std.proofs.lemmas.Bool.{eqb-true}
use Rattle.hm_types.specs.Elements.{FullElement, Key}
use Rattle.hm_types.specs.declared.id.Id.{Id}
use Rattle.hm_retain.specs.Intervals.{numbers_of}
use Rattle.hm_types.specs.declared.limits.TheConstants.{GREATEST_ID}
use Rattle.hm_path.specs.declared.part.Part.{Part}
use Rattle.hm_path.specs.Path.{IsPath}
use Rattle.hm_key.specs.Balance.{full_elements}
use Rattle.hm_key.specs.Elements.{IsContent}
use Rattle.hm_key.specs.Extents.{Extent}
use Rattle.hm_key.specs.Stores.{Same}
use Rattle.hm_key.specs.Versions.{HaveOwnKeys}
use Rattle.hm_key.specs.declared.element.Element.{Element}
use Rattle.hm_cursor.proofs.PayloadLemmas.{full_sorted}
use Rattle.hm_cursor.specs.Told.{IsRecordNow, Lists, OnBalanced, fulls}
use Rattle.hm_model.specs.Answer.{is_master, record_of}
use Rattle.hm_model.specs.Call.{Call, first_site, site_in, site_system}
use Rattle.hm_model.specs.Caused.{IsPossible, number_of, possible}
use Rattle.hm_model.specs.Due.{Check, a_dir, accepted, early_checks, first_refusal, good_path, has_id, has_snapshots, intervals_left, no_future}
use Rattle.hm_model.specs.Due.{past_stays, refuse_if, walks}
use Rattle.hm_model.specs.Sites.{Parsed, Parts, ReadsWords, Use, Walks, at_end}
use Rattle.hm_model.specs.View.{Position as Place, View}
use Rattle.hm_model.specs.Volume.{PseudoFileSystem, Role, Volume, Master, Slave, system_of}
use Rattle.hm_model.specs.Walk.{Follow as Mode, Follows, TakesPfs, Walked as Outcome, walk}
use Rattle.hm_model.specs.declared.command.Command.{Command}
use Rattle.hm_model.specs.declared.command.Command.TheVariants.{PfsStatus, Prune, PruneAll}
use Rattle.hm_model.specs.declared.reply.Reply.{Reply}
use Rattle.hm_model.specs.declared.reply.Reply.TheVariants.{NotDir, NotFound, NotRetained, PfsIs, ReadOnly}
use Rattle.hm_model.proofs.ReadLemmas.{read_once}
use Rattle.hm_records.specs.KeysFit.{KeysFit}
use Rattle.hm_records.specs.PfsRecord.{pfs_bytes}
use Rattle.hm_types.specs.Intervals.{open_end}
use Rattle.hm_records.specs.declared.pfs_record.PfsRecord.{PfsRecord}
use Rattle.hm_records.proofs.CountsLemmas.{own_keys-sorted, record_counts}
use Rattle.hm_volume.specs.Records.{IsRecordFor, is_master as is_master_role}
use Rattle.hm_volume.specs.Shown.{ShowsAs}
use Rattle.hm_volume.proofs.RecordLemmas.{system_none, system_some}
use Rattle.hm_dirs.specs.Walk.{AreDrawn, OnShown, Scene, place_of}
use Rattle.hm_dirs.specs.declared.position.Course.{Course}
use Rattle.hm_dirs.specs.declared.position.Stand.{Stand}
use Rattle.hm_calls.specs.Call.{IsCall, OnCalls}
use Rattle.hm_calls.specs.Due.{due_over, refusal_over, space_left}
use Rattle.hm_calls.specs.Places.{IsBadPath, IsReached}
use Rattle.hm_calls.specs.Possible.{Gives, IsGiven, IsLost, IsOwn}
use Rattle.hm_calls.specs.Replies.{IsAcceptedBy, IsRefusalOf, Looks}
use Rattle.hm_calls.specs.Stop.{Decides, IfRefused, OfRefusal, TellsRefusal}
use Rattle.hm_calls.specs.Systems.{ComesTo, IsOnSystem, PassesEarly, later_checks, of_prune, of_prune_all, of_status}
use Rattle.hm_calls.specs.declared.stop.Stop.{Stop}
use Rattle.hm_calls.specs.declared.stop.Stop.TheVariants.{Failed, Refused}
use Rattle.hm_calls.proofs.LookLemmas.{no_zones}
use Rattle.hm_calls.proofs.MayReplyLemmas.{AsksOne, future_gives, lost_gives, past_gives, word_gives}
use Rattle.hm_calls.proofs.PlaceLemmas.{are_drawn}
use Rattle.hm_calls.proofs.RefusalLemmas.{AsRead, IsOfOne, PassEarly, after_early, all_pass, future_refuses, pass, past_refuses, read_one}
use Rattle.hm_calls.proofs.RefusalLemmas.{refuse_one, walk_refuses, word_refuses}
use Rattle.hm_calls.proofs.SceneLemmas.{IsEnd, IsSet, IsStoppedBy, call_in, calls_of, decided, scenes_reached, scenes_so, scenes_unreached}
use Rattle.hm_calls.proofs.StageLemmas.{no_ids, told_before}
use Rattle.std.proofs.lemmas.Bool.{false≢true}

-- ---- the commands

pub of_system : (word : List ℕ) (mode : Mode) (command : Command) → IsOnSystem word mode command → IsOfOne command (Walks mode) word
of_system word _ _ of_status = record { uses = refl; form = λ hash room free path busy scene refusal first. first }
of_system word _ _ of_prune = record { uses = refl; form = λ hash room free path busy scene refusal first. first }
of_system word _ _ of_prune_all = record { uses = refl; form = λ hash room free path busy scene refusal first. first }

pub asks_system : (word : List ℕ) (mode : Mode) (command : Command) → IsOnSystem word mode command → AsksOne command (Walks mode) word
asks_system word _ _ of_status = record { uses = refl; early = λ last busy path. refl }
asks_system word _ _ of_prune = record { uses = refl; early = λ last busy path. refl }
asks_system word _ _ of_prune_all = record { uses = refl; early = λ last busy path. refl }

-- no part of its path has an id
past_of : (word : List ℕ) (mode : Mode) (command : Command) → IsOnSystem word mode command → (parts : List Part) (check : Check)
    → refuse_if (has_id (Parts parts)) ReadOnly ≡ check → past_stays command (Parts parts ∷ []) ≡ check
past_of word _ _ of_status parts check is = refuse_one (has_id (Parts parts)) ReadOnly check is
past_of word _ _ of_prune parts check is = refuse_one (has_id (Parts parts)) ReadOnly check is
past_of word _ _ of_prune_all parts check is = refuse_one (has_id (Parts parts)) ReadOnly check is

walk_numbers : (word : List ℕ) (mode : Mode) (command : Command) → IsOnSystem word mode command → (paths : List Parsed)
    → Contains (possible command paths) 2 × Contains (possible command paths) 3
walk_numbers word _ _ of_status paths = ((1, omega arith, refl), (2, omega arith, refl))
walk_numbers word _ _ of_prune paths = ((4, omega arith, refl), (5, omega arith, refl))
walk_numbers word _ _ of_prune_all paths = ((2, omega arith, refl), (3, omega arith, refl))

-- a call is one of its command
pub as_command : (P : Call → Type 0) (call : Call) (command : Command) → call.command ≡ command → P (record call { command = command }) → P call
as_command P call command asks told = subst (λ (c : Command). P (record call { command = c })) (sym asks) told

-- a check that passes may stand between two
skip : (a b : Check) (rest : List Check) → first_refusal (a ∷ b ∷ None ∷ rest) ≡ first_refusal (a ∷ b ∷ rest)
skip (Some a) b rest = refl
skip None (Some b) rest = refl
skip None None rest = refl

-- a step that was refused
pub ended : {T : Type 0} (P : Reply → Type 0) (result : Result T Stop) (stopped : Stop) → result ≡ Err stopped → OfRefusal P stopped → IfRefused result P
ended {T} P result stopped is told = subst (λ (r : Result T Stop). IfRefused r P) (sym is) told

-- a reply after the early checks
pub given_later : (id : ℕ) (command : Command) (reply : Reply) → IsOwn reply → PassesEarly id command
    → ((paths : List Parsed) → Contains (possible command paths) (number_of reply)) → IsGiven id command reply
given_later id command reply own early listed busy = record {
  own = own;
  listed = λ paths reads. subst (λ (check : Check). IsPossible check (possible command paths) reply) (sym (early busy paths reads)) (listed paths);
}

-- each step to its end that refuses tells a refusal
lost_refuses : (ids : Bool) (reply : Reply) → IsLost ids reply → TellsRefusal reply
lost_refuses ids NotFound lost = refl
lost_refuses ids NotDir lost = refl
lost_refuses ids NotRetained lost = refl
lost_refuses ids other lost = absurd lost

test_refuses : (test : Bool) (refusal reply : Reply) → TellsRefusal refusal → refuse_if test refusal ≡ Some reply → TellsRefusal reply
test_refuses true refusal reply told is = let same : refusal ≡ reply = cc in subst TellsRefusal same told
test_refuses false refusal reply told is = cc

pub system_word_refuses : {T : Type 0} (word : List ℕ) (result : Result T Stop) (stopped : Stop) → result ≡ Err stopped → OfRefusal (IsBadPath word) stopped
    → IfRefused result TellsRefusal
system_word_refuses word result stopped is bad = ended TellsRefusal result stopped is (by stopped bad) where
  by : (s : Stop) → OfRefusal (IsBadPath word) s → OfRefusal TellsRefusal s
  by (Refused reply) told = subst TellsRefusal (sym told.1) refl
  by (Failed fault) told = tt

pub system_check_refuses : {T : Type 0} (test : Bool) (refusal : Reply) (result : Result T Stop) (stopped : Stop) → TellsRefusal refusal → result ≡ Err stopped
    → Decides {T = Unit {0}} (refuse_if test refusal) (Err stopped) → IfRefused result TellsRefusal
system_check_refuses test refusal result stopped told is decides = ended TellsRefusal result stopped is (by stopped decides) where
  by : (s : Stop) → Decides {T = Unit {0}} (refuse_if test refusal) (Err s) → OfRefusal TellsRefusal s
  by (Refused reply) check = test_refuses test refusal reply told check
  by (Failed fault) check = tt

pub system_lost_refuses : {T : Type 0} (ids : Bool) (result : Result T Stop) → IfRefused result (IsLost ids) → IfRefused result TellsRefusal
system_lost_refuses ids (Ok stand) lost = tt
system_lost_refuses ids (Err (Refused reply)) lost = lost_refuses ids reply lost
system_lost_refuses ids (Err (Failed fault)) lost = tt

-- a call that only looks, and was stopped
pub looks_stopped : {S : Type 0} (elements_of : S → Option (List Element)) (mark_of : S → Key → ℕ) (extents_of : S → Option (List Extent))
    (room_of : S → ℕ → ℕ) (free_of : S → ℕ) (hash : List ℕ → ℕ) (id : ℕ) (command : Command) (old new : S) (result : Result Reply Stop) (stopped : Stop)
    → result ≡ Err stopped
    → OfRefusal (IsRefusalOf hash id (λ call. call.command ≡ command) (elements_of old) (extents_of old) (room_of old) (free_of old)) stopped
    → Same elements_of mark_of extents_of room_of free_of old new
    → Looks elements_of mark_of extents_of room_of free_of hash id (λ call. call.command ≡ command) old new result
looks_stopped elements_of mark_of extents_of room_of free_of hash id command old new result stopped is refuses same =
    subst (λ (r : Result Reply Stop). Looks elements_of mark_of extents_of room_of free_of hash id (λ call. call.command ≡ command) old new r) (sym is)
    (by_stop stopped refuses) where
      by_stop : (s : Stop)
          → OfRefusal (IsRefusalOf hash id (λ call. call.command ≡ command) (elements_of old) (extents_of old) (room_of old) (free_of old)) s
          → Looks elements_of mark_of extents_of room_of free_of hash id (λ call. call.command ≡ command) old new (Err s)
      by_stop (Refused reply) refuses = (refuses, same)
      by_stop (Failed fault) refuses = tt

pub gives_refused : (id : ℕ) (command : Command) (result : Result Reply Stop) (stopped : Stop) → result ≡ Err stopped
    → OfRefusal (IsGiven id command) stopped → Gives id command result
gives_refused id command result stopped is told = subst (Gives id command) (sym is) told

-- the reply of a call that was accepted, or refused, is due
pub accepted_due : (hash : List ℕ → ℕ) (id : ℕ) (K : Call → Type 0) (es : Option (List Element)) (xs : Option (List Extent)) (room : ℕ → ℕ) (free : ℕ)
    (reply : Reply) → IsAcceptedBy hash id K es xs room free reply → OnCalls hash id es xs (λ _ call. K call → reply ≡ due_over call room free)
accepted_due hash id K None xs room free reply told = tt
accepted_due hash id K (Some es) None room free reply told = tt
accepted_due hash id K (Some es) (Some xs) room free reply told = λ balanced call is asks.
    let both = told balanced call is asks in
    subst (λ (check : Check). reply ≡ option_map_or (λ r. r) check (accepted call)) (sym both.0) (sym both.1)

pub refused_due : (hash : List ℕ → ℕ) (id : ℕ) (K : Call → Type 0) (es : Option (List Element)) (xs : Option (List Extent)) (room : ℕ → ℕ) (free : ℕ)
    (reply : Reply) → IsRefusalOf hash id K es xs room free reply → OnCalls hash id es xs (λ _ call. K call → reply ≡ due_over call room free)
refused_due hash id K None xs room free reply told = tt
refused_due hash id K (Some es) None room free reply told = tt
refused_due hash id K (Some es) (Some xs) room free reply told = λ balanced call is asks.
    subst (λ (check : Check). reply ≡ option_map_or (λ r. r) check (accepted call)) (sym (told balanced call is asks)) refl

-- ---- where the walk comes

module _ (hash : List ℕ → ℕ) (id : ℕ) (course : Course) (before : course.last.0 + 1 ≡ id) (most : id ≤ GREATEST_ID) (word : List ℕ) (mode : Mode)
    (command : Command) (on : IsOnSystem word mode command) (es : Option (List Element)) (xs : Option (List Extent)) (room : ℕ → ℕ) (free : ℕ) where
  -- its word is no path
  pub system_word : {T : Type 0} (result : Result T Stop) (stopped : Stop) → result ≡ Err stopped → OfRefusal (IsBadPath word) stopped
      → IfRefused result (IsRefusalOf hash id (λ call. call.command ≡ command) es xs room free)
  system_word result stopped is bad =
      ended (IsRefusalOf hash id (λ call. call.command ≡ command) es xs room free) result stopped is
      (word_refuses hash id course before most command (Walks mode) word (of_system word mode command on) es xs room free stopped bad)

  pub system_word_gives : {T : Type 0} (result : Result T Stop) (stopped : Stop) → result ≡ Err stopped → OfRefusal (IsBadPath word) stopped
      → IfRefused result (IsGiven id command)
  system_word_gives result stopped is bad =
      ended (IsGiven id command) result stopped is
      (word_gives id command (Walks mode) word (asks_system word mode command on) (Err stopped) stopped refl bad)

  module _ (parts : List Part) (path_is : IsPath word parts) where
    -- it has an id in the future
    pub system_future : {T : Type 0} (result : Result T Stop) (stopped : Stop) → result ≡ Err stopped
        → Decides {T = Unit {0}} (no_future course.last.0 (Parts parts)) (Err stopped)
        → IfRefused result (IsRefusalOf hash id (λ call. call.command ≡ command) es xs room free)
    system_future result stopped is told =
        ended (IsRefusalOf hash id (λ call. call.command ≡ command) es xs room free) result stopped is
        (future_refuses hash id course before most command (Walks mode) word (of_system word mode command on) es xs room free parts path_is refl stopped
        (decided (Unit {0}) (no_future course.last.0 (Parts parts)) stopped told))

    pub system_future_gives : {T : Type 0} (result : Result T Stop) (stopped : Stop) → result ≡ Err stopped
        → Decides {T = Unit {0}} (no_future course.last.0 (Parts parts)) (Err stopped) → IfRefused result (IsGiven id command)
    system_future_gives result stopped is told =
        ended (IsGiven id command) result stopped is
        (future_gives id command (Walks mode) word (asks_system word mode command on) course before parts path_is refl (Err stopped) stopped refl
        (decided (Unit {0}) (no_future course.last.0 (Parts parts)) stopped told))

    module _ (future : no_future course.last.0 (Parts parts) ≡ None) where
      past_told : (stopped : Stop) → Decides {T = Unit {0}} (refuse_if (has_id (Parts parts)) ReadOnly) (Err stopped)
          → IsStoppedBy (past_stays command (Parts parts ∷ [])) stopped
      past_told (Refused reply) told = past_of word mode command on parts (Some reply) told
      past_told (Failed fault) told = tt

      -- it has one
      pub system_past : {T : Type 0} (result : Result T Stop) (stopped : Stop) → result ≡ Err stopped
          → Decides {T = Unit {0}} (refuse_if (has_id (Parts parts)) ReadOnly) (Err stopped)
          → IfRefused result (IsRefusalOf hash id (λ call. call.command ≡ command) es xs room free)
      system_past result stopped is told =
          ended (IsRefusalOf hash id (λ call. call.command ≡ command) es xs room free) result stopped is
          (past_refuses hash id course before most command (Walks mode) word (of_system word mode command on) es xs room free parts path_is refl future
          stopped (past_told stopped told))

      pub system_past_gives : {T : Type 0} (result : Result T Stop) (stopped : Stop) → result ≡ Err stopped
          → Decides {T = Unit {0}} (refuse_if (has_id (Parts parts)) ReadOnly) (Err stopped) → IfRefused result (IsGiven id command)
      system_past_gives result stopped is told =
          ended (IsGiven id command) result stopped is
          (past_gives id command (Walks mode) word (asks_system word mode command on) course before parts path_is refl future (Err stopped) stopped refl
          (past_told stopped told))

      module _ (present : refuse_if (has_id (Parts parts)) ReadOnly ≡ None) where
        early : PassEarly command (Walks mode) course.last.0 parts
        early = record { good = refl; future = future; past = past_of word mode command on parts None present }

        same_paths : (paths : List Parsed) → ReadsWords command paths → paths ≡ Parts parts ∷ []
        same_paths paths reads =
            let one =
            read_one (Walks mode) word paths
            (subst (λ (us : List (Use × List ℕ)). AllZip AsRead us paths) (asks_system word mode command on).uses reads) in
            one.1 ∙ ap (λ p. p ∷ []) (read_once word parts one.0 path_is one.2)

        abbrev early_list : ℕ → List Check
        early_list last =
            None ∷ good_path (Walks mode) (Parts parts) ∷ no_future last (Parts parts) ∷ None ∷ past_stays command (Parts parts ∷ []) ∷ []

        pub system_early : PassesEarly id command
        system_early busy paths reads =
            subst (λ (ps : List Parsed). first_refusal (early_checks (id - 1) busy command ps) ≡ None) (sym (same_paths paths reads))
            (subst (λ (list : List Check). first_refusal list ≡ None) (sym ((asks_system word mode command on).early (id - 1) busy (Parts parts)))
            (subst (λ (last : ℕ). first_refusal (early_list last) ≡ None) (omega (arith, before))
            (pass refl (pass refl (pass early.future (pass refl (pass early.past all_pass))))).is))

        -- its walk is refused, or comes to its end
        abbrev pub Walks_to : Result Stand Stop → Scene → Type 0
        Walks_to result scene = AreDrawn scene.course.last parts → IsReached scene mode (walk scene.volume scene.view mode parts) result

        pub system_lost : (result : Result Stand Stop) → OnShown es xs course (λ scene. KeysFit hash scene.elements → Walks_to result scene)
            → IfRefused result (IsRefusalOf hash id (λ call. call.command ≡ command) es xs room free)
        system_lost (Ok stand) told = tt
        system_lost (Err stopped) told =
            walk_refuses hash id course before most command (Walks mode) word (of_system word mode command on) es xs room free parts path_is early stopped
            (scenes_unreached hash course es xs parts (are_drawn course.last.0 parts future) mode stopped told)

        pub system_lost_gives : (result : Result Stand Stop) → IfRefused result (IsLost (has_id (Parts parts))) → IfRefused result (IsGiven id command)
        system_lost_gives (Ok stand) told = tt
        system_lost_gives (Err stopped) told =
            let numbers = walk_numbers word mode command on (Parts parts ∷ []) in
            lost_gives id command (Walks mode) word (asks_system word mode command on) course before parts path_is early (has_id (Parts parts))
            numbers.0 numbers.1 (λ some. absurd (false≢true (sym (no_ids parts present) ∙ some))) (Err stopped) stopped refl told

        pub system_comes : (result : Result Stand Stop) → OnShown es xs course (λ scene. KeysFit hash scene.elements → Walks_to result scene)
            → IfOk result (λ stand. OnCalls hash id es xs (λ list call. call.command ≡ command → ComesTo mode room free stand list call))
        system_comes (Err stopped) told = tt
        system_comes (Ok stand) told =
            calls_of hash id course command es xs (ComesTo mode room free stand) before (λ busy paths reads.
            scenes_so hash course es xs (λ scene. IsEnd scene mode (walk scene.volume scene.view mode parts) stand)
            (λ scene. ComesTo mode room free stand scene.elements (call_in hash command paths busy scene))
            (λ scene set end.
            subst (λ (ps : List Parsed). ComesTo mode room free stand scene.elements (call_in hash command ps busy scene)) (sym (same_paths paths reads))
            (record {
              at = site_at scene end busy;
              directory = site_directory scene end busy;
              course = scene.course;
              read = end.ends.read;
              due = left scene end busy set;
            }))
            (scenes_reached hash course es xs parts (are_drawn course.last.0 parts future) mode stand told)) where
              the_call : Option ℕ → Scene → Call
              the_call busy scene = call_in hash command (Parts parts ∷ []) busy scene

              ended_at : (scene : Scene) → IsEnd scene mode (walk scene.volume scene.view mode parts) stand
                  → (site_in (at_end (walk scene.volume scene.view mode parts))).at ≡ place_of stand.at
              ended_at scene end =
                  subst (λ (w : Outcome). (site_in (at_end w)).at ≡ place_of stand.at) (sym end.walked_is) (sym end.ends.place)

              ended_in : (scene : Scene) → IsEnd scene mode (walk scene.volume scene.view mode parts) stand
                  → (site_in (at_end (walk scene.volume scene.view mode parts))).directory ≡ place_of stand.at
              ended_in scene end =
                  subst (λ (w : Outcome). (site_in (at_end w)).directory ≡ place_of stand.at) (sym end.walked_is) (sym end.ends.place)

              site_at : (scene : Scene) → IsEnd scene mode (walk scene.volume scene.view mode parts) stand → (busy : Option ℕ)
                  → (first_site (call_in hash command (Parts parts ∷ []) busy scene)).at ≡ place_of stand.at
              site_at scene end busy = by mode command on (ended_at scene end) where
                by : (m : Mode) (c : Command) → IsOnSystem word m c
                    → (site_in (at_end (walk scene.volume scene.view m parts))).at ≡ place_of stand.at
                    → (first_site (call_in hash c (Parts parts ∷ []) busy scene)).at ≡ place_of stand.at
                by _ _ of_status is = is
                by _ _ of_prune is = is
                by _ _ of_prune_all is = is

              site_directory : (scene : Scene) → IsEnd scene mode (walk scene.volume scene.view mode parts) stand → (busy : Option ℕ)
                  → (first_site (call_in hash command (Parts parts ∷ []) busy scene)).directory ≡ place_of stand.at
              site_directory scene end busy = by mode command on (ended_in scene end) where
                by : (m : Mode) (c : Command) → IsOnSystem word m c
                    → (site_in (at_end (walk scene.volume scene.view m parts))).directory ≡ place_of stand.at
                    → (first_site (call_in hash c (Parts parts ∷ []) busy scene)).directory ≡ place_of stand.at
                by _ _ of_status is = is
                by _ _ of_prune is = is
                by _ _ of_prune_all is = is

              left : (scene : Scene) → IsEnd scene mode (walk scene.volume scene.view mode parts) stand → (busy : Option ℕ) → IsSet hash course scene
                  → refusal_over (call_in hash command (Parts parts ∷ []) busy scene) room free
                  ≡ first_refusal (later_checks (call_in hash command (Parts parts ∷ []) busy scene)
                  ++ space_left (call_in hash command (Parts parts ∷ []) busy scene) room free ∷ [])
              left scene end busy set =
                  let passes : walks (at_end (walk scene.volume scene.view mode parts)) ≡ None =
                  subst (λ (w : Outcome). walks (at_end w) ≡ None) (sym end.walked_is) refl in
                  by mode command on early passes where
                    asked : Command → Call
                    asked c = call_in hash c (Parts parts ∷ []) busy scene

                    left_in : Command → Check
                    left_in c = first_refusal (later_checks (asked c) ++ space_left (asked c) room free ∷ [])

                    by : (m : Mode) (c : Command) → (is_on : IsOnSystem word m c) → PassEarly c (Walks m) course.last.0 parts
                        → walks (at_end (walk scene.volume scene.view m parts)) ≡ None
                        → refusal_over (call_in hash c (Parts parts ∷ []) busy scene) room free
                        ≡ first_refusal (later_checks (call_in hash c (Parts parts ∷ []) busy scene)
                        ++ space_left (call_in hash c (Parts parts ∷ []) busy scene) room free ∷ [])
                    by _ _ of_status passed passes =
                        (after_early hash id course before most (PfsStatus word) (Walks TakesPfs) word
                        (of_system word TakesPfs (PfsStatus word) of_status) es xs room free parts path_is passed busy scene
                        (left_in (PfsStatus word)) set (pass passes (pass refl (pass refl (record { is = refl }))))).is
                    by _ _ of_prune passed passes =
                        (after_early hash id course before most (Prune word) (Walks Follows) word
                        (of_system word Follows (Prune word) of_prune) es xs room free parts path_is passed busy scene
                        (left_in (Prune word)) set
                        (pass passes (pass refl (record {
                          is = skip (a_dir (asked (Prune word)) (first_site (asked (Prune word)))) (has_snapshots (asked (Prune word)))
                              (intervals_left (asked (Prune word)) ∷ space_left (asked (Prune word)) room free ∷ []);
                        })))).is
                    by _ _ of_prune_all passed passes =
                        (after_early hash id course before most (PruneAll word) (Walks TakesPfs) word
                        (of_system word TakesPfs (PruneAll word) of_prune_all) es xs room free parts path_is passed busy scene
                        (left_in (PruneAll word)) set (pass passes (pass refl (pass refl (record { is = refl }))))).is

-- ---- what `pfs-status` answers

-- what is found has the number that it was looked for by
pub system_number : (volume : Volume) (pfs : ℕ) (s : PseudoFileSystem) → system_of volume pfs ≡ Some s → s.number ≡ pfs
system_number volume pfs s is = among volume.systems is where
  by_test : (x : PseudoFileSystem) (b : Bool) (rest : Option PseudoFileSystem) → (x.number == pfs) ≡ b → (rest ≡ Some s → s.number ≡ pfs)
      → cond b (Some x) rest ≡ Some s → s.number ≡ pfs
  by_test x true rest test later is =
      let same : x ≡ s = cc in
      subst (λ (y : PseudoFileSystem). y.number ≡ pfs) same (eqb-true x.number pfs test)
  by_test x false rest test later is = later is

  among : (list : List PseudoFileSystem) → find (λ (s : PseudoFileSystem). s.number == pfs) list ≡ Some s → s.number ≡ pfs
  among [] is = absurd (cc)
  among (x ∷ more) is = by_test x (x.number == pfs) (find (λ (s : PseudoFileSystem). s.number == pfs) more) refl (among more) is

-- whether a system is a master is told by its record
pub role_told : (s : PseudoFileSystem) (r : PfsRecord) → IsRecordFor s r → r.master ≡ is_master s
role_told s r for = for.0 ∙ by_role s.role where
  by_role : (role : Role) → is_master_role role ≡ elim role [ Master ↦ true | Slave ↦ false ]
  by_role Master = refl
  by_role Slave = refl

-- the system of a record that was found, and none where none was
pub system_there : (lists : Lists) (volume : Volume) (view : View) (pfs : ℕ) (r : PfsRecord) → HaveOwnKeys (fulls lists)
    → ShowsAs (fulls lists) volume view → IsRecordNow lists pfs (Some r) → (s : PseudoFileSystem) × (system_of volume pfs ≡ Some s) × IsRecordFor s r
system_there lists volume view pfs r own shows now =
    system_some (fulls lists) volume pfs shows.records r own (record {
      ranges = now.0;
      there = (record_counts (fulls lists) pfs (2 ^ 64) open_end (pfs_bytes r) shows.ids (omega arith)).1 now.1;
    })

pub system_gone : (lists : Lists) (volume : Volume) (view : View) (pfs : ℕ) → ShowsAs (fulls lists) volume view → IsRecordNow lists pfs None
    → system_of volume pfs ≡ None
system_gone lists volume view pfs shows none =
    system_none (fulls lists) volume pfs shows.records (λ bytes has.
    none bytes ((record_counts (fulls lists) pfs (2 ^ 64) open_end bytes shows.ids (omega arith)).0 has))

-- what the look at the record answers
abbrev pub status_by : ℕ → Option PfsRecord → Reply
status_by pfs None = NotFound
status_by pfs (Some r) = PfsIs r.master (record { 0 = pfs }) r.shared (length r.retention) r.sync_end

status_same : (s : PseudoFileSystem) (r : PfsRecord) (pfs : ℕ) → IsRecordFor s r → s.number ≡ pfs → record_of s ≡ status_by pfs (Some r)
status_same s r pfs for number =
    (λ i. PfsIs (sym (role_told s r for) i) (record { 0 = number i }) (sym for.1 i) (length (sym for.3 i)) (record { 0 = sym for.2 i }))

-- what follows for each call of facts of it and of its elements
pub calls_told : (hash : List ℕ → ℕ) (id : ℕ) (es : Option (List Element)) (xs : Option (List Extent)) (P R : List FullElement → Call → Type 0)
    (Q : Lists → Type 0) → IfSome es IsContent → OnCalls hash id es xs P → OnBalanced es xs Q
    → ((lists : Lists) (call : Call) → HaveOwnKeys (fulls lists) → Q lists → IsCall hash id (fulls lists) call → P (fulls lists) call → R (fulls lists) call)
    → OnCalls hash id es xs R
calls_told hash id None xs P R Q content known told next = tt
calls_told hash id (Some es) None P R Q content known told next = tt
calls_told hash id (Some es) (Some xs) P R Q content known told next = λ balanced call is.
    next (es, xs) call (own_keys-sorted (full_elements es xs) (full_sorted es xs content.rising)) (told balanced) is (known balanced call is)

-- `pfs-status` is due what its look at the record tells
answered_status : (call : Call) (word : List ℕ) (room : ℕ → ℕ) (free : ℕ) (stand : Stand) (list : List FullElement) (reply : Reply)
    → call.command ≡ PfsStatus word → ComesTo TakesPfs room free stand list call
    → option_map_or record_of (system_of call.volume stand.at.pfs.0) NotFound ≡ reply → (refusal_over call room free ≡ None) × (accepted call ≡ reply)
answered_status call word room free stand list reply asks comes is = (
  comes.due
      ∙ as_command (λ c. first_refusal (later_checks c ++ space_left c room free ∷ []) ≡ None) call (PfsStatus word) asks
      (pass refl (pass (no_zones free) all_pass)).is,
  as_command (λ c. option_map_or record_of (site_system c (first_site c)) NotFound ≡ reply → accepted c ≡ reply) call (PfsStatus word) asks
      (λ told. told)
      (ap (λ (p : Place). option_map_or record_of (system_of call.volume p.pfs) NotFound) comes.at ∙ is),
)

pub length_pairs : (pairs : List (Id × Id)) → length (numbers_of pairs) ≡ length pairs
length_pairs [] = refl
length_pairs (pair ∷ pairs) = ap suc (length_pairs pairs)

-- the answer of `pfs-status` at a stand, by the record that was found there
pub tells_system : (hash : List ℕ → ℕ) (id : ℕ) (word : List ℕ) (es es' : Option (List Element)) (xs xs' : Option (List Extent)) (room : ℕ → ℕ) (free : ℕ)
    (stand : Stand) (found : Option PfsRecord) → IfSome es IsContent → es' ≡ es → xs' ≡ xs
    → OnCalls hash id es xs (λ list call. call.command ≡ PfsStatus word → ComesTo TakesPfs room free stand list call)
    → OnBalanced es' xs' (λ lists. IsRecordNow lists stand.at.pfs.0 found)
    → IsAcceptedBy hash id (λ call. call.command ≡ PfsStatus word) es xs room free (status_by stand.at.pfs.0 found)
tells_system hash id word es es' xs xs' room free stand found content same same' comes told =
    calls_told hash id es xs (λ list call. call.command ≡ PfsStatus word → ComesTo TakesPfs room free stand list call)
    (λ list call. call.command ≡ PfsStatus word
    → (refusal_over call room free ≡ None) × (accepted call ≡ status_by stand.at.pfs.0 found))
    (λ lists. IsRecordNow lists stand.at.pfs.0 found) content comes
    (told_before es es' xs xs' same same' (λ o p. OnBalanced o p (λ lists. IsRecordNow lists stand.at.pfs.0 found)) told)
    (λ lists call own now is comes asks.
    answered_status call word room free stand (fulls lists) (status_by stand.at.pfs.0 found) asks (comes asks)
    (by_record lists call own found now is)) where
      by_record : (lists : Lists) (call : Call) → HaveOwnKeys (fulls lists) → (found : Option PfsRecord) → IsRecordNow lists stand.at.pfs.0 found
          → IsCall hash id (fulls lists) call
          → option_map_or record_of (system_of call.volume stand.at.pfs.0) NotFound ≡ status_by stand.at.pfs.0 found
      by_record lists call own None now is =
          ap (λ (o : Option PseudoFileSystem). option_map_or record_of o NotFound)
          (system_gone lists call.volume call.view stand.at.pfs.0 is.shows now)
      by_record lists call own (Some r) now is =
          let (s, there, for) = system_there lists call.volume call.view stand.at.pfs.0 r own is.shows now in
          ap (λ (o : Option PseudoFileSystem). option_map_or record_of o NotFound) there
          ∙ status_same s r stand.at.pfs.0 for (system_number call.volume stand.at.pfs.0 s there)

-- From the fronts of a call's checks, which its stages tell, to the reply that it is due.
use Rattle.std.proofs.Common.{◌≡◌, ℕ, ◌+◌, ◌-◌, ◌≤◌, List, [], ◌∷◌, ◌++◌, Bool, true, false, Option, Some, None, Result, Ok, Err, refl, sym, ap, subst, ◌∙◌}
use Rattle.std.proofs.Common.{append_assoc, map, inl, arith}
use Rattle.std.specs.Prelude.{◌||◌}
use Rattle.std.specs.List.{Contains}
use Rattle.std.proofs.lemmas.Bool.{false≢true}
use Rattle.hm_types.specs.Elements.{Key}
use Rattle.hm_types.specs.declared.limits.TheConstants.{GREATEST_ID}
use Rattle.hm_path.specs.declared.part.Part.{Part}
use Rattle.hm_key.specs.Extents.{Extent}
use Rattle.hm_key.specs.Stores.{Same}
use Rattle.hm_key.specs.declared.element.Element.{Element}
use Rattle.hm_model.specs.Call.{Call, all_located}
use Rattle.hm_model.specs.Caused.{IsPossible, number_of, possible}
use Rattle.hm_model.specs.Due.{Check, accepted, early_checks, first_refusal, good_path, has_id, hash_left, ids_left, intervals_left, no_future, own_checks}
use Rattle.hm_model.specs.Due.{refuse_if, slaves_stay, walks}
use Rattle.hm_model.specs.Sites.{MakesName, Parsed, Parts, ReadsWords}
use Rattle.hm_model.specs.declared.command.Command.{Command}
use Rattle.hm_model.specs.declared.reply.Reply.{Reply}
use Rattle.hm_model.specs.declared.reply.Reply.TheVariants.{ReadOnly}
use Rattle.hm_model.proofs.PlainCheckLemmas.{first_none, first_some}
use Rattle.hm_dirs.specs.Walk.{Scene}
use Rattle.hm_dirs.specs.declared.position.Course.{Course}
use Rattle.hm_calls.specs.Due.{refusal_over, space_left}
use Rattle.hm_calls.specs.Possible.{Gives, IsGiven, IsLost, IsOwn}
use Rattle.hm_calls.specs.Replies.{IsAcceptedBy}
use Rattle.hm_calls.specs.Scenes.{InScenes, IsSet, call_in}
use Rattle.hm_calls.specs.Stages.{AnswersAll, IsAmong, last_checks, place_checks, word_checks}
use Rattle.hm_calls.specs.Stop.{Answers, OfRefusal}
use Rattle.hm_calls.specs.declared.stop.Stop.{Stop}
use Rattle.hm_calls.specs.declared.stop.Stop.TheVariants.{Failed, Refused}
use Rattle.hm_calls.proofs.GivenLemmas.{RefusesOwn, future_own, good_own, lost_among, refusal_own, tested_own}
use Rattle.hm_calls.proofs.RefusalLemmas.{IsRefused, all_checks, id_left, pass, refuse_first, refuse_second}
use Rattle.hm_calls.proofs.StageLemmas.{space_before}
use Rattle.hm_calls.proofs.SceneLemmas.{IsStoppedBy, answered, calls_of, scenes_all, scenes_back, scenes_both, scenes_so}

-- ---- a list of checks, from what the steps tell that ask them one by one

-- this one refuses; it passes, and the others tell; all passed
pub halts : {T : Type 0} {check : Check} {rest : List Check} (stopped : Stop) → IsStoppedBy check stopped → AnswersAll {T = T} (check ∷ rest) (Err stopped)
halts (Refused reply) told = record { is = rw told refl }
halts (Failed fault) told = record { is = tt }

pub skips : {T : Type 0} {check : Check} {rest : List Check} {result : Result T Stop} → check ≡ None → AnswersAll rest result
    → AnswersAll (check ∷ rest) result
skips {rest = rest} {result = result} none told =
    record { is = subst (λ (c : Check). Answers (first_refusal (c ∷ rest)) result) (sym none) told.is }

pub ends : {T : Type 0} {x : T} → AnswersAll [] (Ok x)
ends = record { is = refl }

-- what a stage that was stopped tells of the first refusal
pub stopped_all : (T : Type 0) (checks : List Check) (stopped : Stop) → AnswersAll {T = T} checks (Err stopped)
    → IsStoppedBy (first_refusal checks) stopped
stopped_all T checks stopped told = answered T (first_refusal checks) stopped told.is

-- the first refusal stays where more checks follow
pub stops_on : (checks more : List Check) (stopped : Stop) → IsStoppedBy (first_refusal checks) stopped → IsStoppedBy (first_refusal (checks ++ more)) stopped
stops_on [] more (Refused reply) told = absurd (cc)
stops_on (None ∷ checks) more (Refused reply) told = stops_on checks more (Refused reply) told
stops_on (Some other ∷ checks) more (Refused reply) told = told
stops_on checks more (Failed fault) told = tt

-- after checks that all passed
pub stops_after : (checks more : List Check) (stopped : Stop) → first_refusal checks ≡ None → IsStoppedBy (first_refusal more) stopped
    → IsStoppedBy (first_refusal (checks ++ more)) stopped
stops_after checks more (Refused reply) none told = first_none checks more none ∙ told
stops_after checks more (Failed fault) none told = tt

-- ---- facts of scenes

module _ {hash : List ℕ → ℕ} {course : Course} {es : Option (List Element)} {xs : Option (List Extent)} where
  pub map_in : {P Q : Scene → Type 0} → ((scene : Scene) → IsSet hash course scene → P scene → Q scene) → InScenes hash course es xs P
      → InScenes hash course es xs Q
  map_in {P = P} {Q = Q} step told = record { each = scenes_so hash course es xs P Q step told.each }

  pub both_in : {P Q : Scene → Type 0} → InScenes hash course es xs P → InScenes hash course es xs Q → InScenes hash course es xs (λ scene. P scene × Q scene)
  both_in {P = P} {Q = Q} one two = record { each = scenes_both hash course es xs P Q one.each two.each }

-- of a store that was left as it was
pub back_in : {S : Type 0} {elements_of : S → Option (List Element)} {mark_of : S → Key → ℕ} {extents_of : S → Option (List Extent)} {room_of : S → ℕ → ℕ}
    {free_of : S → ℕ} {old new : S} {hash : List ℕ → ℕ} {course : Course} {P : Scene → Type 0} → Same elements_of mark_of extents_of room_of free_of old new
    → InScenes hash course (elements_of new) (extents_of new) P → InScenes hash course (elements_of old) (extents_of old) P
back_in {hash = hash} {course = course} {P = P} same told = record { each = scenes_back hash course P same.elements same.extents told.each }

-- and from there on
pub on_in : {S : Type 0} {elements_of : S → Option (List Element)} {mark_of : S → Key → ℕ} {extents_of : S → Option (List Extent)} {room_of : S → ℕ → ℕ}
    {free_of : S → ℕ} {old new : S} {hash : List ℕ → ℕ} {course : Course} {P : Scene → Type 0} → Same elements_of mark_of extents_of room_of free_of old new
    → InScenes hash course (elements_of old) (extents_of old) P → InScenes hash course (elements_of new) (extents_of new) P
on_in {hash = hash} {course = course} {P = P} same told = record { each = scenes_back hash course P (sym same.elements) (sym same.extents) told.each }

-- what speaks of the space too
pub back_over : {S : Type 0} {elements_of : S → Option (List Element)} {mark_of : S → Key → ℕ} {extents_of : S → Option (List Extent)} {room_of : S → ℕ → ℕ}
    {free_of : S → ℕ} {old new : S} {hash : List ℕ → ℕ} {course : Course} → Same elements_of mark_of extents_of room_of free_of old new
    → (P : (ℕ → ℕ) → ℕ → Scene → Type 0) → InScenes hash course (elements_of new) (extents_of new) (P (room_of new) (free_of new))
    → InScenes hash course (elements_of old) (extents_of old) (P (room_of old) (free_of old))
back_over {elements_of = elements_of} {extents_of = extents_of} {room_of = room_of} {free_of = free_of} {old = old} {new = new} {hash = hash}
    {course = course} same P told =
    space_before (λ room free. InScenes hash course (elements_of old) (extents_of old) (P room free)) (room_of old) (room_of new) (free_of old) (free_of new)
    same.room same.free (back_in same told)

-- the fourth of some checks passed
pub passed_fourth : (a b c d : Check) (rest : List Check) → first_refusal (a ∷ b ∷ c ∷ d ∷ rest) ≡ None → d ≡ None
passed_fourth None None None None rest is = refl
passed_fourth None None None (Some r) rest is = absurd (cc)
passed_fourth None None (Some r) d rest is = absurd (cc)
passed_fourth None (Some r) c d rest is = absurd (cc)
passed_fourth (Some r) b c d rest is = absurd (cc)

-- and so did those before it
pub passed_before : (a b c d : Check) (rest : List Check) → first_refusal (a ∷ b ∷ c ∷ d ∷ rest) ≡ None → (a ≡ None) × (b ≡ None) × (c ≡ None)
passed_before None None None d rest is = (refl, refl, refl)
passed_before None None (Some r) d rest is = absurd (cc)
passed_before None (Some r) c d rest is = absurd (cc)
passed_before (Some r) b c d rest is = absurd (cc)

-- ---- all checks of a call, by its stages

regroup : (early walked own : List Check) (left slaves full cut space : Check)
    → (left ∷ early ++ walked ++ slaves ∷ own ++ full ∷ cut ∷ []) ++ space ∷ []
    ≡ left ∷ early ++ ((walked ++ slaves ∷ []) ++ (own ++ full ∷ cut ∷ space ∷ []))
regroup early walked own left slaves full cut space = simp append_assoc

pub fronts_are : (call : Call) (room : ℕ → ℕ) (free : ℕ) → all_checks call room free
    ≡ ids_left call ∷ early_checks call.volume.last call.busy call.command call.paths ++ (place_checks call ++ last_checks call room free)
fronts_are call room free =
    regroup (early_checks call.volume.last call.busy call.command call.paths) (map walks (all_located call)) (own_checks call) (ids_left call)
    (slaves_stay call) (hash_left call) (intervals_left call) (space_left call room free)

-- Calls of a command by this id, whose words are read as these paths alone, and which none of the early checks refuses.
pub record IsAsked (id : ℕ) (course : Course) (command : Command) (paths : List Parsed) : Type 0 where
  pub before : course.last.0 + 1 ≡ id
  pub most : id ≤ GREATEST_ID
  pub only : (ps : List Parsed) → ReadsWords command ps → ps ≡ paths
  pub early : (busy : Option ℕ) → first_refusal (early_checks course.last.0 busy command paths) ≡ None

module _ {id : ℕ} {course : Course} {command : Command} {paths : List Parsed} (asked : IsAsked id course command paths) where
  module _ (hash : List ℕ → ℕ) (room : ℕ → ℕ) (free : ℕ) where
    abbrev late : Option ℕ → Scene → List Check
    late busy scene = place_checks (call_in hash command paths busy scene) ++ last_checks (call_in hash command paths busy scene) room free

    -- what the later stages say first, all checks do
    due : (busy : Option ℕ) (scene : Scene) (check : Check) → IsSet hash course scene → first_refusal (late busy scene) ≡ check
        → refusal_over (call_in hash command paths busy scene) room free ≡ check
    due busy scene check set is =
        ap (λ (list : List Check). first_refusal list) (fronts_are (call_in hash command paths busy scene) room free)
        ∙ (pass (id_left hash id course scene asked.before asked.most set) (record {
          is = first_none (early_checks scene.volume.last busy command paths) (late busy scene)
              (subst (λ (last : ℕ). first_refusal (early_checks last busy command paths) ≡ None) (sym set.last) (asked.early busy)) ∙ is;
        })).is

    refused_late : (es : Option (List Element)) (xs : Option (List Extent)) (stopped : Stop)
        → InScenes hash course es xs (λ scene. (busy : Option ℕ) → IsStoppedBy (first_refusal (late busy scene)) stopped)
        → IsRefused hash id command es xs room free stopped
    refused_late es xs (Failed fault) told = tt
    refused_late es xs (Refused reply) told =
        calls_of hash id course command es xs (λ _ call. refusal_over call room free ≡ Some reply) asked.before (λ busy ps reads.
        scenes_so hash course es xs (λ scene. (b : Option ℕ) → first_refusal (late b scene) ≡ Some reply)
        (λ scene. refusal_over (call_in hash command ps busy scene) room free ≡ Some reply)
        (λ scene set is. subst (λ (l : List Parsed). refusal_over (call_in hash command l busy scene) room free ≡ Some reply) (sym (asked.only ps reads))
        (due busy scene (Some reply) set (is busy))) told.each)

  module _ {hash : List ℕ → ℕ} {es : Option (List Element)} {xs : Option (List Extent)} (room : ℕ → ℕ) (free : ℕ) where
    -- a stage refuses: that of the places, and the last one
    pub places_refuse : {T : Type 0} {stopped : Stop}
        → InScenes hash course es xs (λ scene. (busy : Option ℕ) → AnswersAll {T = T} (place_checks (call_in hash command paths busy scene)) (Err stopped))
        → IsRefused hash id command es xs room free stopped
    places_refuse {T = T} {stopped = stopped} told =
        refused_late hash room free es xs stopped (map_in (λ scene set is busy.
        stops_on (place_checks (call_in hash command paths busy scene)) (last_checks (call_in hash command paths busy scene) room free) stopped
        (stopped_all T (place_checks (call_in hash command paths busy scene)) stopped (is busy))) told)

    pub last_refuse : {T U : Type 0} {x : T} {stopped : Stop}
        → InScenes hash course es xs (λ scene. (busy : Option ℕ) → AnswersAll (place_checks (call_in hash command paths busy scene)) (Ok x))
        → InScenes hash course es xs (λ scene. (busy : Option ℕ) → AnswersAll {T = U} (last_checks (call_in hash command paths busy scene) room free)
        (Err stopped))
        → IsRefused hash id command es xs room free stopped
    last_refuse {U = U} {stopped = stopped} places told =
        refused_late hash room free es xs stopped (map_in (λ scene set is busy.
        stops_after (place_checks (call_in hash command paths busy scene)) (last_checks (call_in hash command paths busy scene) room free) stopped
        (is.0 busy).is (stopped_all U (last_checks (call_in hash command paths busy scene) room free) stopped (is.1 busy))) (both_in places told))

    -- all stages pass
    pub all_pass : {T U : Type 0} {x : T} {y : U} (reply : Reply)
        → ((ps : List Parsed) (busy : Option ℕ) (scene : Scene) → accepted (call_in hash command ps busy scene) ≡ reply)
        → InScenes hash course es xs (λ scene. (busy : Option ℕ) → AnswersAll (place_checks (call_in hash command paths busy scene)) (Ok x))
        → InScenes hash course es xs (λ scene. (busy : Option ℕ) → AnswersAll (last_checks (call_in hash command paths busy scene) room free) (Ok y))
        → IsAcceptedBy hash id (λ call. call.command ≡ command) es xs room free reply
    all_pass {x = x} {y = y} reply done places told =
        calls_of hash id course command es xs (λ _ call. (refusal_over call room free ≡ None) × (accepted call ≡ reply)) asked.before (λ busy ps reads.
        scenes_so hash course es xs
        (λ scene. ((b : Option ℕ) → AnswersAll (place_checks (call_in hash command paths b scene)) (Ok x))
        × ((b : Option ℕ) → AnswersAll (last_checks (call_in hash command paths b scene) room free) (Ok y)))
        (λ scene. (refusal_over (call_in hash command ps busy scene) room free ≡ None) × (accepted (call_in hash command ps busy scene) ≡ reply))
        (λ scene set is. (
          subst (λ (l : List Parsed). refusal_over (call_in hash command l busy scene) room free ≡ None) (sym (asked.only ps reads))
              (due hash room free busy scene None set
              (first_none (place_checks (call_in hash command paths busy scene)) (last_checks (call_in hash command paths busy scene) room free)
              (is.0 busy).is ∙ (is.1 busy).is)),
          done ps busy scene,
        )) (both_in places told).each)

  -- ---- the replies that it may give

  given : (reply : Reply) → IsAmong (possible command paths) reply → IsGiven id command reply
  given reply has busy = record {
    own = has.own;
    listed = λ ps reads.
        subst (λ (l : List Parsed). IsPossible (first_refusal (early_checks (id - 1) busy command l)) (possible command l) reply) (sym (asked.only ps reads))
        (subst (λ (last : ℕ). IsPossible (first_refusal (early_checks last busy command paths)) (possible command paths) reply)
        (let before = asked.before in omega (arith, before))
        (subst (λ (check : Check). IsPossible check (possible command paths) reply) (sym (asked.early busy)) has.listed));
  }

  pub late_gives : (stopped : Stop) → OfRefusal (IsAmong (possible command paths)) stopped → Gives id command (Err stopped)
  late_gives (Refused reply) has = given reply has
  late_gives (Failed fault) has = tt

  pub end_gives : (reply : Reply) → IsOwn reply → Contains (possible command paths) (number_of reply) → Gives id command (Ok reply)
  end_gives reply own has = given reply (record { own = own; listed = has })

-- a refusal among those of a call
pub among_so : {numbers : List ℕ} (P : Reply → Type 0) → ((reply : Reply) → P reply → IsAmong numbers reply) → (stopped : Stop) → OfRefusal P stopped
    → OfRefusal (IsAmong numbers) stopped
among_so P step (Refused reply) is = step reply is
among_so P step (Failed fault) is = tt

-- those of a walk along a path without ids
pub lost_now : (numbers : List ℕ) {ids : Bool} → ids ≡ false → Contains numbers 2 → Contains numbers 3 → (stopped : Stop) → OfRefusal (IsLost ids) stopped
    → OfRefusal (IsAmong numbers) stopped
lost_now numbers {ids = ids} none lost no_directory =
    among_so (IsLost ids) (lost_among numbers ids lost no_directory (λ some. absurd (false≢true (sym none ∙ some))))

-- ---- a test of two paths or two places

module _ (a b : Bool) (reply : Reply) where
  pub first_stops : (stopped : Stop) → IsStoppedBy (refuse_if a reply) stopped → IsStoppedBy (refuse_if (a || (b || false)) reply) stopped
  first_stops (Refused refusal) told = refuse_first a b reply refusal told
  first_stops (Failed fault) told = tt

  pub second_stops : (stopped : Stop) → refuse_if a reply ≡ None → IsStoppedBy (refuse_if b reply) stopped
      → IsStoppedBy (refuse_if (a || (b || false)) reply) stopped
  second_stops (Refused refusal) none told = refuse_second a b reply (Some refusal) none told
  second_stops (Failed fault) none told = tt

  pub second_none : refuse_if (a || (b || false)) reply ≡ None → refuse_if b reply ≡ None
  second_none none = by a b none where
    by : (a b : Bool) → refuse_if (a || (b || false)) reply ≡ None → refuse_if b reply ≡ None
    by true b none = absurd (cc)
    by false true none = none
    by false false none = none

-- ---- the words of two paths

pub words_own : (last : ℕ) (one two : List Part) (reply : Reply) → first_refusal (word_checks last one two) ≡ Some reply → IsOwn reply
words_own last one two reply is =
    refusal_own (first_refusal (word_checks last one two))
    (first_own (good_path MakesName (Parts two)) (no_future last (Parts one)) (no_future last (Parts two))
    (refuse_if (has_id (Parts one) || (has_id (Parts two) || false)) ReadOnly) (good_own MakesName (Parts two)) (future_own last (Parts one))
    (future_own last (Parts two)) (tested_own (has_id (Parts one) || (has_id (Parts two) || false)) ReadOnly tt))
    reply is where
      first_own : (a b c d : Check) → RefusesOwn a → RefusesOwn b → RefusesOwn c → RefusesOwn d
          → RefusesOwn (first_refusal (a ∷ b ∷ c ∷ None ∷ d ∷ []))
      first_own (Some r) b c d a' b' c' d' = a'
      first_own None (Some r) c d a' b' c' d' = b'
      first_own None None (Some r) d a' b' c' d' = c'
      first_own None None None (Some r) a' b' c' d' = d'
      first_own None None None None a' b' c' d' = tt

module _ (hash : List ℕ → ℕ) (id : ℕ) (course : Course) (command : Command) (parts more : List Part) (es : Option (List Element)) (xs : Option (List Extent))
    (before : course.last.0 + 1 ≡ id) (most : id ≤ GREATEST_ID) (only : (ps : List Parsed) → ReadsWords command ps → ps ≡ Parts parts ∷ Parts more ∷ [])
    (early : (busy : Option ℕ) → first_refusal (early_checks course.last.0 busy command (Parts parts ∷ Parts more ∷ []))
    ≡ first_refusal (word_checks course.last.0 parts more)) where
  pub words_refuse : {T : Type 0} (room : ℕ → ℕ) (free : ℕ) (stopped : Stop) → AnswersAll {T = T} (word_checks course.last.0 parts more) (Err stopped)
      → IsRefused hash id command es xs room free stopped
  words_refuse room free (Failed fault) told = tt
  words_refuse room free (Refused reply) told =
      calls_of hash id course command es xs (λ _ call. refusal_over call room free ≡ Some reply) before (λ busy ps reads.
      scenes_all hash course es xs (λ scene. refusal_over (call_in hash command ps busy scene) room free ≡ Some reply) (λ scene set.
      subst (λ (l : List Parsed). refusal_over (call_in hash command l busy scene) room free ≡ Some reply) (sym (only ps reads))
      (ap (λ (list : List Check). first_refusal list) (fronts_are (call_in hash command (Parts parts ∷ Parts more ∷ []) busy scene) room free)
      ∙ (pass (id_left hash id course scene before most set) (record {
        is = first_some (early_checks scene.volume.last busy command (Parts parts ∷ Parts more ∷ [])) _ reply
            (subst (λ (last : ℕ). first_refusal (early_checks last busy command (Parts parts ∷ Parts more ∷ [])) ≡ Some reply) (sym set.last)
            (early busy ∙ told.is));
      })).is)))

  pub words_give : {T : Type 0} (stopped : Stop) → AnswersAll {T = T} (word_checks course.last.0 parts more) (Err stopped) → Gives id command (Err stopped)
  words_give (Failed fault) told = tt
  words_give (Refused reply) told = λ busy. record {
    own = words_own course.last.0 parts more reply told.is;
    listed = λ ps reads.
        subst (λ (l : List Parsed). IsPossible (first_refusal (early_checks (id - 1) busy command l)) (possible command l) reply) (sym (only ps reads))
        (subst (λ (last : ℕ). IsPossible (first_refusal (early_checks last busy command (Parts parts ∷ Parts more ∷ [])))
        (possible command (Parts parts ∷ Parts more ∷ [])) reply) (omega (arith, before))
        (subst (λ (check : Check). IsPossible check (possible command (Parts parts ∷ Parts more ∷ [])) reply) (sym (early busy ∙ told.is)) (inl refl)));
  }

-- What the calls that make a pseudo file system answer and do, from what their stages tell.
use Rattle.std.proofs.Common.{◌≡◌, ◌≢◌, ℕ, ◌+◌, ◌-◌, ◌≤◌, List, [], ◌∷◌, ◌++◌, false, true≢false}
use Rattle.std.proofs.Common.{Option, Some, None, Ok, Err, refl, sym, ap, subst, ◌∙◌, arith, inl, inr}
use Rattle.std.specs.Prelude.{◌⊎◌, ◌||◌, is_some}
use Rattle.std.specs.Option.{option_map_or}
use Rattle.std.specs.List.{Contains}
use Rattle.hm_types.specs.Elements.{FullElement, Key}
use Rattle.hm_types.specs.declared.id.Pfs.{Pfs}
use Rattle.hm_types.specs.declared.limits.TheConstants.{GREATEST_ID}
use Rattle.hm_path.specs.Path.{IsPath}
use Rattle.hm_path.specs.declared.part.Part.{Part}
use Rattle.hm_key.specs.Balance.{Balanced}
use Rattle.hm_key.specs.Element.{pfs_of}
use Rattle.hm_key.specs.Extents.{Extent}
use Rattle.hm_key.specs.Stores.{Same}
use Rattle.hm_key.specs.declared.element.Element.{Element}
use Rattle.hm_cursor.specs.Views.{WritesIn}
use Rattle.hm_model.specs.Call.{Call}
use Rattle.hm_model.specs.Caused.{IsPossible, possible}
use Rattle.hm_model.specs.Due.{Check, accepted, early_checks, first_refusal, good_path, has_id, no_future, refuse_if}
use Rattle.hm_model.specs.Sites.{MakesName, Parsed, Parts}
use Rattle.hm_model.specs.declared.command.Command.{Command}
use Rattle.hm_model.specs.declared.reply.Reply.{Reply}
use Rattle.hm_model.specs.declared.reply.Reply.TheVariants.{MadePfs, NotFound, PfsFull, ReadOnly}
use Rattle.hm_model.proofs.PlainCheckLemmas.{first_none, first_some}
use Rattle.hm_dirs.specs.Walk.{Scene}
use Rattle.hm_dirs.specs.declared.position.Course.{Course}
use Rattle.hm_pfs.specs.Systems.{IsNotMadeBy}
use Rattle.hm_calls.specs.Call.{OnCalls}
use Rattle.hm_calls.specs.Due.{due_over, refusal_over}
use Rattle.hm_calls.specs.NewSystems.{Founds, HasKnownNumbers, IsDueTo, IsRefusedTo, name_checks, on_a_system, system_command}
use Rattle.hm_calls.specs.Possible.{IsGiven, IsOwn}
use Rattle.hm_calls.specs.Scenes.{InScenes, IsSet, call_in}
use Rattle.hm_calls.specs.Stages.{AnswersAll, IsAmong, last_checks, place_checks}
use Rattle.hm_calls.specs.Stop.{OfRefusal}
use Rattle.hm_calls.specs.Writes.{IsNewIn}
use Rattle.hm_calls.specs.declared.new_systems.NewSystem.{NewSystem}
use Rattle.hm_calls.specs.declared.new_systems.NewSystem.TheVariants.{Master, Slave}
use Rattle.hm_calls.specs.declared.stop.Stop.{Stop}
use Rattle.hm_calls.specs.declared.stop.Stop.TheVariants.{Failed, Refused}
use Rattle.hm_calls.proofs.FrontLemmas.{IsAsked, both_in, end_gives, fronts_are, late_gives, map_in}
use Rattle.hm_calls.proofs.GivenLemmas.{RefusesOwn, future_own, good_own, one_among, refusal_own, tested_own}
use Rattle.hm_calls.proofs.NewSystemLemmas.{system_early, system_paths}
use Rattle.hm_calls.proofs.RefusalLemmas.{IsRefused, id_left, pass}
use Rattle.hm_calls.proofs.SceneLemmas.{calls_of, scenes_all, scenes_so}
use Rattle.hm_calls.proofs.StageLemmas.{Wrote}

-- ---- replies

pub number_among : (reply : Reply) → (reply ≡ PfsFull) ⊎ (reply ≡ NotFound) → IsAmong on_a_system reply
number_among reply (inl is) = one_among on_a_system PfsFull tt (1, omega arith, refl) reply is
number_among reply (inr is) = one_among on_a_system NotFound tt (6, omega arith, refl) reply is

-- ---- what was made

-- a write in one pseudo file system makes nothing of another one
pub unmade_still : (pfs other i : ℕ) (es es' : List FullElement) → other ≢ pfs → WritesIn pfs i (IsNewIn pfs i) es es' → IsNotMadeBy other i es
    → IsNotMadeBy other i es'
unmade_still pfs other i es es' differ writes unmade x has at made = elim (writes.came x has) [
  | inl (e, there, key, kind, bytes) ↦
      unmade e there (ap (λ (k : Key). pfs_of k.localization) (sym key) ∙ at) (ap (λ (k : Key). k.create) (sym key) ∙ made)
  | inr new ↦ differ (sym at ∙ new.place)
]

-- a write keeps the balance of a store
pub balanced_then : (A : List FullElement → List FullElement → Type 0) (es es' : Option (List Element)) (xs xs' : Option (List Extent))
    → is_some es' ≡ is_some es → is_some xs' ≡ is_some xs → Balanced es xs → Wrote A es xs es' xs' → Balanced es' xs'
balanced_then A es None xs xs' told told' balanced wrote = tt
balanced_then A es (Some es') xs None told told' balanced wrote = tt
balanced_then A None (Some es') xs (Some xs') told told' balanced wrote = absurd (true≢false told)
balanced_then A (Some es) (Some es') None (Some xs') told told' balanced wrote = absurd (true≢false told')
balanced_then A (Some es) (Some es') (Some xs) (Some xs') told told' balanced wrote = (wrote balanced).0

pub pfs_apart : (a b : Pfs) → a ≢ b → a.0 ≢ b.0
pfs_apart a b differ is = differ (ap (λ (n : ℕ). record { 0 = n }) is)

-- ---- what is due

-- as each call refuses it refuses where its volume is counted
refused_counted : (hash : List ℕ → ℕ) (id numbers : ℕ) (command : Command) (es : Option (List Element)) (xs : Option (List Extent)) (room : ℕ → ℕ)
    (free : ℕ) (reply : Reply) → OnCalls hash id es xs (λ _ call. call.command ≡ command → refusal_over call room free ≡ Some reply)
    → IsRefusedTo hash id numbers command es xs room free reply
refused_counted hash id numbers command None xs room free reply told = tt
refused_counted hash id numbers command (Some es) None room free reply told = tt
refused_counted hash id numbers command (Some es) (Some xs) room free reply told = λ balanced call is asks counted. told balanced call is asks

module _ {S : Type 0} (elements_of : S → Option (List Element)) (mark_of : S → Key → ℕ) (extents_of : S → Option (List Extent)) (room_of : S → ℕ → ℕ)
    (free_of : S → ℕ) (hash : List ℕ → ℕ) (id numbers : ℕ) (new : NewSystem) (word : List ℕ) (shared : ℕ) (old now : S) where
  -- a call that was stopped before it wrote
  pub founds_stopped : (stopped : Stop)
      → IsRefused hash id (system_command new word shared) (elements_of old) (extents_of old) (room_of old) (free_of old) stopped
      → OfRefusal (λ _. Same elements_of mark_of extents_of room_of free_of old now) stopped
      → Founds elements_of mark_of extents_of room_of free_of hash id numbers new word shared old now (Err stopped)
  founds_stopped (Failed fault) refused same = tt
  founds_stopped (Refused reply) refused same = (
    refused_counted hash id numbers (system_command new word shared) (elements_of old) (extents_of old) (room_of old) (free_of old) reply refused,
    same,
  )

  -- one whose last stage stopped it
  pub founds_late : (stopped : Stop)
      → OfRefusal (IsRefusedTo hash id numbers (system_command new word shared) (elements_of old) (extents_of old) (room_of old) (free_of old)) stopped
      → OfRefusal (λ _. Same elements_of mark_of extents_of room_of free_of old now) stopped
      → Founds elements_of mark_of extents_of room_of free_of hash id numbers new word shared old now (Err stopped)
  founds_late (Failed fault) refused same = tt
  founds_late (Refused reply) refused same = (refused, same)

-- calls of a word that was read, and which passed what it is asked
pub system_asked : (id : ℕ) (course : Course) (new : NewSystem) (word : List ℕ) (shared : ℕ) (parts : List Part) {T : Type 0} {x : T}
    → course.last.0 + 1 ≡ id → id ≤ GREATEST_ID → IsPath word parts → AnswersAll (name_checks course.last.0 parts) (Ok x)
    → IsAsked id course (system_command new word shared) (Parts parts ∷ [])
system_asked id course new word shared parts before most path_is told = record {
  before = before;
  most = most;
  only = λ paths reads. system_paths new word shared parts paths path_is reads;
  early = λ busy. system_early new word shared course.last.0 parts busy ∙ told.is;
}

module _ {id : ℕ} {course : Course} {command : Command} {paths : List Parsed} (asked : IsAsked id course command paths) (hash : List ℕ → ℕ) (room : ℕ → ℕ)
    (free : ℕ) where
  -- what the later stages say first, all checks do
  late_is : (busy : Option ℕ) (scene : Scene) (check : Check) → IsSet hash course scene
      → first_refusal (place_checks (call_in hash command paths busy scene) ++ last_checks (call_in hash command paths busy scene) room free) ≡ check
      → refusal_over (call_in hash command paths busy scene) room free ≡ check
  late_is busy scene check set is =
      ap (λ (list : List Check). first_refusal list) (fronts_are (call_in hash command paths busy scene) room free)
      ∙ (pass (id_left hash id course scene asked.before asked.most set) (record {
        is = first_none (early_checks scene.volume.last busy command paths)
            (place_checks (call_in hash command paths busy scene) ++ last_checks (call_in hash command paths busy scene) room free)
            (subst (λ (last : ℕ). first_refusal (early_checks last busy command paths) ≡ None) (sym set.last) (asked.early busy)) ∙ is;
      })).is

  -- what the last stage says where a volume is counted, after the places passed
  abbrev IsLast : ℕ → Check → Scene → Type 0
  IsLast numbers check scene =
      ((busy : Option ℕ) → first_refusal (place_checks (call_in hash command paths busy scene)) ≡ None)
      × ((busy : Option ℕ) → HasKnownNumbers numbers scene.elements scene.volume
      → first_refusal (last_checks (call_in hash command paths busy scene) room free) ≡ check)

  -- so all checks do
  late_over : (numbers : ℕ) (es : Option (List Element)) (xs : Option (List Extent)) (F : Scene → Type 0) (check : Check)
      → (P : Call → Type 0)
      → ((ps : List Parsed) (busy : Option ℕ) (scene : Scene) → IsSet hash course scene → F scene → HasKnownNumbers numbers scene.elements scene.volume
      → refusal_over (call_in hash command ps busy scene) room free ≡ check → P (call_in hash command ps busy scene))
      → InScenes hash course es xs (λ scene. F scene × IsLast numbers check scene)
      → OnCalls hash id es xs (λ list call. call.command ≡ command → HasKnownNumbers numbers list call.volume → P call)
  late_over numbers es xs F check P told known =
      calls_of hash id course command es xs (λ list call. HasKnownNumbers numbers list call.volume → P call) asked.before
      (λ busy ps reads.
      scenes_so hash course es xs (λ scene. F scene × IsLast numbers check scene)
      (λ scene. HasKnownNumbers numbers scene.elements scene.volume → P (call_in hash command ps busy scene))
      (λ scene set is counted.
      told ps busy scene set is.0 counted
      (subst (λ (l : List Parsed). refusal_over (call_in hash command l busy scene) room free ≡ check) (sym (asked.only ps reads))
      (late_is busy scene check set
      (first_none (place_checks (call_in hash command paths busy scene)) (last_checks (call_in hash command paths busy scene) room free) (is.1.0 busy)
      ∙ is.1.1 busy counted)))) known.each)

  -- it refuses
  pub last_refuses : {T U : Type 0} {x : T} (numbers : ℕ) (es : Option (List Element)) (xs : Option (List Extent)) (stopped : Stop)
      → InScenes hash course es xs (λ scene. (busy : Option ℕ) → AnswersAll (place_checks (call_in hash command paths busy scene)) (Ok x))
      → InScenes hash course es xs (λ scene. (busy : Option ℕ) → HasKnownNumbers numbers scene.elements scene.volume
      → AnswersAll {T = U} (last_checks (call_in hash command paths busy scene) room free) (Err stopped))
      → OfRefusal (IsRefusedTo hash id numbers command es xs room free) stopped
  last_refuses numbers es xs (Failed fault) places told = tt
  last_refuses {T = T} {U = U} {x = x} numbers es xs (Refused reply) places told =
      late_over numbers es xs (λ _. Unit {0}) (Some reply) (λ call. refusal_over call room free ≡ Some reply) (λ ps busy scene set known counted is. is)
      (map_in {P = λ scene. ((busy : Option ℕ) → AnswersAll (place_checks (call_in hash command paths busy scene)) (Ok x))
      × ((busy : Option ℕ) → HasKnownNumbers numbers scene.elements scene.volume
      → AnswersAll {T = U} (last_checks (call_in hash command paths busy scene) room free) (Err (Refused reply)))}
      (λ scene set is. (tt, (λ busy. (is.0 busy).is, λ busy counted. (is.1 busy counted).is))) (both_in places told))

  -- all pass
  pub all_passed : {T U : Type 0} {x : T} {y : U} (numbers : ℕ) (es : Option (List Element)) (xs : Option (List Extent)) (F : Scene → Type 0) (reply : Reply)
      → ((ps : List Parsed) (busy : Option ℕ) (scene : Scene) → IsSet hash course scene → F scene → HasKnownNumbers numbers scene.elements scene.volume
      → accepted (call_in hash command ps busy scene) ≡ reply)
      → InScenes hash course es xs F
      → InScenes hash course es xs (λ scene. (busy : Option ℕ) → AnswersAll (place_checks (call_in hash command paths busy scene)) (Ok x))
      → InScenes hash course es xs (λ scene. (busy : Option ℕ) → HasKnownNumbers numbers scene.elements scene.volume
      → AnswersAll (last_checks (call_in hash command paths busy scene) room free) (Ok y))
      → IsDueTo hash id numbers command es xs room free reply
  all_passed {x = x} {y = y} numbers es xs F reply accepts known places told =
      late_over numbers es xs F None (λ call. reply ≡ due_over call room free)
      (λ ps busy scene set is counted none.
      sym (ap (λ (c : Check). option_map_or (λ r. r) c (accepted (call_in hash command ps busy scene))) none ∙ accepts ps busy scene set is counted))
      (map_in {P = λ scene. F scene × (((busy : Option ℕ) → AnswersAll (place_checks (call_in hash command paths busy scene)) (Ok x))
      × ((busy : Option ℕ) → HasKnownNumbers numbers scene.elements scene.volume
      → AnswersAll (last_checks (call_in hash command paths busy scene) room free) (Ok y)))}
      (λ scene set is. (is.0, (λ busy. (is.1.0 busy).is, λ busy counted. (is.1.1 busy counted).is))) (both_in known (both_in places told)))

-- ---- the words of its path

name_own : (last : ℕ) (parts : List Part) (reply : Reply) → first_refusal (name_checks last parts) ≡ Some reply → IsOwn reply
name_own last parts reply is =
    refusal_own (first_refusal (name_checks last parts))
    (first_own (good_path MakesName (Parts parts)) (no_future last (Parts parts)) (refuse_if (has_id (Parts parts) || false) ReadOnly)
    (good_own MakesName (Parts parts)) (future_own last (Parts parts)) (tested_own (has_id (Parts parts) || false) ReadOnly tt)) reply is where
      first_own : (a b c : Check) → RefusesOwn a → RefusesOwn b → RefusesOwn c → RefusesOwn (first_refusal (a ∷ b ∷ None ∷ c ∷ []))
      first_own (Some r) b c a' b' c' = a'
      first_own None (Some r) c a' b' c' = b'
      first_own None None (Some r) a' b' c' = c'
      first_own None None None a' b' c' = tt

module _ (hash : List ℕ → ℕ) (id : ℕ) (course : Course) (new : NewSystem) (word : List ℕ) (shared : ℕ) (parts : List Part) (path_is : IsPath word parts)
    (es : Option (List Element)) (xs : Option (List Extent)) (before : course.last.0 + 1 ≡ id) (most : id ≤ GREATEST_ID) where
  abbrev the_command : Command
  the_command = system_command new word shared

  pub name_refuses : {T : Type 0} (room : ℕ → ℕ) (free : ℕ) (stopped : Stop) → AnswersAll {T = T} (name_checks course.last.0 parts) (Err stopped)
      → IsRefused hash id the_command es xs room free stopped
  name_refuses room free (Failed fault) told = tt
  name_refuses room free (Refused reply) told =
      calls_of hash id course the_command es xs (λ _ call. refusal_over call room free ≡ Some reply) before (λ busy ps reads.
      scenes_all hash course es xs (λ scene. refusal_over (call_in hash the_command ps busy scene) room free ≡ Some reply) (λ scene set.
      subst (λ (l : List Parsed). refusal_over (call_in hash the_command l busy scene) room free ≡ Some reply)
      (sym (system_paths new word shared parts ps path_is reads))
      (ap (λ (list : List Check). first_refusal list) (fronts_are (call_in hash the_command (Parts parts ∷ []) busy scene) room free)
      ∙ (pass (id_left hash id course scene before most set) (record {
        is = first_some (early_checks scene.volume.last busy the_command (Parts parts ∷ [])) _ reply
            (subst (λ (last : ℕ). first_refusal (early_checks last busy the_command (Parts parts ∷ [])) ≡ Some reply) (sym set.last)
            (system_early new word shared course.last.0 parts busy ∙ told.is));
      })).is)))

  pub name_gives : {T : Type 0} (stopped : Stop) → AnswersAll {T = T} (name_checks course.last.0 parts) (Err stopped)
      → OfRefusal (IsGiven id the_command) stopped
  name_gives (Failed fault) told = tt
  name_gives (Refused reply) told = λ busy. record {
    own = name_own course.last.0 parts reply told.is;
    listed = λ ps reads.
        subst (λ (l : List Parsed). IsPossible (first_refusal (early_checks (id - 1) busy the_command l)) (possible the_command l) reply)
        (sym (system_paths new word shared parts ps path_is reads))
        (subst (λ (last : ℕ). IsPossible (first_refusal (early_checks last busy the_command (Parts parts ∷ []))) (possible the_command (Parts parts ∷ []))
        reply) (omega (arith, before))
        (subst (λ (check : Check). IsPossible check (possible the_command (Parts parts ∷ [])) reply)
        (sym (system_early new word shared course.last.0 parts busy ∙ told.is)) (inl refl)));
  }

-- ---- the replies after its words

-- the numbers of both commands
system_numbers : (new : NewSystem) (word : List ℕ) (shared : ℕ) (paths : List Parsed) → possible (system_command new word shared) paths ≡ on_a_system
system_numbers Master word shared paths = refl
system_numbers Slave word shared paths = refl

module _ {id : ℕ} {course : Course} {paths : List Parsed} (new : NewSystem) (word : List ℕ) (shared : ℕ)
    (asked : IsAsked id course (system_command new word shared) paths) where
  pub late_given : (stopped : Stop) → OfRefusal (IsAmong on_a_system) stopped → OfRefusal (IsGiven id (system_command new word shared)) stopped
  late_given (Failed fault) told = tt
  late_given (Refused reply) told =
      late_gives asked (Refused reply) (subst (λ (numbers : List ℕ). IsAmong numbers reply) (sym (system_numbers new word shared paths)) told)

  pub end_given : (pfs : Pfs) → IsGiven id (system_command new word shared) (MadePfs pfs)
  end_given pfs =
      end_gives asked (MadePfs pfs) tt (subst (λ (numbers : List ℕ). Contains numbers 107) (sym (system_numbers new word shared paths)) (0, omega arith, refl))

-- From what the steps of a call tell of its checks to the reply that it is due.
use Rattle.std.proofs.Common.{◌≡◌, ℕ, ◌+◌, ◌≤◌, List, [], ◌∷◌, ◌++◌, Bool, true, false, Option, Some, None, drop, refl, sym, ap, subst, ◌∙◌, arith}
use Rattle.std.specs.Prelude.{◌||◌}
use Rattle.std.specs.Bool.{nat_le}
use Rattle.std.specs.List.{AllZip}
use Rattle.hm_types.specs.declared.limits.TheConstants.{GREATEST_ID}
use Rattle.hm_path.specs.declared.part.Part.{Part}
use Rattle.hm_path.specs.Path.{IsPath}
use Rattle.hm_path.proofs.PathLemmas.{bad_place_is_one, no_bad_path}
use Rattle.hm_key.specs.Extents.{Extent}
use Rattle.hm_key.specs.declared.element.Element.{Element}
use Rattle.hm_model.specs.Call.{Call, located}
use Rattle.hm_model.specs.Due.{Check, accepted, checks, first_refusal, good_path, ids_left, no_future, past_stays, refuse_if, walks}
use Rattle.hm_model.specs.Sites.{BadAt, IsParsed, MakesName, Parsed, Parts, ReadsWords, TakesName, Use, Walks, locate, uses_of}
use Rattle.hm_model.specs.Walk.{Follows, Stays}
use Rattle.hm_model.specs.declared.command.Command.{Command}
use Rattle.hm_model.specs.declared.command.Command.TheVariants.{Ln, Ls, Mv, Readlink, Rm, Rmdir, Stat}
use Rattle.hm_model.specs.declared.reply.Reply.{Reply}
use Rattle.hm_model.specs.declared.reply.Reply.TheVariants.{BadPath, IdsSpent}
use Rattle.hm_model.proofs.PlainCheckLemmas.{ids_are_left}
use Rattle.hm_model.proofs.ReadLemmas.{read_once}
use Rattle.hm_dirs.specs.Walk.{Scene}
use Rattle.hm_dirs.specs.declared.position.Course.{Course}
use Rattle.hm_calls.specs.Due.{refusal_over, space_left}
use Rattle.hm_calls.specs.New.{command_by}
use Rattle.hm_calls.specs.declared.new.New.{New}
use Rattle.hm_calls.specs.declared.new.New.TheVariants.{Directory, File, Snapshot, Softlink}
use Rattle.hm_calls.specs.Places.{IsBadPath}
use Rattle.hm_calls.specs.Replies.{IsAcceptedBy, IsRefusalOf}
use Rattle.hm_calls.specs.Stop.{OfRefusal}
use Rattle.hm_calls.specs.declared.stop.Stop.{Stop}
use Rattle.hm_calls.specs.declared.stop.Stop.TheVariants.{Failed, Refused}
use Rattle.hm_calls.proofs.SceneLemmas.{IsSet, IsStoppedBy, OnScenes, call_in, calls_of, scenes_all, scenes_both, scenes_so}

-- ---- the first refusal of a list of checks

pub record IsFirst (list : List Check) (refusal : Check) : Type 0 where
  pub is : first_refusal list ≡ refusal

-- no check refuses; one passes, and the first refusal is that of the others; one refuses
pub all_pass : IsFirst [] None
all_pass = record { is = refl }

pub pass : {check : Check} {list : List Check} {refusal : Check} → check ≡ None → IsFirst list refusal → IsFirst (check ∷ list) refusal
pass none rest = record { is = rw none rest.is }

pub stop : {check : Check} {list : List Check} {reply : Reply} → check ≡ Some reply → IsFirst (check ∷ list) (Some reply)
stop some = record { is = rw some refl }

-- all checks of a call over a space
abbrev pub all_checks : Call → (ℕ → ℕ) → ℕ → List Check
all_checks call room free = checks call ++ space_left call room free ∷ []

-- ---- tests of one path or site, and of two

pub refuse_one : (a : Bool) (reply : Reply) (check : Check) → refuse_if a reply ≡ check → refuse_if (a || false) reply ≡ check
refuse_one true reply check is = is
refuse_one false reply check is = is

pub refuse_first : (a b : Bool) (reply refusal : Reply) → refuse_if a reply ≡ Some refusal → refuse_if (a || (b || false)) reply ≡ Some refusal
refuse_first true b reply refusal is = is
refuse_first false b reply refusal is = absurd (cc)

pub refuse_second : (a b : Bool) (reply : Reply) (check : Check) → refuse_if a reply ≡ None → refuse_if b reply ≡ check
    → refuse_if (a || (b || false)) reply ≡ check
refuse_second true b reply check none is = absurd (cc)
refuse_second false true reply check none is = is
refuse_second false false reply check none is = is

-- ---- calls of one word, and of two

-- how a word may be read
abbrev pub AsRead : Use × List ℕ → Parsed → Type 0
AsRead u path = IsParsed u.1 path

pub read_one : (u : Use) (word : List ℕ) (paths : List Parsed) → AllZip AsRead ((u, word) ∷ []) paths
    → (path : Parsed) × (paths ≡ path ∷ []) × IsParsed word path
read_one u word [] each = absurd each
read_one u word (path ∷ []) each = (path, refl, each.0)
read_one u word (path ∷ next ∷ more) each = absurd each.1

pub read_two : (u v : Use) (word other : List ℕ) (paths : List Parsed) → AllZip AsRead ((u, word) ∷ (v, other) ∷ []) paths
    → (path : Parsed) × (next : Parsed) × (paths ≡ path ∷ next ∷ []) × IsParsed word path × IsParsed other next
read_two u v word other [] each = absurd each
read_two u v word other (path ∷ []) each = absurd each.1
read_two u v word other (path ∷ next ∷ []) each = (path, next, refl, each.0, each.1.0)
read_two u v word other (path ∷ next ∷ third ∷ more) each = absurd each.1.1

-- a bad word, whatever its use
pub bad_once : (u : Use) (word : List ℕ) (reply : Reply) (path : Parsed) → IsBadPath word reply → IsParsed word path → good_path u path ≡ Some reply
bad_once u word reply (Parts parts) bad reads = absurd (no_bad_path word parts bad.0 reads bad.2)
bad_once u word reply (BadAt place) bad reads = rw bad.1 (ap (λ p. Some (BadPath p)) (bad_place_is_one word place bad.0 reads bad.2))

-- The checks of a command of one word, in one list: the rest are those after the walk.
pub record IsOfOne (command : Command) (u : Use) (word : List ℕ) : Type 0 where
  pub uses : uses_of command ≡ (u, word) ∷ []
  pub form : (hash : List ℕ → ℕ) (room : ℕ → ℕ) (free : ℕ) (path : Parsed) (busy : Option ℕ) (scene : Scene) (refusal : Check) →
      let call : Call = call_in hash command (path ∷ []) busy scene in
      IsFirst (ids_left call ∷ None ∷ good_path u path ∷ no_future scene.volume.last path ∷ None ∷ past_stays command (path ∷ [])
      ∷ walks (located call u path) ∷ drop 7 (all_checks call room free)) refusal → IsFirst (all_checks call room free) refusal

-- the same of a command of two
pub record IsOfTwo (command : Command) (u v : Use) (word other : List ℕ) : Type 0 where
  pub uses : uses_of command ≡ (u, word) ∷ (v, other) ∷ []
  pub form : (hash : List ℕ → ℕ) (room : ℕ → ℕ) (free : ℕ) (path next : Parsed) (busy : Option ℕ) (scene : Scene) (refusal : Check) →
      let call : Call = call_in hash command (path ∷ next ∷ []) busy scene in
      IsFirst (ids_left call ∷ None ∷ good_path u path ∷ good_path v next ∷ no_future scene.volume.last path ∷ no_future scene.volume.last next ∷ None
      ∷ past_stays command (path ∷ next ∷ []) ∷ walks (located call u path) ∷ walks (located call v next) ∷ drop 10 (all_checks call room free)) refusal
      → IsFirst (all_checks call room free) refusal

-- ---- a step that refuses a call, and a call that all its steps let pass

-- a call of this command is refused where a step was
abbrev pub IsRefused : (List ℕ → ℕ) → ℕ → Command → Option (List Element) → Option (List Extent) → (ℕ → ℕ) → ℕ → Stop → Type 0
IsRefused hash id command es xs room free = OfRefusal (IsRefusalOf hash id (λ call. call.command ≡ command) es xs room free)

module _ (hash : List ℕ → ℕ) (id : ℕ) (course : Course) (before : course.last.0 + 1 ≡ id) (command : Command) (es : Option (List Element))
    (xs : Option (List Extent)) (room : ℕ → ℕ) (free : ℕ) where
  pub step_refuses : (F : Scene → Type 0) (check : Scene → Check)
      → ((reply : Reply) (busy : Option ℕ) (paths : List Parsed) (scene : Scene) → ReadsWords command paths → IsSet hash course scene → F scene
      → check scene ≡ Some reply → IsFirst (all_checks (call_in hash command paths busy scene) room free) (Some reply))
      → OnScenes hash es xs course F → (stopped : Stop) → OnScenes hash es xs course (λ scene. IsStoppedBy (check scene) stopped)
      → IsRefused hash id command es xs room free stopped
  step_refuses F check first known (Failed fault) told = tt
  step_refuses F check first known (Refused reply) told =
      calls_of hash id course command es xs (λ _ call. refusal_over call room free ≡ Some reply) before (λ busy paths reads.
      scenes_so hash course es xs (λ scene. F scene × (check scene ≡ Some reply))
      (λ scene. refusal_over (call_in hash command paths busy scene) room free ≡ Some reply)
      (λ scene set both. (first reply busy paths scene reads set both.0 both.1).is)
      (scenes_both hash course es xs F (λ scene. check scene ≡ Some reply) known told))

  pub all_accept : (F : Scene → Type 0) (reply : Reply)
      → ((busy : Option ℕ) (paths : List Parsed) (scene : Scene) → ReadsWords command paths → IsSet hash course scene → F scene
      → IsFirst (all_checks (call_in hash command paths busy scene) room free) None × (accepted (call_in hash command paths busy scene) ≡ reply))
      → OnScenes hash es xs course F → IsAcceptedBy hash id (λ call. call.command ≡ command) es xs room free reply
  all_accept F reply all known =
      calls_of hash id course command es xs (λ _ call. (refusal_over call room free ≡ None) × (accepted call ≡ reply)) before (λ busy paths reads.
      scenes_so hash course es xs F
      (λ scene. (refusal_over (call_in hash command paths busy scene) room free ≡ None) × (accepted (call_in hash command paths busy scene) ≡ reply))
      (λ scene set is. let whole = all busy paths scene reads set is in (whole.0.is, whole.1)) known)

-- an id is left
pub id_left : (hash : List ℕ → ℕ) (id : ℕ) (course : Course) (scene : Scene) → course.last.0 + 1 ≡ id → id ≤ GREATEST_ID → IsSet hash course scene
    → refuse_if (nat_le GREATEST_ID scene.volume.last) IdsSpent ≡ None
id_left hash id course scene before most set =
    ids_are_left scene.volume.last (let last = set.last in omega (arith, before, most, last))

-- the checks before the walk of one path pass
pub record PassEarly (command : Command) (u : Use) (last : ℕ) (parts : List Part) : Type 0 where
  pub good : good_path u (Parts parts) ≡ None
  pub future : no_future last (Parts parts) ≡ None
  pub past : past_stays command (Parts parts ∷ []) ≡ None

module _ (hash : List ℕ → ℕ) (id : ℕ) (course : Course) (before : course.last.0 + 1 ≡ id) (most : id ≤ GREATEST_ID) (command : Command) (u : Use)
    (word : List ℕ) (is_one : IsOfOne command u word) (es : Option (List Element)) (xs : Option (List Extent)) (room : ℕ → ℕ) (free : ℕ) where
  paths_one : (paths : List Parsed) → ReadsWords command paths → (path : Parsed) × (paths ≡ path ∷ []) × IsParsed word path
  paths_one paths reads = read_one u word paths (subst (λ (us : List (Use × List ℕ)). AllZip AsRead us paths) is_one.uses reads)

  no_scene : OnScenes hash es xs course (λ _. Unit {0})
  no_scene = scenes_all hash course es xs (λ _. Unit {0}) (λ _ _. tt)

  -- the word is no path
  pub word_refuses : (stopped : Stop) → OfRefusal (IsBadPath word) stopped → IsRefused hash id command es xs room free stopped
  word_refuses (Failed fault) bad = tt
  word_refuses (Refused reply) bad =
      step_refuses hash id course before command es xs room free (λ _. Unit {0}) (λ _. Some reply) (λ other busy paths scene reads set known is.
      let one = paths_one paths reads in
      subst (λ (ps : List Parsed). IsFirst (all_checks (call_in hash command ps busy scene) room free) (Some other)) (sym one.1)
      (is_one.form hash room free one.0 busy scene (Some other)
      (pass (id_left hash id course scene before most set) (pass refl (stop (bad_once u word reply one.0 bad one.2 ∙ is))))))
      no_scene (Refused reply) (scenes_all hash course es xs (λ _. Some reply ≡ Some reply) (λ _ _. refl))

  module _ (parts : List Part) (path_is : IsPath word parts) where
    abbrev the_call : Option ℕ → Scene → Call
    the_call = call_in hash command (Parts parts ∷ [])

    -- a check of a path that was read refuses
    pub one_refuses : (F : Scene → Type 0) (check : Scene → Check)
        → ((reply : Reply) (busy : Option ℕ) (scene : Scene) → IsSet hash course scene → F scene → check scene ≡ Some reply
        → IsFirst (all_checks (call_in hash command (Parts parts ∷ []) busy scene) room free) (Some reply))
        → OnScenes hash es xs course F → (stopped : Stop) → OnScenes hash es xs course (λ scene. IsStoppedBy (check scene) stopped)
        → IsRefused hash id command es xs room free stopped
    one_refuses F check first known stopped told =
        step_refuses hash id course before command es xs room free F check (λ reply busy paths scene reads set is refuses.
        let one = paths_one paths reads in
        let same : paths ≡ Parts parts ∷ [] = one.1 ∙ ap (λ p. p ∷ []) (read_once word parts one.0 path_is one.2) in
        subst (λ (ps : List Parsed). IsFirst (all_checks (call_in hash command ps busy scene) room free) (Some reply)) (sym same)
        (first reply busy scene set is refuses)) known stopped told

    pub one_accepts : (F : Scene → Type 0) (reply : Reply)
        → ((busy : Option ℕ) (scene : Scene) → IsSet hash course scene → F scene
        → IsFirst (all_checks (call_in hash command (Parts parts ∷ []) busy scene) room free) None
        × (accepted (call_in hash command (Parts parts ∷ []) busy scene) ≡ reply))
        → OnScenes hash es xs course F → IsAcceptedBy hash id (λ call. call.command ≡ command) es xs room free reply
    one_accepts F reply all known =
        all_accept hash id course before command es xs room free F reply (λ busy paths scene reads set is.
        let one = paths_one paths reads in
        let same : paths ≡ Parts parts ∷ [] = one.1 ∙ ap (λ p. p ∷ []) (read_once word parts one.0 path_is one.2) in
        subst (λ (ps : List Parsed). IsFirst (all_checks (call_in hash command ps busy scene) room free) None
        × (accepted (call_in hash command ps busy scene) ≡ reply)) (sym same) (all busy scene set is)) known

    -- it lacks a name that it needs; it has an id in the future; it has one where there must be none
    pub name_refuses : (stopped : Stop) → IsStoppedBy (good_path u (Parts parts)) stopped → IsRefused hash id command es xs room free stopped
    name_refuses stopped refuses =
        one_refuses (λ _. Unit {0}) (λ _. good_path u (Parts parts)) (λ reply busy scene set known is.
        is_one.form hash room free (Parts parts) busy scene (Some reply) (pass (id_left hash id course scene before most set) (pass refl (stop is))))
        no_scene stopped (scenes_all hash course es xs (λ _. IsStoppedBy (good_path u (Parts parts)) stopped) (λ _ _. refuses))

    pub future_refuses : good_path u (Parts parts) ≡ None → (stopped : Stop) → IsStoppedBy (no_future course.last.0 (Parts parts)) stopped
        → IsRefused hash id command es xs room free stopped
    future_refuses good stopped refuses =
        one_refuses (λ _. Unit {0}) (λ _. no_future course.last.0 (Parts parts)) (λ reply busy scene set known is.
        is_one.form hash room free (Parts parts) busy scene (Some reply) (pass (id_left hash id course scene before most set) (pass refl (pass good
        (stop (subst (λ (last : ℕ). no_future last (Parts parts) ≡ Some reply) (sym set.last) is))))))
        no_scene stopped (scenes_all hash course es xs (λ _. IsStoppedBy (no_future course.last.0 (Parts parts)) stopped) (λ _ _. refuses))

    pub past_refuses : good_path u (Parts parts) ≡ None → no_future course.last.0 (Parts parts) ≡ None → (stopped : Stop)
        → IsStoppedBy (past_stays command (Parts parts ∷ [])) stopped → IsRefused hash id command es xs room free stopped
    past_refuses good future stopped refuses =
        one_refuses (λ _. Unit {0}) (λ _. past_stays command (Parts parts ∷ [])) (λ reply busy scene set known is.
        is_one.form hash room free (Parts parts) busy scene (Some reply) (pass (id_left hash id course scene before most set) (pass refl (pass good
        (pass (subst (λ (last : ℕ). no_future last (Parts parts) ≡ None) (sym set.last) future) (pass refl (stop is)))))))
        no_scene stopped (scenes_all hash course es xs (λ _. IsStoppedBy (past_stays command (Parts parts ∷ [])) stopped) (λ _ _. refuses))

    -- what the walk and the checks after it say first, is said first
    pub after_early : PassEarly command u course.last.0 parts → (busy : Option ℕ) (scene : Scene) (refusal : Check) → IsSet hash course scene
        → IsFirst (walks (locate scene.volume scene.view u parts)
        ∷ drop 7 (all_checks (call_in hash command (Parts parts ∷ []) busy scene) room free)) refusal
        → IsFirst (all_checks (call_in hash command (Parts parts ∷ []) busy scene) room free) refusal
    after_early early busy scene refusal set first =
        is_one.form hash room free (Parts parts) busy scene refusal (pass (id_left hash id course scene before most set) (pass refl (pass early.good
        (pass (subst (λ (last : ℕ). no_future last (Parts parts) ≡ None) (sym set.last) early.future) (pass refl (pass early.past first))))))

    pub walk_refuses : PassEarly command u course.last.0 parts → (stopped : Stop)
        → OnScenes hash es xs course (λ scene. IsStoppedBy (walks (locate scene.volume scene.view u parts)) stopped)
        → IsRefused hash id command es xs room free stopped
    walk_refuses early stopped told =
        one_refuses (λ _. Unit {0}) (λ scene. walks (locate scene.volume scene.view u parts)) (λ reply busy scene set known is.
        after_early early busy scene (Some reply) set (stop is)) no_scene stopped told

module _ (hash : List ℕ → ℕ) (id : ℕ) (course : Course) (before : course.last.0 + 1 ≡ id) (most : id ≤ GREATEST_ID) (command : Command) (u v : Use)
    (word other : List ℕ) (is_two : IsOfTwo command u v word other) (es : Option (List Element)) (xs : Option (List Extent)) (room : ℕ → ℕ) (free : ℕ) where
  paths_two : (paths : List Parsed) → ReadsWords command paths
      → (path : Parsed) × (next : Parsed) × (paths ≡ path ∷ next ∷ []) × IsParsed word path × IsParsed other next
  paths_two paths reads = read_two u v word other paths (subst (λ (us : List (Use × List ℕ)). AllZip AsRead us paths) is_two.uses reads)

  no_scenes : OnScenes hash es xs course (λ _. Unit {0})
  no_scenes = scenes_all hash course es xs (λ _. Unit {0}) (λ _ _. tt)

  -- a check that asks nothing of the scene refuses
  plain_refuses : (check : Check) → ((reply : Reply) (busy : Option ℕ) (path next : Parsed) (scene : Scene) → IsParsed word path → IsParsed other next
      → IsSet hash course scene → check ≡ Some reply
      → IsFirst (all_checks (call_in hash command (path ∷ next ∷ []) busy scene) room free) (Some reply))
      → (stopped : Stop) → IsStoppedBy check stopped → IsRefused hash id command es xs room free stopped
  plain_refuses check first stopped refuses =
      step_refuses hash id course before command es xs room free (λ _. Unit {0}) (λ _. check) (λ reply busy paths scene reads set known is.
      let both = paths_two paths reads in
      subst (λ (ps : List Parsed). IsFirst (all_checks (call_in hash command ps busy scene) room free) (Some reply)) (sym both.2)
      (first reply busy both.0 both.1 scene both.3 both.4 set is))
      no_scenes stopped (scenes_all hash course es xs (λ _. IsStoppedBy check stopped) (λ _ _. refuses))

  -- the first word is no path, or lacks a name that it needs
  pub first_refuses : (stopped : Stop) → OfRefusal (IsBadPath word) stopped → IsRefused hash id command es xs room free stopped
  first_refuses (Failed fault) bad = tt
  first_refuses (Refused reply) bad =
      plain_refuses (Some reply) (λ refusal busy path next scene reads next_reads set is.
      is_two.form hash room free path next busy scene (Some refusal)
      (pass (id_left hash id course scene before most set) (pass refl (stop (bad_once u word reply path bad reads ∙ is))))) (Refused reply) refl

  module _ (parts : List Part) (path_is : IsPath word parts) where
    pub first_name_refuses : (stopped : Stop) → IsStoppedBy (good_path u (Parts parts)) stopped → IsRefused hash id command es xs room free stopped
    first_name_refuses = plain_refuses (good_path u (Parts parts)) (λ reply busy path next scene reads next_reads set is.
        is_two.form hash room free path next busy scene (Some reply)
        (pass (id_left hash id course scene before most set)
        (pass refl (stop (ap (good_path u) (read_once word parts path path_is reads) ∙ is)))))

    -- the second word is no path
    pub second_refuses : good_path u (Parts parts) ≡ None → (stopped : Stop) → OfRefusal (IsBadPath other) stopped
        → IsRefused hash id command es xs room free stopped
    second_refuses good (Failed fault) bad = tt
    second_refuses good (Refused reply) bad =
        plain_refuses (Some reply) (λ refusal busy path next scene reads next_reads set is.
        is_two.form hash room free path next busy scene (Some refusal)
        (pass (id_left hash id course scene before most set) (pass refl (pass (ap (good_path u) (read_once word parts path path_is reads) ∙ good)
        (stop (bad_once v other reply next bad next_reads ∙ is)))))) (Refused reply) refl

pub of_ls : (word : List ℕ) → IsOfOne (Ls word) (Walks Follows) word
of_ls word = record { uses = refl; form = λ hash room free path busy scene refusal first. first }

pub of_stat : (word : List ℕ) → IsOfOne (Stat word) (Walks Stays) word
of_stat word = record { uses = refl; form = λ hash room free path busy scene refusal first. first }

pub of_readlink : (word : List ℕ) → IsOfOne (Readlink word) (Walks Stays) word
of_readlink word = record { uses = refl; form = λ hash room free path busy scene refusal first. first }

pub of_rm : (word : List ℕ) → IsOfOne (Rm word) TakesName word
of_rm word = record { uses = refl; form = λ hash room free path busy scene refusal first. first }

pub of_rmdir : (word : List ℕ) → IsOfOne (Rmdir word) TakesName word
of_rmdir word = record { uses = refl; form = λ hash room free path busy scene refusal first. first }

pub of_make : (new : New) (word : List ℕ) → IsOfOne (command_by new word) MakesName word
of_make Directory word = record { uses = refl; form = λ hash room free path busy scene refusal first. first }
of_make File word = record { uses = refl; form = λ hash room free path busy scene refusal first. first }
of_make (Softlink target) word = record { uses = refl; form = λ hash room free path busy scene refusal first. first }
of_make Snapshot word = record { uses = refl; form = λ hash room free path busy scene refusal first. first }

pub of_ln : (old new : List ℕ) → IsOfTwo (Ln old new) (Walks Stays) MakesName old new
of_ln old new = record { uses = refl; form = λ hash room free path next busy scene refusal first. first }

pub of_mv : (old new : List ℕ) → IsOfTwo (Mv old new) TakesName MakesName old new
of_mv old new = record { uses = refl; form = λ hash room free path next busy scene refusal first. first }

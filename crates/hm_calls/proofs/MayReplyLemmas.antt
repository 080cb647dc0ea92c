-- A reply that a call may have by its words, from what its steps tell.
use Rattle.std.proofs.Common.{◌≡◌, ℕ, ◌+◌, ◌-◌, List, [], ◌∷◌, Bool, true, false, Option, Some, None, Result, Ok, Err, refl, sym, subst, inl, arith}
use Rattle.std.specs.Prelude.{if◌then◌else◌}
use Rattle.std.specs.List.{AllZip, Contains}
use Rattle.hm_path.specs.declared.part.Part.{Part}
use Rattle.hm_path.specs.Path.{IsPath}
use Rattle.hm_model.specs.Caused.{IsPossible, number_of, possible}
use Rattle.hm_model.specs.Due.{Check, early_checks, first_refusal, good_path, has_id, no_future, past_stays, refuse_if}
use Rattle.hm_model.specs.Sites.{IsParsed, MakesName, Parsed, Parts, ReadsWords, TakesName, Use, Walks, front_of, last_name, uses_of}
use Rattle.hm_model.specs.Walk.{Follows, Stays}
use Rattle.hm_model.specs.declared.command.Command.{Command}
use Rattle.hm_model.specs.declared.command.Command.TheVariants.{Cat, Ln, Ls, Mv, Readlink, Rm, Rmdir, Stat}
use Rattle.hm_model.specs.declared.reply.Reply.{Reply}
use Rattle.hm_model.specs.declared.reply.Reply.TheVariants.{ReadOnly}
use Rattle.hm_model.proofs.ReadLemmas.{read_once}
use Rattle.hm_dirs.specs.declared.position.Course.{Course}
use Rattle.hm_calls.specs.Edits.{command_for}
use Rattle.hm_calls.specs.New.{command_by}
use Rattle.hm_calls.specs.Places.{IsBadPath}
use Rattle.hm_calls.specs.Possible.{Gives, IsGiven, IsLost, IsNoSpace, IsOwn}
use Rattle.hm_calls.specs.Stop.{Decides, OfRefusal}
use Rattle.hm_calls.specs.declared.edit.Edit.{Edit}
use Rattle.hm_calls.specs.declared.edit.Edit.TheVariants.{Fill, Truncate, Write}
use Rattle.hm_calls.specs.declared.new.New.{New}
use Rattle.hm_calls.specs.declared.new.New.TheVariants.{Directory, File, Snapshot, Softlink}
use Rattle.hm_calls.specs.declared.stop.Stop.{Stop}
use Rattle.hm_calls.specs.declared.stop.Stop.TheVariants.{Failed, Refused}
use Rattle.hm_calls.proofs.GivenLemmas.{IsAmong, RefusesOwn, bad_own, future_own, good_own, lost_among, one_among, past_own, refusal_own, space_among}
use Rattle.hm_calls.proofs.MakeLemmas.{make_past}
use Rattle.hm_calls.proofs.PlaceLemmas.{front_has_none}
use Rattle.hm_calls.proofs.RefusalLemmas.{AsRead, IsFirst, PassEarly, all_pass, bad_once, pass, read_one, read_two, stop}
use Rattle.hm_calls.proofs.SceneLemmas.{IsStoppedBy}
use Rattle.hm_calls.proofs.StageLemmas.{good_new, no_ids}

-- ---- the early checks of a list

-- one that fails, and none that does
refused_first : (list : List Check) (numbers : List ℕ) (reply : Reply) → IsFirst list (Some reply) → IsPossible (first_refusal list) numbers reply
refused_first list numbers reply first = subst (λ (check : Check). IsPossible check numbers reply) (sym first.is) (inl refl)

passed_first : (list : List Check) (numbers : List ℕ) (reply : Reply) → IsFirst list None → IsAmong numbers reply
    → IsPossible (first_refusal list) numbers reply
passed_first list numbers reply first has = subst (λ (check : Check). IsPossible check numbers reply) (sym first.is) has.listed

-- the early checks of a command of one word
abbrev early_one : ℕ → Command → Use → Parsed → List Check
early_one last command u path = None ∷ good_path u path ∷ no_future last path ∷ None ∷ past_stays command (path ∷ []) ∷ []

pub record AsksOne (command : Command) (u : Use) (word : List ℕ) : Type 0 where
  pub uses : uses_of command ≡ (u, word) ∷ []
  pub early : (last : ℕ) (busy : Option ℕ) (path : Parsed) → early_checks last busy command (path ∷ []) ≡ early_one last command u path

-- and of one of two
abbrev early_two : ℕ → Command → Use → Use → Parsed → Parsed → List Check
early_two last command u v path next =
    None ∷ good_path u path ∷ good_path v next ∷ no_future last path ∷ no_future last next ∷ None ∷ past_stays command (path ∷ next ∷ []) ∷ []

pub record AsksTwo (command : Command) (u v : Use) (word other : List ℕ) : Type 0 where
  pub uses : uses_of command ≡ (u, word) ∷ (v, other) ∷ []
  pub early : (last : ℕ) (busy : Option ℕ) (path next : Parsed)
      → early_checks last busy command (path ∷ next ∷ []) ≡ early_two last command u v path next

-- ---- a step that refuses

of_refusals : (P Q : Reply → Type 0) → ((reply : Reply) → P reply → Q reply) → (stopped : Stop) → OfRefusal P stopped → OfRefusal Q stopped
of_refusals P Q each (Refused reply) told = each reply told
of_refusals P Q each (Failed fault) told = tt

module _ (id : ℕ) (command : Command) where
  stopped_given : (P : Reply → Type 0) → ((reply : Reply) → P reply → IsGiven id command reply)
      → (result : Result Reply Stop) (stopped : Stop) → result ≡ Err stopped → OfRefusal P stopped → Gives id command result
  stopped_given P each result stopped is told = subst (Gives id command) (sym is) (of_refusals P (IsGiven id command) each stopped told)

-- ---- calls of one word

module _ (id : ℕ) (command : Command) (u : Use) (word : List ℕ) (asks : AsksOne command u word) where
  by_one : (reply : Reply) → IsOwn reply
      → ((path : Parsed) → IsParsed word path → IsPossible (first_refusal (early_one (id - 1) command u path)) (possible command (path ∷ [])) reply)
      → IsGiven id command reply
  by_one reply own each busy = record { own = own; listed = λ paths reads. of_words paths reads } where
    of_words : (paths : List Parsed) → ReadsWords command paths
        → IsPossible (first_refusal (early_checks (id - 1) busy command paths)) (possible command paths) reply
    of_words paths reads =
        let one = read_one u word paths (subst (λ (us : List (Use × List ℕ)). AllZip AsRead us paths) asks.uses reads) in
        subst (λ (ps : List Parsed). IsPossible (first_refusal (early_checks (id - 1) busy command ps)) (possible command ps) reply) (sym one.1)
        (subst (λ (list : List Check). IsPossible (first_refusal list) (possible command (one.0 ∷ [])) reply) (sym (asks.early (id - 1) busy one.0))
        (each one.0 one.2))

  -- its word is no path
  pub word_gives : (result : Result Reply Stop) (stopped : Stop) → result ≡ Err stopped → OfRefusal (IsBadPath word) stopped → Gives id command result
  word_gives =
      stopped_given id command (IsBadPath word) (λ reply bad. by_one reply (bad_own word reply bad) (λ path reads.
      refused_first (early_one (id - 1) command u path) (possible command (path ∷ [])) reply (pass refl (stop (bad_once u word reply path bad reads)))))

  module _ (course : Course) (before : course.last.0 + 1 ≡ id) (parts : List Part) (path_is : IsPath word parts) where
    abbrev early_here : List Check
    early_here = early_one course.last.0 command u (Parts parts)

    abbrev pub numbers_here : List ℕ
    numbers_here = possible command (Parts parts ∷ [])

    by_path : (reply : Reply) → IsOwn reply → IsPossible (first_refusal early_here) numbers_here reply → IsGiven id command reply
    by_path reply own is =
        by_one reply own (λ path reads.
        subst (λ (p : Parsed). IsPossible (first_refusal (early_one (id - 1) command u p)) (possible command (p ∷ [])) reply)
        (sym (read_once word parts path path_is reads))
        (subst (λ (last : ℕ). IsPossible (first_refusal (early_one last command u (Parts parts))) numbers_here reply) (omega (arith, before)) is))

    early_gives : (check : Check) → RefusesOwn check → ((reply : Reply) → check ≡ Some reply → IsFirst early_here (Some reply))
        → (result : Result Reply Stop) (stopped : Stop) → result ≡ Err stopped → IsStoppedBy check stopped → Gives id command result
    early_gives check own first =
        stopped_given id command (λ reply. check ≡ Some reply)
        (λ reply is. by_path reply (refusal_own check own reply is) (refused_first early_here numbers_here reply (first reply is)))

    -- it lacks a name that it needs; it has an id in the future; it has one where there must be none
    pub name_gives : (result : Result Reply Stop) (stopped : Stop) → result ≡ Err stopped → IsStoppedBy (good_path u (Parts parts)) stopped
        → Gives id command result
    name_gives = early_gives (good_path u (Parts parts)) (good_own u (Parts parts)) (λ reply is. pass refl (stop is))

    pub future_gives : good_path u (Parts parts) ≡ None → (result : Result Reply Stop) (stopped : Stop) → result ≡ Err stopped
        → IsStoppedBy (no_future course.last.0 (Parts parts)) stopped → Gives id command result
    future_gives good =
        early_gives (no_future course.last.0 (Parts parts)) (future_own course.last.0 (Parts parts))
        (λ reply is. pass refl (pass good (stop is)))

    pub past_gives : good_path u (Parts parts) ≡ None → no_future course.last.0 (Parts parts) ≡ None → (result : Result Reply Stop) (stopped : Stop)
        → result ≡ Err stopped → IsStoppedBy (past_stays command (Parts parts ∷ [])) stopped → Gives id command result
    past_gives good future =
        early_gives (past_stays command (Parts parts ∷ [])) (past_own command (Parts parts ∷ []))
        (λ reply is. pass refl (pass good (pass future (pass refl (stop is)))))

    module _ (early : PassEarly command u course.last.0 parts) where
      later : (reply : Reply) → IsAmong numbers_here reply → IsGiven id command reply
      later reply has =
          by_path reply has.own
          (passed_first early_here numbers_here reply (pass refl (pass early.good (pass early.future (pass refl (pass early.past all_pass)))))
          has)

      -- a later step refuses: by some refusals, by one, by those of a walk, and for want of space
      pub later_gives : (P : Reply → Type 0) → ((reply : Reply) → P reply → IsAmong numbers_here reply)
          → (result : Result Reply Stop) (stopped : Stop) → result ≡ Err stopped → OfRefusal P stopped → Gives id command result
      later_gives P each = stopped_given id command P (λ reply refuses. later reply (each reply refuses))

      pub one_gives : (refusal : Reply) → IsOwn refusal → Contains numbers_here (number_of refusal)
          → (result : Result Reply Stop) (stopped : Stop) → result ≡ Err stopped
          → OfRefusal (λ reply. reply ≡ refusal) stopped → Gives id command result
      one_gives refusal own has = later_gives (λ reply. reply ≡ refusal) (one_among numbers_here refusal own has)

      pub lost_gives : (ids : Bool) → Contains numbers_here 2 → Contains numbers_here 3 → (ids ≡ true → Contains numbers_here 8)
          → (result : Result Reply Stop) (stopped : Stop) → result ≡ Err stopped → OfRefusal (IsLost ids) stopped → Gives id command result
      lost_gives ids lost no_directory kept = later_gives (IsLost ids) (lost_among numbers_here ids lost no_directory kept)

      pub space_gives : Contains numbers_here 20 → (result : Result Reply Stop) (stopped : Stop) → result ≡ Err stopped
          → OfRefusal IsNoSpace stopped → Gives id command result
      space_gives lacks = later_gives IsNoSpace (space_among numbers_here lacks)

      -- the reply at the end
      pub end_gives : (reply : Reply) → IsOwn reply → Contains numbers_here (number_of reply) → Gives id command (Ok reply)
      end_gives reply own has = later reply (record { own = own; listed = has })

-- ---- calls of two

module _ (id : ℕ) (command : Command) (u v : Use) (word other : List ℕ) (asks : AsksTwo command u v word other) where
  by_two : (reply : Reply) → IsOwn reply → ((path next : Parsed) → IsParsed word path → IsParsed other next
      → IsPossible (first_refusal (early_two (id - 1) command u v path next)) (possible command (path ∷ next ∷ [])) reply) → IsGiven id command reply
  by_two reply own each busy = record { own = own; listed = λ paths reads. of_words paths reads } where
    of_words : (paths : List Parsed) → ReadsWords command paths
        → IsPossible (first_refusal (early_checks (id - 1) busy command paths)) (possible command paths) reply
    of_words paths reads =
        let (path, next, same, path_is, next_is) =
        read_two u v word other paths (subst (λ (us : List (Use × List ℕ)). AllZip AsRead us paths) asks.uses reads) in
        subst (λ (ps : List Parsed). IsPossible (first_refusal (early_checks (id - 1) busy command ps)) (possible command ps) reply) (sym same)
        (subst (λ (list : List Check). IsPossible (first_refusal list) (possible command (path ∷ next ∷ [])) reply) (sym (asks.early (id - 1) busy path next))
        (each path next path_is next_is))

  pub first_word_gives : (result : Result Reply Stop) (stopped : Stop) → result ≡ Err stopped → OfRefusal (IsBadPath word) stopped
      → Gives id command result
  first_word_gives =
      stopped_given id command (IsBadPath word) (λ reply bad. by_two reply (bad_own word reply bad) (λ path next reads reads'.
      refused_first (early_two (id - 1) command u v path next) (possible command (path ∷ next ∷ [])) reply
      (pass refl (stop (bad_once u word reply path bad reads)))))

  module _ (parts : List Part) (path_is : IsPath word parts) where
    by_first : (reply : Reply) → IsOwn reply → ((next : Parsed) → IsParsed other next
        → IsPossible (first_refusal (early_two (id - 1) command u v (Parts parts) next)) (possible command (Parts parts ∷ next ∷ [])) reply)
        → IsGiven id command reply
    by_first reply own each =
        by_two reply own (λ path next reads reads'.
        subst (λ (p : Parsed). IsPossible (first_refusal (early_two (id - 1) command u v p next)) (possible command (p ∷ next ∷ [])) reply)
        (sym (read_once word parts path path_is reads)) (each next reads'))

    pub first_name_gives : (result : Result Reply Stop) (stopped : Stop) → result ≡ Err stopped → IsStoppedBy (good_path u (Parts parts)) stopped
        → Gives id command result
    first_name_gives =
        stopped_given id command (λ reply. good_path u (Parts parts) ≡ Some reply)
        (λ reply is. by_first reply (refusal_own (good_path u (Parts parts)) (good_own u (Parts parts)) reply is) (λ next reads.
        refused_first (early_two (id - 1) command u v (Parts parts) next) (possible command (Parts parts ∷ next ∷ [])) reply (pass refl (stop is))))

    pub second_word_gives : good_path u (Parts parts) ≡ None → (result : Result Reply Stop) (stopped : Stop) → result ≡ Err stopped
        → OfRefusal (IsBadPath other) stopped → Gives id command result
    second_word_gives good =
        stopped_given id command (IsBadPath other) (λ reply bad. by_first reply (bad_own other reply bad) (λ next reads.
        refused_first (early_two (id - 1) command u v (Parts parts) next) (possible command (Parts parts ∷ next ∷ [])) reply
        (pass refl (pass good (stop (bad_once v other reply next bad reads))))))

-- one that is refused unless a test holds
pub unless_told : (T : Type 0) (test : Bool) (refusal : Reply) (stopped : Stop) → Decides {T = T} (if test then None else Some refusal) (Err stopped)
    → OfRefusal (λ reply. reply ≡ refusal) stopped
unless_told T test refusal (Failed fault) told = tt
unless_told T true refusal (Refused reply) told = absurd (cc)
unless_told T false refusal (Refused reply) told = cc

-- ---- what each call asks

pub asks_make : (new : New) (word : List ℕ) → AsksOne (command_by new word) MakesName word
asks_make Directory word = record { uses = refl; early = λ last busy path. refl }
asks_make File word = record { uses = refl; early = λ last busy path. refl }
asks_make (Softlink target) word = record { uses = refl; early = λ last busy path. refl }
asks_make Snapshot word = record { uses = refl; early = λ last busy path. refl }

pub asks_edit : (edit : Edit) (word : List ℕ) → AsksOne (command_for edit word) (Walks Follows) word
asks_edit (Write offset bytes) word = record { uses = refl; early = λ last busy path. refl }
asks_edit (Fill offset count byte) word = record { uses = refl; early = λ last busy path. refl }
asks_edit (Truncate size) word = record { uses = refl; early = λ last busy path. refl }

pub asks_rm : (word : List ℕ) → AsksOne (Rm word) TakesName word
asks_rm word = record { uses = refl; early = λ last busy path. refl }

pub asks_rmdir : (word : List ℕ) → AsksOne (Rmdir word) TakesName word
asks_rmdir word = record { uses = refl; early = λ last busy path. refl }

pub asks_ls : (word : List ℕ) → AsksOne (Ls word) (Walks Follows) word
asks_ls word = record { uses = refl; early = λ last busy path. refl }

pub asks_cat : (word : List ℕ) (offset count : ℕ) → AsksOne (Cat word offset count) (Walks Follows) word
asks_cat word offset count = record { uses = refl; early = λ last busy path. refl }

pub asks_stat : (word : List ℕ) → AsksOne (Stat word) (Walks Stays) word
asks_stat word = record { uses = refl; early = λ last busy path. refl }

pub asks_readlink : (word : List ℕ) → AsksOne (Readlink word) (Walks Stays) word
asks_readlink word = record { uses = refl; early = λ last busy path. refl }

pub asks_ln : (old new : List ℕ) → AsksTwo (Ln old new) (Walks Stays) MakesName old new
asks_ln old new = record { uses = refl; early = λ last busy path next. refl }

pub asks_mv : (old new : List ℕ) → AsksTwo (Mv old new) TakesName MakesName old new
asks_mv old new = record { uses = refl; early = λ last busy path next. refl }

-- ---- what passes before the walks

-- a name that is made
pub early_made : (new : New) (word : List ℕ) (last : ℕ) (parts : List Part) (name : List ℕ) → last_name parts ≡ Some name
    → no_future last (Parts parts) ≡ None → refuse_if (has_id (Parts parts)) ReadOnly ≡ None → PassEarly (command_by new word) MakesName last parts
early_made new word last parts name named future past = record {
  good = good_new parts name named;
  future = future;
  past = make_past new word (Parts parts) None past;
}

-- the parts before a name have no id where none has one
pub front_none : (parts front : List Part) → front ≡ front_of parts → refuse_if (has_id (Parts parts)) ReadOnly ≡ None → has_id (Parts front) ≡ false
front_none parts front is past = subst (λ (ps : List Part). has_id (Parts ps) ≡ false) (sym is) (front_has_none parts (no_ids parts past))

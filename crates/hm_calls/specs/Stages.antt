-- The stages of a call: its words, the places that they mean, and its own checks with its room. Each tells a front of its checks.
use Rattle.std.specs.Prelude.{◌≡◌, ◌||◌, ℕ, List, [], ◌∷◌, ◌++◌, None, Some, false, Result, map}
use Rattle.std.specs.List.{Contains}
use Rattle.hm_types.specs.Name.{IsName}
use Rattle.hm_path.specs.Path.{IsPath}
use Rattle.hm_path.specs.declared.part.Part.{Part}
use Rattle.hm_model.specs.Call.{Call, all_located}
use Rattle.hm_model.specs.Caused.{number_of}
use Rattle.hm_model.specs.Due.{Check, first_refusal, good_path, has_id, hash_left, intervals_left, no_future, own_checks, refuse_if, slaves_stay, walks}
use Rattle.hm_model.specs.Sites.{MakesName, Parts, front_of, last_name}
use Rattle.hm_model.specs.declared.reply.Reply.{Reply}
use Rattle.hm_model.specs.declared.reply.Reply.TheVariants.{ReadOnly}
use Rattle.hm_calls.specs.Due.{space_left}
use Rattle.hm_calls.specs.Possible.{IsOwn}
use Rattle.hm_calls.specs.Stop.{Answers}
use Rattle.hm_calls.specs.declared.stages.NewName.{NewName}
use Rattle.hm_calls.specs.declared.stop.Stop.{Stop}

-- A stage passes where none of these checks gives a refusal, and else refuses as the first of them that does.
pub record AnswersAll {T : Type 0} (checks : List Check) (result : Result T Stop) : Type 0 where
  pub is : Answers (first_refusal checks) result

-- a reply is a call's own, with one of these numbers
pub record IsAmong (numbers : List ℕ) (reply : Reply) : Type 0 where
  pub own : IsOwn reply
  pub listed : Contains numbers (number_of reply)

-- what two paths are asked before the walks along them, of a call whose second one makes a name
abbrev pub word_checks : ℕ → List Part → List Part → List Check
word_checks last one two =
    good_path MakesName (Parts two) ∷ no_future last (Parts one) ∷ no_future last (Parts two) ∷ None
    ∷ refuse_if (has_id (Parts one) || (has_id (Parts two) || false)) ReadOnly ∷ []

-- the end of a path that makes a name, and no path has an id
pub record IsNewName (one two : List Part) (new : NewName) : Type 0 where
  pub front : new.front.now ≡ front_of two
  pub name : last_name two ≡ Some new.name.now
  pub is_name : (word : List ℕ) → IsPath word two → IsName new.name.now
  pub first_now : has_id (Parts one) ≡ false
  pub now : has_id (Parts two) ≡ false

-- the checks of the places that a call means: where its paths lead, and that no slave is changed
abbrev pub place_checks : Call → List Check
place_checks call = map walks (all_located call) ++ slaves_stay call ∷ []

-- the checks after those: its own, and on space
abbrev pub last_checks : Call → (ℕ → ℕ) → ℕ → List Check
last_checks call room free = own_checks call ++ hash_left call ∷ intervals_left call ∷ space_left call room free ∷ []

-- The calls that speak of the pseudo file system in which their path ends: where they come, and what is left of their checks.
use Rattle.std.specs.Prelude.{◌≡◌, ℕ, ◌-◌, List, [], ◌∷◌, ◌++◌, Option, None}
use Rattle.std.specs.List.{Contains}
use Rattle.hm_types.specs.Elements.{FullElement}
use Rattle.hm_model.specs.Call.{Call, first_site}
use Rattle.hm_model.specs.Caused.{number_of, possible}
use Rattle.hm_model.specs.Due.{Check, early_checks, first_refusal, intervals_left, own_checks}
use Rattle.hm_model.specs.Sites.{Parsed, ReadsWords}
use Rattle.hm_model.specs.Walk.{Follow as Mode, Follows, TakesPfs}
use Rattle.hm_model.specs.declared.command.Command.{Command}
use Rattle.hm_model.specs.declared.command.Command.TheVariants.{PfsStatus, Prune, PruneAll}
use Rattle.hm_model.specs.declared.reply.Reply.{Reply}
use Rattle.hm_dirs.specs.Walk.{IsRead, LooksAtEnd, Scene, place_of}
use Rattle.hm_dirs.specs.declared.position.Course.{Course}
use Rattle.hm_dirs.specs.declared.position.Stand.{Stand}
use Rattle.hm_calls.specs.Due.{refusal_over, space_left}
use Rattle.hm_calls.specs.Possible.{IsOwn}
use Rattle.hm_calls.specs.Stop.{TellsRefusal}

-- these commands, each with what becomes of a link at the end of its path
pub data IsOnSystem (word : List ℕ) : Mode → Command → Type 0 where
  of_status : IsOnSystem word TakesPfs (PfsStatus word)
  of_prune : IsOnSystem word Follows (Prune word)
  of_prune_all : IsOnSystem word TakesPfs (PruneAll word)

-- the trees that a call sees, over these elements
abbrev pub scene_of : List FullElement → Call → Course → Scene
scene_of es call course = record { elements = es; volume = call.volume; view = call.view; course = course }

-- the checks of a call between its walk and the one on space
abbrev pub later_checks : Call → List Check
later_checks call = own_checks call ++ intervals_left call ∷ []

-- The walk of a call came to a stand, which tells of the object there where its end is looked at. All checks up to the walk
-- pass: the refusal that the call is due is that of the later checks, and of the one on space.
pub record ComesTo (mode : Mode) (room : ℕ → ℕ) (free : ℕ) (stand : Stand) (es : List FullElement) (call : Call) : Type 0 where
  pub at : (first_site call).at ≡ place_of stand.at
  pub directory : (first_site call).directory ≡ place_of stand.at
  pub course : Course
  pub read : LooksAtEnd mode → IsRead (scene_of es call course) stand
  pub due : refusal_over call room free ≡ first_refusal (later_checks call ++ space_left call room free ∷ [])

-- the early checks of a call by this id pass, however its words are read
abbrev pub PassesEarly : ℕ → Command → Type 0
PassesEarly id command =
    (busy : Option ℕ) (paths : List Parsed) → ReadsWords command paths → first_refusal (early_checks (id - 1) busy command paths) ≡ None

-- a reply refuses a call, is its own, and is one that its command can give
pub record MayRefuse (command : Command) (reply : Reply) : Type 0 where
  pub own : IsOwn reply
  pub listed : (paths : List Parsed) → Contains (possible command paths) (number_of reply)
  pub refuses : TellsRefusal reply

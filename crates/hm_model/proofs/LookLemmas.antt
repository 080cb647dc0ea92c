-- What calls that only look leave: everything.
use Rattle.std.proofs.Common.{◌≡◌, ℕ, true, false, refl}
use Rattle.std.specs.Prelude.{Bool, if◌then◌else◌}
use Rattle.hm_model.specs.declared.command.Command.{Command}
use Rattle.hm_model.specs.declared.command.Command.TheVariants.{Cat, Df, Ls, PfsStatus, Readlink, Stat, Sync, Synctid}
use Rattle.hm_model.specs.After.{Event, State, effect}
use Rattle.hm_model.specs.Laws.{only_looks}
use Rattle.hm_model.specs.Reply.{is_refusal}

-- a state that is left, accepted or not
either_way : (state : State) (test : Bool) → (if test then state else state) ≡ state
either_way state true = refl
either_way state false = refl

-- an event with another call
abbrev with_call : Event → Command → Event
with_call event call = record event { entry = record event.entry { call = call } }

look_leaves : (state : State) (event : Event) (command : Command) → only_looks command ≡ true → effect state (with_call event command) ≡ state
look_leaves state event (Ls path) looks = either_way state (is_refusal event.entry.reply)
look_leaves state event (Cat path offset count) looks = either_way state (is_refusal event.entry.reply)
look_leaves state event (Stat path) looks = either_way state (is_refusal event.entry.reply)
look_leaves state event (Readlink path) looks = either_way state (is_refusal event.entry.reply)
look_leaves state event (PfsStatus path) looks = either_way state (is_refusal event.entry.reply)
look_leaves state event Sync looks = either_way state (is_refusal event.entry.reply)
look_leaves state event Synctid looks = either_way state (is_refusal event.entry.reply)
look_leaves state event Df looks = either_way state (is_refusal event.entry.reply)
look_leaves state event command looks = absurd (cc)

pub effect-look : (state : State) (event : Event) → only_looks event.entry.call ≡ true → effect state event ≡ state
effect-look state event looks = look_leaves state event event.entry.call looks

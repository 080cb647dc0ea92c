-- What a call that was answered makes of a volume, and the step that it is in a history.
use Rattle.std.specs.Prelude.{◌≡◌, ◌⊎◌, ℕ, ◌^◌, ◌<◌, ◌≤◌, List, Bool, if◌then◌else◌}
use Rattle.hm_types.specs.Elements.{FullElement}
use Rattle.hm_types.specs.declared.limits.TheConstants.{GREATEST_ID}
use Rattle.hm_key.specs.Versions.{HaveOwnKeys, IsBelow}
use Rattle.hm_model.specs.After.{Event}
use Rattle.hm_model.specs.Call.{Call, own_id}
use Rattle.hm_model.specs.Change.{change}
use Rattle.hm_model.specs.Due.{ReadsPaths}
use Rattle.hm_model.specs.Legal.{Setting, call_after, floor_after, state_after}
use Rattle.hm_model.specs.Volume.{Volume}
use Rattle.hm_model.specs.declared.reply.Reply.{Reply}
use Rattle.hm_model.specs.declared.reply.Reply.TheVariants.{Media, NoMemory}
use Rattle.hm_step.specs.Seen.{AreGiven}
use Rattle.hm_image.specs.StandFor.{StandFor}
use Rattle.hm_calls.specs.Answered.{IsAnswerable}

-- the volume with its last id drawn
abbrev pub drawn : ℕ → Volume → Volume
drawn id volume = record volume { last = id }

-- the volume after a call by its id, which changed its tree or did not
abbrev pub after_call : Bool → Call → Volume
after_call is_changed call = drawn (own_id call) (if is_changed then change call else call.volume)

-- elements as a store holds them: each key once, and ids that fit 8 bytes
pub record AreHeld (es : List FullElement) : Type 0 where
  pub keys : HaveOwnKeys es
  pub fit : IsBelow (2 ^ 64) es

-- a reply says that a device failed, or that memory was refused
abbrev pub IsFailure : Reply → Type 0
IsFailure reply = ((before : ℕ) × (after : ℕ) × (reply ≡ Media before after)) ⊎ (reply ≡ NoMemory)

-- A call that is answered is the next one of a history. It drew the id after the last, its path words are read as they must,
-- and it found elements that stand for the volume of the history so far, in whose trees it looked, and no less free
-- space than that history leaves at least.
pub record IsNext (run : Setting) (before : List Event) (event : Event) (free : ℕ) (es : List FullElement) : Type 0 where
  pub served : IsAnswerable event.entry.call
  pub own : event.entry.id.0 ≡ own_id (call_after run before event)
  pub left : (state_after run before).volume.last < GREATEST_ID
  pub reads : ReadsPaths (call_after run before event)
  pub stand : StandFor es (state_after run before).volume
  pub given : AreGiven es (state_after run before).volume event.substitutes
  pub least : floor_after run before ≤ free

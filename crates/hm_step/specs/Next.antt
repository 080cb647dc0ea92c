-- A call over any store, as the next one of a history.
use Rattle.std.specs.Prelude.{◌≡◌, ◌≢◌, ℕ, ◌+◌, ◌^◌, ◌<◌, List, [], ◌∷◌, ◌++◌, None, Option, IsSomeAnd, Some, option_map}
use Rattle.std.specs.Option.{option_map_or}
use Rattle.hm_types.specs.Hash.{name_hash}
use Rattle.hm_types.specs.declared.id.Id.{Id}
use Rattle.hm_key.specs.Balance.{IsBalanced, content_of}
use Rattle.hm_key.specs.Extents.{Extent}
use Rattle.hm_key.specs.Versions.{IsBelow}
use Rattle.hm_key.specs.declared.element.Element.{Element}
use Rattle.hm_cursor.specs.Told.{Lists, OnBalanced, fulls}
use Rattle.hm_image.specs.StandFor.{StandFor}
use Rattle.hm_model.specs.After.{Event, OpenCall, State, busy_in, with_opened}
use Rattle.hm_model.specs.Call.{Call}
use Rattle.hm_model.specs.Foreign.{no_feed}
use Rattle.hm_model.specs.Legal.{IsAllowed, MayFollow, Setting, call_after, state_after}
use Rattle.hm_model.specs.Volume.{PseudoFileSystem, Volume, system_of}
use Rattle.hm_model.specs.declared.command.Command.{Command}
use Rattle.hm_calls.specs.Answered.{AsksBeside, reply_in}
use Rattle.hm_calls.specs.Call.{OnCalls}
use Rattle.hm_calls.specs.Changes.{HasSystem}
use Rattle.hm_calls.specs.Due.{due_over}
use Rattle.hm_calls.specs.declared.answered.Answered.{Answered}
use Rattle.hm_calls.specs.declared.answered.Answered.TheVariants.{Opened, Replied}
use Rattle.hm_calls.specs.declared.answered.Beside.{Beside}
use Rattle.hm_calls.specs.declared.pruning.Led.{Led}
use Rattle.hm_step.specs.Pruned.{KeepsEnough, StillKeeps}
use Rattle.hm_step.specs.Step.{IsNext}

-- A call that was asked: its command, the last id that was drawn before it, and what is told beside the store.
pub record Asked : Type 0 where
  pub command : Command
  pub last : ℕ
  pub beside : Beside

-- a volume has a PFS of each number below this one
abbrev pub UsedBelow : ℕ → Volume → Type 0
UsedBelow numbers volume = (n : ℕ) → n < numbers → HasSystem volume n

-- an event that comes after some is this call, with this answer, and what was told beside the store is so
pub record IsEventOf (asked : Asked) (answered : Answered) (run : Setting) (before : List Event) (event : Event) : Type 0 where
  pub command_is : event.entry.call ≡ asked.command
  pub reply_is : event.entry.reply ≡ reply_in answered
  pub last_is : (state_after run before).volume.last ≡ asked.last
  pub busy_is : busy_in (state_after run before).opened ≡ option_map (λ (id : Id). id.0) asked.beside.busy
  pub numbers : UsedBelow asked.beside.numbers (state_after run before).volume

-- elements whose ids fit 8 bytes stand for a volume
abbrev pub StandIfFit : Lists → Volume → Type 0
StandIfFit lists volume = IsBelow (2 ^ 64) (fulls lists) → StandFor (fulls lists) volume

-- the housekeeping calls that are open after a call
abbrev pub opened_after : State → Call → Answered → List OpenCall
opened_after state call (Replied reply) = state.opened
opened_after state call (Opened led) = (with_opened state call led.pfs.0 led.pfs.0 no_feed).opened

-- An opening led to what a volume keeps of a PFS; of one that the volume does not have that is nothing. A job that keeps the
-- same of this PFS, and tells of no other one, keeps enough.
pub record IsLed (volume : Volume) (led : Led) : Type 0 where
  pub kept : option_map_or (λ (s : PseudoFileSystem). s.retention) (system_of volume led.pfs.0) [] ≡ led.kept
  pub enough : (kept : ℕ → Option (List (ℕ × ℕ))) → kept led.pfs.0 ≡ Some led.kept
      → ((other : ℕ) → other ≢ led.pfs.0 → kept other ≡ None) → KeepsEnough kept volume

-- so did a call, if it was opened
abbrev pub IsLedIfOpened : Volume → Answered → Type 0
IsLedIfOpened volume (Replied reply) = Unit {0}
IsLedIfOpened volume (Opened led) = IsLed volume led

-- The event goes on from a history: what the store holds afterwards stands for the volume after it, what a job keeps is
-- enough still, an opening that was accepted is open and led to what the volume keeps, and the event may follow the others,
-- so that a legal history goes on legally.
pub record GoesOn (run : Setting) (before : List Event) (event : Event) (answered : Answered) (es : Option (List Element))
    (xs : Option (List Extent)) : Type 0 where
  pub stands : IsSomeAnd (content_of es xs)
      (λ now. IsBalanced now.0 now.1 × StandIfFit now (state_after run (before ++ event ∷ [])).volume)
  pub jobs : StillKeeps (state_after run before).volume (state_after run (before ++ event ∷ [])).volume
  pub opened : (state_after run (before ++ event ∷ [])).opened
      ≡ opened_after (state_after run before) (call_after run before event) answered
  pub leads : IsLedIfOpened (state_after run (before ++ event ∷ [])).volume answered
  pub follows : MayFollow run before event
  pub allowed : IsAllowed run before event

-- An answer is the next step of each history for whose volume the elements of a store stand.
abbrev pub IsStep : {S : Type 0} → (S → Option (List Element)) → (S → Option (List Extent)) → (S → ℕ) → Asked → S → S → Answered
    → Type 0
IsStep elements_of extents_of free_of asked old new answered =
    OnBalanced (elements_of old) (extents_of old) (λ was. (run : Setting) (before : List Event) (event : Event)
    → IsEventOf asked answered run before event → IsNext run before event (free_of old) (fulls was)
    → GoesOn run before event answered (elements_of new) (extents_of new))

-- The reply is the one that each such call is due whose trees the elements of a store show, over the room and the free
-- big-blocks that the store told: the check on space is the last one. What is told beside the store is so.
abbrev pub IsDueOver : {S : Type 0} → (S → Option (List Element)) → (S → Option (List Extent)) → (S → ℕ → ℕ) → (S → ℕ) → Asked → S
    → Answered → Type 0
IsDueOver elements_of extents_of room_of free_of asked store answered =
    OnCalls name_hash (asked.last + 1) (elements_of store) (extents_of store)
    (λ es call. AsksBeside asked.command asked.beside es call → reply_in answered ≡ due_over call (room_of store) (free_of store))

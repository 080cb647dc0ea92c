-- What a call answers, and what it does to the store.
use Rattle.std.specs.Prelude.{◌≡◌, ℕ, ◌&&◌, List, None, Some, Option, Result, Ok, Err, Bool, true, false, IsTrue, IsFalse, if◌then◌else◌, option_map}
use Rattle.hm_types.specs.Elements.{Key}
use Rattle.hm_types.specs.declared.id.Id.{Id}
use Rattle.hm_key.specs.Extents.{Extent}
use Rattle.hm_key.specs.Stores.{Same}
use Rattle.hm_key.specs.declared.element.Element.{Element}
use Rattle.hm_cursor.specs.Write.{Writes}
use Rattle.hm_model.specs.Call.{Call}
use Rattle.hm_model.specs.Due.{accepted, is_tree_call}
use Rattle.hm_model.specs.Reply.{is_refusal}
use Rattle.hm_model.specs.declared.command.Command.{Command}
use Rattle.hm_model.specs.declared.reply.Reply.{Reply}
use Rattle.hm_calls.specs.Call.{OnCalls}
use Rattle.hm_calls.specs.Changes.{Changes}
use Rattle.hm_calls.specs.Due.{due_over, refusal_over}
use Rattle.hm_calls.specs.declared.stop.Stop.{Stop}
use Rattle.hm_calls.specs.declared.stop.Stop.TheVariants.{Refused, Failed}

-- whether a call with this reply changes a tree
abbrev pub is_change : Command → Reply → Bool
is_change command reply = is_tree_call command && (if is_refusal reply then false else true)

-- the call is of this command, while that mirror or upgrade call is open
pub record Asks (command : Command) (busy : Option Id) (call : Call) : Type 0 where
  pub command_is : call.command ≡ command
  pub busy_is : call.busy ≡ option_map (λ (id : Id). id.0) busy

-- a call refuses so where its check on space and all others say it
abbrev pub IsRefusalOf : (List ℕ → ℕ) → ℕ → (Call → Type 0) → Option (List Element) → Option (List Extent) → (ℕ → ℕ) → ℕ → Reply → Type 0
IsRefusalOf hash id K es xs room free reply = OnCalls hash id es xs (λ _ call. K call → refusal_over call room free ≡ Some reply)

-- it is accepted with this reply where none of them refuses
abbrev pub IsAcceptedBy : (List ℕ → ℕ) → ℕ → (Call → Type 0) → Option (List Element) → Option (List Extent) → (ℕ → ℕ) → ℕ → Reply → Type 0
IsAcceptedBy hash id K es xs room free reply =
    OnCalls hash id es xs (λ _ call. K call → (refusal_over call room free ≡ None) × (accepted call ≡ reply))

module _ {S : Type 0} (elements_of : S → Option (List Element)) (mark_of : S → Key → ℕ) (extents_of : S → Option (List Extent)) (room_of : S → ℕ → ℕ) (free_of : S → ℕ) where
  -- a call that only looks replies so, and leaves the store as it was
  abbrev pub Looks : (List ℕ → ℕ) → ℕ → (Call → Type 0) → S → S → Result Reply Stop → Type 0
  Looks hash id K old new (Ok reply) =
      IsAcceptedBy hash id K (elements_of old) (extents_of old) (room_of old) (free_of old) reply
      × Same elements_of mark_of extents_of room_of free_of old new
  Looks hash id K old new (Err (Refused reply)) =
      IsRefusalOf hash id K (elements_of old) (extents_of old) (room_of old) (free_of old) reply
      × Same elements_of mark_of extents_of room_of free_of old new
  Looks hash id K old new (Err (Failed fault)) = Unit {0}

  -- a call that changes a tree replies so: what is accepted changes it, and a refusal leaves the store as it was
  abbrev pub Acts : (List ℕ → ℕ) → ℕ → (Call → Type 0) → S → S → Result Reply Stop → Type 0
  Acts hash id K old new (Ok reply) =
      IsAcceptedBy hash id K (elements_of old) (extents_of old) (room_of old) (free_of old) reply
      × Writes elements_of extents_of (Changes hash id K) old new
  Acts hash id K old new (Err (Refused reply)) =
      IsRefusalOf hash id K (elements_of old) (extents_of old) (room_of old) (free_of old) reply
      × Same elements_of mark_of extents_of room_of free_of old new
  Acts hash id K old new (Err (Failed fault)) = Unit {0}

  -- a call is answered by what its command does
  pub record IsAnswered (hash : List ℕ → ℕ) (id : ℕ) (command : Command) (old new : S) (result : Result Reply Stop) : Type 0 where
    pub acts : IsTrue (is_tree_call command) → Acts hash id (λ call. call.command ≡ command) old new result
    pub looks : IsFalse (is_tree_call command) → Looks hash id (λ call. call.command ≡ command) old new result

  -- The reply of a call is the one that it is due, and what it does is what the model says.
  pub record Replies (hash : List ℕ → ℕ) (id : ℕ) (K : Call → Type 0) (command : Command) (old new : S) (reply : Reply) : Type 0 where
    pub due : OnCalls hash id (elements_of old) (extents_of old) (λ _ call. K call → reply ≡ due_over call (room_of old) (free_of old))
    pub stays : IsFalse (is_change command reply) → Same elements_of mark_of extents_of room_of free_of old new
    pub changes : IsTrue (is_change command reply) → Writes elements_of extents_of (Changes hash id K) old new

-- A call that names no path, `df`, a sync or `reblock`, as an event: it sees no tree, and unless it opens a reblock its one effect is that its
-- id is drawn.
use Rattle.std.proofs.Common.{◌≡◌, ℕ, ◌+◌, ◌<◌, Bool, true, false, inl, inr, List, [], ◌∷◌, refl, sym, ap, subst, arith}
use Rattle.std.specs.Prelude.{◌⊎◌, None, if◌then◌else◌, map}
use Rattle.std.specs.Bool.{nat_le}
use Rattle.std.specs.List.{Contains}
use Rattle.std.proofs.lemmas.Bool.Decides.{nat_tests}
use Rattle.hm_types.specs.declared.fault.Fault.{Fault}
use Rattle.hm_types.specs.declared.fault.Fault.TheVariants.{Damaged as damage, Media as device, NoMemory as no_memory}
use Rattle.hm_types.specs.declared.id.Id.{Id}
use Rattle.hm_types.specs.declared.limits.TheConstants.{GREATEST_ID}
use Rattle.hm_model.specs.After.{Event, State, after_event, effect, last_after, on_volume}
use Rattle.hm_model.specs.Call.{Call, all_located}
use Rattle.hm_model.specs.Caused.{Counts, HasCause, HasNumbers, IsPossible, Known, at_any_point, early_refusal, number_of, possible, possible_for, takes_stream}
use Rattle.hm_model.specs.Due.{Check, first_refusal, intervals_left, record_checks, refusal, slaves_stay, walks}
use Rattle.hm_model.specs.Legal.{IsAccepted, IsAllowed, IsDue, IsReply, Lands, NamesAdded, Setting, call_after, floor_after, state_after}
use Rattle.hm_model.specs.Reply.{is_refusal}
use Rattle.hm_model.specs.Sites.{ReadsWords}
use Rattle.hm_model.specs.declared.command.Command.{Command}
use Rattle.hm_model.specs.declared.command.Command.TheVariants.{Df, Reblock, Sync, Synctid}
use Rattle.hm_model.specs.declared.entry.Entry.{Entry}
use Rattle.hm_model.specs.declared.reply.Reply.{Reply}
use Rattle.hm_model.specs.declared.reply.Reply.TheVariants.{Done, Space, Synced}
use Rattle.hm_core.specs.Open.{IsReblock}
use Rattle.hm_core.specs.Served.{IsSync}
use Rattle.hm_core.specs.Told.{reply_to}

abbrev pub NamesNoPath : Command → Type 0
NamesNoPath command = (command ≡ Df) ⊎ (IsSync command ⊎ IsReblock command)

by_command : (P : Command → Type 0) → P Df → P Sync → P Synctid → ((fill : ℕ) → P (Reblock fill)) → (command : Command) → NamesNoPath command
    → P command
by_command P df sync synctid reblock command (inl is) = subst P (sym is) df
by_command P df sync synctid reblock command (inr (inl (inl is))) = subst P (sym is) sync
by_command P df sync synctid reblock command (inr (inl (inr is))) = subst P (sym is) synctid
by_command P df sync synctid reblock command (inr (inr is)) = opens command is where
  opens : (c : Command) → IsReblock c → P c
  opens (Reblock fill) is = reblock fill
  opens other is = absurd is

-- the opening of a reblock, if it is one, is refused
abbrev pub OpensNothing : Entry → Type 0
OpensNothing entry = IsReblock entry.call → is_refusal entry.reply ≡ true

-- no other call opens one
pub df_opens_nothing : (entry : Entry) → entry.call ≡ Df → OpensNothing entry
df_opens_nothing entry is opens = absurd (subst IsReblock is opens)

pub sync_opens_nothing : (entry : Entry) → IsSync entry.call → OpensNothing entry
sync_opens_nothing entry (inl is) opens = absurd (subst IsReblock is opens)
sync_opens_nothing entry (inr is) opens = absurd (subst IsReblock is opens)

abbrev pub event_of : Entry → Event
event_of entry = record { entry = entry; paths = []; substitutes = [] }

-- ---- the replies that it can have

abbrev IsListed : Reply → Command → Type 0
IsListed reply command = Contains (possible command []) (number_of reply)

pub space_listed : (command : Command) (pool spare : ℕ) → command ≡ Df → Contains (possible command []) (number_of (Space pool spare))
space_listed command pool spare is = subst (IsListed (Space pool spare)) (sym is) (0, omega arith, refl)

pub boundary_listed : (command : Command) (boundary : Id) → IsSync command → Contains (possible command []) (number_of (Synced boundary))
boundary_listed command boundary (inl is) = subst (IsListed (Synced boundary)) (sym is) (0, omega arith, refl)
boundary_listed command boundary (inr is) = subst (IsListed (Synced boundary)) (sym is) (0, omega arith, refl)

pub done_listed : (command : Command) → IsReblock command → Contains (possible command []) (number_of Done)
done_listed (Reblock fill) is = (0, omega arith, refl)
done_listed other is = absurd is

pub fault_after : (first : ℕ) (fault : Fault) → Contains (first ∷ at_any_point) (number_of (reply_to fault))
fault_after first (device before after) = (1, omega arith, refl)
fault_after first (damage at kind) = (2, omega arith, refl)
fault_after first no_memory = (3, omega arith, refl)

pub fault_listed : (command : Command) (fault : Fault) → NamesNoPath command → Contains (possible command []) (number_of (reply_to fault))
fault_listed command fault no_path =
    by_command (IsListed (reply_to fault)) (fault_after 109 fault) (fault_after 106 fault) (fault_after 106 fault) (λ fill. fault_after 101 fault)
    command no_path

-- ---- its cause, by what is known without trees

pub pathless_cause : (now : Counts) (known : Known) (entry : Entry) → NamesNoPath entry.call → known.last < GREATEST_ID
    → entry.id.0 ≡ known.last + 1 → Contains (possible entry.call []) (number_of entry.reply) → HasNumbers now known entry
    → HasCause now known (event_of entry)
pathless_cause now known entry no_path left own listed numbers = record {
  id = own;
  drawn = omega (arith, own, left);
  read = by_command (λ command. ReadsWords command []) tt tt tt (λ fill. tt) entry.call no_path;
  possible = by_command
      (λ command.
      let event : Event = event_of (record entry { call = command }) in
      IsListed entry.reply command → IsPossible (early_refusal known event) (possible_for known event) entry.reply)
      (λ is. is) (λ is. is) (λ is. is) (λ fill is. is) entry.call no_path listed;
  numbers = numbers;
}

-- ---- over the trees of a run

module _ (run : Setting) (events : List Event) (entry : Entry) (no_path : NamesNoPath entry.call) where
  abbrev state : State
  state = state_after run events

  -- the same entry with another command
  abbrev event_by : Command → Event
  event_by command = event_of (record entry { call = command })

  abbrev call_by : Command → Call
  call_by command = call_after run events (event_by command)

  abbrev least : ℕ
  least = floor_after run events

  none_refused : state.volume.last < GREATEST_ID → refusal (call_by entry.call) ≡ None
  none_refused left =
      let no : nat_le GREATEST_ID state.volume.last ≡ false = grind (arith, nat_tests, left) in
      by_command (λ command. refusal (call_by command) ≡ None) (rw no refl) (rw no refl) (rw no refl) (λ fill. rw no refl)
      entry.call no_path

  pub pathless_accepted : (reply : Reply) → state.volume.last < GREATEST_ID → IsAccepted least (call_after run events (event_of entry)) reply
      → IsReply least (call_after run events (event_of entry)) reply
  pathless_accepted reply left accepted =
      inl (subst (λ (o : Check). IsDue least (call_by entry.call) o reply) (sym (none_refused left)) accepted)

  pub pathless_allowed : IsReply least (call_after run events (event_of entry)) entry.reply → IsAllowed run events (event_of entry)
  pathless_allowed is = by_command (λ command. IsReply least (call_by command) entry.reply → IsAllowed run events (event_by command))
      (λ same. same) (λ same. same) (λ same. same) (λ fill same. same) entry.call no_path is

  pub pathless_lands : NamesAdded (call_after run events (event_of entry)) entry.reply → Lands (call_after run events (event_of entry)) entry.reply
  pathless_lands named =
      let met = by_command (λ command. (first_refusal (map walks (all_located (call_by command))) ≡ None) × (slaves_stay (call_by command) ≡ None)
      × (first_refusal (record_checks (call_by command)) ≡ None) × (intervals_left (call_by command) ≡ None))
      (refl, refl, refl, refl) (refl, refl, refl, refl) (refl, refl, refl, refl) (λ fill. (refl, refl, refl, refl)) entry.call no_path in
      record { ends = met.0; in_master = met.1; records = met.2; fits = met.3; named = named }

  pub pathless_feeds : takes_stream entry ≡ false
  pathless_feeds = by_command (λ command. takes_stream (event_by command).entry ≡ false) refl refl refl (λ fill. refl) entry.call no_path

  -- whether it is refused or not, unless it opens a reblock
  pub pathless_after : OpensNothing entry → after_event state (event_of entry) ≡ on_volume state (record state.volume { last = last_after entry })
  pathless_after nothing =
      ap (λ (next : State). on_volume next (record next.volume { last = last_after entry }))
      (by_command (λ command. (IsReblock command → is_refusal entry.reply ≡ true) → effect state (event_by command) ≡ state)
      (λ none. unchanged (is_refusal entry.reply)) (λ none. unchanged (is_refusal entry.reply)) (λ none. unchanged (is_refusal entry.reply))
      (λ fill refuses. (let refused = refuses tt in rw refused refl)) entry.call no_path nothing) where
        unchanged : (refused : Bool) → (if refused then state else state) ≡ state
        unchanged true = refl
        unchanged false = refl

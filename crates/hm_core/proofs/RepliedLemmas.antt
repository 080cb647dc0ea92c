-- What a reply tells of the space over which it was answered, and of a device that failed, exactly.
use Rattle.std.proofs.Common.{◌≡◌, inl, inr, ℕ, ◌+◌, ◌^◌, ◌++◌, ◌∷◌, [], Bool, List, Option, None, Some, refl, sym, ap, subst, ◌∙◌, cond}
use Rattle.std.proofs.Common.{get_or, length, slice_get}
use Rattle.std.specs.Prelude.{◌⊎◌, IfSome, IsSomeAnd, IsTrue, if◌then◌else◌}
use Rattle.std.proofs.lemmas.Bool.{false≢true}
use Rattle.std.proofs.lemmas.Option.{get_or_from_slice_get}
use Rattle.hm_types.specs.Elements.{FullElement}
use Rattle.hm_types.specs.Faults.{IsCaused}
use Rattle.hm_types.specs.Hash.{name_hash}
use Rattle.hm_types.specs.declared.fault.Fault.{Fault}
use Rattle.hm_types.specs.declared.fault.Fault.TheVariants.{Damaged as damage, Media as device, NoMemory as no_memory}
use Rattle.hm_types.specs.declared.limits.TheConstants.{BIGBLOCK_BYTES}
use Rattle.hm_fields.specs.Pages.{PageMap}
use Rattle.hm_key.specs.Balance.{IsBalanced, content_of}
use Rattle.hm_key.specs.Extents.{Extent}
use Rattle.hm_key.specs.declared.element.Element.{Element}
use Rattle.hm_cursor.specs.Told.{Lists, OnBalanced, fulls}
use Rattle.hm_freemap.specs.Stand.{free_by, is_handed_out, room_in}
use Rattle.hm_freemap.proofs.FreeLemmas.{free_same as counted_same}
use Rattle.hm_model.specs.After.{Event}
use Rattle.hm_model.specs.Call.{Call}
use Rattle.hm_model.specs.Caused.{Counts}
use Rattle.hm_model.specs.Due.{ReadsPaths}
use Rattle.hm_model.specs.Foreign.{Foreigners}
use Rattle.hm_model.specs.Legal.{Setting, call_after, state_after}
use Rattle.hm_model.specs.Volume.{Volume}
use Rattle.hm_model.specs.declared.command.Command.{Command}
use Rattle.hm_model.specs.declared.command.Command.TheVariants.{Df, Sync, Synctid}
use Rattle.hm_model.specs.declared.entry.Entry.{Entry}
use Rattle.hm_model.specs.declared.reply.Reply.{Reply}
use Rattle.hm_model.specs.declared.reply.Reply.TheVariants.{Done, Listing, Content, Status, Target, Synced, MadePfs, PfsIs, Space, Finished, Passed, Cut}
use Rattle.hm_model.specs.declared.reply.Reply.TheVariants.{Exists, NotFound, NotDir, IsDir, NotEmpty, BadPath, ReadOnly, NotRetained, Future, TooBig}
use Rattle.hm_model.specs.declared.reply.Reply.TheVariants.{CrossPfs, IntoItself, HashFull, PfsFull, NoSnapshots, TooManyIntervals, NotSlave, NotMaster}
use Rattle.hm_model.specs.declared.reply.Reply.TheVariants.{IdsSpent, NoSpace, Media, Damaged, NoMemory, SharedDiffers, BeginDiffers, StreamBad, StreamShort}
use Rattle.hm_model.specs.declared.reply.Reply.TheVariants.{StreamFault, EndPruned, Busy, NotLink, NotFile}
use Rattle.hm_calls.specs.Call.{IsCall, OnCalls}
use Rattle.hm_calls.specs.Answered.{AsksBeside, IsAnswerable}
use Rattle.hm_calls.specs.Due.{due_over}
use Rattle.hm_calls.specs.Possible.{IsOwn}
use Rattle.hm_stored.specs.Basis.{states_of}
use Rattle.hm_stored.specs.Heap.{Heap, free_of, maps_of, room_of}
use Rattle.hm_stored.specs.Standing.{Holds, basis_now}
use Rattle.hm_stored.specs.Turn.{IsClosed}
use Rattle.hm_step.specs.Next.{UsedBelow}
use Rattle.hm_step.specs.Seen.{AreGiven}
use Rattle.hm_step.proofs.NextCallLemmas.{numbers_so}
use Rattle.hm_step.proofs.SeenLemmas.{shows_as}
use Rattle.hm_state.proofs.SameLemmas.{held_firm}
use Rattle.hm_core.specs.History.{IsLegalOver, setting_of}
use Rattle.hm_core.specs.Open.{opens_job}
use Rattle.hm_core.specs.Replied.{IsReplied, TellsMedia, free_now}
use Rattle.hm_core.specs.Served.{IsSync}
use Rattle.hm_core.specs.State.{OpenJob}
use Rattle.hm_core.specs.Told.{Tells, TellsFailure, TellsHeld, reply_to, told_beside}

-- as many big-blocks are free by the freemap of a space as its trees leave, where it holds elements
pub free_counted : (h : Heap) (root : ℕ) (es : List FullElement) → IsClosed h → Holds h root es → free_of h ≡ free_now h root
free_counted h root es closed holds =
    ap (λ (w : Bool). cond w (free_by h.bigblocks h.append (maps_of h)) (2 ^ 32)) closed.whole
    ∙ counted_same h.bigblocks h.append (maps_of h) (states_of (basis_now h root)) (held_firm h root es holds).stand

-- the room of two spaces with the same current pages and append big-blocks, of all zones at once
pub room_is : (a b : Heap) → b.whole ≡ a.whole → b.append ≡ a.append → b.pages.current ≡ a.pages.current → room_of b ≡ room_of a
room_is a b = by b.whole b.append b.pages.current where
  by : (w : Bool) (l : List ℕ) (c : PageMap) → w ≡ a.whole → l ≡ a.append → c ≡ a.pages.current
      → (λ zone. if w then room_in l c zone else (if is_handed_out zone then BIGBLOCK_BYTES else 0)) ≡ room_of a
  by w l c first second third = rw (first, second, third) refl

-- a fact of what a store tells is one of the elements that a space held
told_held : (es : Option (List Element)) (xs : Option (List Extent)) (held : List FullElement) (P : List FullElement → Type 0)
    → Tells es xs held → OnBalanced es xs (λ was. P (fulls was)) → P held
told_held es xs held P tells all = by (content_of es xs) tells all where
  by : (o : Option Lists) → IsSomeAnd o (λ was. IsBalanced was.0 was.1 × (fulls was ≡ held))
      → IfSome o (λ was. IsBalanced was.0 was.1 → P (fulls was)) → P held
  by None tells all = absurd tells
  by (Some was) tells all = subst P tells.1 (all tells.0)

-- The reply that a call is due over a store is the one that it is due over the space that the store was opened over.
module _ (last : ℕ) (command : Command) (reply : Reply) (numbers : ℕ) where
  abbrev pub IsDueFor : (ℕ → ℕ) → ℕ → List FullElement → Type 0
  IsDueFor room free es = (call : Call) → IsCall name_hash (last + 1) es call → AsksBeside command (told_beside numbers) es call
      → reply ≡ due_over call room free

  pub due_held : (es : Option (List Element)) (xs : Option (List Extent)) (room : ℕ → ℕ) (free : ℕ) (h : Heap) (root : ℕ) (held : List FullElement)
      → room ≡ room_of h → free ≡ free_of h → IsClosed h → Holds h root held → TellsHeld es xs h root
      → OnCalls name_hash (last + 1) es xs (λ list call. AsksBeside command (told_beside numbers) list call → reply ≡ due_over call room free)
      → IsDueFor (room_of h) (free_now h root) held
  due_held es xs room free h root held same_room same_free closed holds tells due =
      subst (λ (n : ℕ). IsDueFor (room_of h) n held) (same_free ∙ free_counted h root held closed holds)
      (subst (λ (r : ℕ → ℕ). IsDueFor r free held) same_room
      (told_held es xs held (IsDueFor room free) (tells held holds) due))

-- a call's own reply tells no failed device
pub own_media : (old new : ℕ) (reply : Reply) → IsOwn reply → TellsMedia old new reply
own_media old new (Media before after) own = absurd own
own_media old new (Synced boundary) own = tt
own_media old new Done own = tt
own_media old new (Listing names) own = tt
own_media old new (Content bytes) own = tt
own_media old new (Status kind obj size links) own = tt
own_media old new (Target text) own = tt
own_media old new (MadePfs number) own = tt
own_media old new (PfsIs master number shared intervals sync_end) own = tt
own_media old new (Space pool free) own = tt
own_media old new Finished own = tt
own_media old new (Passed begin end) own = tt
own_media old new (Cut items) own = tt
own_media old new Exists own = tt
own_media old new NotFound own = tt
own_media old new NotDir own = tt
own_media old new IsDir own = tt
own_media old new NotEmpty own = tt
own_media old new (BadPath place) own = tt
own_media old new ReadOnly own = tt
own_media old new NotRetained own = tt
own_media old new (Future last) own = tt
own_media old new TooBig own = tt
own_media old new CrossPfs own = tt
own_media old new IntoItself own = tt
own_media old new HashFull own = tt
own_media old new PfsFull own = tt
own_media old new NoSnapshots own = tt
own_media old new (TooManyIntervals count) own = tt
own_media old new NotSlave own = tt
own_media old new NotMaster own = tt
own_media old new IdsSpent own = tt
own_media old new (NoSpace free needed) own = tt
own_media old new (Damaged at kind) own = tt
own_media old new NoMemory own = tt
own_media old new (SharedDiffers slave stream) own = tt
own_media old new (BeginDiffers slave stream) own = tt
own_media old new (StreamBad place) own = tt
own_media old new (StreamShort taken) own = tt
own_media old new (StreamFault before after) own = tt
own_media old new (EndPruned end first) own = tt
own_media old new (Busy opening) own = tt
own_media old new NotLink own = tt
own_media old new NotFile own = tt

pub fault_media : (old new : ℕ) (fault : Fault) → IsCaused old new fault → TellsMedia old new (reply_to fault)
fault_media old new (device before after) caused = caused
fault_media old new (damage at kind) caused = tt
fault_media old new no_memory caused = tt

-- a sync is no other call
pub sync_alone : (command : Command) → IsSync command → IsAnswerable command → ⊥
sync_alone command (inl is) answers = subst IsAnswerable is answers
sync_alone command (inr is) answers = subst IsAnswerable is answers

pub sync_no_job : (command : Command) → IsSync command → IsTrue (opens_job command) → ⊥
sync_no_job command (inl is) opens = false≢true (sym (ap opens_job is) ∙ opens)
sync_no_job command (inr is) opens = false≢true (sym (ap opens_job is) ∙ opens)

pub sync_no_space : (command : Command) → IsSync command → command ≡ Df → ⊥
sync_no_space command (inl is) df = let same : Df ≡ Sync = sym df ∙ is in cc
sync_no_space command (inr is) df = let same : Df ≡ Synctid = sym df ∙ is in cc

-- the last entry of a history
last_entry : (history : List Entry) (entry other : Entry) → get_or (history ++ entry ∷ []) (length history) other ≡ entry
last_entry [] entry other = refl
last_entry (x ∷ xs) entry other = last_entry xs entry other

pub entry_there : (history : List Entry) (entry found : Entry) (place : ℕ) → place ≡ length history
    → slice_get (history ++ entry ∷ []) place ≡ Some found → found ≡ entry
entry_there history entry found place there is =
    sym (get_or_from_slice_get (history ++ entry ∷ []) (length history) found entry
    (subst (λ (k : ℕ). slice_get (history ++ entry ∷ []) k ≡ Some found) there is))
    ∙ last_entry history entry entry

-- The call that comes next in a legal history is one that the elements of the space show, so its reply is due over it.
module _ (free : ℕ) (start counts : Counts) (history : List Entry) (h : Heap) (root last : ℕ) (running : List OpenJob) (opening : Volume)
    (foreigners : Foreigners)
    (events : List Event) (event : Event) (numbers faults faults' : ℕ) where
  abbrev run : Setting
  run = setting_of free start counts opening foreigners

  pub due_next : IsLegalOver free start counts history h root last running opening foreigners events → IsAnswerable event.entry.call
      → ((es : List FullElement) → Holds h root es → AreGiven es (state_after run events).volume event.substitutes)
      → UsedBelow numbers (state_after run events).volume → ReadsPaths (call_after run events event)
      → IsReplied numbers faults faults' last event.entry.call h root event.entry.reply
      → (event.entry.reply ≡ due_over (call_after run events event) (room_of h) (free_now h root)) ⊎ TellsFailure faults faults' event.entry.reply
  due_next so_far answers given used reads replied =
      let volume = (state_after run events).volume in
      let held = so_far.held.holds in
      let es = held.elements.0 in
      let stand = held.elements.2 in
      replied.due answers volume held (call_after run events event) (record {
        own = ap (λ (n : ℕ). n + 1) (sym held.last_is);
        hash_is = refl;
        shows = shows_as es volume event.substitutes held.elements.2 (given es held.elements.1);
        keys = held.elements.2.names;
        words = reads;
      }) (record {
        asks = record { command_is = refl; busy_is = so_far.held.opened.idle };
        numbers = numbers_so event.entry.call numbers es volume (record {
          used = used;
          apart = stand.numbers.apart;
          few = stand.numbers.few;
          of_systems = stand.of_systems;
        });
      })

-- What the reply of a call tells exactly: of the space over which it was answered, and of a device that failed within it.
use Rattle.std.specs.Prelude.{◌≡◌, ◌⊎◌, ℕ, ◌+◌, ◌-◌, List, Some, slice_get}
use Rattle.hm_types.specs.Elements.{FullElement}
use Rattle.hm_types.specs.Faults.{IsMedia}
use Rattle.hm_types.specs.Hash.{name_hash}
use Rattle.hm_types.specs.Layout.{first_pool}
use Rattle.hm_types.specs.References.{free_blocks}
use Rattle.hm_model.specs.Call.{Call}
use Rattle.hm_model.specs.Volume.{Volume}
use Rattle.hm_model.specs.declared.command.Command.{Command}
use Rattle.hm_model.specs.declared.command.Command.TheVariants.{Df, Reblock}
use Rattle.hm_model.specs.declared.entry.Entry.{Entry}
use Rattle.hm_model.specs.declared.reply.Reply.{Reply}
use Rattle.hm_model.specs.declared.reply.Reply.TheVariants.{Done, Listing, Content, Status, Target, Synced, MadePfs, PfsIs, Space, Finished, Passed, Cut}
use Rattle.hm_model.specs.declared.reply.Reply.TheVariants.{Exists, NotFound, NotDir, IsDir, NotEmpty, BadPath, ReadOnly, NotRetained, Future, TooBig}
use Rattle.hm_model.specs.declared.reply.Reply.TheVariants.{CrossPfs, IntoItself, HashFull, PfsFull, NoSnapshots, TooManyIntervals, NotSlave, NotMaster}
use Rattle.hm_model.specs.declared.reply.Reply.TheVariants.{IdsSpent, NoSpace, Media, Damaged, NoMemory, SharedDiffers, BeginDiffers, StreamBad, StreamShort}
use Rattle.hm_model.specs.declared.reply.Reply.TheVariants.{StreamFault, EndPruned, Busy, NotLink, NotFile}
use Rattle.hm_calls.specs.Answered.{AsksBeside, IsAnswerable}
use Rattle.hm_calls.specs.Call.{IsCall}
use Rattle.hm_calls.specs.Due.{due_over}
use Rattle.hm_stored.specs.Basis.{states_of}
use Rattle.hm_stored.specs.Heap.{Heap, room_of}
use Rattle.hm_stored.specs.Standing.{basis_now}
use Rattle.hm_state.specs.Volume.{HoldsVolume}
use Rattle.hm_core.specs.Numbers.{numbers_told}
use Rattle.hm_core.specs.State.{CoreState}
use Rattle.hm_core.specs.Told.{TellsFailure, told_beside}
use Rattle.hm_core.specs.declared.step.Step.{Step}
use Rattle.hm_core.specs.declared.step.Step.TheVariants.{Answered, MustFlush, Opened, Spent}

-- How many big-blocks are free, counted from what the trees of a space refer to: those of the pool that no zone appends to, and in
-- which nothing is live in the committed tree, in the frozen one, or in the one of now, which begins at this root.
abbrev pub free_now : Heap → ℕ → ℕ
free_now h root = free_blocks h.bigblocks h.append (states_of (basis_now h root))

-- a fact of the elements of whatever volume a space holds
abbrev pub OnHeld : Heap → ℕ → ℕ → (List FullElement → Type 0) → Type 0
OnHeld h root last P = (volume : Volume) (held : HoldsVolume h root last volume) → P held.elements.0

-- a reply that tells a failed device tells it of a call over which the count of its faults went from one to another
abbrev pub TellsMedia : ℕ → ℕ → Reply → Type 0
TellsMedia old new (Media before after) = IsMedia old new before after
TellsMedia old new (Synced boundary) = Unit {0}
TellsMedia old new Done = Unit {0}
TellsMedia old new (Listing names) = Unit {0}
TellsMedia old new (Content bytes) = Unit {0}
TellsMedia old new (Status kind obj size links) = Unit {0}
TellsMedia old new (Target text) = Unit {0}
TellsMedia old new (MadePfs number) = Unit {0}
TellsMedia old new (PfsIs master number shared intervals sync_end) = Unit {0}
TellsMedia old new (Space pool free) = Unit {0}
TellsMedia old new Finished = Unit {0}
TellsMedia old new (Passed begin end) = Unit {0}
TellsMedia old new (Cut items) = Unit {0}
TellsMedia old new Exists = Unit {0}
TellsMedia old new NotFound = Unit {0}
TellsMedia old new NotDir = Unit {0}
TellsMedia old new IsDir = Unit {0}
TellsMedia old new NotEmpty = Unit {0}
TellsMedia old new (BadPath place) = Unit {0}
TellsMedia old new ReadOnly = Unit {0}
TellsMedia old new NotRetained = Unit {0}
TellsMedia old new (Future last) = Unit {0}
TellsMedia old new TooBig = Unit {0}
TellsMedia old new CrossPfs = Unit {0}
TellsMedia old new IntoItself = Unit {0}
TellsMedia old new HashFull = Unit {0}
TellsMedia old new PfsFull = Unit {0}
TellsMedia old new NoSnapshots = Unit {0}
TellsMedia old new (TooManyIntervals count) = Unit {0}
TellsMedia old new NotSlave = Unit {0}
TellsMedia old new NotMaster = Unit {0}
TellsMedia old new IdsSpent = Unit {0}
TellsMedia old new (NoSpace free needed) = Unit {0}
TellsMedia old new (Damaged at kind) = Unit {0}
TellsMedia old new NoMemory = Unit {0}
TellsMedia old new (SharedDiffers slave stream) = Unit {0}
TellsMedia old new (BeginDiffers slave stream) = Unit {0}
TellsMedia old new (StreamBad place) = Unit {0}
TellsMedia old new (StreamShort taken) = Unit {0}
TellsMedia old new (StreamFault before after) = Unit {0}
TellsMedia old new (EndPruned end first) = Unit {0}
TellsMedia old new (Busy opening) = Unit {0}
TellsMedia old new NotLink = Unit {0}
TellsMedia old new NotFile = Unit {0}

-- The reply of a call over a space, over which the count of the device's faults went from one to another. Of a call on names, on the
-- bytes of files or on pseudo file systems it is the one that each such call is due whose trees the elements show, by the next id: `no space` exactly where
-- the zones that lack room are more than the big-blocks that are free and not held back, with both numbers. `df` tells the pool and
-- how many are free, and a reblock is opened. Or it tells that the device failed in this call, or want of memory.
pub record IsReplied (numbers faults faults' last : ℕ) (command : Command) (h : Heap) (root : ℕ) (reply : Reply) : Type 0 where
  pub media : TellsMedia faults faults' reply
  pub due : IsAnswerable command
      → OnHeld h root last (λ es. (call : Call) → IsCall name_hash (last + 1) es call → AsksBeside command (told_beside numbers) es call
      → (reply ≡ due_over call (room_of h) (free_now h root)) ⊎ TellsFailure faults faults' reply)
  pub space : command ≡ Df → OnHeld h root last (λ _. (reply ≡ Space (h.bigblocks - first_pool h.bigblocks) (free_now h root))
      ⊎ TellsFailure faults faults' reply)
  pub reblock : (fill : ℕ) → command ≡ Reblock fill → OnHeld h root last (λ _. (reply ≡ Done) ⊎ TellsFailure faults faults' reply)

-- the reply of a call that was answered, over the space and the counts of the core as it began
abbrev pub RepliesExactly : CoreState → CoreState → Command → Step → Type 0
RepliesExactly old new command (Answered place) =
    (entry : Entry) → slice_get new.history place ≡ Some entry
    → IsReplied (numbers_told old.history) old.counts.disk new.counts.disk old.last command old.heap old.root entry.reply
RepliesExactly old new command (Opened place ticket) =
    (entry : Entry) → slice_get new.history place ≡ Some entry
    → IsReplied (numbers_told old.history) old.counts.disk new.counts.disk old.last command old.heap old.root entry.reply
RepliesExactly old new command (MustFlush back) = Unit {0}
RepliesExactly old new command Spent = Unit {0}

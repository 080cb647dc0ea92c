-- Which replies a call can give, whatever the store tells.
use Rattle.std.specs.Prelude.{ℕ, ◌-◌, List, Option, Result, Ok, Err, Bool, IsTrue}
use Rattle.hm_model.specs.Caused.{IsPossible, possible}
use Rattle.hm_model.specs.Due.{early_checks, first_refusal}
use Rattle.hm_model.specs.Sites.{Parsed, ReadsWords}
use Rattle.hm_model.specs.declared.command.Command.{Command}
use Rattle.hm_model.specs.declared.reply.Reply.{Reply}
use Rattle.hm_model.specs.declared.reply.Reply.TheVariants.{Done, Listing, Content, Status, Target, Synced, MadePfs, PfsIs, Space, Finished, Passed}
use Rattle.hm_model.specs.declared.reply.Reply.TheVariants.{Cut, Exists, NotFound, NotDir, IsDir, NotEmpty, BadPath, ReadOnly, NotRetained, Future}
use Rattle.hm_model.specs.declared.reply.Reply.TheVariants.{TooBig, CrossPfs, IntoItself, HashFull, PfsFull, NoSnapshots, TooManyIntervals, NotSlave}
use Rattle.hm_model.specs.declared.reply.Reply.TheVariants.{NotMaster, IdsSpent, NoSpace, Media, Damaged, NoMemory, SharedDiffers, BeginDiffers}
use Rattle.hm_model.specs.declared.reply.Reply.TheVariants.{StreamBad, StreamShort, StreamFault, EndPruned, Busy, NotLink, NotFile}
use Rattle.hm_calls.specs.Stop.{OfRefusal}
use Rattle.hm_calls.specs.declared.stop.Stop.{Stop}

-- A reply is a call's own: it tells no device that failed, no damage and no want of memory. These are faults, of which a call
-- makes no reply.
abbrev pub IsOwn : Reply → Type 0
IsOwn Done = Unit {0}
IsOwn (Listing names) = Unit {0}
IsOwn (Content bytes) = Unit {0}
IsOwn (Status kind obj size links) = Unit {0}
IsOwn (Target text) = Unit {0}
IsOwn (Synced boundary) = Unit {0}
IsOwn (MadePfs number) = Unit {0}
IsOwn (PfsIs master number shared intervals sync_end) = Unit {0}
IsOwn (Space pool free) = Unit {0}
IsOwn Finished = Unit {0}
IsOwn (Passed begin end) = Unit {0}
IsOwn (Cut items) = Unit {0}
IsOwn Exists = Unit {0}
IsOwn NotFound = Unit {0}
IsOwn NotDir = Unit {0}
IsOwn IsDir = Unit {0}
IsOwn NotEmpty = Unit {0}
IsOwn (BadPath place) = Unit {0}
IsOwn ReadOnly = Unit {0}
IsOwn NotRetained = Unit {0}
IsOwn (Future last) = Unit {0}
IsOwn TooBig = Unit {0}
IsOwn CrossPfs = Unit {0}
IsOwn IntoItself = Unit {0}
IsOwn HashFull = Unit {0}
IsOwn PfsFull = Unit {0}
IsOwn NoSnapshots = Unit {0}
IsOwn (TooManyIntervals count) = Unit {0}
IsOwn NotSlave = Unit {0}
IsOwn NotMaster = Unit {0}
IsOwn IdsSpent = Unit {0}
IsOwn (NoSpace free needed) = Unit {0}
IsOwn (Media before after) = ⊥
IsOwn (Damaged at kind) = ⊥
IsOwn NoMemory = ⊥
IsOwn (SharedDiffers slave stream) = Unit {0}
IsOwn (BeginDiffers slave stream) = Unit {0}
IsOwn (StreamBad place) = Unit {0}
IsOwn (StreamShort taken) = Unit {0}
IsOwn (StreamFault before after) = Unit {0}
IsOwn (EndPruned end first) = Unit {0}
IsOwn (Busy opening) = Unit {0}
IsOwn NotLink = Unit {0}
IsOwn NotFile = Unit {0}

-- A reply is one that a call may have by its words alone: its own, and the refusal of the first of its early checks that fails,
-- or one of those that its command can give.
pub record MayReply (last : ℕ) (busy : Option ℕ) (command : Command) (reply : Reply) : Type 0 where
  pub own : IsOwn reply
  pub listed : (paths : List Parsed) → ReadsWords command paths
      → IsPossible (first_refusal (early_checks last busy command paths)) (possible command paths) reply

-- such a reply of a call by this id, whatever mirror or upgrade call is open
abbrev pub IsGiven : ℕ → Command → Reply → Type 0
IsGiven id command reply = (busy : Option ℕ) → MayReply (id - 1) busy command reply

-- a call gives such a reply, where it is refused too
abbrev pub Gives : ℕ → Command → Result Reply Stop → Type 0
Gives id command (Ok reply) = IsGiven id command reply
Gives id command (Err stopped) = OfRefusal (IsGiven id command) stopped

-- the refusals of a walk: nothing is there, or no directory, or an id is not kept, which only one with ids meets
abbrev pub IsLost : Bool → Reply → Type 0
IsLost ids Done = ⊥
IsLost ids (Listing names) = ⊥
IsLost ids (Content bytes) = ⊥
IsLost ids (Status kind obj size links) = ⊥
IsLost ids (Target text) = ⊥
IsLost ids (Synced boundary) = ⊥
IsLost ids (MadePfs number) = ⊥
IsLost ids (PfsIs master number shared intervals sync_end) = ⊥
IsLost ids (Space pool free) = ⊥
IsLost ids Finished = ⊥
IsLost ids (Passed begin end) = ⊥
IsLost ids (Cut items) = ⊥
IsLost ids Exists = ⊥
IsLost ids NotFound = Unit {0}
IsLost ids NotDir = Unit {0}
IsLost ids IsDir = ⊥
IsLost ids NotEmpty = ⊥
IsLost ids (BadPath place) = ⊥
IsLost ids ReadOnly = ⊥
IsLost ids NotRetained = IsTrue ids
IsLost ids (Future last) = ⊥
IsLost ids TooBig = ⊥
IsLost ids CrossPfs = ⊥
IsLost ids IntoItself = ⊥
IsLost ids HashFull = ⊥
IsLost ids PfsFull = ⊥
IsLost ids NoSnapshots = ⊥
IsLost ids (TooManyIntervals count) = ⊥
IsLost ids NotSlave = ⊥
IsLost ids NotMaster = ⊥
IsLost ids IdsSpent = ⊥
IsLost ids (NoSpace free needed) = ⊥
IsLost ids (Media before after) = ⊥
IsLost ids (Damaged at kind) = ⊥
IsLost ids NoMemory = ⊥
IsLost ids (SharedDiffers slave stream) = ⊥
IsLost ids (BeginDiffers slave stream) = ⊥
IsLost ids (StreamBad place) = ⊥
IsLost ids (StreamShort taken) = ⊥
IsLost ids (StreamFault before after) = ⊥
IsLost ids (EndPruned end first) = ⊥
IsLost ids (Busy opening) = ⊥
IsLost ids NotLink = ⊥
IsLost ids NotFile = ⊥

-- the refusal for want of space
abbrev pub IsNoSpace : Reply → Type 0
IsNoSpace Done = ⊥
IsNoSpace (Listing names) = ⊥
IsNoSpace (Content bytes) = ⊥
IsNoSpace (Status kind obj size links) = ⊥
IsNoSpace (Target text) = ⊥
IsNoSpace (Synced boundary) = ⊥
IsNoSpace (MadePfs number) = ⊥
IsNoSpace (PfsIs master number shared intervals sync_end) = ⊥
IsNoSpace (Space pool free) = ⊥
IsNoSpace Finished = ⊥
IsNoSpace (Passed begin end) = ⊥
IsNoSpace (Cut items) = ⊥
IsNoSpace Exists = ⊥
IsNoSpace NotFound = ⊥
IsNoSpace NotDir = ⊥
IsNoSpace IsDir = ⊥
IsNoSpace NotEmpty = ⊥
IsNoSpace (BadPath place) = ⊥
IsNoSpace ReadOnly = ⊥
IsNoSpace NotRetained = ⊥
IsNoSpace (Future last) = ⊥
IsNoSpace TooBig = ⊥
IsNoSpace CrossPfs = ⊥
IsNoSpace IntoItself = ⊥
IsNoSpace HashFull = ⊥
IsNoSpace PfsFull = ⊥
IsNoSpace NoSnapshots = ⊥
IsNoSpace (TooManyIntervals count) = ⊥
IsNoSpace NotSlave = ⊥
IsNoSpace NotMaster = ⊥
IsNoSpace IdsSpent = ⊥
IsNoSpace (NoSpace free needed) = Unit {0}
IsNoSpace (Media before after) = ⊥
IsNoSpace (Damaged at kind) = ⊥
IsNoSpace NoMemory = ⊥
IsNoSpace (SharedDiffers slave stream) = ⊥
IsNoSpace (BeginDiffers slave stream) = ⊥
IsNoSpace (StreamBad place) = ⊥
IsNoSpace (StreamShort taken) = ⊥
IsNoSpace (StreamFault before after) = ⊥
IsNoSpace (EndPruned end first) = ⊥
IsNoSpace (Busy opening) = ⊥
IsNoSpace NotLink = ⊥
IsNoSpace NotFile = ⊥

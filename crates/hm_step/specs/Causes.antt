-- A call that is answered, after what is known without trees.
use Rattle.std.specs.Prelude.{◌≡◌, ◌+◌, ◌<◌}
use Rattle.hm_types.specs.declared.limits.TheConstants.{GREATEST_ID}
use Rattle.hm_model.specs.After.{Event}
use Rattle.hm_model.specs.Caused.{Known}
use Rattle.hm_model.specs.Sites.{ReadsWords}
use Rattle.hm_model.specs.declared.reply.Reply.{Reply}
use Rattle.hm_model.specs.declared.reply.Reply.TheVariants.{Done, Listing, Content, Status, Target, Synced, MadePfs, PfsIs, Space, Finished, Passed}
use Rattle.hm_model.specs.declared.reply.Reply.TheVariants.{Cut, Exists, NotFound, NotDir, IsDir, NotEmpty, BadPath, ReadOnly, NotRetained, Future}
use Rattle.hm_model.specs.declared.reply.Reply.TheVariants.{TooBig, CrossPfs, IntoItself, HashFull, PfsFull, NoSnapshots, TooManyIntervals, NotSlave}
use Rattle.hm_model.specs.declared.reply.Reply.TheVariants.{NotMaster, IdsSpent, NoSpace, Media, Damaged, NoMemory, SharedDiffers, BeginDiffers}
use Rattle.hm_model.specs.declared.reply.Reply.TheVariants.{StreamBad, StreamShort, StreamFault, EndPruned, Busy, NotLink, NotFile}
use Rattle.hm_calls.specs.Answered.{IsAnswerable}

-- An event is the next one after what is known: such a call, by the id after the last, with readings of its path words.
pub record IsNextOf (known : Known) (event : Event) : Type 0 where
  pub served : IsAnswerable event.entry.call
  pub left : known.last < GREATEST_ID
  pub own : event.entry.id.0 ≡ known.last + 1
  pub reads : ReadsWords event.entry.call event.paths

-- a reply tells a fault: a device that failed, damage, or want of memory
abbrev pub TellsFault : Reply → Type 0
TellsFault Done = ⊥
TellsFault (Listing names) = ⊥
TellsFault (Content bytes) = ⊥
TellsFault (Status kind obj size links) = ⊥
TellsFault (Target text) = ⊥
TellsFault (Synced boundary) = ⊥
TellsFault (MadePfs number) = ⊥
TellsFault (PfsIs master number shared intervals sync_end) = ⊥
TellsFault (Space pool free) = ⊥
TellsFault Finished = ⊥
TellsFault (Passed begin end) = ⊥
TellsFault (Cut items) = ⊥
TellsFault Exists = ⊥
TellsFault NotFound = ⊥
TellsFault NotDir = ⊥
TellsFault IsDir = ⊥
TellsFault NotEmpty = ⊥
TellsFault (BadPath place) = ⊥
TellsFault ReadOnly = ⊥
TellsFault NotRetained = ⊥
TellsFault (Future last) = ⊥
TellsFault TooBig = ⊥
TellsFault CrossPfs = ⊥
TellsFault IntoItself = ⊥
TellsFault HashFull = ⊥
TellsFault PfsFull = ⊥
TellsFault NoSnapshots = ⊥
TellsFault (TooManyIntervals count) = ⊥
TellsFault NotSlave = ⊥
TellsFault NotMaster = ⊥
TellsFault IdsSpent = ⊥
TellsFault (NoSpace free needed) = ⊥
TellsFault (Media before after) = Unit {0}
TellsFault (Damaged at kind) = Unit {0}
TellsFault NoMemory = Unit {0}
TellsFault (SharedDiffers slave stream) = ⊥
TellsFault (BeginDiffers slave stream) = ⊥
TellsFault (StreamBad place) = ⊥
TellsFault (StreamShort taken) = ⊥
TellsFault (StreamFault before after) = ⊥
TellsFault (EndPruned end first) = ⊥
TellsFault (Busy opening) = ⊥
TellsFault NotLink = ⊥
TellsFault NotFile = ⊥

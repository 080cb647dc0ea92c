-- The histories that a run may have.
use Rattle.std.specs.Prelude.{◌≡◌, ◌≢◌, ◌⊎◌, ℕ, ◌+◌, ◌-◌, ◌^◌, ◌<◌, ◌≤◌, List, [], ◌∷◌, ◌++◌, Bool, true, false, Option, Some, None, if◌then◌else◌, map, length, min, IsTrue, IsSome}
use Rattle.std.specs.List.{list_any}
use Rattle.std.specs.Option.{option_map_or}
use Rattle.hm_types.specs.Intervals.{Keeps}
use Rattle.hm_types.specs.Layout.{first_pool}
use Rattle.hm_types.specs.declared.id.Id.{Id}
use Rattle.hm_types.specs.declared.limits.TheConstants.{GREATEST_ID, MOST_INTERVALS}
use Rattle.hm_model.specs.declared.command.Command.{Command}
use Rattle.hm_model.specs.declared.command.Command.TheVariants.{Sync, Synctid, Df, Progress, End, MirrorRead, MirrorWrite, MirrorCopy, Mkdir, Touch, Symlink, Snapshot, Ln, Mv, Write, Fill, Truncate, Rm, Rmdir, Ls, Cat, Stat, Readlink, Prune, PruneAll, Reblock, PfsMaster, PfsSlave, PfsStatus, PfsUpgrade}
use Rattle.hm_model.specs.declared.entry.Entry.{Entry}
use Rattle.hm_model.specs.declared.reply.Reply.{Reply}
use Rattle.hm_model.specs.declared.reply.Reply.TheVariants.{Synced, MadePfs, Space, Passed, Cut, NoSpace, Media, Damaged, NoMemory, TooManyIntervals, SharedDiffers, BeginDiffers, EndPruned, Finished, StreamBad, StreamShort, StreamFault, Done, Listing, Content, Status, Target, PfsIs, Exists, NotFound, NotDir, IsDir, NotEmpty, BadPath, ReadOnly, NotRetained, Future, TooBig, CrossPfs, IntoItself, HashFull, PfsFull, NoSnapshots, NotSlave, NotMaster, IdsSpent, Busy, NotLink, NotFile}
use Rattle.hm_model.specs.Volume.{Volume, PseudoFileSystem, system_of}
use Rattle.hm_model.specs.View.{is_clear}
use Rattle.hm_model.specs.Sites.{Located, passed_by}
use Rattle.hm_model.specs.Call.{Call, all_located, own_id}
use Rattle.hm_model.specs.Command.{named_opening}
use Rattle.hm_model.specs.Reply.{is_refusal, told_boundary}
use Rattle.hm_model.specs.Due.{Check, accepted, first_refusal, intervals_left, new_pfs, record_checks, refusal, slaves_stay, walks}
use Rattle.hm_types.specs.Hash.{name_hash}
use Rattle.hm_model.specs.Cut.{join}
use Rattle.hm_model.specs.Foreign.{Feed, Foreigners, StreamEnd}
use Rattle.hm_model.specs.After.{Event, OpenCall, State, after, call_of, given_in, opened_with}
use Rattle.hm_model.specs.Needs.{MayLack, floor, rows_after, rows_of}
use Rattle.hm_model.specs.Caused.{Counts, IsCaused, IsCutAt, known_at, takes_stream, writes_stream}

-- What a run begins with: its volume, what is known of foreign masters, the number of free big-blocks, and
-- the counts of faults; and these counts now.
pub record Setting : Type 0 where
  pub opening : Volume
  pub foreigners : Foreigners
  pub free : ℕ
  pub start : Counts
  pub now : Counts

-- the state of a run after these events
abbrev pub state_after : Setting → List Event → State
state_after run events = after run.opening run.foreigners events

-- the call of an event that comes after these
abbrev pub call_after : Setting → List Event → Event → Call
call_after run before event = call_of name_hash (state_after run before) event

-- the entries of events
abbrev pub entries_of : List Event → List Entry
entries_of events = map (λ (event : Event). event.entry) events

-- the least number of big-blocks that are free after these events
abbrev pub floor_after : Setting → List Event → ℕ
floor_after run events = floor run.free (entries_of events)

-- whether a walk of the call enters a PFS whose trees are not certain
abbrev pub enters_unclear : Call → Bool
enters_unclear call =
    list_any (λ (l : Located). list_any (λ (p : ℕ × ℕ). if is_clear call.volume p.0 then false else true) (passed_by l)) (all_located call)

-- how many big-blocks the pool has
abbrev pub pool_of : Volume → ℕ
pool_of volume = volume.bigblocks - first_pool volume.bigblocks

-- the pool, and a number of free big-blocks in it that is not below the least
abbrev pub IsSpace : ℕ → Volume → Reply → Type 0
IsSpace least volume (Space pool free) = (pool ≡ pool_of volume) × (least ≤ free) × (free ≤ pool)
IsSpace least volume Done = ⊥
IsSpace least volume (Listing names) = ⊥
IsSpace least volume (Content bytes) = ⊥
IsSpace least volume (Status kind obj size links) = ⊥
IsSpace least volume (Target text) = ⊥
IsSpace least volume (Synced boundary) = ⊥
IsSpace least volume (MadePfs number) = ⊥
IsSpace least volume (PfsIs master number shared intervals sync_end) = ⊥
IsSpace least volume Finished = ⊥
IsSpace least volume (Passed begin end) = ⊥
IsSpace least volume (Cut items) = ⊥
IsSpace least volume Exists = ⊥
IsSpace least volume NotFound = ⊥
IsSpace least volume NotDir = ⊥
IsSpace least volume IsDir = ⊥
IsSpace least volume NotEmpty = ⊥
IsSpace least volume (BadPath place) = ⊥
IsSpace least volume ReadOnly = ⊥
IsSpace least volume NotRetained = ⊥
IsSpace least volume (Future last) = ⊥
IsSpace least volume TooBig = ⊥
IsSpace least volume CrossPfs = ⊥
IsSpace least volume IntoItself = ⊥
IsSpace least volume HashFull = ⊥
IsSpace least volume PfsFull = ⊥
IsSpace least volume NoSnapshots = ⊥
IsSpace least volume (TooManyIntervals count) = ⊥
IsSpace least volume NotSlave = ⊥
IsSpace least volume NotMaster = ⊥
IsSpace least volume IdsSpent = ⊥
IsSpace least volume (NoSpace free needed) = ⊥
IsSpace least volume (Media before after) = ⊥
IsSpace least volume (Damaged at kind) = ⊥
IsSpace least volume NoMemory = ⊥
IsSpace least volume (SharedDiffers slave stream) = ⊥
IsSpace least volume (BeginDiffers slave stream) = ⊥
IsSpace least volume (StreamBad place) = ⊥
IsSpace least volume (StreamShort taken) = ⊥
IsSpace least volume (StreamFault before after) = ⊥
IsSpace least volume (EndPruned end first) = ⊥
IsSpace least volume (Busy opening) = ⊥
IsSpace least volume NotLink = ⊥
IsSpace least volume NotFile = ⊥

-- a boundary: which one, its cause says
abbrev pub IsSynced : Reply → Type 0
IsSynced reply = IsSome (told_boundary reply)

-- the reply of an accepted call
abbrev pub IsAccepted : ℕ → Call → Reply → Type 0
IsAccepted least call reply = elim call.command [
  | Sync ↦ IsSynced reply
  | Synctid ↦ IsSynced reply
  | Df ↦ IsSpace least call.volume reply
  | Progress ↦ ⊥
  | Mkdir path ↦ reply ≡ accepted call
  | Touch path ↦ reply ≡ accepted call
  | Symlink target path ↦ reply ≡ accepted call
  | Snapshot path ↦ reply ≡ accepted call
  | Ln old new ↦ reply ≡ accepted call
  | Mv old new ↦ reply ≡ accepted call
  | Write path offset bytes ↦ reply ≡ accepted call
  | Fill path offset count byte ↦ reply ≡ accepted call
  | Truncate path size ↦ reply ≡ accepted call
  | Rm path ↦ reply ≡ accepted call
  | Rmdir path ↦ reply ≡ accepted call
  | Ls path ↦ reply ≡ accepted call
  | Cat path offset count ↦ reply ≡ accepted call
  | Stat path ↦ reply ≡ accepted call
  | Readlink path ↦ reply ≡ accepted call
  | Prune path ↦ reply ≡ accepted call
  | PruneAll path ↦ reply ≡ accepted call
  | Reblock fill ↦ reply ≡ accepted call
  | PfsMaster path shared ↦ reply ≡ accepted call
  | PfsSlave path shared ↦ reply ≡ accepted call
  | PfsStatus path ↦ reply ≡ accepted call
  | PfsUpgrade path ↦ reply ≡ accepted call
  | MirrorRead path begin ↦ reply ≡ accepted call
  | MirrorWrite path ↦ reply ≡ accepted call
  | MirrorCopy master slave limit ↦ reply ≡ accepted call
  | End opening ↦ reply ≡ accepted call
]

-- the reply that a call is due
abbrev pub IsDue : ℕ → Call → Check → Reply → Type 0
IsDue least call (Some refusal) reply = reply ≡ refusal
IsDue least call None reply = IsAccepted least call reply

-- a refusal that comes where the call would else be accepted, or where a device or memory failed
abbrev pub IsException : ℕ → Call → Reply → Type 0
IsException least call (NoSpace free needed) =
    (refusal call ≡ None) × MayLack (rows_of call) free needed × (least ≤ free)
IsException least call (Media before after) = Unit {0}
IsException least call NoMemory = Unit {0}
IsException least call Done = ⊥
IsException least call (Listing names) = ⊥
IsException least call (Content bytes) = ⊥
IsException least call (Status kind obj size links) = ⊥
IsException least call (Target text) = ⊥
IsException least call (Synced boundary) = ⊥
IsException least call (MadePfs number) = ⊥
IsException least call (PfsIs master number shared intervals sync_end) = ⊥
IsException least call (Space pool free) = ⊥
IsException least call Finished = ⊥
IsException least call (Passed begin end) = ⊥
IsException least call (Cut items) = ⊥
IsException least call Exists = ⊥
IsException least call NotFound = ⊥
IsException least call NotDir = ⊥
IsException least call IsDir = ⊥
IsException least call NotEmpty = ⊥
IsException least call (BadPath place) = ⊥
IsException least call ReadOnly = ⊥
IsException least call NotRetained = ⊥
IsException least call (Future last) = ⊥
IsException least call TooBig = ⊥
IsException least call CrossPfs = ⊥
IsException least call IntoItself = ⊥
IsException least call HashFull = ⊥
IsException least call PfsFull = ⊥
IsException least call NoSnapshots = ⊥
IsException least call (TooManyIntervals count) = ⊥
IsException least call NotSlave = ⊥
IsException least call NotMaster = ⊥
IsException least call IdsSpent = ⊥
IsException least call (Damaged at kind) = ⊥
IsException least call (SharedDiffers slave stream) = ⊥
IsException least call (BeginDiffers slave stream) = ⊥
IsException least call (StreamBad place) = ⊥
IsException least call (StreamShort taken) = ⊥
IsException least call (StreamFault before after) = ⊥
IsException least call (EndPruned end first) = ⊥
IsException least call (Busy opening) = ⊥
IsException least call NotLink = ⊥
IsException least call NotFile = ⊥

-- the reply of a single call or an opening
abbrev pub IsReply : ℕ → Call → Reply → Type 0
IsReply least call reply = IsDue least call (refusal call) reply ⊎ IsException least call reply

-- the sync end of a PFS
abbrev pub sync_end_of : Volume → ℕ → ℕ
sync_end_of volume pfs = option_map_or (λ (s : PseudoFileSystem). s.sync_end) (system_of volume pfs) 0

-- the begin id of an open pass: the one that was given, or the slave's sync end
abbrev pub begin_of : Volume → OpenCall → ℕ
begin_of volume o = elim o.command [
  | MirrorRead path begin ↦ begin.0
  | Mkdir path ↦ sync_end_of volume o.pfs
  | Touch path ↦ sync_end_of volume o.pfs
  | Symlink target path ↦ sync_end_of volume o.pfs
  | Snapshot path ↦ sync_end_of volume o.pfs
  | Ln old new ↦ sync_end_of volume o.pfs
  | Mv old new ↦ sync_end_of volume o.pfs
  | Write path offset bytes ↦ sync_end_of volume o.pfs
  | Fill path offset count byte ↦ sync_end_of volume o.pfs
  | Truncate path size ↦ sync_end_of volume o.pfs
  | Rm path ↦ sync_end_of volume o.pfs
  | Rmdir path ↦ sync_end_of volume o.pfs
  | Ls path ↦ sync_end_of volume o.pfs
  | Cat path offset count ↦ sync_end_of volume o.pfs
  | Stat path ↦ sync_end_of volume o.pfs
  | Readlink path ↦ sync_end_of volume o.pfs
  | Sync ↦ sync_end_of volume o.pfs
  | Synctid ↦ sync_end_of volume o.pfs
  | Prune path ↦ sync_end_of volume o.pfs
  | PruneAll path ↦ sync_end_of volume o.pfs
  | Reblock fill ↦ sync_end_of volume o.pfs
  | PfsMaster path shared ↦ sync_end_of volume o.pfs
  | PfsSlave path shared ↦ sync_end_of volume o.pfs
  | PfsStatus path ↦ sync_end_of volume o.pfs
  | PfsUpgrade path ↦ sync_end_of volume o.pfs
  | MirrorWrite path ↦ sync_end_of volume o.pfs
  | MirrorCopy master slave limit ↦ sync_end_of volume o.pfs
  | Df ↦ sync_end_of volume o.pfs
  | Progress ↦ sync_end_of volume o.pfs
  | End opening ↦ sync_end_of volume o.pfs
]

-- the master of an open pass within this volume keeps an id
abbrev pub MasterKeeps : Volume → OpenCall → ℕ → Type 0
MasterKeeps volume o id =
    Keeps (option_map_or (λ (s : PseudoFileSystem). s.retention) (system_of volume o.master) []) id

-- the end id of a pass within this volume: it lies between the call's opening and its ending
pub record IsEndId (o : OpenCall) (ending end : ℕ) : Type 0 where
  pub opened : o.opening ≤ end
  pub before : end < ending

-- the same, which the master keeps
abbrev pub IsKeptEnd : Volume → OpenCall → ℕ → ℕ → Type 0
IsKeptEnd volume o ending end = IsEndId o ending end × MasterKeeps volume o end

-- a stream came to its end, and brought this end id, which its retention keeps
pub record IsBrought (feed : Feed) (end : ℕ) : Type 0 where
  pub term : StreamEnd
  pub taken : feed.term ≡ Some term
  pub named : term.end ≡ end
  pub kept : Keeps term.retention end

-- the end id with which a pass may come to its end: a stream brings it
abbrev pub IsPassEnd : Volume → OpenCall → ℕ → ℕ → Type 0
IsPassEnd volume o ending end = elim o.command [
  | MirrorWrite path ↦ IsBrought o.stream end × (begin_of volume o ≤ end) × (end ≤ GREATEST_ID)
  | Mkdir path ↦ IsKeptEnd volume o ending end
  | Touch path ↦ IsKeptEnd volume o ending end
  | Symlink target path ↦ IsKeptEnd volume o ending end
  | Snapshot path ↦ IsKeptEnd volume o ending end
  | Ln old new ↦ IsKeptEnd volume o ending end
  | Mv old new ↦ IsKeptEnd volume o ending end
  | Write path offset bytes ↦ IsKeptEnd volume o ending end
  | Fill path offset count byte ↦ IsKeptEnd volume o ending end
  | Truncate path size ↦ IsKeptEnd volume o ending end
  | Rm path ↦ IsKeptEnd volume o ending end
  | Rmdir path ↦ IsKeptEnd volume o ending end
  | Ls path ↦ IsKeptEnd volume o ending end
  | Cat path offset count ↦ IsKeptEnd volume o ending end
  | Stat path ↦ IsKeptEnd volume o ending end
  | Readlink path ↦ IsKeptEnd volume o ending end
  | Sync ↦ IsKeptEnd volume o ending end
  | Synctid ↦ IsKeptEnd volume o ending end
  | Prune path ↦ IsKeptEnd volume o ending end
  | PruneAll path ↦ IsKeptEnd volume o ending end
  | Reblock fill ↦ IsKeptEnd volume o ending end
  | PfsMaster path shared ↦ IsKeptEnd volume o ending end
  | PfsSlave path shared ↦ IsKeptEnd volume o ending end
  | PfsStatus path ↦ IsKeptEnd volume o ending end
  | PfsUpgrade path ↦ IsKeptEnd volume o ending end
  | MirrorRead path begin ↦ IsKeptEnd volume o ending end
  | MirrorCopy master slave limit ↦ IsKeptEnd volume o ending end
  | Df ↦ IsKeptEnd volume o ending end
  | Progress ↦ IsKeptEnd volume o ending end
  | End opening ↦ IsKeptEnd volume o ending end
]

-- how many intervals a slave's retention has after a pass with this end id
abbrev pub joined_count : Volume → OpenCall → ℕ → ℕ
joined_count volume o end =
    option_map_or (λ (s : PseudoFileSystem). length (join s.retention (given_in volume o).retention (begin_of volume o) end))
    (system_of volume o.pfs) 0

-- the same, of a pass that joins: one that only writes a stream leaves every retention
abbrev pub gained_count : Volume → OpenCall → ℕ → ℕ
gained_count volume o end = if writes_stream o.command then 0 else joined_count volume o end

-- the ids of a pass that came to its end: no retention has more intervals than it may
pub record IsPassed (volume : Volume) (o : OpenCall) (ending begin end : ℕ) : Type 0 where
  pub begins : begin ≡ begin_of volume o
  pub ends : IsPassEnd volume o ending end
  pub fits : gained_count volume o end ≤ MOST_INTERVALS

-- a pass whose retentions join to more intervals than one may have, and how many, as far as a reply can tell
pub record IsTooMany (volume : Volume) (o : OpenCall) (ending count : ℕ) : Type 0 where
  pub end : ℕ
  pub ends : IsPassEnd volume o ending end
  pub more : MOST_INTERVALS < gained_count volume o end
  pub told : count ≡ min (gained_count volume o end) (2 ^ 32 - 1)

-- the master does not keep the end id, and this is the least kept id above it
pub record IsEndPruned (volume : Volume) (o : OpenCall) (ending end first : ℕ) : Type 0 where
  pub between : IsEndId o ending end
  pub gone : MasterKeeps volume o end → ⊥
  pub kept : MasterKeeps volume o first
  pub above : end < first
  pub least : (t : ℕ) → end < t → MasterKeeps volume o t → first ≤ t

-- two numbers that should be one are a PFS's own and another
abbrev pub Differ : Volume → OpenCall → (PseudoFileSystem → ℕ) → ℕ → ℕ → Type 0
Differ volume o own slave stream =
    (slave ≡ option_map_or own (system_of volume o.pfs) 0) × (slave ≢ stream)

-- the reply of the ending of an open call
abbrev pub IsEnding : ℕ → Volume → OpenCall → ℕ → Reply → Type 0
IsEnding least volume o ending reply = elim reply [
  | Passed begin end ↦ IsPassed volume o ending begin.0 end.0
  | EndPruned end first ↦ IsEndPruned volume o ending end.0 first.0
  | Cut items ↦ IsCutAt (Some o.command) items
  | NoSpace free needed ↦ MayLack (rows_after o.command) free needed × (least ≤ free)
  | TooManyIntervals count ↦ IsTooMany volume o ending count
  | SharedDiffers slave stream ↦ Differ volume o (λ (s : PseudoFileSystem). s.shared) slave stream
  | BeginDiffers slave stream ↦ Differ volume o (λ (s : PseudoFileSystem). s.sync_end) slave.0 stream.0
  | Finished ↦ Unit {0}
  | Media before after ↦ Unit {0}
  | NoMemory ↦ Unit {0}
  | StreamBad place ↦ Unit {0}
  | StreamShort taken ↦ Unit {0}
  | StreamFault before after ↦ Unit {0}
  | Done ↦ ⊥
  | Listing names ↦ ⊥
  | Content bytes ↦ ⊥
  | Status kind obj size links ↦ ⊥
  | Target text ↦ ⊥
  | Synced boundary ↦ ⊥
  | MadePfs number ↦ ⊥
  | PfsIs master number shared intervals sync_end ↦ ⊥
  | Space pool free ↦ ⊥
  | Exists ↦ ⊥
  | NotFound ↦ ⊥
  | NotDir ↦ ⊥
  | IsDir ↦ ⊥
  | NotEmpty ↦ ⊥
  | BadPath place ↦ ⊥
  | ReadOnly ↦ ⊥
  | NotRetained ↦ ⊥
  | Future last ↦ ⊥
  | TooBig ↦ ⊥
  | CrossPfs ↦ ⊥
  | IntoItself ↦ ⊥
  | HashFull ↦ ⊥
  | PfsFull ↦ ⊥
  | NoSnapshots ↦ ⊥
  | NotSlave ↦ ⊥
  | NotMaster ↦ ⊥
  | IdsSpent ↦ ⊥
  | Damaged at kind ↦ ⊥
  | Busy opening ↦ ⊥
  | NotLink ↦ ⊥
  | NotFile ↦ ⊥
]

-- the reply of an event, by its call
abbrev pub IsAllowed : Setting → List Event → Event → Type 0
IsAllowed run before event = elim (named_opening event.entry.call) [
  | Some opening ↦ (o : OpenCall) × (opened_with opening.0 (state_after run before).opened ≡ Some o)
      × IsEnding (floor_after run before) (state_after run before).volume o event.entry.id.0 event.entry.reply
  | None ↦ IsReply (floor_after run before) (call_after run before event) event.entry.reply
]

-- a reply tells of no damage
abbrev pub IsUndamaged : Reply → Type 0
IsUndamaged (Damaged at kind) = ⊥
IsUndamaged Done = Unit {0}
IsUndamaged (Listing names) = Unit {0}
IsUndamaged (Content bytes) = Unit {0}
IsUndamaged (Status kind obj size links) = Unit {0}
IsUndamaged (Target text) = Unit {0}
IsUndamaged (Synced boundary) = Unit {0}
IsUndamaged (MadePfs number) = Unit {0}
IsUndamaged (PfsIs master number shared intervals sync_end) = Unit {0}
IsUndamaged (Space pool free) = Unit {0}
IsUndamaged Finished = Unit {0}
IsUndamaged (Passed begin end) = Unit {0}
IsUndamaged (Cut items) = Unit {0}
IsUndamaged Exists = Unit {0}
IsUndamaged NotFound = Unit {0}
IsUndamaged NotDir = Unit {0}
IsUndamaged IsDir = Unit {0}
IsUndamaged NotEmpty = Unit {0}
IsUndamaged (BadPath place) = Unit {0}
IsUndamaged ReadOnly = Unit {0}
IsUndamaged NotRetained = Unit {0}
IsUndamaged (Future last) = Unit {0}
IsUndamaged TooBig = Unit {0}
IsUndamaged CrossPfs = Unit {0}
IsUndamaged IntoItself = Unit {0}
IsUndamaged HashFull = Unit {0}
IsUndamaged PfsFull = Unit {0}
IsUndamaged NoSnapshots = Unit {0}
IsUndamaged (TooManyIntervals count) = Unit {0}
IsUndamaged NotSlave = Unit {0}
IsUndamaged NotMaster = Unit {0}
IsUndamaged IdsSpent = Unit {0}
IsUndamaged (NoSpace free needed) = Unit {0}
IsUndamaged (Media before after) = Unit {0}
IsUndamaged NoMemory = Unit {0}
IsUndamaged (SharedDiffers slave stream) = Unit {0}
IsUndamaged (BeginDiffers slave stream) = Unit {0}
IsUndamaged (StreamBad place) = Unit {0}
IsUndamaged (StreamShort taken) = Unit {0}
IsUndamaged (StreamFault before after) = Unit {0}
IsUndamaged (EndPruned end first) = Unit {0}
IsUndamaged (Busy opening) = Unit {0}
IsUndamaged NotLink = Unit {0}
IsUndamaged NotFile = Unit {0}

-- the PFS that a reply names is the one that its call adds
abbrev pub NamesAdded : Call → Reply → Type 0
NamesAdded call (MadePfs number) = number.0 ≡ new_pfs call.volume
NamesAdded call Done = Unit {0}
NamesAdded call (Listing names) = Unit {0}
NamesAdded call (Content bytes) = Unit {0}
NamesAdded call (Status kind obj size links) = Unit {0}
NamesAdded call (Target text) = Unit {0}
NamesAdded call (Synced boundary) = Unit {0}
NamesAdded call (PfsIs master number shared intervals sync_end) = Unit {0}
NamesAdded call (Space pool free) = Unit {0}
NamesAdded call Finished = Unit {0}
NamesAdded call (Passed begin end) = Unit {0}
NamesAdded call (Cut items) = Unit {0}
NamesAdded call Exists = Unit {0}
NamesAdded call NotFound = Unit {0}
NamesAdded call NotDir = Unit {0}
NamesAdded call IsDir = Unit {0}
NamesAdded call NotEmpty = Unit {0}
NamesAdded call (BadPath place) = Unit {0}
NamesAdded call ReadOnly = Unit {0}
NamesAdded call NotRetained = Unit {0}
NamesAdded call (Future last) = Unit {0}
NamesAdded call TooBig = Unit {0}
NamesAdded call CrossPfs = Unit {0}
NamesAdded call IntoItself = Unit {0}
NamesAdded call HashFull = Unit {0}
NamesAdded call PfsFull = Unit {0}
NamesAdded call NoSnapshots = Unit {0}
NamesAdded call (TooManyIntervals count) = Unit {0}
NamesAdded call NotSlave = Unit {0}
NamesAdded call NotMaster = Unit {0}
NamesAdded call IdsSpent = Unit {0}
NamesAdded call (NoSpace free needed) = Unit {0}
NamesAdded call (Media before after) = Unit {0}
NamesAdded call (Damaged at kind) = Unit {0}
NamesAdded call NoMemory = Unit {0}
NamesAdded call (SharedDiffers slave stream) = Unit {0}
NamesAdded call (BeginDiffers slave stream) = Unit {0}
NamesAdded call (StreamBad place) = Unit {0}
NamesAdded call (StreamShort taken) = Unit {0}
NamesAdded call (StreamFault before after) = Unit {0}
NamesAdded call (EndPruned end first) = Unit {0}
NamesAdded call (Busy opening) = Unit {0}
NamesAdded call NotLink = Unit {0}
NamesAdded call NotFile = Unit {0}

-- An accepted entry does what it does where its walks end, under the trees that it saw. They all end, a tree
-- call's in no slave; the records of PFS allow it; what is cut of a retention has no more intervals than one may
-- have; and the PFS that its reply names is the one that it adds.
pub record Lands (call : Call) (reply : Reply) : Type 0 where
  pub ends : first_refusal (map walks (all_located call)) ≡ None
  pub in_master : slaves_stay call ≡ None
  pub records : first_refusal (record_checks call) ≡ None
  pub fits : intervals_left call ≡ None
  pub named : NamesAdded call reply

-- a feed is left for an opening of `mirror-write`
pub record HasFeed (state : State) : Type 0 where
  pub feed : Feed
  pub later : List Feed
  pub left : state.streams ≡ feed ∷ later

-- An event may follow others: it has its cause; where no walk of it enters a PFS whose trees are not certain,
-- its reply is one that its call may have; where it is accepted it lands, and is fed; and no damage is told.
pub record MayFollow (run : Setting) (before : List Event) (event : Event) : Type 0 where
  pub caused : IsCaused run.now (known_at run.opening.last run.start) before event
  pub allowed : enters_unclear (call_after run before event) ≡ false → IsAllowed run before event
  pub lands : is_refusal event.entry.reply ≡ false → Lands (call_after run before event) event.entry.reply
  pub fed : takes_stream event.entry ≡ true → HasFeed (state_after run before)
  pub undamaged : IsUndamaged event.entry.reply

-- each event may follow those before it
abbrev pub IsLegal : Setting → List Event → Type 0
IsLegal run events =
    (before : List Event) (event : Event) (rest : List Event) →
    events ≡ before ++ event ∷ rest → MayFollow run before event

-- every feed was taken: there was one for each accepted opening of `mirror-write`, and no more
abbrev pub AreFeedsTaken : Setting → List Event → Type 0
AreFeedsTaken run events = (state_after run events).streams ≡ []

-- no fault was counted
abbrev pub no_counts : Counts
no_counts = record { disk = 0; input = 0; output = 0 }

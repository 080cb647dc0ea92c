-- The volume after a history.
use Rattle.std.specs.Prelude.{ℕ, ◌+◌, ◌-◌, ◌^◌, List, [], ◌∷◌, ◌++◌, Bool, true, false, Option, Some, None, ◌==◌, ◌&&◌, if◌then◌else◌, filter, find, map, max}
use Rattle.std.specs.Bool.{nat_le, nat_lt}
use Rattle.std.specs.Option.{option_map_or}
use Rattle.hm_types.specs.declared.id.Id.{Id}
use Rattle.hm_model.specs.declared.command.Command.{Command}
use Rattle.hm_model.specs.declared.command.Command.TheVariants.{Prune, PruneAll, PfsUpgrade, MirrorWrite, MirrorCopy, MirrorRead, Reblock, End, Mkdir, Touch, Symlink, Snapshot, Ln, Mv, Write, Fill, Truncate, Rm, Rmdir, Ls, Cat, Stat, Readlink, Sync, Synctid, PfsMaster, PfsSlave, PfsStatus, Df, Progress}
use Rattle.hm_model.specs.declared.entry.Entry.{Entry}
use Rattle.hm_model.specs.declared.reply.Reply.{Reply}
use Rattle.hm_model.specs.declared.reply.Reply.TheVariants.{Passed, Finished, SharedDiffers, BeginDiffers, StreamBad, StreamShort, Done, Listing, Content, Status, Target, Synced, MadePfs, PfsIs, Space, Cut, Exists, NotFound, NotDir, IsDir, NotEmpty, BadPath, ReadOnly, NotRetained, Future, TooBig, CrossPfs, IntoItself, HashFull, PfsFull, NoSnapshots, TooManyIntervals, NotSlave, NotMaster, IdsSpent, NoSpace, Media, Damaged, NoMemory, StreamFault, EndPruned, Busy, NotLink, NotFile}
use Rattle.hm_model.specs.Command.{named_opening}
use Rattle.hm_model.specs.Reply.{is_refusal, passed_ids}
use Rattle.hm_types.specs.Tree.{FileTree, no_tree}
use Rattle.hm_model.specs.Volume.{Volume, PseudoFileSystem, Role, Master, Slave, Origin, Nowhere, Local, Foreign, Mixed, at, system_of}
use Rattle.hm_types.specs.Intervals.{open_end}
use Rattle.hm_model.specs.View.{Substitute, view_of}
use Rattle.hm_model.specs.Sites.{Parsed}
use Rattle.hm_model.specs.Cut.{cut, join, pruned}
use Rattle.hm_model.specs.Call.{Call, first_site, second_site, own_id}
use Rattle.hm_model.specs.Due.{is_pass, kept_ids}
use Rattle.hm_model.specs.Change.{change}
use Rattle.hm_model.specs.Foreign.{Feed, Foreigners, ForeignMaster, brought, no_feed}

-- an entry, how the path words of its call are read, and the trees that it saw in place of those that are
-- not certain
pub record Event : Type 0 where
  pub entry : Entry
  pub paths : List Parsed
  pub substitutes : List Substitute

-- a housekeeping call that was opened and is not at its end: its opening id, its command, the PFS that it
-- works on, the PFS that a mirror pass within this volume reads from, where the elements of the first came
-- from before, and what its stream is fed with
pub record OpenCall : Type 0 where
  pub opening : ℕ
  pub command : Command
  pub pfs : ℕ
  pub master : ℕ
  pub origin : Origin
  pub stream : Feed

-- the volume, the housekeeping calls that are open, and the streams that are still to come
pub record State : Type 0 where
  pub volume : Volume
  pub opened : List OpenCall
  pub streams : List Feed

-- the state as a run begins
abbrev pub opening_state : Volume → Foreigners → State
opening_state volume foreigners = record { volume = volume; opened = []; streams = foreigners.streams }

-- the opening id of the mirror or upgrade call that is open
abbrev pub busy_in : List OpenCall → Option ℕ
busy_in [] = None
busy_in (o ∷ os) = if is_pass o.command then Some o.opening else busy_in os

-- the call of an event on this state, with this hash of names
abbrev pub call_of : (List ℕ → ℕ) → State → Event → Call
call_of hash state event = record {
  volume = state.volume;
  view = view_of state.volume event.substitutes;
  busy = busy_in state.opened;
  hash = hash;
  command = event.entry.call;
  paths = event.paths;
}

-- effects do not look at hashes
abbrev pub no_hash : List ℕ → ℕ
no_hash name = 0

-- the volume with a change of the PFS with this number
abbrev pub of_pfs : Volume → ℕ → (PseudoFileSystem → PseudoFileSystem) → Volume
of_pfs volume pfs change = record volume {
  systems = map (λ (s : PseudoFileSystem). if s.number == pfs then change s else s) volume.systems;
}

-- a PFS with another retention
abbrev pub retaining : List (ℕ × ℕ) → PseudoFileSystem → PseudoFileSystem
retaining retention s = record s { retention = retention }

-- what `prune-everything` leaves: of a master its own id and all later ones, of a slave its sync end
abbrev pub present_only : ℕ → PseudoFileSystem → PseudoFileSystem
present_only id s = elim s.role [
  | Master ↦ retaining (cut s.retention [] id) s
  | Slave ↦ retaining (cut s.retention (s.sync_end ∷ []) (2 ^ 64)) s
]

-- where two sources are the same
abbrev pub is_origin : Origin → Origin → Bool
is_origin Nowhere Nowhere = true
is_origin (Local m) (Local n) = m == n
is_origin (Foreign k) (Foreign l) = k == l
is_origin Mixed Mixed = true
is_origin a b = false

-- where the elements of a slave come from once a pass from a source was opened
abbrev pub fed_from : Origin → Origin → Origin
fed_from Nowhere new = new
fed_from old new = if is_origin old new then old else Mixed

-- a PFS with another source
abbrev pub with_origin : Origin → PseudoFileSystem → PseudoFileSystem
with_origin origin s = record s { origin = origin }

-- the source of a stream
abbrev pub stream_origin : Feed → Origin
stream_origin feed = option_map_or (λ (m : ForeignMaster). Foreign m.source) feed.master Mixed

-- the next stream that is to come, and those after it
abbrev pub next_stream : List Feed → Feed
next_stream [] = no_feed
next_stream (feed ∷ feeds) = feed

abbrev pub later_streams : List Feed → List Feed
later_streams [] = []
later_streams (feed ∷ feeds) = feeds

-- the source of a PFS
abbrev pub origin_of : Volume → ℕ → Origin
origin_of volume pfs = option_map_or (λ s. s.origin) (system_of volume pfs) Nowhere

-- the state with one more call open, which works on a PFS and reads from one
abbrev pub with_opened : State → Call → ℕ → ℕ → Feed → State
with_opened state call pfs master stream = record state {
  opened = record {
    opening = own_id call;
    command = call.command;
    pfs = pfs;
    master = master;
    origin = origin_of state.volume pfs;
    stream = stream;
  } ∷ state.opened;
}

-- the state with another volume
abbrev pub on_volume : State → Volume → State
on_volume state volume = record state { volume = volume }

-- the state with the call open that was opened on a PFS, which a source feeds from here on
abbrev pub feeding : State → Call → ℕ → ℕ → Origin → Feed → State
feeding state call pfs master origin stream =
    on_volume (with_opened state call pfs master stream)
    (of_pfs state.volume pfs (with_origin (fed_from (origin_of state.volume pfs) origin)))

-- what a master gives to a slave in a pass: its versions, its retention, whether they are certain, and its
-- tree as of an id
pub record Given : Type 0 where
  pub versions : List (ℕ × FileTree)
  pub retention : List (ℕ × ℕ)
  pub clear : Bool
  pub tree : ℕ → FileTree

abbrev pub nothing_given : Given
nothing_given = record { versions = []; retention = []; clear = false; tree = λ t. no_tree }

-- what the master with this number on a volume gives
abbrev pub given_by : Volume → ℕ → Given
given_by volume m = option_map_or (λ s. record {
  versions = s.versions;
  retention = s.retention;
  clear = s.clear;
  tree = at volume m;
}) (system_of volume m) nothing_given

-- What a stream gives. Its versions are those of its master, if it has one, and its retention is the one that
-- its end brought, whoever sent it.
abbrev pub given_by_stream : Feed → Given
given_by_stream feed =
    record (option_map_or (λ (m : ForeignMaster). given_by m.volume m.master) feed.master nothing_given) {
      retention = brought feed;
    }

-- what the master of an open pass gives
abbrev pub given_in : Volume → OpenCall → Given
given_in volume o = elim o.command [
  | MirrorWrite path ↦ given_by_stream o.stream
  | Mkdir path ↦ given_by volume o.master
  | Touch path ↦ given_by volume o.master
  | Symlink target path ↦ given_by volume o.master
  | Snapshot path ↦ given_by volume o.master
  | Ln old new ↦ given_by volume o.master
  | Mv old new ↦ given_by volume o.master
  | Write path offset bytes ↦ given_by volume o.master
  | Fill path offset count byte ↦ given_by volume o.master
  | Truncate path size ↦ given_by volume o.master
  | Rm path ↦ given_by volume o.master
  | Rmdir path ↦ given_by volume o.master
  | Ls path ↦ given_by volume o.master
  | Cat path offset count ↦ given_by volume o.master
  | Stat path ↦ given_by volume o.master
  | Readlink path ↦ given_by volume o.master
  | Sync ↦ given_by volume o.master
  | Synctid ↦ given_by volume o.master
  | Prune path ↦ given_by volume o.master
  | PruneAll path ↦ given_by volume o.master
  | Reblock fill ↦ given_by volume o.master
  | PfsMaster path shared ↦ given_by volume o.master
  | PfsSlave path shared ↦ given_by volume o.master
  | PfsStatus path ↦ given_by volume o.master
  | PfsUpgrade path ↦ given_by volume o.master
  | MirrorRead path begin ↦ given_by volume o.master
  | MirrorCopy master slave limit ↦ given_by volume o.master
  | Df ↦ given_by volume o.master
  | Progress ↦ given_by volume o.master
  | End opening ↦ given_by volume o.master
]

-- versions that begin by an id, and those that begin after one and by another
abbrev pub versions_to : ℕ → List (ℕ × FileTree) → List (ℕ × FileTree)
versions_to t versions = filter (λ v. nat_le v.0 t) versions

abbrev pub versions_between : ℕ → ℕ → List (ℕ × FileTree) → List (ℕ × FileTree)
versions_between first last versions = filter (λ v. nat_le first v.0 && nat_le v.0 last) versions

-- the slave's versions up to the begin id, and its master's from then to the end id
abbrev pub passed_versions : List (ℕ × FileTree) → Given → ℕ → ℕ → List (ℕ × FileTree)
passed_versions versions given begin end =
    versions_to begin versions
    ++ (begin + 1, given.tree (begin + 1)) ∷ versions_between (begin + 2) end given.versions

-- whether a source is a single one
abbrev pub is_single : Origin → Bool
is_single origin = if is_origin origin Mixed then false else true

-- a slave after a pass from `begin` to `end` that came to its end
abbrev pub after_pass : Given → ℕ → ℕ → PseudoFileSystem → PseudoFileSystem
after_pass given begin end s = record s {
  sync_end = end;
  retention = join s.retention given.retention begin end;
  versions = passed_versions s.versions given begin end;
  clear = s.clear && (is_single s.origin && given.clear);
}

-- the intervals with an open end
abbrev pub opened_end : List (ℕ × ℕ) → List (ℕ × ℕ)
opened_end [] = []
opened_end (i ∷ []) = (i.0, open_end) ∷ []
opened_end (i ∷ j ∷ is) = i ∷ opened_end (j ∷ is)

-- a slave that was made a master, as of its sync end
abbrev pub upgraded : PseudoFileSystem → PseudoFileSystem
upgraded s = record s {
  role = Master;
  retention = opened_end s.retention;
  sync_end = 0;
  versions = versions_to s.sync_end s.versions;
}

-- whether a stream's reply tells that nothing of it was merged
abbrev pub nothing_merged : Reply → Bool
nothing_merged (SharedDiffers slave stream) = true
nothing_merged (BeginDiffers slave stream) = true
nothing_merged (StreamBad place) = nat_lt place 32
nothing_merged (StreamShort taken) = nat_lt taken 32
nothing_merged Done = false
nothing_merged (Listing names) = false
nothing_merged (Content bytes) = false
nothing_merged (Status kind obj size links) = false
nothing_merged (Target text) = false
nothing_merged (Synced boundary) = false
nothing_merged (MadePfs number) = false
nothing_merged (PfsIs master number shared intervals sync_end) = false
nothing_merged (Space pool free) = false
nothing_merged Finished = false
nothing_merged (Passed begin end) = false
nothing_merged (Cut items) = false
nothing_merged Exists = false
nothing_merged NotFound = false
nothing_merged NotDir = false
nothing_merged IsDir = false
nothing_merged NotEmpty = false
nothing_merged (BadPath place) = false
nothing_merged ReadOnly = false
nothing_merged NotRetained = false
nothing_merged (Future last) = false
nothing_merged TooBig = false
nothing_merged CrossPfs = false
nothing_merged IntoItself = false
nothing_merged HashFull = false
nothing_merged PfsFull = false
nothing_merged NoSnapshots = false
nothing_merged (TooManyIntervals count) = false
nothing_merged NotSlave = false
nothing_merged NotMaster = false
nothing_merged IdsSpent = false
nothing_merged (NoSpace free needed) = false
nothing_merged (Media before after) = false
nothing_merged (Damaged at kind) = false
nothing_merged NoMemory = false
nothing_merged (StreamFault before after) = false
nothing_merged (EndPruned end first) = false
nothing_merged (Busy opening) = false
nothing_merged NotLink = false
nothing_merged NotFile = false

-- what the end of a mirror call does to its slave
abbrev pub end_of_pass : Volume → OpenCall → Reply → Volume
end_of_pass volume o reply =
    option_map_or (λ (ids : Id × Id). of_pfs volume o.pfs (after_pass (given_in volume o) ids.0.0 ids.1.0))
    (passed_ids reply) volume

-- the same of `mirror-write`, which leaves the source as it was where nothing was merged
abbrev pub end_of_write : Volume → OpenCall → Reply → Volume
end_of_write volume o reply =
    if nothing_merged reply then of_pfs volume o.pfs (with_origin o.origin) else end_of_pass volume o reply

-- what the end of `pfs-upgrade` does
abbrev pub end_of_upgrade : Volume → OpenCall → Reply → Volume
end_of_upgrade volume o Finished = of_pfs volume o.pfs upgraded
end_of_upgrade volume o Done = volume
end_of_upgrade volume o (Listing names) = volume
end_of_upgrade volume o (Content bytes) = volume
end_of_upgrade volume o (Status kind obj size links) = volume
end_of_upgrade volume o (Target text) = volume
end_of_upgrade volume o (Synced boundary) = volume
end_of_upgrade volume o (MadePfs number) = volume
end_of_upgrade volume o (PfsIs master number shared intervals sync_end) = volume
end_of_upgrade volume o (Space pool free) = volume
end_of_upgrade volume o (Passed begin end) = volume
end_of_upgrade volume o (Cut items) = volume
end_of_upgrade volume o Exists = volume
end_of_upgrade volume o NotFound = volume
end_of_upgrade volume o NotDir = volume
end_of_upgrade volume o IsDir = volume
end_of_upgrade volume o NotEmpty = volume
end_of_upgrade volume o (BadPath place) = volume
end_of_upgrade volume o ReadOnly = volume
end_of_upgrade volume o NotRetained = volume
end_of_upgrade volume o (Future last) = volume
end_of_upgrade volume o TooBig = volume
end_of_upgrade volume o CrossPfs = volume
end_of_upgrade volume o IntoItself = volume
end_of_upgrade volume o HashFull = volume
end_of_upgrade volume o PfsFull = volume
end_of_upgrade volume o NoSnapshots = volume
end_of_upgrade volume o (TooManyIntervals count) = volume
end_of_upgrade volume o NotSlave = volume
end_of_upgrade volume o NotMaster = volume
end_of_upgrade volume o IdsSpent = volume
end_of_upgrade volume o (NoSpace free needed) = volume
end_of_upgrade volume o (Media before after) = volume
end_of_upgrade volume o (Damaged at kind) = volume
end_of_upgrade volume o NoMemory = volume
end_of_upgrade volume o (SharedDiffers slave stream) = volume
end_of_upgrade volume o (BeginDiffers slave stream) = volume
end_of_upgrade volume o (StreamBad place) = volume
end_of_upgrade volume o (StreamShort taken) = volume
end_of_upgrade volume o (StreamFault before after) = volume
end_of_upgrade volume o (EndPruned end first) = volume
end_of_upgrade volume o (Busy opening) = volume
end_of_upgrade volume o NotLink = volume
end_of_upgrade volume o NotFile = volume

-- what the end of a housekeeping call does, by its command
abbrev pub end_effect_of : Volume → Reply → OpenCall → Command → Volume
end_effect_of volume reply o (MirrorCopy master slave limit) = end_of_pass volume o reply
end_effect_of volume reply o (MirrorWrite path) = end_of_write volume o reply
end_effect_of volume reply o (PfsUpgrade path) = end_of_upgrade volume o reply
end_effect_of volume reply o (Mkdir path) = volume
end_effect_of volume reply o (Touch path) = volume
end_effect_of volume reply o (Symlink target path) = volume
end_effect_of volume reply o (Snapshot path) = volume
end_effect_of volume reply o (Ln old new) = volume
end_effect_of volume reply o (Mv old new) = volume
end_effect_of volume reply o (Write path offset bytes) = volume
end_effect_of volume reply o (Fill path offset count byte) = volume
end_effect_of volume reply o (Truncate path size) = volume
end_effect_of volume reply o (Rm path) = volume
end_effect_of volume reply o (Rmdir path) = volume
end_effect_of volume reply o (Ls path) = volume
end_effect_of volume reply o (Cat path offset count) = volume
end_effect_of volume reply o (Stat path) = volume
end_effect_of volume reply o (Readlink path) = volume
end_effect_of volume reply o Sync = volume
end_effect_of volume reply o Synctid = volume
end_effect_of volume reply o (Prune path) = volume
end_effect_of volume reply o (PruneAll path) = volume
end_effect_of volume reply o (Reblock fill) = volume
end_effect_of volume reply o (PfsMaster path shared) = volume
end_effect_of volume reply o (PfsSlave path shared) = volume
end_effect_of volume reply o (PfsStatus path) = volume
end_effect_of volume reply o (MirrorRead path begin) = volume
end_effect_of volume reply o Df = volume
end_effect_of volume reply o Progress = volume
end_effect_of volume reply o (End opening) = volume

abbrev pub end_effect : Volume → Reply → OpenCall → Volume
end_effect volume reply o = end_effect_of volume reply o o.command

-- the call that was opened with an id
abbrev pub opened_with : ℕ → List OpenCall → Option OpenCall
opened_with opening os = find (λ o. o.opening == opening) os

-- the state after an ending: its call is open no more
abbrev pub ended : State → ℕ → Reply → State
ended state opening reply = record state {
  volume = option_map_or (end_effect state.volume reply) (opened_with opening state.opened) state.volume;
  opened = filter (λ o. if o.opening == opening then false else true) state.opened;
}

-- the PFS to which the first path of a call leads, and that of the second one
abbrev pub first_pfs : Call → ℕ
first_pfs call = (first_site call).at.pfs

abbrev pub second_pfs : Call → ℕ
second_pfs call = (second_site call).at.pfs

-- the opening of a call that changes the one PFS it works on
abbrev pub opened_with_change : State → Call → (PseudoFileSystem → PseudoFileSystem) → State
opened_with_change state call change =
    on_volume (with_opened state call (first_pfs call) (first_pfs call) no_feed) (of_pfs state.volume (first_pfs call) change)

-- the opening of `mirror-write`, which takes the next stream
abbrev pub opened_with_stream : State → Call → Feed → State
opened_with_stream state call feed =
    record (feeding state call (first_pfs call) (first_pfs call) (stream_origin feed) feed) {
      streams = later_streams state.streams;
    }

-- what an accepted call or opening does, by its command
abbrev pub accepted_effect_of : State → Call → Command → State
accepted_effect_of state call (Mkdir path) = on_volume state (change call)
accepted_effect_of state call (Touch path) = on_volume state (change call)
accepted_effect_of state call (Symlink target path) = on_volume state (change call)
accepted_effect_of state call (Snapshot path) = on_volume state (change call)
accepted_effect_of state call (Ln old new) = on_volume state (change call)
accepted_effect_of state call (Mv old new) = on_volume state (change call)
accepted_effect_of state call (Write path offset bytes) = on_volume state (change call)
accepted_effect_of state call (Fill path offset count byte) = on_volume state (change call)
accepted_effect_of state call (Truncate path size) = on_volume state (change call)
accepted_effect_of state call (Rm path) = on_volume state (change call)
accepted_effect_of state call (Rmdir path) = on_volume state (change call)
accepted_effect_of state call (PfsMaster path shared) = on_volume state (change call)
accepted_effect_of state call (PfsSlave path shared) = on_volume state (change call)
accepted_effect_of state call (Prune path) =
    opened_with_change state call (λ s. retaining (pruned s.retention (kept_ids call)) s)
accepted_effect_of state call (PruneAll path) = opened_with_change state call (present_only (own_id call))
accepted_effect_of state call (Reblock fill) = with_opened state call 0 0 no_feed
accepted_effect_of state call (PfsUpgrade path) = with_opened state call (first_pfs call) (first_pfs call) no_feed
accepted_effect_of state call (MirrorRead path begin) = with_opened state call (first_pfs call) (first_pfs call) no_feed
accepted_effect_of state call (MirrorWrite path) = opened_with_stream state call (next_stream state.streams)
accepted_effect_of state call (MirrorCopy master slave limit) =
    feeding state call (second_pfs call) (first_pfs call) (Local (first_pfs call)) no_feed
accepted_effect_of state call (Ls path) = state
accepted_effect_of state call (Cat path offset count) = state
accepted_effect_of state call (Stat path) = state
accepted_effect_of state call (Readlink path) = state
accepted_effect_of state call Sync = state
accepted_effect_of state call Synctid = state
accepted_effect_of state call (PfsStatus path) = state
accepted_effect_of state call Df = state
accepted_effect_of state call Progress = state
accepted_effect_of state call (End opening) = state

abbrev pub accepted_effect : State → Call → State
accepted_effect state call = accepted_effect_of state call call.command

-- what an event does beside drawing its id: a refused one that is no ending does nothing
abbrev pub effect : State → Event → State
effect state event =
    option_map_or (λ (opening : Id). ended state opening.0 event.entry.reply) (named_opening event.entry.call)
    (if is_refusal event.entry.reply then state else accepted_effect state (call_of no_hash state event))

-- the end id that an ending tells
abbrev pub end_id : Reply → ℕ
end_id reply = option_map_or (λ (ids : Id × Id). ids.1.0) (passed_ids reply) 0

-- the last id after an entry: its own, or the end id of a pass where that is greater
abbrev pub last_after : Entry → ℕ
last_after e = max e.id.0 (end_id e.reply)

-- the state after one more event
abbrev pub after_event : State → Event → State
after_event state event =
    let next : State = effect state event in
    on_volume next (record next.volume { last = last_after event.entry })

-- the state after these events, in order
abbrev pub after_events : State → List Event → State
after_events state [] = state
after_events state (event ∷ events) = after_events (after_event state event) events

-- the state of a volume after these events
abbrev pub after : Volume → Foreigners → List Event → State
after volume foreigners events = after_events (opening_state volume foreigners) events

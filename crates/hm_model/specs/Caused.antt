-- The cause of every reply, whatever a disk holds: what may be said of a history without its trees.
use Rattle.std.specs.Prelude.{◌≡◌, ◌≢◌, ◌⊎◌, ℕ, ◌+◌, ◌-◌, ◌<◌, ◌≤◌, List, [], ◌∷◌, ◌++◌, Bool, true, false, Option, Some, None, ◌==◌, if◌then◌else◌, filter, find, length, max, IsTrue}
use Rattle.std.specs.Bool.{nat_lt}
use Rattle.std.specs.List.{Contains, list_any}
use Rattle.std.specs.Option.{option_map_or}
use Rattle.hm_types.specs.Faults.{IsMedia}
use Rattle.hm_types.specs.declared.id.Id.{Id}
use Rattle.hm_types.specs.declared.limits.TheConstants.{GREATEST_ID, MOST_FILE_BYTES}
use Rattle.hm_model.specs.declared.command.Command.{Command}
use Rattle.hm_model.specs.declared.command.Command.TheVariants.{Mkdir, Touch, Symlink, Snapshot, Ln, Mv, Write, Fill, Truncate, Rm, Rmdir, Ls, Cat, Stat, Readlink, Sync, Synctid, Prune, PruneAll, Reblock, PfsMaster, PfsSlave, PfsStatus, PfsUpgrade, MirrorRead, MirrorWrite, MirrorCopy, Df, Progress, End}
use Rattle.hm_model.specs.declared.entry.Entry.{Entry}
use Rattle.hm_model.specs.declared.reply.Reply.{Reply}
use Rattle.hm_model.specs.declared.reply.Reply.TheVariants.{Done, Listing, Content, Status, Target, Synced, MadePfs, PfsIs, Space, Finished, Passed, Cut, Exists, NotFound, NotDir, IsDir, NotEmpty, BadPath, ReadOnly, NotRetained, Future, TooBig, CrossPfs, IntoItself, HashFull, PfsFull, NoSnapshots, TooManyIntervals, NotSlave, NotMaster, IdsSpent, NoSpace, Media, Damaged, NoMemory, SharedDiffers, BeginDiffers, StreamBad, StreamShort, StreamFault, EndPruned, Busy, NotLink, NotFile}
use Rattle.hm_model.specs.Command.{limit_in, named_opening}
use Rattle.hm_model.specs.Reply.{is_refusal, told_boundary}
use Rattle.hm_model.specs.Sites.{Parsed, ReadsWords}
use Rattle.hm_model.specs.Due.{Check, early_checks, first_refusal, has_id, is_pass}
use Rattle.hm_model.specs.After.{Event, last_after}

-- the number of a reply: refusals have 1 to 32, and those that accept a call have 101 to 112
abbrev pub number_of : Reply → ℕ
number_of Done = 101
number_of (Listing names) = 102
number_of (Content bytes) = 103
number_of (Status kind obj size links) = 104
number_of (Target text) = 105
number_of (Synced boundary) = 106
number_of (MadePfs number) = 107
number_of (PfsIs master number shared intervals sync_end) = 108
number_of (Space pool free) = 109
number_of Finished = 110
number_of (Passed begin end) = 111
number_of (Cut items) = 112
number_of Exists = 1
number_of NotFound = 2
number_of NotDir = 3
number_of IsDir = 4
number_of NotEmpty = 5
number_of (BadPath place) = 6
number_of ReadOnly = 7
number_of NotRetained = 8
number_of (Future last) = 9
number_of TooBig = 10
number_of CrossPfs = 11
number_of IntoItself = 12
number_of HashFull = 13
number_of PfsFull = 14
number_of NoSnapshots = 15
number_of (TooManyIntervals count) = 16
number_of NotSlave = 17
number_of NotMaster = 18
number_of IdsSpent = 19
number_of (NoSpace free needed) = 20
number_of (Media before after) = 21
number_of (Damaged at kind) = 22
number_of NoMemory = 23
number_of (SharedDiffers slave stream) = 24
number_of (BeginDiffers slave stream) = 25
number_of (StreamBad place) = 26
number_of (StreamShort taken) = 27
number_of (StreamFault before after) = 28
number_of (EndPruned end first) = 29
number_of (Busy opening) = 30
number_of NotLink = 31
number_of NotFile = 32

-- the refusals of a device, of damage and of memory, which any call may meet
abbrev pub at_any_point : List ℕ
at_any_point = 21 ∷ 22 ∷ 23 ∷ []

-- those of any walk; of one where a path has an id, which only a call that reads follows; and of one that is
-- to change what it comes to
abbrev pub on_a_walk : List ℕ
on_a_walk = 2 ∷ 3 ∷ at_any_point

abbrev pub on_a_read : List Parsed → List ℕ
on_a_read paths = if list_any has_id paths then 8 ∷ on_a_walk else on_a_walk

abbrev pub on_a_change : List ℕ
on_a_change = 7 ∷ on_a_walk

-- those of a call that makes a name, and its want of space
abbrev pub on_a_name : List ℕ
on_a_name = 1 ∷ 13 ∷ 20 ∷ on_a_change

-- the replies of a call that gives a file this end: it is too big, or the call may be accepted
abbrev pub on_a_file : ℕ → List ℕ
on_a_file end = 4 ∷ 32 ∷ (if nat_lt MOST_FILE_BYTES end then 10 ∷ on_a_change else 101 ∷ 20 ∷ on_a_change)

-- The numbers of the replies that a call can give, where none of the early checks fails. Those that the early
-- checks alone give, 6, 9 and 30, are nowhere among them.
abbrev pub possible : Command → List Parsed → List ℕ
possible (Mkdir path) paths = 101 ∷ on_a_name
possible (Touch path) paths = 101 ∷ on_a_name
possible (Symlink target path) paths = 101 ∷ on_a_name
possible (Snapshot path) paths = 101 ∷ on_a_name
possible (Ln old new) paths = 101 ∷ 4 ∷ 32 ∷ 11 ∷ 10 ∷ on_a_name
possible (Mv old new) paths = 101 ∷ 11 ∷ 12 ∷ on_a_name
possible (Write path offset bytes) paths = on_a_file (offset + length bytes)
possible (Fill path offset count byte) paths = on_a_file (offset + count)
possible (Truncate path size) paths = on_a_file size
possible (Rm path) paths = 101 ∷ 4 ∷ 20 ∷ on_a_change
possible (Rmdir path) paths = 101 ∷ 5 ∷ on_a_change
possible (Ls path) paths = 102 ∷ on_a_read paths
possible (Cat path offset count) paths = 103 ∷ 4 ∷ 32 ∷ on_a_read paths
possible (Stat path) paths = 104 ∷ on_a_read paths
possible (Readlink path) paths = 105 ∷ 31 ∷ on_a_read paths
possible Sync paths = 106 ∷ at_any_point
possible Synctid paths = 106 ∷ at_any_point
possible (Prune path) paths = 101 ∷ 15 ∷ 16 ∷ 20 ∷ on_a_walk
possible (PruneAll path) paths = 101 ∷ 20 ∷ on_a_walk
possible (Reblock fill) paths = 101 ∷ at_any_point
possible (PfsMaster path shared) paths = 107 ∷ 14 ∷ on_a_name
possible (PfsSlave path shared) paths = 107 ∷ 14 ∷ on_a_name
possible (PfsStatus path) paths = 108 ∷ on_a_walk
possible (PfsUpgrade path) paths = 101 ∷ 17 ∷ on_a_walk
possible (MirrorRead path begin) paths = 101 ∷ 18 ∷ on_a_walk
possible (MirrorWrite path) paths = 101 ∷ 17 ∷ on_a_walk
possible (MirrorCopy master slave limit) paths = 101 ∷ 18 ∷ 17 ∷ 24 ∷ on_a_walk
possible Df paths = 109 ∷ at_any_point
possible Progress paths = []
possible (End opening) paths = []

-- that a copy was cut, where it has a limit
abbrev pub where_limited : Option ℕ → List ℕ
where_limited None = []
where_limited (Some limit) = 112 ∷ []

-- the numbers of the replies that the ending of a housekeeping call can give
abbrev pub possible_at_end : Command → List ℕ
possible_at_end (Prune path) = 110 ∷ at_any_point
possible_at_end (PruneAll path) = 110 ∷ at_any_point
possible_at_end (Reblock fill) = 110 ∷ 20 ∷ at_any_point
possible_at_end (PfsUpgrade path) = 110 ∷ 20 ∷ at_any_point
possible_at_end (MirrorRead path begin) = 111 ∷ 28 ∷ 29 ∷ at_any_point
possible_at_end (MirrorCopy master slave limit) = where_limited limit ++ 111 ∷ 16 ∷ 20 ∷ 29 ∷ at_any_point
possible_at_end (MirrorWrite path) = 111 ∷ 16 ∷ 20 ∷ 24 ∷ 25 ∷ 26 ∷ 27 ∷ 28 ∷ at_any_point
possible_at_end (Mkdir path) = []
possible_at_end (Touch path) = []
possible_at_end (Symlink target path) = []
possible_at_end (Snapshot path) = []
possible_at_end (Ln old new) = []
possible_at_end (Mv old new) = []
possible_at_end (Write path offset bytes) = []
possible_at_end (Fill path offset count byte) = []
possible_at_end (Truncate path size) = []
possible_at_end (Rm path) = []
possible_at_end (Rmdir path) = []
possible_at_end (Ls path) = []
possible_at_end (Cat path offset count) = []
possible_at_end (Stat path) = []
possible_at_end (Readlink path) = []
possible_at_end Sync = []
possible_at_end Synctid = []
possible_at_end (PfsMaster path shared) = []
possible_at_end (PfsSlave path shared) = []
possible_at_end (PfsStatus path) = []
possible_at_end Df = []
possible_at_end Progress = []
possible_at_end (End opening) = []

-- whether a command is one of housekeeping: where it is accepted, an ending follows
abbrev pub is_housekeeping : Command → Bool
is_housekeeping (Prune path) = true
is_housekeeping (PruneAll path) = true
is_housekeeping (Reblock fill) = true
is_housekeeping (PfsUpgrade path) = true
is_housekeeping (MirrorRead path begin) = true
is_housekeeping (MirrorWrite path) = true
is_housekeeping (MirrorCopy master slave limit) = true
is_housekeeping (Mkdir path) = false
is_housekeeping (Touch path) = false
is_housekeeping (Symlink target path) = false
is_housekeeping (Snapshot path) = false
is_housekeeping (Ln old new) = false
is_housekeeping (Mv old new) = false
is_housekeeping (Write path offset bytes) = false
is_housekeeping (Fill path offset count byte) = false
is_housekeeping (Truncate path size) = false
is_housekeeping (Rm path) = false
is_housekeeping (Rmdir path) = false
is_housekeeping (Ls path) = false
is_housekeeping (Cat path offset count) = false
is_housekeeping (Stat path) = false
is_housekeeping (Readlink path) = false
is_housekeeping Sync = false
is_housekeeping Synctid = false
is_housekeeping (PfsMaster path shared) = false
is_housekeeping (PfsSlave path shared) = false
is_housekeeping (PfsStatus path) = false
is_housekeeping Df = false
is_housekeeping Progress = false
is_housekeeping (End opening) = false

-- the counts of faults of the disk and of both streams
pub record Counts : Type 0 where
  pub disk : ℕ
  pub input : ℕ
  pub output : ℕ

-- What is known without trees: the last id, the housekeeping calls that are open, each with its opening id,
-- the counts of faults as far as replies told them, and the greatest boundary that was told.
pub record Known : Type 0 where
  pub last : ℕ
  pub opened : List (ℕ × Command)
  pub counts : Counts
  pub boundary : ℕ

-- whether an entry opens a housekeeping call
abbrev pub opens : Entry → Bool
opens e = if is_housekeeping e.call then (if is_refusal e.reply then false else true) else false

-- the open calls without the one that an ending names
abbrev pub still_open : Entry → List (ℕ × Command) → List (ℕ × Command)
still_open e opened =
    option_map_or (λ (opening : Id). filter (λ (o : ℕ × Command). if o.0 == opening.0 then false else true) opened)
    (named_opening e.call) opened

-- the command of the open call that an ending names
abbrev pub ended_command : List (ℕ × Command) → Command → Option Command
ended_command opened command =
    option_map_or (λ (opening : Id). option_map_or (λ (o : ℕ × Command). Some o.1)
    (find (λ (o : ℕ × Command). o.0 == opening.0) opened) None) (named_opening command) None

-- whether an entry is the accepted opening of a call that takes from the stream that comes in
abbrev pub takes_stream : Entry → Bool
takes_stream e = elim e.call [
  | MirrorWrite path ↦ if is_refusal e.reply then false else true
  | Mkdir path ↦ false
  | Touch path ↦ false
  | Symlink target path ↦ false
  | Snapshot path ↦ false
  | Ln old new ↦ false
  | Mv old new ↦ false
  | Write path offset bytes ↦ false
  | Fill path offset count byte ↦ false
  | Truncate path size ↦ false
  | Rm path ↦ false
  | Rmdir path ↦ false
  | Ls path ↦ false
  | Cat path offset count ↦ false
  | Stat path ↦ false
  | Readlink path ↦ false
  | Sync ↦ false
  | Synctid ↦ false
  | Prune path ↦ false
  | PruneAll path ↦ false
  | Reblock fill ↦ false
  | PfsMaster path shared ↦ false
  | PfsSlave path shared ↦ false
  | PfsStatus path ↦ false
  | PfsUpgrade path ↦ false
  | MirrorRead path begin ↦ false
  | MirrorCopy master slave limit ↦ false
  | Df ↦ false
  | Progress ↦ false
  | End opening ↦ false
]

-- whether a command writes a stream; of the others one reads it
abbrev pub writes_stream : Command → Bool
writes_stream (MirrorRead path begin) = true
writes_stream (Mkdir path) = false
writes_stream (Touch path) = false
writes_stream (Symlink target path) = false
writes_stream (Snapshot path) = false
writes_stream (Ln old new) = false
writes_stream (Mv old new) = false
writes_stream (Write path offset bytes) = false
writes_stream (Fill path offset count byte) = false
writes_stream (Truncate path size) = false
writes_stream (Rm path) = false
writes_stream (Rmdir path) = false
writes_stream (Ls path) = false
writes_stream (Cat path offset count) = false
writes_stream (Stat path) = false
writes_stream (Readlink path) = false
writes_stream Sync = false
writes_stream Synctid = false
writes_stream (Prune path) = false
writes_stream (PruneAll path) = false
writes_stream (Reblock fill) = false
writes_stream (PfsMaster path shared) = false
writes_stream (PfsSlave path shared) = false
writes_stream (PfsStatus path) = false
writes_stream (PfsUpgrade path) = false
writes_stream (MirrorWrite path) = false
writes_stream (MirrorCopy master slave limit) = false
writes_stream Df = false
writes_stream Progress = false
writes_stream (End opening) = false

-- whether the stream that an ending tells of is the output
abbrev pub is_output : List (ℕ × Command) → Command → Bool
is_output opened command = option_map_or writes_stream (ended_command opened command) false

-- the counts with a greater one of the output, or of the input
abbrev pub stream_told : Bool → ℕ → Counts → Counts
stream_told true count counts = record counts { output = max counts.output count }
stream_told false count counts = record counts { input = max counts.input count }

-- the count of the output, or of the input
abbrev pub stream_count : Bool → Counts → ℕ
stream_count true counts = counts.output
stream_count false counts = counts.input

-- the counts as far as they are told after one more entry
abbrev pub counts_after : Known → Entry → Counts
counts_after known e = elim e.reply [
  | Media before after ↦ record known.counts { disk = max known.counts.disk after }
  | StreamFault before after ↦ stream_told (is_output known.opened e.call) after known.counts
  | Done ↦ known.counts
  | Listing names ↦ known.counts
  | Content bytes ↦ known.counts
  | Status kind obj size links ↦ known.counts
  | Target text ↦ known.counts
  | Synced boundary ↦ known.counts
  | MadePfs number ↦ known.counts
  | PfsIs master number shared intervals sync_end ↦ known.counts
  | Space pool free ↦ known.counts
  | Finished ↦ known.counts
  | Passed begin end ↦ known.counts
  | Cut items ↦ known.counts
  | Exists ↦ known.counts
  | NotFound ↦ known.counts
  | NotDir ↦ known.counts
  | IsDir ↦ known.counts
  | NotEmpty ↦ known.counts
  | BadPath place ↦ known.counts
  | ReadOnly ↦ known.counts
  | NotRetained ↦ known.counts
  | Future last ↦ known.counts
  | TooBig ↦ known.counts
  | CrossPfs ↦ known.counts
  | IntoItself ↦ known.counts
  | HashFull ↦ known.counts
  | PfsFull ↦ known.counts
  | NoSnapshots ↦ known.counts
  | TooManyIntervals count ↦ known.counts
  | NotSlave ↦ known.counts
  | NotMaster ↦ known.counts
  | IdsSpent ↦ known.counts
  | NoSpace free needed ↦ known.counts
  | Damaged at kind ↦ known.counts
  | NoMemory ↦ known.counts
  | SharedDiffers slave stream ↦ known.counts
  | BeginDiffers slave stream ↦ known.counts
  | StreamBad place ↦ known.counts
  | StreamShort taken ↦ known.counts
  | EndPruned end first ↦ known.counts
  | Busy opening ↦ known.counts
  | NotLink ↦ known.counts
  | NotFile ↦ known.counts
]

-- the boundary that a reply tells
abbrev pub boundary_in : Reply → ℕ
boundary_in reply = option_map_or (λ (boundary : Id). boundary.0) (told_boundary reply) 0

-- what is known after one more entry
abbrev pub known_after_entry : Known → Entry → Known
known_after_entry known e = record {
  last = last_after e;
  opened = if opens e then (e.id.0, e.call) ∷ known.opened else still_open e known.opened;
  counts = counts_after known e;
  boundary = max known.boundary (boundary_in e.reply);
}

abbrev pub known_after : Known → List Event → Known
known_after known [] = known
known_after known (event ∷ events) = known_after (known_after_entry known event.entry) events

-- the opening id of the mirror or upgrade call that is open
abbrev pub known_busy : List (ℕ × Command) → Option ℕ
known_busy opened = option_map_or (λ (o : ℕ × Command). Some o.0) (find (λ (o : ℕ × Command). is_pass o.1) opened) None

-- the first of the early checks that fails
abbrev pub early_refusal : Known → Event → Check
early_refusal known event =
    first_refusal (early_checks known.last (known_busy known.opened) event.entry.call event.paths)

-- a reply tells of a device, of damage or of memory
abbrev pub IsFree : Reply → Type 0
IsFree reply = Contains at_any_point (number_of reply)

-- where an early check fails the reply is its refusal, or a free one; else it is one of these
abbrev pub IsPossible : Check → List ℕ → Reply → Type 0
IsPossible (Some refusal) numbers reply = (reply ≡ refusal) ⊎ IsFree reply
IsPossible None numbers reply = Contains numbers (number_of reply)

-- a copy was cut after as many items as its limit says
abbrev pub IsLimit : Option ℕ → ℕ → Type 0
IsLimit (Some limit) items = items ≡ limit
IsLimit None items = ⊥

abbrev pub IsCutAt : Option Command → ℕ → Type 0
IsCutAt (Some command) items = IsLimit (limit_in command) items
IsCutAt None items = ⊥

-- a reply's own numbers have their cause: a boundary lies between those before it and the reply's own id, a
-- count of faults rose from what it was known to be, and a cut is at its limit
abbrev pub HasNumbers : Counts → Known → Entry → Type 0
HasNumbers now known e = elim e.reply [
  | Synced boundary ↦ (known.boundary ≤ boundary.0) × (boundary.0 < e.id.0)
  | Media before after ↦ IsMedia known.counts.disk now.disk before after
  | StreamFault before after ↦
      let output : Bool = is_output known.opened e.call in
      IsMedia (stream_count output known.counts) (stream_count output now) before after
  | Cut items ↦ IsCutAt (ended_command known.opened e.call) items
  | Done ↦ Unit {0}
  | Listing names ↦ Unit {0}
  | Content bytes ↦ Unit {0}
  | Status kind obj size links ↦ Unit {0}
  | Target text ↦ Unit {0}
  | MadePfs number ↦ Unit {0}
  | PfsIs master number shared intervals sync_end ↦ Unit {0}
  | Space pool free ↦ Unit {0}
  | Finished ↦ Unit {0}
  | Passed begin end ↦ Unit {0}
  | Exists ↦ Unit {0}
  | NotFound ↦ Unit {0}
  | NotDir ↦ Unit {0}
  | IsDir ↦ Unit {0}
  | NotEmpty ↦ Unit {0}
  | BadPath place ↦ Unit {0}
  | ReadOnly ↦ Unit {0}
  | NotRetained ↦ Unit {0}
  | Future last ↦ Unit {0}
  | TooBig ↦ Unit {0}
  | CrossPfs ↦ Unit {0}
  | IntoItself ↦ Unit {0}
  | HashFull ↦ Unit {0}
  | PfsFull ↦ Unit {0}
  | NoSnapshots ↦ Unit {0}
  | TooManyIntervals count ↦ Unit {0}
  | NotSlave ↦ Unit {0}
  | NotMaster ↦ Unit {0}
  | IdsSpent ↦ Unit {0}
  | NoSpace free needed ↦ Unit {0}
  | Damaged at kind ↦ Unit {0}
  | NoMemory ↦ Unit {0}
  | SharedDiffers slave stream ↦ Unit {0}
  | BeginDiffers slave stream ↦ Unit {0}
  | StreamBad place ↦ Unit {0}
  | StreamShort taken ↦ Unit {0}
  | EndPruned end first ↦ Unit {0}
  | Busy opening ↦ Unit {0}
  | NotLink ↦ Unit {0}
  | NotFile ↦ Unit {0}
]

-- whether an entry is the ending of a housekeeping call
abbrev pub is_ending : Command → Bool
is_ending command = option_map_or (λ (opening : Id). true) (named_opening command) false

-- the numbers of the replies that an event may have where no early check fails: those of its call, or of the
-- ending of the open call that it names
abbrev pub possible_for : Known → Event → List ℕ
possible_for known event =
    if is_ending event.entry.call
    then option_map_or possible_at_end (ended_command known.opened event.entry.call) []
    else possible event.entry.call event.paths

-- An event has its cause where this much is known: the next id; readings of its call's path words; a reply
-- that keeps the early checks of these and is one that the call can give; and numbers of its own that have
-- their cause.
pub record HasCause (now : Counts) (known : Known) (event : Event) : Type 0 where
  pub id : event.entry.id.0 ≡ known.last + 1
  pub drawn : event.entry.id.0 ≤ GREATEST_ID
  pub read : ReadsWords event.entry.call event.paths
  pub possible : IsPossible (early_refusal known event) (possible_for known event) event.entry.reply
  pub numbers : HasNumbers now known event.entry

-- the same after others
abbrev pub IsCaused : Counts → Known → List Event → Event → Type 0
IsCaused now first before event = HasCause now (known_after first before) event

-- what is known as a run begins: its last id, and the counts of faults
abbrev pub known_at : ℕ → Counts → Known
known_at last start = record { last = last; opened = []; counts = start; boundary = 0 }

-- each event of a history has its cause, with this last id and these counts before
abbrev pub AreCaused : ℕ → Counts → Counts → List Event → Type 0
AreCaused last start now events =
    (before : List Event) (event : Event) (rest : List Event) →
    events ≡ before ++ event ∷ rest → IsCaused now (known_at last start) before event

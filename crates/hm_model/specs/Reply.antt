-- Replies: which are refusals, and how they are printed.
use Rattle.std.specs.Prelude.{ℕ, ◌-◌, ◌^◌, List, [], ◌∷◌, ◌++◌, Bool, true, false, ◌==◌, if◌then◌else◌, codes, decimal, length, Option, Some, None}
use Rattle.std.specs.Fmt.{digits, padded_integral, format_spec}
use Rattle.std.specs.List.{flat_map}
use Rattle.hex.specs.Hex.{encode_lower}
use Rattle.std.specs.Option.{option_map_or}
use Rattle.hm_types.specs.Id.{hex16, id_text}
use Rattle.hm_types.specs.declared.id.Id.{Id}
use Rattle.hm_model.specs.declared.command.Command.{Command}
use Rattle.hm_model.specs.declared.command.Command.TheVariants.{Sync, Mkdir, Touch, Symlink, Snapshot, Ln, Mv, Write, Fill, Truncate, Rm, Rmdir, Ls, Cat, Stat, Readlink, Synctid, Prune, PruneAll, Reblock, PfsMaster, PfsSlave, PfsStatus, PfsUpgrade, MirrorRead, MirrorWrite, MirrorCopy, Df, Progress, End}
use Rattle.hm_model.specs.declared.reply.Reply.{Reply}
use Rattle.hm_model.specs.declared.reply.Reply.TheVariants.{Done, Listing, Content, Status, Target, Synced, MadePfs, PfsIs, Space, Finished, Passed, Cut, Exists, NotFound, NotDir, IsDir, NotEmpty, BadPath, ReadOnly, NotRetained, Future, TooBig, CrossPfs, IntoItself, HashFull, PfsFull, NoSnapshots, TooManyIntervals, NotSlave, NotMaster, IdsSpent, NoSpace, Media, Damaged, NoMemory, SharedDiffers, BeginDiffers, StreamBad, StreamShort, StreamFault, EndPruned, Busy, NotLink, NotFile}

-- whether a reply refuses its call
abbrev pub is_refusal : Reply → Bool
is_refusal Done = false
is_refusal (Listing names) = false
is_refusal (Content bytes) = false
is_refusal (Status kind obj size links) = false
is_refusal (Target text) = false
is_refusal (Synced boundary) = false
is_refusal (MadePfs number) = false
is_refusal (PfsIs master number shared intervals sync_end) = false
is_refusal (Space pool free) = false
is_refusal Finished = false
is_refusal (Passed begin end) = false
is_refusal (Cut items) = false
is_refusal Exists = true
is_refusal NotFound = true
is_refusal NotDir = true
is_refusal IsDir = true
is_refusal NotEmpty = true
is_refusal (BadPath place) = true
is_refusal ReadOnly = true
is_refusal NotRetained = true
is_refusal (Future last) = true
is_refusal TooBig = true
is_refusal CrossPfs = true
is_refusal IntoItself = true
is_refusal HashFull = true
is_refusal PfsFull = true
is_refusal NoSnapshots = true
is_refusal (TooManyIntervals count) = true
is_refusal NotSlave = true
is_refusal NotMaster = true
is_refusal IdsSpent = true
is_refusal (NoSpace free needed) = true
is_refusal (Media before after) = true
is_refusal (Damaged at kind) = true
is_refusal NoMemory = true
is_refusal (SharedDiffers slave stream) = true
is_refusal (BeginDiffers slave stream) = true
is_refusal (StreamBad place) = true
is_refusal (StreamShort taken) = true
is_refusal (StreamFault before after) = true
is_refusal (EndPruned end first) = true
is_refusal (Busy opening) = true
is_refusal NotLink = true
is_refusal NotFile = true

-- the letter of a kind of object: 1 is a directory, 2 a file, 3 a softlink and 4 a PFS link
abbrev pub kind_letter : ℕ → List ℕ
kind_letter kind =
    if kind == 1 then codes "d"
    else if kind == 2 then codes "f"
    else if kind == 3 then codes "l"
    else codes "p"

-- the number of a PFS, in five digits
abbrev pub five_digits : ℕ → List ℕ
five_digits n = padded_integral (format_spec 32 0 4 5 (2 ^ 64 - 1)) false [] (digits 10 false n)

-- a blank and a text
abbrev pub spaced : List ℕ → List ℕ
spaced text = codes " " ++ text

-- an entry of a listing
abbrev pub listed : ℕ × List ℕ → List ℕ
listed entry = codes " " ++ (kind_letter entry.0 ++ (codes ":" ++ entry.1))

-- the bytes of a file, if there are any
abbrev pub hex_text : List ℕ → List ℕ
hex_text [] = []
hex_text (b ∷ bs) = spaced (encode_lower (b ∷ bs))

-- the record of a PFS: only a slave has a sync end
abbrev pub record_text : Bool → ℕ → ℕ → ℕ → List ℕ → List ℕ
record_text true number shared intervals sync_end =
    codes "ok master " ++ (five_digits number ++ (codes " " ++ (hex16 shared ++ (codes " " ++ decimal intervals))))
record_text false number shared intervals sync_end =
    codes "ok slave " ++ (five_digits number ++ (codes " " ++ (hex16 shared ++ (codes " " ++ (decimal intervals ++ (codes " " ++ sync_end))))))

-- two numbers after some words
abbrev pub with_two : List ℕ → List ℕ → List ℕ → List ℕ
with_two words first second = words ++ (first ++ (codes " " ++ second))

-- how a reply is printed
abbrev pub reply_text : Reply → List ℕ
reply_text Done = codes "ok"
reply_text (Listing names) = codes "ok " ++ (decimal (length names) ++ flat_map listed names)
reply_text (Content bytes) = codes "ok " ++ (decimal (length bytes) ++ hex_text bytes)
reply_text (Status kind obj size links) =
    codes "ok " ++ (kind_letter kind ++ (codes " 0x" ++ (hex16 obj.0 ++ (codes " " ++ (decimal size ++ (codes " " ++ decimal links))))))
reply_text (Target text) = codes "ok " ++ text
reply_text (Synced boundary) = codes "ok " ++ id_text boundary
reply_text (MadePfs number) = codes "ok " ++ five_digits number.0
reply_text (PfsIs master number shared intervals sync_end) =
    record_text master number.0 shared intervals (id_text sync_end)
reply_text (Space pool free) = with_two (codes "ok ") (decimal pool) (decimal free)
reply_text Finished = codes "done"
reply_text (Passed begin end) = with_two (codes "done ") (id_text begin) (id_text end)
reply_text (Cut items) = codes "cut " ++ decimal items
reply_text Exists = codes "exists"
reply_text NotFound = codes "not found"
reply_text NotDir = codes "not a directory"
reply_text IsDir = codes "is a directory"
reply_text NotEmpty = codes "not empty"
reply_text (BadPath place) = codes "bad path " ++ decimal place
reply_text ReadOnly = codes "read only"
reply_text NotRetained = codes "not retained"
reply_text (Future last) = codes "future " ++ id_text last
reply_text TooBig = codes "too big"
reply_text CrossPfs = codes "crosses a pfs"
reply_text IntoItself = codes "into itself"
reply_text HashFull = codes "hash full"
reply_text PfsFull = codes "pfs full"
reply_text NoSnapshots = codes "no snapshots"
reply_text (TooManyIntervals count) = codes "too many intervals " ++ decimal count
reply_text NotSlave = codes "not a slave"
reply_text NotMaster = codes "not a master"
reply_text IdsSpent = codes "ids spent"
reply_text (NoSpace free needed) = with_two (codes "no space ") (decimal free) (decimal needed)
reply_text (Media before after) = with_two (codes "media ") (decimal before) (decimal after)
reply_text (Damaged at kind) = with_two (codes "damaged 0x") (hex16 at) (decimal kind)
reply_text NoMemory = codes "no memory"
reply_text (SharedDiffers slave stream) = with_two (codes "shared differs ") (hex16 slave) (hex16 stream)
reply_text (BeginDiffers slave stream) = with_two (codes "begin differs ") (id_text slave) (id_text stream)
reply_text (StreamBad place) = codes "stream bad " ++ decimal place
reply_text (StreamShort taken) = codes "stream short " ++ decimal taken
reply_text (StreamFault before after) = with_two (codes "stream fault ") (decimal before) (decimal after)
reply_text (EndPruned end first) = with_two (codes "end pruned ") (id_text end) (id_text first)
reply_text (Busy opening) = codes "busy " ++ id_text opening
reply_text NotLink = codes "not a link"
reply_text NotFile = codes "not a file"

-- the boundary that a reply tells, if it tells one
abbrev pub told_boundary : Reply → Option Id
told_boundary (Synced boundary) = Some boundary
told_boundary Done = None
told_boundary (Listing names) = None
told_boundary (Content bytes) = None
told_boundary (Status kind obj size links) = None
told_boundary (Target text) = None
told_boundary (MadePfs number) = None
told_boundary (PfsIs master number shared intervals sync_end) = None
told_boundary (Space pool free) = None
told_boundary Finished = None
told_boundary (Passed begin end) = None
told_boundary (Cut items) = None
told_boundary Exists = None
told_boundary NotFound = None
told_boundary NotDir = None
told_boundary IsDir = None
told_boundary NotEmpty = None
told_boundary (BadPath place) = None
told_boundary ReadOnly = None
told_boundary NotRetained = None
told_boundary (Future last) = None
told_boundary TooBig = None
told_boundary CrossPfs = None
told_boundary IntoItself = None
told_boundary HashFull = None
told_boundary PfsFull = None
told_boundary NoSnapshots = None
told_boundary (TooManyIntervals count) = None
told_boundary NotSlave = None
told_boundary NotMaster = None
told_boundary IdsSpent = None
told_boundary (NoSpace free needed) = None
told_boundary (Media before after) = None
told_boundary (Damaged at kind) = None
told_boundary NoMemory = None
told_boundary (SharedDiffers slave stream) = None
told_boundary (BeginDiffers slave stream) = None
told_boundary (StreamBad place) = None
told_boundary (StreamShort taken) = None
told_boundary (StreamFault before after) = None
told_boundary (EndPruned end first) = None
told_boundary (Busy opening) = None
told_boundary NotLink = None
told_boundary NotFile = None

-- the begin and end ids of a pass that came to its end
abbrev pub passed_ids : Reply → Option (Id × Id)
passed_ids (Passed begin end) = Some (begin, end)
passed_ids Done = None
passed_ids (Listing names) = None
passed_ids (Content bytes) = None
passed_ids (Status kind obj size links) = None
passed_ids (Target text) = None
passed_ids (Synced boundary) = None
passed_ids (MadePfs number) = None
passed_ids (PfsIs master number shared intervals sync_end) = None
passed_ids (Space pool free) = None
passed_ids Finished = None
passed_ids (Cut items) = None
passed_ids Exists = None
passed_ids NotFound = None
passed_ids NotDir = None
passed_ids IsDir = None
passed_ids NotEmpty = None
passed_ids (BadPath place) = None
passed_ids ReadOnly = None
passed_ids NotRetained = None
passed_ids (Future last) = None
passed_ids TooBig = None
passed_ids CrossPfs = None
passed_ids IntoItself = None
passed_ids HashFull = None
passed_ids PfsFull = None
passed_ids NoSnapshots = None
passed_ids (TooManyIntervals count) = None
passed_ids NotSlave = None
passed_ids NotMaster = None
passed_ids IdsSpent = None
passed_ids (NoSpace free needed) = None
passed_ids (Media before after) = None
passed_ids (Damaged at kind) = None
passed_ids NoMemory = None
passed_ids (SharedDiffers slave stream) = None
passed_ids (BeginDiffers slave stream) = None
passed_ids (StreamBad place) = None
passed_ids (StreamShort taken) = None
passed_ids (StreamFault before after) = None
passed_ids (EndPruned end first) = None
passed_ids (Busy opening) = None
passed_ids NotLink = None
passed_ids NotFile = None

-- how the answer of a call is printed: `sync` does not tell its boundary
abbrev pub answer_text : Command → Reply → List ℕ
answer_text Sync reply = option_map_or (λ boundary. codes "ok") (told_boundary reply) (reply_text reply)
answer_text (Mkdir path) reply = reply_text reply
answer_text (Touch path) reply = reply_text reply
answer_text (Symlink target path) reply = reply_text reply
answer_text (Snapshot path) reply = reply_text reply
answer_text (Ln old new) reply = reply_text reply
answer_text (Mv old new) reply = reply_text reply
answer_text (Write path offset bytes) reply = reply_text reply
answer_text (Fill path offset count byte) reply = reply_text reply
answer_text (Truncate path size) reply = reply_text reply
answer_text (Rm path) reply = reply_text reply
answer_text (Rmdir path) reply = reply_text reply
answer_text (Ls path) reply = reply_text reply
answer_text (Cat path offset count) reply = reply_text reply
answer_text (Stat path) reply = reply_text reply
answer_text (Readlink path) reply = reply_text reply
answer_text Synctid reply = reply_text reply
answer_text (Prune path) reply = reply_text reply
answer_text (PruneAll path) reply = reply_text reply
answer_text (Reblock fill) reply = reply_text reply
answer_text (PfsMaster path shared) reply = reply_text reply
answer_text (PfsSlave path shared) reply = reply_text reply
answer_text (PfsStatus path) reply = reply_text reply
answer_text (PfsUpgrade path) reply = reply_text reply
answer_text (MirrorRead path begin) reply = reply_text reply
answer_text (MirrorWrite path) reply = reply_text reply
answer_text (MirrorCopy master slave limit) reply = reply_text reply
answer_text Df reply = reply_text reply
answer_text Progress reply = reply_text reply
answer_text (End opening) reply = reply_text reply

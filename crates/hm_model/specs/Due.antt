-- The reply that a call is due: the refusal of the first check that fails, or else the accepted one.
use Rattle.std.specs.Prelude.{◌≡◌, ℕ, ◌+◌, ◌-◌, ◌*◌, ◌/◌, ◌^◌, List, [], ◌∷◌, ◌++◌, Bool, true, false, Option, Some, None, ◌==◌, ◌&&◌, ◌||◌, if◌then◌else◌, filter, find, length, map, min}
use Rattle.std.specs.Bool.{nat_le, nat_lt}
use Rattle.std.specs.List.{list_any, count_by}
use Rattle.std.specs.Option.{option_map_or}
use Rattle.hm_types.specs.declared.id.Id.{Id}
use Rattle.hm_types.specs.declared.id.Obj.{Obj}
use Rattle.hm_types.specs.declared.limits.TheConstants.{GREATEST_ID, MOST_FILE_BYTES, MOST_INTERVALS, MOST_PFS}
use Rattle.hm_path.specs.declared.part.Part.{Part}
use Rattle.hm_model.specs.declared.command.Command.{Command}
use Rattle.hm_model.specs.declared.command.Command.TheVariants.{Mkdir, Touch, Symlink, Snapshot, Ln, Mv, Write, Fill, Truncate, Rm, Rmdir, Ls, Cat, Stat, Readlink, Prune, PruneAll, PfsMaster, PfsSlave, PfsStatus, PfsUpgrade, MirrorRead, MirrorWrite, MirrorCopy, Sync, Synctid, Reblock, Df, Progress, End}
use Rattle.hm_model.specs.declared.reply.Reply.{Reply}
use Rattle.hm_model.specs.declared.reply.Reply.TheVariants.{Done, MadePfs, Exists, NotFound, NotDir, IsDir, NotEmpty, BadPath, ReadOnly, Future, TooBig, CrossPfs, IntoItself, HashFull, PfsFull, NoSnapshots, TooManyIntervals, NotSlave, NotMaster, IdsSpent, SharedDiffers, Busy, NotLink, NotFile}
use Rattle.hm_types.specs.declared.object.Object.{Object}
use Rattle.hm_types.specs.declared.object.Triple.{Triple}
use Rattle.hm_types.specs.declared.object.Kind.{Kind}
use Rattle.hm_types.specs.declared.object.Kind.TheVariants.{Directory, File, Softlink, PfsLink}
use Rattle.hm_types.specs.Tree.{FileTree, entries_in, named_in}
use Rattle.hm_model.specs.Volume.{Volume, PseudoFileSystem}
use Rattle.hm_model.specs.Sites.{Use, MakesName, TakesName, Walks, Parsed, Parts, BadAt, ReadsWords, Site, Located, At, Nowhere, uses_of, last_name}
use Rattle.hm_model.specs.Cut.{pruned, snapshot_ids}
use Rattle.hm_model.specs.Call.{Call, all_located, call_shown, first_site, own_id, second_site, site_object, site_system, site_tree, standing}
use Rattle.hm_model.specs.Answer.{answer, is_master}

-- a check: the refusal that it gives where it fails
abbrev pub Check : Type 0
Check = Option Reply

-- a check that fails with this refusal where the test holds
abbrev pub refuse_if : Bool → Reply → Check
refuse_if test refusal = if test then Some refusal else None

-- the refusal of the first check that fails
abbrev pub first_refusal : List Check → Check
first_refusal [] = None
first_refusal (None ∷ checks) = first_refusal checks
first_refusal (Some refusal ∷ checks) = Some refusal

-- the kinds of commands, as far as checks tell them apart
pub data Class : Type 0 where
  TreeCall : Class
  PfsCall : Class
  OtherCall : Class

abbrev pub class_of : Command → Class
class_of (Mkdir path) = TreeCall
class_of (Touch path) = TreeCall
class_of (Symlink target path) = TreeCall
class_of (Snapshot path) = TreeCall
class_of (Ln old new) = TreeCall
class_of (Mv old new) = TreeCall
class_of (Write path offset bytes) = TreeCall
class_of (Fill path offset count byte) = TreeCall
class_of (Truncate path size) = TreeCall
class_of (Rm path) = TreeCall
class_of (Rmdir path) = TreeCall
class_of (PfsMaster path shared) = TreeCall
class_of (PfsSlave path shared) = TreeCall
class_of (Prune path) = PfsCall
class_of (PruneAll path) = PfsCall
class_of (PfsStatus path) = PfsCall
class_of (PfsUpgrade path) = PfsCall
class_of (MirrorRead path begin) = PfsCall
class_of (MirrorWrite path) = PfsCall
class_of (MirrorCopy master slave limit) = PfsCall
class_of (Ls path) = OtherCall
class_of (Cat path offset count) = OtherCall
class_of (Stat path) = OtherCall
class_of (Readlink path) = OtherCall
class_of Sync = OtherCall
class_of Synctid = OtherCall
class_of (Reblock fill) = OtherCall
class_of Df = OtherCall
class_of Progress = OtherCall
class_of (End opening) = OtherCall

-- whether a command changes a tree, and whether it speaks of a PFS
abbrev pub is_tree_call : Command → Bool
is_tree_call command = elim (class_of command) [ TreeCall ↦ true | PfsCall ↦ false | OtherCall ↦ false ]

abbrev pub is_pfs_call : Command → Bool
is_pfs_call command = elim (class_of command) [ TreeCall ↦ false | PfsCall ↦ true | OtherCall ↦ false ]

-- whether a command is one of the four of which one at a time may be open
abbrev pub is_pass : Command → Bool
is_pass (MirrorRead path begin) = true
is_pass (MirrorWrite path) = true
is_pass (MirrorCopy master slave limit) = true
is_pass (PfsUpgrade path) = true
is_pass (Mkdir path) = false
is_pass (Touch path) = false
is_pass (Symlink target path) = false
is_pass (Snapshot path) = false
is_pass (Ln old new) = false
is_pass (Mv old new) = false
is_pass (Write path offset bytes) = false
is_pass (Fill path offset count byte) = false
is_pass (Truncate path size) = false
is_pass (Rm path) = false
is_pass (Rmdir path) = false
is_pass (Ls path) = false
is_pass (Cat path offset count) = false
is_pass (Stat path) = false
is_pass (Readlink path) = false
is_pass Sync = false
is_pass Synctid = false
is_pass (Prune path) = false
is_pass (PruneAll path) = false
is_pass (Reblock fill) = false
is_pass (PfsMaster path shared) = false
is_pass (PfsSlave path shared) = false
is_pass (PfsStatus path) = false
is_pass Df = false
is_pass Progress = false
is_pass (End opening) = false

-- The checks in their order. The first: an id is left to draw.
abbrev pub ids_left : Call → Check
ids_left call = refuse_if (nat_le GREATEST_ID call.volume.last) IdsSpent

-- no other mirror or upgrade call is open
abbrev pub none_open : Option ℕ → Command → Check
none_open busy command =
    if is_pass command then option_map_or (λ opening. Some (Busy (record { 0 = opening }))) busy None else None

-- whether a path has a last name where its use needs one
abbrev pub has_its_name : Use → List Part → Bool
has_its_name (Walks mode) parts = true
has_its_name MakesName parts = option_map_or (λ name. true) (last_name parts) false
has_its_name TakesName parts = option_map_or (λ name. true) (last_name parts) false

-- a path word is a path, with a last name where one is needed
abbrev pub good_path : Use → Parsed → Check
good_path u (BadAt place) = Some (BadPath place)
good_path u (Parts parts) = if has_its_name u parts then None else Some (BadPath 0)

abbrev pub good_paths : List (Use × List ℕ) → List Parsed → List Check
good_paths [] paths = []
good_paths (u ∷ uses) [] = []
good_paths (u ∷ uses) (path ∷ paths) = good_path u.0 path ∷ good_paths uses paths

-- the parts of a path word
abbrev pub parts_in : Parsed → List Part
parts_in (Parts parts) = parts
parts_in (BadAt place) = []

-- whether a part has an id above this one
abbrev pub is_above : ℕ → Part → Bool
is_above last part = option_map_or (λ (id : Id). nat_lt last id.0) part.as_of false

-- no id of a path lies in the future
abbrev pub no_future : ℕ → Parsed → Check
no_future last path = refuse_if (list_any (is_above last) (parts_in path)) (Future (record { 0 = last }))

-- nor does the begin id of a stream
abbrev pub no_future_begin : ℕ → Command → Check
no_future_begin last (MirrorRead path begin) = refuse_if (nat_lt last begin.0) (Future (record { 0 = last }))
no_future_begin last (Mkdir path) = None
no_future_begin last (Touch path) = None
no_future_begin last (Symlink target path) = None
no_future_begin last (Snapshot path) = None
no_future_begin last (Ln old new) = None
no_future_begin last (Mv old new) = None
no_future_begin last (Write path offset bytes) = None
no_future_begin last (Fill path offset count byte) = None
no_future_begin last (Truncate path size) = None
no_future_begin last (Rm path) = None
no_future_begin last (Rmdir path) = None
no_future_begin last (Ls path) = None
no_future_begin last (Cat path offset count) = None
no_future_begin last (Stat path) = None
no_future_begin last (Readlink path) = None
no_future_begin last Sync = None
no_future_begin last Synctid = None
no_future_begin last (Prune path) = None
no_future_begin last (PruneAll path) = None
no_future_begin last (Reblock fill) = None
no_future_begin last (PfsMaster path shared) = None
no_future_begin last (PfsSlave path shared) = None
no_future_begin last (PfsStatus path) = None
no_future_begin last (PfsUpgrade path) = None
no_future_begin last (MirrorWrite path) = None
no_future_begin last (MirrorCopy master slave limit) = None
no_future_begin last Df = None
no_future_begin last Progress = None
no_future_begin last (End opening) = None

-- whether a path has an id
abbrev pub has_id : Parsed → Bool
has_id path = list_any (λ (part : Part). option_map_or (λ id. true) part.as_of false) (parts_in path)

-- the past is read only: no path of a call on a tree or a PFS has an id
abbrev pub past_stays : Command → List Parsed → Check
past_stays command paths =
    refuse_if ((is_tree_call command || is_pfs_call command) && list_any has_id paths) ReadOnly

-- a walk comes to its end
abbrev pub walks : Located → Check
walks (At site) = None
walks (Nowhere refusal passed) = Some refusal

-- whether a site lies in a slave
abbrev pub is_in_slave : Call → Located → Bool
is_in_slave call (At site) = option_map_or (λ s. if is_master s then false else true) (site_system call site) false
is_in_slave call (Nowhere refusal passed) = false

-- a slave changes by mirroring alone
abbrev pub slaves_stay : Call → Check
slaves_stay call = refuse_if (is_tree_call call.command && list_any (is_in_slave call) (all_located call)) ReadOnly

-- whether the object at a site has a kind
abbrev pub is_kind : (Kind → Bool) → Call → Site → Bool
is_kind test call site = option_map_or (λ (o : Object). test o.kind) (site_object call site) false

abbrev pub is_dir : Kind → Bool
is_dir kind = elim kind [ Directory ↦ true | File ↦ false | Softlink ↦ false | PfsLink ↦ false ]

abbrev pub is_dir_or_link : Kind → Bool
is_dir_or_link kind = elim kind [ Directory ↦ true | File ↦ false | Softlink ↦ false | PfsLink ↦ true ]

abbrev pub is_softlink : Kind → Bool
is_softlink kind = elim kind [ Directory ↦ false | File ↦ false | Softlink ↦ true | PfsLink ↦ false ]

abbrev pub is_link : Kind → Bool
is_link kind = elim kind [ Directory ↦ false | File ↦ false | Softlink ↦ true | PfsLink ↦ true ]

-- a new name does not stand in its directory yet
abbrev pub name_is_new : Call → Site → Check
name_is_new call site = option_map_or (λ o. Some Exists) (named_in (site_tree call site) site.directory.object site.name) None

-- the object is neither a directory nor a PFS link; it is a directory; it is no softlink; it is a link
abbrev pub no_dir : Call → Site → Check
no_dir call site = refuse_if (is_kind is_dir_or_link call site) IsDir

abbrev pub a_dir : Call → Site → Check
a_dir call site = if is_kind is_dir call site then None else Some NotDir

abbrev pub a_file : Call → Site → Check
a_file call site = refuse_if (is_kind is_softlink call site) NotFile

abbrev pub a_link : Call → Site → Check
a_link call site = if is_kind is_link call site then None else Some NotLink

-- a directory is empty
abbrev pub is_empty : Call → Site → Check
is_empty call site = refuse_if (nat_lt 0 (length (entries_in (site_tree call site) site.at.object))) NotEmpty

-- both paths end in one PFS
abbrev pub one_pfs : Call → Check
one_pfs call = if (first_site call).at.pfs == (second_site call).at.pfs then None else Some CrossPfs

-- a file is no larger than it may be
abbrev pub fits_file : ℕ → Check
fits_file end = refuse_if (nat_lt MOST_FILE_BYTES end) TooBig

-- a count of links can rise
abbrev pub links_left : Call → Site → Check
links_left call site =
    refuse_if (option_map_or (λ (o : Object). nat_le (2 ^ 32 - 1) o.links) (site_object call site) false) TooBig

-- whether a walk passed the object at a site
abbrev pub is_passed : Site → Site → Bool
is_passed site walk = list_any (λ p. (p.0 == site.at.pfs) && (p.1 == site.at.object.0)) walk.passed

-- what is moved does not stand on the walk of its new name
abbrev pub not_into_itself : Call → Check
not_into_itself call = refuse_if (is_passed (first_site call) (second_site call)) IntoItself

-- whether what stands under a new name gives way to the object that is moved there: it is that object, or
-- it is a file or softlink and the moved one is no directory
abbrev pub gives_way : Call → Object → Object → Bool
gives_way call moved there =
    (moved.number.0 == there.number.0)
    || ((if is_dir_or_link there.kind then false else true) && (if is_dir moved.kind then false else true))

-- whether what stands under the new name is there and gives way to what is moved
abbrev pub is_way_free : Call → Bool
is_way_free call =
    option_map_or (λ there. option_map_or (λ moved. gives_way call moved there) (site_object call (first_site call)) false)
    (standing call (second_site call)) false

-- nothing that stays stands under the new name: a name that leads to no object stays
abbrev pub way_is_free : Call → Check
way_is_free call =
    option_map_or (λ number. if is_way_free call then None else Some Exists)
    (named_in (site_tree call (second_site call)) (second_site call).directory.object (second_site call).name) None

-- a number of a PFS is left
abbrev pub pfs_left : Call → Check
pfs_left call = refuse_if (nat_le MOST_PFS (length call.volume.systems)) PfsFull

-- the ids that a prune keeps
abbrev pub kept_ids : Call → List ℕ
kept_ids call =
    option_map_or (λ s. snapshot_ids (site_tree call (first_site call)) (first_site call).at.object (call_shown call s))
    (site_system call (first_site call)) []

-- a prune finds an id to keep
abbrev pub has_snapshots : Call → Check
has_snapshots call = refuse_if (length (kept_ids call) == 0) NoSnapshots

-- a fact of the PFS in which a site lies
abbrev pub of_system : Call → Site → (PseudoFileSystem → Check) → Check
of_system call site check = option_map_or check (site_system call site) None

-- the PFS is a slave, or a master; a slave has had a pass
abbrev pub a_slave : Call → Site → Check
a_slave call site = of_system call site (λ s. refuse_if (is_master s) NotSlave)

abbrev pub a_master : Call → Site → Check
a_master call site = of_system call site (λ s. if is_master s then None else Some NotMaster)

abbrev pub was_passed : Call → Site → Check
was_passed call site = of_system call site (λ s. refuse_if (s.sync_end == 0) NotFound)

-- master and slave have one shared id
abbrev pub one_shared : Call → Check
one_shared call =
    of_system call (first_site call) (λ m.
    of_system call (second_site call) (λ s.
    if s.shared == m.shared then None else Some (SharedDiffers s.shared m.shared)))

-- those of a command's own checks that look at records of PFS alone, and at no tree, by where its paths lead
abbrev pub record_checks_of : Call → Site → Site → Command → List Check
record_checks_of call a b (Mkdir path) = []
record_checks_of call a b (Touch path) = []
record_checks_of call a b (Symlink target path) = []
record_checks_of call a b (Snapshot path) = []
record_checks_of call a b (Ln old new) = []
record_checks_of call a b (Mv old new) = []
record_checks_of call a b (Write path offset bytes) = []
record_checks_of call a b (Fill path offset count byte) = []
record_checks_of call a b (Truncate path size) = []
record_checks_of call a b (Rm path) = []
record_checks_of call a b (Rmdir path) = []
record_checks_of call a b (Ls path) = []
record_checks_of call a b (Cat path offset count) = []
record_checks_of call a b (Stat path) = []
record_checks_of call a b (Readlink path) = []
record_checks_of call a b Sync = []
record_checks_of call a b Synctid = []
record_checks_of call a b (Prune path) = []
record_checks_of call a b (PruneAll path) = []
record_checks_of call a b (Reblock fill) = []
record_checks_of call a b (PfsMaster path shared) = pfs_left call ∷ []
record_checks_of call a b (PfsSlave path shared) = pfs_left call ∷ []
record_checks_of call a b (PfsStatus path) = []
record_checks_of call a b (PfsUpgrade path) = a_slave call a ∷ was_passed call a ∷ []
record_checks_of call a b (MirrorRead path begin) = a_master call a ∷ []
record_checks_of call a b (MirrorWrite path) = a_slave call a ∷ []
record_checks_of call a b (MirrorCopy master slave limit) = a_master call a ∷ a_slave call b ∷ one_shared call ∷ []
record_checks_of call a b Df = []
record_checks_of call a b Progress = []
record_checks_of call a b (End opening) = []

abbrev pub record_checks : Call → List Check
record_checks call = record_checks_of call (first_site call) (second_site call) call.command

-- a command's own checks, in their order, by where its paths lead
abbrev pub own_checks_of : Call → Site → Site → Command → List Check
own_checks_of call a b (Mkdir path) = name_is_new call a ∷ []
own_checks_of call a b (Touch path) = name_is_new call a ∷ []
own_checks_of call a b (Symlink target path) = name_is_new call a ∷ []
own_checks_of call a b (Snapshot path) = name_is_new call a ∷ []
own_checks_of call a b (Ln old new) = no_dir call a ∷ a_file call a ∷ one_pfs call ∷ name_is_new call b ∷ links_left call a ∷ []
own_checks_of call a b (Mv old new) = one_pfs call ∷ not_into_itself call ∷ way_is_free call ∷ []
own_checks_of call a b (Write path offset bytes) = no_dir call a ∷ a_file call a ∷ fits_file (offset + length bytes) ∷ []
own_checks_of call a b (Fill path offset count byte) = no_dir call a ∷ a_file call a ∷ fits_file (offset + count) ∷ []
own_checks_of call a b (Truncate path size) = no_dir call a ∷ a_file call a ∷ fits_file size ∷ []
own_checks_of call a b (Rm path) = no_dir call a ∷ []
own_checks_of call a b (Rmdir path) = a_dir call a ∷ is_empty call a ∷ []
own_checks_of call a b (Ls path) = a_dir call a ∷ []
own_checks_of call a b (Cat path offset count) = no_dir call a ∷ a_file call a ∷ []
own_checks_of call a b (Stat path) = []
own_checks_of call a b (Readlink path) = a_link call a ∷ []
own_checks_of call a b Sync = []
own_checks_of call a b Synctid = []
own_checks_of call a b (Prune path) = a_dir call a ∷ has_snapshots call ∷ []
own_checks_of call a b (PruneAll path) = []
own_checks_of call a b (Reblock fill) = []
own_checks_of call a b (PfsMaster path shared) = name_is_new call a ∷ record_checks_of call a b (PfsMaster path shared)
own_checks_of call a b (PfsSlave path shared) = name_is_new call a ∷ record_checks_of call a b (PfsSlave path shared)
own_checks_of call a b (PfsStatus path) = []
own_checks_of call a b (PfsUpgrade path) = record_checks_of call a b (PfsUpgrade path)
own_checks_of call a b (MirrorRead path begin) = record_checks_of call a b (MirrorRead path begin)
own_checks_of call a b (MirrorWrite path) = record_checks_of call a b (MirrorWrite path)
own_checks_of call a b (MirrorCopy master slave limit) = record_checks_of call a b (MirrorCopy master slave limit)
own_checks_of call a b Df = []
own_checks_of call a b Progress = []
own_checks_of call a b (End opening) = []

abbrev pub own_checks : Call → List Check
own_checks call = own_checks_of call (first_site call) (second_site call) call.command

-- the site at which a call makes a name, if it does
abbrev pub new_name : List (Use × List ℕ) → List Located → Option Site
new_name ((MakesName, path) ∷ uses) (At site ∷ more) = Some site
new_name (u ∷ uses) (l ∷ more) = new_name uses more
new_name uses more = None

-- how many entries of a directory have the hash of a name, in bits 17 to 63
abbrev pub same_hash : (List ℕ → ℕ) → List ℕ → Triple → Bool
same_hash hash name t = (hash t.name / 2 ^ 17) == (hash name / 2 ^ 17)

abbrev pub hash_is_full : Call → Site → Bool
hash_is_full call site =
    option_map_or (λ o. false) (named_in (site_tree call site) site.directory.object site.name)
    (nat_le 1024 (count_by (same_hash call.hash site.name) (entries_in (site_tree call site) site.directory.object)))

-- fewer than 1,024 names of the directory have the hash of a name that is new there
abbrev pub hash_left : Call → Check
hash_left call =
    option_map_or (λ site. refuse_if (hash_is_full call site) HashFull)
    (new_name (uses_of call.command) (all_located call)) None

-- the number of intervals that a prune leaves
abbrev pub pruned_count : Call → ℕ
pruned_count call =
    option_map_or (λ s. length (pruned s.retention (kept_ids call))) (site_system call (first_site call)) 0

-- a cut leaves no more intervals than a retention may have
abbrev pub intervals_left : Call → Check
intervals_left call = elim call.command [
  | Prune path ↦
      refuse_if (nat_lt MOST_INTERVALS (pruned_count call)) (TooManyIntervals (min (pruned_count call) (2 ^ 32 - 1)))
  | Mkdir path ↦ None
  | Touch path ↦ None
  | Symlink target path ↦ None
  | Snapshot path ↦ None
  | Ln old new ↦ None
  | Mv old new ↦ None
  | Write path offset bytes ↦ None
  | Fill path offset count byte ↦ None
  | Truncate path size ↦ None
  | Rm path ↦ None
  | Rmdir path ↦ None
  | Ls path ↦ None
  | Cat path offset count ↦ None
  | Stat path ↦ None
  | Readlink path ↦ None
  | Sync ↦ None
  | Synctid ↦ None
  | PruneAll path ↦ None
  | Reblock fill ↦ None
  | PfsMaster path shared ↦ None
  | PfsSlave path shared ↦ None
  | PfsStatus path ↦ None
  | PfsUpgrade path ↦ None
  | MirrorRead path begin ↦ None
  | MirrorWrite path ↦ None
  | MirrorCopy master slave limit ↦ None
  | Df ↦ None
  | Progress ↦ None
  | End opening ↦ None
]

-- the checks that come before the walks; they ask nothing of trees
abbrev pub early_checks : ℕ → Option ℕ → Command → List Parsed → List Check
early_checks last busy command paths =
    none_open busy command ∷ good_paths (uses_of command) paths
    ++ map (no_future last) paths ++ no_future_begin last command ∷ past_stays command paths ∷ []

-- all checks of a call in their order, but for the one on space
abbrev pub checks : Call → List Check
checks call =
    ids_left call ∷ early_checks call.volume.last call.busy call.command call.paths
    ++ map walks (all_located call) ++ slaves_stay call ∷ own_checks call
    ++ hash_left call ∷ intervals_left call ∷ []

-- the least number that no PFS has
abbrev pub numbers_to : ℕ → List ℕ → List ℕ
numbers_to first [] = first ∷ []
numbers_to first (x ∷ xs) = first ∷ numbers_to (first + 1) xs

abbrev pub least_unused : List ℕ → ℕ
least_unused used =
    option_map_or (λ n. n) (find (λ n. if list_any (λ m. m == n) used then false else true) (numbers_to 0 used)) 0

abbrev pub new_pfs : Volume → ℕ
new_pfs volume = least_unused (map (λ (s : PseudoFileSystem). s.number) volume.systems)

-- the reply of a call that is accepted
abbrev pub accepted : Call → Reply
accepted call = elim call.command [
  | Ls path ↦ answer call
  | Cat path offset count ↦ answer call
  | Stat path ↦ answer call
  | Readlink path ↦ answer call
  | PfsStatus path ↦ answer call
  | PfsMaster path shared ↦ MadePfs (record { 0 = new_pfs call.volume })
  | PfsSlave path shared ↦ MadePfs (record { 0 = new_pfs call.volume })
  | Mkdir path ↦ Done
  | Touch path ↦ Done
  | Symlink target path ↦ Done
  | Snapshot path ↦ Done
  | Ln old new ↦ Done
  | Mv old new ↦ Done
  | Write path offset bytes ↦ Done
  | Fill path offset count byte ↦ Done
  | Truncate path size ↦ Done
  | Rm path ↦ Done
  | Rmdir path ↦ Done
  | Sync ↦ Done
  | Synctid ↦ Done
  | Prune path ↦ Done
  | PruneAll path ↦ Done
  | Reblock fill ↦ Done
  | PfsUpgrade path ↦ Done
  | MirrorRead path begin ↦ Done
  | MirrorWrite path ↦ Done
  | MirrorCopy master slave limit ↦ Done
  | Df ↦ Done
  | Progress ↦ Done
  | End opening ↦ Done
]

-- the refusal that a call is due, if it is due one
abbrev pub refusal : Call → Check
refusal call = first_refusal (checks call)

-- the reply that a call is due, where memory and space last
abbrev pub due : Call → Reply
due call = option_map_or (λ r. r) (refusal call) (accepted call)

-- the path words of the call are read so
abbrev pub ReadsPaths : Call → Type 0
ReadsPaths call = ReadsWords call.command call.paths

-- How much space a call may need, as far as a history tells.
use Rattle.std.specs.Prelude.{◌≡◌, ℕ, ◌+◌, ◌-◌, ◌*◌, ◌/◌, ◌<◌, ◌≤◌, List, [], ◌∷◌, Bool, true, false, ◌==◌, ◌&&◌, if◌then◌else◌, length}
use Rattle.std.specs.Bool.{nat_lt}
use Rattle.std.specs.List.{Contains, list_any}
use Rattle.std.specs.Option.{option_map_or}
use Rattle.hm_types.specs.declared.zone.TheConstants.{TREE_ZONE, META_ZONE, LARGE_ZONE, SMALL_ZONE}
use Rattle.hm_model.specs.declared.command.Command.{Command}
use Rattle.hm_model.specs.declared.command.Command.TheVariants.{Mkdir, Touch, Symlink, Snapshot, Ln, Mv, Write, Fill, Truncate, Rm, Prune, PruneAll, Reblock, PfsMaster, PfsSlave, PfsUpgrade, MirrorWrite, MirrorCopy, Rmdir, Ls, Cat, Stat, Readlink, Sync, Synctid, PfsStatus, MirrorRead, Df, Progress, End}
use Rattle.hm_model.specs.declared.entry.Entry.{Entry}
use Rattle.hm_types.specs.declared.object.Object.{Object}
use Rattle.hm_types.specs.declared.object.Kind.{Kind}
use Rattle.hm_types.specs.declared.object.Kind.TheVariants.{Directory, File, Softlink, PfsLink}
use Rattle.hm_model.specs.Reply.{is_refusal}
use Rattle.hm_model.specs.Call.{Call, first_site, second_site, site_object, standing}
use Rattle.hm_model.specs.Answer.{file_bytes}

-- how many zones a call or a unit names, and how many big-blocks are held back from it
abbrev pub Row : Type 0
Row = ℕ × ℕ

-- whether an object is a file
abbrev pub is_file : Kind → Bool
is_file kind = elim kind [ Directory ↦ false | File ↦ true | Softlink ↦ false | PfsLink ↦ false ]

-- whether the file at a site has another link
abbrev pub has_other_link : Call → Bool
has_other_link call =
    option_map_or (λ (o : Object). is_file o.kind && nat_lt 1 o.links) (site_object call (first_site call)) false

-- whether the file at a site has another size
abbrev pub has_other_size : Call → ℕ → Bool
has_other_size call size =
    option_map_or (λ (o : Object). if length (file_bytes o.content) == size then false else true)
    (site_object call (first_site call)) true

-- whether what is moved stands under the new name already
abbrev pub stays_put : Call → Bool
stays_put call =
    option_map_or (λ (there : Object). there.number.0 == (first_site call).at.object.0)
    (standing call (second_site call)) false

-- the zones of a call that writes names, objects or records, and of one that writes bytes of files besides
abbrev pub names_zones : List ℕ
names_zones = TREE_ZONE ∷ META_ZONE ∷ []

abbrev pub bytes_zones : List ℕ
bytes_zones = TREE_ZONE ∷ META_ZONE ∷ LARGE_ZONE ∷ SMALL_ZONE ∷ []

-- the zones in which a single call or an opening needs room, none where it takes none
abbrev pub zones_of : Call → List ℕ
zones_of call = elim call.command [
  | Mkdir path ↦ names_zones
  | Touch path ↦ names_zones
  | Symlink target path ↦ names_zones
  | Snapshot path ↦ names_zones
  | Ln old new ↦ names_zones
  | Mv old new ↦ if stays_put call then [] else names_zones
  | PfsMaster path shared ↦ names_zones
  | PfsSlave path shared ↦ names_zones
  | Write path offset bytes ↦ bytes_zones
  | Fill path offset count byte ↦ bytes_zones
  | Truncate path size ↦ if has_other_size call size then bytes_zones else []
  | Rm path ↦ if has_other_link call then names_zones else []
  | Prune path ↦ names_zones
  | PruneAll path ↦ names_zones
  | Rmdir path ↦ []
  | Ls path ↦ []
  | Cat path offset count ↦ []
  | Stat path ↦ []
  | Readlink path ↦ []
  | Sync ↦ []
  | Synctid ↦ []
  | Reblock fill ↦ []
  | PfsStatus path ↦ []
  | PfsUpgrade path ↦ []
  | MirrorRead path begin ↦ []
  | MirrorWrite path ↦ []
  | MirrorCopy master slave limit ↦ []
  | Df ↦ []
  | Progress ↦ []
  | End opening ↦ []
]

-- how many big-blocks are held back from a single call or an opening
abbrev pub held_of : Command → ℕ
held_of (Rm path) = 0
held_of (Prune path) = 0
held_of (PruneAll path) = 0
held_of (Mkdir path) = 4
held_of (Touch path) = 4
held_of (Symlink target path) = 4
held_of (Snapshot path) = 4
held_of (Ln old new) = 4
held_of (Mv old new) = 4
held_of (Write path offset bytes) = 4
held_of (Fill path offset count byte) = 4
held_of (Truncate path size) = 4
held_of (PfsMaster path shared) = 4
held_of (PfsSlave path shared) = 4
held_of (Rmdir path) = 0
held_of (Ls path) = 0
held_of (Cat path offset count) = 0
held_of (Stat path) = 0
held_of (Readlink path) = 0
held_of Sync = 0
held_of Synctid = 0
held_of (Reblock fill) = 0
held_of (PfsStatus path) = 0
held_of (PfsUpgrade path) = 0
held_of (MirrorRead path begin) = 0
held_of (MirrorWrite path) = 0
held_of (MirrorCopy master slave limit) = 0
held_of Df = 0
held_of Progress = 0
held_of (End opening) = 0

-- the row of zones and of what is held back, none where there are no zones
abbrev pub row_over : List ℕ → ℕ → List Row
row_over [] held = []
row_over (zone ∷ zones) held = (length (zone ∷ zones), held) ∷ []

-- the rows of a single call or an opening
abbrev pub rows_of : Call → List Row
rows_of call = row_over (zones_of call) (held_of call.command)

-- the rows of what follows an opening: its units, and its ending where that comes to an end
abbrev pub rows_after : Command → List Row
rows_after (Reblock fill) = (1, 0) ∷ []
rows_after (MirrorWrite path) = (2, 4) ∷ (2, 0) ∷ []
rows_after (MirrorCopy master slave limit) = (2, 4) ∷ (2, 0) ∷ []
rows_after (PfsUpgrade path) = (2, 0) ∷ []
rows_after (Mkdir path) = []
rows_after (Touch path) = []
rows_after (Symlink target path) = []
rows_after (Snapshot path) = []
rows_after (Ln old new) = []
rows_after (Mv old new) = []
rows_after (Write path offset bytes) = []
rows_after (Fill path offset count byte) = []
rows_after (Truncate path size) = []
rows_after (Rm path) = []
rows_after (Rmdir path) = []
rows_after (Ls path) = []
rows_after (Cat path offset count) = []
rows_after (Stat path) = []
rows_after (Readlink path) = []
rows_after Sync = []
rows_after Synctid = []
rows_after (Prune path) = []
rows_after (PruneAll path) = []
rows_after (PfsMaster path shared) = []
rows_after (PfsSlave path shared) = []
rows_after (PfsStatus path) = []
rows_after (MirrorRead path begin) = []
rows_after Df = []
rows_after Progress = []
rows_after (End opening) = []

-- so few big-blocks are free that this row may lack so many of them
pub record Lacks (free needed : ℕ) (row : Row) : Type 0 where
  pub some : 1 ≤ needed
  pub most : needed ≤ row.0
  pub lack : free - row.1 < needed

-- one of the rows may
abbrev pub MayLack : List Row → ℕ → ℕ → Type 0
MayLack rows free needed = (row : Row) × Contains rows row × Lacks free needed row

-- the calls after whose opening a bound on free space is not known
abbrev pub moves_space : Command → Bool
moves_space (Reblock fill) = true
moves_space (MirrorWrite path) = true
moves_space (MirrorCopy master slave limit) = true
moves_space (Mkdir path) = false
moves_space (Touch path) = false
moves_space (Symlink target path) = false
moves_space (Snapshot path) = false
moves_space (Ln old new) = false
moves_space (Mv old new) = false
moves_space (Write path offset bytes) = false
moves_space (Fill path offset count byte) = false
moves_space (Truncate path size) = false
moves_space (Rm path) = false
moves_space (Rmdir path) = false
moves_space (Ls path) = false
moves_space (Cat path offset count) = false
moves_space (Stat path) = false
moves_space (Readlink path) = false
moves_space Sync = false
moves_space Synctid = false
moves_space (Prune path) = false
moves_space (PruneAll path) = false
moves_space (PfsMaster path shared) = false
moves_space (PfsSlave path shared) = false
moves_space (PfsStatus path) = false
moves_space (PfsUpgrade path) = false
moves_space (MirrorRead path begin) = false
moves_space Df = false
moves_space Progress = false
moves_space (End opening) = false

abbrev pub moved_space : Entry → Bool
moved_space e = moves_space e.call && (if is_refusal e.reply then false else true)

-- The least number of big-blocks that are free after these entries, where so many were free as the run
-- began. Two new append big-blocks of zone 8 are begun at least 8 calls apart, and two of another zone at
-- least 64 calls apart.
abbrev pub floor : ℕ → List Entry → ℕ
floor free history =
    if list_any moved_space history then 0
    else free - 4 - length history / 8 - 3 * (length history / 64)

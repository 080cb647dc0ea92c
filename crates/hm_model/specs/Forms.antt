-- The forms of the commands: which words give which command.
use Rattle.std.specs.Prelude.{◌≡◌, ◌⊎◌, ℕ, ◌≤◌, List, [], ◌∷◌, Option, Some, None, codes, length}
use Rattle.hm_types.specs.declared.limits.TheConstants.{MOST_TARGET_BYTES, MOST_WRITE_BYTES, MOST_CAT_BYTES}
use Rattle.hm_model.specs.declared.command.Command.{Command}
use Rattle.hm_model.specs.declared.command.Command.TheVariants.{Mkdir, Touch, Symlink, Snapshot, Ln, Mv, Write, Fill, Truncate, Rm, Rmdir, Ls, Cat, Stat, Readlink, Sync, Synctid, Prune, PruneAll, Reblock, PfsMaster, PfsSlave, PfsStatus, PfsUpgrade, MirrorRead, MirrorWrite, MirrorCopy, Df, Progress, End}
use Rattle.hm_model.specs.Words.{IsNumber, IsHexNumber, IsIdWord, IsHexBytes}

-- the number lies between these two
abbrev pub Between : ℕ → ℕ → ℕ → Type 0
Between least most number = (least ≤ number) × (number ≤ most)

-- FILL where a line of `reblock` gives none
abbrev pub whole_fill : ℕ
whole_fill = 100

-- the greatest LIMIT of a line of `mirror-copy`
abbrev pub most_limit : ℕ
most_limit = 4294967295

-- the values of a command's words keep their ranges
abbrev pub IsInRange : Command → Type 0
IsInRange (Symlink target path) = Between 1 MOST_TARGET_BYTES (length target)
IsInRange (Write path offset bytes) = Between 1 MOST_WRITE_BYTES (length bytes)
IsInRange (Fill path offset count byte) = Between 1 MOST_WRITE_BYTES count
IsInRange (Cat path offset count) = Between 1 MOST_CAT_BYTES count
IsInRange (Reblock fill) = Between 1 100 fill
IsInRange (MirrorCopy master slave (Some limit)) = Between 1 most_limit limit
IsInRange (MirrorCopy master slave None) = Unit {0}
IsInRange (Mkdir path) = Unit {0}
IsInRange (Touch path) = Unit {0}
IsInRange (Snapshot path) = Unit {0}
IsInRange (Ln old new) = Unit {0}
IsInRange (Mv old new) = Unit {0}
IsInRange (Truncate path size) = Unit {0}
IsInRange (Rm path) = Unit {0}
IsInRange (Rmdir path) = Unit {0}
IsInRange (Ls path) = Unit {0}
IsInRange (Stat path) = Unit {0}
IsInRange (Readlink path) = Unit {0}
IsInRange Sync = Unit {0}
IsInRange Synctid = Unit {0}
IsInRange (Prune path) = Unit {0}
IsInRange (PruneAll path) = Unit {0}
IsInRange (PfsMaster path shared) = Unit {0}
IsInRange (PfsSlave path shared) = Unit {0}
IsInRange (PfsStatus path) = Unit {0}
IsInRange (PfsUpgrade path) = Unit {0}
IsInRange (MirrorRead path begin) = Unit {0}
IsInRange (MirrorWrite path) = Unit {0}
IsInRange Df = Unit {0}
IsInRange Progress = Unit {0}
IsInRange (End opening) = Unit {0}

-- a command of one path, by its name
abbrev pub OfPath : List ℕ → List ℕ → List (List ℕ) → Type 0
OfPath name path words = words ≡ name ∷ path ∷ []

-- a command of two paths, by its name
abbrev pub OfPaths : List ℕ → List ℕ → List ℕ → List (List ℕ) → Type 0
OfPaths name first second words = words ≡ name ∷ first ∷ second ∷ []

-- the words are those of the command
abbrev pub IsForm : List (List ℕ) → Command → Type 0
IsForm words (Mkdir path) = OfPath (codes "mkdir") path words
IsForm words (Touch path) = OfPath (codes "touch") path words
IsForm words (Symlink target path) = OfPaths (codes "symlink") target path words
IsForm words (Snapshot path) = OfPath (codes "snapshot") path words
IsForm words (Ln old new) = OfPaths (codes "ln") old new words
IsForm words (Mv old new) = OfPaths (codes "mv") old new words
IsForm words (Write path offset bytes) =
    (o : List ℕ) × (h : List ℕ) × (words ≡ codes "write" ∷ path ∷ o ∷ h ∷ [])
    × IsNumber o offset × IsHexBytes h bytes
IsForm words (Fill path offset count byte) =
    (o : List ℕ) × (c : List ℕ) × (b : List ℕ) × (words ≡ codes "fill" ∷ path ∷ o ∷ c ∷ b ∷ [])
    × IsNumber o offset × IsNumber c count × IsHexNumber 2 b byte
IsForm words (Truncate path size) =
    (s : List ℕ) × (words ≡ codes "truncate" ∷ path ∷ s ∷ []) × IsNumber s size
IsForm words (Rm path) = OfPath (codes "rm") path words
IsForm words (Rmdir path) = OfPath (codes "rmdir") path words
IsForm words (Ls path) = OfPath (codes "ls") path words
IsForm words (Cat path offset count) =
    (o : List ℕ) × (c : List ℕ) × (words ≡ codes "cat" ∷ path ∷ o ∷ c ∷ [])
    × IsNumber o offset × IsNumber c count
IsForm words (Stat path) = OfPath (codes "stat") path words
IsForm words (Readlink path) = OfPath (codes "readlink") path words
IsForm words Sync = words ≡ codes "sync" ∷ []
IsForm words Synctid = words ≡ codes "synctid" ∷ []
IsForm words (Prune path) = OfPath (codes "prune") path words
IsForm words (PruneAll path) = OfPath (codes "prune-everything") path words
IsForm words (Reblock fill) =
    ((words ≡ codes "reblock" ∷ []) × (fill ≡ whole_fill))
    ⊎ ((f : List ℕ) × (words ≡ codes "reblock" ∷ f ∷ []) × IsNumber f fill)
IsForm words (PfsMaster path shared) =
    (s : List ℕ) × (words ≡ codes "pfs-master" ∷ path ∷ s ∷ []) × IsHexNumber 16 s shared
IsForm words (PfsSlave path shared) =
    (s : List ℕ) × (words ≡ codes "pfs-slave" ∷ path ∷ s ∷ []) × IsHexNumber 16 s shared
IsForm words (PfsStatus path) = OfPath (codes "pfs-status") path words
IsForm words (PfsUpgrade path) = OfPath (codes "pfs-upgrade") path words
IsForm words (MirrorRead path begin) =
    (b : List ℕ) × (words ≡ codes "mirror-read" ∷ path ∷ b ∷ []) × IsIdWord b begin.0
IsForm words (MirrorWrite path) = OfPath (codes "mirror-write") path words
IsForm words (MirrorCopy master slave None) = OfPaths (codes "mirror-copy") master slave words
IsForm words (MirrorCopy master slave (Some limit)) =
    (l : List ℕ) × (words ≡ codes "mirror-copy" ∷ master ∷ slave ∷ l ∷ []) × IsNumber l limit
IsForm words Df = words ≡ codes "df" ∷ []
IsForm words Progress = words ≡ codes "progress" ∷ []
IsForm words (End opening) = ⊥

-- The names of the forms of one path.
use Rattle.std.specs.Prelude.{◌≡◌, ℕ, List, codes}
use Rattle.hm_script.specs.declared.path_form.PathForm.{PathForm}
use Rattle.hm_script.specs.declared.path_form.PathForm.TheVariants.{Mkdir, Touch, Snapshot, Rm, Rmdir, Ls, Stat, Readlink, Prune, PruneAll, PfsStatus, PfsUpgrade, MirrorWrite}

-- the word that begins the form
abbrev pub form_name : PathForm → List ℕ
form_name Mkdir = codes "mkdir"
form_name Touch = codes "touch"
form_name Snapshot = codes "snapshot"
form_name Rm = codes "rm"
form_name Rmdir = codes "rmdir"
form_name Ls = codes "ls"
form_name Stat = codes "stat"
form_name Readlink = codes "readlink"
form_name Prune = codes "prune"
form_name PruneAll = codes "prune-everything"
form_name PfsStatus = codes "pfs-status"
form_name PfsUpgrade = codes "pfs-upgrade"
form_name MirrorWrite = codes "mirror-write"

-- the word begins no such form
abbrev pub IsNoName : List ℕ → Type 0
IsNoName word = (form : PathForm) → word ≡ form_name form → ⊥

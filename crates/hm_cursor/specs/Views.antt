-- What writing by an id does to the trees of pseudo file systems.
use Rattle.std.specs.Prelude.{◌≡◌, ◌≢◌, ◌↔◌, ◌⊎◌, ℕ, ◌<◌, ◌≤◌, List}
use Rattle.std.specs.List.{Contains}
use Rattle.hm_types.specs.Elements.{FullElement}
use Rattle.hm_types.specs.Tree.{FileTree}
use Rattle.hm_key.specs.Counts.{Counts, IsRecordOf, Subject, inode_subject, record_subject, subject_of}
use Rattle.hm_key.specs.Element.{pfs_of}
use Rattle.hm_records.specs.Changes.{CountSame, CountsNothing}
use Rattle.hm_records.specs.Laws.{HasView}
use Rattle.hm_cursor.specs.Write.{AreUpTo, IsFreshFor}

-- no element is new
abbrev pub IsNothing : FullElement → Type 0
IsNothing x = ⊥

-- an object has no inode from `i` on
abbrev pub IsMissing : ℕ → ℕ → ℕ → List FullElement → Type 0
IsMissing pfs obj i es = (t : ℕ) → i ≤ t → CountsNothing (Counts es t) (inode_subject pfs obj)

-- an element of a changed list: one that was there, perhaps closed since, or a new one
abbrev pub CameAs : (FullElement → Type 0) → List FullElement → FullElement → Type 0
CameAs New es x =
    ((e : FullElement) × Contains es e × (x.key ≡ e.key) × (x.obj_type ≡ e.obj_type) × (x.bytes ≡ e.bytes)) ⊎ New x

-- Writing by `i` in one pseudo file system leaves what counted before `i`, the elements of all others and so their trees, and
-- each record, also as of each id; the elements are the old ones and new ones of a kind.
pub record WritesIn (pfs i : ℕ) (New : FullElement → Type 0) (es es' : List FullElement) : Type 0 where
  pub past : (t : ℕ) → t < i → CountSame (Counts es t) (Counts es' t)
  pub others : (t other : ℕ) (tree : FileTree) → i ≤ t → other ≢ pfs → HasView (Counts es t) other tree → HasView (Counts es' t) other tree
  pub elsewhere : (x : FullElement) → pfs_of x.key.localization ≢ pfs → Contains es' x ↔ Contains es x
  pub records : (other : ℕ) (bytes : List ℕ) → IsRecordOf es' other bytes ↔ IsRecordOf es other bytes
  pub records_then : (t other : ℕ) (bytes : List ℕ) → Counts es' t (record_subject other) bytes ↔ Counts es t (record_subject other) bytes
  pub came : (x : FullElement) → Contains es' x → CameAs New es x
  pub fresh : (s : Subject) → ((x : FullElement) → New x → subject_of x.key ≢ s) → IsFreshFor s i es → IsFreshFor s i es'
  pub up_to : (localization : ℕ) → AreUpTo localization i es → AreUpTo localization i es'

-- from `i` on the tree of a pseudo file system is changed so
abbrev pub Shows : ℕ → ℕ → (FileTree → FileTree) → List FullElement → List FullElement → Type 0
Shows pfs i change es es' =
    (t : ℕ) (tree : FileTree) → i ≤ t → HasView (Counts es t) pfs tree → HasView (Counts es' t) pfs (change tree)

-- Which volume a list of elements shows, and in which trees.
use Rattle.std.specs.Prelude.{◌≡◌, ℕ, ◌^◌, ◌<◌, ◌≤◌, List, None, Some}
use Rattle.std.specs.List.{All}
use Rattle.hm_types.specs.Elements.{FullElement}
use Rattle.hm_types.specs.Intervals.{Keeps}
use Rattle.hm_types.specs.Tree.{FileTree, no_tree}
use Rattle.hm_key.specs.Versions.{IsBelow}
use Rattle.hm_model.specs.View.{View, When, Now, AsOf}
use Rattle.hm_model.specs.Volume.{PseudoFileSystem, Volume, Master, Slave, system_of}
use Rattle.hm_records.specs.View.{IsViewOf}
use Rattle.hm_volume.specs.Records.{HaveRecords}

-- What a PFS shows now: a master what its elements make as of the volume's last id, a slave what they make as of its
-- sync end, and a slave without one nothing.
pub record IsTreeNow (es : List FullElement) (last pfs : ℕ) (s : PseudoFileSystem) (tree : FileTree) : Type 0 where
  pub master : s.role ≡ Master → IsViewOf es pfs last tree
  pub slave : s.role ≡ Slave → 0 < s.sync_end → IsViewOf es pfs s.sync_end tree
  pub unsynced : s.role ≡ Slave → s.sync_end ≡ 0 → tree ≡ no_tree

-- The trees of a view are those of the elements: for each PFS what it shows now, and its tree as of each id up to the
-- last one that it keeps. A number without a PFS has no objects.
pub record AreTrees (es : List FullElement) (volume : Volume) (view : View) : Type 0 where
  pub now : (pfs : ℕ) (s : PseudoFileSystem) → system_of volume pfs ≡ Some s → IsTreeNow es volume.last pfs s (view pfs Now)
  pub kept : (pfs t : ℕ) (s : PseudoFileSystem) → system_of volume pfs ≡ Some s → Keeps s.retention t → t ≤ volume.last
      → IsViewOf es pfs t (view pfs (AsOf t))
  pub none : (pfs : ℕ) (when : When) → system_of volume pfs ≡ None → view pfs when ≡ no_tree

-- The elements show this volume, in these trees. Each of their ids fits the 8 bytes that a node has for it.
pub record ShowsAs (es : List FullElement) (volume : Volume) (view : View) : Type 0 where
  pub ids : IsBelow (2 ^ 64) es
  pub records : HaveRecords es volume
  pub own : All (λ s. system_of volume s.number ≡ Some s) volume.systems
  pub trees : AreTrees es volume view

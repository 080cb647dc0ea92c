-- A volume: its pseudo file systems, each with every tree that it had.
use Rattle.std.specs.Prelude.{ℕ, ◌++◌, List, [], ◌∷◌, Bool, true, Option, ◌==◌, if◌then◌else◌, map, find}
use Rattle.std.specs.Bool.{nat_le}
use Rattle.std.specs.Option.{option_map_or}
use Rattle.hm_types.specs.Intervals.{open_end}
use Rattle.hm_types.specs.Tree.{FileTree, root_tree, no_tree}

-- a master changes by calls, a slave by mirroring alone
pub data Role : Type 0 where
  Master : Role
  Slave : Role

-- where a slave's elements come from: nowhere yet, from the master with this number on this volume,
-- from the foreign master with this key, or from more than one
pub data Origin : Type 0 where
  Nowhere : Origin
  Local : ℕ → Origin
  Foreign : ℕ → Origin
  Mixed : Origin

-- A pseudo file system: its number; its role; the shared id by which a master and its slaves know one
-- another; its retention as intervals of ids, first and last; the end of its last pass, for a slave;
-- its versions as (first id, tree), with rising ids; where a slave's elements come from; and whether
-- its trees are its master's for certain.
pub record PseudoFileSystem : Type 0 where
  pub number : ℕ
  pub role : Role
  pub shared : ℕ
  pub retention : List (ℕ × ℕ)
  pub sync_end : ℕ
  pub versions : List (ℕ × FileTree)
  pub origin : Origin
  pub clear : Bool

pub record Volume : Type 0 where
  pub bigblocks : ℕ
  pub last : ℕ
  pub systems : List PseudoFileSystem

-- a master with these versions, which keeps every id
abbrev pub new_master : ℕ → ℕ → List (ℕ × FileTree) → PseudoFileSystem
new_master number shared versions = record {
  number = number;
  role = Master;
  shared = shared;
  retention = (1, open_end) ∷ [];
  sync_end = 0;
  versions = versions;
  origin = Nowhere;
  clear = true;
}

-- a volume as it is made: one master, whose tree is the root alone, and the id 1 drawn
abbrev pub fresh : ℕ → Volume
fresh bigblocks = record {
  bigblocks = bigblocks;
  last = 1;
  systems = new_master 0 0 ((1, root_tree) ∷ []) ∷ [];
}

-- a volume as it is made, but with this last id and this tree
abbrev pub fresh_with : ℕ → ℕ → FileTree → Volume
fresh_with bigblocks last tree = record {
  bigblocks = bigblocks;
  last = last;
  systems = new_master 0 0 ((0, tree) ∷ []) ∷ [];
}

-- the tree of the last of these versions whose first id is at most t, and before the first one this tree
abbrev pub as_of : ℕ → FileTree → List (ℕ × FileTree) → FileTree
as_of t tree [] = tree
as_of t tree (v ∷ vs) = as_of t (if nat_le v.0 t then v.1 else tree) vs

-- the pseudo file system with this number
abbrev pub system_of : Volume → ℕ → Option PseudoFileSystem
system_of volume pfs = find (λ s. s.number == pfs) volume.systems

-- the tree of a PFS as of an id
abbrev pub at : Volume → ℕ → ℕ → FileTree
at volume pfs t = option_map_or (λ s. as_of t no_tree s.versions) (system_of volume pfs) no_tree

-- the id as of which a PFS is shown now
abbrev pub shown_id : ℕ → PseudoFileSystem → ℕ
shown_id last s = elim s.role [ Master ↦ last | Slave ↦ s.sync_end ]

-- the tree of a PFS now
abbrev pub shown : Volume → ℕ → FileTree
shown volume pfs =
    option_map_or
    (λ s. as_of (shown_id volume.last s) no_tree s.versions)
    (system_of volume pfs)
    no_tree

-- the PFS with one more version, from this id on
abbrev pub add_version : ℕ → FileTree → PseudoFileSystem → PseudoFileSystem
add_version first tree s = record s { versions = s.versions ++ (first, tree) ∷ [] }

-- the volume with one more version of the PFS with this number
abbrev pub with_version : Volume → ℕ → ℕ → FileTree → Volume
with_version volume pfs first tree = record volume {
  systems = map (λ s. if s.number == pfs then add_version first tree s else s) volume.systems;
}

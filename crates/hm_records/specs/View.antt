-- The tree of a pseudo file system, by what counts. It is said as sets: which objects and which triples there are,
-- and not how any of them is found.
use Rattle.std.specs.Prelude.{◌≡◌, ◌↔◌, ◌⊎◌, ℕ, ◌+◌, ◌-◌, ◌*◌, ◌/◌, ◌<◌, ◌≤◌, Bool, List, [], ◌∷◌, length, slice_index, IsTrue}
use Rattle.std.specs.List.{All, Contains}
use Rattle.hm_types.specs.Elements.{FullElement}
use Rattle.hm_types.specs.Tree.{FileTree, is_object_before, is_triple_before}
use Rattle.hm_types.specs.declared.id.Obj.{Obj}
use Rattle.hm_types.specs.declared.limits.TheConstants.{BLOCK_BYTES}
use Rattle.hm_types.specs.declared.object.Object.{Object}
use Rattle.hm_types.specs.declared.object.Triple.{Triple}
use Rattle.hm_types.specs.declared.object.Kind.{Kind}
use Rattle.hm_types.specs.declared.object.Kind.TheVariants.{Directory, File, Softlink, PfsLink}
use Rattle.hm_types.specs.declared.object.Content.{Content as Held}
use Rattle.hm_types.specs.declared.object.Content.TheVariants.{Nothing, File as of_file, Target, Linked}
use Rattle.hm_key.specs.Counts.{Content, Counts, inode_subject, bytes_subject, entry_subject, target_subject}
use Rattle.hm_records.specs.Entry.{IsEntry, entry_bytes}
use Rattle.hm_records.specs.Inode.{IsInode, inode_bytes}
use Rattle.hm_records.specs.declared.inode.Inode.{Inode}
use Rattle.hm_records.specs.declared.kind.TheConstants.{DIRECTORY, FILE, SOFTLINK, PFS_LINK}

-- the number of a kind
abbrev pub kind_number : Kind → ℕ
kind_number Directory = DIRECTORY
kind_number File = FILE
kind_number Softlink = SOFTLINK
kind_number PfsLink = PFS_LINK

-- an offset ends bytes of this block of a file
pub record EndsInBlock (block end : ℕ) : Type 0 where
  pub from : block * BLOCK_BYTES < end
  pub to : end ≤ block * BLOCK_BYTES + BLOCK_BYTES

-- In a block of a file of a size, bytes that end at `a` show rather than bytes that end at `b`: of those that end within the
-- file the last ones, and only where none do the first ones that end past it.
abbrev pub ShowsRather : ℕ → ℕ → ℕ → Type 0
ShowsRather size a b = ((a ≤ size) × ((b ≤ a) ⊎ (size < b))) ⊎ ((size < a) × (a ≤ b))

-- of the bytes of a file of a size that count in a block, those that end at `end` are the ones that show
pub record ShowsInBlock (counts : Content) (pfs obj size block end : ℕ) (bytes : List ℕ) : Type 0 where
  pub there : counts (bytes_subject pfs obj end) bytes
  pub place : EndsInBlock block end
  pub rather : (other : ℕ) (others : List ℕ) → counts (bytes_subject pfs obj other) others → EndsInBlock block other → ShowsRather size end other

-- none of the bytes of a file count in a block
abbrev pub HasNoBytes : Content → ℕ → ℕ → ℕ → Type 0
HasNoBytes counts pfs obj block = (end : ℕ) (bytes : List ℕ) → counts (bytes_subject pfs obj end) bytes → EndsInBlock block end → ⊥

-- Byte `x` of a file of a size: the bytes that show in its block have it, where they reach over it. Where they do not, and
-- where none count there, it is zero.
pub data IsFileByte (counts : Content) (pfs obj size x byte : ℕ) : Type 0 where
  covered : (end : ℕ) (bytes : List ℕ) → ShowsInBlock counts pfs obj size (x / BLOCK_BYTES) end bytes → x < end → end ≤ x + length bytes
      → byte ≡ slice_index bytes (x + length bytes - end) → IsFileByte counts pfs obj size x byte
  beside : (end : ℕ) (bytes : List ℕ) → ShowsInBlock counts pfs obj size (x / BLOCK_BYTES) end bytes → (end ≤ x) ⊎ (x + length bytes < end)
      → byte ≡ 0 → IsFileByte counts pfs obj size x byte
  none : HasNoBytes counts pfs obj (x / BLOCK_BYTES) → byte ≡ 0 → IsFileByte counts pfs obj size x byte

-- the bytes of a file: as many as its inode says
pub record AreFileBytes (counts : Content) (pfs obj size : ℕ) (bytes : List ℕ) : Type 0 where
  pub sized : length bytes ≡ size
  pub each : (x : ℕ) → x < size → IsFileByte counts pfs obj size x (slice_index bytes x)

-- The target of a softlink: the bytes of its target, or none where there is no target.
pub data IsTargetOf (counts : Content) (pfs obj : ℕ) (text : List ℕ) : Type 0 where
  held : counts (target_subject pfs obj) text → IsTargetOf counts pfs obj text
  missing : ((bytes : List ℕ) → counts (target_subject pfs obj) bytes → ⊥) → text ≡ [] → IsTargetOf counts pfs obj text

-- what an object holds, by its inode
abbrev pub IsHeld : Content → ℕ → ℕ → Inode → Held → Type 0
IsHeld counts pfs obj inode Nothing = inode.kind ≡ DIRECTORY
IsHeld counts pfs obj inode (of_file bytes) = (inode.kind ≡ FILE) × AreFileBytes counts pfs obj inode.size bytes
IsHeld counts pfs obj inode (Target text) = (inode.kind ≡ SOFTLINK) × IsTargetOf counts pfs obj text
IsHeld counts pfs obj inode (Linked other) = (inode.kind ≡ PFS_LINK) × (other ≡ inode.pfs)

-- An object: its inode counts. Its links are as many as the inode says, whatever names lead to it.
pub record IsObject (counts : Content) (pfs : ℕ) (o : Object) : Type 0 where
  pub inode : Inode
  pub ranges : IsInode inode
  pub there : counts (inode_subject pfs o.number.0) (inode_bytes inode)
  pub kind : inode.kind ≡ kind_number o.kind
  pub links : o.links ≡ inode.links
  pub holds : IsHeld counts pfs o.number.0 inode o.content

-- a directory has an entry with this key, that leads to an object under a name
pub record HasEntry (counts : Content) (pfs : ℕ) (directory : Obj) (key : ℕ) (name : List ℕ) (object : Obj) : Type 0 where
  pub ranges : IsEntry (record { obj = object; name = name })
  pub there : counts (entry_subject pfs directory.0 key) (entry_bytes (record { obj = object; name = name }))

-- A triple: its entry counts, and is the first in the order of keys of those with its name. It makes no difference
-- whether its directory or its object has an inode.
pub record IsTriple (counts : Content) (pfs : ℕ) (t : Triple) : Type 0 where
  pub key : ℕ
  pub there : HasEntry counts pfs t.directory key t.name t.object
  pub first : (other : ℕ) (object : Obj) → HasEntry counts pfs t.directory other t.name object → key ≤ other

-- each element of a list goes before all that follow it
abbrev pub AreInOrder : {X : Type 0} → (X → X → Bool) → List X → Type 0
AreInOrder before [] = Unit {0}
AreInOrder before (x ∷ xs) = All (λ y. IsTrue (before x y)) xs × AreInOrder before xs

-- The tree of what counts: its objects and its triples, in their order.
pub record IsView (counts : Content) (pfs : ℕ) (tree : FileTree) : Type 0 where
  pub objects_rise : AreInOrder is_object_before tree.objects
  pub objects : (o : Object) → Contains tree.objects o ↔ IsObject counts pfs o
  pub triples_rise : AreInOrder is_triple_before tree.triples
  pub triples : (t : Triple) → Contains tree.triples t ↔ IsTriple counts pfs t

-- the tree of a pseudo file system as of an id
abbrev pub IsViewOf : List FullElement → ℕ → ℕ → FileTree → Type 0
IsViewOf es pfs t = IsView (Counts es t) pfs

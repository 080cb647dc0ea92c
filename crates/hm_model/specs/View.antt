-- The trees that a call sees.
use Rattle.std.specs.Prelude.{ℕ, ◌-◌, List, [], ◌∷◌, Bool, true, false, Option, Some, None, ◌==◌, ◌&&◌, if◌then◌else◌}
use Rattle.std.specs.Option.{option_map_or}
use Rattle.hm_types.specs.declared.id.Obj.{Obj}
use Rattle.hm_types.specs.declared.object.Object.{Object}
use Rattle.hm_types.specs.Tree.{FileTree, object_in}
use Rattle.hm_model.specs.Volume.{Volume, PseudoFileSystem, system_of, at, shown}

-- as of when a tree is seen: now, or as of an id
pub data When : Type 0 where
  Now : When
  AsOf : ℕ → When

-- whether two are the same
abbrev pub is_when : When → When → Bool
is_when Now Now = true
is_when (AsOf t) (AsOf u) = t == u
is_when Now (AsOf u) = false
is_when (AsOf t) Now = false

-- what a walk looks its objects up in: a tree for each PFS, as of when
abbrev pub View : Type 0
View = ℕ → When → FileTree

-- the trees of a volume
abbrev pub own_tree : Volume → View
own_tree volume pfs Now = shown volume pfs
own_tree volume pfs (AsOf t) = at volume pfs t

-- A tree that stands for that of a PFS whose trees are not its master's for certain. What such a PFS shows
-- is not known beforehand.
pub record Substitute : Type 0 where
  pub pfs : ℕ
  pub when : When
  pub tree : FileTree

-- the tree among these that stands for that of a PFS as of when, or else this one
abbrev pub substituted : List Substitute → ℕ → When → FileTree → FileTree
substituted [] pfs when tree = tree
substituted (s ∷ ss) pfs when tree =
    if (s.pfs == pfs) && is_when s.when when then s.tree else substituted ss pfs when tree

-- whether the trees of a PFS are certain
abbrev pub is_clear : Volume → ℕ → Bool
is_clear volume pfs = option_map_or (λ s. s.clear) (system_of volume pfs) true

-- the trees of a volume, with these in place of those that are not certain
abbrev pub view_of : Volume → List Substitute → View
view_of volume substitutes pfs when =
    if is_clear volume pfs then own_tree volume pfs when
    else substituted substitutes pfs when (own_tree volume pfs when)

-- where a walk stands: in an object of a PFS, as of when
pub record Position : Type 0 where
  pub pfs : ℕ
  pub object : Obj
  pub when : When

-- the object at a position, if its view has it
abbrev pub object_at : View → Position → Option Object
object_at view here = object_in (view here.pfs here.when) here.object

-- What is told of the tree that the elements of a store show.
use Rattle.std.specs.Prelude.{◌≡◌, ℕ, List, Option}
use Rattle.hm_types.specs.Tree.{FileTree}
use Rattle.hm_types.specs.declared.id.Obj.{Obj}
use Rattle.hm_types.specs.declared.object.Object.{Object}
use Rattle.hm_key.specs.Counts.{Counts}
use Rattle.hm_key.specs.Extents.{Extent}
use Rattle.hm_key.specs.declared.element.Element.{Element}
use Rattle.hm_model.specs.Answer.{size_of}
use Rattle.hm_records.specs.KeysFit.{KeysFit}
use Rattle.hm_records.specs.View.{IsViewOf}
use Rattle.hm_records.specs.declared.inode.Inode.{Inode}
use Rattle.hm_volume.specs.Found.{IsMadeBy}
use Rattle.hm_cursor.specs.Names.{IsHash}
use Rattle.hm_cursor.specs.Told.{Lists, OnBalanced, fulls}

-- a fact of the tree of a pseudo file system as of `t`, where the keys of entries fit their names by some hash
abbrev pub OnTrees : Option (List Element) → Option (List Extent) → ℕ → ℕ → (Lists → FileTree → Type 0) → Type 0
OnTrees es xs pfs t P =
    OnBalanced es xs (λ lists. (hash : List ℕ → ℕ) → IsHash hash → KeysFit hash (fulls lists)
    → (tree : FileTree) → IsViewOf (fulls lists) pfs t tree → P lists tree)

-- an object of this number that the inode makes has this size
abbrev pub IsSize : ℕ → ℕ → Obj → Inode → ℕ → Lists → FileTree → Type 0
IsSize t pfs number inode size lists tree =
    (o : Object) → o.number ≡ number → IsMadeBy (Counts (fulls lists) t) pfs inode o → size ≡ size_of tree o

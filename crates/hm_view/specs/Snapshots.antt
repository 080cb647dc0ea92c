-- The ids that the softlinks of a directory name.
use Rattle.std.specs.Prelude.{ℕ, if◌then◌else◌, Option, None, Some}
use Rattle.std.specs.Bool.{nat_le}
use Rattle.std.specs.Option.{option_map_or}
use Rattle.hm_types.specs.Tree.{FileTree, object_in}
use Rattle.hm_types.specs.declared.id.Id.{Id}
use Rattle.hm_types.specs.declared.id.Obj.{Obj}
use Rattle.hm_types.specs.declared.object.Object.{Object}
use Rattle.hm_model.specs.Cut.{id_in}

-- the number of an id, if there is one
abbrev pub id_number : Option Id → Option ℕ
id_number None = None
id_number (Some id) = Some id.0

-- the id that an object of a tree names, if it is there and names one
abbrev pub object_id : FileTree → Obj → Option ℕ
object_id tree number = option_map_or (λ (o : Object). id_in o.content) (object_in tree number) None

-- an id that is not above the shown one
abbrev pub visible_id : ℕ → Option ℕ → Option ℕ
visible_id shown None = None
visible_id shown (Some id) = if nat_le id shown then Some id else None

-- A tree: its objects, and which directory has which object under which name.
use Rattle.std.specs.Prelude.{ℕ, ◌-◌, List, [], ◌∷◌, Bool, true, false, Option, ◌==◌, ◌&&◌, if◌then◌else◌, filter, find, map, option_map}
use Rattle.std.specs.Bool.{nat_lt}
use Rattle.std.specs.List.{list_any}
use Rattle.std.specs.Ordering.{nat_cmp, ordering_then, is_lt}
use Rattle.std.specs.Cmp.Lexicographic.{slice_cmp}
use Rattle.std.specs.Str.{bytes_eq}
use Rattle.hm_types.specs.declared.id.Obj.{Obj}
use Rattle.hm_types.specs.declared.object.Object.{Object}
use Rattle.hm_types.specs.declared.object.Triple.{Triple}
use Rattle.hm_types.specs.declared.object.Content.{Content}
use Rattle.hm_types.specs.declared.object.Kind.TheVariants.{Directory}
use Rattle.hm_types.specs.declared.object.Content.TheVariants.{Nothing}

-- the objects rise by number, the triples by directory and then by the bytes of the name
pub record FileTree : Type 0 where
  pub objects : List Object
  pub triples : List Triple

-- the number of every root directory
abbrev pub root_number : Obj
root_number = record { 0 = 1 }

-- a directory of its own, with one link
abbrev pub directory_of : Obj → Object
directory_of number = record { number = number; kind = Directory; content = Nothing; links = 1 }

-- the tree of a new volume: the root directory, with no entry
abbrev pub root_tree : FileTree
root_tree = record { objects = directory_of root_number ∷ []; triples = [] }

-- the tree without objects
abbrev pub no_tree : FileTree
no_tree = record { objects = []; triples = [] }

-- the triple stands for this directory's entry of this name
abbrev pub is_named : Obj → List ℕ → Triple → Bool
is_named directory name t = (t.directory.0 == directory.0) && bytes_eq t.name name

-- whether the directory has an entry of this name
abbrev pub has_name : FileTree → Obj → List ℕ → Bool
has_name tree directory name = list_any (is_named directory name) tree.triples

-- the list with one more element, in front of the first that it goes before
abbrev pub insert_by : {X : Type 0} → (X → X → Bool) → X → List X → List X
insert_by before x [] = x ∷ []
insert_by before x (y ∷ ys) = if before x y then x ∷ y ∷ ys else y ∷ insert_by before x ys

-- the order of objects
abbrev pub is_object_before : Object → Object → Bool
is_object_before o p = nat_lt o.number.0 p.number.0

-- the order of triples
abbrev pub is_triple_before : Triple → Triple → Bool
is_triple_before t u =
    is_lt (ordering_then (nat_cmp t.directory.0 u.directory.0) (slice_cmp nat_cmp t.name u.name))

-- the tree with one more object, which the directory has under this name
abbrev pub with_object : FileTree → Obj → List ℕ → Object → FileTree
with_object tree directory name object = record {
  objects = insert_by is_object_before object tree.objects;
  triples = insert_by is_triple_before
      (record { directory = directory; name = name; object = object.number })
      tree.triples;
}

-- the object with this number, if the tree has it
abbrev pub object_in : FileTree → Obj → Option Object
object_in tree number = find (λ o. o.number.0 == number.0) tree.objects

-- the number of the object that a directory has under a name
abbrev pub named_in : FileTree → Obj → List ℕ → Option Obj
named_in tree directory name = option_map (λ t. t.object) (find (is_named directory name) tree.triples)

-- the entries of a directory
abbrev pub entries_in : FileTree → Obj → List Triple
entries_in tree directory = filter (λ t. t.directory.0 == directory.0) tree.triples

-- those elements of a list that fail a test
abbrev pub without : {X : Type 0} → (X → Bool) → List X → List X
without test xs = filter (λ x. if test x then false else true) xs

-- the tree with one entry more
abbrev pub with_name : FileTree → Obj → List ℕ → Obj → FileTree
with_name tree directory name object = record tree {
  triples = insert_by is_triple_before
      (record { directory = directory; name = name; object = object })
      tree.triples;
}

-- the tree without this entry
abbrev pub without_name : FileTree → Obj → List ℕ → FileTree
without_name tree directory name = record tree { triples = without (is_named directory name) tree.triples }

-- the tree without the object with this number
abbrev pub without_object : FileTree → Obj → FileTree
without_object tree number = record tree { objects = without (λ o. o.number.0 == number.0) tree.objects }

-- the tree with a change of the object with this number
abbrev pub with_change : FileTree → Obj → (Object → Object) → FileTree
with_change tree number change =
    record tree { objects = map (λ o. if o.number.0 == number.0 then change o else o) tree.objects }

-- an object with so many links
abbrev pub with_links : ℕ → Object → Object
with_links links object = record object { links = links }

-- an object that holds something else
abbrev pub holding : Content → Object → Object
holding content object = record object { content = content }

-- the tree in which a link less leads to an object; with the last one the object is gone
abbrev pub without_link : FileTree → Object → FileTree
without_link tree object =
    if nat_lt 1 object.links then with_change tree object.number (with_links (object.links - 1))
    else without_object tree object.number

-- an entry is removed, as `rm` does it: its object has a link less
abbrev pub without_entry : FileTree → Obj → List ℕ → Object → FileTree
without_entry tree directory name object = without_link (without_name tree directory name) object

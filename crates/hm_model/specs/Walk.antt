-- Walks along the parts of a path.
use Rattle.std.specs.Prelude.{ℕ, List, [], ◌∷◌, ◌++◌, Bool, true, false, Option, Some, None, ◌&&◌, if◌then◌else◌}
use Rattle.std.specs.Bool.{nat_le}
use Rattle.std.specs.List.{list_any}
use Rattle.std.specs.Option.{option_map_or}
use Rattle.hm_types.specs.declared.id.Id.{Id}
use Rattle.hm_types.specs.declared.id.Obj.{Obj}
use Rattle.hm_path.specs.declared.part.Part.{Part}
use Rattle.hm_types.specs.declared.object.Object.{Object}
use Rattle.hm_types.specs.declared.object.Kind.{Kind}
use Rattle.hm_types.specs.declared.object.Kind.TheVariants.{Directory, File, Softlink, PfsLink}
use Rattle.hm_types.specs.declared.object.Content.{Content}
use Rattle.hm_types.specs.declared.object.Content.TheVariants.{Nothing, File as Bytes, Target, Linked}
use Rattle.hm_model.specs.declared.reply.Reply.{Reply}
use Rattle.hm_model.specs.declared.reply.Reply.TheVariants.{NotFound, NotDir, NotRetained}
use Rattle.hm_types.specs.Tree.{FileTree, root_number, named_in, object_in}
use Rattle.hm_model.specs.Volume.{Volume, system_of}
use Rattle.hm_model.specs.View.{View, When, Now, AsOf, Position, object_at}

-- what becomes of a PFS link that the last part names: the walk stays at the link, or goes on to the root
-- of its PFS, or takes its PFS without a look at that root
pub data Follow : Type 0 where
  Stays : Follow
  Follows : Follow
  TakesPfs : Follow

-- The objects that a walk passed, as pairs of PFS and number: objects of two PFS are two. A walk has entered the
-- PFS of these objects.
abbrev pub Passed : Type 0
Passed = List (ℕ × ℕ)

-- how a walk comes out: at an end, or refused, with what it passed
pub data Walked : Type 0 where
  Reaches : Position → Passed → Walked
  Refuses : Reply → Passed → Walked

-- goes on from where a walk came to, unless it was refused
abbrev pub and_then : Walked → (Position → Passed → Walked) → Walked
and_then (Reaches here passed) next = next here passed
and_then (Refuses reply passed) next = Refuses reply passed

-- whether an interval of ids holds the id
abbrev pub holds : ℕ → ℕ × ℕ → Bool
holds id interval = nat_le interval.0 id && nat_le id interval.1

-- whether a PFS keeps an id
abbrev pub is_kept : Volume → ℕ → ℕ → Bool
is_kept volume pfs id = option_map_or (λ s. list_any (holds id) s.retention) (system_of volume pfs) false

-- whether a PFS keeps what is seen as of then
abbrev pub is_seen : Volume → ℕ → When → Bool
is_seen volume pfs Now = true
is_seen volume pfs (AsOf id) = is_kept volume pfs id

-- whether an object is a directory
abbrev pub is_directory : Object → Bool
is_directory object = elim object.kind [ Directory ↦ true | File ↦ false | Softlink ↦ false | PfsLink ↦ false ]

-- the PFS that an object leads to, if it is a PFS link
abbrev pub linked_in : Content → Option ℕ
linked_in (Linked pfs) = Some pfs.0
linked_in Nothing = None
linked_in (Bytes bytes) = None
linked_in (Target text) = None

-- the root of a PFS
abbrev pub root_of : ℕ → When → Position
root_of pfs when = record { pfs = pfs; object = root_number; when = when }

-- the walk comes to this position
abbrev pub reach : Position → Passed → Walked
reach here passed = Reaches here (passed ++ (here.pfs, here.object.0) ∷ [])

-- A walk that comes to the root of a PFS that a link leads to has entered that PFS: there must be such a PFS.
-- Then it must keep the id that is in force, and its view must have a root.
abbrev pub look_at_root : Volume → View → Position → Passed → Walked
look_at_root volume view here passed =
    if is_seen volume here.pfs here.when
    then option_map_or (λ _. Reaches here passed) (object_at view here) (Refuses NotFound passed)
    else Refuses NotRetained passed

abbrev pub enter_root : Volume → View → ℕ → When → Passed → Walked
enter_root volume view pfs when passed = and_then (reach (root_of pfs when) passed) (look_at_root volume view)

abbrev pub enter : Volume → View → ℕ → When → Passed → Walked
enter volume view pfs when passed =
    option_map_or (λ _. enter_root volume view pfs when passed) (system_of volume pfs) (Refuses NotFound passed)

-- the PFS that a link leads to, without a look at its root: so it is not entered
abbrev pub take_pfs : Volume → ℕ → When → Passed → Walked
take_pfs volume pfs when passed =
    option_map_or (λ _. Reaches (root_of pfs when) passed) (system_of volume pfs) (Refuses NotFound passed)

-- from a PFS link
abbrev pub over_link : Volume → View → Follow → ℕ → Position → Passed → Walked
over_link volume view Stays pfs here passed = Reaches here passed
over_link volume view Follows pfs here passed = enter volume view pfs here.when passed
over_link volume view TakesPfs pfs here passed = take_pfs volume pfs here.when passed

-- from an object that was found
abbrev pub from_found : Volume → View → Follow → Object → Position → Passed → Walked
from_found volume view mode object here passed =
    option_map_or (λ pfs. over_link volume view mode pfs here passed) (linked_in object.content) (Reaches here passed)

-- to the object with this number, which the view must have
abbrev pub find_object : Volume → View → Follow → Position → Passed → Walked
find_object volume view mode here passed =
    option_map_or (λ object. and_then (reach here passed) (from_found volume view mode object))
    (object_at view here) (Refuses NotFound passed)

-- to a name in the directory in hand
abbrev pub find_name : Volume → View → Follow → List ℕ → Position → Passed → Walked
find_name volume view mode name here passed =
    option_map_or (λ number. find_object volume view mode (record here { object = number }) passed)
    (named_in (view here.pfs here.when) here.object name) (Refuses NotFound passed)

-- by the name of a part, if it has one: the object in hand must be a directory
abbrev pub by_name : Volume → View → Follow → Option (List ℕ) → Position → Passed → Walked
by_name volume view mode None here passed = Reaches here passed
by_name volume view mode (Some name) here passed =
    if option_map_or is_directory (object_at view here) false
    then find_name volume view mode name here passed
    else Refuses NotDir passed

-- by the id of a part, if it has one: the PFS in hand must keep it, and its view have the object in hand
abbrev pub by_id : Volume → View → Option Id → Position → Passed → Walked
by_id volume view None here passed = Reaches here passed
by_id volume view (Some id) here passed =
    if is_kept volume here.pfs id.0
    then option_map_or (λ _. Reaches (record here { when = AsOf id.0 }) passed)
    (object_at view (record here { when = AsOf id.0 })) (Refuses NotFound passed)
    else Refuses NotRetained passed

-- one part: its id first, then its name
abbrev pub step : Volume → View → Follow → Part → Position → Passed → Walked
step volume view mode part here passed =
    and_then (by_id volume view part.as_of here passed) (by_name volume view mode part.name)

-- what becomes of a PFS link where these parts follow: one that is not last is followed
abbrev pub follow_before : Follow → List Part → Follow
follow_before mode [] = mode
follow_before mode (part ∷ parts) = Follows

-- a walk that goes on over these parts
abbrev pub walk_on : Volume → View → Follow → List Part → Position → Passed → Walked
walk_on volume view mode [] here passed = Reaches here passed
walk_on volume view mode (part ∷ parts) here passed =
    and_then (step volume view (follow_before mode parts) part here passed)
    (λ there more. walk_on volume view mode parts there more)

-- where each walk starts: in the root of PFS 0, now
abbrev pub start : Position
start = root_of 0 Now

-- the walk of a path
abbrev pub walk : Volume → View → Follow → List Part → Walked
walk volume view mode parts = walk_on volume view mode parts start ((0, 1) ∷ [])

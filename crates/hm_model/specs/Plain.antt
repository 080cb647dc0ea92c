-- One tree alone: the volume whose one PFS has it, and calls on that.
use Rattle.std.specs.Prelude.{◌≡◌, ℕ, List, [], ◌∷◌, Bool, true, false, Option, Some, None, ◌==◌, if◌then◌else◌, All, map}
use Rattle.std.specs.Option.{option_map_or}
use Rattle.hm_types.specs.declared.id.Obj.{Obj}
use Rattle.hm_path.specs.Path.{IsPath}
use Rattle.hm_path.specs.declared.part.Part.{Part}
use Rattle.hm_model.specs.declared.reply.Reply.{Reply}
use Rattle.hm_model.specs.declared.stop.PlainStop.{PlainStop}
use Rattle.hm_model.specs.declared.stop.PlainStop.TheVariants.{Refused, NoMemory}
use Rattle.hm_model.specs.declared.place.Place.{Place}
use Rattle.hm_model.specs.declared.walk.Walk.{Walk}
use Rattle.hm_model.specs.Reply.{is_refusal}
use Rattle.hm_types.specs.Tree.{FileTree, no_tree}
use Rattle.hm_model.specs.Volume.{Volume, fresh_with}
use Rattle.hm_model.specs.View.{View, Position, Now}
use Rattle.hm_model.specs.Walk.{Follow, Stays, Follows, Walked, Reaches, Refuses, Passed, walk, step, find_name, find_object, enter}
use Rattle.hm_model.specs.Sites.{Use, MakesName, Walks, Parsed, Parts, IsParsed, Site, Located, At, locate}
use Rattle.hm_model.specs.Due.{good_path, has_id, walks}

-- the volume whose one PFS has this tree
abbrev pub plain_volume : FileTree → Volume
plain_volume tree = fresh_with 0 0 tree

-- what it shows: the tree in PFS 0, and nothing elsewhere
abbrev pub plain_view : FileTree → View
plain_view tree pfs when = if 0 == pfs then tree else no_tree

-- an object of PFS 0, as of now
abbrev pub place : Obj → Position
place number = record { pfs = 0; object = number; when = Now }

-- objects of PFS 0 that a walk passed
abbrev pub pairs : List Obj → Passed
pairs objects = map (λ (o : Obj). (0, o.0)) objects

-- whether a link at the end is followed
abbrev pub follow_of : Bool → Follow
follow_of true = Follows
follow_of false = Stays

-- the part has no id
abbrev pub IsOfNow : Part → Type 0
IsOfNow part = part.as_of ≡ None

-- the walk of a path on one tree
abbrev pub walk_in : FileTree → Bool → List Part → Walked
walk_in tree follows parts = walk (plain_volume tree) (plain_view tree) (follow_of follows) parts

-- its steps, from where a walk stands: over a part, to a name, to an object, and over a PFS link
abbrev pub step_in : FileTree → Bool → Part → Walk → Walked
step_in tree follows part w =
    step (plain_volume tree) (plain_view tree) (follow_of follows) part (place w.here) (pairs w.passed.items)

abbrev pub name_in : FileTree → Bool → List ℕ → Walk → Walked
name_in tree follows name w =
    find_name (plain_volume tree) (plain_view tree) (follow_of follows) name (place w.here) (pairs w.passed.items)

abbrev pub object_on : FileTree → Bool → Obj → Walk → Walked
object_on tree follows number w =
    find_object (plain_volume tree) (plain_view tree) (follow_of follows) (place number) (pairs w.passed.items)

abbrev pub entered_in : FileTree → ℕ → Walk → Walked
entered_in tree pfs w = enter (plain_volume tree) (plain_view tree) pfs Now (pairs w.passed.items)

-- a walk comes to this end
abbrev pub EndsWalk : Walked → Walk → Type 0
EndsWalk walked w = walked ≡ Reaches (place w.here) (pairs w.passed.items)

-- the refusal of a walk, if it is refused
abbrev pub refusal_in : Walked → Option Reply
refusal_in (Reaches here passed) = None
refusal_in (Refuses reply passed) = Some reply

-- why a walk did not come to its end: it is refused so, or memory ran out
abbrev pub StopsWalk : Walked → PlainStop → Type 0
StopsWalk walked (Refused reply) = refusal_in walked ≡ Some reply
StopsWalk walked NoMemory = Unit {0}

-- what stops a call is a refusal, or memory ran out
abbrev pub IsRefusing : PlainStop → Type 0
IsRefusing (Refused reply) = is_refusal reply ≡ true
IsRefusing NoMemory = Unit {0}

-- a use of a path that needs a last name, or one that does not
abbrev pub use_needing : Bool → Use
use_needing true = MakesName
use_needing false = Walks Stays

-- the word is a path of these parts, none of which has an id, with a last name where one is needed
pub record IsRead (named : Bool) (word : List ℕ) (parts : List Part) : Type 0 where
  pub path : IsPath word parts
  pub of_now : All IsOfNow parts
  pub good : good_path (use_needing named) (Parts parts) ≡ None

-- why a word is not read: however it is read without an id, it is refused so; or memory ran out
abbrev pub IsUnread : Bool → List ℕ → PlainStop → Type 0
IsUnread named word (Refused reply) =
    (path : Parsed) → IsParsed word path → has_id path ≡ false → good_path (use_needing named) path ≡ Some reply
IsUnread named word NoMemory = Unit {0}

-- where a place stands, as a site
abbrev pub site_of : Place → Site
site_of p = record {
  at = place p.at;
  directory = place p.directory;
  name = p.name;
  passed = pairs p.passed.items;
}

-- where a path leads on one tree
abbrev pub locate_in : FileTree → Use → List Part → Located
locate_in tree u parts = locate (plain_volume tree) (plain_view tree) u parts

-- it leads to this place
abbrev pub LeadsTo : Located → Place → Type 0
LeadsTo located p = located ≡ At (site_of p)

-- why it leads nowhere: it is refused so, or memory ran out
abbrev pub LeadsNowhere : Located → PlainStop → Type 0
LeadsNowhere located (Refused reply) = walks located ≡ Some reply
LeadsNowhere located NoMemory = Unit {0}

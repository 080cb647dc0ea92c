-- What `ln` is asked, by where its walks led.
use Rattle.std.specs.Prelude.{◌≡◌, ◌==◌, ◌-◌, ◌^◌, ℕ, List, [], ◌∷◌, None, Some, false, if◌then◌else◌}
use Rattle.std.specs.Bool.{nat_le}
use Rattle.std.specs.Option.{option_map_or}
use Rattle.hm_types.specs.declared.object.Object.{Object}
use Rattle.hm_path.specs.declared.part.Part.{Part}
use Rattle.hm_model.specs.Caused.{on_a_name}
use Rattle.hm_model.specs.Due.{Check, is_dir_or_link, is_softlink, refuse_if}
use Rattle.hm_model.specs.Needs.{names_zones}
use Rattle.hm_model.specs.View.{object_at}
use Rattle.hm_model.specs.Walk.{Stays, walk}
use Rattle.hm_model.specs.declared.reply.Reply.TheVariants.{CrossPfs, IsDir, NotFile, TooBig}
use Rattle.hm_records.specs.View.{IsViewOf}
use Rattle.hm_dirs.specs.Walk.{IsRead, Scene, place_of}
use Rattle.hm_dirs.specs.declared.position.Stand.{Stand}
use Rattle.hm_calls.specs.Due.{space_for}
use Rattle.hm_calls.specs.Known.{AreBelow}
use Rattle.hm_calls.specs.Places.{refuse_kind}
use Rattle.hm_calls.specs.Scenes.{IsEnd, IsNewPlace, full_check, new_check, slave_check, tree_at}
use Rattle.hm_calls.specs.declared.links.Linked.{Linked}
use Rattle.hm_calls.specs.declared.stages.NewName.{NewName}

-- the numbers of the replies of a call that passed its words
abbrev pub on_a_link : List ℕ
on_a_link = 101 ∷ 4 ∷ 32 ∷ 11 ∷ 10 ∷ on_a_name

-- whether an object may have one more link
abbrev pub links_check : Scene → Stand → Check
links_check scene object = refuse_if (option_map_or (λ (o : Object). nat_le (2 ^ 32 - 1) o.links) (object_at scene.view (place_of object.at)) false) TooBig

-- The walks led to an object, and to a directory for the new name. This is in a master whose elements are older than `i`, and
-- is read as of the last id.
pub record IsLinked (parts more : List Part) (i : ℕ) (new : NewName) (found : Linked) (scene : Scene) : Type 0 where
  pub end : IsEnd scene Stays (walk scene.volume scene.view Stays parts) found.object
  pub place : IsNewPlace scene more new.name.now found.directory
  pub master : slave_check scene.volume found.directory.at.pfs.0 ≡ None
  pub below : AreBelow found.directory.at.pfs.0 i scene.elements
  pub last : found.directory.as_of ≡ scene.course.last

-- the object is read, and the tree of the directory
pub record AreSeen (found : Linked) (scene : Scene) : Type 0 where
  pub object : IsRead scene found.object
  pub tree : IsViewOf scene.elements found.directory.at.pfs.0 found.directory.as_of.0 (tree_at scene found.directory)

-- the checks after the walks, by where these led
abbrev pub link_checks : (List ℕ → ℕ) → (ℕ → ℕ) → ℕ → List ℕ → Linked → Scene → List Check
link_checks hash room free name found scene =
    refuse_kind is_dir_or_link IsDir (object_at scene.view (place_of found.object.at))
    ∷ refuse_kind is_softlink NotFile (object_at scene.view (place_of found.object.at))
    ∷ (if found.object.at.pfs.0 == found.directory.at.pfs.0 then None else Some CrossPfs)
    ∷ new_check scene found.directory name ∷ links_check scene found.object ∷ full_check hash scene found.directory name
    ∷ space_for names_zones 4 room free ∷ []

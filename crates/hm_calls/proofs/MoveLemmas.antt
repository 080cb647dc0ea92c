-- The checks of `mv`, and what it makes of a tree, by where its walks came to.
use Rattle.std.proofs.Common.{◌≡◌, ℕ, ◌+◌, ◌<◌, ◌≤◌, List, [], ◌∷◌, Bool, true, false, Option, Some, None, Result, refl, sym, ap, subst, ◌∙◌, arith}
use Rattle.std.specs.Prelude.{◌==◌, ◌&&◌, ◌||◌, IfSome, if◌then◌else◌}
use Rattle.std.specs.Bool.{nat_le}
use Rattle.std.specs.List.{list_any}
use Rattle.std.specs.Option.{option_map_or}
use Rattle.std.proofs.lemmas.Bool.{eq-eqb, eqb-true}
use Rattle.hm_types.specs.Elements.{FullElement}
use Rattle.hm_types.specs.Tree.{FileTree, named_in, object_in, with_name, without_entry, without_name}
use Rattle.hm_types.specs.declared.id.Obj.{Obj}
use Rattle.hm_types.specs.declared.id.Pfs.{Pfs}
use Rattle.hm_types.specs.declared.object.Object.{Object}
use Rattle.hm_path.specs.Path.{IsPath}
use Rattle.hm_path.specs.declared.part.Part.{Part}
use Rattle.hm_key.specs.Counts.{Counts}
use Rattle.hm_key.specs.Versions.{HaveOwnKeys}
use Rattle.hm_model.specs.Call.{Call, site_in}
use Rattle.hm_model.specs.Change.{changed, changed_pfs, moved_over, renamed}
use Rattle.hm_model.specs.Due.{Check, first_refusal, gives_way, hash_is_full, is_in_slave, is_passed, new_name, refuse_if, walks}
use Rattle.hm_model.specs.Needs.{names_zones}
use Rattle.hm_model.specs.Sites.{At, Located, MakesName, Parsed, Parts, ReadsWords, Site, TakesName, locate}
use Rattle.hm_model.specs.View.{Now, Position, When, object_at}
use Rattle.hm_model.specs.declared.command.Command.TheVariants.{Mv}
use Rattle.hm_model.specs.declared.reply.Reply.TheVariants.{CrossPfs, Exists, HashFull, IntoItself, ReadOnly}
use Rattle.hm_model.proofs.ReadLemmas.{read_once}
use Rattle.hm_records.specs.KeysFit.{KeysFit}
use Rattle.hm_records.specs.Payload.{KeyFits}
use Rattle.hm_records.specs.View.{HasEntry, IsViewOf, kind_number}
use Rattle.hm_records.proofs.NameLemmas.{same_obj}
use Rattle.hm_dirs.proofs.NamedLemmas.{entry_keys}
use Rattle.hm_dirs.specs.Names.{IsSpot, first_key, names_of_hash}
use Rattle.hm_dirs.specs.Walk.{Scene, place_of, when_of}
use Rattle.hm_dirs.specs.declared.position.Course.{Course}
use Rattle.hm_dirs.specs.declared.position.Stand.{Stand}
use Rattle.hm_dirs.specs.declared.spot.Spot.{Spot}
use Rattle.hm_calls.specs.Call.{IsCall}
use Rattle.hm_calls.specs.Changes.{ChangesTree, HasSystem, tree_now}
use Rattle.hm_calls.specs.Due.{space_for}
use Rattle.hm_calls.specs.Known.{AreBelow}
use Rattle.hm_calls.specs.Moves.{end_checks, leads_to, move_checks}
use Rattle.hm_calls.specs.Scenes.{is_slave}
use Rattle.hm_calls.specs.Stages.{AnswersAll, last_checks, place_checks}
use Rattle.hm_calls.specs.Stop.{Answers}
use Rattle.hm_calls.specs.declared.stop.Stop.{Stop}
use Rattle.hm_calls.specs.Writes.{AreOnePlace, IsOpen, Renames, ReplacesName, less_link, place_in, LeavesNothing}
use Rattle.hm_calls.proofs.EffectLemmas.{has_entry_then, opens, spot_fits, tree_changes, tree_stays, kinds_leading}
use Rattle.hm_calls.proofs.KindLemmas.{number_found, told_kind}
use Rattle.hm_calls.proofs.FrontLemmas.{passed_before, skips}
use Rattle.hm_calls.proofs.MakeLemmas.{IsNewPlace, full_check, new_system, new_view, tree_at}
use Rattle.hm_calls.proofs.RefusalLemmas.{IsFirst, pass, read_two}
use Rattle.hm_calls.proofs.RemoveLemmas.{master_check, taken_pfs}
use Rattle.hm_calls.proofs.SceneLemmas.{IsSet, call_in}
use Rattle.hm_calls.proofs.StageLemmas.{IsTakenName}
use Rattle.hm_calls.specs.Places.{IsKindOf}
use Rattle.hm_calls.proofs.TreeLemmas.{leaves_none, link_before, link_gone, link_kind, some_none}

-- ---- the checks after the walks, by where these led

-- what stands under the new name, by the number that it leads to
abbrev pub stands_under : FileTree → Option Obj → Option Object
stands_under tree found = option_map_or (λ number. object_in tree number) found None

-- whether it gives way
abbrev pub way_check : Call → Option Object → FileTree → Option Obj → Check
way_check call moved tree found =
    option_map_or (λ _. if option_map_or (λ there. option_map_or (λ m. gives_way call m there) moved false) (stands_under tree found) false then None else
    Some Exists)
    found None

-- whether it is the moved object
abbrev pub is_itself : Obj → Option Object → Bool
is_itself number standing = option_map_or (λ (there : Object). there.number.0 == number.0) standing false

-- an object stands there
pub record IsUnder (standing : Option Object) (number : Obj) : Type 0 where
  pub o : Object
  pub there : standing ≡ Some o
  pub number_is : o.number.0 ≡ number.0

none_some : (n : Obj) → None ≡ Some n → ⊥
none_some n is = cc

some_one : (a b : Obj) → Some a ≡ Some b → a ≡ b
some_one a b is = cc

pub not_equal : (a b : ℕ) → (a ≡ b → ⊥) → (a == b) ≡ false
not_equal a b differ = by_test (a == b) refl where
  by_test : (test : Bool) → (a == b) ≡ test → test ≡ false
  by_test true is = absurd (differ (eqb-true a b is))
  by_test false is = refl

-- a name that leads to no object stays, so where the way is free there is one
under_of : (call : Call) (moved : Option Object) (tree : FileTree) (number : Obj) → way_check call moved tree (Some number) ≡ None
    → IsUnder (object_in tree number) number
under_of call moved tree number passes = by_standing (object_in tree number) refl passes where
  by_standing : (o : Option Object) → object_in tree number ≡ o
      → (if option_map_or (λ there. option_map_or (λ m. gives_way call m there) moved false) o false then None else Some Exists) ≡ None
      → IsUnder (object_in tree number) number
  by_standing None is passes = absurd (cc)
  by_standing (Some o) is passes = record { o = o; there = is; number_is = number_found tree number o is }

-- the key of an entry fits its name
entry_fits : (hash : List ℕ → ℕ) (es : List FullElement) (t pfs : ℕ) (directory : Obj) (key : ℕ) (name : List ℕ) (object : Obj) → KeysFit hash es
    → HasEntry (Counts es t) pfs directory key name object → KeyFits hash key name
entry_fits hash es t pfs directory key name object fit entry =
    let keys = entry_keys hash es t pfs directory key name object fit entry in
    keys_fit hash key name keys.0 keys.1 where
      keys_fit : (hash : List ℕ → ℕ) (key : ℕ) (name : List ℕ) → first_key (hash name) ≤ key → key < first_key (hash name) + 65536 → KeyFits hash key name
      keys_fit hash key name from to = omega (arith, from, to)

abbrev mv_last : (ℕ → ℕ) → ℕ → Call → Located → Located → List Check
mv_last room free call one two =
    (if (site_in one).at.pfs == (site_in two).at.pfs then None else Some CrossPfs)
    ∷ refuse_if (is_passed (site_in one) (site_in two)) IntoItself
    ∷ way_check call (object_at call.view (site_in one).at) (call.view (site_in two).directory.pfs (site_in two).directory.when)
    (named_in (call.view (site_in two).directory.pfs (site_in two).directory.when) (site_in two).directory.object (site_in two).name)
    ∷ option_map_or (λ site. refuse_if (hash_is_full call site) HashFull) (new_name ((MakesName, []) ∷ []) (two ∷ [])) None ∷ None
    ∷ space_for (if is_itself (site_in one).at.object (stands_under (call.view (site_in two).directory.pfs (site_in two).directory.when)
    (named_in (call.view (site_in two).directory.pfs (site_in two).directory.when) (site_in two).directory.object (site_in two).name)) then [] else
    names_zones)
    4 room free ∷ []

-- the same by the stands of the walks, and by the number that the new name leads to
abbrev ends_at : (List ℕ → ℕ) → (ℕ → ℕ) → ℕ → Call → Scene → List ℕ → Stand → Stand → Option Obj → List Check
ends_at hash room free call scene name object to found =
    way_check call (object_at scene.view (place_of object.at)) (tree_at scene to) found
    ∷ refuse_if (option_map_or (λ _. false) found (nat_le 1024 (names_of_hash hash (tree_at scene to) to.at.object name))) HashFull ∷ None
    ∷ space_for (if is_itself object.at.object (stands_under (tree_at scene to) found) then [] else names_zones) 4 room free ∷ []

abbrev stands_at : (List ℕ → ℕ) → (ℕ → ℕ) → ℕ → Call → Scene → List ℕ → Stand → Stand → ℕ → Bool → List Check
stands_at hash room free call scene name object to pfs passed =
    (if pfs == to.at.pfs.0 then None else Some CrossPfs) ∷ refuse_if passed IntoItself
    ∷ ends_at hash room free call scene name object to (leads_to scene to name)

-- a check that always passes may stand between
skip_one : (one two : Check) (refusal : Check) → first_refusal (one ∷ two ∷ []) ≡ refusal → IsFirst (one ∷ None ∷ two ∷ []) refusal
skip_one None two refusal is = record { is = is }
skip_one (Some reply) two refusal is = record { is = is }

skip_two : (one two : Check) (refusal : Check) → first_refusal (one ∷ two ∷ []) ≡ refusal → IsFirst (one ∷ None ∷ None ∷ two ∷ []) refusal
skip_two None two refusal is = record { is = is }
skip_two (Some reply) two refusal is = record { is = is }

-- both directories are of one pseudo file system
pub one_pfs_is : (a b : ℕ) → (if a == b then None else Some CrossPfs) ≡ None → a ≡ b
one_pfs_is a b is = by_test (a == b) refl is where
  by_test : (t : Bool) → (a == b) ≡ t → (if t then None else Some CrossPfs) ≡ None → a ≡ b
  by_test true is' passes = eqb-true a b is'
  by_test false is' passes = absurd (cc)

-- a pseudo file system is told by its number
pub same_pfs : (a b : Pfs) → a.0 ≡ b.0 → a ≡ b
same_pfs a b same = λ i. record { 0 = same i }

-- the tree in which the moved object is seen is that of the new name
pub one_tree : (scene : Scene) (parts more : List Part) (old_name name : List ℕ) (from object to : Stand) → IsTakenName scene parts old_name from object
    → IsNewPlace scene more name to → from.at.pfs.0 ≡ to.at.pfs.0 → scene.view object.at.pfs.0 (when_of object.at.when) ≡ tree_at scene to
one_tree scene parts more old_name name from object to taken place same =
    let pfs : object.at.pfs.0 ≡ to.at.pfs.0 =
    ap (λ (p : Position). p.pfs) (taken.end_is ∙ taken.standing.at_is) ∙ (ap (λ (p : Position). p.pfs) (sym taken.directory_is) ∙ same) in
    let now : when_of object.at.when ≡ Now =
    ap (λ (p : Position). p.when) (taken.end_is ∙ taken.standing.at_is) ∙ taken.standing.now in
    ap (λ (p : ℕ). scene.view p (when_of object.at.when)) pfs ∙ ap (λ (w : When). scene.view to.at.pfs.0 w) (now ∙ sym place.now)

-- what the checks of both places say first, the model's say
module _ (hash : List ℕ → ℕ) (room : ℕ → ℕ) (free : ℕ) (call : Call) (scene : Scene) (name : List ℕ) (from object to : Stand)
    (one : from.at.pfs.0 ≡ to.at.pfs.0 → scene.view object.at.pfs.0 (when_of object.at.when) ≡ tree_at scene to) where
  -- over one that stands there, which is looked at in the tree of the moved object
  by_standing : (number : Obj) (standing : Option Object) (refusal : Check) → IfSome standing (λ o. o.number.0 ≡ number.0)
      → first_refusal ((if option_map_or (λ there. option_map_or (λ moved. gives_way call moved there) (object_at scene.view (place_of object.at)) false)
      standing false then None else Some Exists) ∷ space_for (if number.0 == object.at.object.0 then [] else names_zones) 4 room free ∷ []) ≡ refusal
      → IsFirst ((if option_map_or (λ there. option_map_or (λ moved. gives_way call moved there) (object_at scene.view (place_of object.at)) false)
      standing false then None else Some Exists) ∷ None ∷ None ∷ space_for (if is_itself object.at.object standing then [] else names_zones) 4 room free ∷ [])
      refusal
  by_standing number None refusal numbered is = record { is = is }
  by_standing number (Some o) refusal numbered is =
      subst (λ (n : ℕ). IsFirst ((if option_map_or (λ moved. gives_way call moved o) (object_at scene.view (place_of object.at)) false
      then None else Some Exists) ∷ None ∷ None ∷ space_for (if n == object.at.object.0 then [] else names_zones) 4 room free ∷ []) refusal) (sym numbered)
      (skip_two (if option_map_or (λ moved. gives_way call moved o) (object_at scene.view (place_of object.at)) false then None else Some Exists)
      (space_for (if number.0 == object.at.object.0 then [] else names_zones) 4 room free) refusal is)

  numbered : (number : Obj) (o : Option Object) → object_in (tree_at scene to) number ≡ o → IfSome o (λ found. found.number.0 ≡ number.0)
  numbered number None is = tt
  numbered number (Some o) is = number_found (tree_at scene to) number o is

  by_end : from.at.pfs.0 ≡ to.at.pfs.0 → (found : Option Obj) (refusal : Check)
      → first_refusal (end_checks hash room free name object to call scene found) ≡ refusal
      → IsFirst (ends_at hash room free call scene name object to found) refusal
  by_end same None refusal is = pass refl (skip_one (full_check hash scene to name) (space_for names_zones 4 room free) refusal is)
  by_end same (Some number) refusal is =
      by_standing number (object_in (tree_at scene to) number) refusal (numbered number (object_in (tree_at scene to) number) refl)
      (subst (λ (tree : FileTree). first_refusal ((if option_map_or (λ there. option_map_or (λ moved. gives_way call moved there)
      (object_at scene.view (place_of object.at)) false) (object_in tree number) false then None else Some Exists)
      ∷ space_for (if number.0 == object.at.object.0 then [] else names_zones) 4 room free ∷ []) ≡ refusal) (one same) is)

  by_passed : from.at.pfs.0 ≡ to.at.pfs.0 → (passed : Bool) (refusal : Check)
      → first_refusal (refuse_if passed IntoItself ∷ end_checks hash room free name object to call scene (leads_to scene to name)) ≡ refusal
      → IsFirst (refuse_if passed IntoItself ∷ ends_at hash room free call scene name object to (leads_to scene to name)) refusal
  by_passed same true refusal is = record { is = is }
  by_passed same false refusal is = pass refl (by_end same (leads_to scene to name) refusal is)

  by_pfs : (test : Bool) → (from.at.pfs.0 == to.at.pfs.0) ≡ test → (refusal : Check)
      → first_refusal ((if test then None else Some CrossPfs) ∷ refuse_if to.passed IntoItself
      ∷ end_checks hash room free name object to call scene (leads_to scene to name)) ≡ refusal
      → IsFirst ((if test then None else Some CrossPfs) ∷ refuse_if to.passed IntoItself
      ∷ ends_at hash room free call scene name object to (leads_to scene to name)) refusal
  by_pfs true same refusal is = pass refl (by_passed (eqb-true from.at.pfs.0 to.at.pfs.0 same) to.passed refusal is)
  by_pfs false same refusal is = record { is = is }

  mv_first : (refusal : Check) → first_refusal (move_checks hash room free name from object to call scene) ≡ refusal
      → IsFirst (stands_at hash room free call scene name object to from.at.pfs.0 to.passed) refusal
  mv_first refusal is = by_pfs (from.at.pfs.0 == to.at.pfs.0) refl refusal is

module _ (hash : List ℕ → ℕ) (room : ℕ → ℕ) (free : ℕ) (old new : List ℕ) (scene : Scene) (parts more : List Part) (old_name name : List ℕ)
    (from object to : Stand) (taken : IsTakenName scene parts old_name from object) (place : IsNewPlace scene more name to)
    (told : to.passed ≡ list_any (λ p. (p.0 == object.at.pfs.0) && (p.1 == object.at.object.0)) place.site.passed) (busy : Option ℕ) where
  abbrev pub mv : Call
  mv = call_in hash (Mv old new) (Parts parts ∷ Parts more ∷ []) busy scene

  -- where the walks led
  abbrev one_at : Position → Position → List ℕ → Located
  one_at at start called = At (record { at = at; directory = start; name = called; passed = taken.site.passed })

  abbrev two_at : Position → Position → List ℕ → Located
  two_at at start called = At (record { at = at; directory = start; name = called; passed = place.site.passed })

  one_is : locate scene.volume scene.view TakesName parts ≡ one_at (place_of object.at) (place_of from.at) old_name
  one_is =
      taken.place_is ∙ ap (λ p. one_at p taken.site.directory taken.site.name) (sym taken.end_is)
      ∙ ap (λ p. one_at (place_of object.at) p taken.site.name) (sym taken.directory_is)
      ∙ ap (λ n. one_at (place_of object.at) (place_of from.at) n) taken.name_is

  two_is : locate scene.volume scene.view MakesName more ≡ two_at (place_of to.at) (place_of to.at) name
  two_is =
      place.place_is ∙ ap (λ p. two_at p place.site.directory place.site.name) (sym place.at_is)
      ∙ ap (λ p. two_at (place_of to.at) p place.site.name) (sym place.directory_is)
      ∙ ap (λ n. two_at (place_of to.at) (place_of to.at) n) place.name_is

  -- the object lies where its directory does
  object_pfs : object.at.pfs.0 ≡ from.at.pfs.0
  object_pfs = ap (λ (p : Position). p.pfs) taken.end_is ∙ taken_pfs hash scene parts old_name from object taken

  abbrev pub leads : Option Obj
  leads = named_in (tree_at scene to) to.at.object name

  -- what is told of the places, by where the walks came to
  pub mv_places : {T : Type 0} {result : Result T Stop}
      → AnswersAll (refuse_if (is_slave scene.volume from.at.pfs.0 || (is_slave scene.volume to.at.pfs.0 || false)) ReadOnly ∷ []) result
      → AnswersAll (place_checks mv) result
  mv_places {result = result} masters =
      skips (ap walks one_is) (skips (ap walks two_is)
      (subst (λ (l : Located). AnswersAll (refuse_if (is_in_slave mv l || (is_in_slave mv (locate scene.volume scene.view MakesName more) || false)) ReadOnly
      ∷ []) result) (sym one_is)
      (subst (λ (l : Located). AnswersAll (refuse_if (is_in_slave mv (one_at (place_of object.at) (place_of from.at) old_name) || (is_in_slave mv l || false))
      ReadOnly ∷ []) result) (sym two_is)
      (subst (λ (p : ℕ). AnswersAll (refuse_if (is_slave scene.volume p || (is_slave scene.volume to.at.pfs.0 || false)) ReadOnly ∷ []) result)
      (sym object_pfs) masters))))

  one_view : from.at.pfs.0 ≡ to.at.pfs.0 → scene.view object.at.pfs.0 (when_of object.at.when) ≡ tree_at scene to
  one_view = one_tree scene parts more old_name name from object to taken place

  -- and of the checks after that
  pub mv_checks : {T : Type 0} {result : Result T Stop} → AnswersAll (move_checks hash room free name from object to mv scene) result
      → AnswersAll (last_checks mv room free) result
  mv_checks {result = result} asked =
      subst (λ (l : Located). AnswersAll (mv_last room free mv l (locate scene.volume scene.view MakesName more)) result) (sym one_is)
      (subst (λ (l : Located). AnswersAll (mv_last room free mv (one_at (place_of object.at) (place_of from.at) old_name) l) result) (sym two_is)
      (subst (λ (p : ℕ). AnswersAll (stands_at hash room free mv scene name object to p
      (list_any (λ p. (p.0 == object.at.pfs.0) && (p.1 == object.at.object.0)) place.site.passed)) result) (sym object_pfs)
      (subst (λ (b : Bool). AnswersAll (stands_at hash room free mv scene name object to from.at.pfs.0 b) result) told
      (record {
        is = subst (λ (check : Check). Answers check result)
            (sym (mv_first hash room free mv scene name from object to one_view
            (first_refusal (move_checks hash room free name from object to mv scene)) refl).is) asked.is;
      }))))

  -- where they all pass
  pub mv_passes : first_refusal (move_checks hash room free name from object to mv scene) ≡ None
      → ((if from.at.pfs.0 == to.at.pfs.0 then None else Some CrossPfs) ≡ None) × (refuse_if to.passed IntoItself ≡ None)
      × (way_check mv (object_at scene.view (place_of object.at)) (tree_at scene to) leads ≡ None)
  mv_passes none =
      passed_before (if from.at.pfs.0 == to.at.pfs.0 then None else Some CrossPfs) (refuse_if to.passed IntoItself)
      (way_check mv (object_at scene.view (place_of object.at)) (tree_at scene to) leads)
      (refuse_if (option_map_or (λ _. false) leads (nat_le 1024 (names_of_hash hash (tree_at scene to) to.at.object name))) HashFull)
      (None ∷ space_for (if is_itself object.at.object (stands_under (tree_at scene to) leads) then [] else names_zones) 4 room free ∷ [])
      (mv_first hash room free mv scene name from object to one_view None none).is

  -- ---- what it makes of the tree

  mv_pfs : changed_pfs mv ≡ to.at.pfs.0
  mv_pfs = ap (λ (l : Located). (site_in l).at.pfs) two_is

  abbrev site_one : Site
  site_one = record { at = place_of object.at; directory = place_of from.at; name = old_name; passed = taken.site.passed }

  abbrev site_two : Site
  site_two = record { at = place_of to.at; directory = place_of to.at; name = name; passed = place.site.passed }

  -- by the object and by what stands under the new name
  abbrev moves_by : FileTree → Site → Site → Option Object → Option Object → FileTree
  moves_by tree a b moved standing =
      option_map_or (λ o. option_map_or (moved_over tree a b o) standing (renamed tree a b o.number)) moved tree

  mv_changed : (tree : FileTree) → changed mv tree
      ≡ moves_by tree site_one site_two (object_at scene.view (place_of object.at)) (stands_under (tree_at scene to) leads)
  mv_changed tree =
      ap (λ (l : Located). moves_by tree (site_in l) (site_in (locate scene.volume scene.view MakesName more)) (object_at scene.view (site_in l).at)
      (stands_under (scene.view (site_in (locate scene.volume scene.view MakesName more)).directory.pfs
      (site_in (locate scene.volume scene.view MakesName more)).directory.when)
      (named_in (scene.view (site_in (locate scene.volume scene.view MakesName more)).directory.pfs
      (site_in (locate scene.volume scene.view MakesName more)).directory.when)
      (site_in (locate scene.volume scene.view MakesName more)).directory.object (site_in (locate scene.volume scene.view MakesName more)).name))) one_is
      ∙ ap (λ (l : Located). moves_by tree site_one (site_in l) (object_at scene.view (place_of object.at))
      (stands_under (scene.view (site_in l).directory.pfs (site_in l).directory.when)
      (named_in (scene.view (site_in l).directory.pfs (site_in l).directory.when) (site_in l).directory.object (site_in l).name))) two_is

  -- the moved object is there
  object_is : object_at scene.view (place_of object.at) ≡ Some taken.standing.object
  object_is = subst (λ (p : Position). object_at scene.view p ≡ Some taken.standing.object) (sym taken.end_is) taken.standing.there

  number_of : taken.standing.object.number ≡ object.at.object
  number_of =
      same_obj taken.standing.object.number object.at.object
      (number_found (scene.view object.at.pfs.0 (when_of object.at.when)) object.at.object taken.standing.object object_is)

  module _ (id : ℕ) (course : Course) (before : course.last.0 + 1 ≡ id) (path : IsPath old parts) (next : IsPath new more) (set : IsSet hash course scene)
      (own : HaveOwnKeys scene.elements) (below : AreBelow to.at.pfs.0 id scene.elements) (passes : master_check scene to.at.pfs.0 ≡ None) where
    own_is : scene.volume.last + 1 ≡ id
    own_is = ap (λ (n : ℕ). n + 1) set.last ∙ before

    asked : IsCall hash id scene.elements mv
    asked = record { own = own_is; hash_is = refl; shows = set.shows; keys = set.keys; words = (path, (next, tt)) }

    tree_is : tree_at scene to ≡ tree_now mv
    tree_is = ap (λ (w : When). scene.view to.at.pfs.0 w) place.now ∙ ap (λ (p : ℕ). scene.view p Now) (sym mv_pfs)

    view_last : IsViewOf scene.elements to.at.pfs.0 course.last.0 (tree_at scene to)
    view_last =
        subst (λ (t : ℕ). IsViewOf scene.elements to.at.pfs.0 t (tree_at scene to)) set.last (new_view scene more name to place set.shows passes)

    view_now : IsViewOf scene.elements to.at.pfs.0 course.last.0 (tree_now mv)
    view_now = subst (λ (tree : FileTree). IsViewOf scene.elements to.at.pfs.0 course.last.0 tree) tree_is view_last

    system : HasSystem scene.volume to.at.pfs.0
    system = new_system scene more name to place set.shows

    -- where both places are one, the new name leads to the moved object
    one_leads : from.at.pfs.0 ≡ to.at.pfs.0 → AreOnePlace (place_in from old_name) (place_in to name) → leads ≡ Some taken.standing.number
    one_leads same (directory, called) =
        ap (λ (w : When). named_in (scene.view to.at.pfs.0 w) to.at.object name) place.now
        ∙ ap (λ (p : ℕ). named_in (scene.view p Now) to.at.object name) (sym same ∙ ap (λ (p : Position). p.pfs) taken.directory_is)
        ∙ ap (λ (d : Obj). named_in (scene.view taken.site.directory.pfs Now) d name) (sym directory ∙ ap (λ (p : Position). p.object) taken.directory_is)
        ∙ ap (λ (n : List ℕ). named_in (scene.view taken.site.directory.pfs Now) taken.site.directory.object n) (sym called)
        ∙ taken.standing.named

    -- a name that is not there yet is not the old one
    not_one : from.at.pfs.0 ≡ to.at.pfs.0 → leads ≡ None → AreOnePlace (place_in from old_name) (place_in to name) → ⊥
    not_one same fresh one = none_some taken.standing.number (sym fresh ∙ one_leads same one)

    -- nor is one that leads to another object
    not_one_other : from.at.pfs.0 ≡ to.at.pfs.0 → (number : Obj) → leads ≡ Some number → (number.0 ≡ object.at.object.0 → ⊥)
        → AreOnePlace (place_in from old_name) (place_in to name) → ⊥
    not_one_other same number there other one =
        let one_number : number ≡ taken.standing.number = some_one number taken.standing.number (sym there ∙ one_leads same one) in
        let itself : taken.standing.number ≡ object.at.object =
        ap (λ (p : Position). p.object) (sym taken.standing.at_is) ∙ ap (λ (p : Position). p.object) (sym taken.end_is) in
        other (ap (λ (n : Obj). n.0) (one_number ∙ itself))

    -- the moved object is of the kind that its inode tells
    moved_kind : from.at.pfs.0 ≡ to.at.pfs.0 → (kind : ℕ) → IsKindOf kind object.inode → (o : Object)
        → object_in (tree_now mv) object.at.object ≡ Some o → kind ≡ kind_number o.kind
    moved_kind same kind kind_is o there =
        told_kind (Counts scene.elements object.as_of.0) object.at.pfs.0 (object_at scene.view (place_of object.at)) object.inode o kind
        (seen_now ∙ there) taken.read.inode kind_is
      where
        seen_now : object_at scene.view (place_of object.at) ≡ object_in (tree_now mv) object.at.object
        seen_now =
            ap (λ (w : When). object_in (scene.view object.at.pfs.0 w) object.at.object)
            (ap (λ (p : Position). p.when) taken.end_is ∙ ap (λ (p : Position). p.when) taken.standing.at_is ∙ taken.standing.now)
            ∙ ap (λ (p : ℕ). object_in (scene.view p Now) object.at.object) (object_pfs ∙ same ∙ sym mv_pfs)

    -- to a name that is not there yet
    pub mv_beside : from.at.pfs.0 ≡ to.at.pfs.0 → leads ≡ None → (kind : ℕ) → IsKindOf kind object.inode → (spot : Spot) (es' : List FullElement)
        → IsSpot (Counts scene.elements course.last.0) to.at.pfs.0 to.at.object (first_key (hash name)) spot
        → Renames hash (place_in from old_name) (place_in to name) spot id object.at.object kind scene.elements es' → ChangesTree mv scene.elements es'
    mv_beside same fresh kind kind_is spot es' spot_is renames =
        let fits : KeyFits hash spot.key name = spot_fits hash spot.key name spot_is.from spot_is.to in
        let open_is : IsOpen (place_in to name) spot id scene.elements =
        opens to.at.pfs.0 course.last.0 id scene.elements (tree_at scene to) own below before view_last (place_in to name) (first_key (hash name)) spot refl
        fresh spot_is in
        let change : Option Object → Option Obj → FileTree → FileTree =
        λ moved found tree. moves_by tree site_one site_two moved (stands_under (tree_at scene to) found) in
        tree_changes mv hash course.last.0 id to.at.pfs.0 scene.elements asked own mv_pfs system below before view_now
        (λ tree. with_name (without_name tree from.at.object old_name) to.at.object name object.at.object) (KeyFits hash spot.key name) es' renames.steps fits
        (λ none. renames.shows set.keys fits open_is (not_one same fresh))
        (λ none. kinds_leading object.at.object kind (with_name (without_name (tree_now mv) from.at.object old_name) to.at.object name object.at.object)
        scene.elements es' (λ o there. moved_kind same kind kind_is o there) renames.names)
        (λ number o there gone. absurd (some_none o (sym there ∙ gone)))
        (λ none. renames.follows set.keys open_is)
        (sym (mv_changed (tree_now mv) ∙ (ap (λ o. change o leads (tree_now mv)) object_is ∙ (ap (λ f. change (Some taken.standing.object) f (tree_now mv))
        fresh
        ∙ ap (λ (n : Obj). with_name (without_name (tree_now mv) from.at.object old_name) to.at.object name n) number_of))))

    -- what stands under a name that leads to a number
    under : (number : Obj) → leads ≡ Some number → way_check mv (object_at scene.view (place_of object.at)) (tree_at scene to) leads ≡ None
        → IsUnder (stands_under (tree_at scene to) leads) number
    under number there free_way =
        subst (λ (f : Option Obj). IsUnder (stands_under (tree_at scene to) f) number) (sym there)
        (under_of mv (object_at scene.view (place_of object.at)) (tree_at scene to) number
        (subst (λ (f : Option Obj). way_check mv (object_at scene.view (place_of object.at)) (tree_at scene to) f ≡ None) there free_way))

    changed_over : (standing : Object) → stands_under (tree_at scene to) leads ≡ Some standing
        → changed mv (tree_now mv) ≡ moved_over (tree_now mv) site_one site_two taken.standing.object standing
    changed_over standing is =
        mv_changed (tree_now mv)
        ∙ (ap (λ o. moves_by (tree_now mv) site_one site_two o (stands_under (tree_at scene to) leads)) object_is
        ∙ ap (λ o. moves_by (tree_now mv) site_one site_two (Some taken.standing.object) o) is)

    -- onto the object itself
    pub mv_itself : (number : Obj) → leads ≡ Some number → number.0 ≡ object.at.object.0
        → way_check mv (object_at scene.view (place_of object.at)) (tree_at scene to) leads ≡ None → ChangesTree mv scene.elements scene.elements
    mv_itself number there itself free_way =
        let standing = under number there free_way in
        let one : (standing.o.number.0 == taken.standing.object.number.0) ≡ true =
        eq-eqb standing.o.number.0 taken.standing.object.number.0 (standing.number_is ∙ (itself ∙ ap (λ (n : Obj). n.0) (sym number_of))) in
        tree_stays mv hash course.last.0 id to.at.pfs.0 scene.elements asked own mv_pfs system below before view_now
        (sym (changed_over standing.o standing.there
        ∙ ap (λ (b : Bool). if b then tree_now mv else renamed (without_entry (tree_now mv) to.at.object name standing.o) site_one site_two
        taken.standing.object.number)
        one))

    -- over another object
    pub mv_over : from.at.pfs.0 ≡ to.at.pfs.0 → (number : Obj) → leads ≡ Some number → (number.0 ≡ object.at.object.0 → ⊥)
        → way_check mv (object_at scene.view (place_of object.at)) (tree_at scene to) leads ≡ None → (links : ℕ)
        → ((o : Object) → stands_under (tree_at scene to) leads ≡ Some o → o.links ≡ links) → (key kind : ℕ) → IsKindOf kind object.inode
        → (es' : List FullElement)
        → HasEntry (Counts scene.elements course.last.0) to.at.pfs.0 to.at.object key name number
        → ReplacesName hash (place_in from old_name) (place_in to name) key id object.at.object kind number links scene.elements es'
        → ChangesTree mv scene.elements es'
    mv_over same number there other free_way links links_are key kind kind_is es' entry replaces =
        let standing = under number there free_way in
        let apart : (standing.o.number.0 == taken.standing.object.number.0) ≡ false =
        not_equal standing.o.number.0 taken.standing.object.number.0
        (λ is. other (sym standing.number_is ∙ (is ∙ ap (λ (n : Obj). n.0) number_of))) in
        let fits : KeyFits hash key name = entry_fits hash scene.elements course.last.0 to.at.pfs.0 to.at.object key name number set.keys entry in
        let later : HasEntry (Counts scene.elements id) to.at.pfs.0 to.at.object key name number =
        has_entry_then to.at.pfs.0 id scene.elements below course.last.0 id (omega (arith, before)) (omega arith) to.at.object key name number entry in
        let renamed_by : ℕ → Obj → Obj → FileTree → FileTree = λ n t m tree. with_name (without_name (less_link n t
        (without_name tree to.at.object name)) from.at.object old_name) to.at.object name m in
        tree_changes mv hash course.last.0 id to.at.pfs.0 scene.elements asked own mv_pfs system below before view_now
        (λ tree. renamed_by links number object.at.object tree) (KeyFits hash key name) es' replaces.steps fits
        (λ none. replaces.shows set.keys fits later (not_one_other same number there other))
        (λ none. kinds_leading object.at.object kind (renamed_by links number object.at.object (tree_now mv)) scene.elements es'
        (λ o now. let (before_is, was) = link_before (without_name (tree_now mv) to.at.object name) number object.at.object links o
        (λ is. other (sym is)) now in
        moved_kind same kind kind_is before_is was
        ∙ ap kind_number (sym (link_kind (without_name (tree_now mv) to.at.object name) number object.at.object links before_is o
        (λ is. other (sym is)) was now)))
        replaces.names)
        (λ gone_number o was gone.
        let (is, few) = link_gone (without_name (tree_now mv) to.at.object name) number gone_number links o was gone in
        leaves_none o.kind to.at.pfs.0 gone_number.0 id es'
        (subst (λ (n : ℕ). LeavesNothing to.at.pfs.0 n id es') (sym is) (replaces.leaves few)))
        (λ none. replaces.follows set.keys later)
        (sym (changed_over standing.o standing.there
        ∙ (ap (λ (b : Bool). if b then tree_now mv else renamed (without_entry (tree_now mv) to.at.object name standing.o) site_one site_two
        taken.standing.object.number)
        apart
        ∙ (ap (λ (n : ℕ). renamed_by n standing.o.number taken.standing.object.number (tree_now mv)) (links_are standing.o standing.there)
        ∙ (ap (λ (n : Obj). renamed_by links n taken.standing.object.number (tree_now mv)) (same_obj standing.o.number number standing.number_is)
        ∙ ap (λ (n : Obj). renamed_by links number n (tree_now mv)) number_of)))))

-- calls of two words that were read so have those parts
pub paths_moved : (old new : List ℕ) (parts more : List Part) (paths : List Parsed) → IsPath old parts → IsPath new more → ReadsWords (Mv old new) paths
    → paths ≡ Parts parts ∷ Parts more ∷ []
paths_moved old new parts more paths path next reads =
    let both = read_two TakesName MakesName old new paths reads in
    both.2 ∙ ap (λ p. p ∷ both.1 ∷ []) (read_once old parts both.0 path both.3) ∙ ap (λ p. Parts parts ∷ p ∷ []) (read_once new more both.1 next both.4)

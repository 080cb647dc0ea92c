-- What `ln` tells and does over a store, from what its steps tell.
use Rattle.std.proofs.Common.{◌≡◌, ℕ, ◌+◌, ◌≤◌, List, [], ◌∷◌, false, Option, Some, None, Result, Ok, Err, refl, sym, ap, subst, ◌∙◌}
use Rattle.std.specs.Prelude.{◌==◌, ◌||◌, IfSome, if◌then◌else◌}
use Rattle.std.specs.Bool.{nat_le}
use Rattle.std.specs.Option.{option_map_or}
use Rattle.hm_types.specs.Elements.{FullElement, Key}
use Rattle.hm_types.specs.Tree.{FileTree, named_in}
use Rattle.hm_types.specs.declared.limits.TheConstants.{GREATEST_ID}
use Rattle.hm_path.specs.Path.{IsPath}
use Rattle.hm_path.specs.declared.part.Part.{Part}
use Rattle.hm_key.specs.Counts.{Counts}
use Rattle.hm_key.specs.Elements.{IsContent}
use Rattle.hm_key.specs.Extents.{Extent}
use Rattle.hm_key.specs.Stores.{Same}
use Rattle.hm_key.specs.Versions.{HaveOwnKeys}
use Rattle.hm_key.specs.declared.element.Element.{Element}
use Rattle.hm_cursor.specs.Told.{fulls}
use Rattle.hm_model.specs.Due.{has_id, is_dir_or_link, is_softlink, refuse_if, walks}
use Rattle.hm_model.specs.Needs.{names_zones}
use Rattle.hm_model.specs.Sites.{MakesName, Parsed, Parts, Walks, front_of, in_directory, last_name, locate}
use Rattle.hm_model.specs.View.{object_at}
use Rattle.hm_model.specs.Walk.{Follows, Stays, walk}
use Rattle.hm_model.specs.declared.command.Command.TheVariants.{Ln}
use Rattle.hm_model.specs.declared.reply.Reply.TheVariants.{CrossPfs, Exists, HashFull, IsDir, NotFile, ReadOnly}
use Rattle.hm_records.specs.KeysFit.{KeysFit}
use Rattle.hm_records.specs.View.{IsViewOf}
use Rattle.hm_records.specs.declared.inode.Inode.{Inode}
use Rattle.hm_dirs.specs.Names.{IsSpot, OnNamed, first_key, names_of_hash}
use Rattle.hm_dirs.specs.Walk.{AreDrawn, OnShown, Scene, place_of}
use Rattle.hm_dirs.specs.declared.position.Course.{Course}
use Rattle.hm_dirs.specs.declared.position.Stand.{Stand}
use Rattle.hm_dirs.specs.declared.spot.Spot.{Spot}
use Rattle.hm_calls.specs.Changes.{Changes, ChangesTree}
use Rattle.hm_calls.specs.Known.{AreBelow}
use Rattle.hm_calls.specs.Due.{space_for}
use Rattle.hm_calls.specs.Links.{AreSeen, IsLinked, link_checks, links_check}
use Rattle.hm_calls.specs.Places.{IsPlaced, IsReached, refuse_kind}
use Rattle.hm_calls.specs.Scenes.{InScenes, is_slave}
use Rattle.hm_calls.specs.Stages.{AnswersAll, last_checks, word_checks}
use Rattle.hm_calls.specs.Writes.{PutsLink, place_in}
use Rattle.hm_calls.specs.Stop.{Answers}
use Rattle.hm_calls.specs.declared.links.Linked.{Linked}
use Rattle.hm_calls.specs.declared.stages.NewName.{NewName}
use Rattle.hm_calls.specs.declared.stop.Stop.{Stop}
use Rattle.hm_calls.proofs.LinkLemmas.{ln_changes, ln_checks, ln_file, ln_unchanged, paths_linked}
use Rattle.hm_calls.proofs.FrontLemmas.{IsAsked, back_in, back_over, both_in, map_in, on_in, passed_before, passed_fourth, second_none}
use Rattle.hm_calls.proofs.MakeLemmas.{IsNewPlace, full_check, new_check, new_place, new_place_there, new_view, not_named, tree_at}
use Rattle.hm_calls.proofs.PlaceLemmas.{front_has_none}
use Rattle.hm_calls.proofs.RemoveLemmas.{master_check}
use Rattle.hm_calls.proofs.SceneLemmas.{IsEnd, IsPlace, IsStoppedBy, OnScenes, call_in, scenes_back, scenes_both, scenes_named}
use Rattle.hm_calls.proofs.SceneLemmas.{scenes_placed, scenes_reached, scenes_so, scenes_unplaced, scenes_unreached}
use Rattle.hm_calls.proofs.StageLemmas.{Wrote, drawn_now, scenes_own, writes_changes}

-- ---- a directory in which a name is made

module _ (hash : List ℕ → ℕ) (course : Course) (es : Option (List Element)) (xs : Option (List Extent)) (more : List Part) (name : List ℕ) (directory : Stand)
    (places : OnScenes hash es xs course (λ scene. IsNewPlace scene more name directory))
    (masters : OnScenes hash es xs course (λ scene. master_check scene directory.at.pfs.0 ≡ None)) (last_is : directory.as_of ≡ course.last) where
  -- what is told of its tree as of the last id, in a store that stayed
  pub tree_told : (es' : Option (List Element)) (xs' : Option (List Extent)) → es' ≡ es → xs' ≡ xs → (P : List FullElement → FileTree → Type 0)
      → OnNamed hash es' xs' (λ lists. (tree : FileTree) → IsViewOf (fulls lists) directory.at.pfs.0 directory.as_of.0 tree → P (fulls lists) tree)
      → OnScenes hash es xs course (λ scene. P scene.elements (tree_at scene directory))
  tree_told es' xs' same same' P told =
      scenes_so hash course es xs
      (λ scene. (IsNewPlace scene more name directory × (master_check scene directory.at.pfs.0 ≡ None))
      × ((tree : FileTree) → IsViewOf scene.elements directory.at.pfs.0 directory.as_of.0 tree → P scene.elements tree))
      (λ scene. P scene.elements (tree_at scene directory))
      (λ scene set is. is.1 (tree_at scene directory)
      (subst (λ (t : ℕ). IsViewOf scene.elements directory.at.pfs.0 t (tree_at scene directory)) (set.last ∙ ap (λ i. i.0) (sym last_is))
      (new_view scene more name directory is.0.0 set.shows is.0.1)))
      (scenes_both hash course es xs (λ scene. IsNewPlace scene more name directory × (master_check scene directory.at.pfs.0 ≡ None))
      (λ scene. (tree : FileTree) → IsViewOf scene.elements directory.at.pfs.0 directory.as_of.0 tree → P scene.elements tree)
      (scenes_both hash course es xs (λ scene. IsNewPlace scene more name directory) (λ scene. master_check scene directory.at.pfs.0 ≡ None) places masters)
      (scenes_back hash course (λ scene. (tree : FileTree) → IsViewOf scene.elements directory.at.pfs.0 directory.as_of.0 tree → P scene.elements tree)
      same same'
      (scenes_named hash course es' xs' (λ list. (tree : FileTree) → IsViewOf list directory.at.pfs.0 directory.as_of.0 tree → P list tree) told)))

-- ---- where a name is to be made

module _ (hash : List ℕ → ℕ) (course : Course) (es es' : Option (List Element)) (xs xs' : Option (List Extent)) (same : es' ≡ es) (same' : xs' ≡ xs)
    (more front : List Part) (name : List ℕ) (front_is : front ≡ front_of more) (named : last_name more ≡ Some name) (none : has_id (Parts more) ≡ false)
  where
    -- what a walk to the parts before the name tells, in a store that stayed
    abbrev pub IsPlacedAt : Result Stand Stop → Scene → Type 0
    IsPlacedAt result scene = KeysFit hash scene.elements → AreDrawn scene.course.last front → (n : List ℕ)
        → IsPlaced scene n (in_directory scene.view (Some n) (walk scene.volume scene.view Follows front)) result

    drawn : AreDrawn course.last front
    drawn = subst (λ (ps : List Part). AreDrawn course.last ps) (sym front_is) (drawn_now course.last (front_of more) (front_has_none more none))

    place_same : (scene : Scene) → in_directory scene.view (Some name) (walk scene.volume scene.view Follows front) ≡ locate scene.volume scene.view MakesName
        more
    place_same scene =
        ap (λ (ps : List Part). in_directory scene.view (Some name) (walk scene.volume scene.view Follows ps)) front_is
        ∙ ap (λ o. in_directory scene.view o (walk scene.volume scene.view Follows (front_of more))) (sym named)

    pub new_unplaced : (stopped : Stop) → OnShown es' xs' course (IsPlacedAt (Err stopped))
        → OnScenes hash es xs course (λ scene. IsStoppedBy (walks (locate scene.volume scene.view MakesName more)) stopped)
    new_unplaced stopped told =
        scenes_back hash course (λ scene. IsStoppedBy (walks (locate scene.volume scene.view MakesName more)) stopped) same same'
        (scenes_so hash course es' xs' (λ scene. IsStoppedBy (walks (in_directory scene.view (Some name) (walk scene.volume scene.view Follows front))) stopped)
        (λ scene. IsStoppedBy (walks (locate scene.volume scene.view MakesName more)) stopped)
        (λ scene set is. subst (λ l. IsStoppedBy (walks l) stopped) (place_same scene) is)
        (scenes_unplaced hash course es' xs' front drawn name stopped told))

    pub new_placed : (stand : Stand) → OnShown es' xs' course (IsPlacedAt (Ok stand)) → OnScenes hash es xs course (λ scene. IsNewPlace scene more name stand)
    new_placed stand told =
        scenes_back hash course (λ scene. IsNewPlace scene more name stand) same same'
        (scenes_so hash course es' xs' (λ scene. IsPlace scene name (in_directory scene.view (Some name) (walk scene.volume scene.view Follows front)) stand)
        (λ scene. IsNewPlace scene more name stand)
        (λ scene set is. new_place scene more name stand named none
        (subst (λ (ps : List Part). IsPlace scene name (in_directory scene.view (Some name) (walk scene.volume scene.view Follows ps)) stand) front_is is))
        (scenes_placed hash course es' xs' front drawn name stand told))

-- the walk to an object's name, in a store that is at its start
pub object_unreached : (hash : List ℕ → ℕ) (course : Course) (es : Option (List Element)) (xs : Option (List Extent)) (parts : List Part)
    → has_id (Parts parts) ≡ false → (stopped : Stop)
    → OnShown es xs course (λ scene. KeysFit hash scene.elements → AreDrawn scene.course.last parts
    → IsReached scene Stays (walk scene.volume scene.view Stays parts) (Err stopped))
    → OnScenes hash es xs course (λ scene. IsStoppedBy (walks (locate scene.volume scene.view (Walks Stays) parts)) stopped)
object_unreached hash course es xs parts none = scenes_unreached hash course es xs parts (drawn_now course.last parts none) Stays

pub object_reached : (hash : List ℕ → ℕ) (course : Course) (es : Option (List Element)) (xs : Option (List Extent)) (parts : List Part)
    → has_id (Parts parts) ≡ false → (stand : Stand)
    → OnShown es xs course (λ scene. KeysFit hash scene.elements → AreDrawn scene.course.last parts
    → IsReached scene Stays (walk scene.volume scene.view Stays parts) (Ok stand))
    → OnScenes hash es xs course (λ scene. IsEnd scene Stays (walk scene.volume scene.view Stays parts) stand)
object_reached hash course es xs parts none = scenes_reached hash course es xs parts (drawn_now course.last parts none) Stays

-- ---- nothing is written

pub wrote_nothing : (es es' : Option (List Element)) (xs xs' : Option (List Extent)) → es' ≡ es → xs' ≡ xs → Wrote (λ was now. now ≡ was) es xs es' xs'
wrote_nothing es es' xs xs' same same' =
    subst (λ (x : Option (List Extent)). Wrote (λ was now. now ≡ was) es xs es' x) (sym same')
    (subst (λ (e : Option (List Element)). Wrote (λ was now. now ≡ was) es xs e xs) (sym same) (itself es xs)) where
      itself : (es : Option (List Element)) (xs : Option (List Extent)) → Wrote (λ was now. now ≡ was) es xs es xs
      itself None xs = tt
      itself (Some es) None = tt
      itself (Some es) (Some xs) = λ balanced. (balanced, refl)

-- ---- `ln`, by what its stages tell

-- what the steps tell of the name in the directory's tree
module _ (hash : List ℕ → ℕ) (course : Course) (es : Option (List Element)) (xs : Option (List Extent)) (found : Linked) where
  -- of each tree that may be the one of the directory
  abbrev pub OnTrees : (List FullElement → FileTree → Type 0) → Type 0
  OnTrees P = OnNamed hash es xs (λ lists. (tree : FileTree) → IsViewOf (fulls lists) found.directory.at.pfs.0 found.directory.as_of.0 tree
      → P (fulls lists) tree)

  pub in_tree : (P : List FullElement → FileTree → Type 0) → OnTrees P → InScenes hash course es xs (AreSeen found)
      → InScenes hash course es xs (λ scene. P scene.elements (tree_at scene found.directory))
  in_tree P told seen =
      map_in {P = λ scene. AreSeen found scene
      × ((tree : FileTree) → IsViewOf scene.elements found.directory.at.pfs.0 found.directory.as_of.0 tree → P scene.elements tree)}
      (λ scene set is. is.1 (tree_at scene found.directory) is.0.tree)
      (both_in seen (record {
        each = scenes_named hash course es xs
            (λ list. (tree : FileTree) → IsViewOf list found.directory.at.pfs.0 found.directory.as_of.0 tree → P list tree) told;
      }))

  pub new_in : (bytes name : List ℕ) → bytes ≡ name → (result : Result (Unit {0}) Stop)
      → OnTrees (λ list tree. Answers (option_map_or (λ _. Some Exists) (named_in tree found.directory.at.object bytes) None) result)
      → InScenes hash course es xs (AreSeen found) → InScenes hash course es xs (λ scene. Answers (new_check scene found.directory name) result)
  new_in bytes name is result told =
      in_tree (λ list tree. Answers (option_map_or (λ _. Some Exists) (named_in tree found.directory.at.object name) None) result)
      (subst (λ (n : List ℕ). OnTrees (λ list tree. Answers (option_map_or (λ _. Some Exists) (named_in tree found.directory.at.object n) None) result)) is
      told)

  pub full_in : (name : List ℕ) {T : Type 0} (result : Result T Stop)
      → OnTrees (λ list tree. Answers (refuse_if (nat_le 1024 (names_of_hash hash tree found.directory.at.object name)) HashFull) result)
      → InScenes hash course es xs (AreSeen found) → InScenes hash course es xs (λ scene. Answers (full_check hash scene found.directory name) result)
  full_in name result =
      in_tree (λ list tree. Answers (refuse_if (nat_le 1024 (names_of_hash hash tree found.directory.at.object name)) HashFull) result)

  pub spot_in_scenes : (name : List ℕ) (spot : Spot)
      → OnTrees (λ list tree. IsSpot (Counts list found.directory.as_of.0) found.directory.at.pfs.0 found.directory.at.object (first_key (hash name)) spot)
      → InScenes hash course es xs (AreSeen found)
      → InScenes hash course es xs (λ scene. IsSpot (Counts scene.elements found.directory.as_of.0) found.directory.at.pfs.0 found.directory.at.object
      (first_key (hash name)) spot)
  spot_in_scenes name spot =
      in_tree (λ list tree. IsSpot (Counts list found.directory.as_of.0) found.directory.at.pfs.0 found.directory.at.object (first_key (hash name)) spot)

-- calls of both words, which passed what these are asked
pub linked_asked : (id : ℕ) (course : Course) (old new : List ℕ) (parts more : List Part) {T : Type 0} {x : T} → course.last.0 + 1 ≡ id → id ≤ GREATEST_ID
    → IsPath old parts → IsPath new more → AnswersAll (word_checks course.last.0 parts more) (Ok x)
    → IsAsked id course (Ln old new) (Parts parts ∷ Parts more ∷ [])
linked_asked id course old new parts more before most path next told = record {
  before = before;
  most = most;
  only = λ paths reads. paths_linked old new parts more paths path next reads;
  early = λ busy. told.is;
}

-- both walks led to their ends, in no slave
pub is_linked : {hash : List ℕ → ℕ} {course : Course} {es : Option (List Element)} {xs : Option (List Extent)} (parts more : List Part) (id : ℕ)
    (named : NewName) (object directory there : Stand) {x : Unit {0}} → there ≡ record directory { as_of = course.last }
    → InScenes hash course es xs (λ scene. IsEnd scene Stays (walk scene.volume scene.view Stays parts) object)
    → InScenes hash course es xs (λ scene. IsNewPlace scene more named.name.now directory)
    → InScenes hash course es xs (λ scene. Answers (refuse_if (is_slave scene.volume object.at.pfs.0 || (is_slave scene.volume directory.at.pfs.0 || false))
    ReadOnly) (Ok x))
    → InScenes hash course es xs (λ scene. AreBelow directory.at.pfs.0 id scene.elements)
    → InScenes hash course es xs (IsLinked parts more id named (record { object = object; directory = there }))
is_linked {course = course} parts more id named object directory there is ends places masters below =
    map_in (λ scene set told. subst (λ (s : Stand). IsLinked parts more id named (record { object = object; directory = s }) scene) (sym is) (record {
      end = told.0.0;
      place = new_place_there scene more named.name.now directory (record directory { as_of = course.last }) course refl told.0.1;
      master = second_none (is_slave scene.volume object.at.pfs.0) (is_slave scene.volume directory.at.pfs.0) ReadOnly told.1.0;
      below = told.1.1;
      last = ap (λ (c : Course). c.last) (sym set.course_is);
    })) (both_in (both_in ends places) (both_in masters below))

module _ {S : Type 0} {elements_of : S → Option (List Element)} {mark_of : S → Key → ℕ} {extents_of : S → Option (List Extent)} {room_of : S → ℕ → ℕ}
    {free_of : S → ℕ} {start mid : S} {hash : List ℕ → ℕ} {course : Course} {parts more : List Part} {id : ℕ} {named : NewName} {found : Linked}
    (same : Same elements_of mark_of extents_of room_of free_of start mid)
    (linked : InScenes hash course (elements_of start) (extents_of start) (IsLinked parts more id named found)) where
  -- so both are seen
  seen : InScenes hash course (elements_of mid) (extents_of mid) (AreSeen found)
  seen = on_in same (map_in (λ scene set is. record {
    object = is.end.ends.read tt;
    tree = subst (λ (t : ℕ). IsViewOf scene.elements found.directory.at.pfs.0 t (tree_at scene found.directory))
        (ap (λ (c : Course). c.last.0) (sym set.course_is) ∙ ap (λ i. i.0) (sym is.last))
        (subst (λ (t : ℕ). IsViewOf scene.elements found.directory.at.pfs.0 t (tree_at scene found.directory)) set.last
        (new_view scene more named.name.now found.directory is.place set.shows is.master));
  }) linked)

  -- what the last stage tells of its checks, it tells of those of the call
  pub linked_tells : (old new : List ℕ) {T : Type 0} {result : Result T Stop}
      → (InScenes hash course (elements_of mid) (extents_of mid) (AreSeen found)
      → InScenes hash course (elements_of mid) (extents_of mid) (λ scene.
      AnswersAll (link_checks hash (room_of mid) (free_of mid) named.name.now found scene) result))
      → InScenes hash course (elements_of start) (extents_of start) (λ scene. (busy : Option ℕ)
      → AnswersAll (last_checks (call_in hash (Ln old new) (Parts parts ∷ Parts more ∷ []) busy scene) (room_of start) (free_of start)) result)
  linked_tells old new {result = result} told =
      map_in (λ scene set is busy.
      ln_checks hash (room_of start) (free_of start) old new scene parts more named.name.now found.object found.directory is.0.end is.0.place busy is.1)
      (both_in linked (back_over same (λ room free scene. AnswersAll (link_checks hash room free named.name.now found scene) result) (told seen)))

  -- what is known when a link is written
  record IsLinking (spot : Spot) (scene : Scene) : Type 0 where
    pub linked_is : IsLinked parts more id named found scene
    pub own : HaveOwnKeys scene.elements
    pub no_dir : refuse_kind is_dir_or_link IsDir (object_at scene.view (place_of found.object.at)) ≡ None
    pub no_link : refuse_kind is_softlink NotFile (object_at scene.view (place_of found.object.at)) ≡ None
    pub one_pfs : (if found.object.at.pfs.0 == found.directory.at.pfs.0 then None else Some CrossPfs) ≡ None
    pub fresh : named_in (tree_at scene found.directory) found.directory.at.object named.name.now ≡ None
    pub spot_is : IsSpot (Counts scene.elements found.directory.as_of.0) found.directory.at.pfs.0 found.directory.at.object (first_key (hash named.name.now))
        spot

  module _ (room : ℕ → ℕ) (free : ℕ) (spot : Spot) (content : IfSome (elements_of start) IsContent)
      (told : InScenes hash course (elements_of mid) (extents_of mid) (AreSeen found)
      → InScenes hash course (elements_of mid) (extents_of mid) (λ scene. AnswersAll (link_checks hash room free named.name.now found scene) (Ok spot)))
      (spots : InScenes hash course (elements_of mid) (extents_of mid) (AreSeen found)
      → InScenes hash course (elements_of mid) (extents_of mid) (λ scene. IsSpot (Counts scene.elements found.directory.as_of.0) found.directory.at.pfs.0
      found.directory.at.object (first_key (hash named.name.now)) spot)) (old new : List ℕ) (before : course.last.0 + 1 ≡ id) (path : IsPath old parts)
      (next : IsPath new more) (es' : Option (List Element)) (xs' : Option (List Extent)) where
    fresh_passed : (r : ℕ → ℕ) (f : ℕ) (scene : Scene) → AnswersAll (link_checks hash r f named.name.now found scene) (Ok spot)
        → new_check scene found.directory named.name.now ≡ None
    fresh_passed r f scene told =
        passed_fourth (refuse_kind is_dir_or_link IsDir (object_at scene.view (place_of found.object.at)))
        (refuse_kind is_softlink NotFile (object_at scene.view (place_of found.object.at)))
        (if found.object.at.pfs.0 == found.directory.at.pfs.0 then None else Some CrossPfs) (new_check scene found.directory named.name.now)
        (links_check scene found.object ∷ full_check hash scene found.directory named.name.now ∷ space_for names_zones 4 r f ∷ []) told.is

    front_passed : (r : ℕ → ℕ) (f : ℕ) (scene : Scene) → AnswersAll (link_checks hash r f named.name.now found scene) (Ok spot)
        → (refuse_kind is_dir_or_link IsDir (object_at scene.view (place_of found.object.at)) ≡ None)
        × (refuse_kind is_softlink NotFile (object_at scene.view (place_of found.object.at)) ≡ None)
        × ((if found.object.at.pfs.0 == found.directory.at.pfs.0 then None else Some CrossPfs) ≡ None)
    front_passed r f scene told =
        passed_before (refuse_kind is_dir_or_link IsDir (object_at scene.view (place_of found.object.at)))
        (refuse_kind is_softlink NotFile (object_at scene.view (place_of found.object.at)))
        (if found.object.at.pfs.0 == found.directory.at.pfs.0 then None else Some CrossPfs) (new_check scene found.directory named.name.now)
        (links_check scene found.object ∷ full_check hash scene found.directory named.name.now ∷ space_for names_zones 4 r f ∷ []) told.is

    linking : InScenes hash course (elements_of start) (extents_of start) (IsLinking spot)
    linking =
        map_in {P = λ scene. (IsLinked parts more id named found scene × HaveOwnKeys scene.elements)
        × (AnswersAll (link_checks hash room free named.name.now found scene) (Ok spot)
        × IsSpot (Counts scene.elements found.directory.as_of.0) found.directory.at.pfs.0 found.directory.at.object (first_key (hash named.name.now)) spot)}
        (λ scene set is. record {
          linked_is = is.0.0;
          own = is.0.1;
          no_dir = (front_passed room free scene is.1.0).0;
          no_link = (front_passed room free scene is.1.0).1;
          one_pfs = (front_passed room free scene is.1.0).2;
          fresh = not_named (named_in (tree_at scene found.directory) found.directory.at.object named.name.now)
              (fresh_passed room free scene is.1.0);
          spot_is = is.1.1;
        })
        (both_in (both_in linked (record { each = scenes_own hash course (elements_of start) (extents_of start) content }))
        (both_in (back_in same (told seen)) (back_in same (spots seen))))

    -- what `ln` wrote is its change
    pub ln_writes : (inode : Inode) (links : ℕ) → has_id (Parts parts) ≡ false → found.object.inode ≡ Some inode → links ≡ inode.links + 1
        → Wrote (PutsLink hash (place_in found.directory named.name.now) spot id found.object.at.object links) (elements_of start) (extents_of start) es' xs'
        → Wrote (Changes hash id (λ call. call.command ≡ Ln old new)) (elements_of start) (extents_of start) es' xs'
    ln_writes inode links none has links_is writes =
        writes_changes hash id course (Ln old new) (PutsLink hash (place_in found.directory named.name.now) spot id found.object.at.object links)
        (IsLinking spot) (elements_of start) es' (extents_of start) xs' before
        (λ busy paths scene list reads set is puts.
        subst (λ (ps : List Parsed). ChangesTree (call_in hash (Ln old new) ps busy scene) scene.elements list)
        (sym (paths_linked old new parts more paths path next reads))
        (ln_changes hash (λ _. 0) 0 old new scene parts more named.name.now found.object found.directory is.linked_is.end is.linked_is.place busy inode has id
        course spot links list before path next set is.own is.linked_is.below is.linked_is.master is.fresh
        (subst (λ (t : ℕ). IsSpot (Counts scene.elements t) found.directory.at.pfs.0 found.directory.at.object (first_key (hash named.name.now)) spot)
        (ap (λ i. i.0) is.linked_is.last ∙ ap (λ (c : Course). c.last.0) set.course_is) is.spot_is) links_is
        (ln_file hash (λ _. 0) 0 old new scene parts more named.name.now found.object found.directory is.linked_is.end is.linked_is.place busy none
        is.no_dir is.no_link is.one_pfs) puts))
        linking.each writes

    -- an object that is not there gets no link
    pub ln_stays : found.object.inode ≡ None → es' ≡ elements_of start → xs' ≡ extents_of start
        → Wrote (Changes hash id (λ call. call.command ≡ Ln old new)) (elements_of start) (extents_of start) es' xs'
    ln_stays none same_elements same_extents =
        writes_changes hash id course (Ln old new) (λ was now. now ≡ was) (IsLinking spot) (elements_of start) es' (extents_of start) xs' before
        (λ busy paths scene list reads set is unchanged.
        subst (λ (ps : List Parsed). ChangesTree (call_in hash (Ln old new) ps busy scene) scene.elements list)
        (sym (paths_linked old new parts more paths path next reads))
        (subst (λ (l : List FullElement). ChangesTree (call_in hash (Ln old new) (Parts parts ∷ Parts more ∷ []) busy scene) scene.elements l) (sym unchanged)
        (ln_unchanged hash (λ _. 0) 0 old new scene parts more named.name.now found.object found.directory is.linked_is.end is.linked_is.place busy none id
        course before path next set is.own is.linked_is.below is.linked_is.master)))
        linking.each (wrote_nothing (elements_of start) es' (extents_of start) xs' same_elements same_extents)

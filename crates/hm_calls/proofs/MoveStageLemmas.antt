-- What the stages of `mv` tell, from what their steps tell, and what it changes by that.
use Rattle.std.proofs.Common.{◌≡◌, ℕ, ◌+◌, ◌-◌, ◌≤◌, List, [], ◌∷◌, false, Option, Some, None, Result, Ok, Err, refl, sym, ap, subst, ◌∙◌}
use Rattle.std.proofs.Common.{arith}
use Rattle.std.specs.Prelude.{◌==◌, ◌||◌, IfSome, if◌then◌else◌, is_some, option_map}
use Rattle.std.specs.Bool.{nat_lt}
use Rattle.std.proofs.lemmas.Bool.{le-ltb}
use Rattle.hm_types.specs.Elements.{FullElement, Key}
use Rattle.hm_types.specs.Tree.{FileTree, named_in, object_in}
use Rattle.hm_types.specs.declared.id.Obj.{Obj}
use Rattle.hm_types.specs.declared.limits.TheConstants.{GREATEST_ID}
use Rattle.hm_types.specs.declared.object.Object.{Object}
use Rattle.hm_path.specs.Path.{IsPath}
use Rattle.hm_path.specs.declared.part.Part.{Part}
use Rattle.hm_key.specs.Counts.{Content, Counts}
use Rattle.hm_key.specs.Elements.{IsContent}
use Rattle.hm_key.specs.Extents.{Extent}
use Rattle.hm_key.specs.Stores.{Same}
use Rattle.hm_key.specs.Versions.{HaveOwnKeys}
use Rattle.hm_key.specs.declared.element.Element.{Element}
use Rattle.hm_cursor.specs.Told.{IsInodeThen, Lists, OnBalanced, fulls}
use Rattle.hm_cursor.specs.Views.{WritesIn}
use Rattle.hm_cursor.proofs.ViewsLemmas.{nothing_written}
use Rattle.hm_model.specs.Call.{Call}
use Rattle.hm_model.specs.Due.{Check, first_refusal, good_path, has_id, refuse_if, walks}
use Rattle.hm_model.specs.Sites.{MakesName, Parsed, Parts, TakesName, last_name, locate}
use Rattle.hm_model.specs.View.{object_at}
use Rattle.hm_model.specs.declared.command.Command.TheVariants.{Mv}
use Rattle.hm_model.specs.declared.reply.Reply.TheVariants.{CrossPfs, IntoItself, NoSpace, ReadOnly}
use Rattle.hm_records.specs.KeysFit.{KeysFit}
use Rattle.hm_records.specs.View.{HasEntry, IsViewOf}
use Rattle.hm_records.specs.declared.inode.Inode.{Inode}
use Rattle.hm_volume.specs.Found.{IsFoundBy}
use Rattle.hm_volume.proofs.MadeLemmas.{found, not_found}
use Rattle.hm_dirs.specs.Names.{AreOlderIn, IsLookedUp, IsSpot, OnNamed, first_key}
use Rattle.hm_dirs.specs.Walk.{OnShown, Scene, place_of, when_of}
use Rattle.hm_dirs.specs.declared.position.Course.{Course}
use Rattle.hm_dirs.specs.declared.position.Stand.{Stand}
use Rattle.hm_dirs.specs.declared.spot.Spot.{Spot}
use Rattle.hm_calls.specs.Changes.{Changes, ChangesTree}
use Rattle.hm_calls.specs.Known.{AreBelow, AreBelowIn}
use Rattle.hm_calls.specs.Links.{AreSeen}
use Rattle.hm_calls.specs.Moves.{HasSpot, IsMovable, IsMoveOf, LeadsBy, LeadsToOther, TellsMoved, WritesMove, end_checks, leads_to, move_checks}
use Rattle.hm_calls.specs.Moves.{object_beside, seen_of, watching}
use Rattle.hm_calls.specs.Scenes.{InScenes, IsNewPlace, IsSet, IsTakenName, call_in, is_slave, tree_at}
use Rattle.hm_calls.specs.Stages.{AnswersAll, IsNewName, last_checks, word_checks}
use Rattle.hm_calls.specs.Stop.{Answers}
use Rattle.hm_calls.specs.Writes.{IsNewIn, Place, Renames, ReplacesName, place_in}
use Rattle.hm_calls.specs.declared.moves.Moving.{Moving}
use Rattle.hm_calls.specs.declared.rename.Move.{Move}
use Rattle.hm_calls.specs.declared.rename.Move.TheVariants.{Beside, Itself, Over}
use Rattle.hm_calls.specs.declared.rename.Moved.{Moved}
use Rattle.hm_calls.specs.declared.rename.Replaced.{Replaced}
use Rattle.hm_calls.specs.declared.stages.NewName.{NewName}
use Rattle.hm_calls.specs.declared.stop.Stop.{Stop}
use Rattle.hm_calls.proofs.EffectLemmas.{IsFoundThen}
use Rattle.hm_calls.proofs.FrontLemmas.{IsAsked, back_in, back_over, both_in, map_in, on_in, second_none, skips}
use Rattle.hm_calls.proofs.KindLemmas.{number_found}
use Rattle.hm_calls.proofs.LinkCallLemmas.{in_tree}
use Rattle.hm_calls.proofs.MakeLemmas.{new_place_there, new_view}
use Rattle.hm_calls.proofs.MoveLemmas.{mv_beside, mv_checks, mv_itself, mv_over, mv_passes, one_pfs_is, one_tree, paths_moved, stands_under, way_check}
use Rattle.hm_calls.proofs.ReachLemmas.{IsFoundAt, placed_in, unplaced_in}
use Rattle.hm_calls.proofs.RemoveLemmas.{made_links}
use Rattle.hm_calls.proofs.SceneLemmas.{IsStoppedBy, scenes_balanced, scenes_named, scenes_watching}
use Rattle.hm_calls.proofs.StageLemmas.{IsSought, Wrote, good_named, on_balanced, scenes_own, taken, untaken, writes_changes}
use Rattle.hm_calls.proofs.StepLemmas.{entries_older}

-- ---- the words

module _ (old new : List ℕ) (parts more : List Part) (old_name : List ℕ) (named : last_name parts ≡ Some old_name) where
  -- what they are asked, with the last name that is taken
  pub moved_words : (last : ℕ) → first_refusal (good_path TakesName (Parts parts) ∷ word_checks last parts more) ≡ first_refusal (word_checks last parts more)
  moved_words last = ap (λ (check : Check). first_refusal (check ∷ word_checks last parts more)) (good_named parts old_name named)

  pub moved_asked : (id : ℕ) (course : Course) {T : Type 0} {x : T} → course.last.0 + 1 ≡ id → id ≤ GREATEST_ID → IsPath old parts → IsPath new more
      → AnswersAll (word_checks course.last.0 parts more) (Ok x) → IsAsked id course (Mv old new) (Parts parts ∷ Parts more ∷ [])
  moved_asked id course before most path next told = record {
    before = before;
    most = most;
    only = λ paths reads. paths_moved old new parts more paths path next reads;
    early = λ busy. moved_words course.last.0 ∙ told.is;
  }

-- ---- where the walks led

module _ (hash : List ℕ → ℕ) (course : Course) (es : Option (List Element)) (xs : Option (List Extent)) (parts : List Part) (name : List ℕ)
    (named : last_name parts ≡ Some name) (none : has_id (Parts parts) ≡ false) where
  -- what the walk to a name that stands there tells
  abbrev pub IsSoughtIn : Result (Stand × Stand) Stop → Type 0
  IsSoughtIn result = OnShown es xs course (λ scene. KeysFit hash scene.elements → IsSought hash course es xs parts name named none result scene)

  pub untaken_in : (stopped : Stop) → IsSoughtIn (Err stopped)
      → InScenes hash course es xs (λ scene. IsStoppedBy (walks (locate scene.volume scene.view TakesName parts)) stopped)
  untaken_in stopped told = record { each = untaken hash course es xs parts name named none stopped told }

  pub taken_in : (from object : Stand) → IsSoughtIn (Ok (from, object)) → InScenes hash course es xs (λ scene. IsTakenName scene parts name from object)
  taken_in from object told = record { each = taken hash course es xs parts name named none (from, object) told }

-- a course that watches for an object
abbrev pub watched : Course → Stand → Course
watched course object = record course { watch = Some (object.at.pfs, object.at.object) }

-- what holds in scenes of that course
watched_in : {hash : List ℕ → ℕ} {course : Course} {es : Option (List Element)} {xs : Option (List Extent)} (object : Stand) (P : Scene → Type 0)
    → InScenes hash (watched course object) es xs P → InScenes hash course es xs (λ scene. P (watching object scene))
watched_in {hash = hash} {course = course} {es = es} {xs = xs} object P told =
    map_in {P = λ scene. P (record scene { course = watched course object })}
    (λ scene set is. subst (λ (c : Course). P (record scene { course = watched c object })) (sym set.course_is) is)
    (record { each = scenes_watching hash course (watched course object) es xs P refl told.each })

module _ {S : Type 0} {elements_of : S → Option (List Element)} {mark_of : S → Key → ℕ} {extents_of : S → Option (List Extent)} {room_of : S → ℕ → ℕ}
    {free_of : S → ℕ} {old new : S} (hash : List ℕ → ℕ) (course : Course) (object : Stand)
    (same : Same elements_of mark_of extents_of room_of free_of old new) (one more : List Part) (named : NewName) (is : IsNewName one more named) where
  pub unplaced_watching : (stopped : Stop) → IsFoundAt hash (watched course object) same one more named is (Err stopped)
      → InScenes hash course (elements_of old) (extents_of old) (λ scene. IsStoppedBy (walks (locate scene.volume scene.view MakesName more)) stopped)
  unplaced_watching stopped told =
      watched_in object (λ scene. IsStoppedBy (walks (locate scene.volume scene.view MakesName more)) stopped)
      (unplaced_in hash (watched course object) same one more named is stopped told)

  pub placed_watching : (stand : Stand) → IsFoundAt hash (watched course object) same one more named is (Ok stand)
      → InScenes hash course (elements_of old) (extents_of old) (λ scene. IsNewPlace (watching object scene) more named.name.now stand)
  placed_watching stand told =
      watched_in object (λ scene. IsNewPlace scene more named.name.now stand) (placed_in hash (watched course object) same one more named is stand told)

-- the name that was taken, in a scene that watches for its object
pub taken_watching : (scene : Scene) (parts : List Part) (name : List ℕ) (from object : Stand) → IsTakenName scene parts name from object
    → IsTakenName (watching object scene) parts name from object
taken_watching scene parts name from object is = record {
  site = is.site;
  place_is = is.place_is;
  name_is = is.name_is;
  standing = is.standing;
  directory_is = is.directory_is;
  end_is = is.end_is;
  read = record {
    drawn = is.read.drawn;
    view = is.read.view;
    inode = is.read.inode;
  };
}

-- both walks led to their ends, in no slave
pub is_movable : {hash : List ℕ → ℕ} {course : Course} {es : Option (List Element)} {xs : Option (List Extent)} (parts more : List Part) (id : ℕ)
    (old_name name : List ℕ) (from object to there : Stand) (moved : Moved) {x : Unit {0}} → there ≡ record to { as_of = course.last }
    → InScenes hash course es xs (λ scene. IsTakenName scene parts old_name from object)
    → InScenes hash course es xs (λ scene. IsNewPlace (watching object scene) more name to)
    → InScenes hash course es xs (λ scene. Answers (refuse_if (is_slave scene.volume from.at.pfs.0 || (is_slave scene.volume to.at.pfs.0 || false)) ReadOnly)
    (Ok x))
    → InScenes hash course es xs (λ scene. AreBelow to.at.pfs.0 id scene.elements)
    → InScenes hash course es xs (IsMovable parts more id old_name name (record { from = from; object = object; moved = moved; to = there }))
is_movable {course = course} parts more id old_name name from object to there moved is takes places masters below =
    map_in (λ scene set told.
    subst (λ (s : Stand). IsMovable parts more id old_name name (record { from = from; object = object; moved = moved; to = s }) scene) (sym is) (record {
      taken = told.0.0;
      place = new_place_there (watching object scene) more name to (record to { as_of = course.last }) course refl told.0.1;
      master = second_none (is_slave scene.volume from.at.pfs.0) (is_slave scene.volume to.at.pfs.0) ReadOnly told.1.0;
      below = told.1.1;
      last = ap (λ (c : Course). c.last) (sym set.course_is);
    })) (both_in (both_in takes places) (both_in masters below))

-- where nothing is moved there is no inode
pub no_moved : {X Y : Type 0} (moved : Option X) (inode : Option Y) → moved ≡ None → is_some moved ≡ is_some inode → inode ≡ None
no_moved moved None none same = refl
no_moved None (Some y) none same = absurd (cc)
no_moved (Some x) (Some y) none same = absurd (cc)

-- ---- the checks of both places

-- from those by what the new name leads to, where the others pass
pub to_end : {T : Type 0} {result : Result T Stop} (hash : List ℕ → ℕ) (room : ℕ → ℕ) (free : ℕ) (name : List ℕ) (from object to : Stand) (call : Call)
    (scene : Scene) (found : Option Obj) → (if from.at.pfs.0 == to.at.pfs.0 then None else Some CrossPfs) ≡ None → refuse_if to.passed IntoItself ≡ None
    → leads_to scene to name ≡ found → AnswersAll (end_checks hash room free name object to call scene found) result
    → AnswersAll (move_checks hash room free name from object to call scene) result
to_end {result = result} hash room free name from object to call scene found same into leads told =
    skips same (skips into (subst (λ (f : Option Obj). AnswersAll (end_checks hash room free name object to call scene f) result) (sym leads) told))

on_named_so : (hash : List ℕ → ℕ) (es : Option (List Element)) (xs : Option (List Extent)) (P Q : Lists → Type 0)
    → ((lists : Lists) → P lists → Q lists) → OnNamed hash es xs P → OnNamed hash es xs Q
on_named_so hash es xs P Q step =
    on_balanced es xs (λ lists. KeysFit hash (fulls lists) → P lists) (λ lists. KeysFit hash (fulls lists) → Q lists) (λ lists is fit. step lists (is fit))

-- what stands there is told by the inode that was found
found_by : (es : List FullElement) (t pfs : ℕ) (tree : FileTree) (number : Obj) (answer : Option Inode) → HaveOwnKeys es → IsViewOf es pfs t tree
    → IsFoundThen es t pfs number.0 answer → IsFoundBy (Counts es t) pfs (object_in tree number) answer
found_by es t pfs tree number None own view none =
    subst (λ (o : Option Object). IsFoundBy (Counts es t) pfs o None) (sym (not_found es t pfs tree number own view none)) tt
found_by es t pfs tree number (Some inode) own view has =
    let (o, there, made) = found es t pfs tree number own view inode has in
    subst (λ (o : Option Object). IsFoundBy (Counts es t) pfs o (Some inode)) (sym there) made

inode_then : (lists : Lists) (t pfs number : ℕ) (answer : Option Inode) → IsInodeThen lists t pfs number answer
    → IsFoundThen (fulls lists) t pfs number answer
inode_then lists t pfs number None none = none
inode_then lists t pfs number (Some inode) has = has

module _ (hash : List ℕ → ℕ) (course : Course) (es : Option (List Element)) (xs : Option (List Extent)) (found : Moving)
    (seen : InScenes hash course es xs (AreSeen (seen_of found))) where
  -- what a look for the new name told
  abbrev pub IsSearched : List ℕ → Option (ℕ × Obj) → Type 0
  IsSearched bytes answer = OnNamed hash es xs (λ lists. IsLookedUp found.to.as_of.0 found.to.at.pfs.0 found.to.at.object bytes answer lists
      × ((tree : FileTree) → IsViewOf (fulls lists) found.to.at.pfs.0 found.to.as_of.0 tree
      → named_in tree found.to.at.object bytes ≡ option_map (λ (f : ℕ × Obj). f.1) answer))

  pub searched : (bytes name : List ℕ) (answer one : Option (ℕ × Obj)) → bytes ≡ name → answer ≡ one → IsSearched bytes answer → IsSearched name one
  searched bytes name answer one named is told =
      subst (λ (n : List ℕ). IsSearched n one) named (subst (λ (f : Option (ℕ × Obj)). IsSearched bytes f) is told)

  pub leads_in : (name : List ℕ) (answer : Option (ℕ × Obj)) → IsSearched name answer
      → InScenes hash course es xs (λ scene. leads_to scene found.to name ≡ option_map (λ (f : ℕ × Obj). f.1) answer)
  leads_in name answer told =
      in_tree hash course es xs (seen_of found) (λ list tree. named_in tree found.to.at.object name ≡ option_map (λ (f : ℕ × Obj). f.1) answer)
      (on_named_so hash es xs
      (λ lists. IsLookedUp found.to.as_of.0 found.to.at.pfs.0 found.to.at.object name answer lists
      × ((tree : FileTree) → IsViewOf (fulls lists) found.to.at.pfs.0 found.to.as_of.0 tree
      → named_in tree found.to.at.object name ≡ option_map (λ (f : ℕ × Obj). f.1) answer))
      (λ lists. (tree : FileTree) → IsViewOf (fulls lists) found.to.at.pfs.0 found.to.as_of.0 tree
      → named_in tree found.to.at.object name ≡ option_map (λ (f : ℕ × Obj). f.1) answer)
      (λ lists is. is.1) told) seen

  entry_in : (name : List ℕ) (key : ℕ) (number : Obj) → IsSearched name (Some (key, number))
      → InScenes hash course es xs (λ scene. HasEntry (Counts scene.elements found.to.as_of.0) found.to.at.pfs.0 found.to.at.object key name number)
  entry_in name key number told = record {
    each = scenes_named hash course es xs (λ list. HasEntry (Counts list found.to.as_of.0) found.to.at.pfs.0 found.to.at.object key name number)
        (on_named_so hash es xs
        (λ lists. IsLookedUp found.to.as_of.0 found.to.at.pfs.0 found.to.at.object name (Some (key, number)) lists
        × ((tree : FileTree) → IsViewOf (fulls lists) found.to.at.pfs.0 found.to.as_of.0 tree
        → named_in tree found.to.at.object name ≡ Some number))
        (λ lists. HasEntry (Counts (fulls lists) found.to.as_of.0) found.to.at.pfs.0 found.to.at.object key name number)
        (λ lists is. is.0.there) told);
  }

  pub leads_by : (name : List ℕ) (key : ℕ) (number : Obj) → IsSearched name (Some (key, number))
      → InScenes hash course es xs (LeadsBy name found key number)
  leads_by name key number told =
      map_in {Q = LeadsBy name found key number} (λ scene set is. record { leads = is.0; entry = is.1 })
      (both_in (leads_in name (Some (key, number)) told) (entry_in name key number told))

  -- the inode that was found is that of what stands there
  pub found_there : (number : Obj) (told_is answer : Option Inode) → told_is ≡ answer → IfSome es IsContent
      → OnBalanced es xs (λ lists. IsInodeThen lists found.object.as_of.0 found.object.at.pfs.0 number.0 told_is)
      → InScenes hash course es xs (λ scene. IsFoundBy (Counts scene.elements found.object.as_of.0) found.object.at.pfs.0
      (object_beside scene found.object number) answer)
  found_there number told_is answer same content told =
      map_in {P = λ scene. (AreSeen (seen_of found) scene × HaveOwnKeys scene.elements)
      × IsFoundThen scene.elements found.object.as_of.0 found.object.at.pfs.0 number.0 answer}
      (λ scene set is. found_by scene.elements found.object.as_of.0 found.object.at.pfs.0
      (scene.view found.object.at.pfs.0 (when_of found.object.at.when)) number answer is.0.1 is.0.0.object.view is.1)
      (both_in (both_in seen (record { each = scenes_own hash course es xs content })) (record {
        each = scenes_balanced hash course es xs (λ list. IsFoundThen list found.object.as_of.0 found.object.at.pfs.0 number.0 answer)
            (on_balanced es xs (λ lists. IsInodeThen lists found.object.as_of.0 found.object.at.pfs.0 number.0 answer)
            (λ lists. IsFoundThen (fulls lists) found.object.as_of.0 found.object.at.pfs.0 number.0 answer)
            (λ lists is. inode_then lists found.object.as_of.0 found.object.at.pfs.0 number.0 answer is)
            (subst (λ (o : Option Inode). OnBalanced es xs (λ lists. IsInodeThen lists found.object.as_of.0 found.object.at.pfs.0 number.0 o)) same told));
      }))

pub beside_number : (scene : Scene) (object : Stand) (number : Obj) → IfSome (object_beside scene object number) (λ o. o.number.0 ≡ number.0)
beside_number scene object number = by (object_beside scene object number) refl where
  by : (o : Option Object) → object_in (scene.view object.at.pfs.0 (when_of object.at.when)) number ≡ o → IfSome o (λ found. found.number.0 ≡ number.0)
  by None is = tt
  by (Some o) is = number_found (scene.view object.at.pfs.0 (when_of object.at.when)) number o is

-- the links of what stands there are those of its inode
pub links_of : (counts : Content) (pfs : ℕ) (inode : Inode) (o : Option Object) → IsFoundBy counts pfs o (Some inode) → (there : Object) → o ≡ Some there
    → there.links ≡ inode.links
links_of counts pfs inode None by there is = absurd by
links_of counts pfs inode (Some o) by there is =
    let same : o ≡ there = cc in
    subst (λ (x : Object). x.links ≡ inode.links) same (made_links counts pfs inode o by)

-- nothing is asked of the space where nothing is written
pub nothing_lacks : (free : ℕ) → refuse_if (nat_lt (free - 4) 0) (NoSpace free 0) ≡ None
nothing_lacks free = rw (le-ltb (free - 4) 0 (omega arith)) refl

-- ---- what it writes

-- it writes in the pseudo file system of the new name
pub moves_write : (hash : List ℕ → ℕ) (old new : Place) (i : ℕ) (moved : Moved) (move : Move) (es es' : List FullElement)
    → WritesMove hash old new i moved move es es' → WritesIn new.pfs i (IsNewIn new.pfs i) es es'
moves_write hash old new i moved Itself es es' unchanged =
    subst (λ (l : List FullElement). WritesIn new.pfs i (IsNewIn new.pfs i) es l) (sym unchanged) (nothing_written new.pfs i (IsNewIn new.pfs i) es)
moves_write hash old new i moved (Beside spot) es es' renames = renames.steps.writes
moves_write hash old new i moved (Over there) es es' replaces = replaces.steps.writes

-- the entries of each directory are older where all elements are
pub older_in : (es : Option (List Element)) (xs : Option (List Extent)) (pfs id : ℕ) (directory : Obj) → AreBelowIn es xs pfs id
    → AreOlderIn es xs pfs directory id
older_in None xs pfs id directory below = tt
older_in (Some es) None pfs id directory below = tt
older_in (Some es) (Some xs) pfs id directory below = entries_older pfs id directory (fulls (es, xs)) below

module _ {S : Type 0} {elements_of : S → Option (List Element)} {mark_of : S → Key → ℕ} {extents_of : S → Option (List Extent)} {room_of : S → ℕ → ℕ}
    {free_of : S → ℕ} {start mid : S} {hash : List ℕ → ℕ} {course : Course} {parts more : List Part} {id : ℕ} {old_name : List ℕ} {name : List ℕ}
    {found : Moving} (same : Same elements_of mark_of extents_of room_of free_of start mid)
    (movable : InScenes hash course (elements_of start) (extents_of start) (IsMovable parts more id old_name name found)) where
  -- the object and the directory are seen
  seen_then : InScenes hash course (elements_of mid) (extents_of mid) (AreSeen (seen_of found))
  seen_then = on_in same (map_in (λ scene set is. record {
    object = is.taken.read;
    tree = subst (λ (t : ℕ). IsViewOf scene.elements found.to.at.pfs.0 t (tree_at scene found.to))
        (ap (λ (c : Course). c.last.0) (sym set.course_is) ∙ ap (λ i. i.0) (sym is.last))
        (subst (λ (t : ℕ). IsViewOf scene.elements found.to.at.pfs.0 t (tree_at scene found.to)) set.last
        (new_view (watching found.object scene) more name found.to is.place set.shows is.master));
  }) movable)

  -- what the last stage tells of its checks
  abbrev pub Tells : (ℕ → ℕ) → ℕ → {T : Type 0} → Result T Stop → Scene → Type 0
  Tells room free result scene = (call : Call) → AnswersAll (move_checks hash room free name found.from found.object found.to call scene) result

  -- it tells of those of the call
  pub moved_tells : (old new : List ℕ) {T : Type 0} {result : Result T Stop}
      → (InScenes hash course (elements_of mid) (extents_of mid) (AreSeen (seen_of found))
      → InScenes hash course (elements_of mid) (extents_of mid) (Tells (room_of mid) (free_of mid) result))
      → InScenes hash course (elements_of start) (extents_of start) (λ scene. (busy : Option ℕ)
      → AnswersAll (last_checks (call_in hash (Mv old new) (Parts parts ∷ Parts more ∷ []) busy scene) (room_of start) (free_of start)) result)
  moved_tells old new {result = result} told =
      map_in (λ scene set is busy.
      mv_checks hash (room_of start) (free_of start) old new (watching found.object scene) parts more old_name name found.from found.object found.to
      (taken_watching scene parts old_name found.from found.object is.0.taken) is.0.place is.0.place.told busy
      (is.1 (call_in hash (Mv old new) (Parts parts ∷ Parts more ∷ []) busy scene)))
      (both_in movable (back_over same (λ room free scene. Tells room free result scene) (told seen_then)))

  -- what is known when it is written
  record IsWriting (room : ℕ → ℕ) (free : ℕ) (move : Move) (scene : Scene) : Type 0 where
    pub movable_is : IsMovable parts more id old_name name found scene
    pub own : HaveOwnKeys scene.elements
    pub passes : Tells room free (Ok move) scene
    pub move_is : IsMoveOf hash name found move scene

  module _ (room : ℕ → ℕ) (free : ℕ) (moved : TellsMoved found) (old new : List ℕ) (before : course.last.0 + 1 ≡ id) (path : IsPath old parts)
      (next : IsPath new more) where
    module _ (busy : Option ℕ) (scene : Scene) (list : List FullElement) (set : IsSet hash course scene) (move : Move) (is : IsWriting room free move scene)
      where
        abbrev here : Call
        here = call_in hash (Mv old new) (Parts parts ∷ Parts more ∷ []) busy scene

        abbrev there : Scene
        there = watching found.object scene

        set_there : IsSet hash (watched course found.object) there
        set_there = record {
          course_is = ap (λ (c : Course). watched c found.object) set.course_is;
          last = set.last;
          shows = set.shows;
          keys = set.keys;
        }

        takes : IsTakenName there parts old_name found.from found.object
        takes = taken_watching scene parts old_name found.from found.object is.movable_is.taken

        passed : ((if found.from.at.pfs.0 == found.to.at.pfs.0 then None else Some CrossPfs) ≡ None) × (refuse_if found.to.passed IntoItself ≡ None)
            × (way_check here (object_at scene.view (place_of found.object.at)) (tree_at scene found.to) (leads_to scene found.to name) ≡ None)
        passed =
            mv_passes hash room free old new there parts more old_name name found.from found.object found.to takes is.movable_is.place
            is.movable_is.place.told busy (is.passes here).is

        one_pfs : found.from.at.pfs.0 ≡ found.to.at.pfs.0
        one_pfs = one_pfs_is found.from.at.pfs.0 found.to.at.pfs.0 passed.0

        last_is : found.to.as_of.0 ≡ course.last.0
        last_is = ap (λ i. i.0) is.movable_is.last ∙ ap (λ (c : Course). c.last.0) set.course_is

        itself_changes : IsMoveOf hash name found Itself scene → list ≡ scene.elements → ChangesTree here scene.elements list
        itself_changes (number, leads, itself) unchanged =
            subst (λ (l : List FullElement). ChangesTree here scene.elements l) (sym unchanged)
            (mv_itself hash room free old new there parts more old_name name found.from found.object found.to takes is.movable_is.place
            is.movable_is.place.told busy id (watched course found.object) before path next set_there is.own is.movable_is.below is.movable_is.master number
            leads itself passed.2)

        beside_changes : (spot : Spot) → HasSpot hash name found spot scene
            → Renames hash (place_in found.from old_name) (place_in found.to name) spot id found.moved.obj found.moved.kind scene.elements list
            → ChangesTree here scene.elements list
        beside_changes spot beside renames =
            mv_beside hash room free old new there parts more old_name name found.from found.object found.to takes is.movable_is.place
            is.movable_is.place.told busy id (watched course found.object) before path next set_there is.own is.movable_is.below is.movable_is.master one_pfs
            beside.fresh found.moved.kind moved.kind_is spot list
            (subst (λ (t : ℕ). IsSpot (Counts scene.elements t) found.to.at.pfs.0 found.to.at.object (first_key (hash name)) spot) last_is
            beside.spot_is)
            (subst (λ (o : Obj). Renames hash (place_in found.from old_name) (place_in found.to name) spot id o found.moved.kind scene.elements list)
            moved.obj renames)

        over_changes : (other : Replaced) → LeadsToOther name found other scene
            → ReplacesName hash (place_in found.from old_name) (place_in found.to name) other.key id found.moved.obj found.moved.kind other.obj
            other.links scene.elements list
            → ChangesTree here scene.elements list
        over_changes other over replaces =
            mv_over hash room free old new there parts more old_name name found.from found.object found.to takes is.movable_is.place
            is.movable_is.place.told busy id (watched course found.object) before path next set_there is.own is.movable_is.below is.movable_is.master one_pfs
            other.obj over.by.leads over.other passed.2 other.links
            (λ o stands. over.links o
            (ap (λ (tree : FileTree). object_in tree other.obj)
            (one_tree there parts more old_name name found.from found.object found.to takes is.movable_is.place one_pfs)
            ∙ (ap (λ (f : Option Obj). stands_under (tree_at scene found.to) f) (sym over.by.leads) ∙ stands)))
            other.key found.moved.kind moved.kind_is list
            (subst (λ (t : ℕ). HasEntry (Counts scene.elements t) found.to.at.pfs.0 found.to.at.object other.key name other.obj) last_is over.by.entry)
            (subst (λ (o : Obj). ReplacesName hash (place_in found.from old_name) (place_in found.to name) other.key id o found.moved.kind other.obj
            other.links scene.elements list) moved.obj replaces)

    changes : (busy : Option ℕ) (scene : Scene) (list : List FullElement) → IsSet hash course scene → (move : Move) → IsWriting room free move scene
        → WritesMove hash (place_in found.from old_name) (place_in found.to name) id found.moved move scene.elements list
        → ChangesTree (call_in hash (Mv old new) (Parts parts ∷ Parts more ∷ []) busy scene) scene.elements list
    changes busy scene list set Itself is unchanged = itself_changes busy scene list set Itself is is.move_is unchanged
    changes busy scene list set (Beside spot) is renames = beside_changes busy scene list set (Beside spot) is spot is.move_is renames
    changes busy scene list set (Over other) is replaces = over_changes busy scene list set (Over other) is other is.move_is replaces

    -- what was written is its change
    pub moved_writes : (move : Move) → IfSome (elements_of start) IsContent
        → (InScenes hash course (elements_of mid) (extents_of mid) (AreSeen (seen_of found))
        → InScenes hash course (elements_of mid) (extents_of mid) (Tells room free (Ok move)))
        → (InScenes hash course (elements_of mid) (extents_of mid) (AreSeen (seen_of found))
        → InScenes hash course (elements_of mid) (extents_of mid) (IsMoveOf hash name found move))
        → (es' : Option (List Element)) (xs' : Option (List Extent))
        → Wrote (WritesMove hash (place_in found.from old_name) (place_in found.to name) id found.moved move) (elements_of start) (extents_of start)
        es' xs'
        → Wrote (Changes hash id (λ call. call.command ≡ Mv old new)) (elements_of start) (extents_of start) es' xs'
    moved_writes move content told of_move es' xs' writes =
        writes_changes hash id course (Mv old new) (WritesMove hash (place_in found.from old_name) (place_in found.to name) id found.moved move)
        (IsWriting room free move) (elements_of start) es' (extents_of start) xs' before
        (λ busy paths scene list reads set is wrote.
        subst (λ (ps : List Parsed). ChangesTree (call_in hash (Mv old new) ps busy scene) scene.elements list)
        (sym (paths_moved old new parts more paths path next reads)) (changes busy scene list set move is wrote))
        (map_in {P = λ scene. (IsMovable parts more id old_name name found scene × HaveOwnKeys scene.elements)
        × (Tells room free (Ok move) scene × IsMoveOf hash name found move scene)} {Q = IsWriting room free move}
        (λ scene set is. record { movable_is = is.0.0; own = is.0.1; passes = is.1.0; move_is = is.1.1 })
        (both_in (both_in movable (record { each = scenes_own hash course (elements_of start) (extents_of start) content }))
        (both_in (back_in same (told seen_then)) (back_in same (of_move seen_then))))).each writes

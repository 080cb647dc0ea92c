-- The checks of `ln`, and what it makes of a tree, by where its walks came to.
use Rattle.std.proofs.Common.{◌≡◌, ℕ, ◌+◌, List, [], ◌∷◌, Bool, false, Option, Some, None, Result, refl, sym, ap, subst, ◌∙◌, true}
use Rattle.std.specs.Prelude.{◌==◌, ◌||◌, if◌then◌else◌}
use Rattle.std.specs.Bool.{nat_le}
use Rattle.std.specs.Option.{option_map_or}
use Rattle.hm_types.specs.Elements.{FullElement}
use Rattle.hm_types.specs.Tree.{FileTree, named_in, with_change, with_links, with_name, object_in}
use Rattle.hm_types.specs.declared.id.Obj.{Obj}
use Rattle.hm_types.specs.declared.object.Object.{Object}
use Rattle.hm_path.specs.Path.{IsPath}
use Rattle.hm_path.specs.declared.part.Part.{Part}
use Rattle.hm_key.specs.Counts.{Content, Counts}
use Rattle.hm_key.specs.Versions.{HaveOwnKeys}
use Rattle.hm_model.specs.Call.{Call, site_in}
use Rattle.hm_model.specs.Change.{changed, changed_pfs, linked}
use Rattle.hm_model.specs.Due.{Check, a_file, first_refusal, hash_is_full, is_dir_or_link, is_in_slave, is_softlink, links_left, name_is_new, new_name, no_dir}
use Rattle.hm_model.specs.Due.{has_id}
use Rattle.hm_model.specs.Due.{refuse_if, walks}
use Rattle.hm_model.specs.Needs.{names_zones}
use Rattle.hm_model.specs.Sites.{At, Located, MakesName, Parsed, Parts, ReadsWords, Walks, at_end, locate}
use Rattle.hm_model.specs.View.{Now, Position, When, object_at}
use Rattle.hm_model.specs.Walk.{Stays, walk, start}
use Rattle.hm_model.specs.declared.command.Command.TheVariants.{Ln}
use Rattle.hm_model.specs.declared.reply.Reply.TheVariants.{CrossPfs, Exists, HashFull, IsDir, NotFile, ReadOnly}
use Rattle.hm_model.proofs.ReadLemmas.{read_once}
use Rattle.hm_records.specs.Payload.{KeyFits}
use Rattle.hm_records.specs.View.{IsViewOf, kind_number}
use Rattle.hm_records.specs.declared.inode.Inode.{Inode}
use Rattle.hm_records.proofs.NameLemmas.{same_obj}
use Rattle.hm_volume.specs.Found.{IsFoundBy}
use Rattle.hm_dirs.specs.Names.{IsSpot, first_key, names_of_hash}
use Rattle.hm_dirs.specs.Walk.{Scene, place_of, when_of}
use Rattle.hm_dirs.specs.declared.position.Course.{Course}
use Rattle.hm_dirs.specs.declared.position.Stand.{Stand}
use Rattle.hm_dirs.specs.declared.spot.Spot.{Spot}
use Rattle.hm_calls.specs.Call.{IsCall}
use Rattle.hm_calls.specs.Changes.{ChangesTree, tree_now}
use Rattle.hm_calls.specs.Due.{space_for}
use Rattle.hm_calls.specs.Known.{AreBelow}
use Rattle.hm_calls.specs.Places.{refuse_kind}
use Rattle.hm_calls.specs.Stages.{AnswersAll, last_checks, place_checks}
use Rattle.hm_calls.specs.Stop.{Answers}
use Rattle.hm_calls.specs.Writes.{IsOpen, PutsLink, place_in}
use Rattle.hm_calls.specs.declared.stop.Stop.{Stop}
use Rattle.hm_calls.proofs.EffectLemmas.{kinds_leading, opens, spot_fits, tree_changes, tree_stays}
use Rattle.hm_calls.proofs.FrontLemmas.{skips}
use Rattle.hm_calls.proofs.KindLemmas.{file_left, number_found}
use Rattle.hm_calls.proofs.MakeLemmas.{IsNewPlace, new_system, new_view, tree_at}
use Rattle.hm_calls.proofs.RefusalLemmas.{read_two}
use Rattle.hm_calls.proofs.RemoveLemmas.{IsMade, made_links, made_of, master_check}
use Rattle.hm_calls.proofs.SceneLemmas.{IsEnd, IsSet, call_in}
use Rattle.hm_calls.specs.Scenes.{is_slave}
use Rattle.hm_calls.specs.Links.{link_checks, links_check}
use Rattle.hm_calls.proofs.TreeLemmas.{change_before, change_keeps, change_kind}
use Rattle.hm_calls.proofs.CatLemmas.{refused_kind}
use Rattle.hm_calls.proofs.NowLemmas.{EndsNow, walk_now}
use Rattle.hm_records.specs.declared.kind.TheConstants.{FILE}
use Rattle.hm_types.specs.declared.object.Kind.TheVariants.{File}
use Rattle.std.proofs.lemmas.Bool.{eqb-true}

-- ---- the checks after the walks, by where these led

-- those on both places alone
abbrev ln_last : (ℕ → ℕ) → ℕ → Call → Located → Located → List Check
ln_last room free call one two =
    no_dir call (site_in one) ∷ a_file call (site_in one)
    ∷ (if (site_in one).at.pfs == (site_in two).at.pfs then None else Some CrossPfs) ∷ name_is_new call (site_in two) ∷ links_left call (site_in one)
    ∷ option_map_or (λ site. refuse_if (hash_is_full call site) HashFull) (new_name ((MakesName, []) ∷ []) (two ∷ [])) None ∷ None
    ∷ space_for names_zones 4 room free ∷ []

same_head : (check : Check) (one two : List Check) → first_refusal one ≡ first_refusal two → first_refusal (check ∷ one) ≡ first_refusal (check ∷ two)
same_head None one two same = same
same_head (Some refusal) one two same = refl

-- the hash of a name counts where the name is new
pub hash_counts : (found : Option Obj) (links : Check) (full : Bool) (space : Check)
    → first_refusal (option_map_or (λ _. Some Exists) found None ∷ links ∷ refuse_if full HashFull ∷ space ∷ [])
    ≡ first_refusal (option_map_or (λ _. Some Exists) found None ∷ links ∷ refuse_if (option_map_or (λ _. false) found full) HashFull ∷ None ∷ space ∷ [])
hash_counts None links full space = same_head links _ _ (same_head (refuse_if full HashFull) _ _ refl)
hash_counts (Some number) links full space = refl

-- where no inode was found there is no object
pub unfound : (counts : Content) (pfs : ℕ) (o : Option Object) (found : Option Inode) → found ≡ None → IsFoundBy counts pfs o found → o ≡ None
unfound counts pfs None None none by = refl
unfound counts pfs None (Some inode) none by = refl
unfound counts pfs (Some o) None none by = absurd by
unfound counts pfs (Some o) (Some inode) none by = absurd (cc)

-- whether it is refused since it lies in a slave
abbrev pub in_slave : Scene → ℕ → Bool
in_slave scene = is_slave scene.volume

module _ (hash : List ℕ → ℕ) (room : ℕ → ℕ) (free : ℕ) (old new : List ℕ) (scene : Scene) (parts more : List Part) (name : List ℕ) (object directory : Stand)
    (end : IsEnd scene Stays (walk scene.volume scene.view Stays parts) object) (place : IsNewPlace scene more name directory) (busy : Option ℕ) where
  abbrev pub ln : Call
  ln = call_in hash (Ln old new) (Parts parts ∷ Parts more ∷ []) busy scene

  -- where the walks led
  abbrev one_at : Position → Located
  one_at here = At (record { at = here; directory = here; name = []; passed = end.passed })

  abbrev two_at : Position → Position → List ℕ → Located
  two_at at from called = At (record { at = at; directory = from; name = called; passed = place.site.passed })

  one_is : locate scene.volume scene.view (Walks Stays) parts ≡ one_at (place_of object.at)
  one_is = ap at_end end.walked_is ∙ ap one_at (sym end.ends.place)

  two_is : locate scene.volume scene.view MakesName more ≡ two_at (place_of directory.at) (place_of directory.at) name
  two_is =
      place.place_is ∙ ap (λ p. two_at p place.site.directory place.site.name) (sym place.at_is)
      ∙ ap (λ p. two_at (place_of directory.at) p place.site.name) (sym place.directory_is)
      ∙ ap (λ n. two_at (place_of directory.at) (place_of directory.at) n) place.name_is

  -- what is told of the places, by where the walks came to
  pub ln_places : {T : Type 0} {result : Result T Stop}
      → AnswersAll (refuse_if (is_slave scene.volume object.at.pfs.0 || (is_slave scene.volume directory.at.pfs.0 || false)) ReadOnly ∷ []) result
      → AnswersAll (place_checks ln) result
  ln_places {result = result} told =
      skips (ap walks one_is) (skips (ap walks two_is)
      (subst (λ (l : Located). AnswersAll (refuse_if (is_in_slave ln l || (is_in_slave ln (locate scene.volume scene.view MakesName more) || false)) ReadOnly
      ∷ []) result) (sym one_is)
      (subst (λ (l : Located). AnswersAll (refuse_if (is_in_slave ln (one_at (place_of object.at)) || (is_in_slave ln l || false)) ReadOnly ∷ []) result)
      (sym two_is) told)))

  -- and of the checks after that
  pub ln_checks : {T : Type 0} {result : Result T Stop}
      → AnswersAll (link_checks hash room free name (record { object = object; directory = directory }) scene) result
      → AnswersAll (last_checks ln room free) result
  ln_checks {result = result} told =
      subst (λ (l : Located). AnswersAll (ln_last room free ln l (locate scene.volume scene.view MakesName more)) result) (sym one_is)
      (subst (λ (l : Located). AnswersAll (ln_last room free ln (one_at (place_of object.at)) l) result) (sym two_is)
      (record { is = subst (λ (check : Check). Answers check result) same told.is })) where
        same : first_refusal (link_checks hash room free name (record { object = object; directory = directory }) scene)
            ≡ first_refusal (ln_last room free ln (one_at (place_of object.at)) (two_at (place_of directory.at) (place_of directory.at) name))
        same =
            same_head (refuse_kind is_dir_or_link IsDir (object_at scene.view (place_of object.at))) _ _
            (same_head (refuse_kind is_softlink NotFile (object_at scene.view (place_of object.at))) _ _
            (same_head (if object.at.pfs.0 == directory.at.pfs.0 then None else Some CrossPfs) _ _
            (hash_counts (named_in (tree_at scene directory) directory.at.object name) (links_check scene object)
            (nat_le 1024 (names_of_hash hash (tree_at scene directory) directory.at.object name)) (space_for names_zones 4 room free))))

  -- ---- what it makes of the tree

  ln_pfs : changed_pfs ln ≡ directory.at.pfs.0
  ln_pfs = ap (λ (l : Located). (site_in l).at.pfs) two_is

  -- the object is a file in the tree of now
  pub ln_file : has_id (Parts parts) ≡ false → refuse_kind is_dir_or_link IsDir (object_at scene.view (place_of object.at)) ≡ None
      → refuse_kind is_softlink NotFile (object_at scene.view (place_of object.at)) ≡ None
      → (if object.at.pfs.0 == directory.at.pfs.0 then None else Some CrossPfs) ≡ None
      → (o : Object) → object_in (tree_now ln) object.at.object ≡ Some o → o.kind ≡ File
  ln_file none no_dir no_link same o there =
      file_left o.kind (refused_kind is_dir_or_link IsDir (object_at scene.view (place_of object.at)) o here no_dir)
      (refused_kind is_softlink NotFile (object_at scene.view (place_of object.at)) o here no_link)
    where
      now_is : when_of object.at.when ≡ Now
      now_is =
          ap (λ (p : Position). p.when) end.ends.place
          ∙ subst EndsNow end.walked_is (walk_now scene.volume scene.view Stays parts start ((0, 1) ∷ []) none refl)

      one_pfs : (b : Bool) → (object.at.pfs.0 == directory.at.pfs.0) ≡ b → (if b then None else Some CrossPfs) ≡ None
          → object.at.pfs.0 ≡ directory.at.pfs.0
      one_pfs true is passes = eqb-true object.at.pfs.0 directory.at.pfs.0 is
      one_pfs false is passes = absurd (cc)

      here : object_at scene.view (place_of object.at) ≡ Some o
      here =
          ap (λ (w : When). object_in (scene.view object.at.pfs.0 w) object.at.object) now_is
          ∙ ap (λ (p : ℕ). object_in (scene.view p Now) object.at.object)
          (one_pfs (object.at.pfs.0 == directory.at.pfs.0) refl same ∙ sym ln_pfs)
          ∙ there

  module _ (inode : Inode) (has : object.inode ≡ Some inode) where
    made : IsMade (Counts scene.elements object.as_of.0) object.at.pfs.0 (object_at scene.view (place_of object.at)) inode
    made = made_of (Counts scene.elements object.as_of.0) object.at.pfs.0 (object_at scene.view (place_of object.at)) object.inode inode has
        (end.ends.read tt).inode

    number_is : made.o.number ≡ object.at.object
    number_is =
        same_obj made.o.number object.at.object (number_found (scene.view object.at.pfs.0 (when_of object.at.when)) object.at.object made.o made.there)

    links_are : made.o.links ≡ inode.links
    links_are = made_links (Counts scene.elements object.as_of.0) object.at.pfs.0 inode made.o made.made

    ln_changed : (tree : FileTree) → changed ln tree
        ≡ with_name (with_change tree object.at.object (with_links (inode.links + 1))) directory.at.object name object.at.object
    ln_changed tree =
        ap (λ (l : Located). option_map_or (linked tree (site_in (locate scene.volume scene.view MakesName more))) (object_at scene.view (site_in l).at)
        tree) one_is
        ∙ (ap (λ (l : Located). option_map_or (linked tree (site_in l)) (object_at scene.view (place_of object.at)) tree) two_is
        ∙ (ap (λ (o : Option Object). option_map_or (linked tree (site_in (two_at (place_of directory.at) (place_of directory.at) name))) o tree) made.there
        ∙ (ap (λ (n : ℕ). with_name (with_change tree made.o.number (with_links (n + 1))) directory.at.object name made.o.number) links_are
        ∙ ap (λ (n : Obj). with_name (with_change tree n (with_links (inode.links + 1))) directory.at.object name n) number_is)))

    pub ln_changes : (id : ℕ) (course : Course) (spot : Spot) (links : ℕ) (es' : List FullElement) → course.last.0 + 1 ≡ id → IsPath old parts → IsPath new
        more
        → IsSet hash course scene → HaveOwnKeys scene.elements → AreBelow directory.at.pfs.0 id scene.elements → master_check scene directory.at.pfs.0 ≡ None
        → named_in (tree_at scene directory) directory.at.object name ≡ None
        → IsSpot (Counts scene.elements course.last.0) directory.at.pfs.0 directory.at.object (first_key (hash name)) spot → links ≡ inode.links + 1
        → ((o : Object) → object_in (tree_now ln) object.at.object ≡ Some o → o.kind ≡ File)
        → PutsLink hash (place_in directory name) spot id object.at.object links scene.elements es' → ChangesTree ln scene.elements es'
    ln_changes id course spot links es' before path next set own below passes fresh spot_is links_is file puts =
        let pfs : ℕ = directory.at.pfs.0 in
        let own_is : scene.volume.last + 1 ≡ id = ap (λ (n : ℕ). n + 1) set.last ∙ before in
        let asked : IsCall hash id scene.elements ln = record {
          own = own_is;
          hash_is = refl;
          shows = set.shows;
          keys = set.keys;
          words = (path, (next, tt));
        } in
        let view : IsViewOf scene.elements pfs course.last.0 (tree_at scene directory) =
        subst (λ (t : ℕ). IsViewOf scene.elements pfs t (tree_at scene directory)) set.last (new_view scene more name directory place set.shows passes) in
        let tree_is : tree_at scene directory ≡ tree_now ln = ap (λ (w : When). scene.view pfs w) place.now ∙ ap (λ (p : ℕ). scene.view p Now) (sym ln_pfs) in
        let open_is : IsOpen (place_in directory name) spot id scene.elements =
        opens pfs course.last.0 id scene.elements (tree_at scene directory) own below before view (place_in directory name) (first_key (hash name)) spot refl
        fresh spot_is in
        tree_changes ln hash course.last.0 id pfs scene.elements asked own ln_pfs (new_system scene more name directory place set.shows) below before
        (subst (λ (tree : FileTree). IsViewOf scene.elements pfs course.last.0 tree) tree_is view)
        (λ tree. with_name (with_change tree object.at.object (with_links links)) directory.at.object name object.at.object) (KeyFits hash spot.key name) es'
        puts.steps (spot_fits hash spot.key name spot_is.from spot_is.to) (λ none. puts.shows open_is)
        (λ none. kinds_leading object.at.object FILE
        (with_name (with_change (tree_now ln) object.at.object (with_links links)) directory.at.object name object.at.object) scene.elements es'
        (λ o now.
        let (was, there) = change_before (tree_now ln) object.at.object (with_links links) (λ p. refl) object.at.object o now in
        ap kind_number (sym (change_kind (tree_now ln) object.at.object (with_links links) (λ p. refl) (λ p. refl) object.at.object was o there now
        ∙ file was there)))
        puts.names)
        (λ number o there gone. absurd (change_keeps (tree_now ln) object.at.object (with_links links) (λ p. refl) number o there gone))
        (λ none. puts.follows open_is)
        (ap (λ (n : ℕ). with_name (with_change (tree_now ln) object.at.object (with_links n)) directory.at.object name object.at.object) links_is
        ∙ sym (ln_changed (tree_now ln)))

  -- where the object is not there, nothing
  pub ln_unchanged : object.inode ≡ None → (id : ℕ) (course : Course) → course.last.0 + 1 ≡ id → IsPath old parts → IsPath new more
      → IsSet hash course scene → HaveOwnKeys scene.elements → AreBelow directory.at.pfs.0 id scene.elements → master_check scene directory.at.pfs.0 ≡ None
      → ChangesTree ln scene.elements scene.elements
  ln_unchanged none id course before path next set own below passes =
      let pfs : ℕ = directory.at.pfs.0 in
      let own_is : scene.volume.last + 1 ≡ id = ap (λ (n : ℕ). n + 1) set.last ∙ before in
      let asked : IsCall hash id scene.elements ln = record { own = own_is; hash_is = refl; shows = set.shows; keys = set.keys; words = (path, (next, tt)) }
      in
      let tree_is : tree_at scene directory ≡ tree_now ln = ap (λ (w : When). scene.view pfs w) place.now ∙ ap (λ (p : ℕ). scene.view p Now) (sym ln_pfs) in
      let gone : object_at scene.view (place_of object.at) ≡ None =
      unfound (Counts scene.elements object.as_of.0) object.at.pfs.0 (object_at scene.view (place_of object.at)) object.inode none (end.ends.read tt).inode in
      tree_stays ln hash scene.volume.last id pfs scene.elements asked own ln_pfs (new_system scene more name directory place set.shows) below own_is
      (subst (λ (tree : FileTree). IsViewOf scene.elements pfs scene.volume.last tree) tree_is (new_view scene more name directory place set.shows passes))
      (sym (ap (λ (l : Located). option_map_or (linked (tree_now ln) (site_in (locate scene.volume scene.view MakesName more))) (object_at scene.view
      (site_in l).at)
      (tree_now ln)) one_is
      ∙ ap (λ (o : Option Object). option_map_or (linked (tree_now ln) (site_in (locate scene.volume scene.view MakesName more))) o (tree_now ln)) gone))

-- calls of two words that were read so have those parts
pub paths_linked : (old new : List ℕ) (parts more : List Part) (paths : List Parsed) → IsPath old parts → IsPath new more → ReadsWords (Ln old new) paths
    → paths ≡ Parts parts ∷ Parts more ∷ []
paths_linked old new parts more paths path next reads =
    let both = read_two (Walks Stays) MakesName old new paths reads in
    both.2 ∙ ap (λ p. p ∷ both.1 ∷ []) (read_once old parts both.0 path both.3) ∙ ap (λ p. Parts parts ∷ p ∷ []) (read_once new more both.1 next both.4)

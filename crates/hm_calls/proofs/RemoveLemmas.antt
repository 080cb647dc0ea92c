-- The checks of `rm` and `rmdir`, and what they make of a tree, by where a walk came to.
use Rattle.std.proofs.Common.{◌≡◌, ℕ, ◌+◌, ◌-◌, List, [], ◌∷◌, Bool, true, false, Option, Some, None, refl, sym, ap, subst, ◌∙◌, length, arith}
use Rattle.std.specs.Prelude.{◌==◌, ◌&&◌, ◌||◌, ◌≤◌, IfSome, if◌then◌else◌, drop}
use Rattle.std.specs.Bool.{nat_lt}
use Rattle.std.specs.Option.{option_map_or}
use Rattle.std.proofs.lemmas.Bool.{le-ltb}
use Rattle.hm_types.specs.Elements.{FullElement}
use Rattle.hm_types.specs.Tree.{FileTree, entries_in, object_in, without_entry, without_link, without_name, without_object}
use Rattle.hm_types.specs.declared.id.Obj.{Obj}
use Rattle.hm_types.specs.declared.limits.TheConstants.{GREATEST_ID}
use Rattle.hm_types.specs.declared.object.Kind.{Kind}
use Rattle.hm_types.specs.declared.object.Kind.TheVariants.{Directory, File, Softlink, PfsLink}
use Rattle.hm_types.specs.declared.object.Object.{Object}
use Rattle.hm_path.specs.Path.{IsPath}
use Rattle.hm_path.specs.declared.part.Part.{Part}
use Rattle.hm_key.specs.Counts.{Content, Counts}
use Rattle.hm_key.specs.Elements.{IsContent}
use Rattle.hm_key.specs.Extents.{Extent}
use Rattle.hm_key.specs.Versions.{HaveOwnKeys}
use Rattle.hm_key.specs.declared.element.Element.{Element}
use Rattle.hm_cursor.specs.Told.{OnBalanced, fulls}
use Rattle.hm_model.specs.Answer.{is_master}
use Rattle.hm_model.specs.Call.{Call, first_site, site_in}
use Rattle.hm_model.specs.Change.{changed, changed_pfs}
use Rattle.hm_model.specs.Due.{Check, a_dir, is_dir, is_dir_or_link, is_empty, is_in_slave, no_dir, refuse_if, walks}
use Rattle.hm_model.specs.Needs.{has_other_link, is_file, names_zones}
use Rattle.hm_model.specs.Sites.{Located, Parsed, Parts, ReadsWords, TakesName, locate}
use Rattle.hm_model.specs.View.{Now, Position, When, object_at}
use Rattle.hm_model.specs.Volume.{system_of}
use Rattle.hm_model.specs.declared.command.Command.{Command}
use Rattle.hm_model.specs.declared.command.Command.TheVariants.{Rm, Rmdir}
use Rattle.hm_model.specs.declared.reply.Reply.TheVariants.{Done, IsDir, NoSpace, NotDir, NotEmpty, ReadOnly}
use Rattle.hm_model.proofs.ReadLemmas.{read_once}
use Rattle.hm_records.specs.KeysFit.{KeysFit}
use Rattle.hm_records.specs.View.{IsViewOf, kind_number}
use Rattle.hm_records.specs.declared.inode.Inode.{Inode}
use Rattle.hm_records.specs.declared.kind.TheConstants.{FILE}
use Rattle.hm_records.proofs.NameLemmas.{same_obj}
use Rattle.hm_volume.specs.Found.{IsFoundBy, IsMadeBy}
use Rattle.hm_objects.specs.Objects.{IsGone}
use Rattle.hm_volume.specs.Shown.{ShowsAs}
use Rattle.hm_dirs.specs.Walk.{IsRead, Scene, place_of, when_of}
use Rattle.hm_dirs.specs.declared.position.Course.{Course}
use Rattle.hm_dirs.specs.declared.position.Stand.{Stand}
use Rattle.hm_calls.specs.Call.{IsCall}
use Rattle.hm_calls.specs.Changes.{Changes, ChangesTree, HasSystem, LeavesNone, tree_now}
use Rattle.hm_calls.specs.Due.{space_for, space_left, zones_beside}
use Rattle.hm_calls.specs.Known.{AreBelow, AreBelowIn}
use Rattle.hm_calls.specs.Places.{ask_kind, refuse_kind}
use Rattle.hm_calls.specs.Replies.{IsAcceptedBy}
use Rattle.hm_calls.specs.declared.stop.Stop.{Stop}
use Rattle.hm_calls.specs.Writes.{LeavesNothing, TakesDirectory, TakesLink, less_link, place_in}
use Rattle.hm_calls.proofs.EffectLemmas.{kinds_none, master_view, system_there, tree_changes}
use Rattle.hm_calls.proofs.KindLemmas.{directory_asked, number_found}
use Rattle.hm_calls.proofs.RefusalLemmas.{IsFirst, IsRefused, PassEarly, after_early, all_checks, all_pass, of_rm, of_rmdir, one_accepts, one_refuses}
use Rattle.hm_calls.proofs.RefusalLemmas.{pass, read_one, refuse_one, stop}
use Rattle.hm_calls.proofs.SceneLemmas.{IsSet, IsStoppedBy, OnScenes, call_in, scenes_all, scenes_back, scenes_balanced, scenes_both, scenes_so}
use Rattle.hm_calls.proofs.StageLemmas.{IsTakenName, Wrote, scenes_below, scenes_own, slave_check, writes_changes}
use Rattle.hm_calls.proofs.TreeLemmas.{leaves_none, link_gone, object_gone}

-- ---- an object by its inode

pub record IsMade (counts : Content) (pfs : ℕ) (object : Option Object) (inode : Inode) : Type 0 where
  pub o : Object
  pub there : object ≡ Some o
  pub made : IsMadeBy counts pfs inode o

pub made_of : (counts : Content) (pfs : ℕ) (object : Option Object) (found : Option Inode) (inode : Inode) → found ≡ Some inode
    → IsFoundBy counts pfs object found → IsMade counts pfs object inode
made_of counts pfs (Some o) (Some i) inode is by = record {
  o = o;
  there = refl;
  made = subst (λ (n : Inode). IsMadeBy counts pfs n o) (some_is i inode is)
      by;
} where
  some_is : (a b : Inode) → Some a ≡ Some b → a ≡ b
  some_is a b is = cc
made_of counts pfs None (Some i) inode is by = absurd by
made_of counts pfs (Some o) None inode is by = absurd by
made_of counts pfs None None inode is by = absurd (cc)

file_is : (kind : Kind) → (kind_number kind == FILE) ≡ is_file kind
file_is Directory = refl
file_is File = refl
file_is Softlink = refl
file_is PfsLink = refl

pub made_kind : (counts : Content) (pfs : ℕ) (inode : Inode) (o : Object) → IsMadeBy counts pfs inode o → inode.kind ≡ kind_number o.kind
made_kind counts pfs inode o made = ap (λ (i : Inode). i.kind) (sym made.same) ∙ made.object.kind

pub made_links : (counts : Content) (pfs : ℕ) (inode : Inode) (o : Object) → IsMadeBy counts pfs inode o → o.links ≡ inode.links
made_links counts pfs inode o made = made.object.links ∙ ap (λ (i : Inode). i.links) made.same

-- what is asked of a slave
abbrev pub master_check : Scene → ℕ → Check
master_check scene = slave_check scene.volume

-- ---- a name that is taken, of a scene

module _ (hash : List ℕ → ℕ) (scene : Scene) (parts : List Part) (name : List ℕ) (directory end : Stand)
    (is : IsTakenName scene parts name directory end) where
  pub taken_walks : walks (locate scene.volume scene.view TakesName parts) ≡ None
  taken_walks = ap walks is.place_is

  pub taken_pfs : is.site.at.pfs ≡ directory.at.pfs.0
  taken_pfs = ap (λ (p : Position). p.pfs) is.standing.at_is ∙ ap (λ (p : Position). p.pfs) (sym is.directory_is)

  pub taken_object : is.site.at.object ≡ end.at.object
  taken_object = ap (λ (p : Position). p.object) (sym is.end_is)

  pub taken_directory : is.site.directory.object ≡ directory.at.object
  taken_directory = ap (λ (p : Position). p.object) (sym is.directory_is)

  pub taken_slave : (command : Command) (paths : List Parsed) (busy : Option ℕ) (check : Check) → master_check scene directory.at.pfs.0 ≡ check
      → refuse_if (is_in_slave (call_in hash command paths busy scene) (locate scene.volume scene.view TakesName parts) || false) ReadOnly ≡ check
  taken_slave command paths busy check told =
      subst (λ l. refuse_if (is_in_slave (call_in hash command paths busy scene) l || false) ReadOnly ≡ check) (sym is.place_is)
      (refuse_one (option_map_or (λ s. if is_master s then false else true) (system_of scene.volume is.site.at.pfs) false) ReadOnly check
      (subst (λ (p : ℕ). master_check scene p ≡ check) (sym taken_pfs) told))

  -- its pseudo file system is read as of the last id, where that is a master
  pub taken_view : ShowsAs scene.elements scene.volume scene.view → master_check scene directory.at.pfs.0 ≡ None
      → IsViewOf scene.elements directory.at.pfs.0 scene.volume.last (scene.view directory.at.pfs.0 Now)
  taken_view shows passes =
      let now : is.site.at.when ≡ Now = ap (λ (p : Position). p.when) is.standing.at_is ∙ is.standing.now in
      let there : object_in (scene.view directory.at.pfs.0 Now) is.site.at.object ≡ Some is.standing.object =
      subst (λ (w : When). object_in (scene.view directory.at.pfs.0 w) is.site.at.object ≡ Some is.standing.object) now
      (subst (λ (p : ℕ). object_in (scene.view p is.site.at.when) is.site.at.object ≡ Some is.standing.object) taken_pfs is.standing.there) in
      master_view scene.elements scene.volume scene.view directory.at.pfs.0 is.site.at.object is.standing.object shows there passes

  -- which is there
  pub taken_system : ShowsAs scene.elements scene.volume scene.view → HasSystem scene.volume directory.at.pfs.0
  taken_system shows =
      subst (HasSystem scene.volume) taken_pfs
      (system_there scene.elements scene.volume scene.view is.site.at.pfs is.site.at.when is.site.at.object is.standing.object shows is.standing.there)

  -- that object has an inode
  pub unfound : end.inode ≡ None → ⊥
  unfound none = not_found (object_at scene.view (place_of end.at)) end.inode none
      (subst (λ (p : Position). object_at scene.view p ≡ Some is.standing.object) (sym is.end_is) is.standing.there) is.read.inode
    where
      not_found : (o : Option Object) (found : Option Inode) → found ≡ None → o ≡ Some is.standing.object
          → IsFoundBy (Counts scene.elements end.as_of.0) end.at.pfs.0 o found → ⊥
      not_found None None none there by = absurd (cc)
      not_found None (Some inode) none there by = by
      not_found (Some o) None none there by = by
      not_found (Some o) (Some inode) none there by = absurd (cc)

  -- the object that the name leads to, by its inode
  module _ (inode : Inode) (has : end.inode ≡ Some inode) where
    made : IsMade (Counts scene.elements end.as_of.0) end.at.pfs.0 (object_at scene.view (place_of end.at)) inode
    made =
        made_of (Counts scene.elements end.as_of.0) end.at.pfs.0 (object_at scene.view (place_of end.at)) end.inode inode has is.read.inode

    there_is : object_at scene.view is.site.at ≡ Some made.o
    there_is = subst (λ (p : Position). object_at scene.view p ≡ Some made.o) is.end_is made.there

    number_is : made.o.number ≡ end.at.object
    number_is = same_obj made.o.number end.at.object (number_found (scene.view end.at.pfs.0 (when_of end.at.when)) end.at.object made.o made.there)

    links_are : made.o.links ≡ inode.links
    links_are = made_links (Counts scene.elements end.as_of.0) end.at.pfs.0 inode made.o made.made

    kind_is : inode.kind ≡ kind_number made.o.kind
    kind_is = made_kind (Counts scene.elements end.as_of.0) end.at.pfs.0 inode made.o made.made

-- ---- `rm`

module _ (hash : List ℕ → ℕ) (word : List ℕ) (scene : Scene) (parts : List Part) (name : List ℕ) (directory end : Stand)
    (is : IsTakenName scene parts name directory end) (busy : Option ℕ) where
  abbrev pub rm : Call
  rm = call_in hash (Rm word) (Parts parts ∷ []) busy scene

  pub rm_kind : (check : Check) → refuse_kind is_dir_or_link IsDir (object_at scene.view (place_of end.at)) ≡ check → no_dir rm (first_site rm) ≡ check
  rm_kind check told =
      subst (λ (l : Located). no_dir rm (site_in l) ≡ check) (sym is.place_is)
      (subst (λ (p : Position). refuse_if (option_map_or (λ (o : Object). is_dir_or_link o.kind) (object_at scene.view p) false) IsDir ≡ check) is.end_is
      told)

  module _ (inode : Inode) (has : end.inode ≡ Some inode) where
    other_link : has_other_link rm ≡ ((inode.kind == FILE) && nat_lt 1 inode.links)
    other_link =
        let m = made hash scene parts name directory end is inode has in
        subst (λ (l : Located). option_map_or (λ (o : Object). is_file o.kind && nat_lt 1 o.links) (object_at scene.view (site_in l).at) false
        ≡ ((inode.kind == FILE) && nat_lt 1 inode.links)) (sym is.place_is)
        (subst (λ (o : Option Object). option_map_or (λ (o : Object). is_file o.kind && nat_lt 1 o.links) o false
        ≡ ((inode.kind == FILE) && nat_lt 1 inode.links)) (sym (there_is hash scene parts name directory end is inode has))
        (ap (λ (b : Bool). b && nat_lt 1 m.o.links) (sym (file_is m.o.kind) ∙ ap (λ (k : ℕ). k == FILE) (sym (kind_is hash scene parts name directory end is
        inode has)))
        ∙ ap (λ (n : ℕ). (inode.kind == FILE) && nat_lt 1 n) (links_are hash scene parts name directory end is inode has)))

    pub rm_space : (room : ℕ → ℕ) (free : ℕ) (check : Check) → space_for (zones_beside inode) 0 room free ≡ check → space_left rm room free ≡ check
    rm_space room free check told =
        subst (λ (b : Bool). space_for (if b then names_zones else []) 0 room free ≡ check) (sym other_link) told

    rm_changed : (tree : FileTree) → changed rm tree ≡ less_link inode.links end.at.object (without_name tree directory.at.object name)
    rm_changed tree =
        let m = made hash scene parts name directory end is inode has in
        subst (λ (l : Located). option_map_or (without_entry tree (site_in l).directory.object (site_in l).name) (object_at scene.view (site_in l).at) tree
        ≡ less_link inode.links end.at.object (without_name tree directory.at.object name)) (sym is.place_is)
        (subst (λ (o : Option Object). option_map_or (without_entry tree is.site.directory.object is.site.name) o tree
        ≡ less_link inode.links end.at.object (without_name tree directory.at.object name)) (sym (there_is hash scene parts name directory end is inode has))
        (ap (λ (d : Obj). without_link (without_name tree d is.site.name) m.o) (taken_directory hash scene parts name directory end is)
        ∙ (ap (λ (n : List ℕ). without_link (without_name tree directory.at.object n) m.o) is.name_is
        ∙ (ap (λ (n : ℕ). less_link n m.o.number (without_name tree directory.at.object name)) (links_are hash scene parts name directory end is inode has)
        ∙ ap (λ (n : Obj). less_link inode.links n (without_name tree directory.at.object name)) (number_is hash scene parts name directory end is inode
        has)))))

    pub rm_changes : (id : ℕ) (course : Course) (es' : List FullElement) → course.last.0 + 1 ≡ id → IsPath word parts → IsSet hash course scene
        → HaveOwnKeys scene.elements → AreBelow directory.at.pfs.0 id scene.elements → master_check scene directory.at.pfs.0 ≡ None
        → TakesLink hash (place_in directory name) id end.at.object inode.links scene.elements es' → ChangesTree rm scene.elements es'
    rm_changes id course es' before path set own below passes takes =
        let within : changed_pfs rm ≡ directory.at.pfs.0 =
        subst (λ (l : Located). (site_in l).at.pfs ≡ directory.at.pfs.0) (sym is.place_is) (taken_pfs hash scene parts name directory end is) in
        let asked : IsCall hash id scene.elements rm =
        record { own = ap (λ (n : ℕ). n + 1) set.last ∙ before; hash_is = refl; shows = set.shows; keys = set.keys; words = (path, tt) } in
        let view : IsViewOf scene.elements directory.at.pfs.0 scene.volume.last (tree_now rm) =
        subst (λ (p : ℕ). IsViewOf scene.elements directory.at.pfs.0 scene.volume.last (scene.view p Now)) (sym within)
        (taken_view hash scene parts name directory end is set.shows passes) in
        tree_changes rm hash scene.volume.last id directory.at.pfs.0 scene.elements asked own within
        (taken_system hash scene parts name directory end is set.shows) below (ap (λ (n : ℕ). n + 1) set.last ∙ before) view
        (λ tree. less_link inode.links end.at.object (without_name tree directory.at.object name)) (Unit {0}) es' takes.steps tt
        (λ none. takes.shows set.keys)
        (λ none. kinds_none (less_link inode.links end.at.object (without_name (tree_now rm) directory.at.object name)) scene.elements es' takes.names)
        (λ number o there gone.
        let (is, few) = link_gone (without_name (tree_now rm) directory.at.object name) end.at.object number inode.links o there gone in
        leaves_none o.kind directory.at.pfs.0 number.0 id es'
        (subst (λ (n : ℕ). LeavesNothing directory.at.pfs.0 n id es') (sym is) (takes.leaves few)))
        (λ none. takes.follows) (sym (rm_changed (tree_now rm)))

-- ---- `rmdir`

module _ (hash : List ℕ → ℕ) (word : List ℕ) (scene : Scene) (parts : List Part) (name : List ℕ) (directory end : Stand)
    (is : IsTakenName scene parts name directory end) (busy : Option ℕ) where
  abbrev pub rmdir : Call
  rmdir = call_in hash (Rmdir word) (Parts parts ∷ []) busy scene

  pub rmdir_kind : (check : Check) → ask_kind is_dir NotDir (object_at scene.view (place_of end.at)) ≡ check → a_dir rmdir (first_site rmdir) ≡ check
  rmdir_kind check told =
      subst (λ (l : Located). a_dir rmdir (site_in l) ≡ check) (sym is.place_is)
      (subst (λ (p : Position). ask_kind is_dir NotDir (object_at scene.view p) ≡ check) is.end_is told)

  pub rmdir_empty : (check : Check)
      → refuse_if (nat_lt 0 (length (entries_in (scene.view end.at.pfs.0 (when_of end.at.when)) end.at.object))) NotEmpty ≡ check
      → is_empty rmdir (first_site rmdir) ≡ check
  rmdir_empty check told =
      let empty : Position → Position → Check = λ d p. refuse_if (nat_lt 0 (length (entries_in (scene.view d.pfs d.when) p.object))) NotEmpty in
      let at_end : empty is.site.at is.site.at ≡ check = subst (λ (p : Position). empty p p ≡ check) is.end_is told in
      subst (λ (l : Located). empty (site_in l).directory (site_in l).at ≡ check) (sym is.place_is)
      (subst (λ (p : Position). empty p is.site.at ≡ check) is.standing.at_is at_end)

  rmdir_changed : (tree : FileTree) → changed rmdir tree ≡ without_object (without_name tree directory.at.object name) end.at.object
  rmdir_changed tree =
      subst (λ (l : Located). without_object (without_name tree (site_in l).directory.object (site_in l).name) (site_in l).at.object
      ≡ without_object (without_name tree directory.at.object name) end.at.object) (sym is.place_is)
      (ap (λ (d : Obj). without_object (without_name tree d is.site.name) is.site.at.object) (taken_directory hash scene parts name directory end is)
      ∙ (ap (λ (n : List ℕ). without_object (without_name tree directory.at.object n) is.site.at.object) is.name_is
      ∙ ap (λ (n : Obj). without_object (without_name tree directory.at.object name) n) (taken_object hash scene parts name directory end is)))

  pub rmdir_changes : (id : ℕ) (course : Course) (es' : List FullElement) → course.last.0 + 1 ≡ id → IsPath word parts → IsSet hash course scene
      → HaveOwnKeys scene.elements → AreBelow directory.at.pfs.0 id scene.elements → master_check scene directory.at.pfs.0 ≡ None
      → ask_kind is_dir NotDir (object_at scene.view (place_of end.at)) ≡ None
      → TakesDirectory hash (place_in directory name) id end.at.object scene.elements es' → ChangesTree rmdir scene.elements es'
  rmdir_changes id course es' before path set own below passes kind takes =
      let within : changed_pfs rmdir ≡ directory.at.pfs.0 =
      subst (λ (l : Located). (site_in l).at.pfs ≡ directory.at.pfs.0) (sym is.place_is) (taken_pfs hash scene parts name directory end is) in
      let asked : IsCall hash id scene.elements rmdir =
      record { own = ap (λ (n : ℕ). n + 1) set.last ∙ before; hash_is = refl; shows = set.shows; keys = set.keys; words = (path, tt) } in
      let view : IsViewOf scene.elements directory.at.pfs.0 scene.volume.last (tree_now rmdir) =
      subst (λ (p : ℕ). IsViewOf scene.elements directory.at.pfs.0 scene.volume.last (scene.view p Now)) (sym within)
      (taken_view hash scene parts name directory end is set.shows passes) in
      tree_changes rmdir hash scene.volume.last id directory.at.pfs.0 scene.elements asked own within
      (taken_system hash scene parts name directory end is set.shows) below (ap (λ (n : ℕ). n + 1) set.last ∙ before) view
      (λ tree. without_object (without_name tree directory.at.object name) end.at.object) (Unit {0}) es' takes.steps tt
      (λ none. takes.shows set.keys)
      (λ none. kinds_none (without_object (without_name (tree_now rmdir) directory.at.object name) end.at.object) scene.elements es' takes.names)
      (λ number o there gone.
      let is = object_gone (without_name (tree_now rmdir) directory.at.object name) end.at.object number o there gone in
      let here : object_in (tree_now rmdir) end.at.object ≡ Some o =
      subst (λ (n : Obj). object_in (tree_now rmdir) n ≡ Some o) (same_obj number end.at.object is) there in
      subst (λ (k : Kind). LeavesNone k directory.at.pfs.0 number.0 id es')
      (sym (directory_asked (object_at scene.view (place_of end.at)) o (seen_now within ∙ here) kind))
      (subst (λ (n : ℕ). IsGone directory.at.pfs.0 n id es') (sym is) takes.leaves))
      (λ none. takes.follows) (sym (rmdir_changed (tree_now rmdir)))
    where
      -- the directory is looked at in the tree of now
      seen_now : changed_pfs rmdir ≡ directory.at.pfs.0 → object_at scene.view (place_of end.at) ≡ object_in (tree_now rmdir) end.at.object
      seen_now within =
          ap (λ (w : When). object_in (scene.view end.at.pfs.0 w) end.at.object)
          (ap (λ (p : Position). p.when) is.end_is ∙ ap (λ (p : Position). p.when) is.standing.at_is ∙ is.standing.now)
          ∙ ap (λ (p : ℕ). object_in (scene.view p Now) end.at.object)
          (ap (λ (p : Position). p.pfs) is.end_is ∙ taken_pfs hash scene parts name directory end is ∙ sym within)

-- a call of one word that was read so has those parts
pub paths_taken : (word : List ℕ) (parts : List Part) (paths : List Parsed) → IsPath word parts → ReadsWords (Rm word) paths → paths ≡ Parts parts ∷ []
paths_taken word parts paths path reads =
    let one = read_one TakesName word paths reads in
    one.1 ∙ ap (λ p. p ∷ []) (read_once word parts one.0 path one.2)

-- whether the object at the end of a walk has a name
abbrev pub empty_check : Scene → Stand → Check
empty_check scene end = refuse_if (nat_lt 0 (length (entries_in (scene.view end.at.pfs.0 (when_of end.at.when)) end.at.object))) NotEmpty

-- a call that asks for no zone lacks none
no_space : (free : ℕ) → refuse_if (nat_lt (free - 0) 0) (NoSpace free 0) ≡ None
no_space free = rw (le-ltb (free - 0) 0 (omega arith)) refl

-- ---- these calls over a store

-- what is known of a store when a name is taken away
pub record IsRemoval (scene : Scene) (parts : List Part) (name : List ℕ) (directory end : Stand) (id : ℕ) : Type 0 where
  pub taken : IsTakenName scene parts name directory end
  pub own : HaveOwnKeys scene.elements
  pub below : AreBelow directory.at.pfs.0 id scene.elements
  pub master : master_check scene directory.at.pfs.0 ≡ None

module _ (hash : List ℕ → ℕ) (id : ℕ) (course : Course) (before : course.last.0 + 1 ≡ id) (most : id ≤ GREATEST_ID) (word : List ℕ) (parts : List Part)
    (path : IsPath word parts) (es : Option (List Element)) (xs : Option (List Extent)) (room : ℕ → ℕ) (free : ℕ) (name : List ℕ) (directory end : Stand)
    (taken : OnScenes hash es xs course (λ scene. IsTakenName scene parts name directory end)) where
  -- the facts when a name is taken away
  pub removal : IfSome es IsContent → AreBelowIn es xs directory.at.pfs.0 id → OnScenes hash es xs course (λ scene. master_check scene directory.at.pfs.0 ≡
      None)
      → OnScenes hash es xs course (λ scene. IsRemoval scene parts name directory end id)
  removal content below master =
      scenes_so hash course es xs
      (λ scene. (IsTakenName scene parts name directory end × (master_check scene directory.at.pfs.0 ≡ None))
      × (HaveOwnKeys scene.elements × AreBelow directory.at.pfs.0 id scene.elements))
      (λ scene. IsRemoval scene parts name directory end id)
      (λ scene set all. record { taken = all.0.0; own = all.1.0; below = all.1.1; master = all.0.1 })
      (scenes_both hash course es xs (λ scene. IsTakenName scene parts name directory end × (master_check scene directory.at.pfs.0 ≡ None))
      (λ scene. HaveOwnKeys scene.elements × AreBelow directory.at.pfs.0 id scene.elements)
      (scenes_both hash course es xs (λ scene. IsTakenName scene parts name directory end) (λ scene. master_check scene directory.at.pfs.0 ≡ None) taken master)
      (scenes_both hash course es xs (λ scene. HaveOwnKeys scene.elements) (λ scene. AreBelow directory.at.pfs.0 id scene.elements)
      (scenes_own hash course es xs content) (scenes_below hash course es xs directory.at.pfs.0 id below)))

  module _ (early : PassEarly (Rm word) TakesName course.last.0 parts) where
    rm_after : (busy : Option ℕ) (scene : Scene) (refusal : Check) → IsSet hash course scene → IsTakenName scene parts name directory end
        → IsFirst (drop 7 (all_checks (call_in hash (Rm word) (Parts parts ∷ []) busy scene) room free)) refusal
        → IsFirst (all_checks (call_in hash (Rm word) (Parts parts ∷ []) busy scene) room free) refusal
    rm_after busy scene refusal set is first =
        after_early hash id course before most (Rm word) TakesName word (of_rm word) es xs room free parts path early busy scene refusal set
        (pass (taken_walks hash scene parts name directory end is) first)

    pub rm_master_refuses : (stopped : Stop) → OnScenes hash es xs course (λ scene. IsStoppedBy (master_check scene directory.at.pfs.0) stopped)
        → IsRefused hash id (Rm word) es xs room free stopped
    rm_master_refuses stopped told =
        one_refuses hash id course before most (Rm word) TakesName word (of_rm word) es xs room free parts path
        (λ scene. IsTakenName scene parts name directory end) (λ scene. master_check scene directory.at.pfs.0)
        (λ reply busy scene set is refuses. rm_after busy scene (Some reply) set is
        (stop (taken_slave hash scene parts name directory end is (Rm word) (Parts parts ∷ []) busy (Some reply) refuses)))
        taken stopped told

    -- the object is not there, as no walk ends
    pub rm_missing_refuses : end.inode ≡ None → (stopped : Stop) → IsRefused hash id (Rm word) es xs room free stopped
    rm_missing_refuses none stopped =
        one_refuses hash id course before most (Rm word) TakesName word (of_rm word) es xs room free parts path
        (λ scene. IsTakenName scene parts name directory end) (λ scene. None)
        (λ reply busy scene set is refuses. absurd (unfound hash scene parts name directory end is none)) taken stopped
        (scenes_so hash course es xs (λ scene. IsTakenName scene parts name directory end) (λ scene. IsStoppedBy None stopped)
        (λ scene set is. absurd (unfound hash scene parts name directory end is none)) taken)

    module _ (master : OnScenes hash es xs course (λ scene. master_check scene directory.at.pfs.0 ≡ None)) where
      both : OnScenes hash es xs course (λ scene. IsTakenName scene parts name directory end × (master_check scene directory.at.pfs.0 ≡ None))
      both =
          scenes_both hash course es xs (λ scene. IsTakenName scene parts name directory end) (λ scene. master_check scene directory.at.pfs.0 ≡ None)
          taken master

      rm_next : (busy : Option ℕ) (scene : Scene) (refusal : Check) → IsSet hash course scene → IsTakenName scene parts name directory end
          → master_check scene directory.at.pfs.0 ≡ None
          → IsFirst (drop 8 (all_checks (call_in hash (Rm word) (Parts parts ∷ []) busy scene) room free)) refusal
          → IsFirst (all_checks (call_in hash (Rm word) (Parts parts ∷ []) busy scene) room free) refusal
      rm_next busy scene refusal set is passes first =
          rm_after busy scene refusal set is
          (pass (taken_slave hash scene parts name directory end is (Rm word) (Parts parts ∷ []) busy None passes) first)

      pub rm_kind_refuses : (stopped : Stop)
          → ((scene : Scene) → IsRead scene end → IsStoppedBy (refuse_kind is_dir_or_link IsDir (object_at scene.view (place_of end.at))) stopped)
          → IsRefused hash id (Rm word) es xs room free stopped
      rm_kind_refuses stopped told =
          one_refuses hash id course before most (Rm word) TakesName word (of_rm word) es xs room free parts path
          (λ scene. IsTakenName scene parts name directory end × (master_check scene directory.at.pfs.0 ≡ None))
          (λ scene. refuse_kind is_dir_or_link IsDir (object_at scene.view (place_of end.at)))
          (λ reply busy scene set is refuses. rm_next busy scene (Some reply) set is.0 is.1
          (stop (rm_kind hash word scene parts name directory end is.0 busy (Some reply) refuses)))
          both stopped
          (scenes_so hash course es xs (λ scene. IsTakenName scene parts name directory end)
          (λ scene. IsStoppedBy (refuse_kind is_dir_or_link IsDir (object_at scene.view (place_of end.at))) stopped)
          (λ scene set is. told scene is.read) taken)

      module _ (kind : (scene : Scene) → IsRead scene end → refuse_kind is_dir_or_link IsDir (object_at scene.view (place_of end.at)) ≡ None)
          (inode : Inode) (has : end.inode ≡ Some inode) where
        rm_last : (busy : Option ℕ) (scene : Scene) (refusal : Check) → IsSet hash course scene → IsTakenName scene parts name directory end
            → master_check scene directory.at.pfs.0 ≡ None
            → IsFirst (space_left (call_in hash (Rm word) (Parts parts ∷ []) busy scene) room free ∷ []) refusal
            → IsFirst (all_checks (call_in hash (Rm word) (Parts parts ∷ []) busy scene) room free) refusal
        rm_last busy scene refusal set is passes first =
            rm_next busy scene refusal set is passes
            (pass (rm_kind hash word scene parts name directory end is busy None (kind scene is.read)) (pass refl (pass refl first)))

        pub rm_space_refuses : (stopped : Stop) → IsStoppedBy (space_for (zones_beside inode) 0 room free) stopped
            → IsRefused hash id (Rm word) es xs room free stopped
        rm_space_refuses stopped told =
            one_refuses hash id course before most (Rm word) TakesName word (of_rm word) es xs room free parts path
            (λ scene. IsTakenName scene parts name directory end × (master_check scene directory.at.pfs.0 ≡ None))
            (λ scene. space_for (zones_beside inode) 0 room free)
            (λ reply busy scene set is refuses. rm_last busy scene (Some reply) set is.0 is.1
            (stop (rm_space hash word scene parts name directory end is.0 busy inode has room free (Some reply) refuses)))
            both stopped (scenes_all hash course es xs (λ scene. IsStoppedBy (space_for (zones_beside inode) 0 room free) stopped) (λ scene set. told))

        pub rm_accepts : space_for (zones_beside inode) 0 room free ≡ None
            → IsAcceptedBy hash id (λ call. call.command ≡ Rm word) es xs room free Done
        rm_accepts told =
            one_accepts hash id course before most (Rm word) TakesName word (of_rm word) es xs room free parts path
            (λ scene. IsTakenName scene parts name directory end × (master_check scene directory.at.pfs.0 ≡ None)) Done
            (λ busy scene set is. (
              rm_last busy scene None set is.0 is.1
                  (pass (rm_space hash word scene parts name directory end is.0 busy inode has room free None told) all_pass),
              refl,
            )) both

  -- what `rm` wrote is its change
  pub rm_writes : (inode : Inode) → end.inode ≡ Some inode → OnScenes hash es xs course (λ scene. IsRemoval scene parts name directory end id)
      → (es' : Option (List Element)) (xs' : Option (List Extent))
      → Wrote (TakesLink hash (place_in directory name) id end.at.object inode.links) es xs es' xs'
      → Wrote (Changes hash id (λ call. call.command ≡ Rm word)) es xs es' xs'
  rm_writes inode has known es' xs' writes =
      writes_changes hash id course (Rm word) (TakesLink hash (place_in directory name) id end.at.object inode.links)
      (λ scene. IsRemoval scene parts name directory end id) es es' xs xs' before
      (λ busy paths scene list reads set is takes.
      subst (λ (ps : List Parsed). ChangesTree (call_in hash (Rm word) ps busy scene) scene.elements list) (sym (paths_taken word parts paths path reads))
      (rm_changes hash word scene parts name directory end is.taken busy inode has id course list before path set is.own is.below is.master takes))
      known writes

  module _ (early : PassEarly (Rmdir word) TakesName course.last.0 parts) where
    rmdir_after : (busy : Option ℕ) (scene : Scene) (refusal : Check) → IsSet hash course scene → IsTakenName scene parts name directory end
        → IsFirst (drop 7 (all_checks (call_in hash (Rmdir word) (Parts parts ∷ []) busy scene) room free)) refusal
        → IsFirst (all_checks (call_in hash (Rmdir word) (Parts parts ∷ []) busy scene) room free) refusal
    rmdir_after busy scene refusal set is first =
        after_early hash id course before most (Rmdir word) TakesName word (of_rmdir word) es xs room free parts path early busy scene refusal set
        (pass (taken_walks hash scene parts name directory end is) first)

    pub rmdir_master_refuses : (stopped : Stop) → OnScenes hash es xs course (λ scene. IsStoppedBy (master_check scene directory.at.pfs.0) stopped)
        → IsRefused hash id (Rmdir word) es xs room free stopped
    rmdir_master_refuses stopped told =
        one_refuses hash id course before most (Rmdir word) TakesName word (of_rmdir word) es xs room free parts path
        (λ scene. IsTakenName scene parts name directory end) (λ scene. master_check scene directory.at.pfs.0)
        (λ reply busy scene set is refuses. rmdir_after busy scene (Some reply) set is
        (stop (taken_slave hash scene parts name directory end is (Rmdir word) (Parts parts ∷ []) busy (Some reply) refuses)))
        taken stopped told

    module _ (master : OnScenes hash es xs course (λ scene. master_check scene directory.at.pfs.0 ≡ None)) where
      rmdir_both : OnScenes hash es xs course (λ scene. IsTakenName scene parts name directory end × (master_check scene directory.at.pfs.0 ≡ None))
      rmdir_both =
          scenes_both hash course es xs (λ scene. IsTakenName scene parts name directory end) (λ scene. master_check scene directory.at.pfs.0 ≡ None)
          taken master

      rmdir_next : (busy : Option ℕ) (scene : Scene) (refusal : Check) → IsSet hash course scene → IsTakenName scene parts name directory end
          → master_check scene directory.at.pfs.0 ≡ None
          → IsFirst (drop 8 (all_checks (call_in hash (Rmdir word) (Parts parts ∷ []) busy scene) room free)) refusal
          → IsFirst (all_checks (call_in hash (Rmdir word) (Parts parts ∷ []) busy scene) room free) refusal
      rmdir_next busy scene refusal set is passes first =
          rmdir_after busy scene refusal set is
          (pass (taken_slave hash scene parts name directory end is (Rmdir word) (Parts parts ∷ []) busy None passes) first)

      pub rmdir_kind_refuses : (stopped : Stop)
          → ((scene : Scene) → IsRead scene end → IsStoppedBy (ask_kind is_dir NotDir (object_at scene.view (place_of end.at))) stopped)
          → IsRefused hash id (Rmdir word) es xs room free stopped
      rmdir_kind_refuses stopped told =
          one_refuses hash id course before most (Rmdir word) TakesName word (of_rmdir word) es xs room free parts path
          (λ scene. IsTakenName scene parts name directory end × (master_check scene directory.at.pfs.0 ≡ None))
          (λ scene. ask_kind is_dir NotDir (object_at scene.view (place_of end.at)))
          (λ reply busy scene set is refuses. rmdir_next busy scene (Some reply) set is.0 is.1
          (stop (rmdir_kind hash word scene parts name directory end is.0 busy (Some reply) refuses)))
          rmdir_both stopped
          (scenes_so hash course es xs (λ scene. IsTakenName scene parts name directory end)
          (λ scene. IsStoppedBy (ask_kind is_dir NotDir (object_at scene.view (place_of end.at))) stopped)
          (λ scene set is. told scene is.read) taken)

      module _ (kind : (scene : Scene) → IsRead scene end → ask_kind is_dir NotDir (object_at scene.view (place_of end.at)) ≡ None) where
        rmdir_then : (busy : Option ℕ) (scene : Scene) (refusal : Check) → IsSet hash course scene → IsTakenName scene parts name directory end
            → master_check scene directory.at.pfs.0 ≡ None
            → IsFirst (drop 9 (all_checks (call_in hash (Rmdir word) (Parts parts ∷ []) busy scene) room free)) refusal
            → IsFirst (all_checks (call_in hash (Rmdir word) (Parts parts ∷ []) busy scene) room free) refusal
        rmdir_then busy scene refusal set is passes first =
            rmdir_next busy scene refusal set is passes
            (pass (rmdir_kind hash word scene parts name directory end is busy None (kind scene is.read)) first)

        pub rmdir_empty_refuses : (stopped : Stop) → OnScenes hash es xs course (λ scene. IsStoppedBy (empty_check scene end) stopped)
            → IsRefused hash id (Rmdir word) es xs room free stopped
        rmdir_empty_refuses stopped told =
            one_refuses hash id course before most (Rmdir word) TakesName word (of_rmdir word) es xs room free parts path
            (λ scene. IsTakenName scene parts name directory end × (master_check scene directory.at.pfs.0 ≡ None)) (λ scene. empty_check scene end)
            (λ reply busy scene set is refuses. rmdir_then busy scene (Some reply) set is.0 is.1
            (stop (rmdir_empty hash word scene parts name directory end is.0 busy (Some reply) refuses)))
            rmdir_both stopped told

        pub rmdir_accepts : OnScenes hash es xs course (λ scene. empty_check scene end ≡ None)
            → IsAcceptedBy hash id (λ call. call.command ≡ Rmdir word) es xs room free Done
        rmdir_accepts empty =
            one_accepts hash id course before most (Rmdir word) TakesName word (of_rmdir word) es xs room free parts path
            (λ scene. (IsTakenName scene parts name directory end × (master_check scene directory.at.pfs.0 ≡ None)) × (empty_check scene end ≡ None)) Done
            (λ busy scene set is. (
              rmdir_then busy scene None set is.0.0 is.0.1
                  (pass (rmdir_empty hash word scene parts name directory end is.0.0 busy None is.1)
                  (pass refl (pass refl (pass (no_space free) all_pass)))),
              refl,
            ))
            (scenes_both hash course es xs (λ scene. IsTakenName scene parts name directory end × (master_check scene directory.at.pfs.0 ≡ None))
            (λ scene. empty_check scene end ≡ None) rmdir_both empty)

  -- what `rmdir` wrote is its change
  pub rmdir_writes : ((scene : Scene) → IsRead scene end → ask_kind is_dir NotDir (object_at scene.view (place_of end.at)) ≡ None)
      → OnScenes hash es xs course (λ scene. IsRemoval scene parts name directory end id)
      → (es' : Option (List Element)) (xs' : Option (List Extent))
      → Wrote (TakesDirectory hash (place_in directory name) id end.at.object) es xs es' xs'
      → Wrote (Changes hash id (λ call. call.command ≡ Rmdir word)) es xs es' xs'
  rmdir_writes kind known es' xs' writes =
      writes_changes hash id course (Rmdir word) (TakesDirectory hash (place_in directory name) id end.at.object)
      (λ scene. IsRemoval scene parts name directory end id) es es' xs xs' before
      (λ busy paths scene list reads set is takes.
      subst (λ (ps : List Parsed). ChangesTree (call_in hash (Rmdir word) ps busy scene) scene.elements list) (sym (paths_taken word parts paths path reads))
      (rmdir_changes hash word scene parts name directory end is.taken busy id course list before path set is.own is.below is.master
      (kind scene is.taken.read) takes))
      known writes

  -- what a look for a name in the directory tells
  pub empty_told : (es' : Option (List Element)) (xs' : Option (List Extent)) → es' ≡ es → xs' ≡ xs → (Told : Check → Type 0)
      → OnBalanced es' xs' (λ lists. (tree : FileTree) → KeysFit hash (fulls lists) → IsViewOf (fulls lists) end.at.pfs.0 end.as_of.0 tree
      → Told (refuse_if (nat_lt 0 (length (entries_in tree end.at.object))) NotEmpty))
      → OnScenes hash es xs course (λ scene. Told (empty_check scene end))
  empty_told es' xs' same same' Told told =
      scenes_so hash course es xs
      (λ scene. IsTakenName scene parts name directory end × ((tree : FileTree) → KeysFit hash scene.elements
      → IsViewOf scene.elements end.at.pfs.0 end.as_of.0 tree → Told (refuse_if (nat_lt 0 (length (entries_in tree end.at.object))) NotEmpty)))
      (λ scene. Told (empty_check scene end))
      (λ scene set both. both.1 (scene.view end.at.pfs.0 (when_of end.at.when)) set.keys both.0.read.view)
      (scenes_both hash course es xs (λ scene. IsTakenName scene parts name directory end)
      (λ scene. (tree : FileTree) → KeysFit hash scene.elements → IsViewOf scene.elements end.at.pfs.0 end.as_of.0 tree
      → Told (refuse_if (nat_lt 0 (length (entries_in tree end.at.object))) NotEmpty)) taken
      (scenes_back hash course
      (λ scene. (tree : FileTree) → KeysFit hash scene.elements → IsViewOf scene.elements end.at.pfs.0 end.as_of.0 tree
      → Told (refuse_if (nat_lt 0 (length (entries_in tree end.at.object))) NotEmpty)) same same'
      (scenes_balanced hash course es' xs' (λ list. (tree : FileTree) → KeysFit hash list → IsViewOf list end.at.pfs.0 end.as_of.0 tree
      → Told (refuse_if (nat_lt 0 (length (entries_in tree end.at.object))) NotEmpty)) told)))

-- The calls that make an object: their checks, and what they make of a tree.
use Rattle.std.proofs.Common.{◌≡◌, ℕ, ◌+◌, List, [], ◌∷◌, Bool, true, false, Option, Some, None, drop, refl, sym, ap, subst, ◌∙◌}
use Rattle.std.specs.Prelude.{◌||◌, if◌then◌else◌}
use Rattle.std.specs.Bool.{nat_le}
use Rattle.std.specs.List.{AllZip}
use Rattle.std.specs.Option.{option_map_or}
use Rattle.hm_types.specs.Elements.{FullElement}
use Rattle.hm_types.specs.Tree.{FileTree, named_in, object_in, with_object}
use Rattle.hm_types.specs.declared.object.Object.{Object}
use Rattle.hm_path.specs.Path.{IsPath}
use Rattle.hm_path.specs.declared.part.Part.{Part}
use Rattle.hm_key.specs.Counts.{Counts}
use Rattle.hm_key.specs.Versions.{HaveOwnKeys}
use Rattle.hm_model.specs.Answer.{is_master}
use Rattle.hm_model.specs.Call.{Call, site_in}
use Rattle.hm_model.specs.Change.{changed, changed_pfs}
use Rattle.hm_model.specs.Due.{Check, accepted, has_id, hash_is_full, is_in_slave, name_is_new, past_stays, refuse_if, walks}
use Rattle.hm_model.specs.Due.{new_name}
use Rattle.hm_model.specs.Needs.{names_zones}
use Rattle.hm_model.specs.Sites.{At, Located, MakesName, Nowhere, Parsed, Parts, ReadsWords, Site, front_of, in_directory, last_name, locate}
use Rattle.hm_model.specs.View.{Now, Position as Place, View, When, object_at}
use Rattle.hm_model.specs.Volume.{system_of}
use Rattle.hm_model.specs.Walk.{Follows, Passed, Reaches, Refuses, Walked, is_directory, walk}
use Rattle.hm_model.specs.declared.command.Command.TheVariants.{Mkdir}
use Rattle.hm_model.specs.declared.reply.Reply.TheVariants.{Done, Exists, HashFull, NotDir, ReadOnly}
use Rattle.hm_model.proofs.ReadLemmas.{read_once}
use Rattle.hm_records.specs.Payload.{KeyFits}
use Rattle.hm_records.specs.View.{IsViewOf, kind_number}
use Rattle.hm_records.specs.declared.inode.Inode.{Inode}
use Rattle.hm_volume.specs.Shown.{ShowsAs}
use Rattle.hm_cursor.specs.Views.{IsMissing}
use Rattle.hm_dirs.specs.Names.{IsSpot, first_key, names_of_hash}
use Rattle.hm_dirs.specs.Walk.{Scene, place_of, when_of}
use Rattle.hm_dirs.specs.declared.position.Course.{Course}
use Rattle.hm_dirs.specs.declared.position.Stand.{Stand}
use Rattle.hm_dirs.specs.declared.spot.Spot.{Spot}
use Rattle.hm_calls.specs.Changes.{ChangesTree, HasSystem, tree_now}
use Rattle.hm_calls.specs.Due.{space_for}
use Rattle.hm_calls.specs.Known.{AreBelow}
use Rattle.hm_calls.specs.New.{command_by, object_by}
use Rattle.hm_calls.specs.Writes.{IsOpen, PutsObject, place_in}
use Rattle.hm_calls.specs.declared.new.New.{New}
use Rattle.hm_calls.specs.declared.new.New.TheVariants.{Directory, File, Snapshot, Softlink}
use Rattle.hm_calls.proofs.EffectLemmas.{IsFoundThen, kinds_leading, master_view, misses, opens, spot_fits, system_there, tree_changes}
use Rattle.hm_calls.proofs.PlaceLemmas.{front_walks_now}
use Rattle.hm_calls.proofs.RefusalLemmas.{AsRead, IsFirst, all_checks, pass, read_one, refuse_one}
use Rattle.hm_calls.proofs.SceneLemmas.{IsPlace, IsSet, call_in}
use Rattle.hm_calls.proofs.RemoveLemmas.{master_check}
pub use Rattle.hm_calls.specs.Scenes.{IsNewPlace, full_check, new_check, tree_at}
use Rattle.hm_calls.proofs.TreeLemmas.{new_keeps, new_there}

-- ---- the four commands alike

pub make_past : (new : New) (word : List ℕ) (path : Parsed) (check : Check) → refuse_if (has_id path) ReadOnly ≡ check
    → past_stays (command_by new word) (path ∷ []) ≡ check
make_past Directory word path check is = refuse_one (has_id path) ReadOnly check is
make_past File word path check is = refuse_one (has_id path) ReadOnly check is
make_past (Softlink target) word path check is = refuse_one (has_id path) ReadOnly check is
make_past Snapshot word path check is = refuse_one (has_id path) ReadOnly check is

pub make_done : (hash : List ℕ → ℕ) (new : New) (word : List ℕ) (paths : List Parsed) (busy : Option ℕ) (scene : Scene)
    → accepted (call_in hash (command_by new word) paths busy scene) ≡ Done
make_done hash Directory word paths busy scene = refl
make_done hash File word paths busy scene = refl
make_done hash (Softlink target) word paths busy scene = refl
make_done hash Snapshot word paths busy scene = refl

-- the checks after the walk, by where it led
abbrev pub make_tail : (List ℕ → ℕ) → (ℕ → ℕ) → ℕ → Call → Located → List Check
make_tail hash room free call place =
    refuse_if (is_in_slave call place || false) ReadOnly ∷ name_is_new call (site_in place)
    ∷ option_map_or (λ site. refuse_if (hash_is_full call site) HashFull) (new_name ((MakesName, []) ∷ []) (place ∷ [])) None ∷ None
    ∷ space_for names_zones 4 room free ∷ []

make_rest : (hash : List ℕ → ℕ) (room : ℕ → ℕ) (free : ℕ) (new : New) (word : List ℕ) (parts : List Part) (busy : Option ℕ) (scene : Scene) (refusal : Check)
    → IsFirst (make_tail hash room free (call_in hash (Mkdir word) (Parts parts ∷ []) busy scene) (locate scene.volume scene.view MakesName parts)) refusal
    → IsFirst (drop 7 (all_checks (call_in hash (command_by new word) (Parts parts ∷ []) busy scene) room free)) refusal
make_rest hash room free Directory word parts busy scene refusal first = first
make_rest hash room free File word parts busy scene refusal first = first
make_rest hash room free (Softlink target) word parts busy scene refusal first = first
make_rest hash room free Snapshot word parts busy scene refusal first = first

make_pfs : (hash : List ℕ → ℕ) (new : New) (word : List ℕ) (parts : List Part) (busy : Option ℕ) (scene : Scene)
    → changed_pfs (call_in hash (command_by new word) (Parts parts ∷ []) busy scene) ≡ (site_in (locate scene.volume scene.view MakesName parts)).at.pfs
make_pfs hash Directory word parts busy scene = refl
make_pfs hash File word parts busy scene = refl
make_pfs hash (Softlink target) word parts busy scene = refl
make_pfs hash Snapshot word parts busy scene = refl

make_changed : (hash : List ℕ → ℕ) (new : New) (word : List ℕ) (parts : List Part) (busy : Option ℕ) (scene : Scene) (tree : FileTree)
    → changed (call_in hash (command_by new word) (Parts parts ∷ []) busy scene) tree
    ≡ with_object tree (site_in (locate scene.volume scene.view MakesName parts)).directory.object
    (site_in (locate scene.volume scene.view MakesName parts)).name (object_by new (scene.volume.last + 1))
make_changed hash Directory word parts busy scene tree = refl
make_changed hash File word parts busy scene tree = refl
make_changed hash (Softlink target) word parts busy scene tree = refl
make_changed hash Snapshot word parts busy scene tree = refl

made_number : (new : New) (id : ℕ) → (object_by new id).number.0 ≡ id
made_number Directory id = refl
made_number File id = refl
made_number (Softlink target) id = refl
made_number Snapshot id = refl

-- ---- the place of a new name

record IsFoundIn (view : View) (walked : Walked) (site : Site) : Type 0 where
  pub passed : Passed
  pub walked_is : walked ≡ Reaches site.directory passed
  pub object : Object
  pub there : object_at view site.directory ≡ Some object

found_in : (view : View) (name : List ℕ) (walked : Walked) (site : Site) → in_directory view (Some name) walked ≡ At site → IsFoundIn view walked site
found_in view name (Refuses reply passed) site is = absurd (cc)
found_in view name (Reaches here passed) site is = by_object (object_at view here) refl is where
  here_is : (a b : Site) → At a ≡ At b → a ≡ b
  here_is a b is = cc

  by_test : (b : Bool) (o : Object) → object_at view here ≡ Some o
      → (if b then At (record { at = here; directory = here; name = name; passed = passed }) else Nowhere NotDir passed) ≡ At site
      → IsFoundIn view (Reaches here passed) site
  by_test false o there is = absurd (cc)
  by_test true o there is =
      let same : here ≡ site.directory =
      ap (λ (s : Site). s.directory) (here_is (record { at = here; directory = here; name = name; passed = passed }) site is) in
      record {
        passed = passed;
        walked_is = ap (λ (p : Place). Reaches p passed) same;
        object = o;
        there = subst (λ (p : Place). object_at view p ≡ Some o) same there;
      }

  by_object : (found : Option Object) → object_at view here ≡ found
      → (if option_map_or is_directory found false then At (record { at = here; directory = here; name = name; passed = passed }) else Nowhere NotDir passed)
      ≡ At site → IsFoundIn view (Reaches here passed) site
  by_object None none is = absurd (cc)
  by_object (Some o) there is = by_test (is_directory o) o there is

pub new_place : (scene : Scene) (parts : List Part) (name : List ℕ) (directory : Stand) → last_name parts ≡ Some name → has_id (Parts parts) ≡ false
    → IsPlace scene name (in_directory scene.view (Some name) (walk scene.volume scene.view Follows (front_of parts))) directory
    → IsNewPlace scene parts name directory
new_place scene parts name directory named none is =
    let found = found_in scene.view name (walk scene.volume scene.view Follows (front_of parts)) is.site is.place_is in
    let same : place_of directory.at ≡ is.site.directory = is.of_name.directory.place in
    record {
      site = is.site;
      place_is = subst (λ n. in_directory scene.view n (walk scene.volume scene.view Follows (front_of parts)) ≡ At is.site) (sym named) is.place_is;
      at_is = same ∙ sym is.there;
      directory_is = same;
      name_is = is.of_name.name_is;
      told = is.of_name.directory.told;
      now = ap (λ (p : Place). p.when) same
          ∙ front_walks_now scene.volume scene.view Follows parts is.site.directory found.passed none found.walked_is;
      object = found.object;
      there = subst (λ (p : Place). object_at scene.view p ≡ Some found.object) (sym same) found.there;
    }

-- whichever id its tree is read as of
pub new_place_there : (scene : Scene) (parts : List Part) (name : List ℕ) (directory there : Stand) (course : Course)
    → there ≡ record directory { as_of = course.last } → IsNewPlace scene parts name directory → IsNewPlace scene parts name there
new_place_there scene parts name directory there course is place =
    subst (λ (s : Stand). IsNewPlace scene parts name s) (sym is)
    (record {
      site = place.site;
      place_is = place.place_is;
      at_is = place.at_is;
      directory_is = place.directory_is;
      name_is = place.name_is;
      told = place.told;
      now = place.now;
      object = place.object;
      there = place.there;
    })

-- in a master, its tree is that as of the last id
pub new_view : (scene : Scene) (parts : List Part) (name : List ℕ) (directory : Stand) → IsNewPlace scene parts name directory
    → ShowsAs scene.elements scene.volume scene.view → master_check scene directory.at.pfs.0 ≡ None
    → IsViewOf scene.elements directory.at.pfs.0 scene.volume.last (scene.view directory.at.pfs.0 (when_of directory.at.when))
new_view scene parts name directory is shows master =
    subst (λ (w : When). IsViewOf scene.elements directory.at.pfs.0 scene.volume.last (scene.view directory.at.pfs.0 w)) (sym is.now)
    (master_view scene.elements scene.volume scene.view directory.at.pfs.0 directory.at.object is.object shows
    (subst (λ (w : When). object_in (scene.view directory.at.pfs.0 w) directory.at.object ≡ Some is.object) is.now is.there) master)

-- which is there
pub new_system : (scene : Scene) (parts : List Part) (name : List ℕ) (directory : Stand) → IsNewPlace scene parts name directory
    → ShowsAs scene.elements scene.volume scene.view → HasSystem scene.volume directory.at.pfs.0
new_system scene parts name directory is shows =
    system_there scene.elements scene.volume scene.view directory.at.pfs.0 (when_of directory.at.when) directory.at.object is.object shows is.there

-- the checks of a new name at a directory, and the others after the walk
abbrev pub stand_tail : (List ℕ → ℕ) → (ℕ → ℕ) → ℕ → Scene → Stand → List ℕ → List Check
stand_tail hash room free scene directory name =
    master_check scene directory.at.pfs.0 ∷ new_check scene directory name
    ∷ refuse_if (option_map_or (λ _. false) (named_in (tree_at scene directory) directory.at.object name)
    (nat_le 1024 (names_of_hash hash (tree_at scene directory) directory.at.object name))) HashFull
    ∷ None ∷ space_for names_zones 4 room free ∷ []

pub not_named : {X : Type 0} (found : Option X) → option_map_or (λ _. Some Exists) found None ≡ None → found ≡ None
not_named None is = refl
not_named (Some x) is = absurd (cc)

first_same : {check other : Check} {list : List Check} {refusal : Check} → check ≡ other → IsFirst (other ∷ list) refusal → IsFirst (check ∷ list) refusal
first_same {list = list} {refusal = refusal} same first = subst (λ (c : Check). IsFirst (c ∷ list) refusal) (sym same) first

module _ (hash : List ℕ → ℕ) (room : ℕ → ℕ) (free : ℕ) (new : New) (word : List ℕ) (scene : Scene) (parts : List Part) (name : List ℕ) (directory : Stand)
    (is : IsNewPlace scene parts name directory) (busy : Option ℕ) where
  abbrev a_call : Call
  a_call = call_in hash (Mkdir word) (Parts parts ∷ []) busy scene

  abbrev TailAt : Check → Place → Place → List ℕ → Type 0
  TailAt refusal at from called =
      IsFirst (refuse_if (is_in_slave a_call (At (record { at = at; directory = from; name = called; passed = is.site.passed })) || false) ReadOnly
      ∷ name_is_new a_call (record { at = at; directory = from; name = called; passed = is.site.passed })
      ∷ refuse_if (hash_is_full a_call (record { at = at; directory = from; name = called; passed = is.site.passed })) HashFull ∷ None
      ∷ space_for names_zones 4 room free ∷ []) refusal

  -- what the checks after the walk say first, they say by where it came to
  pub make_after : (refusal : Check) → IsFirst (stand_tail hash room free scene directory name) refusal
      → IsFirst (walks (locate scene.volume scene.view MakesName parts)
      ∷ drop 7 (all_checks (call_in hash (command_by new word) (Parts parts ∷ []) busy scene) room free)) refusal
  make_after refusal first =
      pass (ap walks is.place_is) (make_rest hash room free new word parts busy scene refusal
      (subst (λ (place : Located). IsFirst (make_tail hash room free a_call place) refusal) (sym is.place_is)
      (subst (λ (called : List ℕ). TailAt refusal is.site.at is.site.directory called) (sym is.name_is)
      (subst (λ (from : Place). TailAt refusal is.site.at from name) is.directory_is
      (subst (λ (at : Place). TailAt refusal at (place_of directory.at) name) is.at_is
      (first_same (refuse_one (option_map_or (λ s. if is_master s then false else true) (system_of scene.volume directory.at.pfs.0) false) ReadOnly
      (master_check scene directory.at.pfs.0) refl) first))))))

-- ---- what a call makes of the tree

-- what is known of a new name and a new number before they are written
pub record IsReady (hash : List ℕ → ℕ) (id : ℕ) (scene : Scene) (parts : List Part) (name : List ℕ) (directory : Stand) (spot : Spot)
    (found : Option Inode) : Type 0 where
  pub place : IsNewPlace scene parts name directory
  pub master : master_check scene directory.at.pfs.0 ≡ None
  pub fresh : named_in (tree_at scene directory) directory.at.object name ≡ None
  pub spot_is : IsSpot (Counts scene.elements directory.as_of.0) directory.at.pfs.0 directory.at.object (first_key (hash name)) spot
  pub number : IsFoundThen scene.elements directory.as_of.0 directory.at.pfs.0 id found
  pub own : HaveOwnKeys scene.elements
  pub below : AreBelow directory.at.pfs.0 id scene.elements

module _ (hash : List ℕ → ℕ) (id : ℕ) (course : Course) (before : course.last.0 + 1 ≡ id) (new : New) (word : List ℕ) (parts : List Part) (name : List ℕ)
    (path_is : IsPath word parts) (directory : Stand) (last_is : directory.as_of ≡ course.last) (spot : Spot) (found : Option Inode) where
  module _ (scene : Scene) (set : IsSet hash course scene) (is : IsReady hash id scene parts name directory spot found) (busy : Option ℕ) where
    abbrev the_call : Call
    the_call = call_in hash (command_by new word) (Parts parts ∷ []) busy scene

    abbrev the_pfs : ℕ
    the_pfs = directory.at.pfs.0

    within : changed_pfs the_call ≡ the_pfs
    within =
        make_pfs hash new word parts busy scene ∙ ap (λ (l : Located). (site_in l).at.pfs) is.place.place_is
        ∙ ap (λ (p : Place). p.pfs) (sym is.place.at_is)

    own_is : scene.volume.last + 1 ≡ id
    own_is = ap (λ (n : ℕ). n + 1) set.last ∙ before

    view_last : IsViewOf scene.elements the_pfs course.last.0 (tree_at scene directory)
    view_last =
        subst (λ (t : ℕ). IsViewOf scene.elements the_pfs t (tree_at scene directory)) set.last
        (new_view scene parts name directory is.place set.shows is.master)

    tree_is : tree_at scene directory ≡ tree_now the_call
    tree_is = ap (λ (w : When). scene.view the_pfs w) is.place.now ∙ ap (λ (p : ℕ). scene.view p Now) (sym within)

    view_now : IsViewOf scene.elements the_pfs course.last.0 (tree_now the_call)
    view_now = subst (λ (tree : FileTree). IsViewOf scene.elements the_pfs course.last.0 tree) tree_is view_last

    open_is : IsOpen (place_in directory name) spot id scene.elements
    open_is =
        opens the_pfs course.last.0 id scene.elements (tree_at scene directory) is.own is.below before view_last (place_in directory name)
        (first_key (hash name)) spot refl is.fresh
        (subst (λ (t : ℕ). IsSpot (Counts scene.elements t) the_pfs directory.at.object (first_key (hash name)) spot) (ap (λ i. i.0) last_is) is.spot_is)

    missing : object_in (tree_now the_call) (record { 0 = id }) ≡ None → IsMissing the_pfs id id scene.elements
    missing gone =
        misses the_pfs course.last.0 id scene.elements (tree_now the_call) is.own is.below before view_now (record { 0 = id }) found
        (subst (λ (t : ℕ). IsFoundThen scene.elements t the_pfs id found) (ap (λ i. i.0) last_is) is.number) gone

    made_same : with_object (tree_now the_call) directory.at.object name (object_by new id) ≡ changed the_call (tree_now the_call)
    made_same =
        ap (λ (n : ℕ). with_object (tree_now the_call) directory.at.object name (object_by new n)) (sym own_is)
        ∙ ap (λ (p : Place). with_object (tree_now the_call) p.object name (object_by new (scene.volume.last + 1))) is.place.directory_is
        ∙ ap (λ (n : List ℕ). with_object (tree_now the_call) is.place.site.directory.object n (object_by new (scene.volume.last + 1))) (sym is.place.name_is)
        ∙ ap (λ (l : Located). with_object (tree_now the_call) (site_in l).directory.object (site_in l).name (object_by new (scene.volume.last + 1)))
        (sym is.place.place_is)
        ∙ sym (make_changed hash new word parts busy scene (tree_now the_call))

    make_changes : ReadsWords (command_by new word) (Parts parts ∷ []) → (list : List FullElement)
        → PutsObject hash (place_in directory name) spot id (object_by new id) scene.elements list → ChangesTree the_call scene.elements list
    make_changes reads list puts =
        tree_changes the_call hash course.last.0 id the_pfs scene.elements
        (record { own = own_is; hash_is = refl; shows = set.shows; keys = set.keys; words = reads })
        is.own within (new_system scene parts name directory is.place set.shows) is.below before view_now
        (λ tree. with_object tree directory.at.object name (object_by new id)) (KeyFits hash spot.key name) list puts.steps
        (spot_fits hash spot.key name is.spot_is.from is.spot_is.to)
        (λ gone. puts.shows open_is
        (subst (λ (n : ℕ). IsMissing the_pfs n id scene.elements) (sym (made_number new id)) (missing gone)))
        (λ gone. kinds_leading (object_by new id).number (kind_number (object_by new id).kind)
        (with_object (tree_now the_call) directory.at.object name (object_by new id)) scene.elements list
        (λ o there. ap (λ (x : Object). kind_number x.kind) (sym (new_there (tree_now the_call) directory.at.object name (object_by new id) o
        (subst (λ (n : ℕ). object_in (tree_now the_call) (record { 0 = n }) ≡ None) (sym (made_number new id)) gone) there)))
        puts.names)
        (λ number o there gone. absurd (new_keeps (tree_now the_call) directory.at.object number name (object_by new id) o there gone))
        (λ gone. puts.follows open_is
        (subst (λ (n : ℕ). IsMissing the_pfs n id scene.elements) (sym (made_number new id)) (missing gone))) made_same

  pub puts_changes : (busy : Option ℕ) (paths : List Parsed) (scene : Scene) (list : List FullElement) → ReadsWords (command_by new word) paths
      → IsSet hash course scene → IsReady hash id scene parts name directory spot found
      → PutsObject hash (place_in directory name) spot id (object_by new id) scene.elements list
      → ChangesTree (call_in hash (command_by new word) paths busy scene) scene.elements list
  puts_changes busy paths scene list reads set is puts =
      let one = read_words paths reads in
      subst (λ (ps : List Parsed). ChangesTree (call_in hash (command_by new word) ps busy scene) scene.elements list) (sym one)
      (make_changes scene set is busy (subst (ReadsWords (command_by new word)) one reads) list puts) where
        read_words : (paths : List Parsed) → ReadsWords (command_by new word) paths → paths ≡ Parts parts ∷ []
        read_words paths reads =
            let one = read_one MakesName word paths (as_uses new reads) in one.1 ∙ ap (λ p. p ∷ []) (read_once word parts one.0 path_is one.2) where
              as_uses : (n : New) → ReadsWords (command_by n word) paths → AllZip AsRead ((MakesName, word) ∷ []) paths
              as_uses Directory reads = reads
              as_uses File reads = reads
              as_uses (Softlink target) reads = reads
              as_uses Snapshot reads = reads

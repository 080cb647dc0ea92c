-- The calls that make a pseudo file system: their checks, by where the walk led, and what is told of a store.
use Rattle.std.proofs.Common.{◌≡◌, ℕ, List, [], ◌∷◌, false, Option, Some, None, Result, Ok, Err, refl, sym, ap, subst, ◌∙◌}
use Rattle.std.specs.Prelude.{◌||◌, IfSome}
use Rattle.std.specs.Bool.{nat_le}
use Rattle.std.specs.List.{AllZip}
use Rattle.std.specs.Option.{option_map_or}
use Rattle.hm_types.specs.Elements.{FullElement}
use Rattle.hm_types.specs.Tree.{FileTree, named_in}
use Rattle.hm_types.specs.declared.id.Pfs.{Pfs}
use Rattle.hm_path.specs.Path.{IsPath}
use Rattle.hm_path.specs.declared.part.Part.{Part}
use Rattle.hm_key.specs.Balance.{IsBalanced}
use Rattle.hm_key.specs.Counts.{Counts}
use Rattle.hm_key.specs.Extents.{Extent}
use Rattle.hm_key.specs.declared.element.Element.{Element}
use Rattle.hm_cursor.specs.Told.{Lists, OnBalanced, fulls}
use Rattle.hm_model.specs.Call.{Call, site_in}
use Rattle.hm_model.specs.Due.{Check, early_checks, first_refusal, has_id, hash_is_full, is_in_slave, name_is_new, new_name, refuse_if, walks}
use Rattle.hm_model.specs.Needs.{names_zones}
use Rattle.hm_model.specs.Sites.{At, Located, MakesName, Parsed, Parts, ReadsWords, locate}
use Rattle.hm_model.specs.View.{Position, View}
use Rattle.hm_model.specs.Volume.{Volume}
use Rattle.hm_model.specs.declared.command.Command.TheVariants.{PfsMaster}
use Rattle.hm_model.specs.declared.reply.Reply.TheVariants.{Exists, HashFull, NotFound, PfsFull, ReadOnly}
use Rattle.hm_model.proofs.ReadLemmas.{read_once}
use Rattle.hm_records.specs.View.{IsViewOf}
use Rattle.hm_volume.specs.Shown.{ShowsAs}
use Rattle.hm_dirs.specs.Names.{IsSpot, OnNamed, first_key, names_of_hash}
use Rattle.hm_dirs.specs.Walk.{Scene, place_of}
use Rattle.hm_dirs.specs.declared.position.Course.{Course}
use Rattle.hm_dirs.specs.declared.position.Stand.{Stand}
use Rattle.hm_dirs.specs.declared.spot.Spot.{Spot}
use Rattle.hm_pfs.specs.Records.{IsLeastUnused}
use Rattle.hm_calls.specs.Changes.{HasSystem}
use Rattle.hm_calls.specs.Due.{space_for}
use Rattle.hm_calls.specs.Known.{AreBelow}
use Rattle.hm_calls.specs.NewSystems.{HasKnownNumbers, IsNewThere, IsReadThere, name_checks, pfs_check, system_checks, system_command}
use Rattle.hm_calls.specs.Scenes.{InScenes, IsNewPlace, call_in, full_check, is_slave, new_check, slave_check, tree_at}
use Rattle.hm_calls.specs.Stages.{AnswersAll, last_checks, place_checks}
use Rattle.hm_calls.specs.Stop.{Answers, Decides}
use Rattle.hm_calls.specs.declared.new_systems.NewSystem.{NewSystem}
use Rattle.hm_calls.specs.declared.new_systems.NewSystem.TheVariants.{Master, Slave}
use Rattle.hm_calls.specs.declared.stop.Stop.{Stop}
use Rattle.hm_calls.specs.declared.stop.Stop.TheVariants.{Failed, Refused}
use Rattle.hm_calls.proofs.FrontLemmas.{both_in, map_in, skips}
use Rattle.hm_calls.proofs.LinkLemmas.{hash_counts}
use Rattle.hm_calls.proofs.MakeLemmas.{new_place_there}
use Rattle.hm_calls.proofs.MayReplyLemmas.{AsksOne}
use Rattle.hm_calls.proofs.NewNumberLemmas.{no_system, none_left, number_gone, number_left}
use Rattle.hm_calls.proofs.ReachLemmas.{OnVolumes}
use Rattle.hm_calls.proofs.RefusalLemmas.{AsRead, IsOfOne, read_one, refuse_one}
use Rattle.hm_calls.proofs.SceneLemmas.{IsStoppedBy, scenes_named}
use Rattle.hm_calls.proofs.StageLemmas.{scenes_volumes}
use Rattle.hm_calls.proofs.StepLemmas.{told_so}

-- ---- both commands alike

pub of_system : (new : NewSystem) (word : List ℕ) (shared : ℕ) → IsOfOne (system_command new word shared) MakesName word
of_system Master word shared = record { uses = refl; form = λ hash room free path busy scene refusal first. first }
of_system Slave word shared = record { uses = refl; form = λ hash room free path busy scene refusal first. first }

pub asks_system : (new : NewSystem) (word : List ℕ) (shared : ℕ) → AsksOne (system_command new word shared) MakesName word
asks_system Master word shared = record { uses = refl; early = λ last busy path. refl }
asks_system Slave word shared = record { uses = refl; early = λ last busy path. refl }

-- calls of a word that was read so have those parts
pub system_paths : (new : NewSystem) (word : List ℕ) (shared : ℕ) (parts : List Part) (paths : List Parsed) → IsPath word parts
    → ReadsWords (system_command new word shared) paths → paths ≡ Parts parts ∷ []
system_paths new word shared parts paths path_is reads =
    let one = read_one MakesName word paths (as_uses new reads) in one.1 ∙ ap (λ p. p ∷ []) (read_once word parts one.0 path_is one.2)
  where
    as_uses : (n : NewSystem) → ReadsWords (system_command n word shared) paths → AllZip AsRead ((MakesName, word) ∷ []) paths
    as_uses Master reads = reads
    as_uses Slave reads = reads

-- its early checks are those of its path
pub system_early : (new : NewSystem) (word : List ℕ) (shared last : ℕ) (parts : List Part) (busy : Option ℕ)
    → first_refusal (early_checks last busy (system_command new word shared) (Parts parts ∷ [])) ≡ first_refusal (name_checks last parts)
system_early Master word shared last parts busy = refl
system_early Slave word shared last parts busy = refl

-- a path with an id
pub past_one : (parts : List Part) (stopped : Stop) → Decides {T = Unit {0}} (refuse_if (has_id (Parts parts)) ReadOnly) (Err stopped)
    → IsStoppedBy (refuse_if (has_id (Parts parts) || false) ReadOnly) stopped
past_one parts (Refused reply) told = refuse_one (has_id (Parts parts)) ReadOnly (Some reply) told
past_one parts (Failed fault) told = tt

-- ---- the place of the link

module _ (hash : List ℕ → ℕ) (word : List ℕ) (shared : ℕ) (scene : Scene) (parts : List Part) (busy : Option ℕ) where
  abbrev a_call : Call
  a_call = call_in hash (PfsMaster word shared) (Parts parts ∷ []) busy scene

  pub at_places : {T : Type 0} {result : Result T Stop} (new : NewSystem)
      → AnswersAll (walks (locate scene.volume scene.view MakesName parts)
      ∷ refuse_if (is_in_slave a_call (locate scene.volume scene.view MakesName parts) || false) ReadOnly ∷ []) result
      → AnswersAll (place_checks (call_in hash (system_command new word shared) (Parts parts ∷ []) busy scene)) result
  at_places Master told = told
  at_places Slave told = told

  module _ (name : List ℕ) (directory : Stand) (place : IsNewPlace scene parts name directory) where
    -- where it leads
    abbrev pub new_at : Position → Position → List ℕ → Located
    new_at at from called = At (record { at = at; directory = from; name = called; passed = place.site.passed })

    pub new_is : locate scene.volume scene.view MakesName parts ≡ new_at (place_of directory.at) (place_of directory.at) name
    new_is =
        place.place_is ∙ ap (λ p. new_at p place.site.directory place.site.name) (sym place.at_is)
        ∙ ap (λ p. new_at (place_of directory.at) p place.site.name) (sym place.directory_is)
        ∙ ap (λ n. new_at (place_of directory.at) (place_of directory.at) n) place.name_is

    pub new_places : {T : Type 0} {result : Result T Stop} (new : NewSystem) → AnswersAll (slave_check scene.volume directory.at.pfs.0 ∷ []) result
        → AnswersAll (place_checks (call_in hash (system_command new word shared) (Parts parts ∷ []) busy scene)) result
    new_places {result = result} new told =
        at_places new (skips (ap walks new_is)
        (subst (λ (l : Located). AnswersAll (refuse_if (is_in_slave a_call l || false) ReadOnly ∷ []) result) (sym new_is)
        (subst (λ (check : Check). AnswersAll (check ∷ []) result)
        (sym (refuse_one (is_slave scene.volume directory.at.pfs.0) ReadOnly (slave_check scene.volume directory.at.pfs.0) refl)) told)))

    -- ---- the checks after the walk

    -- those on the place alone
    abbrev system_last : (ℕ → ℕ) → ℕ → Located → List Check
    system_last room free l =
        name_is_new a_call (site_in l) ∷ pfs_check scene.volume
        ∷ option_map_or (λ site. refuse_if (hash_is_full a_call site) HashFull) (new_name ((MakesName, []) ∷ []) (l ∷ [])) None ∷ None
        ∷ space_for names_zones 4 room free ∷ []

    at_last : {T : Type 0} {result : Result T Stop} (new : NewSystem) (room : ℕ → ℕ) (free : ℕ)
        → AnswersAll (system_last room free (locate scene.volume scene.view MakesName parts)) result
        → AnswersAll (last_checks (call_in hash (system_command new word shared) (Parts parts ∷ []) busy scene) room free) result
    at_last Master room free told = told
    at_last Slave room free told = told

    pub new_last : {T : Type 0} {result : Result T Stop} (new : NewSystem) (room : ℕ → ℕ) (free : ℕ)
        → AnswersAll (system_checks hash room free name directory scene) result
        → AnswersAll (last_checks (call_in hash (system_command new word shared) (Parts parts ∷ []) busy scene) room free) result
    new_last {result = result} new room free told =
        at_last new room free
        (subst (λ (l : Located). AnswersAll (system_last room free l) result) (sym new_is)
        (record {
          is = subst (λ (check : Check). Answers check result)
              (hash_counts (named_in (tree_at scene directory) directory.at.object name) (pfs_check scene.volume)
              (nat_le 1024 (names_of_hash hash (tree_at scene directory) directory.at.object name)) (space_for names_zones 4 room free)) told.is;
        }))

-- what is told of a look at the record of its pseudo file system
pub slave_in : {hash : List ℕ → ℕ} {course : Course} {es : Option (List Element)} {xs : Option (List Extent)} (pfs : ℕ) (result : Result (Unit {0}) Stop)
    → OnVolumes es xs (λ volume. Answers (slave_check volume pfs) result)
    → InScenes hash course es xs (λ scene. Answers (slave_check scene.volume pfs) result)
slave_in {hash = hash} {course = course} {es = es} {xs = xs} pfs result told =
    record { each = scenes_volumes hash course es xs (λ list volume view. Answers (slave_check volume pfs) result) told }

-- the walk led there, in no slave
pub is_new_there : {hash : List ℕ → ℕ} {course : Course} {es : Option (List Element)} {xs : Option (List Extent)} (parts : List Part) (id : ℕ) (name : List ℕ)
    (directory there : Stand) {x : Unit {0}} → there ≡ record directory { as_of = course.last }
    → InScenes hash course es xs (λ scene. IsNewPlace scene parts name directory)
    → InScenes hash course es xs (λ scene. Answers (slave_check scene.volume directory.at.pfs.0) (Ok x))
    → InScenes hash course es xs (λ scene. AreBelow directory.at.pfs.0 id scene.elements)
    → InScenes hash course es xs (IsNewThere parts id name there)
is_new_there {course = course} parts id name directory there is places masters below =
    map_in (λ scene set told. subst (λ (s : Stand). IsNewThere parts id name s scene) (sym is) (record {
      place = new_place_there scene parts name directory (record directory { as_of = course.last }) course refl told.0.0;
      master = told.0.1;
      below = told.1;
      last = ap (λ (c : Course). c.last) (sym set.course_is);
    })) (both_in (both_in places masters) below)

-- ---- the number

module _ (told : Option Lists) (from beside : ℕ) where
  -- what a look at the numbers answers, of each volume that is shown
  abbrev OfCounted : (Volume → Type 0) → Type 0
  OfCounted P = IfSome told (λ lists. IsBalanced lists.0 lists.1 → (volume : Volume) (view : View) → ShowsAs (fulls lists) volume view
      → HasKnownNumbers from (fulls lists) volume → HasSystem volume beside → P volume)

  pub numbers_full : (found : Option Pfs) → found ≡ None → IfSome told (λ lists. IsLeastUnused (fulls lists) from found)
      → OfCounted (λ volume. pfs_check volume ≡ Some PfsFull)
  numbers_full found none =
      told_so told (λ lists least balanced volume view shows counted system.
      none_left from (fulls lists) volume view shows counted (subst (λ (o : Option Pfs). IsLeastUnused (fulls lists) from o) none least))

  pub numbers_left : (found : Option Pfs) (pfs : Pfs) → found ≡ Some pfs → IfSome told (λ lists. IsLeastUnused (fulls lists) from found)
      → OfCounted (λ volume. pfs_check volume ≡ None)
  numbers_left found pfs some =
      told_so told (λ lists least balanced volume view shows counted system.
      number_left from (fulls lists) volume view shows counted pfs.0 (subst (λ (o : Option Pfs). IsLeastUnused (fulls lists) from o) some least))

  -- a number that is unused is none that a volume has
  pub numbers_beside : (found : Option Pfs) (pfs : Pfs) → found ≡ Some pfs → pfs.0 ≡ beside → IfSome told (λ lists. IsLeastUnused (fulls lists) from found)
      → OfCounted (λ volume. pfs_check volume ≡ Some NotFound)
  numbers_beside found pfs some same =
      told_so told (λ lists least balanced volume view shows counted system.
      let first = subst (λ (o : Option Pfs). IsLeastUnused (fulls lists) from o) some least in
      absurd (no_system volume pfs.0 (number_gone (fulls lists) volume view pfs.0 shows first.unused) (subst (HasSystem volume) (sym same) system)))

  pub numbers_told : (found : Option Pfs) (pfs : Pfs) → found ≡ Some pfs → IfSome told (λ lists. IsLeastUnused (fulls lists) from found)
      → IfSome told (λ lists. IsLeastUnused (fulls lists) from (Some pfs))
  numbers_told found pfs some = told_so told (λ lists least. subst (λ (o : Option Pfs). IsLeastUnused (fulls lists) from o) some least)

-- ---- what the steps tell of the name in the directory's tree

module _ (hash : List ℕ → ℕ) (course : Course) (es : Option (List Element)) (xs : Option (List Extent)) (directory : Stand) where
  -- of each tree that may be the one of the directory
  abbrev OnTrees : (List FullElement → FileTree → Type 0) → Type 0
  OnTrees P = OnNamed hash es xs (λ lists. (tree : FileTree) → IsViewOf (fulls lists) directory.at.pfs.0 directory.as_of.0 tree → P (fulls lists) tree)

  module _ (seen : InScenes hash course es xs (IsReadThere directory)) where
    in_tree : (P : List FullElement → FileTree → Type 0) → OnTrees P → InScenes hash course es xs (λ scene. P scene.elements (tree_at scene directory))
    in_tree P told =
        map_in {P = λ scene. IsReadThere directory scene
        × ((tree : FileTree) → IsViewOf scene.elements directory.at.pfs.0 directory.as_of.0 tree → P scene.elements tree)}
        (λ scene set is. is.1 (tree_at scene directory) is.0.tree)
        (both_in seen (record {
          each = scenes_named hash course es xs (λ list. (tree : FileTree) → IsViewOf list directory.at.pfs.0 directory.as_of.0 tree → P list tree) told;
        }))

    pub name_in : (bytes name : List ℕ) → bytes ≡ name → (result : Result (Unit {0}) Stop)
        → OnTrees (λ list tree. Answers (option_map_or (λ _. Some Exists) (named_in tree directory.at.object bytes) None) result)
        → InScenes hash course es xs (λ scene. Answers (new_check scene directory name) result)
    name_in bytes name is result told =
        in_tree (λ list tree. Answers (option_map_or (λ _. Some Exists) (named_in tree directory.at.object name) None) result)
        (subst (λ (n : List ℕ). OnTrees (λ list tree. Answers (option_map_or (λ _. Some Exists) (named_in tree directory.at.object n) None) result)) is told)

    pub hash_in : (name : List ℕ) {T : Type 0} (result : Result T Stop)
        → OnTrees (λ list tree. Answers (refuse_if (nat_le 1024 (names_of_hash hash tree directory.at.object name)) HashFull) result)
        → InScenes hash course es xs (λ scene. Answers (full_check hash scene directory name) result)
    hash_in name result = in_tree (λ list tree. Answers (refuse_if (nat_le 1024 (names_of_hash hash tree directory.at.object name)) HashFull) result)

    pub spot_in_tree : (name : List ℕ) (spot : Spot)
        → OnTrees (λ list tree. IsSpot (Counts list directory.as_of.0) directory.at.pfs.0 directory.at.object (first_key (hash name)) spot)
        → InScenes hash course es xs (λ scene. IsSpot (Counts scene.elements directory.as_of.0) directory.at.pfs.0 directory.at.object
        (first_key (hash name)) spot)
    spot_in_tree name spot =
        in_tree (λ list tree. IsSpot (Counts list directory.as_of.0) directory.at.pfs.0 directory.at.object (first_key (hash name)) spot)

    pub number_in : (from : ℕ) {T : Type 0} (result : Result T Stop)
        → OnBalanced es xs (λ lists. (volume : Volume) (view : View) → ShowsAs (fulls lists) volume view → HasKnownNumbers from (fulls lists) volume
        → HasSystem volume directory.at.pfs.0 → Answers (pfs_check volume) result)
        → InScenes hash course es xs (λ scene. HasKnownNumbers from scene.elements scene.volume → Answers (pfs_check scene.volume) result)
    number_in from result told =
        map_in {P = λ scene. IsReadThere directory scene
        × (HasKnownNumbers from scene.elements scene.volume → HasSystem scene.volume directory.at.pfs.0 → Answers (pfs_check scene.volume) result)}
        (λ scene set is counted. is.1 counted is.0.system)
        (both_in seen (record {
          each = scenes_volumes hash course es xs
              (λ list volume view. HasKnownNumbers from list volume → HasSystem volume directory.at.pfs.0 → Answers (pfs_check volume) result) told;
        }))

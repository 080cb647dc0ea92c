-- What a call that makes a pseudo file system does to the elements, from what it wrote.
use Rattle.std.proofs.Common.{◌≡◌, ◌≢◌, ℕ, ◌+◌, List, [], ◌∷◌, Option, Some, None, refl, sym, ap, subst, ◌∙◌, arith, inl, inr}
use Rattle.std.specs.Prelude.{◌⊎◌, IfSome, IsSomeAnd}
use Rattle.std.specs.List.{Contains}
use Rattle.std.proofs.lemmas.List.Elements.{All-contains}
use Rattle.hm_types.specs.Elements.{FullElement, Key}
use Rattle.hm_types.specs.Tree.{FileTree, object_in, with_object}
use Rattle.hm_types.specs.declared.id.Pfs.{Pfs}
use Rattle.hm_types.specs.declared.object.Object.{Object}
use Rattle.hm_path.specs.Path.{IsPath}
use Rattle.hm_path.specs.declared.part.Part.{Part}
use Rattle.hm_key.specs.Balance.{IsBalanced, content_of}
use Rattle.hm_key.specs.Counts.{Counts, Subject, record_subject}
use Rattle.hm_key.specs.Element.{pfs_of}
use Rattle.hm_key.specs.Extents.{Extent}
use Rattle.hm_key.specs.declared.element.Element.{Element}
use Rattle.hm_cursor.specs.Told.{Lists, fulls}
use Rattle.hm_model.specs.Call.{Call, own_id, site_in}
use Rattle.hm_model.specs.Change.{changed, changed_pfs}
use Rattle.hm_model.specs.Due.{new_pfs}
use Rattle.hm_model.specs.Sites.{Located, MakesName, Parsed, Parts, ReadsWords, locate}
use Rattle.hm_model.specs.View.{Now, View, When}
use Rattle.hm_model.specs.Volume.{Volume}
use Rattle.hm_model.specs.declared.command.Command.{Command}
use Rattle.hm_model.proofs.GrowthLemmas.{same_or_not}
use Rattle.hm_records.specs.Payload.{KeyFits}
use Rattle.hm_records.specs.PfsRecord.{pfs_bytes}
use Rattle.hm_types.specs.Intervals.{open_end}
use Rattle.hm_records.specs.View.{IsViewOf, kind_number}
use Rattle.hm_records.specs.declared.inode.Inode.{Inode}
use Rattle.hm_objects.specs.Objects.{pfs_link_of}
use Rattle.hm_cursor.specs.Views.{IsMissing}
use Rattle.hm_dirs.specs.Names.{IsSpot, first_key}
use Rattle.hm_dirs.specs.Walk.{Scene, place_of}
use Rattle.hm_dirs.specs.declared.position.Course.{Course}
use Rattle.hm_dirs.specs.declared.position.Stand.{Stand}
use Rattle.hm_dirs.specs.declared.spot.Spot.{Spot}
use Rattle.hm_pfs.specs.Records.{IsFirstUnused, IsLeastUnused}
use Rattle.hm_pfs.specs.Systems.{IsNotMadeBy, IsUnusedNumber}
use Rattle.hm_calls.specs.Changes.{ChangesTree, HasSystem, tree_now}
use Rattle.hm_calls.specs.Known.{AreBelow, AreOlderOrSlaves, IsOlderThan}
use Rattle.hm_calls.specs.NewSystems.{AddsNew, HasKnownNumbers, MakesSystem, MakesSystems, PutsLinked, PutsNewSystem, system_command}
use Rattle.hm_calls.specs.Scenes.{IsSet, OnScenes, call_in, scene_in, tree_at}
use Rattle.hm_calls.specs.Writes.{IsNewIn, IsOpen, place_in}
use Rattle.hm_calls.specs.declared.new_systems.NewSystem.{NewSystem}
use Rattle.hm_calls.specs.declared.new_systems.NewSystem.TheVariants.{Master, Slave}
use Rattle.hm_calls.proofs.EffectLemmas.{IsFoundThen, kinds_leading, misses, opens, spot_fits, tree_changes}
use Rattle.hm_calls.proofs.KnownLemmas.{older_still}
use Rattle.hm_calls.proofs.MakeLemmas.{IsReady, new_system, new_view}
use Rattle.hm_calls.proofs.NewNumberLemmas.{no_system, number_gone, number_is}
use Rattle.hm_calls.proofs.NewSystemLemmas.{new_at, new_is, system_paths}
use Rattle.hm_calls.proofs.SceneLemmas.{call_set, call_so}
use Rattle.hm_calls.proofs.StageLemmas.{Wrote}
use Rattle.hm_calls.proofs.TreeLemmas.{new_keeps, new_there}

-- ---- a new one, by what was put

-- its elements are made by `i` and open, and no others come
puts_young : (new : NewSystem) (pfs shared i : ℕ) (es es' : List FullElement) → PutsNewSystem new pfs shared i es es' → (x : FullElement) → Contains es' x
    → IsOlderThan (i + 1) x ⊎ Contains es x
puts_young Master pfs shared i es es' puts x has = elim ((puts.elements x).0 has) [
  | inl (inl root) ↦ inl (subst (IsOlderThan (i + 1)) (sym root) (record { made = omega arith; closed = omega arith }))
  | inl (inr made) ↦ inl (subst (IsOlderThan (i + 1)) (sym made) (record { made = omega arith; closed = omega arith }))
  | inr old ↦ inr old
]
puts_young Slave pfs shared i es es' puts x has = elim ((puts.elements x).0 has) [
  | inl made ↦ inl (subst (IsOlderThan (i + 1)) (sym made) (record { made = omega arith; closed = omega arith }))
  | inr old ↦ inr old
]

puts_elsewhere : (new : NewSystem) (pfs shared i : ℕ) (es es' : List FullElement) → PutsNewSystem new pfs shared i es es'
    → (t : ℕ) (s : Subject) (bytes : List ℕ)
    → pfs_of s.localization ≢ pfs → Counts es t s bytes → Counts es' t s bytes
puts_elsewhere Master pfs shared i es es' puts t s bytes differ counts = (puts.elsewhere t s bytes differ).1 counts
puts_elsewhere Slave pfs shared i es es' puts t s bytes differ counts = (puts.elsewhere t s bytes differ).1 counts

puts_adds : (new : NewSystem) (pfs shared i : ℕ) (es es' : List FullElement) → PutsNewSystem new pfs shared i es es' → IsUnusedNumber pfs es
    → AddsNew new pfs shared i es es'
puts_adds Master pfs shared i es es' puts unused = puts.adds unused
puts_adds Slave pfs shared i es es' puts unused = puts.adds unused

-- ---- what is known of ids

-- an unused number is no slave's, so its elements are older than the call's id
below_unused : (numbers pfs i : ℕ) (es : List FullElement) → IsFirstUnused es numbers pfs → AreOlderOrSlaves i es → AreBelow pfs i es
below_unused numbers pfs i es first known = elim (known pfs) [
  | inl (r, range, here, is) ↦ absurd (first.unused (pfs_bytes r) here)
  | inr below ↦ below
]

pub unmade_unused : (numbers i : ℕ) (pfs : Pfs) (told : Option Lists) → IfSome told (λ lists. IsLeastUnused (fulls lists) numbers (Some pfs))
    → IfSome told (λ lists. AreOlderOrSlaves i (fulls lists)) → IfSome told (λ lists. IsNotMadeBy pfs.0 i (fulls lists))
unmade_unused numbers i pfs None first known = tt
unmade_unused numbers i pfs (Some lists) first known = λ x has at made.
    let older = (below_unused numbers pfs.0 i (fulls lists) first known x has at).made in
    absurd (omega (arith, older, made))

-- after the call they are older than the next one, or of slaves as before
pub known_linked : (hash : List ℕ → ℕ) (directory : Stand) (name : List ℕ) (spot : Spot) (i numbers shared : ℕ) (new : NewSystem) (number : Pfs)
    (es es' : List FullElement) → IsFirstUnused es numbers number.0 → AreOlderOrSlaves i es
    → PutsLinked hash (place_in directory name) spot i new number shared es es' → AreOlderOrSlaves (i + 1) es'
known_linked hash directory name spot i numbers shared new number es es' first known puts other = elim (between other) [
  | inl (r, range, here, is) ↦ elim (same_or_not other number.0) [
    | inl same ↦ absurd (first.unused (pfs_bytes r)
        (subst (λ (n : ℕ). Counts es open_end (record_subject n) (pfs_bytes r)) same
        ((puts.link.steps.writes.records_then open_end other (pfs_bytes r)).0 here)))
    | inr differ ↦ inl (
      r,
      range,
      puts_elsewhere new number.0 shared i puts.between es' puts.system open_end (record_subject other) (pfs_bytes r)
          (λ is'. differ (sym (named other) ∙ is')) here,
      is,
    )
  ]
  | inr below ↦ inr (λ x has at. elim (puts_young new number.0 shared i puts.between es' puts.system x has) [
    | inl young ↦ young
    | inr old ↦ below x old at
  ])
] where
  between : AreOlderOrSlaves (i + 1) puts.between
  between = older_still directory.at.pfs.0 i (IsNewIn directory.at.pfs.0 i) es puts.between puts.link.steps.writes known

  named : (n : ℕ) → pfs_of (record_subject n).localization ≡ n
  named n = omega arith

-- ---- what the call makes of the volume

module _ (hash : List ℕ → ℕ) (id : ℕ) (course : Course) (before : course.last.0 + 1 ≡ id) (new : NewSystem) (word : List ℕ) (shared : ℕ) (parts : List Part)
    (name : List ℕ) (path_is : IsPath word parts) (directory : Stand) (spot : Spot) (found : Option Inode)
    (number : Pfs) (numbers : ℕ) where
  -- what is known before anything is written
  pub record IsReadyFor (scene : Scene) : Type 0 where
    pub ready : IsReady hash id scene parts name directory spot found
    pub first : IsFirstUnused scene.elements numbers number.0
    pub last : directory.as_of ≡ course.last

  module _ (scene : Scene) (set : IsSet hash course scene) (is : IsReadyFor scene) (busy : Option ℕ) where
    abbrev the_call : Call
    the_call = call_in hash (system_command new word shared) (Parts parts ∷ []) busy scene

    abbrev the_pfs : ℕ
    the_pfs = directory.at.pfs.0

    at_is : locate scene.volume scene.view MakesName parts ≡ new_at hash word shared scene parts busy name directory is.ready.place
        (place_of directory.at) (place_of directory.at) name
    at_is = new_is hash word shared scene parts busy name directory is.ready.place

    within : changed_pfs the_call ≡ the_pfs
    within = by new ∙ ap (λ (l : Located). (site_in l).at.pfs) at_is where
      by : (n : NewSystem) → changed_pfs (call_in hash (system_command n word shared) (Parts parts ∷ []) busy scene)
          ≡ (site_in (locate scene.volume scene.view MakesName parts)).at.pfs
      by Master = refl
      by Slave = refl

    own_is : scene.volume.last + 1 ≡ id
    own_is = ap (λ (n : ℕ). n + 1) set.last ∙ before

    view_last : IsViewOf scene.elements the_pfs course.last.0 (tree_at scene directory)
    view_last =
        subst (λ (t : ℕ). IsViewOf scene.elements the_pfs t (tree_at scene directory)) set.last
        (new_view scene parts name directory is.ready.place set.shows is.ready.master)

    tree_is : tree_at scene directory ≡ tree_now the_call
    tree_is = ap (λ (w : When). scene.view the_pfs w) is.ready.place.now ∙ ap (λ (p : ℕ). scene.view p Now) (sym within)

    view_now : IsViewOf scene.elements the_pfs course.last.0 (tree_now the_call)
    view_now = subst (λ (tree : FileTree). IsViewOf scene.elements the_pfs course.last.0 tree) tree_is view_last

    open_is : IsOpen (place_in directory name) spot id scene.elements
    open_is =
        opens the_pfs course.last.0 id scene.elements (tree_at scene directory) is.ready.own is.ready.below before view_last (place_in directory name)
        (first_key (hash name)) spot refl is.ready.fresh
        (subst (λ (t : ℕ). IsSpot (Counts scene.elements t) the_pfs directory.at.object (first_key (hash name)) spot) (ap (λ i. i.0) is.last)
        is.ready.spot_is)

    missing : object_in (tree_now the_call) (record { 0 = id }) ≡ None → IsMissing the_pfs id id scene.elements
    missing gone =
        misses the_pfs course.last.0 id scene.elements (tree_now the_call) is.ready.own is.ready.below before view_now (record { 0 = id }) found
        (subst (λ (t : ℕ). IsFoundThen scene.elements t the_pfs id found) (ap (λ i. i.0) is.last) is.ready.number) gone

    in_system : HasSystem scene.volume the_pfs
    in_system = new_system scene parts name directory is.ready.place set.shows

    module _ (counted : HasKnownNumbers numbers scene.elements scene.volume) where
      taken : new_pfs scene.volume ≡ number.0
      taken = number_is numbers scene.elements scene.volume scene.view set.shows counted number.0 is.first

      linked : with_object (tree_now the_call) directory.at.object name (pfs_link_of (record { 0 = id }) number) ≡ changed the_call (tree_now the_call)
      linked =
          ap (λ (n : ℕ). with_object (tree_now the_call) directory.at.object name (pfs_link_of (record { 0 = id }) (record { 0 = n }))) (sym taken)
          ∙ ap (λ (n : ℕ). with_object (tree_now the_call) directory.at.object name (pfs_link_of (record { 0 = n }) (record { 0 = new_pfs scene.volume })))
          (sym own_is)
          ∙ ap (λ (l : Located). with_object (tree_now the_call) (site_in l).directory.object (site_in l).name
          (pfs_link_of (record { 0 = scene.volume.last + 1 }) (record { 0 = new_pfs scene.volume }))) (sym at_is)
          ∙ by new (tree_now the_call)
        where
          by : (n : NewSystem) (tree : FileTree) → with_object tree (site_in (locate scene.volume scene.view MakesName parts)).directory.object
              (site_in (locate scene.volume scene.view MakesName parts)).name
              (pfs_link_of (record { 0 = scene.volume.last + 1 }) (record { 0 = new_pfs scene.volume }))
              ≡ changed (call_in hash (system_command n word shared) (Parts parts ∷ []) busy scene) tree
          by Master tree = refl
          by Slave tree = refl

      abbrev new_link : Object
      new_link = pfs_link_of (record { 0 = id }) number

      module _ (es' : List FullElement) (puts : PutsLinked hash (place_in directory name) spot id new number shared scene.elements es') where
        tree_linked : ReadsWords (system_command new word shared) (Parts parts ∷ []) → ChangesTree the_call scene.elements puts.between
        tree_linked reads =
            tree_changes the_call hash course.last.0 id the_pfs scene.elements
            (record { own = own_is; hash_is = refl; shows = set.shows; keys = set.keys; words = reads })
            is.ready.own within in_system is.ready.below before view_now
            (λ tree. with_object tree directory.at.object name (pfs_link_of (record { 0 = id }) number)) (KeyFits hash spot.key name) puts.between
            puts.link.steps (spot_fits hash spot.key name is.ready.spot_is.from is.ready.spot_is.to)
            (λ gone. puts.link.shows open_is (missing gone))
            (λ gone. kinds_leading new_link.number (kind_number new_link.kind) (with_object (tree_now the_call) directory.at.object name new_link)
            scene.elements puts.between
            (λ o there. ap (λ (x : Object). kind_number x.kind) (sym (new_there (tree_now the_call) directory.at.object name new_link o gone there)))
            puts.link.names)
            (λ other o there gone. absurd (new_keeps (tree_now the_call) directory.at.object other name new_link o there gone))
            (λ gone. puts.link.follows open_is (missing gone)) linked

        none : HasSystem scene.volume number.0 → ⊥
        none = no_system scene.volume number.0 (number_gone scene.elements scene.volume scene.view number.0 set.shows is.first.unused)

        -- no element has the number
        unused : IsUnusedNumber number.0 puts.between
        unused x has at = elim (puts.link.steps.writes.came x has) [
          | inl (e, there, key, kind, bytes) ↦ none
              (subst (HasSystem scene.volume) (ap (λ (k : Key). pfs_of k.localization) (sym key) ∙ at)
              (All-contains (λ (z : FullElement). HasSystem scene.volume (pfs_of z.key.localization)) scene.elements e counted.of_systems there))
          | inr come ↦ none (subst (HasSystem scene.volume) (sym come.place ∙ at) in_system)
        ]

        pub system_made : ReadsWords (system_command new word shared) (Parts parts ∷ []) → MakesSystem new shared the_call scene.elements es'
        system_made reads = record {
          between = puts.between;
          tree = tree_linked reads;
          system = subst (λ (n : ℕ). AddsNew new n shared (own_id the_call) puts.between es') (sym taken)
              (subst (λ (i : ℕ). AddsNew new number.0 shared i puts.between es') (sym own_is)
              (puts_adds new number.0 shared id puts.between es' puts.system unused));
        }

  -- from what was written to what each such call makes
  pub writes_systems : (es es' : Option (List Element)) (xs xs' : Option (List Extent))
      → OnScenes hash es xs course (λ scene. HasKnownNumbers numbers scene.elements scene.volume → IsReadyFor scene)
      → Wrote (PutsLinked hash (place_in directory name) spot id new number shared) es xs es' xs'
      → Wrote (MakesSystems hash id numbers new word shared) es xs es' xs'
  writes_systems None es' xs xs' known writes = tt
  writes_systems (Some es) es' None xs' known writes = tt
  writes_systems (Some es) es' (Some xs) xs' known writes = λ balanced. by_content (content_of es' xs') (writes balanced) (known balanced) where
    by_content : (now : Option Lists)
        → IsSomeAnd now (λ now. IsBalanced now.0 now.1
        × PutsLinked hash (place_in directory name) spot id new number shared (fulls (es, xs)) (fulls now))
        → ((volume : Volume) (view : View) → IsSet hash course (scene_in (fulls (es, xs)) volume view course)
        → HasKnownNumbers numbers (fulls (es, xs)) volume → IsReadyFor (scene_in (fulls (es, xs)) volume view course))
        → IsSomeAnd now (λ now. IsBalanced now.0 now.1 × MakesSystems hash id numbers new word shared (fulls (es, xs)) (fulls now))
    by_content None did ready = absurd did
    by_content (Some now) did ready = (
      did.0,
      λ call is asks counted.
          let set = call_set course before is in
          let scene : Scene = scene_in (fulls (es, xs)) call.volume call.view course in
          let reads = subst (λ (c : Command). ReadsWords c call.paths) asks is.words in
          let one = system_paths new word shared parts call.paths path_is reads in
          call_so (system_command new word shared) course (λ c. MakesSystem new shared c (fulls (es, xs)) (fulls now)) is asks
          (subst (λ (ps : List Parsed). MakesSystem new shared (call_in hash (system_command new word shared) ps call.busy scene) (fulls (es, xs)) (fulls now))
          (sym one)
          (system_made scene set (ready call.volume call.view set counted) call.busy counted (fulls now) did.1
          (subst (ReadsWords (system_command new word shared)) one reads))),
    )

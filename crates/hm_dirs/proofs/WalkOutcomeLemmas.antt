-- How walks come out, step by step.
use Rattle.std.proofs.Common.{◌≡◌, ℕ, Bool, true, false, List, [], ◌∷◌, ◌++◌, Option, Some, None, Result, Ok, Err, refl, sym, subst, ◌∙◌, inl, inr}
use Rattle.std.specs.Prelude.{◌==◌, if◌then◌else◌, option_map}
use Rattle.std.specs.Option.{option_map_or}
use Rattle.std.proofs.lemmas.Bool.{eqb-true, eq-eqb, false≢true}
use Rattle.hm_types.specs.declared.id.Id.{Id}
use Rattle.hm_types.specs.declared.id.Obj.{Obj}
use Rattle.hm_types.specs.declared.id.Pfs.{Pfs}
use Rattle.hm_types.specs.declared.object.Object.{Object}
use Rattle.hm_key.specs.Counts.{Counts, inode_subject}
use Rattle.hm_model.specs.View.{When, AsOf, Position as Place, object_at}
use Rattle.hm_model.specs.Volume.{PseudoFileSystem, system_of}
use Rattle.hm_model.specs.Walk.{Passed, Walked, Reaches, Refuses, Follow as Mode, Follows as follows, TakesPfs as takes_pfs, and_then, by_id, by_name}
use Rattle.hm_model.specs.Walk.{enter, find_name, find_object, from_found, is_directory, is_kept, is_seen, linked_in, over_link, root_of, take_pfs}
use Rattle.hm_model.specs.declared.reply.Reply.TheVariants.{NotFound as not_found, NotDir as not_dir, NotRetained as not_retained}
use Rattle.hm_types.specs.Tree.{named_in}
use Rattle.hm_records.specs.Changes.{CountsNothing, HasInode}
use Rattle.hm_records.specs.View.{IsViewOf}
use Rattle.hm_records.specs.declared.inode.Inode.{Inode}
use Rattle.hm_records.specs.declared.kind.TheConstants.{DIRECTORY, PFS_LINK}
use Rattle.hm_volume.specs.Found.{IsFoundBy, IsMadeBy}
use Rattle.hm_dirs.specs.Walk.{ComesOut, EndsAt, WalkGoesOn, Scene, IsDrawn, IsOn, IsRead, IsTaken, IsTold, found_at, is_directory_by, link_by}
use Rattle.hm_dirs.specs.Walk.{place_of, reply_of, when_of}
use Rattle.hm_dirs.specs.declared.position.Lost.{Lost}
use Rattle.hm_dirs.specs.declared.position.Lost.TheVariants.{NotFound, NotDir, NotRetained}
use Rattle.hm_dirs.specs.declared.position.Position.{Position}
use Rattle.hm_dirs.specs.declared.position.Stand.{Stand}
use Rattle.hm_dirs.proofs.WalkLemmas.{IsSound, is_directory_of, is_no_directory, leads_nowhere, leads_to, object_none, object_some}

module _ (scene : Scene) where
  -- ---- from where a walk is

  -- it stays there
  pub stays_on : (mode : Mode) (passed : Passed) (stand : Stand) → IsOn scene passed stand → ComesOut scene mode (Reaches (place_of stand.at) passed) (Ok stand)
  stays_on mode passed stand on = record { place = refl; told = on.told; read = λ _. on.read; known = inl on.read }

  -- it goes on
  pub goes_on : (mode : Mode) (w : Walked) (next : Place → Passed → Walked) (stand : Stand) (walked : Result Stand Lost) → ComesOut scene follows w (Ok stand)
      → WalkGoesOn scene mode next stand walked → ComesOut scene mode (and_then w next) walked
  goes_on mode (Refuses reply passed) next stand walked out on = absurd out
  goes_on mode (Reaches here passed) next stand walked out on =
      subst (λ (p : Place). ComesOut scene mode (next p passed) walked) out.place (on passed (record { told = out.told; read = out.read tt }))

  -- it is lost
  pub lost_on : (before mode : Mode) (w : Walked) (next : Place → Passed → Walked) (lost : Lost) → ComesOut scene before w (Err lost)
      → ComesOut scene mode (and_then w next) (Err lost)
  lost_on before mode (Refuses reply passed) next lost out = out
  lost_on before mode (Reaches here passed) next lost out = absurd out

  -- ---- to an object

  module _ (is : IsSound scene) (at : Position) (as_of : Id) (passed : Bool) (list : Passed) (told : IsTold scene list passed)
      (drawn : IsDrawn scene.course.last at.when) (view : IsViewOf scene.elements at.pfs.0 as_of.0 (scene.view at.pfs.0 (when_of at.when))) where
    pub at_some : (inode : Inode) → HasInode (Counts scene.elements as_of.0) at.pfs.0 at.object.0 inode
        → ComesOut scene follows (found_at scene.view (place_of at) list) (Ok (record { at = at; as_of = as_of; inode = Some inode; passed = passed }))
    at_some inode has =
        let stand : Stand = record { at = at; as_of = as_of; inode = Some inode; passed = passed } in
        let (o, there, made) = object_some scene is (place_of at) as_of.0 view inode has in
        let read : IsRead scene stand = record {
          drawn = drawn;
          view = view;
          inode = subst (λ (found : Option Object). IsFoundBy (Counts scene.elements as_of.0) at.pfs.0 found (Some inode)) (sym there) made;
        } in
        subst (λ (found : Option Object). ComesOut scene follows (option_map_or (λ (_ : Object). Reaches (place_of at) list) found
        (Refuses not_found list)) (Ok stand)) (sym there) (record {
          place = refl;
          told = told;
          read = λ _. read;
          known = inl read;
        })

    pub at_none : CountsNothing (Counts scene.elements as_of.0) (inode_subject at.pfs.0 at.object.0)
        → ComesOut scene follows (found_at scene.view (place_of at) list) (Err NotFound)
    at_none none =
        subst (λ (found : Option Object). ComesOut scene follows (option_map_or (λ (_ : Object). Reaches (place_of at) list) found
        (Refuses not_found list)) (Err NotFound))
        (sym (object_none scene is (place_of at) as_of.0 view none)) refl

  -- what an object that was looked at tells
  pub found_there : (here : Place) (list : Passed) (stand : Stand) → ComesOut scene follows (found_at scene.view here list) (Ok stand)
      → (o : Object) × (object_at scene.view here ≡ Some o) × EndsAt scene follows here list stand
  found_there here list stand out = by_found (object_at scene.view here) refl out where
    by_found : (found : Option Object) → object_at scene.view here ≡ found
        → ComesOut scene follows (option_map_or (λ (_ : Object). Reaches here list) found (Refuses not_found list)) (Ok stand)
        → (o : Object) × (object_at scene.view here ≡ Some o) × EndsAt scene follows here list stand
    by_found None is out = absurd out
    by_found (Some o) is out = (o, is, out)

  pub lost_there : (here : Place) (list : Passed) (lost : Lost) → ComesOut scene follows (found_at scene.view here list) (Err lost)
      → (object_at scene.view here ≡ None) × (not_found ≡ reply_of lost)
  lost_there here list lost out = by_found (object_at scene.view here) refl out where
    by_found : (found : Option Object) → object_at scene.view here ≡ found
        → ComesOut scene follows (option_map_or (λ (_ : Object). Reaches here list) found (Refuses not_found list)) (Err lost)
        → (object_at scene.view here ≡ None) × (not_found ≡ reply_of lost)
    by_found None is out = (is, out)
    by_found (Some o) is out = absurd out

  -- ---- into a PFS

  module _ (pfs : ℕ) (when : When) (list : Passed) where
    abbrev in_pfs : Option PseudoFileSystem → Bool → Walked
    in_pfs system seen =
        option_map_or (λ (_ : PseudoFileSystem). if seen then found_at scene.view (root_of pfs when) (list ++ (pfs, 1) ∷ []) else Refuses not_retained
        (list ++ (pfs, 1) ∷ []))
        system (Refuses not_found list)

    pub enters_none : system_of scene.volume pfs ≡ None → ComesOut scene follows (enter scene.volume scene.view pfs when list) (Err NotFound)
    enters_none none =
        subst (λ (system : Option PseudoFileSystem). ComesOut scene follows (in_pfs system (is_seen scene.volume pfs when)) (Err NotFound)) (sym none) refl

    entered : (s : PseudoFileSystem) (seen : Bool) (walked : Result Stand Lost) → system_of scene.volume pfs ≡ Some s → is_seen scene.volume pfs when ≡ seen
        → ComesOut scene follows (in_pfs (Some s) seen) walked → ComesOut scene follows (enter scene.volume scene.view pfs when list) walked
    entered s seen walked there sees out =
        subst (λ (system : Option PseudoFileSystem). ComesOut scene follows (in_pfs system (is_seen scene.volume pfs when)) walked) (sym there)
        (subst (λ (b : Bool). ComesOut scene follows (in_pfs (Some s) b) walked) (sym sees) out)

    pub enters_unseen : (s : PseudoFileSystem) → system_of scene.volume pfs ≡ Some s → is_seen scene.volume pfs when ≡ false
        → ComesOut scene follows (enter scene.volume scene.view pfs when list) (Err NotRetained)
    enters_unseen s there sees = entered s false (Err NotRetained) there sees refl

    pub enters : (s : PseudoFileSystem) (walked : Result Stand Lost) → system_of scene.volume pfs ≡ Some s → is_seen scene.volume pfs when ≡ true
        → ComesOut scene follows (found_at scene.view (root_of pfs when) (list ++ (pfs, 1) ∷ [])) walked
        → ComesOut scene follows (enter scene.volume scene.view pfs when list) walked
    enters s walked there sees out = entered s true walked there sees out

    abbrev taken : Option PseudoFileSystem → Walked
    taken system = option_map_or (λ (_ : PseudoFileSystem). Reaches (root_of pfs when) list) system (Refuses not_found list)

    pub takes_none : system_of scene.volume pfs ≡ None → ComesOut scene takes_pfs (take_pfs scene.volume pfs when list) (Err NotFound)
    takes_none none = subst (λ (system : Option PseudoFileSystem). ComesOut scene takes_pfs (taken system) (Err NotFound)) (sym none) refl

    pub takes : (s : PseudoFileSystem) (stand : Stand) → system_of scene.volume pfs ≡ Some s → place_of stand.at ≡ root_of pfs when
        → IsTold scene list stand.passed → IsTaken scene stand
        → ComesOut scene takes_pfs (take_pfs scene.volume pfs when list) (Ok stand)
    takes s stand there place told taken_is =
        subst (λ (system : Option PseudoFileSystem). ComesOut scene takes_pfs (taken system) (Ok stand)) (sym there)
        (record { place = place; told = told; read = λ looks. absurd looks; known = inr taken_is })

  -- ---- over a link

  module _ (mode : Mode) (object : Object) (stand : Stand) (walked : Result Stand Lost) where
    abbrev on_link : Option ℕ → Place → Passed → Walked
    on_link leads here passed =
        option_map_or (λ pfs. over_link scene.volume scene.view mode pfs here passed) leads (Reaches here passed)

    pub over : (pfs : ℕ) → linked_in object.content ≡ Some pfs → WalkGoesOn scene mode (over_link scene.volume scene.view mode pfs) stand walked
        → WalkGoesOn scene mode (from_found scene.volume scene.view mode object) stand walked
    over pfs leads on = λ passed is.
        subst (λ (o : Option ℕ). ComesOut scene mode (on_link o (place_of stand.at) passed) walked) (sym leads) (on passed is)

  pub no_link : (mode : Mode) (object : Object) (stand : Stand) → linked_in object.content ≡ None
      → WalkGoesOn scene mode (from_found scene.volume scene.view mode object) stand (Ok stand)
  no_link mode object stand none = λ passed is.
      subst (λ (o : Option ℕ). ComesOut scene mode (on_link mode object stand (Ok stand) o (place_of stand.at) passed) (Ok stand)) (sym none)
      (stays_on mode passed stand is)

  -- ---- to an object by its number

  module _ (mode : Mode) (here : Place) (passed : Passed) (walked : Result Stand Lost) where
    abbrev to_found : Option Object → Walked
    to_found found =
        option_map_or (λ (object : Object). from_found scene.volume scene.view mode object here (passed ++ (here.pfs, here.object.0) ∷ [])) found
        (Refuses not_found passed)

    pub finds : (stand : Stand) → ComesOut scene follows (found_at scene.view here (passed ++ (here.pfs, here.object.0) ∷ [])) (Ok stand)
        → ((object : Object) → object_at scene.view (place_of stand.at) ≡ Some object → WalkGoesOn scene mode
        (from_found scene.volume scene.view mode object) stand walked)
        → ComesOut scene mode (find_object scene.volume scene.view mode here passed) walked
    finds stand out on =
        let (o, there, ends) = found_there here (passed ++ (here.pfs, here.object.0) ∷ []) stand out in
        let goes : ComesOut scene mode (from_found scene.volume scene.view mode o (place_of stand.at) (passed ++ (here.pfs, here.object.0) ∷ [])) walked =
        on o (subst (λ (p : Place). object_at scene.view p ≡ Some o) (sym ends.place) there) (passed ++ (here.pfs, here.object.0) ∷ [])
        (record { told = ends.told; read = ends.read tt }) in
        subst (λ (found : Option Object). ComesOut scene mode (to_found found) walked) (sym there)
        (subst (λ (p : Place). ComesOut scene mode (from_found scene.volume scene.view mode o p
        (passed ++ (here.pfs, here.object.0) ∷ [])) walked) ends.place goes)

  pub finds_none : (mode : Mode) (here : Place) (passed list : Passed) (lost : Lost) → ComesOut scene follows (found_at scene.view here list) (Err lost)
      → ComesOut scene mode (find_object scene.volume scene.view mode here passed) (Err lost)
  finds_none mode here passed list lost out =
      let (none, reply) = lost_there here list lost out in
      subst (λ (found : Option Object). ComesOut scene mode (to_found mode here passed (Err lost) found) (Err lost)) (sym none) reply

  -- ---- to a name

  module _ (mode : Mode) (name : List ℕ) (here : Place) (passed : Passed) (walked : Result Stand Lost) where
    abbrev to_number : Option Obj → Walked
    to_number found =
        option_map_or (λ (number : Obj). find_object scene.volume scene.view mode (record here { object = number }) passed) found (Refuses not_found passed)

    pub names : (object : Obj) → named_in (scene.view here.pfs here.when) here.object name ≡ Some object
        → ComesOut scene mode (find_object scene.volume scene.view mode (record here { object = object }) passed) walked
        → ComesOut scene mode (find_name scene.volume scene.view mode name here passed) walked
    names object there out = subst (λ (found : Option Obj). ComesOut scene mode (to_number found) walked) (sym there) out

    abbrev in_directory : Bool → Walked
    in_directory directory = if directory then find_name scene.volume scene.view mode name here passed else Refuses not_dir passed

    pub in_one : option_map_or is_directory (object_at scene.view here) false ≡ true
        → ComesOut scene mode (find_name scene.volume scene.view mode name here passed) walked
        → ComesOut scene mode (by_name scene.volume scene.view mode (Some name) here passed) walked
    in_one directory out = subst (λ (b : Bool). ComesOut scene mode (in_directory b) walked) (sym directory) out

  pub names_none : (mode : Mode) (name : List ℕ) (here : Place) (passed : Passed) → named_in (scene.view here.pfs here.when) here.object name ≡ None
      → ComesOut scene mode (find_name scene.volume scene.view mode name here passed) (Err NotFound)
  names_none mode name here passed none =
      subst (λ (found : Option Obj). ComesOut scene mode (to_number mode name here passed (Err NotFound) found) (Err NotFound)) (sym none) refl

  pub in_none : (mode : Mode) (name : List ℕ) (here : Place) (passed : Passed) → option_map_or is_directory (object_at scene.view here) false ≡ false
      → ComesOut scene mode (by_name scene.volume scene.view mode (Some name) here passed) (Err NotDir)
  in_none mode name here passed directory =
      subst (λ (b : Bool). ComesOut scene mode (in_directory mode name here passed (Err NotDir) b) (Err NotDir)) (sym directory) refl

  -- whether the object in hand is a directory
  pub directory_here : (stand : Stand) → IsRead scene stand → option_map_or is_directory
      (object_at scene.view (place_of stand.at)) false ≡ is_directory_by stand.inode
  directory_here stand read = by_both (object_at scene.view (place_of stand.at)) stand.inode read.inode where
    by_test : (inode : Inode) (o : Object) (b : Bool) → (inode.kind == DIRECTORY) ≡ b → IsMadeBy (Counts scene.elements stand.as_of.0) stand.at.pfs.0 inode o
        → is_directory o ≡ b
    by_test inode o true is made = is_directory_of (Counts scene.elements stand.as_of.0) stand.at.pfs.0 inode o made (eqb-true inode.kind DIRECTORY is)
    by_test inode o false is made =
        is_no_directory (Counts scene.elements stand.as_of.0) stand.at.pfs.0 inode o made (λ same. false≢true (sym is ∙ eq-eqb inode.kind DIRECTORY same))

    by_both : (found : Option Object) (i : Option Inode) → IsFoundBy (Counts scene.elements stand.as_of.0) stand.at.pfs.0 found i
        → option_map_or is_directory found false ≡ is_directory_by i
    by_both None None made = refl
    by_both None (Some inode) made = absurd made
    by_both (Some o) None made = absurd made
    by_both (Some o) (Some inode) made = by_test inode o (inode.kind == DIRECTORY) refl made

  -- and whether it is a link
  pub link_here : (stand : Stand) (object : Object) → IsRead scene stand → object_at scene.view (place_of stand.at) ≡ Some object
      → linked_in object.content ≡ option_map (λ (pfs : Pfs). pfs.0) (link_by stand.inode)
  link_here stand object read there =
      by_inode stand.inode (subst (λ (o : Option Object). IsFoundBy (Counts scene.elements stand.as_of.0) stand.at.pfs.0 o stand.inode) there read.inode)
    where
      by_test : (inode : Inode) (b : Bool) → (inode.kind == PFS_LINK) ≡ b → IsMadeBy (Counts scene.elements stand.as_of.0) stand.at.pfs.0 inode object
          → linked_in object.content ≡ option_map (λ (pfs : Pfs). pfs.0) (if b then Some inode.pfs else None)
      by_test inode true is made = leads_to (Counts scene.elements stand.as_of.0) stand.at.pfs.0 inode object made (eqb-true inode.kind PFS_LINK is)
      by_test inode false is made =
          leads_nowhere (Counts scene.elements stand.as_of.0) stand.at.pfs.0 inode object made (λ same. false≢true (sym is ∙ eq-eqb inode.kind PFS_LINK same))

      by_inode : (i : Option Inode) → IsFoundBy (Counts scene.elements stand.as_of.0) stand.at.pfs.0 (Some object) i
          → linked_in object.content ≡ option_map (λ (pfs : Pfs). pfs.0) (link_by i)
      by_inode None found = absurd found
      by_inode (Some inode) made = by_test inode (inode.kind == PFS_LINK) refl made

  -- ---- as of an id

  module _ (id : Id) (here : Place) (passed : Passed) (walked : Result Stand Lost) where
    abbrev kept_then : Bool → Walked
    kept_then kept = if kept then found_at scene.view (record here { when = AsOf id.0 }) passed else Refuses not_retained passed

    pub sees : is_kept scene.volume here.pfs id.0 ≡ true → ComesOut scene follows (found_at scene.view (record here { when = AsOf id.0 }) passed) walked
        → ComesOut scene follows (by_id scene.volume scene.view (Some id) here passed) walked
    sees kept out = subst (λ (b : Bool). ComesOut scene follows (kept_then b) walked) (sym kept) out

  pub sees_none : (id : Id) (here : Place) (passed : Passed) → is_kept scene.volume here.pfs id.0 ≡ false
      → ComesOut scene follows (by_id scene.volume scene.view (Some id) here passed) (Err NotRetained)
  sees_none id here passed kept = subst (λ (b : Bool). ComesOut scene follows (kept_then id here passed (Err NotRetained) b) (Err NotRetained)) (sym kept) refl

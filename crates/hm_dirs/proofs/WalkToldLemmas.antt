-- How walks come out over what a store tells.
use Rattle.std.proofs.Common.{◌≡◌, ℕ, ◌^◌, arith, Bool, true, false, List, [], ◌∷◌, ◌++◌, Option, Some, None, Result, Ok, Err, refl, sym, ap, subst}
use Rattle.std.proofs.Common.{◌∙◌, inl, unwrap_or}
use Rattle.std.specs.Prelude.{◌||◌, IfOk, IfSome, option_map}
use Rattle.hm_types.specs.Elements.{FullElement}
use Rattle.hm_types.specs.Intervals.{Keeps, open_end}
use Rattle.hm_types.specs.declared.fault.Fault.{Fault}
use Rattle.hm_types.specs.declared.id.Id.{Id}
use Rattle.hm_types.specs.declared.id.Obj.{Obj}
use Rattle.hm_types.specs.declared.id.Pfs.{Pfs}
use Rattle.hm_types.specs.declared.object.Object.{Object}
use Rattle.hm_key.specs.Counts.{Counts, IsRecordOf, inode_subject}
use Rattle.hm_key.specs.Elements.{IsContent}
use Rattle.hm_key.specs.Versions.{IsBelow}
use Rattle.hm_key.specs.Extents.{Extent}
use Rattle.hm_key.specs.declared.element.Element.{Element}
use Rattle.hm_model.specs.View.{Now, Position as Place, object_at}
use Rattle.hm_model.specs.Walk.{Passed, Stays as stays, Follows as follows, TakesPfs as takes_pfs, by_id, by_name, enter, find_name}
use Rattle.hm_model.specs.Walk.{find_object, from_found, over_link, root_of, start, take_pfs}
use Rattle.hm_records.specs.Changes.{CountsNothing, HasInode, LacksName}
use Rattle.hm_records.specs.KeysFit.{KeysFit}
use Rattle.hm_records.specs.PfsRecord.{IsPfsRecord, pfs_bytes}
use Rattle.hm_records.proofs.CountsLemmas.{record_counts}
use Rattle.hm_records.specs.View.{IsViewOf}
use Rattle.hm_records.specs.declared.inode.Inode.{Inode}
use Rattle.hm_records.specs.declared.pfs_record.PfsRecord.{PfsRecord}
use Rattle.hm_volume.specs.Found.{IsFoundBy}
use Rattle.hm_cursor.specs.Told.{IsInodeThen, IsRecordNow, Lists, OnBalanced, fulls}
use Rattle.hm_cursor.specs.Names.{IsFirstEntry}
use Rattle.hm_dirs.specs.Names.{IsLookedUp, OnNamed}
use Rattle.hm_dirs.specs.Walk.{ComesOut, EndsAt, WalkGoesOn, IsDrawn, IsSeenAs, IsShownAs, IsTaken, IsTold, OnShown, Scene, found_at}
use Rattle.hm_dirs.specs.Walk.{is_directory_by, is_watched, link_by, mode_of, place_of, root_at, shown_by, when_of}
use Rattle.hm_dirs.specs.declared.position.Course.{Course}
use Rattle.hm_dirs.specs.declared.position.Follow.{Follow}
use Rattle.hm_dirs.specs.declared.position.Follow.TheVariants.{Stays, Follows, TakesPfs}
use Rattle.hm_dirs.specs.declared.position.Lost.{Lost}
use Rattle.hm_dirs.specs.declared.position.Lost.TheVariants.{NotFound, NotDir, NotRetained}
use Rattle.hm_dirs.specs.declared.position.Position.{Position}
use Rattle.hm_dirs.specs.declared.position.Stand.{Stand}
use Rattle.hm_dirs.proofs.WalkLemmas.{IsSound, is_seen_then, is_unseen, its_system, kept, no_system, kept_none, not_kept, nothing_told, number_none}
use Rattle.hm_dirs.proofs.WalkLemmas.{number_some, object_none, object_some, shown, shown_both, shown_next, told_more, told_still, view_none}
use Rattle.hm_dirs.proofs.WalkLemmas.{view_now, view_kept, view_seen}
use Rattle.hm_dirs.proofs.WalkOutcomeLemmas.{at_none, at_some, directory_here, enters, enters_none, enters_unseen, finds, finds_none}
use Rattle.hm_dirs.proofs.WalkOutcomeLemmas.{in_none, in_one, link_here, names, names_none, no_link, over, sees, sees_none, stays_on, takes}
use Rattle.hm_dirs.proofs.WalkOutcomeLemmas.{takes_none}

-- from what a call that succeeds answers to what the caller does
pub if_ok : {X E : Type 0} (A B : X → Type 0) (result : Result X E) → ((x : X) → A x → B x) → IfOk result A → IfOk result B
if_ok A B (Ok x) next is = next x is
if_ok A B (Err e) next is = tt

pub if_all : {X E C : Type 0} (A : C → X → Type 0) (result : Result X E) → ((c : C) → IfOk result (A c)) → IfOk result (λ x. (c : C) → A c x)
if_all A (Ok x) each = each
if_all A (Err e) each = tt

-- ---- what is told of an inode and of a record, by the elements alone

abbrev InodeIs : ℕ → ℕ → ℕ → Option Inode → List FullElement → Type 0
InodeIs t pfs obj None list = CountsNothing (Counts list t) (inode_subject pfs obj)
InodeIs t pfs obj (Some inode) list = HasInode (Counts list t) pfs obj inode

abbrev RecordAmong : ℕ → Option PfsRecord → List FullElement → Type 0
RecordAmong pfs None list = (bytes : List ℕ) → IsRecordOf list pfs bytes → ⊥
RecordAmong pfs (Some r) list = IsPfsRecord r × IsRecordOf list pfs (pfs_bytes r)

-- of a record where each id fits its field
abbrev RecordIs : ℕ → Option PfsRecord → List FullElement → Type 0
RecordIs pfs r list = IsBelow (2 ^ 64) list → RecordAmong pfs r list

record_among : (pfs : ℕ) (r : Option PfsRecord) (lists : Lists) → IsRecordNow lists pfs r → RecordIs pfs r (fulls lists)
record_among pfs None lists none below = λ bytes has. none bytes ((record_counts (fulls lists) pfs (2 ^ 64) open_end bytes below (omega arith)).0 has)
record_among pfs (Some r) lists now below =
    (now.0, (record_counts (fulls lists) pfs (2 ^ 64) open_end (pfs_bytes r) below (omega arith)).1 now.1)

-- what follows for all lists follows where they are told
told_so : (es : Option (List Element)) (xs : Option (List Extent)) (A B : Lists → Type 0) → ((lists : Lists) → A lists → B lists) → OnBalanced es xs A
    → OnBalanced es xs B
told_so None xs A B step told = tt
told_so (Some es) None A B step told = tt
told_so (Some es) (Some xs) A B step told = λ balanced. step (es, xs) (told balanced)

abbrev EntryIs : ℕ → ℕ → Obj → List ℕ → Option (ℕ × Obj) → List FullElement → Type 0
EntryIs t pfs directory name None list = LacksName (Counts list t) pfs directory name
EntryIs t pfs directory name (Some found) list = IsFirstEntry (Counts list t) pfs directory name found.0 found.1

abbrev WhereNamed : (List ℕ → ℕ) → ℕ → ℕ → Obj → List ℕ → Option (ℕ × Obj) → List FullElement → Type 0
WhereNamed hash t pfs directory name found list = KeysFit hash list → EntryIs t pfs directory name found list

module _ (es : Option (List Element)) (xs : Option (List Extent)) where
  inode_told : (t pfs obj : ℕ) (inode : Option Inode) → OnBalanced es xs (λ lists. IsInodeThen lists t pfs obj inode)
      → OnBalanced es xs (λ lists. InodeIs t pfs obj inode (fulls lists))
  inode_told t pfs obj None told = told
  inode_told t pfs obj (Some inode) told = told

  record_told : (pfs : ℕ) (r : Option PfsRecord) → OnBalanced es xs (λ lists. IsRecordNow lists pfs r)
      → OnBalanced es xs (λ lists. RecordIs pfs r (fulls lists))
  record_told pfs r told =
      told_so es xs (λ lists. IsRecordNow lists pfs r) (λ lists. RecordIs pfs r (fulls lists)) (λ lists now. record_among pfs r lists now) told

  entry_told : (hash : List ℕ → ℕ) (t pfs : ℕ) (directory : Obj) (name : List ℕ) (found : Option (ℕ × Obj)) → OnNamed hash es xs
      (IsLookedUp t pfs directory name found)
      → OnBalanced es xs (λ lists. WhereNamed hash t pfs directory name found (fulls lists))
  entry_told hash t pfs directory name None told = told
  entry_told hash t pfs directory name (Some found) told = told

both_told : (es : Option (List Element)) (xs : Option (List Extent)) (A B : List FullElement → Type 0) → OnBalanced es xs (λ lists. A (fulls lists))
    → OnBalanced es xs (λ lists. B (fulls lists)) → OnBalanced es xs (λ lists. A (fulls lists) × B (fulls lists))
both_told None xs A B a b = tt
both_told (Some es) None A B a b = tt
both_told (Some es) (Some xs) A B a b = λ balanced. (a balanced, b balanced)

-- what is known of a place by the inode that was found
found_by : (scene : Scene) → IsSound scene → (at : Place) (t : ℕ) (inode : Option Inode) → IsViewOf scene.elements at.pfs t (scene.view at.pfs at.when)
    → InodeIs t at.pfs at.object.0 inode scene.elements → IsFoundBy (Counts scene.elements t) at.pfs (object_at scene.view at) inode
found_by scene is at t None view none =
    subst (λ (o : Option Object). IsFoundBy (Counts scene.elements t) at.pfs o None) (sym (object_none scene is at t view none)) tt
found_by scene is at t (Some inode) view has =
    let (o, there, made) = object_some scene is at t view inode has in
    subst (λ (o : Option Object). IsFoundBy (Counts scene.elements t) at.pfs o (Some inode)) (sym there) made

-- ---- to an object

abbrev pub Looked : Position → Id → Bool → Result Stand Lost → Scene → Type 0
Looked at as_of passed walked scene =
    (list : Passed) → IsTold scene list passed → IsDrawn scene.course.last at.when
    → IsViewOf scene.elements at.pfs.0 as_of.0 (scene.view at.pfs.0 (when_of at.when))
    → ComesOut scene follows (found_at scene.view (place_of at) list) walked

abbrev pub Entered : Pfs → Option Id → Bool → Result Stand Lost → Scene → Type 0
Entered pfs when passed walked scene =
    (list : Passed) → IsTold scene list passed → IsDrawn scene.course.last when
    → ComesOut scene follows (enter scene.volume scene.view pfs.0 (when_of when) list) walked

abbrev pub Taken : Pfs → Option Id → Bool → Result Stand Lost → Scene → Type 0
Taken pfs when passed walked scene =
    (list : Passed) → IsTold scene list passed → ComesOut scene takes_pfs (take_pfs scene.volume pfs.0 (when_of when) list) walked

abbrev pub Led : Follow → Pfs → Stand → Result Stand Lost → Scene → Type 0
Led choice pfs stand walked scene = WalkGoesOn scene (mode_of choice) (over_link scene.volume scene.view (mode_of choice) pfs.0) stand walked

abbrev pub Gone : Follow → Stand → Result Stand Lost → Scene → Type 0
Gone choice stand walked scene =
    (object : Object) → object_at scene.view (place_of stand.at) ≡ Some object
    → WalkGoesOn scene (mode_of choice) (from_found scene.volume scene.view (mode_of choice) object) stand walked

abbrev pub ToObject : Follow → Obj → Stand → Result Stand Lost → Scene → Type 0
ToObject choice object stand walked scene =
    WalkGoesOn scene (mode_of choice) (λ here. find_object scene.volume scene.view (mode_of choice) (record here { object = object })) stand walked

abbrev pub ToName : (List ℕ → ℕ) → Follow → List ℕ → Stand → Result Stand Lost → Scene → Type 0
ToName hash choice name stand walked scene =
    KeysFit hash scene.elements → WalkGoesOn scene (mode_of choice) (find_name scene.volume scene.view (mode_of choice) name) stand walked

abbrev pub ByName : (List ℕ → ℕ) → Follow → Option (List ℕ) → Stand → Result Stand Lost → Scene → Type 0
ByName hash choice name stand walked scene =
    KeysFit hash scene.elements → WalkGoesOn scene (mode_of choice) (by_name scene.volume scene.view (mode_of choice) name) stand walked

abbrev pub ById : Option Id → Stand → Result Stand Lost → Scene → Type 0
ById as_of stand walked scene = IsDrawn scene.course.last as_of → WalkGoesOn scene follows (by_id scene.volume scene.view as_of) stand walked

module _ (es : Option (List Element)) (xs : Option (List Extent)) (course : Course) (content : IfSome es IsContent) where
  pub looked_some : (at : Position) (as_of : Id) (passed : Bool) (inode : Inode) (found : Option Inode)
      → OnBalanced es xs (λ lists. IsInodeThen lists as_of.0 at.pfs.0 at.object.0 found) → found ≡ Some inode
      → OnShown es xs course (Looked at as_of passed (Ok (record { at = at; as_of = as_of; inode = Some inode; passed = passed })))
  looked_some at as_of passed inode found told is =
      shown es xs course (InodeIs as_of.0 at.pfs.0 at.object.0 (Some inode))
      (Looked at as_of passed (Ok (record { at = at; as_of = as_of; inode = Some inode; passed = passed }))) content
      (inode_told es xs as_of.0 at.pfs.0 at.object.0 (Some inode)
      (subst (λ (o : Option Inode). OnBalanced es xs (λ lists. IsInodeThen lists as_of.0 at.pfs.0 at.object.0 o)) is told))
      (λ scene sound asked has list told drawn view. at_some scene sound at as_of passed list told drawn view inode has)

  pub looked_none : (at : Position) (as_of : Id) (passed : Bool) (found : Option Inode)
      → OnBalanced es xs (λ lists. IsInodeThen lists as_of.0 at.pfs.0 at.object.0 found) → found ≡ None
      → OnShown es xs course (Looked at as_of passed (Err NotFound))
  looked_none at as_of passed found told is =
      shown es xs course (InodeIs as_of.0 at.pfs.0 at.object.0 None) (Looked at as_of passed (Err NotFound)) content
      (inode_told es xs as_of.0 at.pfs.0 at.object.0 None
      (subst (λ (o : Option Inode). OnBalanced es xs (λ lists. IsInodeThen lists as_of.0 at.pfs.0 at.object.0 o)) is told))
      (λ scene sound asked has list told drawn view. at_none scene sound at as_of passed list told drawn view has)

  -- ---- the start

  first_view : (scene : Scene) → IsSound scene → (first : Option PfsRecord) (as_of : ℕ) → RecordIs 0 first scene.elements
      → IsShownAs scene.course.last.0 first as_of → IsViewOf scene.elements 0 as_of (scene.view 0 Now)
  first_view scene is None as_of none at =
      subst (λ (t : ℕ). IsViewOf scene.elements 0 t (scene.view 0 Now)) (sym at) (view_none scene 0 Now is (no_system scene is 0 (none is.shows.ids)))
  first_view scene is (Some r) as_of has at =
      subst (λ (t : ℕ). IsViewOf scene.elements 0 t (scene.view 0 Now)) (sym at) (view_now scene is 0 r (has is.shows.ids))

  pub started : (first : Option PfsRecord) (as_of : Id) (at : Position) (inode : Option Inode) (passed : Bool) (es' : Option (List Element))
      (xs' : Option (List Extent))
      → es' ≡ es → xs' ≡ xs → OnBalanced es xs (λ lists. IsRecordNow lists 0 first) → IsShownAs course.last.0 first as_of.0
      → at ≡ root_at (record { 0 = 0 }) None → OnBalanced es' xs' (λ lists. IsInodeThen lists as_of.0 at.pfs.0 at.object.0 inode)
      → passed ≡ (false || is_watched course.watch (at.pfs.0, at.object.0))
      → OnShown es xs course (λ scene. EndsAt scene follows start ((0, 1) ∷ []) (record { at = at; as_of = as_of; inode = inode; passed = passed }))
  started first as_of at inode passed es' xs' same same' told shows root found is =
      subst (λ (p : Position). OnShown es xs course (λ scene. EndsAt scene follows start ((0, 1) ∷ [])
      (record { at = p; as_of = as_of; inode = inode; passed = passed })))
      (sym root) (by_root (subst (λ (p : Position). OnBalanced es' xs' (λ lists. IsInodeThen lists as_of.0 p.pfs.0 p.object.0 inode)) root found)
      (subst (λ (p : Position). passed ≡ (false || is_watched course.watch (p.pfs.0, p.object.0))) root is))
    where
      by_root : OnBalanced es' xs' (λ lists. IsInodeThen lists as_of.0 0 1 inode) → passed ≡ (false || is_watched course.watch (0, 1))
          → OnShown es xs course (λ scene. EndsAt scene follows start ((0, 1) ∷ [])
          (record { at = root_at (record { 0 = 0 }) None; as_of = as_of; inode = inode; passed = passed }))
      by_root found is =
          shown es xs course (λ list. RecordIs 0 first list × InodeIs as_of.0 0 1 inode list)
          (λ scene. EndsAt scene follows start ((0, 1) ∷ []) (record {
            at = root_at
                (record { 0 = 0 }) None;
            as_of = as_of;
            inode = inode;
            passed = passed;
          })) content
          (both_told es xs (RecordIs 0 first) (InodeIs as_of.0 0 1 inode) (record_told es xs 0 first told)
          (inode_told es xs as_of.0 0 1 inode (told_still es es' xs xs' (λ lists. IsInodeThen lists as_of.0 0 1 inode) same same' found)))
          (λ scene sound asked has.
          let view : IsViewOf scene.elements 0 as_of.0 (scene.view 0 Now) =
          first_view scene sound first as_of.0 has.0 (subst (λ (c : Course). IsShownAs c.last.0 first as_of.0) (sym asked) shows) in
          let found = found_by scene sound (root_of 0 Now) as_of.0 inode view has.1 in
          record {
            place = refl;
            told = subst (λ (c : Course). passed ≡ (is_watched c.watch (0, 1) || false)) (sym asked) (is ∙ or_false (is_watched course.watch (0, 1)));
            read = λ _. record { drawn = tt; view = view; inode = found };
            known = inl (record { drawn = tt; view = view; inode = found });
          })
        where
          or_false : (b : Bool) → b ≡ (b || false)
          or_false true = refl
          or_false false = refl

  -- ---- into a PFS

  pub entered_none : (pfs : Pfs) (when : Option Id) (passed : Bool) (found : Option PfsRecord) → OnBalanced es xs (λ lists. IsRecordNow lists pfs.0 found)
      → found ≡ None → OnShown es xs course (Entered pfs when passed (Err NotFound))
  entered_none pfs when passed found told is =
      shown es xs course (RecordIs pfs.0 None) (Entered pfs when passed (Err NotFound)) content
      (record_told es xs pfs.0 None (subst (λ (o : Option PfsRecord). OnBalanced es xs (λ lists. IsRecordNow lists pfs.0 o)) is told))
      (λ scene sound asked none list told drawn. enters_none scene pfs.0 (when_of when) list (no_system scene sound pfs.0 (none sound.shows.ids)))

  record_some : (pfs : ℕ) (r : PfsRecord) (found : Option PfsRecord) → OnBalanced es xs (λ lists. IsRecordNow lists pfs found) → found ≡ Some r
      → OnBalanced es xs (λ lists. RecordIs pfs (Some r) (fulls lists))
  record_some pfs r found told is = record_told es xs pfs (Some r)
      (subst (λ (o : Option PfsRecord). OnBalanced es xs (λ lists. IsRecordNow lists pfs o)) is told)

  pub entered_unseen : (pfs : Pfs) (when : Option Id) (passed : Bool) (found : Option PfsRecord) (r : PfsRecord)
      → OnBalanced es xs (λ lists. IsRecordNow lists pfs.0 found) → found ≡ Some r → IsSeenAs course.last.0 r when None
      → OnShown es xs course (Entered pfs when passed (Err NotRetained))
  entered_unseen pfs when passed found r told is unseen =
      shown es xs course (RecordIs pfs.0 (Some r)) (Entered pfs when passed (Err NotRetained)) content (record_some pfs.0 r found told is)
      (λ scene sound asked has list told drawn.
      let (s, there, for) = its_system scene sound pfs.0 r (has sound.shows.ids) in
      enters_unseen scene pfs.0 (when_of when) list s there
      (is_unseen scene sound pfs.0 r (has sound.shows.ids) when (subst (λ (c : Course). IsSeenAs c.last.0 r when None) (sym asked) unseen)))

  pub entered : (pfs : Pfs) (when : Option Id) (passed told_more' : Bool) (found : Option PfsRecord) (r : PfsRecord) (as_of : Id) (at : Position)
      (es' : Option (List Element)) (xs' : Option (List Extent)) (result : Result (Result Stand Lost) Fault)
      → es' ≡ es → xs' ≡ xs → OnBalanced es xs (λ lists. IsRecordNow lists pfs.0 found) → found ≡ Some r → IsSeenAs course.last.0 r when (Some as_of)
      → at ≡ root_at pfs when → told_more' ≡ (passed || is_watched course.watch (at.pfs.0, at.object.0))
      → IfOk result (λ walked. (c : Course) → OnShown es' xs' c (Looked at as_of told_more' walked))
      → IfOk result (λ walked. OnShown es xs course (Entered pfs when passed walked))
  entered pfs when passed more found r as_of at es' xs' result same same' told is seen root watched looked =
      by_root (subst (λ (p : Position). more ≡ (passed || is_watched course.watch (p.pfs.0, p.object.0))) root watched)
      (subst (λ (p : Position). IfOk result (λ walked. (c : Course) → OnShown es' xs' c (Looked p as_of more walked))) root looked)
    where
      by_root : more ≡ (passed || is_watched course.watch (pfs.0, 1)) → IfOk result
          (λ walked. (c : Course) → OnShown es' xs' c (Looked (root_at pfs when) as_of more walked))
          → IfOk result (λ walked. OnShown es xs course (Entered pfs when passed walked))
      by_root watched looked =
          if_ok (λ walked. (c : Course) → OnShown es' xs' c (Looked (root_at pfs when) as_of more walked))
          (λ walked. OnShown es xs course (Entered pfs when passed walked)) result
          (λ walked here.
          shown_next es es' xs xs' course (RecordIs pfs.0 (Some r)) (Looked (root_at pfs when) as_of more walked)
          (Entered pfs when passed walked) same same' content
          (record_some pfs.0 r found told is) (here course)
          (λ scene sound asked has looks list told drawn.
          let (s, there, for) = its_system scene sound pfs.0 r (has sound.shows.ids) in
          let seen' : IsSeenAs scene.course.last.0 r when (Some as_of) = subst (λ (c : Course). IsSeenAs c.last.0 r when (Some as_of))
          (sym asked) seen in
          enters scene pfs.0 (when_of when) list s walked there (is_seen_then scene sound pfs.0 r (has sound.shows.ids) when as_of seen')
          (looks (list ++ (pfs.0, 1) ∷ [])
          (told_more scene list passed more (pfs.0, 1) told (subst (λ (c : Course). more ≡ (passed || is_watched c.watch (pfs.0, 1)))
          (sym asked) watched))
          drawn (view_seen scene sound pfs.0 r (has sound.shows.ids) when as_of seen' drawn))))
          looked

  pub taken_none : (pfs : Pfs) (when : Option Id) (passed : Bool) (found : Option PfsRecord) → OnBalanced es xs (λ lists. IsRecordNow lists pfs.0 found)
      → found ≡ None → OnShown es xs course (Taken pfs when passed (Err NotFound))
  taken_none pfs when passed found told is =
      shown es xs course (RecordIs pfs.0 None) (Taken pfs when passed (Err NotFound)) content
      (record_told es xs pfs.0 None (subst (λ (o : Option PfsRecord). OnBalanced es xs (λ lists. IsRecordNow lists pfs.0 o)) is told))
      (λ scene sound asked none list told. takes_none scene pfs.0 (when_of when) list (no_system scene sound pfs.0 (none sound.shows.ids)))

  taken_end : (scene : Scene) → IsSound scene → (pfs : Pfs) (when : Option Id) (r : PfsRecord) (shown : Id) (stand : Stand)
      → IsPfsRecord r × IsRecordOf scene.elements pfs.0 (pfs_bytes r) → stand.at ≡ root_at pfs when → stand.inode ≡ None → stand.as_of ≡ unwrap_or when shown
      → shown.0 ≡ shown_by scene.course.last.0 r → IsTaken scene stand
  taken_end scene sound pfs when r shown stand has root none as_is shows = record {
    inode = none;
    dated = subst (λ (p : Position). IfSome p.when (λ id. stand.as_of ≡ id)) (sym root) (dated when as_is);
    now = λ is.
        subst (λ (p : Position). IsViewOf scene.elements p.pfs.0 stand.as_of.0 (scene.view p.pfs.0 Now)) (sym root)
        (subst (λ (t : ℕ). IsViewOf scene.elements pfs.0 t (scene.view pfs.0 Now)) (sym (now when (ap (λ (p : Position). p.when) (sym root) ∙ is) as_is))
        (view_now scene sound pfs.0 r has));
  } where
    dated : (when : Option Id) → stand.as_of ≡ unwrap_or when shown → IfSome when (λ id. stand.as_of ≡ id)
    dated None is = tt
    dated (Some id) is = is

    now : (when : Option Id) → when ≡ None → stand.as_of ≡ unwrap_or when shown → stand.as_of.0 ≡ shown_by scene.course.last.0 r
    now None none is = ap (λ (t : Id). t.0) is ∙ shows
    now (Some id) none is = absurd (cc)

  pub taken_some : (pfs : Pfs) (when : Option Id) (passed : Bool) (found : Option PfsRecord) (r : PfsRecord) (shown : Id) (stand : Stand)
      → OnBalanced es xs (λ lists. IsRecordNow lists pfs.0 found) → found ≡ Some r → stand.at ≡ root_at pfs when → stand.inode ≡ None
      → stand.as_of ≡ unwrap_or when shown → shown.0 ≡ shown_by course.last.0 r → stand.passed ≡ passed
      → OnShown es xs course (Taken pfs when passed (Ok stand))
  taken_some pfs when passed found r shown_id stand told is root none as_is shows same =
      shown es xs course (RecordIs pfs.0 (Some r)) (Taken pfs when passed (Ok stand)) content (record_some pfs.0 r found told is)
      (λ scene sound asked has list told.
      let (s, there, for) = its_system scene sound pfs.0 r (has sound.shows.ids) in
      takes scene pfs.0 (when_of when) list s stand there (ap place_of root) (same ∙ told)
      (taken_end scene sound pfs when r shown_id stand (has sound.shows.ids) root none as_is
      (subst (λ (c : Course). shown_id.0 ≡ shown_by c.last.0 r) (sym asked) shows)))

  -- ---- over a link

  pub led_stays : (choice : Follow) (pfs : Pfs) (stand : Stand) → choice ≡ Stays → OnShown es xs course (Led choice pfs stand (Ok stand))
  led_stays choice pfs stand is =
      subst (λ (f : Follow). OnShown es xs course (Led f pfs stand (Ok stand))) (sym is)
      (shown es xs course (λ list. Unit {0}) (Led Stays pfs stand (Ok stand)) content (nothing_told es xs)
      (λ scene sound asked _ passed on. stays_on scene stays passed stand on))

  pub led_follows : (choice : Follow) (pfs : Pfs) (stand : Stand) (result : Result (Result Stand Lost) Fault) → choice ≡ Follows
      → IfOk result (λ walked. OnShown es xs course (Entered pfs stand.at.when stand.passed walked)) → IfOk result
      (λ walked. OnShown es xs course (Led choice pfs stand walked))
  led_follows choice pfs stand result is =
      subst (λ (f : Follow). IfOk result (λ walked. OnShown es xs course (Entered pfs stand.at.when stand.passed walked)) → IfOk result
      (λ walked. OnShown es xs course (Led f pfs stand walked)))
      (sym is)
      (if_ok (λ walked. OnShown es xs course (Entered pfs stand.at.when stand.passed walked))
      (λ walked. OnShown es xs course (Led Follows pfs stand walked)) result
      (λ walked here. shown_next es es xs xs course (λ list. Unit {0}) (Entered pfs stand.at.when stand.passed walked)
      (Led Follows pfs stand walked) refl refl content
      (nothing_told es xs) here (λ scene sound asked _ enters passed on. enters passed on.told on.read.drawn)))

  pub led_takes : (choice : Follow) (pfs : Pfs) (stand : Stand) (result : Result (Result Stand Lost) Fault) → choice ≡ TakesPfs
      → IfOk result (λ walked. OnShown es xs course (Taken pfs stand.at.when stand.passed walked)) → IfOk result
      (λ walked. OnShown es xs course (Led choice pfs stand walked))
  led_takes choice pfs stand result is =
      subst (λ (f : Follow). IfOk result (λ walked. OnShown es xs course (Taken pfs stand.at.when stand.passed walked)) → IfOk result
      (λ walked. OnShown es xs course (Led f pfs stand walked)))
      (sym is)
      (if_ok (λ walked. OnShown es xs course (Taken pfs stand.at.when stand.passed walked))
      (λ walked. OnShown es xs course (Led TakesPfs pfs stand walked)) result
      (λ walked here. shown_next es es xs xs course (λ list. Unit {0}) (Taken pfs stand.at.when stand.passed walked)
      (Led TakesPfs pfs stand walked) refl refl content
      (nothing_told es xs) here (λ scene sound asked _ takes passed on. takes passed on.told)))

  -- ---- from what was found

  pub gone_none : (choice : Follow) (stand : Stand) → link_by stand.inode ≡ None → OnShown es xs course (Gone choice stand (Ok stand))
  gone_none choice stand none =
      shown es xs course (λ list. Unit {0}) (Gone choice stand (Ok stand)) content (nothing_told es xs)
      (λ scene sound asked _ object there passed on.
      no_link scene (mode_of choice) object stand (link_here scene stand object on.read there ∙ ap (option_map (λ (p : Pfs). p.0)) none) passed on)

  pub gone_over : (choice : Follow) (stand : Stand) (pfs : Pfs) (result : Result (Result Stand Lost) Fault) → link_by stand.inode ≡ Some pfs
      → IfOk result (λ walked. OnShown es xs course (Led choice pfs stand walked)) → IfOk result (λ walked. OnShown es xs course (Gone choice stand walked))
  gone_over choice stand pfs result leads =
      if_ok (λ walked. OnShown es xs course (Led choice pfs stand walked)) (λ walked. OnShown es xs course (Gone choice stand walked)) result
      (λ walked here. shown_next es es xs xs course (λ list. Unit {0}) (Led choice pfs stand walked) (Gone choice stand walked) refl refl content
      (nothing_told es xs) here
      (λ scene sound asked _ led object there passed on.
      over scene (mode_of choice) object stand walked pfs.0 (link_here scene stand object on.read there ∙ ap
      (option_map (λ (p : Pfs). p.0)) leads) led passed on))

  -- ---- to an object by its number

  pub object_lost : (choice : Follow) (object : Obj) (stand : Stand) (more : Bool) (lost : Lost) (found : Result Stand Lost)
      → more ≡ (stand.passed || is_watched course.watch (stand.at.pfs.0, object.0))
      → ((c : Course) → OnShown es xs c (Looked (record stand.at { object = object }) stand.as_of more found)) → found ≡ Err lost
      → OnShown es xs course (ToObject choice object stand (Err lost))
  object_lost choice object stand more lost found watched looked is =
      shown_next es es xs xs course (λ list. Unit {0}) (Looked (record stand.at { object = object }) stand.as_of more (Err lost))
      (ToObject choice object stand (Err lost))
      refl refl content (nothing_told es xs) (subst (λ (w : Result Stand Lost). OnShown es xs course
      (Looked (record stand.at { object = object }) stand.as_of more w)) is (looked course))
      (λ scene sound asked _ looks passed on.
      finds_none scene (mode_of choice) (record (place_of stand.at) { object = object }) passed (passed ++ (stand.at.pfs.0, object.0) ∷ []) lost
      (looks (passed ++ (stand.at.pfs.0, object.0) ∷ [])
      (told_more scene passed stand.passed more (stand.at.pfs.0, object.0) on.told
      (subst (λ (c : Course). more ≡ (stand.passed || is_watched c.watch (stand.at.pfs.0, object.0))) (sym asked) watched))
      on.read.drawn on.read.view))

  pub object_found : (choice : Follow) (object : Obj) (stand next : Stand) (more : Bool) (found : Result Stand Lost) (es' : Option (List Element))
      (xs' : Option (List Extent))
      (result : Result (Result Stand Lost) Fault) → es' ≡ es → xs' ≡ xs → more ≡ (stand.passed || is_watched course.watch (stand.at.pfs.0, object.0))
      → ((c : Course) → OnShown es xs c (Looked (record stand.at { object = object }) stand.as_of more found)) → found ≡ Ok next
      → IfOk result (λ walked. OnShown es' xs' course (Gone choice next walked)) → IfOk result
      (λ walked. OnShown es xs course (ToObject choice object stand walked))
  object_found choice object stand next more found es' xs' result same same' watched looked is =
      if_ok (λ walked. OnShown es' xs' course (Gone choice next walked)) (λ walked. OnShown es xs course (ToObject choice object stand walked)) result
      (λ walked here. shown_both es es' xs xs' course (Looked (record stand.at { object = object }) stand.as_of more (Ok next)) (Gone choice next walked)
      (ToObject choice object stand walked)
      same same' content (subst (λ (w : Result Stand Lost). OnShown es xs course (Looked (record stand.at { object = object }) stand.as_of more w)) is
      (looked course)) here
      (λ scene sound asked looks gone passed on.
      finds scene (mode_of choice) (record (place_of stand.at) { object = object }) passed walked next
      (looks (passed ++ (stand.at.pfs.0, object.0) ∷ [])
      (told_more scene passed stand.passed more (stand.at.pfs.0, object.0) on.told
      (subst (λ (c : Course). more ≡ (stand.passed || is_watched c.watch (stand.at.pfs.0, object.0))) (sym asked) watched))
      on.read.drawn on.read.view) gone))

  -- ---- to a name

  pub name_none : (hash : List ℕ → ℕ) (choice : Follow) (name : List ℕ) (stand : Stand) (found : Option (ℕ × Obj))
      → OnNamed hash es xs (IsLookedUp stand.as_of.0 stand.at.pfs.0 stand.at.object name found) → found ≡ None
      → OnShown es xs course (ToName hash choice name stand (Err NotFound))
  name_none hash choice name stand found told is =
      shown es xs course (WhereNamed hash stand.as_of.0 stand.at.pfs.0 stand.at.object name None) (ToName hash choice name stand (Err NotFound)) content
      (entry_told es xs hash stand.as_of.0 stand.at.pfs.0 stand.at.object name None
      (subst (λ (o : Option (ℕ × Obj)). OnNamed hash es xs (IsLookedUp stand.as_of.0 stand.at.pfs.0 stand.at.object name o)) is told))
      (λ scene sound asked looks fit passed on.
      names_none scene (mode_of choice) name (place_of stand.at) passed
      (number_none scene sound (place_of stand.at) stand.as_of.0 on.read.view name (looks fit)))

  pub name_some : (hash : List ℕ → ℕ) (choice : Follow) (name : List ℕ) (stand : Stand) (key : ℕ) (object : Obj) (found : Option (ℕ × Obj))
      (es' : Option (List Element)) (xs' : Option (List Extent))
      (result : Result (Result Stand Lost) Fault) → es' ≡ es → xs' ≡ xs
      → OnNamed hash es xs (IsLookedUp stand.as_of.0 stand.at.pfs.0 stand.at.object name found) → found ≡ Some (key, object)
      → IfOk result (λ walked. OnShown es' xs' course (ToObject choice object stand walked)) → IfOk result
      (λ walked. OnShown es xs course (ToName hash choice name stand walked))
  name_some hash choice name stand key object found es' xs' result same same' told is =
      if_ok (λ walked. OnShown es' xs' course (ToObject choice object stand walked))
      (λ walked. OnShown es xs course (ToName hash choice name stand walked)) result
      (λ walked here. shown_next es es' xs xs' course (WhereNamed hash stand.as_of.0 stand.at.pfs.0 stand.at.object name (Some (key, object)))
      (ToObject choice object stand walked)
      (ToName hash choice name stand walked) same same' content
      (entry_told es xs hash stand.as_of.0 stand.at.pfs.0 stand.at.object name (Some (key, object))
      (subst (λ (o : Option (ℕ × Obj)). OnNamed hash es xs (IsLookedUp stand.as_of.0 stand.at.pfs.0 stand.at.object name o)) is told)) here
      (λ scene sound asked looks goes fit passed on.
      names scene (mode_of choice) name (place_of stand.at) passed walked object
      (number_some scene sound (place_of stand.at) stand.as_of.0 on.read.view name key object (looks fit)) (goes passed on)))

  pub unnamed : (hash : List ℕ → ℕ) (choice : Follow) (name : Option (List ℕ)) (stand : Stand) → name ≡ None → OnShown es xs course
      (ByName hash choice name stand (Ok stand))
  unnamed hash choice name stand is =
      subst (λ (n : Option (List ℕ)). OnShown es xs course (ByName hash choice n stand (Ok stand))) (sym is)
      (shown es xs course (λ list. Unit {0}) (ByName hash choice None stand (Ok stand)) content (nothing_told es xs)
      (λ scene sound asked _ fit passed on. stays_on scene (mode_of choice) passed stand on))

  pub named_no_directory : (hash : List ℕ → ℕ) (choice : Follow) (name : Option (List ℕ)) (n : List ℕ) (stand : Stand) → name ≡ Some n
      → is_directory_by stand.inode ≡ false
      → OnShown es xs course (ByName hash choice name stand (Err NotDir))
  named_no_directory hash choice name n stand is not =
      subst (λ (n : Option (List ℕ)). OnShown es xs course (ByName hash choice n stand (Err NotDir))) (sym is)
      (shown es xs course (λ list. Unit {0}) (ByName hash choice (Some n) stand (Err NotDir)) content (nothing_told es xs)
      (λ scene sound asked _ fit passed on. in_none scene (mode_of choice) n (place_of stand.at) passed (directory_here scene stand on.read ∙ not)))

  pub named_in_one : (hash : List ℕ → ℕ) (choice : Follow) (name : Option (List ℕ)) (n : List ℕ) (stand : Stand)
      (result : Result (Result Stand Lost) Fault) → name ≡ Some n
      → is_directory_by stand.inode ≡ true → IfOk result (λ walked. OnShown es xs course (ToName hash choice n stand walked))
      → IfOk result (λ walked. OnShown es xs course (ByName hash choice name stand walked))
  named_in_one hash choice name n stand result is one =
      subst (λ (m : Option (List ℕ)). IfOk result (λ walked. OnShown es xs course (ToName hash choice n stand walked)) → IfOk result
      (λ walked. OnShown es xs course (ByName hash choice m stand walked)))
      (sym is)
      (if_ok (λ walked. OnShown es xs course (ToName hash choice n stand walked))
      (λ walked. OnShown es xs course (ByName hash choice (Some n) stand walked)) result
      (λ walked here. shown_next es es xs xs course (λ list. Unit {0}) (ToName hash choice n stand walked)
      (ByName hash choice (Some n) stand walked) refl refl content (nothing_told es xs) here
      (λ scene sound asked _ goes fit passed on. in_one scene (mode_of choice) n (place_of stand.at) passed walked
      (directory_here scene stand on.read ∙ one) (goes fit passed on))))

  -- ---- as of an id

  pub unseen : (as_of : Option Id) (stand : Stand) → as_of ≡ None → OnShown es xs course (ById as_of stand (Ok stand))
  unseen as_of stand is =
      subst (λ (o : Option Id). OnShown es xs course (ById o stand (Ok stand))) (sym is)
      (shown es xs course (λ list. Unit {0}) (ById None stand (Ok stand)) content (nothing_told es xs)
      (λ scene sound asked _ drawn passed on. stays_on scene follows passed stand on))

  pub seen_no_pfs : (as_of : Option Id) (id : Id) (stand : Stand) (found : Option PfsRecord) → as_of ≡ Some id
      → OnBalanced es xs (λ lists. IsRecordNow lists stand.at.pfs.0 found) → found ≡ None → OnShown es xs course (ById as_of stand (Err NotRetained))
  seen_no_pfs as_of id stand found is told none =
      subst (λ (o : Option Id). OnShown es xs course (ById o stand (Err NotRetained))) (sym is)
      (shown es xs course (RecordIs stand.at.pfs.0 None) (ById (Some id) stand (Err NotRetained)) content
      (record_told es xs stand.at.pfs.0 None (subst (λ (o : Option PfsRecord). OnBalanced es xs (λ lists. IsRecordNow lists stand.at.pfs.0 o)) none told))
      (λ scene sound asked nothing drawn passed on. sees_none scene id (place_of stand.at) passed (kept_none scene sound stand.at.pfs.0 id.0 (nothing
      sound.shows.ids))))

  pub seen_unkept : (as_of : Option Id) (id : Id) (stand : Stand) (found : Option PfsRecord) (r : PfsRecord) → as_of ≡ Some id
      → OnBalanced es xs (λ lists. IsRecordNow lists stand.at.pfs.0 found) → found ≡ Some r → (Keeps r.retention id.0 → ⊥)
      → OnShown es xs course (ById as_of stand (Err NotRetained))
  seen_unkept as_of id stand found r is told there not =
      subst (λ (o : Option Id). OnShown es xs course (ById o stand (Err NotRetained))) (sym is)
      (shown es xs course (RecordIs stand.at.pfs.0 (Some r)) (ById (Some id) stand (Err NotRetained)) content (record_some stand.at.pfs.0 r found told there)
      (λ scene sound asked has drawn passed on. sees_none scene id (place_of stand.at) passed (not_kept scene sound stand.at.pfs.0 r (has
      sound.shows.ids) id.0 not)))

  pub seen_then : (as_of : Option Id) (id : Id) (stand : Stand) (found : Option PfsRecord) (r : PfsRecord) (es' : Option (List Element))
      (xs' : Option (List Extent))
      (result : Result (Result Stand Lost) Fault) → es' ≡ es → xs' ≡ xs → as_of ≡ Some id → OnBalanced es xs
      (λ lists. IsRecordNow lists stand.at.pfs.0 found) → found ≡ Some r
      → Keeps r.retention id.0 → IfOk result (λ walked. (c : Course) → OnShown es' xs' c (Looked (record stand.at { when = Some id }) id stand.passed walked))
      → IfOk result (λ walked. OnShown es xs course (ById as_of stand walked))
  seen_then as_of id stand found r es' xs' result same same' is told there keeps =
      subst (λ (o : Option Id). IfOk result (λ walked. (c : Course) → OnShown es' xs' c (Looked (record stand.at { when = Some id }) id stand.passed walked))
      → IfOk result (λ walked. OnShown es xs course (ById o stand walked))) (sym is)
      (if_ok (λ walked. (c : Course) → OnShown es' xs' c (Looked (record stand.at { when = Some id }) id stand.passed walked))
      (λ walked. OnShown es xs course (ById (Some id) stand walked)) result
      (λ walked here. shown_next es es' xs xs' course (RecordIs stand.at.pfs.0 (Some r))
      (Looked (record stand.at { when = Some id }) id stand.passed walked) (ById (Some id) stand walked)
      same same' content (record_some stand.at.pfs.0 r found told there) (here course)
      (λ scene sound asked has looks drawn passed on.
      sees scene id (place_of stand.at) passed walked (kept scene sound stand.at.pfs.0 r (has sound.shows.ids) id.0 keeps)
      (looks passed on.told drawn (view_kept scene sound stand.at.pfs.0 r (has sound.shows.ids) id.0 keeps drawn)))))

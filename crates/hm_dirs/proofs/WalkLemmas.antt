-- What a walk knows of the volume that elements show.
use Rattle.std.proofs.Common.{◌≡◌, ℕ, ◌<◌, ◌≤◌, Bool, true, false, List, [], ◌∷◌, ◌++◌, Option, Some, None, refl, sym, ap, subst, ◌∙◌, inl, inr, arith}
use Rattle.std.specs.Prelude.{◌||◌, IfSome, if◌then◌else◌}
use Rattle.std.specs.List.{Contains, list_any}
use Rattle.std.specs.Option.{option_map_or}
use Rattle.std.proofs.lemmas.Bool.{cases_eq}
use Rattle.std.proofs.lemmas.List.Elements.{All-contains}
use Rattle.std.proofs.lemmas.List.Folds.{list_any-append}
use Rattle.hm_types.specs.Elements.{FullElement}
use Rattle.hm_types.specs.Intervals.{Keeps}
use Rattle.hm_types.specs.Tree.{FileTree, named_in, no_tree}
use Rattle.hm_types.specs.declared.id.Id.{Id}
use Rattle.hm_types.specs.declared.id.Obj.{Obj}
use Rattle.hm_types.specs.declared.id.Pfs.{Pfs}
use Rattle.hm_types.specs.declared.object.Content.{Content as Held}
use Rattle.hm_types.specs.declared.object.Content.TheVariants.{Nothing, File as of_file, Target, Linked}
use Rattle.hm_types.specs.declared.object.Kind.{Kind}
use Rattle.hm_types.specs.declared.object.Kind.TheVariants.{Directory, File, Softlink, PfsLink}
use Rattle.hm_types.specs.declared.object.Object.{Object}
use Rattle.hm_key.specs.Balance.{full_elements, full_of}
use Rattle.hm_key.specs.Counts.{Content, Counts, IsRecordOf, Subject, entry_subject, inode_subject}
use Rattle.hm_key.specs.Element.{IsElement}
use Rattle.hm_key.specs.Elements.{IsContent}
use Rattle.hm_key.specs.Extents.{Extent}
use Rattle.hm_key.specs.Versions.{HaveOwnKeys}
use Rattle.hm_key.specs.declared.element.Element.{Element}
use Rattle.hm_model.specs.View.{View, When, Now, AsOf, Position as Place, object_at}
use Rattle.hm_model.specs.Volume.{PseudoFileSystem, Volume, Role, Master, Slave, system_of}
use Rattle.hm_model.specs.Walk.{holds, is_directory, is_kept, is_seen, linked_in}
use Rattle.hm_model.proofs.IntervalLemmas.{is_held, not_held}
use Rattle.hm_records.specs.Changes.{CountsNothing, HasInode, LacksName}
use Rattle.hm_records.specs.Entry.{entry_bytes}
use Rattle.hm_records.specs.Inode.{inode_bytes}
use Rattle.hm_records.specs.PfsRecord.{IsPfsRecord, pfs_bytes}
use Rattle.hm_records.specs.View.{IsHeld, IsViewOf, kind_number}
use Rattle.hm_records.specs.declared.inode.Inode.{Inode}
use Rattle.hm_records.specs.declared.kind.TheConstants.{DIRECTORY, PFS_LINK}
use Rattle.hm_records.specs.declared.pfs_record.PfsRecord.{PfsRecord}
use Rattle.hm_records.proofs.CountsLemmas.{own_keys-sorted, settled}
use Rattle.hm_records.proofs.LookupLemmas.{lacks_none, triple_is_named}
use Rattle.hm_records.proofs.MemberLemmas.{has_none, map_has}
use Rattle.hm_volume.specs.Found.{IsMadeBy}
use Rattle.hm_volume.specs.Records.{IsRecordFor, is_master}
use Rattle.hm_volume.specs.Shown.{IsTreeNow, ShowsAs}
use Rattle.hm_volume.proofs.MadeLemmas.{found, not_found}
use Rattle.hm_volume.proofs.RecordLemmas.{system_none, system_some}
use Rattle.hm_cursor.specs.Told.{Lists, OnBalanced, fulls}
use Rattle.hm_cursor.proofs.PayloadLemmas.{full_sorted}
use Rattle.hm_cursor.specs.Names.{IsFirstEntry}
use Rattle.hm_dirs.specs.Walk.{Scene, IsDrawn, IsSeenAs, IsTold, OnShown, is_watched, shown_by, when_of}
use Rattle.hm_dirs.specs.declared.position.Course.{Course}

-- ---- what holds of the elements that a store tells

-- the elements of a store: no two have one key, each was made by an id of 1 or more, and they show a volume
pub record IsSound (scene : Scene) : Type 0 where
  pub own : HaveOwnKeys scene.elements
  pub made : (x : FullElement) → Contains scene.elements x → 0 < x.key.create
  pub last : scene.volume.last ≡ scene.course.last.0
  pub shows : ShowsAs scene.elements scene.volume scene.view

sound : (es : List Element) (xs : List Extent) (course : Course) (volume : Volume) (view : View) → IsContent es → volume.last ≡ course.last.0
    → ShowsAs (full_elements es xs) volume view
    → IsSound (record { elements = full_elements es xs; volume = volume; view = view; course = course })
sound es xs course volume view content last shows = record {
  own = own_keys-sorted (full_elements es xs) (full_sorted es xs content.rising);
  made = λ x has.
      let e = map_has (full_of xs) es x has in
      subst (λ (f : FullElement). 0 < f.key.create) e.2 (All-contains IsElement es e.0 content.each e.1).made;
  last = last;
  shows = shows;
}

-- from what a store tells of its elements to what is known of the volumes that they show
pub shown : (es : Option (List Element)) (xs : Option (List Extent)) (course : Course) (R : List FullElement → Type 0) (Q : Scene → Type 0)
    → IfSome es IsContent → OnBalanced es xs (λ lists. R (fulls lists)) → ((scene : Scene) → IsSound scene → scene.course ≡ course → R scene.elements → Q scene)
    → OnShown es xs course Q
shown None xs course R Q content told next = tt
shown (Some es) None course R Q content told next = tt
shown (Some es) (Some xs) course R Q content told next = λ balanced volume view last shows.
    next (record { elements = full_elements es xs; volume = volume; view = view; course = course })
    (sound es xs course volume view content last shows) refl (told balanced)

-- and on from what is known of these
pub shown_next : (es es' : Option (List Element)) (xs xs' : Option (List Extent)) (course : Course) (R : List FullElement → Type 0) (P Q : Scene → Type 0)
    → es' ≡ es → xs' ≡ xs → IfSome es IsContent → OnBalanced es xs (λ lists. R (fulls lists)) → OnShown es' xs' course P
    → ((scene : Scene) → IsSound scene → scene.course ≡ course → R scene.elements → P scene → Q scene) → OnShown es xs course Q
shown_next es es' xs xs' course R P Q same same' content told known next =
    by_told es xs content told (subst (λ (o : Option (List Extent)). OnShown es o course P) same'
    (subst (λ (o : Option (List Element)). OnShown o xs' course P) same known))
  where
    by_told : (es : Option (List Element)) (xs : Option (List Extent)) → IfSome es IsContent → OnBalanced es xs (λ lists. R (fulls lists))
        → OnShown es xs course P
        → OnShown es xs course Q
    by_told None xs content told known = tt
    by_told (Some es) None content told known = tt
    by_told (Some es) (Some xs) content told known = λ balanced volume view last shows.
        next (record { elements = full_elements es xs; volume = volume; view = view; course = course })
        (sound es xs course volume view content last shows) refl (told balanced) (known balanced volume view last shows)

-- and from two such facts
pub shown_both : (es es' : Option (List Element)) (xs xs' : Option (List Extent)) (course : Course) (P P' Q : Scene → Type 0)
    → es' ≡ es → xs' ≡ xs → IfSome es IsContent → OnShown es xs course P → OnShown es' xs' course P'
    → ((scene : Scene) → IsSound scene → scene.course ≡ course → P scene → P' scene → Q scene) → OnShown es xs course Q
shown_both es es' xs xs' course P P' Q same same' content known known' next =
    by_told es xs content known (subst (λ (o : Option (List Extent)). OnShown es o course P') same'
    (subst (λ (o : Option (List Element)). OnShown o xs' course P') same known'))
  where
    by_told : (es : Option (List Element)) (xs : Option (List Extent)) → IfSome es IsContent → OnShown es xs course P → OnShown es xs course P'
        → OnShown es xs course Q
    by_told None xs content known known' = tt
    by_told (Some es) None content known known' = tt
    by_told (Some es) (Some xs) content known known' = λ balanced volume view last shows.
        next (record { elements = full_elements es xs; volume = volume; view = view; course = course })
        (sound es xs course volume view content last shows) refl (known balanced volume view last shows) (known' balanced volume view last shows)

-- what is known of a store with the same content
pub told_still : (es es' : Option (List Element)) (xs xs' : Option (List Extent)) (R : Lists → Type 0) → es' ≡ es → xs' ≡ xs → OnBalanced es' xs' R
    → OnBalanced es xs R
told_still es es' xs xs' R same same' told =
    subst (λ (o : Option (List Extent)). OnBalanced es o R) same' (subst (λ (o : Option (List Element)). OnBalanced o xs' R) same told)

pub nothing_told : (es : Option (List Element)) (xs : Option (List Extent)) → OnBalanced es xs (λ lists. Unit {0})
nothing_told None xs = tt
nothing_told (Some es) None = tt
nothing_told (Some es) (Some xs) = λ balanced. tt

-- ---- what a walk passed

or_false : (b : Bool) → (b || false) ≡ b
or_false true = refl
or_false false = refl

-- one more object is passed
pub told_more : (scene : Scene) (list : List (ℕ × ℕ)) (passed told : Bool) (pair : ℕ × ℕ) → IsTold scene list passed
    → told ≡ (passed || is_watched scene.course.watch pair) → IsTold scene (list ++ pair ∷ []) told
told_more scene list passed told pair was is =
    let watched : ℕ × ℕ → Bool = is_watched scene.course.watch in
    is ∙ ap (λ (b : Bool). b || watched pair) was
    ∙ sym (list_any-append watched list (pair ∷ []) ∙ ap (λ (b : Bool). list_any watched list || b) (or_false (watched pair)))

-- ---- what a PFS keeps

module _ (scene : Scene) (is : IsSound scene) (pfs : ℕ) where
  pub no_system : ((bytes : List ℕ) → IsRecordOf scene.elements pfs bytes → ⊥) → system_of scene.volume pfs ≡ None
  no_system none = system_none scene.elements scene.volume pfs is.shows.records none

  pub kept_none : (id : ℕ) → ((bytes : List ℕ) → IsRecordOf scene.elements pfs bytes → ⊥) → is_kept scene.volume pfs id ≡ false
  kept_none id none =
      ap (λ (o : Option PseudoFileSystem). option_map_or (λ (s : PseudoFileSystem). list_any (holds id) s.retention) o false) (no_system none)

  module _ (r : PfsRecord) (has : IsPfsRecord r × IsRecordOf scene.elements pfs (pfs_bytes r)) where
    pub its_system : (s : PseudoFileSystem) × (system_of scene.volume pfs ≡ Some s) × IsRecordFor s r
    its_system = system_some scene.elements scene.volume pfs is.shows.records r is.own (record { ranges = has.0; there = has.1 })

    kept_by : (id : ℕ) → is_kept scene.volume pfs id ≡ list_any (holds id) r.retention
    kept_by id =
        let (s, there, for) = its_system in
        ap (λ (o : Option PseudoFileSystem). option_map_or (λ (s : PseudoFileSystem). list_any (holds id) s.retention) o false) there
        ∙ ap (λ (list : List (ℕ × ℕ)). list_any (holds id) list) (sym for.3)

    pub kept : (id : ℕ) → Keeps r.retention id → is_kept scene.volume pfs id ≡ true
    kept id keeps = kept_by id ∙ is_held r.retention id keeps

    pub not_kept : (id : ℕ) → (Keeps r.retention id → ⊥) → is_kept scene.volume pfs id ≡ false
    not_kept id none = kept_by id ∙ not_held r.retention id none

-- ---- what a PFS shows

-- as of 0 there is nothing
nothing_counts : (scene : Scene) → IsSound scene → (s : Subject) (bytes : List ℕ) → Counts scene.elements 0 s bytes → ⊥
nothing_counts scene is s bytes counts = absurd (omega (arith, is.made counts.element counts.there, counts.seen.0))

pub empty_view : (scene : Scene) (pfs : ℕ) → IsSound scene → IsViewOf scene.elements pfs 0 no_tree
empty_view scene pfs is = record {
  objects_rise = tt;
  objects = λ o. (
    λ has. absurd (has_none o has),
    λ there. absurd
        (nothing_counts scene is (inode_subject pfs o.number.0) (inode_bytes there.inode) there.there),
  );
  triples_rise = tt;
  triples = λ t. (
    λ has. absurd (has_none t has),
    λ there. absurd (nothing_counts scene is (entry_subject pfs t.directory.0 there.key)
        (entry_bytes (record { obj = t.object; name = t.name })) there.there.there),
  );
}

-- a number without a PFS has no objects
pub view_none : (scene : Scene) (pfs : ℕ) (when : When) → IsSound scene → system_of scene.volume pfs ≡ None
    → IsViewOf scene.elements pfs 0 (scene.view pfs when)
view_none scene pfs when is none =
    subst (λ (tree : FileTree). IsViewOf scene.elements pfs 0 tree) (sym (is.shows.trees.none pfs when none)) (empty_view scene pfs is)

module _ (scene : Scene) (is : IsSound scene) (pfs : ℕ) (r : PfsRecord) (has : IsPfsRecord r × IsRecordOf scene.elements pfs (pfs_bytes r)) where
  now_of : (s : PseudoFileSystem) (role : Role) (master : Bool) → s.role ≡ role → master ≡ is_master role
      → IsTreeNow scene.elements scene.volume.last pfs s (scene.view pfs Now) → r.sync_end.0 ≡ s.sync_end
      → IsViewOf scene.elements pfs (if master then scene.course.last.0 else r.sync_end.0) (scene.view pfs Now)
  now_of s Master true same role tree end = subst (λ (t : ℕ). IsViewOf scene.elements pfs t (scene.view pfs Now)) is.last (tree.master same)
  now_of s Slave false same role tree end = elim (cases_eq s.sync_end 0) [
    | inl none ↦
        subst (λ (t : ℕ). IsViewOf scene.elements pfs t (scene.view pfs Now)) (sym (end ∙ none))
        (subst (λ (tree : FileTree). IsViewOf scene.elements pfs 0 tree) (sym (tree.unsynced same none)) (empty_view scene pfs is))
    | inr some ↦
        subst (λ (t : ℕ). IsViewOf scene.elements pfs t (scene.view pfs Now)) (sym end) (tree.slave same (omega (arith, some)))
  ]
  now_of s Master false same role tree end = absurd (cc)
  now_of s Slave true same role tree end = absurd (cc)

  pub view_now : IsViewOf scene.elements pfs (shown_by scene.course.last.0 r) (scene.view pfs Now)
  view_now =
      let (s, there, for) = its_system scene is pfs r has in
      now_of s s.role r.master refl for.0 (is.shows.trees.now pfs s there) for.2

  pub view_kept : (id : ℕ) → Keeps r.retention id → id ≤ scene.course.last.0 → IsViewOf scene.elements pfs id (scene.view pfs (AsOf id))
  view_kept id keeps drawn =
      let (s, there, for) = its_system scene is pfs r has in
      let keeps' : Keeps s.retention id = subst (λ (list : List (ℕ × ℕ)). Keeps list id) for.3 keeps in
      is.shows.trees.kept pfs id s there keeps' (omega (arith, drawn, is.last))

  pub view_seen : (when : Option Id) (seen : Id) → IsSeenAs scene.course.last.0 r when (Some seen) → IsDrawn scene.course.last when
      → IsViewOf scene.elements pfs seen.0 (scene.view pfs (when_of when))
  view_seen None seen at drawn = subst (λ (t : ℕ). IsViewOf scene.elements pfs t (scene.view pfs Now)) (sym at) view_now
  view_seen (Some id) seen at drawn =
      subst (λ (t : ℕ). IsViewOf scene.elements pfs t (scene.view pfs (AsOf id.0))) (sym at.1) (view_kept id.0 at.0 drawn)

  pub is_seen_then : (when : Option Id) (seen : Id) → IsSeenAs scene.course.last.0 r when (Some seen) → is_seen scene.volume pfs (when_of when) ≡ true
  is_seen_then None seen at = refl
  is_seen_then (Some id) seen at = kept scene is pfs r has id.0 at.0

  pub is_unseen : (when : Option Id) → IsSeenAs scene.course.last.0 r when None → is_seen scene.volume pfs (when_of when) ≡ false
  is_unseen None at = absurd at
  is_unseen (Some id) at = not_kept scene is pfs r has id.0 at

-- ---- objects

module _ (scene : Scene) (is : IsSound scene) (at : Place) (t : ℕ) (view : IsViewOf scene.elements at.pfs t (scene.view at.pfs at.when)) where
  pub object_some : (inode : Inode) → HasInode (Counts scene.elements t) at.pfs at.object.0 inode
      → (o : Object) × (object_at scene.view at ≡ Some o) × IsMadeBy (Counts scene.elements t) at.pfs inode o
  object_some inode has = found scene.elements t at.pfs (scene.view at.pfs at.when) at.object is.own view inode has

  pub object_none : CountsNothing (Counts scene.elements t) (inode_subject at.pfs at.object.0) → object_at scene.view at ≡ None
  object_none none = not_found scene.elements t at.pfs (scene.view at.pfs at.when) at.object is.own view none

  pub number_some : (name : List ℕ) (key : ℕ) (object : Obj) → IsFirstEntry (Counts scene.elements t) at.pfs at.object name key object
      → named_in (scene.view at.pfs at.when) at.object name ≡ Some object
  number_some name key object first =
      triple_is_named at.pfs (scene.view at.pfs at.when) (Counts scene.elements t) (record { settled = settled scene.elements t is.own; view = view })
      at.object name object (record { key = key; there = first.there; first = first.first })

  pub number_none : (name : List ℕ) → LacksName (Counts scene.elements t) at.pfs at.object name → named_in (scene.view at.pfs at.when) at.object name ≡ None
  number_none name lacks =
      lacks_none at.pfs (scene.view at.pfs at.when) (Counts scene.elements t)
      (record { settled = settled scene.elements t is.own; view = view }) at.object name lacks

-- the kind of an object is that of its inode
kind_is : (counts : Content) (pfs : ℕ) (inode : Inode) (o : Object) → IsMadeBy counts pfs inode o → inode.kind ≡ kind_number o.kind
kind_is counts pfs inode o made = ap (λ (i : Inode). i.kind) (sym made.same) ∙ made.object.kind

pub is_directory_of : (counts : Content) (pfs : ℕ) (inode : Inode) (o : Object) → IsMadeBy counts pfs inode o → inode.kind ≡ DIRECTORY → is_directory o ≡ true
is_directory_of counts pfs inode o made is = by_kind o.kind (sym is ∙ kind_is counts pfs inode o made) where
  by_kind : (kind : Kind) → DIRECTORY ≡ kind_number kind → (elim kind [ Directory ↦ true | File ↦ false | Softlink ↦ false | PfsLink ↦ false ]) ≡ true
  by_kind Directory same = refl
  by_kind File same = absurd (omega (arith, same))
  by_kind Softlink same = absurd (omega (arith, same))
  by_kind PfsLink same = absurd (omega (arith, same))

pub is_no_directory : (counts : Content) (pfs : ℕ) (inode : Inode) (o : Object) → IsMadeBy counts pfs inode o → (inode.kind ≡ DIRECTORY → ⊥)
    → is_directory o ≡ false
is_no_directory counts pfs inode o made not = by_kind o.kind (kind_is counts pfs inode o made) where
  by_kind : (kind : Kind) → inode.kind ≡ kind_number kind → (elim kind [ Directory ↦ true | File ↦ false | Softlink ↦ false | PfsLink ↦ false ]) ≡ false
  by_kind Directory same = absurd (not same)
  by_kind File same = refl
  by_kind Softlink same = refl
  by_kind PfsLink same = refl

-- where an object leads to
held_by : (counts : Content) (pfs : ℕ) (inode : Inode) (o : Object) → IsMadeBy counts pfs inode o → IsHeld counts pfs o.number.0 inode o.content
held_by counts pfs inode o made = subst (λ (i : Inode). IsHeld counts pfs o.number.0 i o.content) made.same made.object.holds

pub leads_to : (counts : Content) (pfs : ℕ) (inode : Inode) (o : Object) → IsMadeBy counts pfs inode o → inode.kind ≡ PFS_LINK
    → linked_in o.content ≡ Some inode.pfs.0
leads_to counts pfs inode o made is = by_content o.content (held_by counts pfs inode o made) where
  by_content : (content : Held) → IsHeld counts pfs o.number.0 inode content → linked_in content ≡ Some inode.pfs.0
  by_content Nothing held = absurd (omega (arith, held, is))
  by_content (of_file bytes) held = absurd (omega (arith, held.0, is))
  by_content (Target text) held = absurd (omega (arith, held.0, is))
  by_content (Linked other) held = ap (λ (p : Pfs). Some p.0) held.1

pub leads_nowhere : (counts : Content) (pfs : ℕ) (inode : Inode) (o : Object) → IsMadeBy counts pfs inode o → (inode.kind ≡ PFS_LINK → ⊥)
    → linked_in o.content ≡ None
leads_nowhere counts pfs inode o made not = by_content o.content (held_by counts pfs inode o made) where
  by_content : (content : Held) → IsHeld counts pfs o.number.0 inode content → linked_in content ≡ None
  by_content Nothing held = refl
  by_content (of_file bytes) held = refl
  by_content (Target text) held = refl
  by_content (Linked other) held = absurd (not held.0)

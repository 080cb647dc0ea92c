-- From a writing step to what an accepted call does to the trees.
use Rattle.std.proofs.Common.{◌≡◌, ℕ, ◌+◌, ◌<◌, ◌≤◌, List, Bool, true, false, Option, Some, None, refl, sym, ap, subst, ◌∙◌, inl, inr, arith}
use Rattle.std.specs.Prelude.{◌↔◌, if◌then◌else◌}
use Rattle.std.specs.Option.{option_map_or}
use Rattle.std.specs.List.{Contains}
use Rattle.hm_types.specs.Elements.{FullElement}
use Rattle.hm_types.specs.Tree.{FileTree, named_in, object_in}
use Rattle.hm_types.specs.declared.id.Obj.{Obj}
use Rattle.hm_types.specs.declared.object.Object.{Object}
use Rattle.hm_key.specs.Counts.{Counts, IsSeen, Subject, bytes_subject, entry_subject, inode_subject, subject_of, target_subject}
use Rattle.hm_key.specs.Element.{pfs_of}
use Rattle.hm_key.specs.Versions.{HaveOwnKeys}
use Rattle.hm_cursor.specs.Write.{AreUpTo}
use Rattle.hm_cursor.specs.Views.{CameAs, IsMissing, Shows}
use Rattle.hm_cursor.proofs.ViewsLemmas.{nothing_written}
use Rattle.hm_model.specs.Answer.{is_master}
use Rattle.hm_model.specs.Call.{Call, own_id}
use Rattle.hm_model.specs.Change.{changed, changed_pfs}
use Rattle.hm_model.specs.Due.{refuse_if}
use Rattle.hm_model.specs.View.{Now, View, When}
use Rattle.hm_model.specs.Volume.{Master, PseudoFileSystem, Role, Slave, Volume, system_of}
use Rattle.hm_model.specs.declared.reply.Reply.TheVariants.{ReadOnly}
use Rattle.hm_records.specs.Changes.{CountsNothing, HasInode, LacksName}
use Rattle.hm_records.specs.declared.inode.Inode.{Inode}
use Rattle.hm_records.specs.Entry.{entry_bytes}
use Rattle.hm_records.specs.Follows.{StillFollow}
use Rattle.hm_records.specs.KeysFit.{KeysFit}
use Rattle.hm_records.specs.Laws.{HasView}
use Rattle.hm_records.specs.Payload.{KeyFits}
use Rattle.hm_records.specs.View.{HasEntry, IsViewOf, kind_number}
use Rattle.hm_records.proofs.CountsLemmas.{settled}
use Rattle.hm_records.proofs.LookupLemmas.{none_lacks}
use Rattle.hm_records.proofs.ViewLemmas.{view_kept}
use Rattle.hm_volume.specs.Shown.{ShowsAs}
use Rattle.hm_volume.proofs.MadeLemmas.{found}
use Rattle.hm_dirs.specs.Names.{CanTakeAt, IsHidden, IsSpot, first_key, numbers}
use Rattle.hm_dirs.specs.declared.spot.Spot.{Spot}
use Rattle.hm_calls.specs.Call.{IsCall}
use Rattle.hm_calls.specs.Changes.{ChangesTree, HasSystem, IsOfItsKind, LeavesNone, tree_now}
use Rattle.hm_calls.specs.Known.{AreBelow, IsOlderThan}
use Rattle.hm_calls.specs.Writes.{AllCame, IsNewIn, NamesNothing, IsOpen, NamesObject, Place, Steps}

-- ---- a pseudo file system whose elements are older than an id

-- An element that is older than an id is seen as of the id before it, and as of all later ones, while it is open.
seen_then : (i t u : ℕ) (x : FullElement) → IsOlderThan i x → i ≤ t + 1 → i ≤ u + 1 → IsSeen t x → IsSeen u x
seen_then i t u x older from to seen = (
  omega (arith, older.made, to),
  elim seen.1 [
    | inl unclosed ↦ inl unclosed
    | inr closed ↦ absurd (omega (arith, older.closed, closed, from))
  ],
)

module _ (pfs i : ℕ) (es : List FullElement) (below : AreBelow pfs i es) where
  -- so the same counts as of all these ids
  counts_then : (t u : ℕ) (s : Subject) (bytes : List ℕ) → pfs_of s.localization ≡ pfs → i ≤ t + 1 → i ≤ u + 1 → Counts es t s bytes
      → Counts es u s bytes
  counts_then t u s bytes within from to counts = record {
    element = counts.element;
    there = counts.there;
    about = counts.about;
    holds = counts.holds;
    seen = seen_then i t u counts.element (older counts.element counts.there counts.about) from to counts.seen;
    newest = λ other has about _. counts.newest other has about (let made = (older other has about).made in omega (arith, made, from));
  } where
    older : (x : FullElement) → Contains es x → subject_of x.key ≡ s → IsOlderThan i x
    older x has about = below x has (ap (λ (z : Subject). pfs_of z.localization) about ∙ within)

  module _ (t u : ℕ) (from : i ≤ t + 1) (to : i ≤ u + 1) where
    counts_same : (s : Subject) → pfs_of s.localization ≡ pfs → (bytes : List ℕ) → Counts es u s bytes ↔ Counts es t s bytes
    counts_same s within bytes = (counts_then u t s bytes within to from, counts_then t u s bytes within from to)

    within_inodes : (obj : ℕ) → pfs_of (inode_subject pfs obj).localization ≡ pfs
    within_inodes obj = omega arith

    within_others : (directory key : ℕ) → pfs_of (entry_subject pfs directory key).localization ≡ pfs
    within_others directory key = omega arith

    pub has_entry_then : (directory : Obj) (key : ℕ) (name : List ℕ) (object : Obj) → HasEntry (Counts es t) pfs directory key name object
        → HasEntry (Counts es u) pfs directory key name object
    has_entry_then directory key name object has = record {
      ranges = has.ranges;
      there = (counts_same (entry_subject pfs directory.0 key) (within_others directory.0 key)
          (entry_bytes (record { obj = object; name = name }))).1 has.there;
    }

    has_entry_before : (directory : Obj) (key : ℕ) (name : List ℕ) (object : Obj) → HasEntry (Counts es u) pfs directory key name object
        → HasEntry (Counts es t) pfs directory key name object
    has_entry_before directory key name object has = record {
      ranges = has.ranges;
      there = (counts_same (entry_subject pfs directory.0 key) (within_others directory.0 key)
          (entry_bytes (record { obj = object; name = name }))).0 has.there;
    }

    pub view_then : (tree : FileTree) → IsViewOf es pfs t tree → IsViewOf es pfs u tree
    view_then tree is =
        view_kept pfs tree (Counts es t) (Counts es u)
        (λ obj. record {
          inode = counts_same (inode_subject pfs obj) (within_inodes obj);
          bytes = λ end. counts_same (bytes_subject pfs obj end) (within_others obj end);
          target = counts_same (target_subject pfs obj) (within_others obj 0);
        })
        (λ directory name key object. (
          has_entry_before directory key name object,
          has_entry_then directory key name object,
        ))
        is

    pub lacks_then : (directory : Obj) (name : List ℕ) → LacksName (Counts es t) pfs directory name → LacksName (Counts es u) pfs directory name
    lacks_then directory name lacks key object has = lacks key object (has_entry_before directory key name object has)

    nothing_then : (directory key : ℕ) → CountsNothing (Counts es t) (entry_subject pfs directory key)
        → CountsNothing (Counts es u) (entry_subject pfs directory key)
    nothing_then directory key none bytes counts =
        none bytes ((counts_same (entry_subject pfs directory key) (within_others directory key) bytes).0 counts)

    hidden_then : (directory : Obj) (key : ℕ) → IsHidden (Counts es t) pfs directory key → IsHidden (Counts es u) pfs directory key
    hidden_then directory key is = record {
      name = is.name;
      object = is.object;
      there = has_entry_then directory key is.name is.object is.there;
      earlier = record {
        other = is.earlier.other;
        object = is.earlier.object;
        there = has_entry_then directory is.earlier.other is.name is.earlier.object is.earlier.there;
        earlier = is.earlier.earlier;
      };
    }

    -- a key that can take an entry can do so still
    pub takes_then : (directory : Obj) (key : ℕ) (hidden : Bool) → CanTakeAt (Counts es t) pfs directory key hidden
        → CanTakeAt (Counts es u) pfs directory key hidden
    takes_then directory key false none = nothing_then directory.0 key none
    takes_then directory key true takes = elim takes [
      | inl none ↦ inl (nothing_then directory.0 key none)
      | inr hidden ↦ inr (hidden_then directory key hidden)
    ]

-- ---- what a call's tree of now tells of its id

none_some : (o : Object) → None ≡ Some o → ⊥
none_some o is = cc

-- the inode of an object as of an id: it counts, or nothing does
abbrev pub IsFoundThen : List FullElement → ℕ → ℕ → ℕ → Option Inode → Type 0
IsFoundThen es t pfs obj None = CountsNothing (Counts es t) (inode_subject pfs obj)
IsFoundThen es t pfs obj (Some inode) = HasInode (Counts es t) pfs obj inode

module _ (pfs last i : ℕ) (es : List FullElement) (tree : FileTree) (own : HaveOwnKeys es) (below : AreBelow pfs i es) (next : last + 1 ≡ i)
    (view : IsViewOf es pfs last tree) where
  -- the tree of now is that of each later id
  pub view_later : (t : ℕ) → i ≤ t → HasView (Counts es t) pfs tree
  view_later t late = record {
    settled = settled es t own;
    view = view_then pfs i es below last t (omega (arith, next)) (omega (arith, late)) tree view;
  }

  -- a name that is not in it may be added at a spot for it
  pub opens : (place : Place) (first : ℕ) (spot : Spot) → place.pfs ≡ pfs → named_in tree place.directory place.name ≡ None
      → IsSpot (Counts es last) pfs place.directory first spot → IsOpen place spot i es
  opens place first spot same none is =
      let to : i ≤ i + 1 = omega arith in
      let from : i ≤ last + 1 = omega (arith, next) in
      let lacks : LacksName (Counts es last) pfs place.directory place.name =
      none_lacks pfs tree (Counts es last) (record { settled = settled es last own; view = view }) place.directory place.name none in
      let takes : CanTakeAt (Counts es i) pfs place.directory spot.key spot.hidden =
      takes_then pfs i es below last i from to place.directory spot.key spot.hidden is.takes in
      record {
        takes = subst (λ (p : ℕ). CanTakeAt (Counts es i) p place.directory spot.key spot.hidden) (sym same) takes;
        lacks = subst (λ (p : ℕ). LacksName (Counts es i) p place.directory place.name) (sym same)
            (lacks_then pfs i es below last i from to place.directory place.name lacks);
      }

  -- a number of no object in it, of which the inode was looked for as of its id, has none from the next id on
  pub misses : (number : Obj) (found : Option Inode) → IsFoundThen es last pfs number.0 found → object_in tree number ≡ None
      → IsMissing pfs number.0 i es
  misses number None none gone t late bytes counts =
      none bytes ((counts_same pfs i es below last t (omega (arith, next)) (omega (arith, late)) (inode_subject pfs number.0)
      (within_inodes pfs i es below last t (omega (arith, next)) (omega (arith, late)) number.0) bytes).0 counts)
  misses number (Some inode) has gone t late bytes counts =
      let (o, there, made) = found es last pfs tree number own view inode has in
      absurd (none_some o (sym gone ∙ there))

-- ---- a master's tree of now

-- A pseudo file system of which an object is seen, and which is no slave, is read as of the last id.
pub master_view : (es : List FullElement) (volume : Volume) (view : View) (pfs : ℕ) (number : Obj) (o : Object) → ShowsAs es volume view
    → object_in (view pfs Now) number ≡ Some o
    → refuse_if (option_map_or (λ s. if is_master s then false else true) (system_of volume pfs) false) ReadOnly ≡ None
    → IsViewOf es pfs volume.last (view pfs Now)
master_view es volume view pfs number o shows there passes = by_system (system_of volume pfs) refl passes where
  by_role : (s : PseudoFileSystem) (role : Role) → s.role ≡ role → system_of volume pfs ≡ Some s
      → refuse_if (if is_master s then false else true) ReadOnly ≡ None → IsViewOf es pfs volume.last (view pfs Now)
  by_role s Master is some passes = (shows.trees.now pfs s some).master is
  by_role s Slave is some passes =
      absurd (no_refusal (subst (λ (r : Role). refuse_if (if (elim r [ Master ↦ true | Slave ↦ false ]) then false else true) ReadOnly ≡ None) is passes))
    where
      no_refusal : Some ReadOnly ≡ None → ⊥
      no_refusal is = cc

  by_system : (found : Option PseudoFileSystem) → system_of volume pfs ≡ found
      → refuse_if (option_map_or (λ s. if is_master s then false else true) found false) ReadOnly ≡ None
      → IsViewOf es pfs volume.last (view pfs Now)
  by_system None none passes =
      absurd (none_some o (sym (ap (λ (tree : FileTree). object_in tree number) (shows.trees.none pfs Now none)) ∙ there))
  by_system (Some s) some passes = by_role s s.role refl some passes

-- a pseudo file system of which an object is seen is there
pub system_there : (es : List FullElement) (volume : Volume) (view : View) (pfs : ℕ) (when : When) (number : Obj) (o : Object) → ShowsAs es volume view
    → object_in (view pfs when) number ≡ Some o → HasSystem volume pfs
system_there es volume view pfs when number o shows there = by_system (system_of volume pfs) refl where
  by_system : (found : Option PseudoFileSystem) → system_of volume pfs ≡ found → HasSystem volume pfs
  by_system None none =
      absurd (none_some o (sym (ap (λ (tree : FileTree). object_in tree number) (shows.trees.none pfs when none)) ∙ there))
  by_system (Some s) some = (s, some)

-- a key among those of the collision numbers of a name fits it
pub spot_fits : (hash : List ℕ → ℕ) (key : ℕ) (name : List ℕ) → first_key (hash name) ≤ key → key < first_key (hash name) + numbers
    → KeyFits hash key name
spot_fits hash key name from to = omega (arith, from, to)

-- ---- the kinds that new entries tell

-- those that lead to one object tell its kind
pub kinds_leading : (obj : Obj) (kind : ℕ) (tree : FileTree) (es es' : List FullElement)
    → ((o : Object) → object_in tree obj ≡ Some o → kind ≡ kind_number o.kind) → AllCame (NamesObject obj kind) es es' → AllCame (IsOfItsKind tree) es es'
kinds_leading obj kind tree es es' is names x has = elim (names x has) [
  | inl was ↦ inl was
  | inr new ↦ inr (record {
    kind_is = λ entry o type ranges spelled there.
        let led = new.leads entry type ranges spelled in
        led.1 ∙ is o (ap (object_in tree) (sym led.0) ∙ there);
  })
]

-- where nothing new is an entry, none tells another one
pub kinds_none : (tree : FileTree) (es es' : List FullElement) → AllCame NamesNothing es es' → AllCame (IsOfItsKind tree) es es'
kinds_none tree es es' names x has = elim (names x has) [
  | inl was ↦ inl was
  | inr new ↦ inr (record { kind_is = λ entry o type ranges spelled there. absurd (new type) })
]

-- ---- an accepted call

module _ (call : Call) (hash : List ℕ → ℕ) (last id pfs : ℕ) (es : List FullElement) (asked : IsCall hash id es call) (own : HaveOwnKeys es)
    (within : changed_pfs call ≡ pfs) (system : HasSystem call.volume pfs) (below : AreBelow pfs id es) (next : last + 1 ≡ id)
    (view : IsViewOf es pfs last (tree_now call)) where
  came_as : (x : FullElement) → CameAs (IsNewIn pfs id) es x → CameAs (IsNewIn (changed_pfs call) (own_id call)) es x
  came_as x came =
      subst (λ (p : ℕ). CameAs (IsNewIn p (own_id call)) es x) (sym within) (subst (λ (i : ℕ). CameAs (IsNewIn pfs i) es x) (sym asked.own) came)

  -- A writing step makes of the tree what the call makes of it.
  pub tree_changes : (f : FileTree → FileTree) (Fits : Type 0) (es' : List FullElement) → Steps pfs id hash Fits es es' → Fits
      → (object_in (tree_now call) (record { 0 = id }) ≡ None → Shows pfs id f es es')
      → (object_in (tree_now call) (record { 0 = id }) ≡ None → AllCame (IsOfItsKind (f (tree_now call))) es es')
      → ((obj : Obj) (o : Object) → object_in (tree_now call) obj ≡ Some o → object_in (f (tree_now call)) obj ≡ None
      → LeavesNone o.kind pfs obj.0 id es')
      → (object_in (tree_now call) (record { 0 = id }) ≡ None → StillFollow es es') → f (tree_now call) ≡ changed call (tree_now call)
      → ChangesTree call es es'
  tree_changes f Fits es' steps fits shows kinds gone follows same = record {
    there = subst (HasSystem call.volume) (sym within) system;
    past = λ t before. steps.writes.past t (omega (arith, before, asked.own));
    others = λ t other tree late differ has. steps.writes.others t other tree (omega (arith, late, asked.own)) (λ is. differ (is ∙ sym within)) has;
    elsewhere = λ x differ. steps.writes.elsewhere x (λ is. differ (is ∙ sym within));
    records = steps.writes.records;
    tree = λ none t late. subst (λ (p : ℕ). IsViewOf es' p t (changed call (tree_now call))) (sym within)
        (subst (λ (tree : FileTree). IsViewOf es' pfs t tree) same
        (shows (unused none) t (tree_now call)
        (omega (arith, late, asked.own)) (view_later pfs last id es (tree_now call) own below next view t (omega (arith, late, asked.own)))).view);
    came = λ x has. came_as x (steps.writes.came x has);
    up_to = subst (λ (i : ℕ). (localization : ℕ) → AreUpTo localization i es → AreUpTo localization i es') (sym asked.own) steps.writes.up_to;
    keys = subst (λ (h : List ℕ → ℕ). KeysFit h es') (sym asked.hash_is) (steps.keys fits asked.keys);
    kinds = λ none. subst (λ (tree : FileTree). AllCame (IsOfItsKind tree) es es') same (kinds (unused none));
    gone = λ obj o there lost.
        subst (λ (p : ℕ). LeavesNone o.kind p obj.0 (own_id call) es') (sym within)
        (subst (λ (i : ℕ). LeavesNone o.kind pfs obj.0 i es') (sym asked.own)
        (gone obj o there (ap (λ (tree : FileTree). object_in tree obj) same ∙ lost)));
    follows = λ none. follows (unused none);
  } where
    unused : object_in (tree_now call) (record { 0 = own_id call }) ≡ None → object_in (tree_now call) (record { 0 = id }) ≡ None
    unused = subst (λ (i : ℕ). object_in (tree_now call) (record { 0 = i }) ≡ None) asked.own

  -- a call that writes nothing makes nothing of it
  pub tree_stays : tree_now call ≡ changed call (tree_now call) → ChangesTree call es es
  tree_stays same =
      tree_changes (λ tree. tree) (Unit {0}) es
      (record { writes = nothing_written pfs id (IsNewIn pfs id) es; keys = λ fits keys. keys }) tt
      (λ none t tree late has. has) (λ none. (nothing_written pfs id (IsOfItsKind (tree_now call)) es).came)
      (λ obj o there gone. absurd (none_some o (sym gone ∙ there))) (λ none other t follow. follow) same

-- Elements stand for a volume still after a call changed the tree of a master.
use Rattle.std.proofs.Common.{◌≡◌, ◌≢◌, ℕ, ◌^◌, ◌<◌, ◌≤◌, true, false, List, [], ◌∷◌, ◌++◌, refl, sym, ap, subst, ◌∙◌, inl, inr, arith}
use Rattle.std.specs.Prelude.{Some, option_map, if◌then◌else◌}
use Rattle.std.specs.Bool.{nat_le}
use Rattle.std.specs.List.{All, Contains}
use Rattle.std.proofs.lemmas.Bool.{cases_lt}
use Rattle.std.proofs.lemmas.List.Elements.{All-contains, All-head, All-push, All-tail}
use Rattle.hm_types.specs.Elements.{FullElement, Key}
use Rattle.hm_types.specs.Hash.{name_hash}
use Rattle.hm_types.specs.Intervals.{Keeps}
use Rattle.hm_types.specs.Tree.{FileTree, no_tree}
use Rattle.hm_types.specs.declared.limits.TheConstants.{GREATEST_ID}
use Rattle.hm_key.specs.Counts.{Counts, subject_of}
use Rattle.hm_key.specs.Element.{pfs_of}
use Rattle.hm_key.specs.Versions.{HaveOwnKeys, IsBelow}
use Rattle.hm_cursor.specs.Write.{AreUpTo as AreWrittenTo}
use Rattle.hm_model.specs.After.{of_pfs}
use Rattle.hm_model.specs.Call.{Call, own_id}
use Rattle.hm_model.specs.Change.{changed_pfs}
use Rattle.hm_model.specs.Laws.{adds_pfs}
use Rattle.hm_model.specs.Volume.{Master, Nowhere, PseudoFileSystem, Slave, Volume, add_version, as_of, at, shown_id, system_of}
use Rattle.hm_model.proofs.DueLemmas.{of_test}
use Rattle.hm_model.proofs.GrowthLemmas.{KeepsNumber, as_of-grown}
use Rattle.hm_model.proofs.VersionLemmas.{as_of-push}
use Rattle.hm_records.specs.Follows.{Follows}
use Rattle.hm_records.specs.KeysFit.{KeysFit}
use Rattle.hm_records.specs.Payload.{HasGrammar, IsPayload, SpellsEntry, SpellsInode, SpellsPfs}
use Rattle.hm_records.specs.PfsRecord.{pfs_bytes}
use Rattle.hm_records.specs.Target.{IsTarget}
use Rattle.hm_records.specs.View.{IsViewOf}
use Rattle.hm_records.specs.declared.pfs_record.PfsRecord.{PfsRecord}
use Rattle.hm_records.proofs.CountsLemmas.{settled}
use Rattle.hm_records.proofs.MemberLemmas.{All-from_has, has_none}
use Rattle.hm_records.proofs.ViewLemmas.{view_one, view_same}
use Rattle.hm_volume.specs.Records.{AreOfSystems, HasRecord, HaveRecords, IsRecordFor}
use Rattle.hm_volume.specs.Shown.{ShowsAs}
use Rattle.hm_calls.specs.Changes.{ChangesTree, tree_now}
use Rattle.hm_calls.specs.Writes.{IsNewIn}
use Rattle.hm_image.specs.StandFor.{AreAtMost, AreBegun, AreUpTo, HasIds, HasMasterIds, HasSlaveIds, HasViews, IsSourceless, StandFor}
use Rattle.hm_image.proofs.FollowLemmas.{follows_where, of_place}
use Rattle.hm_step.specs.Step.{after_call, drawn}
use Rattle.hm_step.proofs.NextLemmas.{follows_next, slave_later, system_at, versions_later, view_next}
use Rattle.hm_step.proofs.NumberLemmas.{changed_numbers, number_is_new}
use Rattle.hm_step.proofs.SystemNumberLemmas.{numbers_kept}
use Rattle.hm_step.proofs.SystemLemmas.{all_after, changed_one, found_beside, found_here, new_tree, on_each, own_after, still_there}

-- the tree of the newest version that is shown is one of the versions', or none
at_most_shown : (most t : ℕ) (tree : FileTree) (versions : List (ℕ × FileTree)) → AreAtMost most tree
    → All (λ v. AreAtMost most v.1) versions → AreAtMost most (as_of t tree versions)
at_most_shown most t tree [] here all = here
at_most_shown most t tree (v ∷ vs) here all =
    let P : ℕ × FileTree → Type 0 = λ (w : ℕ × FileTree). AreAtMost most w.1 in
    at_most_shown most t (if nat_le v.0 t then v.1 else tree) vs (of_test (AreAtMost most) (nat_le v.0 t) v.1 tree (All-head P v vs all) here)
    (All-tail P v vs all)

module _ (call : Call) (es es' : List FullElement) (stand : StandFor es call.volume) (shows : ShowsAs es call.volume call.view)
    (changes : ChangesTree call es es') (one : PseudoFileSystem) (found : system_of call.volume (changed_pfs call) ≡ Some one)
    (master : one.role ≡ Master) where
  abbrev volume : Volume
  volume = call.volume

  abbrev pfs : ℕ
  pfs = changed_pfs call

  abbrev id : ℕ
  id = own_id call

  abbrev tree : FileTree
  tree = tree_now call

  -- the PFS gets a version more, and the id is drawn
  abbrev newer : PseudoFileSystem → PseudoFileSystem
  newer = add_version id (new_tree call)

  abbrev after : Volume
  after = drawn id (of_pfs volume pfs newer)

  newer_keeps : KeepsNumber newer
  newer_keeps s = refl

  -- ---- the tree that changes

  -- it is what its elements make as of the last id, and so the newest version's where the trees are certain
  now_view : IsViewOf es pfs volume.last tree
  now_view = (shows.trees.now pfs one found).master master

  module _ (clear : one.clear ≡ true) where
    has : HasViews es volume pfs one
    has = stand.views pfs one found clear

    ids : HasMasterIds es volume.last pfs one
    ids = (stand.ids pfs one found).master master

    tree_is : tree ≡ as_of volume.last no_tree one.versions
    tree_is =
        let kept : Keeps one.retention volume.last = ids.keeps volume.last (omega arith) (omega (arith, stand.drawn)) in
        let here : at volume pfs volume.last ≡ as_of volume.last no_tree one.versions = rw found refl in
        view_one (Counts es volume.last) pfs tree (at volume pfs volume.last) now_view (has.views volume.last (omega arith) kept) ∙ here

    few : AreAtMost volume.last tree
    few = subst (AreAtMost volume.last) (sym tree_is)
        (at_most_shown volume.last volume.last no_tree one.versions (λ o has_o. absurd (has_none o has_o))
        (All-from_has (λ (v : ℕ × FileTree). AreAtMost volume.last v.1) one.versions (λ v there o has_o.
        let own : o.number.0 ≤ v.0 = All-contains (λ (w : ℕ × FileTree). AreAtMost w.0 w.1) one.versions v has.numbered there o has_o in
        let late : v.0 ≤ volume.last = All-contains (λ (w : ℕ × FileTree). w.0 ≤ volume.last) one.versions v ids.versions there in
        omega (arith, own, late))))

    new_view : (t : ℕ) → id ≤ t → IsViewOf es' pfs t (new_tree call)
    new_view t late = changes.tree (number_is_new call tree few) t late

    new_follows : (t : ℕ) → Follows pfs t es → Follows pfs t es'
    new_follows = changes.follows (number_is_new call tree few) pfs

  -- ---- what stays

  past_view : (other t : ℕ) (shown : FileTree) → t < id → IsViewOf es other t shown → IsViewOf es' other t shown
  past_view other t shown before view = view_same other shown (Counts es t) (Counts es' t) (changes.past t before) view

  other_view : (other t : ℕ) (shown : FileTree) → id ≤ t → other ≢ pfs → IsViewOf es other t shown → IsViewOf es' other t shown
  other_view other t shown late differ view =
      (changes.others t other shown late differ (record { settled = settled es t stand.keys; view = view })).view

  other_follows : (other t : ℕ) → other ≢ pfs → Follows other t es → Follows other t es'
  other_follows other t differ = follows_where other t es es'
      (λ x has of. (changes.elsewhere x (λ is. differ (sym (of_place other (subject_of x.key) of) ∙ is))).0 has)

  record_kept : (other : ℕ) (r : PfsRecord) → HasRecord es other r → HasRecord es' other r
  record_kept other r has = record { ranges = has.ranges; there = (changes.records other (pfs_bytes r)).1 has.there }

  record_before : (other : ℕ) (r : PfsRecord) → HasRecord es' other r → HasRecord es other r
  record_before other r has = record { ranges = has.ranges; there = (changes.records other (pfs_bytes r)).0 has.there }

  -- an element is of a PFS of the volume, and keeps the grammar of its payload
  came : (P : FullElement → Type 0) → ((x e : FullElement) → Contains es e → x.key ≡ e.key → x.bytes ≡ e.bytes → P x)
      → ((x : FullElement) → IsNewIn pfs id x → P x) → All P es'
  came P old new = All-from_has P es' (λ x has. elim (changes.came x has) [
    | inl (e, there, key, kind, bytes) ↦ old x e there key bytes
    | inr is ↦ new x is
  ])

  payloads : All IsPayload es'
  payloads = came IsPayload
      (λ x e there key bytes. like x e key bytes (All-contains IsPayload es e stand.payloads there))
      (λ x is. is.payload)
    where
      like : (x e : FullElement) → x.key ≡ e.key → x.bytes ≡ e.bytes → IsPayload e → IsPayload x
      like x e key bytes is = record {
        known = subst (λ (k : Key). HasGrammar k.rec_type) (sym key) is.known;
        inode = λ of_type. subst SpellsInode (sym bytes) (is.inode (type_of of_type));
        file_bytes = λ of_type. rw (bytes, key) (is.file_bytes (type_of of_type));
        entry = λ of_type. subst SpellsEntry (sym bytes) (is.entry (type_of of_type));
        target = λ of_type. subst IsTarget (sym bytes) (is.target (type_of of_type));
        pfs = λ of_type. subst SpellsPfs (sym bytes) (is.pfs (type_of of_type));
      } where
        type_of : {n : ℕ} → x.key.rec_type ≡ n → e.key.rec_type ≡ n
        type_of of_type = ap (λ (k : Key). k.rec_type) (sym key) ∙ of_type

  of_systems : AreOfSystems es' after
  of_systems = came (λ x. (s : PseudoFileSystem) × (system_of after (pfs_of x.key.localization) ≡ Some s))
      (λ x e there key bytes.
      let (s, is) = system_at es volume e stand.of_systems there in
      let same : pfs_of x.key.localization ≡ pfs_of e.key.localization = ap (λ (k : Key). pfs_of k.localization) key in
      subst (λ (n : ℕ). (s : PseudoFileSystem) × (system_of after n ≡ Some s)) (sym same)
      (still_there volume pfs newer newer_keeps (pfs_of e.key.localization) s is))
      (λ x is.
      subst (λ (n : ℕ). (s : PseudoFileSystem) × (system_of after n ≡ Some s)) (sym is.place)
      (still_there volume pfs newer newer_keeps pfs one found))

  abbrev Recorded : PseudoFileSystem → Type 0
  Recorded s = (r : PfsRecord) × HasRecord es' s.number r × IsRecordFor s r

  records : HaveRecords es' after
  records = record {
    each = all_after volume pfs newer newer_keeps Recorded stand.own (λ s has differ. kept s (its s has)) (λ s has number is. kept s (its s has));
    no_other = λ other r has.
        let (s, is) = stand.records.no_other other r (record_before other r has) in
        still_there volume pfs newer newer_keeps other s is;
  } where
    its : (s : PseudoFileSystem) → Contains volume.systems s → (r : PfsRecord) × HasRecord es s.number r × IsRecordFor s r
    its s has = All-contains (λ (x : PseudoFileSystem). (r : PfsRecord) × HasRecord es x.number r × IsRecordFor x r) volume.systems s stand.records.each has

    kept : (s : PseudoFileSystem) → (r : PfsRecord) × HasRecord es s.number r × IsRecordFor s r
        → (r : PfsRecord) × HasRecord es' s.number r × IsRecordFor s r
    kept s (r, has, for) = (r, record_kept s.number r has, for)

  up_to : (other : ℕ) → AreUpTo volume.last other es → AreUpTo id other es'
  up_to other old = record {
    made = λ x has of_pfs. (written x of_pfs).made x has refl;
    closed = λ x has of_pfs. (written x of_pfs).closed x has refl;
  } where
    written : (x : FullElement) → pfs_of x.key.localization ≡ other → AreWrittenTo x.key.localization id es'
    written x of_pfs = changes.up_to x.key.localization (record {
      made = λ y there place. omega (arith, old.made y there (ap pfs_of place ∙ of_pfs));
      closed = λ y there place. omega (arith, old.closed y there (ap pfs_of place ∙ of_pfs));
    })

  ids_beside : (other : ℕ) (s : PseudoFileSystem) → other ≢ pfs → system_of volume other ≡ Some s → HasIds es' id other s
  ids_beside other s differ is =
      let old : HasIds es volume.last other s = stand.ids other s is in
      record {
        master = λ role. record {
          elements = up_to other (old.master role).elements;
          versions = versions_later volume.last id s.versions (omega arith) (old.master role).versions;
          keeps = λ t from to. (old.master role).keeps t (omega (arith, from)) to;
        };
        slave = λ role. slave_later volume.last id s (omega arith) (old.slave role);
      }

  ids_here : (s : PseudoFileSystem) → system_of volume pfs ≡ Some s → HasIds es' id pfs (newer s)
  ids_here s is =
      let old : HasIds es volume.last pfs s = stand.ids pfs s is in
      record {
        master = λ role. record {
          elements = up_to pfs (old.master role).elements;
          versions = All-push (λ (v : ℕ × FileTree). v.0 ≤ id) s.versions (id, new_tree call)
              (versions_later volume.last id s.versions (omega arith) (old.master role).versions) (omega arith);
          keeps = λ t from to. (old.master role).keeps t (omega (arith, from)) to;
        };
        slave = λ role.
            let later : HasSlaveIds id s = slave_later volume.last id s (omega arith) (old.slave role) in
            record { drawn = later.drawn; keeps = later.keeps; no_later = later.no_later };
      }

  begun_here : (s : PseudoFileSystem) → system_of volume pfs ≡ Some s → AreBegun (newer s)
  begun_here s is = All-push (λ (v : ℕ × FileTree). 1 ≤ v.0) s.versions (id, new_tree call) (stand.begun pfs s is) (omega arith)

  -- a slave into which nothing came is not the master that changed
  unfed_beside : (other : ℕ) (s : PseudoFileSystem) → other ≢ pfs → system_of volume other ≡ Some s → s.role ≡ Slave → s.origin ≡ Nowhere
      → IsSourceless es' other s
  unfed_beside other s differ is slave nowhere =
      let old : IsSourceless es other s = stand.sourceless other s is slave nowhere in
      record {
        unsynced = old.unsynced;
        alone = λ x has of_pfs. old.alone x ((changes.elsewhere x (λ is. differ (sym of_pfs ∙ is))).0 has) of_pfs;
      }

  unfed_here : (s : PseudoFileSystem) → system_of volume pfs ≡ Some s → (newer s).role ≡ Slave → (newer s).origin ≡ Nowhere → IsSourceless es' pfs (newer s)
  unfed_here s is slave nowhere =
      let same : s ≡ one = cc in
      let role : s.role ≡ Master = ap (λ (x : PseudoFileSystem). x.role) same ∙ master in
      absurd (let both : Slave ≡ Master = sym slave ∙ role in cc)

  -- ---- the views

  views_beside : (other : ℕ) (s : PseudoFileSystem) → other ≢ pfs → system_of volume other ≡ Some s → s.clear ≡ true
      → HasViews es' after other s
  views_beside other s differ is clear =
      let old : HasViews es volume other s = stand.views other s is clear in
      record {
        numbered = old.numbered;
        views = λ t le keeps.
            let before : IsViewOf es other t (as_of t no_tree s.versions) = view_next es volume stand other s is old t le keeps in
            let there : system_of after other ≡ Some s = found_beside volume pfs newer newer_keeps other differ ∙ is in
            let here : at after other t ≡ as_of t no_tree s.versions = rw there refl in
            subst (λ (shown : FileTree). IsViewOf es' other t shown) (sym here) (elim (cases_lt t id) [
              | inl early ↦ past_view other t (as_of t no_tree s.versions) early before
              | inr late ↦ other_view other t (as_of t no_tree s.versions) late differ before
            ]);
        follows = other_follows other (shown_id id s) differ (follows_next es volume stand other s is old);
      }

  views_here : (s : PseudoFileSystem) → system_of volume pfs ≡ Some s → s.clear ≡ true
      → HasViews es' after pfs (newer s)
  views_here s is clear =
      let same : s ≡ one = cc in
      let certain : one.clear ≡ true = subst (λ (x : PseudoFileSystem). x.clear ≡ true) same clear in
      let old : HasViews es volume pfs s = stand.views pfs s is clear in
      let there : system_of after pfs ≡ Some (newer s) =
      found_here volume pfs newer newer_keeps ∙ ap (option_map newer) is in
      record {
        numbered = All-push (λ (v : ℕ × FileTree). AreAtMost v.0 v.1) s.versions (id, new_tree call) old.numbered
            (changed_numbers call tree (few certain));
        views = λ t le keeps.
            let here : at after pfs t ≡ as_of t no_tree (s.versions ++ (id, new_tree call) ∷ []) = rw there refl in
            subst (λ (shown : FileTree). IsViewOf es' pfs t shown) (sym here) (elim (cases_lt t id) [
              | inl early ↦
                  let before : IsViewOf es pfs t (as_of t no_tree s.versions) = view_next es volume stand pfs s is old t le keeps in
                  subst (λ (shown : FileTree). IsViewOf es' pfs t shown)
                  (sym (as_of-grown t id no_tree s.versions ((id, new_tree call) ∷ []) early (refl, tt)))
                  (past_view pfs t (as_of t no_tree s.versions) early before)
              | inr late ↦
                  subst (λ (shown : FileTree). IsViewOf es' pfs t shown)
                  (sym (as_of-push t no_tree s.versions id (new_tree call) late)) (new_view certain t late)
            ]);
        follows = new_follows certain (shown_id id s) (follows_next es volume stand pfs s is old);
      }

  pub stand_newer : call.volume.last < GREATEST_ID → call.hash ≡ name_hash → HaveOwnKeys es' → IsBelow (2 ^ 64) es' → StandFor es' after
  stand_newer left hash keys fit = record {
    keys = keys;
    fit = fit;
    payloads = payloads;
    names = subst (λ (h : List ℕ → ℕ). KeysFit h es') hash changes.keys;
    records = records;
    drawn = omega (arith, left);
    own = own_after volume pfs newer newer_keeps stand.own;
    numbers = numbers_kept volume pfs newer newer_keeps stand.own stand.numbers;
    of_systems = of_systems;
    ids = on_each volume pfs newer newer_keeps (HasIds es' id) ids_beside ids_here;
    begun = on_each volume pfs newer newer_keeps (λ other s. AreBegun s) (λ other s differ is. stand.begun other s is) begun_here;
    views = on_each volume pfs newer newer_keeps (λ other s. s.clear ≡ true → HasViews es' after other s) views_beside views_here;
    sourceless = on_each volume pfs newer newer_keeps (λ other s. s.role ≡ Slave → s.origin ≡ Nowhere → IsSourceless es' other s) unfed_beside unfed_here;
  }

  -- a call that adds no PFS does no more
  pub stand_changed : adds_pfs call.command ≡ false → call.volume.last < GREATEST_ID → call.hash ≡ name_hash → HaveOwnKeys es'
      → IsBelow (2 ^ 64) es' → StandFor es' (after_call true call)
  stand_changed adds left hash keys fit =
      subst (λ (v : Volume). StandFor es' (drawn id v)) (sym (changed_one call adds)) (stand_newer left hash keys fit)

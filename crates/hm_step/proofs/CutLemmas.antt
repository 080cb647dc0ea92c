-- Elements stand for a volume still where a PFS has fewer ids to show, and its record says so.
use Rattle.std.proofs.Common.{◌≡◌, ◌≢◌, ◌∙◌, ℕ, ◌+◌, ◌^◌, ◌≤◌, true, List, [], ◌∷◌, ◌++◌, length, refl, ap, sym, subst, inl, inr, arith}
use Rattle.std.specs.Prelude.{◌↔◌, ◌⊎◌, Some, option_map}
use Rattle.std.specs.List.{All, Contains}
use Rattle.std.proofs.lemmas.List.Elements.{All-contains, All-head, All-tail}
use Rattle.hm_types.specs.Elements.{FullElement}
use Rattle.hm_types.specs.Hash.{name_hash}
use Rattle.hm_types.specs.Intervals.{Keeps, open_end}
use Rattle.hm_types.specs.Tree.{FileTree, no_tree}
use Rattle.hm_types.specs.declared.limits.TheConstants.{MOST_INTERVALS}
use Rattle.hm_key.specs.Counts.{IsRecordOf, Subject, record_subject}
use Rattle.hm_key.specs.Element.{pfs_of}
use Rattle.hm_retain.specs.Intervals.{IsIntervals}
use Rattle.hm_retain.specs.Retention.{IsRetention}
use Rattle.hm_retain.proofs.SetLemmas.{kept_from}
use Rattle.hm_model.specs.After.{of_pfs, present_only, retaining}
use Rattle.hm_model.specs.Cut.{cut, greatest, pruned, single, within}
use Rattle.hm_model.specs.Volume.{Master, Nowhere, PseudoFileSystem, Role, Slave, Volume, as_of, at, shown_id, system_of}
use Rattle.hm_model.proofs.EffectLemmas.{by_role}
use Rattle.hm_model.proofs.GrowthLemmas.{KeepsNumber}
use Rattle.hm_model.proofs.IntervalLemmas.{IsAmong, Keeps-append, Keeps-maximal, Keeps-single, Keeps-within}
use Rattle.hm_model.proofs.RetentionLemmas.{IsIntervals-cut}
use Rattle.hm_records.specs.Follows.{Follows}
use Rattle.hm_records.specs.PfsRecord.{IsOpen, IsPfsRecord, pfs_bytes}
use Rattle.hm_records.specs.View.{IsViewOf}
use Rattle.hm_records.specs.declared.pfs_record.PfsRecord.{PfsRecord}
use Rattle.hm_records.proofs.CountsLemmas.{record_counts}
use Rattle.hm_records.proofs.MemberLemmas.{All-from_has}
use Rattle.hm_volume.specs.Records.{AreOfSystems, HasRecord, HaveRecords, IsRecordFor, is_master}
use Rattle.hm_volume.proofs.RecordLemmas.{system_some}
use Rattle.hm_pfs.specs.Records.{SetsRecord}
use Rattle.hm_image.specs.StandFor.{AreAtMost, AreBegun, HasIds, HasViews, IsSourceless, OnEach, StandFor}
use Rattle.hm_step.specs.Cut.{IsCutTo, SetsRecordBy}
use Rattle.hm_step.specs.Pruned.{IsEnough, StandAfter, StillKeeps}
use Rattle.hm_step.proofs.JobLemmas.{enough_less, system_for}
use Rattle.hm_step.proofs.KnownLemmas.{record_at}
use Rattle.hm_step.proofs.NextLemmas.{role_is, shown_of_master, shown_of_slave, system_at}
use Rattle.hm_step.proofs.RecordLemmas.{other_record, set_fit, set_follows, set_keys, set_names, set_of, set_payloads, set_record, set_unfed}
use Rattle.hm_step.proofs.RecordLemmas.{set_up_to, set_view}
use Rattle.hm_step.proofs.SystemNumberLemmas.{numbers_kept}
use Rattle.hm_step.proofs.SystemLemmas.{all_after, found_beside, found_here, on_each, own_after, still_there}

module _ (es es' : List FullElement) (volume : Volume) (pfs : ℕ) (change : PseudoFileSystem → PseudoFileSystem) (keeps : KeepsNumber change)
    (one : PseudoFileSystem) (kept : List (ℕ × ℕ)) (stand : StandFor es volume) (by_cut : SetsRecordBy volume pfs one change es es')
    (is_cut : change one ≡ retaining kept one) (cuts : IsCutTo volume.last one kept) where
  abbrev after : Volume
  after = of_pfs volume pfs change

  -- the record of before, and with the retention of now
  abbrev was : PfsRecord
  was = by_cut.was

  abbrev now : PfsRecord
  now = record was { retention = kept }

  sets : SetsRecord pfs (pfs_bytes now) es es'
  sets =
      subst (λ (s : PseudoFileSystem). SetsRecord pfs (pfs_bytes (record by_cut.was { retention = s.retention })) es es') is_cut by_cut.sets

  was_there : IsRecordOf es pfs (pfs_bytes was)
  was_there = (record_counts es pfs (2 ^ 64) open_end (pfs_bytes by_cut.was) stand.fit (omega arith)).1 by_cut.counts

  -- it is that of the volume
  was_is : IsRecordFor one was
  was_is =
      let (s, is, for) = system_some es volume pfs stand.records was stand.keys (record { ranges = by_cut.ranges; there = was_there }) in
      let there : system_of volume pfs ≡ Some one = by_cut.there in
      let same : s ≡ one = cc in
      subst (λ (x : PseudoFileSystem). IsRecordFor x was) same for

  now_is : IsRecordFor (retaining kept one) now
  now_is = (was_is.0, was_is.1, was_is.2, refl)

  ranges : IsPfsRecord now
  ranges = record {
    shared = by_cut.ranges.shared;
    sync_end = by_cut.ranges.sync_end;
    retention = cuts.retention;
    role = record {
      no_sync_end = by_cut.ranges.role.no_sync_end;
      master_is_open = λ master.
          cuts.master (of_master one.role (sym was_is.0 ∙ master)) open_end (omega (arith, stand.drawn)) (omega arith);
      slave_is_not = λ slave open'.
          by_cut.ranges.role.slave_is_not slave (subst IsOpen (sym was_is.3) (cuts.fewer open_end open'));
    };
  } where
    of_master : (role : Role) → is_master role ≡ true → role ≡ Master
    of_master Master is = refl
    of_master Slave is = absurd (cc)

  -- ---- the PFS

  -- the one that is found there
  one_alone : (s : PseudoFileSystem) → system_of volume pfs ≡ Some s → change s ≡ retaining kept one
  one_alone s is =
      let there : system_of volume pfs ≡ Some one = by_cut.there in
      let same : one ≡ s = cc in
      ap change (sym same) ∙ is_cut

  -- a fact of each
  pub on_cut : (P : ℕ → PseudoFileSystem → Type 0) → OnEach volume P → P pfs (retaining kept one) → OnEach after P
  on_cut P each here =
      on_each volume pfs change keeps P (λ other s differ is. each other s is) (λ s is. subst (P pfs) (sym (one_alone s is)) here)

  -- what was under a number before
  found_cut : system_of after pfs ≡ Some (retaining kept one)
  found_cut = found_here volume pfs change keeps ∙ (ap (option_map change) by_cut.there ∙ ap Some is_cut)

  -- ---- records

  abbrev Recorded : PseudoFileSystem → Type 0
  Recorded s = (r : PfsRecord) × HasRecord es' s.number r × IsRecordFor s r

  record_beside : (s : PseudoFileSystem) → Contains volume.systems s → s.number ≢ pfs → Recorded s
  record_beside s has differ =
      let (r, its, for) =
      All-contains (λ (x : PseudoFileSystem). (r : PfsRecord) × HasRecord es x.number r × IsRecordFor x r) volume.systems s stand.records.each has in (
        r,
        record { ranges = its.ranges; there = other_record pfs (pfs_bytes now) es es' sets stand.fit s.number (pfs_bytes r) differ its.there },
        for,
      )

  record_here : (s : PseudoFileSystem) → s.number ≡ pfs → system_of volume pfs ≡ Some s → Recorded (change s)
  record_here s number is =
      let there = set_record pfs (pfs_bytes now) es es' sets stand.fit (pfs_bytes was) was_there in (
        now,
        subst (λ (n : ℕ). HasRecord es' n now) (sym (keeps s ∙ number)) (record { ranges = ranges; there = there }),
        subst (λ (x : PseudoFileSystem). IsRecordFor x now) (sym (one_alone s is)) now_is,
      )

  of_systems : AreOfSystems es' after
  of_systems = All-from_has (λ e. (s : PseudoFileSystem) × (system_of after (pfs_of e.key.localization) ≡ Some s)) es'
      (set_of pfs (pfs_bytes now) es es' sets (λ n. (s : PseudoFileSystem) × (system_of after n ≡ Some s)) (λ x has.
      let (s, is) = system_at es volume x stand.of_systems has in
      still_there volume pfs change keeps (pfs_of x.key.localization) s is))

  records : HaveRecords es' after
  records = record {
    each = all_after volume pfs change keeps Recorded stand.own record_beside (λ s has. record_here s);
    no_other = λ other r has.
        let e = has.there.element in
        let record_at : pfs_of (record_subject other).localization ≡ other = omega arith in
        let here : pfs_of e.key.localization ≡ other = ap (λ (about : Subject). pfs_of about.localization) has.there.about ∙ record_at in
        subst (λ (n : ℕ). (s : PseudoFileSystem) × (system_of after n ≡ Some s)) here
        (system_at es' after e of_systems has.there.there);
  }

  -- ---- ids and views

  ids_beside : OnEach volume (HasIds es' volume.last)
  ids_beside other s is =
      let old : HasIds es volume.last other s = stand.ids other s is in
      record {
        master = λ role. record {
          elements = set_up_to pfs (pfs_bytes now) es es' sets volume.last other (old.master role).elements;
          versions = (old.master role).versions;
          keeps = (old.master role).keeps;
        };
        slave = old.slave;
      }

  ids_here : HasIds es' volume.last pfs (retaining kept one)
  ids_here =
      let old : HasIds es' volume.last pfs one = ids_beside pfs one by_cut.there in
      record {
        master = λ role. record { elements = (old.master role).elements; versions = (old.master role).versions; keeps = cuts.master role };
        slave = λ role. record {
          drawn = (old.slave role).drawn;
          keeps = cuts.slave role;
          no_later = λ t keeps. (old.slave role).no_later t (cuts.fewer t keeps);
        };
      }

  views_of : (other : ℕ) (s s' : PseudoFileSystem) → system_of volume other ≡ Some s → system_of after other ≡ Some s' → s'.versions ≡ s.versions
      → shown_id volume.last s' ≡ shown_id volume.last s → ((t : ℕ) → Keeps s'.retention t → Keeps s.retention t) → HasViews es volume other s
      → HasViews es' after other s'
  views_of other s s' is is' same shown fewer old = record {
    numbered = subst (All (λ (v : ℕ × FileTree). AreAtMost v.0 v.1)) (sym same) old.numbered;
    views = λ t le keeps.
        let before : at volume other t ≡ as_of t no_tree s.versions = rw is refl in
        let later : at after other t ≡ as_of t no_tree s'.versions = rw is' refl in
        let tree : at volume other t ≡ at after other t = before ∙ (ap (as_of t no_tree) (sym same) ∙ sym later) in
        subst (λ (shown : FileTree). IsViewOf es' other t shown) tree
        (set_view pfs (pfs_bytes now) es es' sets t other (at volume other t) stand.keys (old.views t le (fewer t keeps)));
    follows = subst (λ (t : ℕ). Follows other t es') (sym shown)
        (set_follows pfs (pfs_bytes now) es es' sets other (shown_id volume.last s) old.follows);
  }

  views : OnEach after (λ other s. s.clear ≡ true → HasViews es' after other s)
  views =
      on_each volume pfs change keeps (λ other s. s.clear ≡ true → HasViews es' after other s)
      (λ other s differ is clear.
      views_of other s s is (found_beside volume pfs change keeps other differ ∙ is) refl refl (λ t keeps. keeps) (stand.views other s is clear))
      (λ s is. subst (λ (x : PseudoFileSystem). x.clear ≡ true → HasViews es' after pfs x) (sym (one_alone s is)) (λ clear.
      views_of pfs one (retaining kept one) by_cut.there found_cut refl refl cuts.fewer (stand.views pfs one by_cut.there clear)))

  unfed : (other : ℕ) (s : PseudoFileSystem) → IsSourceless es other s → IsSourceless es' other s
  unfed = set_unfed pfs (pfs_bytes now) es es' sets

  unfed_here : one.role ≡ Slave → one.origin ≡ Nowhere → IsSourceless es' pfs (retaining kept one)
  unfed_here slave none =
      let old : IsSourceless es' pfs one = unfed pfs one (stand.sourceless pfs one by_cut.there slave none) in
      record { unsynced = old.unsynced; alone = old.alone }

  stand_cut : StandFor es' after
  stand_cut = record {
    keys = set_keys pfs (pfs_bytes now) es es' sets stand.keys;
    fit = set_fit pfs (pfs_bytes now) es es' sets stand.fit;
    payloads = set_payloads pfs now es es' sets ranges stand.payloads;
    names = set_names pfs (pfs_bytes now) es es' sets name_hash stand.names;
    records = records;
    drawn = stand.drawn;
    own = own_after volume pfs change keeps stand.own;
    numbers = numbers_kept volume pfs change keeps stand.own stand.numbers;
    of_systems = of_systems;
    ids = on_cut (HasIds es' volume.last) ids_beside ids_here;
    begun = on_cut (λ other s. AreBegun s) stand.begun (stand.begun pfs one by_cut.there);
    views = views;
    sourceless = on_cut (λ other s. s.role ≡ Slave → s.origin ≡ Nowhere → IsSourceless es' other s)
        (λ other s is slave none. unfed other s (stand.sourceless other s is slave none)) unfed_here;
  }

  -- the PFS keeps no more than before
  jobs_cut : StillKeeps volume after
  jobs_cut told enough = record {
    within = on_cut (λ other s. IsEnough (told other) s.retention) enough.within
        (enough_less (told pfs) one.retention kept cuts.fewer (enough.within pfs one by_cut.there));
    of_systems = λ other.
        system_for volume after other (told other) (λ s is. still_there volume pfs change keeps other s is) (enough.of_systems other);
  }

  pub after_cut : StandAfter volume es' after
  after_cut = record { stand = stand_cut; jobs = jobs_cut }

-- ---- what the prunes cut

-- a cut keeps of a retention the listed ids, and those from an id on
cut_kept : (retention : List (ℕ × ℕ)) (ids : List ℕ) (from t : ℕ)
    → Keeps (cut retention ids from) t ↔ (Keeps retention t × (IsAmong ids t ⊎ ((from ≤ t) × (t ≤ open_end))))
cut_kept retention ids from t = (
  λ kept. elim ((Keeps-append (single retention ids) (within from open_end retention) t).0
      ((Keeps-maximal (single retention ids ++ within from open_end retention) t).0 kept)) [
        | inl listed ↦ let both = (Keeps-single retention ids t).0 listed in (both.0, inl both.1)
        | inr later ↦ let both = (Keeps-within from open_end retention t).0 later in (both.0, inr (both.1, both.2))
      ],
  λ both. (Keeps-maximal (single retention ids ++ within from open_end retention) t).1
      ((Keeps-append (single retention ids) (within from open_end retention) t).1 (elim both.1 [
        | inl listed ↦ inl ((Keeps-single retention ids t).1 (both.0, listed))
        | inr later ↦ inr ((Keeps-within from open_end retention t).1 (both.0, later.0, later.1))
      ])),
)

-- maximal intervals that keep each id between two that they keep are one at most
one_interval : (list : List (ℕ × ℕ)) → IsIntervals list → ((a b t : ℕ) → Keeps list a → Keeps list b → a ≤ t → t ≤ b → Keeps list t)
    → length list ≤ 1
one_interval [] rise between = omega arith
one_interval (x ∷ []) rise between = omega arith
one_interval (x ∷ y ∷ more) rise between =
    let first : Keeps (x ∷ y ∷ more) x.0 = inl (omega arith, rise.0.ordered) in
    let second : Keeps (x ∷ y ∷ more) y.0 = inr (inl (omega arith, rise.1.0.ordered)) in
    absurd (gap (between x.0 y.0 (x.1 + 1) first second (omega (arith, rise.0.ordered)) (omega (arith, rise.1.0.above))))
  where
    gap : Keeps (x ∷ y ∷ more) (x.1 + 1) → ⊥
    gap (inl holds) = absurd (omega (arith, holds.1))
    gap (inr later) = absurd (omega (arith, kept_from (x.1 + 2) (y ∷ more) (x.1 + 1) rise.1 later))

greatest_by : (most : ℕ) (ids : List ℕ) → All (λ id. id ≤ most) ids → greatest ids ≤ most
greatest_by most [] all = omega arith
greatest_by most (id ∷ ids) all =
    let first : id ≤ most = All-head (λ id. id ≤ most) id ids all in
    let rest : greatest ids ≤ most = greatest_by most ids (All-tail (λ id. id ≤ most) id ids all) in
    omega (arith, first, rest)

present_master : (id : ℕ) (s : PseudoFileSystem) → s.role ≡ Master → present_only id s ≡ retaining (cut s.retention [] id) s
present_master id s role = rw role refl

present_slave : (id : ℕ) (s : PseudoFileSystem) → s.role ≡ Slave → present_only id s ≡ retaining (cut s.retention (s.sync_end ∷ []) (2 ^ 64)) s
present_slave id s role = rw role refl

pub present_number : (id : ℕ) → KeepsNumber (present_only id)
present_number id s =
    by_role (λ (t : PseudoFileSystem). t.number ≡ s.number) (retaining (cut s.retention [] id) s)
    (retaining (cut s.retention (s.sync_end ∷ []) (2 ^ 64)) s) s.role refl refl

module _ (es : List FullElement) (volume : Volume) (pfs : ℕ) (one : PseudoFileSystem) (stand : StandFor es volume)
    (there : system_of volume pfs ≡ Some one) where
  -- its retention is one of maximal intervals, at most 4,096
  has_retention : IsRetention one.retention
  has_retention =
      let (r, has, for) = record_at es volume stand pfs one there in
      subst IsRetention for.3 has.ranges.retention

  -- a prune keeps ids up to the one as of which the PFS is shown, and all from the greatest of them on
  prune_cuts : (ids : List ℕ) → All (λ id. id ≤ shown_id volume.last one) ids → length (pruned one.retention ids) ≤ MOST_INTERVALS
      → IsCutTo volume.last one (pruned one.retention ids)
  prune_cuts ids early few = record {
    retention = record { intervals = IsIntervals-cut one.retention ids (greatest ids) has_retention.intervals; few = few };
    fewer = λ t kept. ((cut_kept one.retention ids (greatest ids) t).0 kept).0;
    master = λ role t from to.
        (cut_kept one.retention ids (greatest ids) t).1
        (((stand.ids pfs one there).master role).keeps t from to, inr (omega (arith, least, shown_of_master volume.last one role, from), to));
    slave = λ role synced.
        let ids_of = (stand.ids pfs one there).slave role in
        (cut_kept one.retention ids (greatest ids) one.sync_end).1
        (ids_of.keeps synced, inr (omega (arith, least, shown_of_slave volume.last one role), omega (arith, ids_of.drawn, stand.drawn)));
  } where
    least : greatest ids ≤ shown_id volume.last one
    least = greatest_by (shown_id volume.last one) ids early

  -- what is left where all but the present goes: of a master the last id and all later ones, of a slave its sync end
  master_cuts : one.role ≡ Master → IsCutTo volume.last one (cut one.retention [] volume.last)
  master_cuts role = record {
    retention = record {
      intervals = IsIntervals-cut one.retention [] volume.last has_retention.intervals;
      few = omega (
        arith,
        one_interval (cut one.retention [] volume.last)
            (IsIntervals-cut one.retention [] volume.last has_retention.intervals) (λ a b t keeps keeps' from to.
            later t (omega (arith, from, bounds a keeps)) (omega (arith, to, bounds b keeps'))),
      );
    };
    fewer = λ t kept. ((cut_kept one.retention [] volume.last t).0 kept).0;
    master = λ role t from to. later t from to;
    slave = λ role' synced. absurd (let same : Master ≡ Slave = sym role ∙ role' in cc);
  } where
    later : (t : ℕ) → volume.last ≤ t → t ≤ open_end → Keeps (cut one.retention [] volume.last) t
    later t from to =
        (cut_kept one.retention [] volume.last t).1 (((stand.ids pfs one there).master role).keeps t from to, inr (from, to))

    bounds : (t : ℕ) → Keeps (cut one.retention [] volume.last) t → (volume.last ≤ t) × (t ≤ open_end)
    bounds t kept = elim ((cut_kept one.retention [] volume.last t).0 kept).1 [
      | inl listed ↦ absurd listed
      | inr within ↦ within
    ]

  slave_cuts : one.role ≡ Slave → IsCutTo volume.last one (cut one.retention (one.sync_end ∷ []) (2 ^ 64))
  slave_cuts role = record {
    retention = record {
      intervals = IsIntervals-cut one.retention (one.sync_end ∷ []) (2 ^ 64) has_retention.intervals;
      few = omega (
        arith,
        one_interval (cut one.retention (one.sync_end ∷ []) (2 ^ 64))
            (IsIntervals-cut one.retention (one.sync_end ∷ []) (2 ^ 64) has_retention.intervals) (λ a b t keeps keeps' from to.
            let here : a ≡ t = omega (arith, alone a keeps, alone b keeps', from, to) in
            subst (Keeps (cut one.retention (one.sync_end ∷ []) (2 ^ 64))) here keeps),
      );
    };
    fewer = λ t kept. ((cut_kept one.retention (one.sync_end ∷ []) (2 ^ 64) t).0 kept).0;
    master = λ role'. absurd (let same : Master ≡ Slave = sym role' ∙ role in cc);
    slave = λ role synced.
        (cut_kept one.retention (one.sync_end ∷ []) (2 ^ 64) one.sync_end).1
        (((stand.ids pfs one there).slave role).keeps synced, inl (inl refl));
  } where
    alone : (t : ℕ) → Keeps (cut one.retention (one.sync_end ∷ []) (2 ^ 64)) t → one.sync_end ≡ t
    alone t kept = elim ((cut_kept one.retention (one.sync_end ∷ []) (2 ^ 64) t).0 kept).1 [
      | inl listed ↦ elim listed [
        | inl same ↦ same
        | inr none ↦ absurd none
      ]
      | inr within ↦ absurd (omega (arith, within.0, within.1))
    ]

-- ---- the laws

abbrev pruning : List ℕ → PseudoFileSystem → PseudoFileSystem
pruning ids s = retaining (pruned s.retention ids) s

module _ (es es' : List FullElement) (volume : Volume) (pfs : ℕ) (one : PseudoFileSystem) (stand : StandFor es volume) where
  pub cut_stands : (kept : List (ℕ × ℕ)) → SetsRecordBy volume pfs one (retaining kept) es es' → IsCutTo volume.last one kept
      → StandAfter volume es' (of_pfs volume pfs (retaining kept))
  cut_stands kept sets cuts = after_cut es es' volume pfs (retaining kept) (λ s. refl) one kept stand sets refl cuts

  pub prune_stands : (ids : List ℕ) → SetsRecordBy volume pfs one (pruning ids) es es' → All (λ id. id ≤ shown_id volume.last one) ids
      → length (pruned one.retention ids) ≤ MOST_INTERVALS → StandAfter volume es' (of_pfs volume pfs (pruning ids))
  prune_stands ids sets early few =
      after_cut es es' volume pfs (pruning ids) (λ s. refl) one (pruned one.retention ids) stand sets refl
      (prune_cuts es volume pfs one stand sets.there ids early few)

  pub present_stands : SetsRecordBy volume pfs one (present_only volume.last) es es'
      → StandAfter volume es' (of_pfs volume pfs (present_only volume.last))
  present_stands sets = elim (role_is one.role) [
    | inl master ↦
        after_cut es es' volume pfs (present_only volume.last) (present_number volume.last) one (cut one.retention [] volume.last) stand sets
        (present_master volume.last one master) (master_cuts es volume pfs one stand sets.there master)
    | inr slave ↦
        after_cut es es' volume pfs (present_only volume.last) (present_number volume.last) one (cut one.retention (one.sync_end ∷ []) (2 ^ 64)) stand
        sets (present_slave volume.last one slave) (slave_cuts es volume pfs one stand sets.there slave)
  ]

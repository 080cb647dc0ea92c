-- Elements stand for a volume with one PFS more where its record was added, and its root directory if it is a master.
use Rattle.std.proofs.Common.{◌≡◌, ◌≢◌, ◌∙◌, ℕ, ◌^◌, ◌<◌, ◌≤◌, Bool, true, false, List, [], ◌∷◌, eqb, refl, ap, sym, subst, inl, inr, arith}
use Rattle.std.specs.Prelude.{◌⊎◌, Option, None, Some, if◌then◌else◌}
use Rattle.std.specs.Bool.{nat_le}
use Rattle.std.specs.List.{All, Contains}
use Rattle.std.specs.Option.{option_map_or}
use Rattle.std.proofs.lemmas.Bool.{cases_lt}
use Rattle.std.proofs.lemmas.Bool.Decides.{nat_tests}
use Rattle.std.proofs.lemmas.List.Elements.{All-contains, All-nil, All-push}
use Rattle.hm_types.specs.Elements.{FullElement, Key}
use Rattle.hm_types.specs.Hash.{name_hash}
use Rattle.hm_types.specs.declared.limits.TheConstants.{MOST_PFS}
use Rattle.hm_types.specs.Tree.{FileTree, directory_of, no_tree, root_number, root_tree}
use Rattle.hm_types.specs.declared.object.Object.{Object}
use Rattle.hm_key.specs.Counts.{Subject, subject_of}
use Rattle.hm_key.specs.Element.{pfs_of}
use Rattle.hm_key.specs.Versions.{HaveOwnKeys, IsBelow}
use Rattle.hm_key.specs.declared.rec_type.TheConstants.{DIRECTORY_ENTRY}
use Rattle.hm_model.specs.Change.{new_slave, with_system}
use Rattle.hm_model.specs.Volume.{Nowhere, PseudoFileSystem, Slave, Volume, as_of, at, new_master, shown_id, system_of}
use Rattle.hm_model.proofs.GrowthLemmas.{found-pushed, found_in, same_or_not}
use Rattle.hm_model.proofs.NewPfsLemmas.{still_found}
use Rattle.hm_records.specs.Follows.{Follows, IsOf}
use Rattle.hm_records.specs.KeysFit.{KeysFit}
use Rattle.hm_records.specs.Payload.{IsPayload}
use Rattle.hm_records.specs.PfsRecord.{IsPfsRecord, pfs_bytes}
use Rattle.hm_records.specs.View.{IsViewOf}
use Rattle.hm_records.specs.declared.kind.TheConstants.{DIRECTORY}
use Rattle.hm_records.specs.declared.pfs_record.PfsRecord.{PfsRecord}
use Rattle.hm_records.proofs.CountsLemmas.{settled}
use Rattle.hm_records.proofs.MemberLemmas.{All-from_has}
use Rattle.hm_volume.specs.Records.{AreOfSystems, HasRecord, HaveRecords, IsRecordFor}
use Rattle.hm_objects.specs.Objects.{inode_of}
use Rattle.hm_objects.proofs.ShownLemmas.{directory_inode}
use Rattle.hm_pfs.specs.Systems.{AddsMaster, AddsSlave, AddsSystem, IsUnusedNumber, made_record, made_root, master_record, slave_record}
use Rattle.hm_image.specs.StandFor.{AreAtMost, AreBegun, AreUpTo, HasIds, HasViews, HaveNumbers, IsSourceless, OnEach, StandFor}
use Rattle.hm_image.proofs.FollowLemmas.{follows_one, follows_where, inodes_named, of_no_record, of_place, others_named}
use Rattle.hm_image.proofs.ListLemmas.{all_one, only_one}
use Rattle.hm_step.specs.Pruned.{HasSystemFor, IsEnough, StandAfter, StillKeeps}
use Rattle.hm_step.proofs.JobLemmas.{system_for}
use Rattle.hm_step.proofs.NextLemmas.{system_at}
use Rattle.hm_step.proofs.SystemNumberLemmas.{numbers_more}

-- ---- the new elements

root_payload : (pfs i : ℕ) → IsPayload (made_root pfs i)
root_payload pfs i = record {
  known = inl refl;
  inode = λ _. (inode_of DIRECTORY 0, directory_inode, refl);
  file_bytes = λ is. absurd (omega (arith, is));
  entry = λ is. absurd (omega (arith, is));
  target = λ is. absurd (omega (arith, is));
  pfs = λ is. absurd (omega (arith, is));
}

record_payload : (pfs i : ℕ) (r : PfsRecord) → IsPfsRecord r → IsPayload (made_record pfs r i)
record_payload pfs i r ranges = record {
  known = inr (inr (inr (inr refl)));
  inode = λ is. absurd (omega (arith, is));
  file_bytes = λ is. absurd (omega (arith, is));
  entry = λ is. absurd (omega (arith, is));
  target = λ is. absurd (omega (arith, is));
  pfs = λ _. (r, ranges, refl);
}

-- a new element is the inode of the root directory, or the record
abbrev IsMade : ℕ → ℕ → PfsRecord → FullElement → Type 0
IsMade pfs i r x = (x ≡ made_root pfs i) ⊎ (x ≡ made_record pfs r i)

module _ (pfs i : ℕ) (r : PfsRecord) (x : FullElement) (is : IsMade pfs i r x) where
  made_place : pfs_of x.key.localization ≡ pfs
  made_place = elim is [
    | inl root ↦ ap (λ (z : FullElement). pfs_of z.key.localization) root ∙ inodes_named pfs
    | inr of_record ↦ ap (λ (z : FullElement). pfs_of z.key.localization) of_record ∙ others_named pfs
  ]

  made_at : x.key.create ≡ i
  made_at = elim is [
    | inl root ↦ ap (λ (z : FullElement). z.key.create) root
    | inr of_record ↦ ap (λ (z : FullElement). z.key.create) of_record
  ]

  made_open : x.delete ≡ 0
  made_open = elim is [
    | inl root ↦ ap (λ (z : FullElement). z.delete) root
    | inr of_record ↦ ap (λ (z : FullElement). z.delete) of_record
  ]

  made_no_entry : x.key.rec_type ≡ DIRECTORY_ENTRY → ⊥
  made_no_entry of_type = elim is [
    | inl root ↦ absurd (omega (arith, of_type, ap (λ (z : FullElement). z.key.rec_type) root))
    | inr of_record ↦ absurd (omega (arith, of_type, ap (λ (z : FullElement). z.key.rec_type) of_record))
  ]

  made_payload : IsPfsRecord r → IsPayload x
  made_payload ranges = elim is [
    | inl root ↦ subst IsPayload (sym root) (root_payload pfs i)
    | inr of_record ↦ subst IsPayload (sym of_record) (record_payload pfs i r ranges)
  ]

-- the keys of both differ
made_one : (pfs i : ℕ) (r : PfsRecord) (x y : FullElement) → IsMade pfs i r x → IsMade pfs i r y → x.key ≡ y.key → x ≡ y
made_one pfs i r x y (inl root) (inl root') same = root ∙ sym root'
made_one pfs i r x y (inl root) (inr made) same =
    let type : x.key.rec_type ≡ y.key.rec_type = ap (λ (k : Key). k.rec_type) same in
    absurd (omega (arith, type, ap (λ (z : FullElement). z.key.rec_type) root, ap (λ (z : FullElement). z.key.rec_type) made))
made_one pfs i r x y (inr made) (inl root) same =
    let type : x.key.rec_type ≡ y.key.rec_type = ap (λ (k : Key). k.rec_type) same in
    absurd (omega (arith, type, ap (λ (z : FullElement). z.key.rec_type) root, ap (λ (z : FullElement). z.key.rec_type) made))
made_one pfs i r x y (inr made) (inr made') same = made ∙ sym made'

-- ---- the volume

module _ (volume : Volume) (pfs : ℕ) (new : PseudoFileSystem) (none : system_of volume pfs ≡ None) (number : new.number ≡ pfs) where
  found_added : system_of (with_system volume new) pfs ≡ Some new
  found_added =
      let yes : eqb new.number pfs ≡ true = grind (arith, nat_tests, number) in
      found-pushed volume.systems new pfs
      ∙ (ap (λ (x : Option PseudoFileSystem). option_map_or (λ (s : PseudoFileSystem). Some s) x (found_in (new ∷ []) pfs)) none
      ∙ ap (λ (b : Bool). if b then Some new else None) yes)

  found_still : (other : ℕ) (s : PseudoFileSystem) → system_of volume other ≡ Some s → system_of (with_system volume new) other ≡ Some s
  found_still other s is = still_found volume.systems new s other is

  is_another : (other : ℕ) (s : PseudoFileSystem) → system_of volume other ≡ Some s → other ≢ pfs
  is_another other s is same =
      let there : system_of volume pfs ≡ Some s = subst (λ (n : ℕ). system_of volume n ≡ Some s) same is in
      absurd (cc)

  found_beside : (other : ℕ) → other ≢ pfs → system_of (with_system volume new) other ≡ system_of volume other
  found_beside other differ =
      let no : eqb new.number other ≡ false = grind (arith, nat_tests, number, differ) in
      found-pushed volume.systems new other
      ∙ (ap (λ (b : Bool). option_map_or (λ (s : PseudoFileSystem). Some s) (found_in volume.systems other) (if b then Some new else None)) no
      ∙ by (found_in volume.systems other))
    where
      by : (found : Option PseudoFileSystem) → option_map_or (λ (s : PseudoFileSystem). Some s) found None ≡ found
      by None = refl
      by (Some s) = refl

  -- a fact of each PFS afterwards
  on_added : (P : ℕ → PseudoFileSystem → Type 0) → OnEach volume P → P pfs new → OnEach (with_system volume new) P
  on_added P each here other s is = elim (same_or_not other pfs) [
    | inl same ↦
        let there : system_of (with_system volume new) pfs ≡ Some s =
        subst (λ (n : ℕ). system_of (with_system volume new) n ≡ Some s) same is in
        let found : system_of (with_system volume new) pfs ≡ Some new = found_added in
        let one : new ≡ s = cc in
        subst (λ (n : ℕ). P n s) (sym same) (subst (P pfs) one here)
    | inr differ ↦ each other s (sym (found_beside other differ) ∙ is)
  ]

-- no element is of a number that a volume does not have
pub number_is_unused : (es : List FullElement) (volume : Volume) (pfs : ℕ) → StandFor es volume → system_of volume pfs ≡ None → IsUnusedNumber pfs es
number_is_unused es volume pfs stand none x has of_pfs =
    let (s, is) = system_at es volume x stand.of_systems has in
    let there : system_of volume pfs ≡ Some s = subst (λ (n : ℕ). system_of volume n ≡ Some s) of_pfs is in
    absurd (cc)

-- what jobs keep is of other numbers
pub more_keeps : (volume : Volume) (pfs : ℕ) (new : PseudoFileSystem) → system_of volume pfs ≡ None → new.number ≡ pfs
    → StillKeeps volume (with_system volume new)
more_keeps volume pfs new none number kept enough = record {
  within = on_added volume pfs new none number (λ other s. IsEnough (kept other) s.retention) enough.within
      (by (kept pfs) (enough.of_systems pfs));
  of_systems = λ other.
      system_for volume (with_system volume new) other (kept other) (λ s is. (s, found_still volume pfs new none number other s is))
      (enough.of_systems other);
} where
  by : (o : Option (List (ℕ × ℕ))) → HasSystemFor volume pfs o → IsEnough o new.retention
  by None there = tt
  by (Some ids) there = λ t keeps. inr (λ u has. let (s, is) = there u has in absurd (is_another volume pfs new none number pfs s is refl))

-- what a new PFS shows, and its ids
pub record IsNewSystem (last pfs i : ℕ) (tree : FileTree) (r : PfsRecord) (es' : List FullElement) (new : PseudoFileSystem) : Type 0 where
  pub number : new.number ≡ pfs
  pub ranges : IsPfsRecord r
  pub is_for : IsRecordFor new r
  pub ids : AreUpTo last pfs es' → HasIds es' last pfs new
  pub begun : AreBegun new
  pub unfed : new.role ≡ Slave → IsSourceless es' pfs new
  pub numbered : All (λ v. AreAtMost v.0 v.1) new.versions
  pub past : (t : ℕ) → t < i → as_of t no_tree new.versions ≡ no_tree
  pub present : (t : ℕ) → i ≤ t → as_of t no_tree new.versions ≡ tree

module _ (es es' : List FullElement) (volume : Volume) (pfs i : ℕ) (r : PfsRecord) (tree : FileTree) (New : FullElement → Type 0)
    (stand : StandFor es volume) (none : system_of volume pfs ≡ None) (of_new : (x : FullElement) → New x → IsMade pfs i r x)
    (adds : AddsSystem pfs i r New tree es es') where
  -- no element was of it
  unused : IsUnusedNumber pfs es
  unused = number_is_unused es volume pfs stand none

  came : (x : FullElement) → Contains es' x → IsMade pfs i r x ⊎ Contains es x
  came x has = elim ((adds.elements x).0 has) [
    | inl new ↦ inl (of_new x new)
    | inr old ↦ inr old
  ]

  -- of its number there are the new elements alone
  only_new : (x : FullElement) → Contains es' x → pfs_of x.key.localization ≡ pfs → IsMade pfs i r x
  only_new x has of_pfs = elim (came x has) [
    | inl new ↦ new
    | inr old ↦ absurd (unused x old of_pfs)
  ]

  keys : HaveOwnKeys es'
  keys x y has has' same = elim (came x has) [
    | inl new ↦ made_one pfs i r x y new (only_new y has' (place (sym same) ∙ made_place pfs i r x new)) same
    | inr old ↦ elim (came y has') [
      | inl new ↦ absurd (unused x old (place same ∙ made_place pfs i r y new))
      | inr old' ↦ stand.keys x y old old' same
    ]
  ] where
    place : {a b : Key} → a ≡ b → pfs_of a.localization ≡ pfs_of b.localization
    place is = ap (λ (k : Key). pfs_of k.localization) is

  -- ---- versions that follow one another

  -- the root directory of the new PFS is all that may have versions there
  the_root : (x : FullElement) → Contains es' x → IsOf pfs (subject_of x.key) → x ≡ made_root pfs i
  the_root x has of = elim (only_new x has (of_place pfs (subject_of x.key) of)) [
    | inl root ↦ root
    | inr made ↦ absurd (of_no_record pfs (subject_of x.key) of (ap (λ (z : FullElement). z.key.rec_type) made))
  ]

  follows_new : (t : ℕ) → Follows pfs t es'
  follows_new t =
      follows_one pfs t es' (λ x y has has' of of'. ap (λ (z : FullElement). z.key) (the_root x has of ∙ sym (the_root y has' of')))

  follows_still : (other t : ℕ) → other ≢ pfs → Follows other t es → Follows other t es'
  follows_still other t differ = follows_where other t es es' (λ x has of. elim (came x has) [
    | inl new ↦ absurd (differ (sym (of_place other (subject_of x.key) of) ∙ made_place pfs i r x new))
    | inr old ↦ old
  ])

  module _ (new : PseudoFileSystem) (drawn : i ≤ volume.last) (few : pfs < MOST_PFS) (is_new : IsNewSystem volume.last pfs i tree r es' new) where
    abbrev after : Volume
    after = with_system volume new

    number : new.number ≡ pfs
    number = is_new.number

    fit : IsBelow (2 ^ 64) es'
    fit = record {
      made = λ x has. elim (came x has) [
        | inl new ↦ omega (arith, made_at pfs i r x new, drawn, stand.drawn)
        | inr old ↦ stand.fit.made x old
      ];
      closed = λ x has. elim (came x has) [
        | inl new ↦ omega (arith, made_open pfs i r x new)
        | inr old ↦ stand.fit.closed x old
      ];
    }

    payloads : All IsPayload es'
    payloads = All-from_has IsPayload es' (λ x has. elim (came x has) [
      | inl new ↦ made_payload pfs i r x new is_new.ranges
      | inr old ↦ All-contains IsPayload es x stand.payloads old
    ])

    names : KeysFit name_hash es'
    names x entry has of_type = elim (came x has) [
      | inl new ↦ absurd (made_no_entry pfs i r x new of_type)
      | inr old ↦ stand.names x entry old of_type
    ]

    up_to : (other : ℕ) → AreUpTo volume.last other es → AreUpTo volume.last other es'
    up_to other old = record {
      made = λ x has of_pfs. elim (came x has) [
        | inl new ↦ omega (arith, made_at pfs i r x new, drawn)
        | inr there ↦ old.made x there of_pfs
      ];
      closed = λ x has of_pfs. elim (came x has) [
        | inl new ↦ omega (arith, made_open pfs i r x new)
        | inr there ↦ old.closed x there of_pfs
      ];
    }

    -- ---- records

    abbrev IsThere : ℕ → Type 0
    IsThere n = (s : PseudoFileSystem) × (system_of after n ≡ Some s)

    of_systems : AreOfSystems es' after
    of_systems = All-from_has (λ x. IsThere (pfs_of x.key.localization)) es' (λ x has. elim (came x has) [
      | inl made ↦ subst IsThere (sym (made_place pfs i r x made)) (new, found_added volume pfs new none number)
      | inr old ↦
          let (s, is) = system_at es volume x stand.of_systems old in
          (s, found_still volume pfs new none number (pfs_of x.key.localization) s is)
    ])

    abbrev Recorded : PseudoFileSystem → Type 0
    Recorded s = (r : PfsRecord) × HasRecord es' s.number r × IsRecordFor s r

    record_still : (s : PseudoFileSystem) → Contains volume.systems s → Recorded s
    record_still s has =
        let (r', its, for) =
        All-contains (λ (x : PseudoFileSystem). (r : PfsRecord) × HasRecord es x.number r × IsRecordFor x r) volume.systems s stand.records.each has in
        let there : system_of volume s.number ≡ Some s =
        All-contains (λ (x : PseudoFileSystem). system_of volume x.number ≡ Some x) volume.systems s stand.own has in
        let differ = is_another volume pfs new none number s.number s there in
        (r', record { ranges = its.ranges; there = (adds.records s.number (pfs_bytes r') differ).1 its.there }, for)

    record_new : Recorded new
    record_new = (
      r,
      subst (λ (n : ℕ). HasRecord es' n r) (sym number) (record { ranges = is_new.ranges; there = adds.record_is }),
      is_new.is_for,
    )

    records : HaveRecords es' after
    records = record {
      each = All-push Recorded volume.systems new (All-from_has Recorded volume.systems record_still) record_new;
      no_other = λ other r' has.
          let e = has.there.element in
          let here : pfs_of e.key.localization ≡ other =
          ap (λ (about : Subject). pfs_of about.localization) has.there.about ∙ others_named other in
          subst IsThere here (system_at es' after e of_systems has.there.there);
    }

    own_still : (s : PseudoFileSystem) → Contains volume.systems s → system_of after s.number ≡ Some s
    own_still s has =
        found_still volume pfs new none number s.number s
        (All-contains (λ (x : PseudoFileSystem). system_of volume x.number ≡ Some x) volume.systems s stand.own has)

    own : All (λ s. system_of after s.number ≡ Some s) after.systems
    own =
        All-push (λ s. system_of after s.number ≡ Some s) volume.systems new
        (All-from_has (λ s. system_of after s.number ≡ Some s) volume.systems own_still)
        (subst (λ (n : ℕ). system_of after n ≡ Some new) (sym number) (found_added volume pfs new none number))

    numbers : HaveNumbers after.systems
    numbers =
        numbers_more volume new (subst (λ (n : ℕ). system_of volume n ≡ None) (sym number) none)
        (subst (λ (n : ℕ). n < MOST_PFS) (sym number) few) stand.numbers

    -- ---- ids and views

    ids_still : OnEach volume (HasIds es' volume.last)
    ids_still other s is =
        let old : HasIds es volume.last other s = stand.ids other s is in
        record {
          master = λ role. record {
            elements = up_to other (old.master role).elements;
            versions = (old.master role).versions;
            keeps = (old.master role).keeps;
          };
          slave = old.slave;
        }

    ids_new : HasIds es' volume.last pfs new
    ids_new = is_new.ids (up_to pfs (record {
      made = λ x has of_pfs. absurd (unused x has of_pfs);
      closed = λ x has of_pfs. absurd (unused x has of_pfs);
    }))

    views_still : OnEach volume (λ other s. s.clear ≡ true → HasViews es' after other s)
    views_still other s is clear =
        let old : HasViews es volume other s = stand.views other s is clear in
        record {
          numbered = old.numbered;
          views = λ t le keeps.
              let before : at volume other t ≡ as_of t no_tree s.versions = rw is refl in
              let there : system_of after other ≡ Some s = found_still volume pfs new none number other s is in
              let later : at after other t ≡ as_of t no_tree s.versions = rw there refl in
              let differ = is_another volume pfs new none number other s is in
              subst (λ (shown : FileTree). IsViewOf es' other t shown) (before ∙ sym later)
              (adds.others t other (at volume other t) differ (record { settled = settled es t stand.keys; view = old.views t le keeps })).view;
          follows = follows_still other (shown_id volume.last s) (is_another volume pfs new none number other s is) old.follows;
        }

    views_new : HasViews es' after pfs new
    views_new = record {
      numbered = is_new.numbered;
      views = λ t le keeps.
          let there : system_of after pfs ≡ Some new = found_added volume pfs new none number in
          let here : at after pfs t ≡ as_of t no_tree new.versions = rw there refl in
          subst (λ (shown : FileTree). IsViewOf es' pfs t shown) (sym here) (elim (cases_lt t i) [
            | inl early ↦ subst (λ (shown : FileTree). IsViewOf es' pfs t shown) (sym (is_new.past t early)) (adds.past t early).view
            | inr late ↦ subst (λ (shown : FileTree). IsViewOf es' pfs t shown) (sym (is_new.present t late)) (adds.present t late).view
          ]);
      follows = follows_new (shown_id volume.last new);
    }

    -- ---- slaves into which nothing came

    unfed_still : OnEach volume (λ other s. s.role ≡ Slave → s.origin ≡ Nowhere → IsSourceless es' other s)
    unfed_still other s is slave nowhere =
        let old : IsSourceless es other s = stand.sourceless other s is slave nowhere in
        record {
          unsynced = old.unsynced;
          alone = λ x has of_pfs. elim (came x has) [
            | inl new' ↦ absurd (is_another volume pfs new none number other s is (sym of_pfs ∙ made_place pfs i r x new'))
            | inr there ↦ old.alone x there of_pfs
          ];
        }

    stand_added : StandFor es' after
    stand_added = record {
      keys = keys;
      fit = fit;
      payloads = payloads;
      names = names;
      records = records;
      drawn = stand.drawn;
      own = own;
      numbers = numbers;
      of_systems = of_systems;
      ids = on_added volume pfs new none number (HasIds es' volume.last) ids_still ids_new;
      begun = on_added volume pfs new none number (λ other s. AreBegun s) stand.begun is_new.begun;
      views = on_added volume pfs new none number (λ other s. s.clear ≡ true → HasViews es' after other s) views_still (λ clear. views_new);
      sourceless = on_added volume pfs new none number (λ other s. s.role ≡ Slave → s.origin ≡ Nowhere → IsSourceless es' other s) unfed_still
          (λ slave nowhere. is_new.unfed slave);
    }

    after_added : StandAfter volume es' after
    after_added = record { stand = stand_added; jobs = more_keeps volume pfs new none number }

-- ---- a master, and a slave

root_is_low : (i : ℕ) → 1 ≤ i → AreAtMost i root_tree
root_is_low i some o there =
    let same : directory_of root_number ≡ o = only_one (directory_of root_number) o there in
    let first : 1 ≡ o.number.0 = ap (λ (x : Object). x.number.0) same in
    omega (arith, some, first)

module _ (last pfs shared i : ℕ) (es' : List FullElement) (small : shared < 2 ^ 64) where
  is_master : 1 ≤ i → i ≤ last → IsNewSystem last pfs i root_tree (master_record shared) es' (new_master pfs shared ((i, root_tree) ∷ []))
  is_master some drawn = record {
    number = refl;
    ranges = record {
      shared = small;
      sync_end = omega arith;
      retention = record {
        intervals = (record { above = omega arith; ordered = omega arith; bounded = omega arith }, tt);
        few = omega arith;
      };
      role = record {
        no_sync_end = λ master. refl;
        master_is_open = λ master. inl (omega arith, omega arith);
        slave_is_not = λ slave. absurd (slave refl);
      };
    };
    is_for = (refl, refl, refl, refl);
    ids = λ up_to. record {
      master = λ role. record {
        elements = up_to;
        versions = all_one (λ v. v.0 ≤ last) (i, root_tree) drawn;
        keeps = λ t from to. inl (omega (arith, some, drawn, from), omega (arith, to));
      };
      slave = λ role. absurd (cc);
    };
    begun = all_one (λ v. 1 ≤ v.0) (i, root_tree) some;
    unfed = λ slave. absurd (cc);
    numbered = all_one (λ v. AreAtMost v.0 v.1) (i, root_tree) (root_is_low i some);
    past = λ t early. let no : nat_le i t ≡ false = grind (arith, nat_tests, early) in rw no refl;
    present = λ t late. let yes : nat_le i t ≡ true = grind (arith, nat_tests, late) in rw yes refl;
  }

  is_slave : ((x : FullElement) → Contains es' x → pfs_of x.key.localization ≡ pfs → x ≡ made_record pfs (slave_record shared) i)
      → IsNewSystem last pfs i no_tree (slave_record shared) es' (new_slave pfs shared)
  is_slave alone = record {
    number = refl;
    ranges = record {
      shared = small;
      sync_end = omega arith;
      retention = record { intervals = tt; few = omega arith };
      role = record {
        no_sync_end = λ master. refl;
        master_is_open = λ master. absurd (cc);
        slave_is_not = λ slave none. none;
      };
    };
    is_for = (refl, refl, refl, refl);
    ids = λ up_to. record {
      master = λ role. absurd (cc);
      slave = λ role. record {
        drawn = omega arith;
        keeps = λ synced. absurd (omega (arith, synced));
        no_later = λ t none. absurd none;
      };
    };
    begun = All-nil (λ v. 1 ≤ v.0);
    unfed = λ slave. record {
      unsynced = refl;
      alone = λ x has of_pfs. ap (λ (z : FullElement). subject_of z.key) (alone x has of_pfs);
    };
    numbered = All-nil (λ v. AreAtMost v.0 v.1);
    past = λ t early. refl;
    present = λ t late. refl;
  }

module _ (es es' : List FullElement) (volume : Volume) (pfs shared i : ℕ) (stand : StandFor es volume) (none : system_of volume pfs ≡ None) where
  pub master_stands : shared < 2 ^ 64 → pfs < MOST_PFS → 1 ≤ i → i ≤ volume.last → AddsMaster pfs shared i es es'
      → StandAfter volume es' (with_system volume (new_master pfs shared ((i, root_tree) ∷ [])))
  master_stands small few some drawn adds =
      after_added es es' volume pfs i (master_record shared) root_tree
      (λ x. (x ≡ made_root pfs i) ⊎ (x ≡ made_record pfs (master_record shared) i)) stand none (λ x is. is) adds
      (new_master pfs shared ((i, root_tree) ∷ [])) drawn few (is_master volume.last pfs shared i es' small some drawn)

  pub slave_is_alone : AddsSlave pfs shared i es es' → (x : FullElement) → Contains es' x → pfs_of x.key.localization ≡ pfs
      → x ≡ made_record pfs (slave_record shared) i
  slave_is_alone adds x has of_pfs = elim ((adds.elements x).0 has) [
    | inl new ↦ new
    | inr old ↦ absurd (number_is_unused es volume pfs stand none x old of_pfs)
  ]

  pub slave_stands : shared < 2 ^ 64 → pfs < MOST_PFS → i ≤ volume.last → AddsSlave pfs shared i es es'
      → StandAfter volume es' (with_system volume (new_slave pfs shared))
  slave_stands small few drawn adds =
      after_added es es' volume pfs i (slave_record shared) no_tree (λ x. x ≡ made_record pfs (slave_record shared) i) stand none
      (λ x is. inr is) adds (new_slave pfs shared) drawn few (is_slave volume.last pfs shared i es' small (slave_is_alone adds))

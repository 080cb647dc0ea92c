-- A fresh volume stands for the volume as it is made.
use Rattle.std.proofs.Common.{◌≡◌, inl, inr, ℕ, ◌^◌, ◌<◌, ◌≤◌, Bool, List, [], ◌∷◌, None, Some, true, false, eqb, refl, sym, ap, subst, ◌∙◌, arith}
use Rattle.std.specs.Prelude.{if◌then◌else◌}
use Rattle.std.specs.List.{Contains, IsDistinct}
use Rattle.std.proofs.lemmas.Bool.{eqb-true}
use Rattle.std.proofs.lemmas.Map.Keys.{IsDistinct-from_apart}
use Rattle.hm_types.specs.Elements.{FullElement, Key}
use Rattle.hm_types.specs.Intervals.{Keeps, open_end}
use Rattle.hm_types.specs.Tree.{directory_of, root_number, root_tree}
use Rattle.hm_types.specs.declared.object.Object.{Object}
use Rattle.hm_types.specs.declared.limits.TheConstants.{MOST_PFS}
use Rattle.hm_header.specs.Range.{IsSize}
use Rattle.hm_key.specs.Element.{pfs_of}
use Rattle.hm_model.specs.Volume.{Nowhere, PseudoFileSystem, Slave, at, fresh, new_master, system_of}
use Rattle.hm_key.specs.Counts.{Subject, record_subject, subject_of}
use Rattle.hm_key.specs.Versions.{HaveOwnKeys, IsBelow}
use Rattle.hm_records.specs.Follows.{Follows, IsOf}
use Rattle.hm_records.specs.View.{IsViewOf}
use Rattle.hm_records.specs.declared.pfs_record.PfsRecord.{PfsRecord}
use Rattle.hm_image.specs.Fresh.{IsFresh, fresh_header, fresh_record}
use Rattle.hm_volume.specs.Records.{AreOfSystems, HasRecord, HaveRecords, IsRecordFor}
use Rattle.hm_image.specs.StandFor.{AreAtMost, AreBegun, HasIds, HasMasterIds, HasViews, IsSourceless, OnEach, StandFor}
use Rattle.hm_image.specs.Stands.{StandsFor}
use Rattle.hm_image.proofs.FollowLemmas.{follows_one, of_no_record}
use Rattle.hm_image.proofs.FreshLemmas.{fresh_is_sound}
use Rattle.hm_image.proofs.FreshPayloadLemmas.{fresh_full, fresh_record_is, full_elements, full_inode, full_keys, full_payloads, full_record}
use Rattle.hm_image.proofs.FreshViewLemmas.{fresh_view, is_inode, is_record, made_at_one}
use Rattle.hm_image.proofs.ListLemmas.{all_one, all_two, one_of_two, only_one}

-- its PFS
abbrev system : PseudoFileSystem
system = new_master 0 0 ((1, root_tree) ∷ [])

-- ---- records

record_there : HasRecord full_elements 0 fresh_record
record_there = record {
  ranges = fresh_record_is;
  there = record {
    element = full_record;
    there = (1, omega arith, refl);
    about = refl;
    holds = refl;
    unclosed = refl;
    newest = λ other there about. omega (arith, made_at_one other there);
  };
}

number_is : (pfs : ℕ) (r : PfsRecord) → HasRecord full_elements pfs r → 0 ≡ pfs
number_is pfs r has =
    let element = is_record has.there.element (record_subject pfs) has.there.there has.there.about (λ same. omega arith) in
    ap (λ (e : FullElement). e.key.key) element ∙ ap (λ (s : Subject). s.key) has.there.about

module _ (bigblocks : ℕ) where
  records : HaveRecords full_elements (fresh bigblocks)
  records =
      let P : ℕ → Type 0 = λ pfs. (s : PseudoFileSystem) × (system_of (fresh bigblocks) pfs ≡ Some s) in
      record {
        each = all_one (λ s. (r : PfsRecord) × HasRecord full_elements s.number r × IsRecordFor s r) system
            (fresh_record, record_there, (refl, refl, refl, refl));
        no_other = λ pfs r has. subst P (number_is pfs r has) (system, refl);
      }

  of_systems : AreOfSystems full_elements (fresh bigblocks)
  of_systems =
      all_two (λ e. (s : PseudoFileSystem) × (system_of (fresh bigblocks) (pfs_of e.key.localization) ≡ Some s)) full_inode full_record
      (system, refl) (system, refl)

-- ---- ids

-- of its number there is one PFS
found_is : (bigblocks pfs : ℕ) (s : PseudoFileSystem) → system_of (fresh bigblocks) pfs ≡ Some s → (0 ≡ pfs) × (system ≡ s)
found_is bigblocks pfs s is = by (eqb 0 pfs) refl is where
  by : (test : Bool) → eqb 0 pfs ≡ test → (if test then Some system else None) ≡ Some s → (0 ≡ pfs) × (system ≡ s)
  by true same found = (eqb-true 0 pfs same, cc)
  by false other found = absurd (cc)

on_system : (bigblocks : ℕ) (P : ℕ → PseudoFileSystem → Type 0) → P 0 system → OnEach (fresh bigblocks) P
on_system bigblocks P one pfs s is =
    let (number, same) = found_is bigblocks pfs s is in
    subst (λ (n : ℕ). P n s) number (subst (P 0) same one)

master_ids : HasMasterIds full_elements 1 0 system
master_ids = record {
  elements = record {
    made = λ e there of_pfs. omega (arith, made_at_one e there);
    closed = λ e there of_pfs. omega (arith, made_at_one e there);
  };
  versions = all_one (λ v. v.0 ≤ 1) (1, root_tree) (omega arith);
  keeps = λ t from to. inl (omega (arith, from), omega (arith, to));
}

ids : HasIds full_elements 1 0 system
ids = record { master = λ role. master_ids; slave = λ role. absurd (cc) }

-- ---- views

-- of the ids up to the last one, the record keeps that alone
last_alone : (t : ℕ) → t ≤ 1 → Keeps ((1, open_end) ∷ []) t → 1 ≡ t
last_alone t few (inl holds) = omega arith
last_alone t few (inr none) = absurd none

root_is_one : AreAtMost 1 root_tree
root_is_one o there =
    let same : directory_of root_number ≡ o = only_one (directory_of root_number) o there in
    let number : 1 ≡ o.number.0 = ap (λ (x : Object). x.number.0) same in
    omega (arith, number)

-- the root directory's inode is all that may have versions
follows : Follows 0 1 full_elements
follows = follows_one 0 1 full_elements
    (λ x y has has' of of'. ap (λ (e : FullElement). e.key) (sym (the_inode x has of) ∙ the_inode y has' of'))
  where
    the_inode : (x : FullElement) → Contains full_elements x → IsOf 0 (subject_of x.key) → full_inode ≡ x
    the_inode x has of = is_inode x (subject_of x.key) has refl (of_no_record 0 (subject_of x.key) of)

-- ---- elements

keys : HaveOwnKeys full_elements
keys x y has_x has_y same = elim (one_of_two full_inode full_record x has_x) [
  | inl is_x ↦ elim (one_of_two full_inode full_record y has_y) [
    | inl is_y ↦ sym is_x ∙ is_y
    | inr is_y ↦ absurd (apart (ap (λ (e : FullElement). e.key) is_x ∙ (same ∙ sym (ap (λ (e : FullElement). e.key) is_y))))
  ]
  | inr is_x ↦ elim (one_of_two full_inode full_record y has_y) [
    | inl is_y ↦ absurd (apart (ap (λ (e : FullElement). e.key) is_y ∙ (sym same ∙ sym (ap (λ (e : FullElement). e.key) is_x))))
    | inr is_y ↦ sym is_x ∙ is_y
  ]
] where
  apart : full_inode.key ≡ full_record.key → ⊥
  apart is = let types : full_inode.key.rec_type ≡ full_record.key.rec_type = ap (λ (k : Key). k.rec_type) is in absurd (omega (arith, types))

fit : IsBelow (2 ^ 64) full_elements
fit = record {
  made = λ e there. omega (arith, made_at_one e there);
  closed = λ e there. omega (arith, made_at_one e there);
}

module _ (bigblocks : ℕ) where
  has_views : HasViews full_elements (fresh bigblocks) 0 system
  has_views = record {
    numbered = all_one (λ v. AreAtMost v.0 v.1) (1, root_tree) root_is_one;
    views = λ t few keeps.
        subst (λ (x : ℕ). IsViewOf full_elements 0 x (at (fresh bigblocks) 0 x)) (last_alone t few keeps) fresh_view;
    follows = follows;
  }

  -- one number is apart from all others
  alone : IsDistinct eqb (0 ∷ [])
  alone = IsDistinct-from_apart eqb (0 ∷ []) (λ i j d before within. absurd (omega (arith, before, within)))

  stand : StandFor full_elements (fresh bigblocks)
  stand = record {
    keys = keys;
    fit = fit;
    payloads = full_payloads;
    names = full_keys;
    records = records bigblocks;
    drawn = omega arith;
    own = all_one (λ s. system_of (fresh bigblocks) s.number ≡ Some s) system refl;
    numbers = record { apart = alone; few = all_one (λ (s : PseudoFileSystem). s.number < MOST_PFS) system (omega arith) };
    of_systems = of_systems bigblocks;
    ids = on_system bigblocks (HasIds full_elements 1) ids;
    begun = on_system bigblocks (λ pfs s. AreBegun s) (all_one (λ v. 1 ≤ v.0) (1, root_tree) (omega arith));
    views = on_system bigblocks (λ pfs s. s.clear ≡ true → HasViews full_elements (fresh bigblocks) pfs s) (λ clear. has_views);
    sourceless = on_system bigblocks (λ pfs s. s.role ≡ Slave → s.origin ≡ Nowhere → IsSourceless full_elements pfs s) (λ slave none. absurd (cc));
  }

  module _ (image : List ℕ) (size : IsSize bigblocks) (is : IsFresh bigblocks image) where
    pub fresh_stands : StandsFor image (fresh bigblocks)
    fresh_stands = record {
      header = fresh_header bigblocks;
      sound = fresh_is_sound bigblocks image size is;
      bigblocks = refl;
      last = refl;
      elements = subst (λ (es : List FullElement). StandFor es (fresh bigblocks)) (sym (fresh_full bigblocks image is)) stand;
    }

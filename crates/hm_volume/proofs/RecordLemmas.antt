-- What a record tells of the pseudo file system of its number.
use Rattle.std.proofs.Common.{◌≡◌, ℕ, Bool, true, false, List, [], ◌∷◌, cond, refl, subst}
use Rattle.std.specs.Prelude.{◌==◌, Option, None, Some, find}
use Rattle.std.specs.List.{Contains}
use Rattle.std.proofs.lemmas.Bool.{eqb-true}
use Rattle.std.proofs.lemmas.List.Elements.{All-contains}
use Rattle.hm_types.specs.Elements.{FullElement}
use Rattle.hm_key.specs.Counts.{IsRecordOf}
use Rattle.hm_key.specs.Versions.{HaveOwnKeys}
use Rattle.hm_model.specs.Volume.{PseudoFileSystem, Volume, system_of}
use Rattle.hm_records.specs.PfsRecord.{pfs_bytes}
use Rattle.hm_records.specs.declared.pfs_record.PfsRecord.{PfsRecord}
use Rattle.hm_records.proofs.CountsLemmas.{record_one}
use Rattle.hm_records.proofs.MemberLemmas.{has_head, has_tail}
use Rattle.hm_records.proofs.PfsLemmas.{one_record}
use Rattle.hm_volume.specs.Records.{HasRecord, HaveRecords, IsRecordFor}

-- what is found is in the list and passes
find_some : {X : Type 0} (p : X → Bool) (xs : List X) (x : X) → find p xs ≡ Some x → Contains xs x × (p x ≡ true)
find_some p [] x is = absurd (cc)
find_some {X} p (y ∷ xs) x is = by_test (p y) refl is (find_some p xs x) where
  by_test : (b : Bool) → p y ≡ b → cond b (Some y) (find p xs) ≡ Some x → (find p xs ≡ Some x → Contains xs x × (p x ≡ true))
      → Contains (y ∷ xs) x × (p x ≡ true)
  by_test true passes here rest =
      let e : y ≡ x = cc in
      (subst (λ (z : X). Contains (y ∷ xs) z) e (has_head y xs), subst (λ (z : X). p z ≡ true) e passes)
  by_test false fails here rest = (has_tail y x xs (rest here).0, (rest here).1)

module _ (es : List FullElement) (volume : Volume) (pfs : ℕ) (have : HaveRecords es volume) where
  -- the record of the PFS that a volume has
  its_record : (s : PseudoFileSystem) → system_of volume pfs ≡ Some s → (r : PfsRecord) × HasRecord es pfs r × IsRecordFor s r
  its_record s is =
      let (has, number) = find_some (λ (s : PseudoFileSystem). s.number == pfs) volume.systems s is in
      let (r, its, for) = All-contains (λ (s : PseudoFileSystem). (r : PfsRecord) × HasRecord es s.number r × IsRecordFor s r) volume.systems s have.each has in
      (r, subst (λ (n : ℕ). HasRecord es n r) (eqb-true s.number pfs number) its, for)

  pub system_none : ((bytes : List ℕ) → IsRecordOf es pfs bytes → ⊥) → system_of volume pfs ≡ None
  system_none none = by_system (system_of volume pfs) refl where
    by_system : (o : Option PseudoFileSystem) → system_of volume pfs ≡ o → o ≡ None
    by_system None is = refl
    by_system (Some s) is = let (r, its, for) = its_record s is in absurd (none (pfs_bytes r) its.there)

  pub system_some : (r : PfsRecord) → HaveOwnKeys es → HasRecord es pfs r
      → (s : PseudoFileSystem) × (system_of volume pfs ≡ Some s) × IsRecordFor s r
  system_some r own has =
      let (s, is) = have.no_other pfs r has in
      let (r', its, for) = its_record s is in
      let same : r' ≡ r = one_record r' r its.ranges has.ranges (record_one es pfs (pfs_bytes r') (pfs_bytes r) own its.there has.there) in
      (s, is, subst (λ (x : PfsRecord). IsRecordFor s x) same for)

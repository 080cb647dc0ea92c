-- What elements that stand for a volume promise to the next call.
use Rattle.std.proofs.Common.{◌≡◌, ℕ, ◌+◌, ◌^◌, Bool, true, false, List, [], ◌∷◌, eqb, refl, sym, ap, subst, ◌∙◌, inl, inr, arith}
use Rattle.std.specs.Prelude.{◌⊎◌, Option, None, Some, if◌then◌else◌}
use Rattle.std.specs.List.{All}
use Rattle.std.proofs.lemmas.Bool.{eqb-true}
use Rattle.std.proofs.lemmas.List.Elements.{All-contains, All-head, All-tail}
use Rattle.hm_types.specs.Elements.{FullElement}
use Rattle.hm_key.specs.Balance.{full_of}
use Rattle.hm_cursor.specs.Told.{IsBroken, Lists, fulls}
use Rattle.hm_model.specs.Volume.{Master, PseudoFileSystem, Role, Slave, Volume, system_of}
use Rattle.hm_model.proofs.GrowthLemmas.{found_in}
use Rattle.hm_records.specs.Payload.{IsPayload}
use Rattle.hm_records.specs.PfsRecord.{pfs_bytes}
use Rattle.hm_types.specs.Intervals.{open_end}
use Rattle.hm_records.specs.declared.pfs_record.PfsRecord.{PfsRecord}
use Rattle.hm_records.proofs.CountsLemmas.{record_counts}
use Rattle.hm_records.proofs.MemberLemmas.{has_map}
use Rattle.hm_volume.specs.Records.{HasRecord, IsRecordFor, is_master}
use Rattle.hm_calls.specs.Known.{AreBelow, AreOlderOrSlaves, IsSlaves}
use Rattle.hm_image.specs.StandFor.{StandFor}
use Rattle.hm_step.proofs.NextLemmas.{older, system_at}

-- a fact of all PFS is one of the PFS that is found under a number
of_found : (P : PseudoFileSystem → Type 0) (pfs : ℕ) (systems : List PseudoFileSystem) (s : PseudoFileSystem) → All P systems
    → found_in systems pfs ≡ Some s → P s × (s.number ≡ pfs)
of_found P pfs [] s all is = absurd (cc)
of_found P pfs (x ∷ xs) s all is = by (eqb x.number pfs) refl is (of_found P pfs xs s (All-tail P x xs all)) where
  by : (test : Bool) → eqb x.number pfs ≡ test → (if test then Some x else found_in xs pfs) ≡ Some s
      → (found_in xs pfs ≡ Some s → P s × (s.number ≡ pfs)) → P s × (s.number ≡ pfs)
  by true same is rest =
      let one : x ≡ s = cc in
      (subst P one (All-head P x xs all), ap (λ (y : PseudoFileSystem). y.number) (sym one) ∙ eqb-true x.number pfs same)
  by false other is rest = rest is

module _ (es : List FullElement) (volume : Volume) (stand : StandFor es volume) where
  pub record_at : (pfs : ℕ) (s : PseudoFileSystem) → system_of volume pfs ≡ Some s → (r : PfsRecord) × HasRecord es pfs r × IsRecordFor s r
  record_at pfs s is =
      let ((r, has, for), number) =
      of_found (λ (x : PseudoFileSystem). (r : PfsRecord) × HasRecord es x.number r × IsRecordFor x r) pfs volume.systems s stand.records.each is in
      (r, subst (λ (n : ℕ). HasRecord es n r) number has, for)

  -- a slave is one by its record of now
  slave : (pfs : ℕ) (s : PseudoFileSystem) → system_of volume pfs ≡ Some s → s.role ≡ Slave → IsSlaves es pfs
  slave pfs s is role =
      let (r, has, for) = record_at pfs s is in
      let not_master : r.master ≡ false = for.0 ∙ ap is_master role in
      (r, has.ranges, (record_counts es pfs (2 ^ 64) open_end (pfs_bytes r) stand.fit (omega arith)).0 has.there, not_master)

  pub known : AreOlderOrSlaves (volume.last + 1) es
  known pfs = by (system_of volume pfs) refl where
    by : (found : Option PseudoFileSystem) → system_of volume pfs ≡ found → IsSlaves es pfs ⊎ AreBelow pfs (volume.last + 1) es
    by None none = inr (λ x has of_pfs.
        let (s, is) = system_at es volume x stand.of_systems has in
        let same : system_of volume pfs ≡ Some s = subst (λ (n : ℕ). system_of volume n ≡ Some s) of_pfs is in
        absurd (cc))
    by (Some s) is = by_role s.role refl where
      by_role : (role : Role) → s.role ≡ role → IsSlaves es pfs ⊎ AreBelow pfs (volume.last + 1) es
      by_role Master role = inr (older es volume stand pfs s is role)
      by_role Slave role = inl (slave pfs s is role)

-- no payload is broken where each keeps its grammar
pub none_broken : (lists : Lists) (at : ℕ) → All IsPayload (fulls lists) → IsBroken lists at → ⊥
none_broken lists at all is =
    is.broken (All-contains IsPayload (fulls lists) (full_of lists.1 is.element) all (has_map (full_of lists.1) lists.0 is.element is.there))

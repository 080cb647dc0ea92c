-- What replacing a record leaves known of ids, and what it takes of the space.
use Rattle.std.proofs.Common.{◌≡◌, ◌≢◌, ℕ, ◌≤◌, List, Bool, true, false, length, Option, Some, None, Result, Ok, Err, refl, sym, ap, subst, ◌∙◌, inl, inr}
use Rattle.std.proofs.Common.{arith}
use Rattle.std.specs.Prelude.{◌==◌, ◌⊎◌, IfSome, OnOk, if◌then◌else◌, is_some, nat_eq}
use Rattle.std.specs.List.{Contains}
use Rattle.std.proofs.lemmas.Bool.Decides.{nat_tests}
use Rattle.hm_types.specs.Elements.{FullElement}
use Rattle.hm_types.specs.Space.{Spends, in_zone, nothing, rounded}
use Rattle.hm_key.specs.Charges.{Charges}
use Rattle.hm_types.specs.declared.space.TheConstants.{INSERT_ROOM, PAYLOAD_RESERVE, TREE_RESERVE}
use Rattle.hm_types.specs.declared.zone.TheConstants.{META_ZONE, TREE_ZONE}
use Rattle.hm_key.specs.Balance.{Balanced, content_of, full_elements}
use Rattle.hm_key.specs.Counts.{Counts, record_subject}
use Rattle.hm_key.specs.Element.{pfs_of}
use Rattle.hm_key.specs.Elements.{IsContent}
use Rattle.hm_key.specs.Extents.{Extent}
use Rattle.hm_key.specs.Versions.{HaveOwnKeys}
use Rattle.hm_key.specs.declared.element.Element.{Element}
use Rattle.hm_retain.specs.Retention.{IsRetention}
use Rattle.hm_cursor.proofs.CallLemmas.{known_after, known_both, writes_from}
use Rattle.hm_cursor.proofs.PayloadLemmas.{full_sorted}
use Rattle.hm_cursor.specs.Told.{OnBalanced, fulls}
use Rattle.hm_cursor.specs.Write.{HasRoomFor, Writes, most_payload, taken}
use Rattle.hm_records.proofs.CountsLemmas.{own_keys-sorted, settled}
use Rattle.hm_records.proofs.PfsLemmas.{length-pfs, one_record}
use Rattle.hm_records.specs.PfsRecord.{pfs_bytes}
use Rattle.hm_types.specs.Intervals.{open_end}
use Rattle.hm_records.specs.declared.pfs_record.PfsRecord.{PfsRecord}
use Rattle.hm_pfs.specs.Records.{Becomes, rewritten, stays}
use Rattle.hm_calls.specs.Known.{AreBelow, AreKnown, AreOlderOrSlaves, IsOlderThan, IsSlaves}
use Rattle.hm_calls.specs.Prunes.{IsRetainedIn, SetsTo}
use Rattle.hm_calls.specs.Space.{TakesAtMost}
use Rattle.hm_calls.specs.Writes.{HasReserves, reserves}
use Rattle.hm_calls.specs.declared.pruning.Led.{Led}
use Rattle.hm_calls.specs.declared.stop.Stop.{Stop}
use Rattle.hm_calls.proofs.TakeLemmas.{charges_lower, takes_charged, took_admitted}

-- ---- what stays known of ids

other_record : (pfs other : ℕ) → other ≢ pfs → record_subject other ≢ record_subject pfs
other_record pfs other differ same = differ (ap (λ s. s.key) same)

same_or_other : (a b : ℕ) → (a ≡ b) ⊎ (a ≢ b)
same_or_other a b = by (a == b) refl where
  by : (test : Bool) → (a == b) ≡ test → (a ≡ b) ⊎ (a ≢ b)
  by true is = inl (grind (arith, nat_tests, is))
  by false is = inr (λ same. absurd (grind (arith, nat_tests, is, same)))

older_as : (pfs : ℕ) (bytes : List ℕ) (i other : ℕ) (es : List FullElement) → AreBelow other i es → (e x : FullElement) → Contains es e
    → Becomes pfs bytes es e x → pfs_of x.key.localization ≡ other → IsOlderThan i x
older_as pfs bytes i other es below e _ has (rewritten is) at = record { made = (below e has at).made; closed = (below e has at).closed }
older_as pfs bytes i other es below e _ has (stays not) at = below e has at

cut_older : (pfs i : ℕ) (to : Option PfsRecord) (es es' : List FullElement) → HaveOwnKeys es → IsRetainedIn pfs to es → SetsTo pfs to es es'
    → AreOlderOrSlaves i es → AreOlderOrSlaves i es'
cut_older pfs i None es es' own retained same known other = subst (AreOlderOrSlaves i) (sym same) known other
cut_older pfs i (Some to) es es' own retained sets known other = elim (known other) [
  | inl (r, range, here, slave) ↦ elim (same_or_other other pfs) [
    | inl same ↦
        let at_pfs : Counts es open_end (record_subject pfs) (pfs_bytes r) =
        subst (λ (n : ℕ). Counts es open_end (record_subject n) (pfs_bytes r)) same here in
        let one : retained.was ≡ r =
        one_record retained.was r retained.ranges_before range
        (settled es open_end own (record_subject pfs) (pfs_bytes retained.was) (pfs_bytes r) retained.counts at_pfs) in
        inl (subst (IsSlaves es') (sym same) (
          to,
          retained.ranges,
          (sets.record_now (pfs_bytes r) (pfs_bytes to) at_pfs).1 refl,
          ap (λ (q : PfsRecord). q.master) retained.rest ∙ ap (λ (q : PfsRecord). q.master) one ∙ slave,
        ))
    | inr differ ↦
        inl (r, range, (sets.elsewhere open_end (record_subject other) (pfs_bytes r) (other_record pfs other differ)).1 here, slave)
  ]
  | inr below ↦ inr (λ x has at.
      let (e, there, becomes) = (sets.elements x).0 has in
      older_as pfs (pfs_bytes to) i other es below e x there becomes at)
]

-- what is known of ids before the record was replaced is known after it
pub known_cut : {S : Type 0} (elements_of : S → Option (List Element)) (extents_of : S → Option (List Extent)) (old mid new : S) (pfs : ℕ)
    (to : Option PfsRecord) (result : Result Led Stop) → IfSome (elements_of old) IsContent → Balanced (elements_of old) (extents_of old)
    → OnBalanced (elements_of old) (extents_of old) (λ lists. IsRetainedIn pfs to (fulls lists))
    → elements_of mid ≡ elements_of old → extents_of mid ≡ extents_of old
    → OnOk result (is_some (elements_of new) ≡ is_some (elements_of mid)) → OnOk result (is_some (extents_of new) ≡ is_some (extents_of mid))
    → OnOk result (Writes elements_of extents_of (SetsTo pfs to) mid new)
    → OnOk result ((i : ℕ) → AreKnown (elements_of old) (extents_of old) i → AreKnown (elements_of new) (extents_of new) i)
known_cut elements_of extents_of old mid new pfs to (Err e) content balanced retained same same' told told' wrote = tt
known_cut elements_of extents_of old mid new pfs to (Ok led) content balanced retained same same' told told' wrote = λ i known.
    known_after elements_of extents_of (SetsTo pfs to)
    (λ lists. (HaveOwnKeys (fulls lists) × IsRetainedIn pfs to (fulls lists)) × AreOlderOrSlaves i (fulls lists)) (AreOlderOrSlaves i) old new
    (told ∙ ap is_some same) (told' ∙ ap is_some same') balanced
    (known_both (content_of (elements_of old) (extents_of old)) (λ lists a b. (a, b)) (facts (elements_of old) (extents_of old) content balanced retained)
    known)
    (λ was es' facts set. cut_older pfs i to (fulls was) es' facts.0.0 facts.0.1 set facts.1)
    (writes_from elements_of extents_of (SetsTo pfs to) old mid new same same' wrote) where
      facts : (es : Option (List Element)) (xs : Option (List Extent)) → IfSome es IsContent → Balanced es xs
          → OnBalanced es xs (λ lists. IsRetainedIn pfs to (fulls lists))
          → IfSome (content_of es xs) (λ lists. HaveOwnKeys (fulls lists) × IsRetainedIn pfs to (fulls lists))
      facts None xs content balanced retained = tt
      facts (Some es) None content balanced retained = tt
      facts (Some es) (Some xs) content balanced retained =
          (own_keys-sorted (full_elements es xs) (full_sorted es xs content.rising), retained balanced)

-- ---- space

-- a record of a retention fits the room of its zone
record_size : (r : PfsRecord) → IsRetention r.retention → length (pfs_bytes r) ≤ most_payload
record_size r small = omega (arith, length-pfs r, small.few)

pub record_room : (room : ℕ → ℕ) (r : PfsRecord) → IsRetention r.retention → HasReserves room → HasRoomFor room META_ZONE (pfs_bytes r)
record_room room r small has = record {
  tree = let tree = has.tree in omega (arith, tree);
  payload = let meta = has.meta in let size = record_size r small in omega (arith, meta, size);
}

if_less : (t : Bool) (a b : ℕ) → a ≤ b → (if t then a else 0) ≤ (if t then b else 0)
if_less true a b less = less
if_less false a b less = omega arith

zone_less : (one a b zone : ℕ) → a ≤ b → in_zone one a zone ≤ in_zone one b zone
zone_less one a b zone less = if_less (nat_eq zone one) a b less

pub record_spends : {S : Type 0} (room_of : S → ℕ → ℕ) (free_of : S → ℕ) (r : PfsRecord) (old new : S) → IsRetention r.retention
    → Spends room_of free_of (taken META_ZONE (pfs_bytes r)) old new → Spends room_of free_of reserves old new
record_spends room_of free_of r old new small spends = record {
  room = λ zone.
      let size = record_size r small in
      let tree : in_zone TREE_ZONE INSERT_ROOM zone ≤ in_zone TREE_ZONE TREE_RESERVE zone =
      zone_less TREE_ZONE INSERT_ROOM TREE_RESERVE zone (omega arith) in
      let meta : in_zone META_ZONE (rounded (length (pfs_bytes r))) zone ≤ in_zone META_ZONE PAYLOAD_RESERVE zone =
      zone_less META_ZONE (rounded (length (pfs_bytes r))) PAYLOAD_RESERVE zone (omega (arith, size)) in
      let spent = spends.room zone in
      omega (arith, tree, meta, spent);
  free = spends.free;
}

-- a record was put in its place behind an admission
pub takes_record : {S : Type 0} (room_of : S → ℕ → ℕ) (free_of : S → ℕ) (s t u : S) (r : PfsRecord) {A E : Type 0} (result : Result A E)
    → IsRetention r.retention → Charges room_of free_of nothing s t → Spends room_of free_of (taken META_ZONE (pfs_bytes r)) t u
    → TakesAtMost room_of free_of reserves s u result
takes_record room_of free_of s t u r result small admitted spends = by result where
  charged : Charges room_of free_of reserves s u
  charged = took_admitted room_of free_of reserves s s t u refl refl admitted (record_spends room_of free_of r t u small spends)

  by : {A E : Type 0} (result : Result A E) → TakesAtMost room_of free_of reserves s u result
  by (Ok x) = takes_charged room_of free_of reserves s u x charged
  by (Err e) = record { room = charges_lower room_of free_of reserves s u charged; charges = tt }

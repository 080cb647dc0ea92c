-- What is known of the ids in a store stays known for the next id.
use Rattle.std.proofs.Common.{◌≡◌, ℕ, ◌+◌, arith, List, Option, None, Some, Result, Ok, Err, refl, sym, ap, subst, ◌∙◌, inl, inr}
use Rattle.std.specs.Prelude.{is_some, OnOk}
use Rattle.hm_types.specs.Elements.{FullElement}
use Rattle.hm_key.specs.Balance.{Balanced}
use Rattle.hm_key.specs.Element.{pfs_of}
use Rattle.hm_key.specs.Extents.{Extent}
use Rattle.hm_key.specs.declared.element.Element.{Element}
use Rattle.hm_records.specs.PfsRecord.{pfs_bytes}
use Rattle.hm_types.specs.Intervals.{open_end}
use Rattle.hm_cursor.specs.Told.{fulls}
use Rattle.hm_cursor.specs.Views.{WritesIn}
use Rattle.hm_cursor.specs.Write.{Writes}
use Rattle.hm_cursor.proofs.CallLemmas.{known_after}
use Rattle.hm_dirs.proofs.WriteLemmas.{writes_as}
use Rattle.hm_calls.specs.Known.{AreKnown, AreOlderOrSlaves}

-- after a call by `i` that wrote in one pseudo file system
pub older_still : (pfs i : ℕ) (New : FullElement → Type 0) (es es' : List FullElement) → WritesIn pfs i New es es' → AreOlderOrSlaves i es
    → AreOlderOrSlaves (i + 1) es'
older_still pfs i New es es' writes known other = elim (known other) [
  | inl (r, range, here, is) ↦ inl (r, range, (writes.records_then open_end other (pfs_bytes r)).1 here, is)
  | inr below ↦ inr (λ x has at.
      let now = writes.up_to x.key.localization (record {
        made = λ y there place. let was = (below y there (ap pfs_of place ∙ at)).made in omega (arith, was);
        closed = λ y there place. let was = (below y there (ap pfs_of place ∙ at)).closed in omega (arith, was);
      }) in
      let made = now.made x has refl in
      let closed = now.closed x has refl in
      record { made = omega (arith, made); closed = omega (arith, closed) })
]

-- an id later the same is known
older_next : (i : ℕ) (es : List FullElement) → AreOlderOrSlaves i es → AreOlderOrSlaves (i + 1) es
older_next i es known other = elim (known other) [
  | inl slave ↦ inl slave
  | inr below ↦ inr (λ x has at.
      let made = (below x has at).made in
      let closed = (below x has at).closed in
      record { made = omega (arith, made); closed = omega (arith, closed) })
]

module _ {S : Type 0} (elements_of : S → Option (List Element)) (extents_of : S → Option (List Extent)) where
  -- what is known after a call that wrote by `i`
  pub known_written : (pfs i : ℕ) (New : FullElement → Type 0) (old new : S) → is_some (elements_of new) ≡ is_some (elements_of old)
      → is_some (extents_of new) ≡ is_some (extents_of old) → Balanced (elements_of old) (extents_of old) → AreKnown (elements_of old) (extents_of old) i
      → Writes elements_of extents_of (WritesIn pfs i New) old new → AreKnown (elements_of new) (extents_of new) (i + 1)
  known_written pfs i New old new elements extents balanced known wrote =
      known_after elements_of extents_of (WritesIn pfs i New) (λ lists. AreOlderOrSlaves i (fulls lists)) (AreOlderOrSlaves (i + 1)) old new elements extents
      balanced known (λ was es' known writes. older_still pfs i New (fulls was) es' writes known) wrote

  -- the same of a call that first only read, and whose change is a write in one pseudo file system
  pub known_then : (C : List FullElement → List FullElement → Type 0) (pfs i : ℕ) (New : FullElement → Type 0) (old mid new : S)
      → ((a b : List FullElement) → C a b → WritesIn pfs i New a b) → elements_of mid ≡ elements_of old → extents_of mid ≡ extents_of old
      → is_some (elements_of new) ≡ is_some (elements_of mid) → is_some (extents_of new) ≡ is_some (extents_of mid)
      → Balanced (elements_of old) (extents_of old) → AreKnown (elements_of old) (extents_of old) i → Writes elements_of extents_of C mid new
      → AreKnown (elements_of new) (extents_of new) (i + 1)
  known_then C pfs i New old mid new wider same same' told told' balanced known wrote =
      known_written pfs i New mid new told told'
      (moved (λ es xs. Balanced es xs) balanced) (moved (λ es xs. AreKnown es xs i) known)
      (writes_as elements_of extents_of C (WritesIn pfs i New) mid new wider wrote)
    where
      moved : (P : Option (List Element) → Option (List Extent) → Type 0) → P (elements_of old) (extents_of old) → P (elements_of mid) (extents_of mid)
      moved P is =
          subst (λ (o : Option (List Extent)). P (elements_of mid) o) (sym same')
          (subst (λ (o : Option (List Element)). P o (extents_of old)) (sym same) is)

-- what is known of a store that stayed
pub known_next : (es : Option (List Element)) (xs : Option (List Extent)) (i : ℕ) → AreKnown es xs i → AreKnown es xs (i + 1)
known_next None xs i known = tt
known_next (Some es) None i known = tt
known_next (Some es) (Some xs) i known = older_next i (fulls (es, xs)) known

-- and of one that a call left as it was
pub known_same : (es es' : Option (List Element)) (xs xs' : Option (List Extent)) (i : ℕ) → es' ≡ es → xs' ≡ xs → AreKnown es xs i → AreKnown es' xs' (i + 1)
known_same es es' xs xs' i same same' known =
    subst (λ (o : Option (List Extent)). AreKnown es' o (i + 1)) (sym same')
    (subst (λ (o : Option (List Element)). AreKnown o xs (i + 1)) (sym same) (known_next es xs i known))

-- what holds holds of a call that succeeded
pub on_ok_always : {A E : Type 0} (result : Result A E) (P : Type 0) → P → OnOk result P
on_ok_always (Ok x) P is = is
on_ok_always (Err e) P is = tt

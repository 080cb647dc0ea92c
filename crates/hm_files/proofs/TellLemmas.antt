-- Calls that wrote, with what was read between them.
use Rattle.std.proofs.Common.{◌≡◌, ℕ, ◌≤◌, List, Option, Some, None, Result, Ok, Err, arith, false, length, refl, sym, subst, true≢false}
use Rattle.std.specs.Prelude.{IfErr, IfSome, IsSomeAnd, is_some}
use Rattle.std.specs.List.{Contains}
use Rattle.hm_types.specs.Elements.{FullElement}
use Rattle.hm_types.specs.Faults.{HasStoreCause, IsCaused, IsUndamaged}
use Rattle.hm_types.specs.declared.fault.Fault.{Fault}
use Rattle.hm_key.specs.Balance.{Balanced, IsBalanced, content_of, full_of}
use Rattle.hm_key.specs.Element.{IsElement, IsInBlock}
use Rattle.hm_key.specs.Elements.{IsContent}
use Rattle.hm_key.specs.Extents.{AreExtents, Extent}
use Rattle.hm_key.specs.declared.element.Element.{Element}
use Rattle.hm_key.specs.declared.rec_type.TheConstants.{FILE_BYTES}
use Rattle.std.proofs.lemmas.List.Elements.{All-contains}
use Rattle.hm_records.proofs.MemberLemmas.{map_has}
use Rattle.hm_cursor.specs.Told.{Lists, fulls}
use Rattle.hm_cursor.specs.Write.{Writes}
use Rattle.hm_cursor.proofs.CallLemmas.{Change}
use Rattle.hm_cursor.proofs.StoreLemmas.{caused_later}
use Rattle.hm_files.proofs.CutLemmas.{AreBlocks}
use Rattle.hm_files.proofs.PieceLemmas.{length-held}

-- the bytes of files in a store lie in blocks
blocks_of : (lists : Lists) → IsContent lists.0 → AreExtents lists.1 → IsBalanced lists.0 lists.1 → AreBlocks (fulls lists)
blocks_of lists content live balanced x has type = by_element (map_has (full_of lists.1) lists.0 x has) where
  by_element : (e : Element) × Contains lists.0 e × (full_of lists.1 e ≡ x) → IsInBlock x.key.key (length x.bytes)
  by_element (e, there, is) =
      subst (λ (z : FullElement). z.key.rec_type ≡ FILE_BYTES → IsInBlock z.key.key (length z.bytes)) is
      (λ type'. subst (λ (n : ℕ). IsInBlock e.base.key n) (sym (length-held lists.0 lists.1 e live balanced there))
      ((All-contains IsElement lists.0 e content.each there).fits.file_bytes type')) type

pub known_blocks : (es : Option (List Element)) (xs : Option (List Extent)) → IfSome es IsContent → IfSome xs AreExtents → Balanced es xs
    → IfSome (content_of es xs) (λ lists. AreBlocks (fulls lists))
known_blocks None xs content live balanced = tt
known_blocks (Some es) None content live balanced = tt
known_blocks (Some es) (Some xs) content live balanced = blocks_of (es, xs) content live balanced

pub known_elements : (es : Option (List Element)) (xs : Option (List Extent)) (P : List Element → Type 0) → IfSome es P
    → IfSome (content_of es xs) (λ lists. P lists.0)
known_elements None xs P p = tt
known_elements (Some es) None P p = tt
known_elements (Some es) (Some xs) P p = p

pub known_two : (P Q : Lists → Type 0) (o : Option Lists) → IfSome o P → IfSome o Q → IfSome o (λ lists. P lists × Q lists)
known_two P Q None p q = tt
known_two P Q (Some lists) p q = (p, q)

abbrev Does : Change → Option Lists → Option Lists → Type 0
Does A o p = IfSome o (λ was. IsBalanced was.0 was.1 → IsSomeAnd p (λ now. IsBalanced now.0 now.1 × A (fulls was) (fulls now)))

does_with : (A C : Change) (K L : Lists → Type 0) (o m : Option Lists)
    → ((was now : Lists) → K was → L now → IsBalanced now.0 now.1 → A (fulls was) (fulls now) → C (fulls was) (fulls now))
    → IfSome o K → IfSome m L → Does A o m → Does C o m
does_with A C K L None m step known told does = tt
does_with A C K L (Some was) None step known told does = λ balanced. absurd (does balanced)
does_with A C K L (Some was) (Some now) step known told does =
    λ balanced. let one = does balanced in (one.0, step was now known told one.0 one.1)

does_via : (A B C : Change) (K L : Lists → Type 0) (o m p : Option Lists)
    → ((was mid : Lists) (es' : List FullElement) → K was → L mid → IsBalanced mid.0 mid.1 → A (fulls was) (fulls mid) → B (fulls mid) es' → C (fulls was) es')
    → IfSome o K → IfSome m L → Does A o m → Does B m p → Does C o p
does_via A B C K L None m p step known told first second = tt
does_via A B C K L (Some was) None p step known told first second = λ balanced. absurd (first balanced)
does_via A B C K L (Some was) (Some mid) None step known told first second = λ balanced. absurd (second (first balanced).0)
does_via A B C K L (Some was) (Some mid) (Some now) step known told first second = λ balanced.
    let one = first balanced in
    let two = second one.0 in
    (two.0, step was mid (fulls now) known told one.0 one.1 two.1)

module _ {S : Type 0} (elements_of : S → Option (List Element)) (extents_of : S → Option (List Extent)) where
  -- what is known of the content after a call says more of the call
  pub writes_with : (A C : Change) (K L : Lists → Type 0) (old new : S)
      → ((was now : Lists) → K was → L now → IsBalanced now.0 now.1 → A (fulls was) (fulls now) → C (fulls was) (fulls now))
      → IfSome (content_of (elements_of old) (extents_of old)) K → IfSome (content_of (elements_of new) (extents_of new)) L
      → Writes elements_of extents_of A old new → Writes elements_of extents_of C old new
  writes_with A C K L old new = does_with A C K L (content_of (elements_of old) (extents_of old)) (content_of (elements_of new) (extents_of new))

  -- and what is known between two calls says more of both
  pub writes_via : (A B C : Change) (K L : Lists → Type 0) (old mid new : S)
      → ((was mid : Lists) (es' : List FullElement) → K was → L mid → IsBalanced mid.0 mid.1 → A (fulls was) (fulls mid)
      → B (fulls mid) es' → C (fulls was) es')
      → IfSome (content_of (elements_of old) (extents_of old)) K → IfSome (content_of (elements_of mid) (extents_of mid)) L
      → Writes elements_of extents_of A old mid → Writes elements_of extents_of B mid new → Writes elements_of extents_of C old new
  writes_via A B C K L old mid new =
      does_via A B C K L (content_of (elements_of old) (extents_of old)) (content_of (elements_of mid) (extents_of mid))
      (content_of (elements_of new) (extents_of new))

pub none_of : {A : Type 0} (o : Option A) → is_some o ≡ false → o ≡ None
none_of None is = refl
none_of (Some x) is = absurd (true≢false is)

-- the cause of a fault of the last of several calls is one in all of them
pub cause_later : {A T : Type 0} (told now : Option A) (old mid new : ℕ) (result : Result T Fault) → is_some now ≡ is_some told → old ≤ mid
    → HasStoreCause now mid new result → HasStoreCause told old new result
cause_later {A} {T} told now old mid new result same grows cause = record {
  counted = record {
    never_falls = omega (arith, grows, cause.counted.never_falls);
    caused = by_result result cause.counted.caused;
  };
  undamaged = by_told told now same cause.undamaged;
} where
  by_result : (r : Result T Fault) → IfErr r (IsCaused mid new) → IfErr r (IsCaused old new)
  by_result (Ok x) caused = tt
  by_result (Err fault) caused = caused_later old mid new fault grows caused

  by_told : (o p : Option A) → is_some p ≡ is_some o → IfSome p (λ _. IfErr result IsUndamaged) → IfSome o (λ _. IfErr result IsUndamaged)
  by_told None p same is = tt
  by_told (Some x) None same is = absurd (true≢false (sym same))
  by_told (Some x) (Some y) same is = is

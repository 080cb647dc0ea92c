-- What calls by ids that rise need of the stores of the tests, and leave there.
use Rattle.std.proofs.Common.{◌≡◌, ℕ, ◌+◌, ◌<◌, ◌≤◌, Bool, true, false, List, Option, Some, None, inl, inr, length, refl, sym, ap, subst, true≢false, arith}
use Rattle.std.specs.Prelude.{is_some, IfSome, IsSomeAnd, IsTrue, IsFalse}
use Rattle.hm_types.specs.Elements.{FullElement}
use Rattle.hm_key.specs.Balance.{Balanced, IsBalanced, content_of}
use Rattle.hm_key.specs.Elements.{inserted}
use Rattle.hm_key.specs.Counts.{Subject}
use Rattle.hm_key.specs.Extents.{AreExtents, Extent, PlacesAt}
use Rattle.hm_key.specs.Versions.{IsBelow}
use Rattle.hm_key.specs.declared.element.Element.{Element}
use Rattle.hm_key.proofs.AddLemmas.{balanced_placed}
use Rattle.hm_cursor.specs.Told.{fulls}
use Rattle.hm_cursor.specs.Write.{Writes}
use Rattle.hm_cursor.proofs.CallLemmas.{Change}
use Rattle.hm_cursor.proofs.FullLemmas.{adds_placed}
use Rattle.hm_calls.specs.Known.{AreKnown, AreOlderOrSlaves}
use Rattle.hm_calls_tests.specs.Tests.{IsMade}

-- where all ids are below one, the elements of each pseudo file system are older
pub older_below : (i : ℕ) (es : List FullElement) → IsBelow i es → AreOlderOrSlaves i es
older_below i es below pfs = inr (λ x has place. record { made = below.made x has; closed = below.closed x has })

-- a call that wrote left a balanced store
balanced_written : (A : Change) (es es' : Option (List Element)) (xs xs' : Option (List Extent)) → is_some es' ≡ is_some es → is_some xs' ≡ is_some xs
    → Balanced es xs
    → IfSome (content_of es xs) (λ was. IsBalanced was.0 was.1
    → IsSomeAnd (content_of es' xs') (λ now. IsBalanced now.0 now.1 × A (fulls was) (fulls now)))
    → Balanced es' xs'
balanced_written A None None xs xs' elements extents balanced does = tt
balanced_written A None (Some _) xs xs' elements extents balanced does = absurd (true≢false elements)
balanced_written A (Some _) None xs xs' elements extents balanced does = tt
balanced_written A (Some _) (Some _) None None elements extents balanced does = tt
balanced_written A (Some _) (Some _) None (Some _) elements extents balanced does = absurd (true≢false extents)
balanced_written A (Some _) (Some _) (Some _) None elements extents balanced does = tt
balanced_written A (Some _) (Some _) (Some _) (Some _) elements extents balanced does = (does balanced).0

module _ {S : Type 0} (elements_of : S → Option (List Element)) (extents_of : S → Option (List Extent)) where
  -- a call that wrote, or left all as it was, left a balanced store
  pub balanced_after : (A : Change) (writes : Bool) (old new : S) → is_some (elements_of new) ≡ is_some (elements_of old)
      → is_some (extents_of new) ≡ is_some (extents_of old) → Balanced (elements_of old) (extents_of old)
      → (IsFalse writes → (elements_of new ≡ elements_of old) × (extents_of new ≡ extents_of old))
      → (IsTrue writes → Writes elements_of extents_of A old new) → Balanced (elements_of new) (extents_of new)
  balanced_after A true old new elements extents balanced stays wrote =
      balanced_written A (elements_of old) (elements_of new) (extents_of old) (extents_of new) elements extents balanced (wrote refl)
  balanced_after A false old new elements extents balanced stays wrote =
      let same = stays refl in
      subst (λ (o : Option (List Extent)). Balanced (elements_of new) o) (sym same.1)
      (subst (λ (o : Option (List Element)). Balanced o (extents_of old)) (sym same.0) balanced)

-- ---- an element with any ids

-- it was added with its payload, and the next id is above its own
pub made_placed : (e : Element) (es mid_es new_es : List Element) (xs mid_xs new_xs : List Extent) (given : List ℕ) (next later : ℕ) → Some mid_es ≡ Some es
    → PlacesAt e.payload given xs mid_xs → Some new_es ≡ Some (inserted e mid_es) → Some new_xs ≡ Some mid_xs → 1 ≤ length given → e.len ≡ length given
    → AreExtents mid_xs → next ≤ later → e.base.create < later → e.base.delete < later → IsMade (Some es) (Some xs) next
    → IsMade (Some new_es) (Some new_xs) later
made_placed e es mid_es new_es xs mid_xs new_xs given next later kept placed list others some long live rises made closed is =
    let was : mid_es ≡ es = cc in
    let now : new_es ≡ inserted e es = cc in
    let held : new_xs ≡ mid_xs = cc in
    record {
      balanced = balanced_placed e es mid_es new_es xs mid_xs new_xs given kept placed list others some long live is.balanced;
      below = rw (now, held) (record {
        made = λ x has. elim ((adds_placed e es xs mid_xs given placed some long live is.balanced x).0 has) [
          | inl new ↦ omega (arith, made, ap (λ (f : FullElement). f.key.create) new)
          | inr old ↦ let older = is.below.made x old in omega (arith, older, rises)
        ];
        closed = λ x has. elim ((adds_placed e es xs mid_xs given placed some long live is.balanced x).0 has) [
          | inl new ↦ omega (arith, closed, ap (λ (f : FullElement). f.delete) new)
          | inr old ↦ let older = is.below.closed x old in omega (arith, older, rises)
        ];
      });
    }

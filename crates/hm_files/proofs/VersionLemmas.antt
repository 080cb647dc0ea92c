-- The version of some bytes that counts now is open, and stands at its key.
use Rattle.std.proofs.Common.{◌≡◌, ℕ, List, Option, Some, None, sym, subst, inl, inr, arith}
use Rattle.std.specs.Prelude.{is_some, IfSome, IsSomeAnd}
use Rattle.std.proofs.lemmas.Bool.{false≢true}
use Rattle.hm_key.specs.Balance.{content_of, full_of}
use Rattle.hm_key.specs.Counts.{Subject}
use Rattle.hm_key.specs.Elements.{IsContent, element_at, element_key}
use Rattle.hm_key.specs.Extents.{Extent}
use Rattle.hm_key.specs.declared.element.Element.{Element}
use Rattle.hm_records.proofs.MemberLemmas.{has_map}
use Rattle.hm_cursor.specs.Told.{Lists, fulls}
use Rattle.hm_cursor.specs.Version.{IsNewestOf, IsVersion}
use Rattle.hm_cursor.specs.Write.{IsFreshFor}
use Rattle.hm_cursor.proofs.FullLemmas.{has-element_at}

-- an open element stands at its key
abbrev pub IsOpenIn : Element → List Element → Type 0
IsOpenIn e es = IsSomeAnd (element_at (element_key e) es) (λ x. x.base.delete ≡ 0)

open_in : (lists : Lists) (s : Subject) (i : ℕ) (e : Element) → IsContent lists.0 → IsFreshFor s i (fulls lists) → IsNewestOf lists.0 s i e → IsOpenIn e lists.0
open_in lists s i e content fresh newest =
    let early = fresh.closed (full_of lists.1 e) (has_map (full_of lists.1) lists.0 e newest.there) newest.version.about in
    let open' : e.base.delete ≡ 0 = elim newest.version.seen.1 [
      | inl zero' ↦ zero'
      | inr later ↦ absurd (omega (arith, early, later))
    ] in
    subst (λ (o : Option Element). IsSomeAnd o (λ x. x.base.delete ≡ 0)) (sym (has-element_at e lists.0 content.rising newest.there)) open'

pub version_open : (es es' : Option (List Element)) (xs : Option (List Extent)) (s : Subject) (i : ℕ) (found : Option Element) (e : Element) → es' ≡ es
    → is_some xs ≡ is_some es → IfSome es IsContent → IfSome (content_of es xs) (λ lists. IsFreshFor s i (fulls lists))
    → IfSome es (λ list. IsVersion list s i found) → found ≡ Some e → IfSome es' (IsOpenIn e)
version_open es es' xs s i found e same together content fresh version is =
    subst (λ (o : Option (List Element)). IfSome o (IsOpenIn e)) (sym same) (by_told es xs together content fresh version)
  where
    by_told : (es : Option (List Element)) (xs : Option (List Extent)) → is_some xs ≡ is_some es → IfSome es IsContent
        → IfSome (content_of es xs) (λ lists. IsFreshFor s i (fulls lists)) → IfSome es (λ list. IsVersion list s i found) → IfSome es (IsOpenIn e)
    by_told None xs together content fresh version = tt
    by_told (Some es) None together content fresh version = absurd (false≢true together)
    by_told (Some es) (Some xs) together content fresh version =
        open_in (es, xs) s i e content fresh (subst (λ (o : Option Element). IsVersion es s i o) is version)

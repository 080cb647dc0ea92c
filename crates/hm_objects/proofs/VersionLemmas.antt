-- The version of an inode that counts now is open, and stands at its key.
use Rattle.std.proofs.Common.{◌≡◌, ℕ, List, Option, Some, None, sym, subst, ◌∙◌, inl, inr, arith}
use Rattle.std.specs.Prelude.{is_some, IfSome, IsSomeAnd}
use Rattle.std.proofs.lemmas.Bool.{false≢true}
use Rattle.hm_types.specs.Elements.{Key}
use Rattle.hm_types.specs.declared.id.Id.{Id}
use Rattle.hm_key.specs.Balance.{Balanced, content_of, full_of, payload_of}
use Rattle.hm_key.specs.Counts.{inode_subject, subject_of}
use Rattle.hm_key.specs.Elements.{IsContent, element_at, element_key}
use Rattle.hm_key.specs.Extents.{Extent}
use Rattle.hm_key.specs.declared.element.Element.{Element}
use Rattle.hm_records.specs.declared.inode.Inode.{Inode}
use Rattle.hm_records.proofs.MemberLemmas.{has_map}
use Rattle.hm_cursor.specs.Told.{Lists, OnBalanced, fulls}
use Rattle.hm_cursor.proofs.FullLemmas.{has-element_at}
use Rattle.hm_objects.specs.Objects.{IsInodeMade, IsOlder, IsInodeClosed}
use Rattle.hm_cursor.specs.Write.{IsClosedIn}
use Rattle.hm_cursor.proofs.CloseLemmas.{same_key}
use Rattle.hm_cursor.proofs.ToldLemmas.{counts_newest}

-- an open element stands at a key
abbrev pub IsOpenAt : Key → List Element → Type 0
IsOpenAt at es = IsSomeAnd (element_at at es) (λ e. e.base.delete ≡ 0)

open_in : (lists : Lists) (pfs obj i : ℕ) (made : Id) (inode : Inode) (at : Key) → IsContent lists.0 → IsOlder pfs obj i (fulls lists)
    → IsInodeMade lists i pfs obj (Some (made, inode)) → subject_of at ≡ inode_subject pfs obj → at.create ≡ made.0 → IsOpenAt at lists.0
open_in lists pfs obj i made inode at content older is about create =
    let (e, newest, by) = is.1 in
    let here : element_key e ≡ at = same_key (element_key e) at (newest.version.about ∙ sym about) (by ∙ sym create) in
    let found : element_at at lists.0 ≡ Some e =
    subst (λ (key : Key). element_at key lists.0 ≡ Some e) here (has-element_at e lists.0 content.rising newest.there) in
    let early = older.inode.closed (full_of lists.1 e) (has_map (full_of lists.1) lists.0 e newest.there) newest.version.about in
    let open' : e.base.delete ≡ 0 = elim newest.version.seen.1 [
      | inl zero' ↦ zero'
      | inr later ↦ absurd (omega (arith, early, later))
    ] in
    subst (λ (o : Option Element). IsSomeAnd o (λ x. x.base.delete ≡ 0)) (sym found) open'

pub version_open : (es es' : Option (List Element)) (xs : Option (List Extent)) (pfs obj i : ℕ) (found : Option (Id × Inode)) (made : Id) (inode : Inode)
    (at : Key) → es' ≡ es → is_some xs ≡ is_some es → IfSome es IsContent → Balanced es xs
    → IfSome (content_of es xs) (λ lists. IsOlder pfs obj i (fulls lists)) → OnBalanced es xs (λ lists. IsInodeMade lists i pfs obj found)
    → found ≡ Some (made, inode) → subject_of at ≡ inode_subject pfs obj → at.create ≡ made.0 → IfSome es' (IsOpenAt at)
version_open es es' xs pfs obj i found made inode at same together content balanced older told is about create =
    subst (λ (o : Option (List Element)). IfSome o (IsOpenAt at)) (sym same) (by_told es xs together content balanced older told)
  where
    by_told : (es : Option (List Element)) (xs : Option (List Extent)) → is_some xs ≡ is_some es → IfSome es IsContent → Balanced es xs
        → IfSome (content_of es xs) (λ lists. IsOlder pfs obj i (fulls lists)) → OnBalanced es xs (λ lists. IsInodeMade lists i pfs obj found)
        → IfSome es (IsOpenAt at)
    by_told None xs together content balanced older told = tt
    by_told (Some es) None together content balanced older told = absurd (false≢true together)
    by_told (Some es) (Some xs) together content balanced older told =
        open_in (es, xs) pfs obj i made inode at content older
        (subst (λ (o : Option (Id × Inode)). IsInodeMade (es, xs) i pfs obj o) is (told balanced)) about create

-- ---- the version that counted is closed

closed_as : (lists : Lists) (pfs obj i : ℕ) (made : Id) (inode : Inode) (at : Key) (told : Option (List Element))
    → IsInodeMade lists i pfs obj (Some (made, inode)) → subject_of at ≡ inode_subject pfs obj → at.create ≡ made.0 → IsClosedIn told at i
    → IsInodeClosed lists pfs obj i told
closed_as lists pfs obj i made inode at told is about create closed = λ e newest.
    let (one, counts, by) = is.1 in
    let not_older = newest.newest one counts.there counts.version.about counts.version.seen.0 in
    let not_newer = counts.newest e newest.there newest.version.about newest.version.seen.0 in
    let here : element_key e ≡ at = same_key (element_key e) at (newest.version.about ∙ sym about) (omega (arith, not_older, not_newer, by, create)) in
    subst (λ (key : Key). IsClosedIn told key i) (sym here) closed

pub version_closed : (es : Option (List Element)) (xs : Option (List Extent)) (pfs obj i : ℕ) (found : Option (Id × Inode)) (made : Id) (inode : Inode)
    (at : Key) (told : Option (List Element)) → OnBalanced es xs (λ lists. IsInodeMade lists i pfs obj found) → found ≡ Some (made, inode)
    → subject_of at ≡ inode_subject pfs obj → at.create ≡ made.0 → IsClosedIn told at i → OnBalanced es xs (λ lists. IsInodeClosed lists pfs obj i told)
version_closed None xs pfs obj i found made inode at told known is about create closed = tt
version_closed (Some es) None pfs obj i found made inode at told known is about create closed = tt
version_closed (Some es) (Some xs) pfs obj i found made inode at told known is about create closed = λ balanced.
    closed_as (es, xs) pfs obj i made inode at told
    (subst (λ (o : Option (Id × Inode)). IsInodeMade (es, xs) i pfs obj o) is (known balanced)) about create closed

-- where nothing counted there is nothing to close
pub none_to_close : (es : Option (List Element)) (xs : Option (List Extent)) (pfs obj i : ℕ) (found : Option (Id × Inode)) (told : Option (List Element))
    → OnBalanced es xs (λ lists. IsInodeMade lists i pfs obj found) → found ≡ None → OnBalanced es xs (λ lists. IsInodeClosed lists pfs obj i told)
none_to_close None xs pfs obj i found told known is = tt
none_to_close (Some es) None pfs obj i found told known is = tt
none_to_close (Some es) (Some xs) pfs obj i found told known is = λ balanced e newest.
    absurd (subst (λ (o : Option (Id × Inode)). IsInodeMade (es, xs) i pfs obj o) is (known balanced) (payload_of xs e)
    (counts_newest es xs (inode_subject pfs obj) i e newest))

-- The newest version of a subject is closed, and nothing counts from then on.
use Rattle.std.proofs.Common.{◌≡◌, ◌≢◌, ℕ, ◌<◌, ◌≤◌, List, true, false, Bool, Option, Some, None, refl, ap, sym, subst, ◌∙◌, inl, inr, arith}
use Rattle.std.specs.Prelude.{◌==◌, if◌then◌else◌, Err, IfSome, IsSomeAnd, Ok, OnOk, Result, option_map}
use Rattle.std.specs.List.{Contains}
use Rattle.std.proofs.lemmas.Bool.{eqb-true, eqb-false}
use Rattle.hm_types.specs.Elements.{FullElement, Key}
use Rattle.hm_key.specs.Balance.{full_of}
use Rattle.hm_key.specs.Counts.{Subject, subject_of}
use Rattle.hm_key.specs.Elements.{IsContent, closed_at, element_at, element_key, with_delete}
use Rattle.hm_key.specs.Extents.{Extent}
use Rattle.hm_key.specs.declared.element.Element.{Element}
use Rattle.hm_records.proofs.MemberLemmas.{has_map, map_has}
use Rattle.hm_cursor.specs.Told.{fulls}
use Rattle.hm_cursor.specs.Version.{IsMadeUpTo, IsNewestMade, IsNewestMadeOf}
use Rattle.hm_cursor.specs.Write.{IsFresh, Rewrites}
use Rattle.hm_cursor.proofs.RewriteLemmas.{IsLatest, Shuts, rewrites_shut, shuts_made}
use Rattle.hm_cursor.proofs.FullLemmas.{closed_has, element_at-changed, element_at-has, has-element_at}
use Rattle.hm_cursor.proofs.StoreLemmas.{told_both}
use Rattle.hm_cursor.proofs.WriteLemmas.{Became, became_closed, became_none}

-- ---- the newest version is closed

-- no version of a subject was made after this one
abbrev IsLast : List Element → Subject → Element → Type 0
IsLast es s y = (other : Element) → Contains es other → subject_of (element_key other) ≡ s → other.base.create ≤ y.base.create

-- all versions of a subject were made below an id
abbrev AreMadeBelow : List Element → Subject → ℕ → Type 0
AreMadeBelow es s i = (x : Element) → Contains es x → subject_of (element_key x) ≡ s → x.base.create < i

-- the newest version of a subject is closed, where all were made below an id
abbrev pub IsShut : Subject → ℕ → List Element → Type 0
IsShut s i es = AreMadeBelow es s i → (y : Element) → Contains es y → subject_of (element_key y) ≡ s → IsLast es s y → y.base.delete ≢ 0

-- where none was made by an id there is none
pub shut_none : (s : Subject) (i : ℕ) (found : Option Element) (es es' : Option (List Element)) → es' ≡ es → found ≡ None
    → IfSome es (λ list. IsNewestMade list s i found) → IfSome es' (IsShut s i)
shut_none s i found es es' same is none = rw same (by_told es (subst (λ (o : Option Element). IfSome es (λ list. IsNewestMade list s i o)) is none)) where
  by_told : (told : Option (List Element)) → IfSome told (λ list. IsNewestMade list s i None) → IfSome told (IsShut s i)
  by_told None none = tt
  by_told (Some list) none = λ made y has about last. absurd (none y has about (omega (arith, made y has about)))

-- one that was made at an id or later was not made below it
pub shut_late : (s : Subject) (i : ℕ) (this : Element) (es es' : Option (List Element)) → es' ≡ es → subject_of (element_key this) ≡ s → i ≤ this.base.create
    → IfSome es (λ list. IsNewestMadeOf list s i this) → IfSome es' (IsShut s i)
shut_late s i this es es' same about late newest = rw same (by_told es newest) where
  by_told : (told : Option (List Element)) → IfSome told (λ list. IsNewestMadeOf list s i this) → IfSome told (IsShut s i)
  by_told None newest = tt
  by_told (Some list) newest = λ made y has about' last. absurd (omega (arith, late, made this newest.there about))

-- what a search for the newest version found is about the subject, and is the newest
pub newest_told : (s : Subject) (i : ℕ) (found : Option Element) (newest : Element) (es : Option (List Element)) → found ≡ Some newest
    → IfSome found (IsMadeUpTo s i) → IfSome es (λ list. IsNewestMade list s i found)
    → (subject_of (element_key newest) ≡ s) × IfSome es (λ list. IsNewestMadeOf list s i newest)
newest_told s i found newest es is made read = (
  (subst (λ (o : Option Element). IfSome o (IsMadeUpTo s i)) is made).about,
  subst (λ (o : Option Element). IfSome es (λ list. IsNewestMade list s i o)) is read,
)

-- the newest version stands at its key
pub newest_stands : (s : Subject) (i : ℕ) (newest : Element) (es : Option (List Element)) → IfSome es IsContent
    → IfSome es (λ list. IsNewestMadeOf list s i newest) → IfSome es (λ list. element_at (element_key newest) list ≡ Some newest)
newest_stands s i newest es = told_both es (λ list content is. has-element_at newest list content.rising is.there)

-- what follows of a call that succeeded
pub where_ok : {A E P Q : Type 0} (result : Result A E) → (P → Q) → OnOk result P → OnOk result Q
where_ok (Ok a) step known = step known
where_ok (Err e) step known = tt

-- versions of one subject that one id made have one key
pub same_key : (a b : Key) → subject_of a ≡ subject_of b → a.create ≡ b.create → a ≡ b
same_key a b subject create = λ j. record {
  localization = (subject j).localization;
  obj = (subject j).obj;
  rec_type = (subject j).rec_type;
  key = (subject j).key;
  create = create j;
}

-- a list after a version was closed in it, if that was open
abbrev if_closed : Element → ℕ → List Element → List Element
if_closed this i es = if this.base.delete == 0 then with_delete (element_key this) i es else es

module _ (s : Subject) (i : ℕ) (this : Element) (about_this : subject_of (element_key this) ≡ s) where
  -- a version of the same age is the one that was closed
  shut_this : (es : List Element) (y x : Element) → IsContent es → element_at (element_key this) es ≡ Some y → y.base.delete ≢ 0
      → Contains es x → subject_of (element_key x) ≡ s → x.base.create ≡ this.base.create → x.base.delete ≢ 0
  shut_this es y x content there gone has about age =
      let key : element_key x ≡ element_key this = same_key (element_key x) (element_key this) (about ∙ sym about_this) age in
      let found : element_at (element_key this) es ≡ Some x = subst (λ (k : Key). element_at k es ≡ Some x) key (has-element_at x es content.rising has) in
      let same : y ≡ x = some_same y x (sym there ∙ found) in
      subst (λ (z : Element). z.base.delete ≢ 0) same gone where
        some_same : (a b : Element) → Some a ≡ Some b → a ≡ b
        some_same a b is = cc

  shut_newest : (es : List Element) → this.base.create < i → IsContent es → IsContent (if_closed this i es) → IsNewestMadeOf es s i this
      → IsShut s i (if_closed this i es)
  shut_newest es later content content' newest = by_test (this.base.delete == 0) refl content' where
    found : element_at (element_key this) es ≡ Some this
    found = has-element_at this es content.rising newest.there

    by_test : (b : Bool) → (this.base.delete == 0) ≡ b → IsContent (if b then with_delete (element_key this) i es else es)
        → IsShut s i (if b then with_delete (element_key this) i es else es)
    by_test true is content' made y has about last =
        let list = with_delete (element_key this) i es in
        let now = closed_at i this in
        let stands : element_at (element_key this) list ≡ Some now = element_at-changed (element_key this) (closed_at i) this es (λ e. refl) found in
        let there = element_at-has (element_key this) now list stands in
        let up : this.base.create ≤ y.base.create = last now there.0 about_this in
        let down : y.base.create ≤ this.base.create = elim (closed_has (element_key this) i this y es found has) [
          | inl old ↦ newest.newest y old about (omega (arith, made y has about))
          | inr is' ↦ omega (arith, ap (λ (z : Element). z.base.create) is')
        ] in
        shut_this list now y content' stands (λ zero'. omega (arith, zero', later)) has about (omega (arith, up, down))
    by_test false is content' made y has about last =
        let up : this.base.create ≤ y.base.create = last this newest.there about_this in
        let down : y.base.create ≤ this.base.create = newest.newest y has about (omega (arith, made y has about)) in
        shut_this es this y content found (λ gone. eqb-false this.base.delete 0 is gone) has about (omega (arith, up, down))

  pub shut_closed : (es es' : Option (List Element)) → this.base.create < i → IfSome es IsContent → IfSome es' IsContent
      → es' ≡ option_map (if_closed this i) es → IfSome es (λ list. IsNewestMadeOf list s i this) → IfSome es' (IsShut s i)
  shut_closed None es' later content content' list newest = rw list tt
  shut_closed (Some es) es' later content content' list newest = rw list (shut_newest es later content (rw list at content') newest)

  -- ---- what became of the store

  pub became_if_closed : (es es' : Option (List Element)) (xs xs' : Option (List Extent)) → es' ≡ option_map (if_closed this i) es → xs' ≡ xs
      → IfSome es (λ list. element_at (element_key this) list ≡ Some this) → Became (Shuts s i) es xs es' xs'
  became_if_closed es es' xs xs' list others there = by_test (this.base.delete == 0) refl list where
    open-at : (o : Option (List Element)) → this.base.delete ≡ 0 → IfSome o (λ list. element_at (element_key this) list ≡ Some this)
        → IfSome o (λ list. IsSomeAnd (element_at (element_key this) list) (λ e. e.base.delete ≡ 0))
    open-at None open' there = tt
    open-at (Some list) open' there = rw there open'

    stay : (o o' : Option (List Element)) → o' ≡ option_map (λ list. list) o → o' ≡ o
    stay None o' is = is
    stay (Some list) o' is = is

    by_test : (b : Bool) → (this.base.delete == 0) ≡ b → es' ≡ option_map (λ list. if b then with_delete (element_key this) i list else list) es
        → Became (Shuts s i) es xs es' xs'
    by_test true is list =
        subst (λ (about : Subject). Became (Shuts about i) es xs es' xs') about_this
        (became_closed (element_key this) i es es' xs xs' list others (open-at es (eqb-true this.base.delete 0 is) there))
    by_test false is list = rw (stay es es' list, others) (became_none s i es xs)

-- where the store stayed
pub became_same : (s : Subject) (i : ℕ) (es es' : Option (List Element)) (xs xs' : Option (List Extent)) → es' ≡ es → xs' ≡ xs
    → Became (Shuts s i) es xs es' xs'
became_same s i es es' xs xs' same same' = rw (same, same') (became_none s i es xs)

-- what became of a store that had stayed
pub became_since : (s : Subject) (i : ℕ) (was here now : Option (List Element)) (was_xs here_xs now_xs : Option (List Extent)) → here ≡ was
    → here_xs ≡ was_xs → Became (Shuts s i) here here_xs now now_xs → Became (Shuts s i) was was_xs now now_xs
became_since s i was here now was_xs here_xs now_xs same same' became =
    subst (λ (o : Option (List Element)). Became (Shuts s i) o was_xs now now_xs) same
    (subst (λ (o : Option (List Extent)). Became (Shuts s i) here o now now_xs) same' became)

-- ---- and nothing counts

all_shut : (s : Subject) (i : ℕ) (was : List FullElement) (es : List Element) (xs : List Extent) → Shuts s i was (fulls (es, xs))
    → ((x : FullElement) → Contains was x → subject_of x.key ≡ s → x.key.create < i) → IsShut s i es
    → (y : FullElement) → Contains (fulls (es, xs)) y → subject_of y.key ≡ s → IsLatest (fulls (es, xs)) s y → y.delete ≢ 0
all_shut s i was es xs shuts made shut y has about latest =
    let (x, there, is) = map_has (full_of xs) es y has in
    let below : AreMadeBelow es s i = λ z has' about'.
    shuts_made s i was (fulls (es, xs)) shuts made (full_of xs z) (has_map (full_of xs) es z has') about' in
    let last : IsLast es s x = λ z has' about'.
    subst (λ (f : FullElement). z.base.create ≤ f.key.create) (sym is) (latest (full_of xs z) (has_map (full_of xs) es z has') about') in
    let gone = shut below x there (ap (λ (z : FullElement). subject_of z.key) is ∙ about) last in
    λ open'. gone (ap (λ (z : FullElement). z.delete) is ∙ open')

pub all_closed : (s : Subject) (i : ℕ) (es es' : Option (List Element)) (xs xs' : Option (List Extent)) → IsFresh es xs s i → Became (Shuts s i) es xs es' xs'
    → IfSome es' (IsShut s i) → Became (Rewrites s None i) es xs es' xs'
all_closed s i None es' xs xs' fresh became shut = tt
all_closed s i (Some es) es' None xs' fresh became shut = tt
all_closed s i (Some es) None (Some xs) xs' fresh became shut = λ balanced. absurd (became balanced)
all_closed s i (Some es) (Some es') (Some xs) None fresh became shut = λ balanced. absurd (became balanced)
all_closed s i (Some es) (Some es') (Some xs) (Some xs') fresh became shut = λ balanced.
    let done = became balanced in (
      done.0,
      rewrites_shut s i (fulls (es, xs)) (fulls (es', xs')) done.1 fresh (all_shut s i (fulls (es, xs)) es' xs' done.1 fresh.made shut),
    )

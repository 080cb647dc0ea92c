-- The extents of the payloads of some elements: how often each is referred to, and what all have in common.
use Rattle.std.proofs.Common.{◌≡◌, inl, inr, Bool, true, false, ℕ, ◌+◌, ◌<◌, ◌≤◌, List, [], ◌∷◌, Option, Some, None}
use Rattle.std.proofs.Common.{refl, sym, ap, subst, ◌∙◌, arith, nat_eq, eq-eqb, eqb-true, map}
use Rattle.std.specs.Prelude.{if◌then◌else◌, count_by, is_some, option_map}
use Rattle.std.specs.List.{AllByRecursion, Contains}
use Rattle.std.proofs.lemmas.List.Elements.{All-contains_itself, All-head, All-tail, All-weaker, recursion_from_All}
use Rattle.hm_types.specs.References.{AreFew, Reference, is_there}
use Rattle.hm_types.specs.Space.{rounded}
use Rattle.hm_types.specs.declared.space.TheConstants.{MOST_REFERENCES}
use Rattle.hm_freemap.proofs.CountLemmas.{count-cons}
use Rattle.hm_key.specs.Extents.{Extent, extent_at, shared_at, with_extent}
use Rattle.hm_key.specs.declared.element.Element.{Element}
use Rattle.hm_key.proofs.BalanceLemmas.{refer_to, refer_to-cons, refers}
use Rattle.hm_image.specs.Extents.{extent_of, extents_of}
use Rattle.hm_image.specs.Image.{bytes_at, to_payload}
use Rattle.hm_image.proofs.CountLemmas.{count_alike, count_map, nat_turned}
use Rattle.hm_image.proofs.FoundLemmas.{each_shared, each_with, found_shared, found_with, none_stands, one_more}
use Rattle.hm_image.proofs.ListLemmas.{first_or_later}

-- how often an extent is referred to, where there is one
abbrev pub refs_of : Option Extent → ℕ
refs_of None = 0
refs_of (Some x) = x.refs

refers_here : (e : Element) (at : ℕ) (b : Bool) → nat_eq e.payload at ≡ b → refers at e ≡ (if b then 1 else 0)
refers_here e at b is = rw is refl

pub referred : (e : Element) (es : List Element) → Contains es e → 1 ≤ refer_to e.payload es
referred e [] there = absurd (omega (arith, there.1))
referred e (d ∷ es) there =
    elim (first_or_later d es e there) [
      | inl here ↦
          let one = refers_here d e.payload true (eq-eqb d.payload e.payload (ap (λ (x : Element). x.payload) here)) in
          omega (arith, one, refer_to-cons e.payload d es)
      | inr later ↦ omega (arith, referred e es later, refer_to-cons e.payload d es)
    ]

-- references to a payload are counted as elements that refer to it
payload_there : (r : Reference) (es : List Element) → count_by (is_there r) (map to_payload es) ≡ refer_to r.at es
payload_there r es =
    let here : Element → Bool = λ e. is_there r (to_payload e) in
    let there : Element → Bool = λ e. nat_eq e.payload r.at in
    let same = All-weaker (Contains es) (λ e. here e ≡ there e) (λ e has. nat_turned r.at e.payload) es (All-contains_itself es) in
    count_map (is_there r) to_payload es ∙ count_alike here there es (recursion_from_All (λ e. here e ≡ there e) es same)

-- one more element may refer to what these do
pub few_at : (e : Element) (es : List Element) → AreFew (map to_payload (e ∷ es)) → refer_to e.payload es < 64
few_at e es few =
    let rs = map to_payload (e ∷ es) in
    let most = All-head (λ r. count_by (is_there r) rs ≤ MOST_REFERENCES) (to_payload e) (map to_payload es) few in
    let own = refers_here e e.payload true (eq-eqb e.payload e.payload refl) in
    omega (arith, most, own, payload_there (to_payload e) (e ∷ es), refer_to-cons e.payload e es)

pub few_later : (e : Element) (es : List Element) → AreFew (map to_payload (e ∷ es)) → AreFew (map to_payload es)
few_later e es few =
    let rs = map to_payload es in
    let all : Reference → Type 0 = λ r. count_by (is_there r) (to_payload e ∷ rs) ≤ MOST_REFERENCES in
    let later : Reference → Type 0 = λ r. count_by (is_there r) rs ≤ MOST_REFERENCES in
    All-weaker all later (λ r le. omega (arith, le, count-cons (is_there r) (to_payload e) rs)) rs (All-tail all (to_payload e) rs few)

module _ (image : List ℕ) where
  module _ (e : Element) (es : List Element) where
    abbrev xs : List Extent
    xs = extents_of image es

    module _ (at : ℕ) (rest : refs_of (extent_at at xs) ≡ refer_to at es) where
      -- a new extent
      new : extent_at e.payload xs ≡ None → (here : Bool) → nat_eq e.payload at ≡ here
          → refs_of (if here then Some (extent_of image e) else extent_at at xs) ≡ refer_to at (e ∷ es)
      new none true here =
          let before : refer_to at es ≡ 0 =
          sym rest ∙ ap (λ (y : ℕ). refs_of (extent_at y xs)) (sym (eqb-true e.payload at here)) ∙ ap refs_of none in
          omega (arith, before, refers_here e at true here, refer_to-cons at e es)
      new none false here = omega (arith, rest, refers_here e at false here, refer_to-cons at e es)

      -- an extent that is shared
      old : (x : Extent) → extent_at e.payload xs ≡ Some x → (here : Bool) → nat_eq e.payload at ≡ here
          → refs_of (if here then option_map one_more (extent_at at xs) else extent_at at xs) ≡ refer_to at (e ∷ es)
      old x some true here =
          let there : extent_at at xs ≡ Some x = subst (λ (y : ℕ). extent_at y xs ≡ Some x) (eqb-true e.payload at here) some in
          let before : x.refs ≡ refer_to at es = ap refs_of (sym there) ∙ rest in
          let now : refs_of (option_map one_more (extent_at at xs)) ≡ x.refs + 1 = rw there refl in
          omega (arith, now, before, refers_here e at true here, refer_to-cons at e es)
      old x some false here = omega (arith, rest, refers_here e at false here, refer_to-cons at e es)

      one_counted : (o : Option Extent) → extent_at e.payload xs ≡ o
          → refs_of (extent_at at (if is_some o then shared_at e.payload xs else with_extent (extent_of image e) xs)) ≡ refer_to at (e ∷ es)
      one_counted None none =
          ap refs_of (found_with (extent_of image e) xs at (none_stands e.payload xs none)) ∙ new none (nat_eq e.payload at) refl
      one_counted (Some x) some = ap refs_of (found_shared e.payload xs at) ∙ old x some (nat_eq e.payload at) refl

  -- the extent at an offset has as many references as elements refer to the offset
  pub counted_at : (es : List Element) (at : ℕ) → refs_of (extent_at at (extents_of image es)) ≡ refer_to at es
  counted_at [] at = refl
  counted_at (e ∷ es) at = one_counted e es at (counted_at es at) (extent_at e.payload (extents_of image es)) refl

  -- what is so of each payload's place, length and bytes is so of each extent's
  module _ (P : ℕ → ℕ → List ℕ → Type 0) where
    abbrev OfPayload : Element → Type 0
    OfPayload e = P e.payload (rounded e.len) (bytes_at image e.payload (rounded e.len))

    abbrev OfExtent : Extent → Type 0
    OfExtent x = P x.at x.len x.bytes

    pub each_extent : (es : List Element) → AllByRecursion OfPayload es → AllByRecursion OfExtent (extents_of image es)
    each_extent [] each = tt
    each_extent (e ∷ es) each = by_test (is_some (extent_at e.payload (xs e es))) (each_extent es each.1) where
      by_test : (b : Bool) → AllByRecursion OfExtent (xs e es)
          → AllByRecursion OfExtent (if b then shared_at e.payload (xs e es) else with_extent (extent_of image e) (xs e es))
      by_test true rest = each_shared OfExtent e.payload (xs e es) (λ x is. is) rest
      by_test false rest = each_with OfExtent (extent_of image e) (xs e es) each.0 rest

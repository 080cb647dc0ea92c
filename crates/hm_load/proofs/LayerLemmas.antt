-- The pages of layer 2 that come into a store.
use Rattle.std.proofs.Common.{◌≡◌, ◌≢◌, ◌⊎◌, ℕ, ◌+◌, ◌*◌, ◌<◌, ◌≤◌, true≢false, is_some, List, Option, Some, None, IsSome, inl, inr, refl, sym, ap}
use Rattle.std.proofs.Common.{subst, ◌∙◌, arith}
use Rattle.std.proofs.lemmas.Bool.{cases_eq, cases_lt}
use Rattle.hm_fields.specs.Pages.{PageMap}
use Rattle.hm_freemap.specs.Places.{entries_per_page, page_of}
use Rattle.hm_header.specs.declared.header.Header.{Header}
use Rattle.hm_pages.specs.Maps.{set_at}
use Rattle.hm_pages.specs.Store.{Store}
use Rattle.hm_load.specs.Freemap.{HoldsEntries, HoldsLayer2, layer2_page, piece_page}
use Rattle.hm_load.specs.Loaded.{IsPlain, LoadsPage, LoadsPages}
use Rattle.hm_load.proofs.StoreLemmas.{set_here, set_other}

-- two pages of layer 2 at one offset are one
pub page_same : (n m : ℕ) → layer2_page n ≡ layer2_page m → n ≡ m
unfolding page_of
page_same n m same = omega (arith, same)

-- so no page is yet where the next one comes
pub page_free : (header : Header) (count : ℕ) (map : PageMap) → HoldsLayer2 header count map → map (layer2_page count) ≡ None
page_free header count map layer = go (map (layer2_page count)) refl where
  go : (o : Option (List ℕ)) → map (layer2_page count) ≡ o → map (layer2_page count) ≡ None
  go None is = is
  go (Some page) is =
      let there : IsSome (map (layer2_page count)) = rw is refl in
      let (n, low, small, at) = layer.only (layer2_page count) there in
      let same : count ≡ n = page_same count n at in
      absurd (omega arith)

-- no page is there at first
pub no_layer : (header : Header) (map : PageMap) → ((at : ℕ) → map at ≡ None) → HoldsLayer2 header 0 map
no_layer header map none = record {
  there = λ n low small. absurd (omega arith);
  entries = λ n page is. let never : Some page ≡ None = sym is ∙ none (layer2_page n) in absurd cc;
  only = λ at there. absurd (true≢false (sym there ∙ ap (λ (o : Option (List ℕ)). is_some o) (none at)));
}

-- the next page came
module _ (header : Header) (count : ℕ) (page : List ℕ) (old new : PageMap) (holds : HoldsEntries header count page) (layer : HoldsLayer2 header count old)
    (small : count * entries_per_page < header.bigblocks) (put : new ≡ set_at (layer2_page count) (Some page) old) where
  here : new (layer2_page count) ≡ Some page
  here = ap (λ (map : PageMap). map (layer2_page count)) put ∙ set_here (layer2_page count) (Some page) old

  beside : (at : ℕ) → at ≢ layer2_page count → new at ≡ old at
  beside at apart = ap (λ (map : PageMap). map at) put ∙ set_other (layer2_page count) (Some page) old at apart

  there_more : (n : ℕ) → n < count + 1 → n * entries_per_page < header.bigblocks → IsSome (new (layer2_page n))
  there_more n low few = elim (cases_eq n count) [
    | inl same ↦ rw (same, here) refl
    | inr apart ↦
        let before : n < count = omega arith in
        subst IsSome (sym (beside (layer2_page n) (λ same. apart (page_same n count same)))) (layer.there n before few)
  ]

  entries_more : (n : ℕ) (p : List ℕ) → new (layer2_page n) ≡ Some p → HoldsEntries header n p
  entries_more n p is = elim (cases_eq n count) [
    | inl same ↦
        let both : Some page ≡ Some p = sym here ∙ (ap (λ (k : ℕ). new (layer2_page k)) (sym same) ∙ is) in
        let one : page ≡ p = cc in
        subst (λ (k : ℕ). HoldsEntries header k p) (sym same) (subst (λ (q : List ℕ). HoldsEntries header count q) one holds)
    | inr apart ↦ layer.entries n p (sym (beside (layer2_page n) (λ same. apart (page_same n count same))) ∙ is)
  ]

  only_more : (at : ℕ) → IsSome (new at) → (n : ℕ) × (n < count + 1) × (n * entries_per_page < header.bigblocks) × (at ≡ layer2_page n)
  only_more at there = elim (cases_eq at (layer2_page count)) [
    | inl same ↦ (count, omega arith, small, same)
    | inr apart ↦ let (n, low, few, is) = layer.only at (subst IsSome (beside at apart) there) in (n, omega (arith, low), few, is)
  ]

  pub layer_put : HoldsLayer2 header (count + 1) new
  layer_put = record { there = there_more; entries = entries_more; only = only_more }

-- a page without an entry of the volume leaves the map as it is
pub layer_past : (header : Header) (count : ℕ) (old new : PageMap) → HoldsLayer2 header count old → header.bigblocks ≤ count * entries_per_page
    → new ≡ old → HoldsLayer2 header (count + 1) new
layer_past header count old new layer past same = subst (λ (map : PageMap). HoldsLayer2 header (count + 1) map) (sym same) (record {
  there = λ n low few. elim (cases_lt n count) [ inl before ↦ layer.there n before few | inr from ↦ absurd (omega (arith, past, few, low, from)) ];
  entries = layer.entries;
  only = λ at there. let (n, low, few, is) = layer.only at there in (n, omega (arith, low), few, is);
})

-- the next page, whether or not it has an entry of the volume
pub layer_more : (header : Header) (count : ℕ) (page : List ℕ) (old new : Store) → HoldsLayer2 header count old.current
    → LoadsPage header count page old new → HoldsLayer2 header (count + 1) new.current
layer_more header count page old new layer loads = elim (cases_lt (count * entries_per_page) header.bigblocks) [
  | inl small ↦ layer_put header count page old.current new.current loads.holds layer small (loads.put small)
  | inr past ↦ layer_past header count old.current new.current layer past (loads.past past)
]

-- no page of a piece came yet
pub no_pages_of : (header : Header) (number : ℕ) (bytes : List ℕ) (s : Store) → IsPlain s → HoldsLayer2 header number s.current
    → LoadsPages header number 0 bytes s s
no_pages_of header number bytes s plain layer = record {
  plain = plain;
  layer = subst (λ (n : ℕ). HoldsLayer2 header n s.current) (let same : number ≡ number + 0 = omega arith in same) layer;
  holds = λ k low. absurd (omega arith);
  pages = λ at page is. inl is;
}

-- one page of it more
module _ (header : Header) (number count : ℕ) (bytes page : List ℕ) (start old new : Store) (same : page ≡ piece_page bytes count)
    (first : LoadsPages header number count bytes start old) (loads : LoadsPage header (number + count) page old new) where
  holds_more : (k : ℕ) → k < count + 1 → HoldsEntries header (number + k) (piece_page bytes k)
  holds_more k low = elim (cases_eq k count) [
    | inl is ↦ subst (λ (j : ℕ). HoldsEntries header (number + j) (piece_page bytes j)) (sym is)
        (subst (λ (p : List ℕ). HoldsEntries header (number + count) p) same loads.holds)
    | inr apart ↦ let before : k < count = omega arith in first.holds k before
  ]

  abbrev IsOfPiece : ℕ → ℕ → List ℕ → Type 0
  IsOfPiece n at p = (k : ℕ) × (k < n) × (at ≡ layer2_page (number + k)) × (p ≡ piece_page bytes k)

  before : (at : ℕ) (p : List ℕ) → old.current at ≡ Some p → (start.current at ≡ Some p) ⊎ IsOfPiece (count + 1) at p
  before at p is = elim (first.pages at p is) [ inl was ↦ inl was | inr (k, low, here, piece) ↦ inr (k, omega (arith, low), here, piece) ]

  pages_more : (at : ℕ) (p : List ℕ) → new.current at ≡ Some p → (start.current at ≡ Some p) ⊎ IsOfPiece (count + 1) at p
  pages_more at p is = elim (cases_lt ((number + count) * entries_per_page) header.bigblocks) [
    | inl small ↦ elim (cases_eq at (layer2_page (number + count))) [
      | inl here ↦
          let put : new.current (layer2_page (number + count)) ≡ Some page = ap (λ (map : PageMap). map (layer2_page (number + count)))
          (loads.put small) ∙ set_here (layer2_page (number + count)) (Some page) old.current in
          let both : Some page ≡ Some p = sym put ∙ (ap new.current (sym here) ∙ is) in
          let one : page ≡ p = cc in
          inr (count, omega arith, here, sym one ∙ same)
      | inr apart ↦ before at p (sym (ap (λ (map : PageMap). map at) (loads.put small) ∙ set_other (layer2_page (number + count))
          (Some page) old.current at apart) ∙ is)
    ]
    | inr past ↦ before at p (sym (ap (λ (map : PageMap). map at) (loads.past past)) ∙ is)
  ]

  pub pages_of_more : LoadsPages header number (count + 1) bytes start new
  pages_of_more = record {
    plain = loads.plain;
    layer = subst (λ (n : ℕ). HoldsLayer2 header n new.current) (let sum : number + count + 1 ≡ number + (count + 1) = omega arith in sum)
        (layer_more header (number + count) page old new first.layer loads);
    holds = holds_more;
    pages = pages_more;
  }

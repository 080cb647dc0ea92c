-- A balanced store from which an element goes with its reference.
use Rattle.std.proofs.Common.{◌≡◌, ℕ, zero, suc, ◌+◌, ◌-◌, ◌<◌, ◌≤◌, List, [], ◌∷◌, true, false, Bool, Option, Some, None, refl, ap, sym, ◌∙◌, subst, arith}
use Rattle.std.proofs.Common.{nat_eq, length, get_or, map, take}
use Rattle.std.specs.Prelude.{if◌then◌else◌, IsSomeAnd, All, count_by, option_map}
use Rattle.std.specs.List.{AllByRecursion}
use Rattle.std.proofs.lemmas.Bool.{eq-eqb, ne_eqb, eqb-true, eqb-false}
use Rattle.std.proofs.lemmas.List.Sums.{sum_by-cons}
use Rattle.std.proofs.lemmas.List.Elements.{All-from_recursion, All-head, All-tail, recursion_from_All}
use Rattle.hm_types.specs.Offset.{byte_of}
use Rattle.hm_types.specs.Elements.{Key, FullElement}
use Rattle.hm_key.specs.Elements.{stands_at, element_at, removed}
use Rattle.hm_types.specs.Space.{rounded}
use Rattle.hm_key.specs.Extents.{Extent, IsExtent, AreApart, AreExtents, extent_at, given_back_at}
use Rattle.hm_key.specs.Balance.{IsHeld, references, IsBalanced, first_bytes, full_of, full_elements, MayGo, LosesDead, none, keep, lose}
use Rattle.hm_key.specs.declared.element.Element.{Element}
use Rattle.hm_key.proofs.ElementLemmas.{each_removed}

-- how many elements refer to an offset
abbrev pub refer_to : ℕ → List Element → ℕ
refer_to at es = count_by (λ e. nat_eq e.payload at) es

-- 1 for an element that refers to an offset
abbrev pub refers : ℕ → Element → ℕ
refers at e = if nat_eq e.payload at then 1 else 0

pub refer_to-cons : (at : ℕ) (e : Element) (es : List Element) → refer_to at (e ∷ es) ≡ refers at e + refer_to at es
refer_to-cons at e es = sum_by-cons (refers at) e es

-- an element that goes takes its reference with it
refer_to-removed : (key : Key) (e : Element) (at : ℕ) (es : List Element) → element_at key es ≡ Some e
    → refer_to at (removed key es) + refers at e ≡ refer_to at es
refer_to-removed key e at [] found = absurd (cc)
refer_to-removed key e at (y ∷ es) found = by_test (stands_at key y) found (refer_to-removed key e at es) where
  by_test : (b : Bool) → (if b then Some y else element_at key es) ≡ Some e
      → (element_at key es ≡ Some e → refer_to at (removed key es) + refers at e ≡ refer_to at es)
      → refer_to at (if b then es else y ∷ removed key es) + refers at e ≡ refer_to at (y ∷ es)
  by_test true found more =
      let same : y ≡ e = cc in
      let one : refers at y ≡ refers at e = ap (refers at) same in
      omega (arith, refer_to-cons at y es)
  by_test false found more =
      let rest : refer_to at (removed key es) + refers at e ≡ refer_to at es = more found in
      omega (arith, refer_to-cons at y es, refer_to-cons at y (removed key es))

-- an element that refers to an offset counts
refer_to-some : (at : ℕ) (d : Element) (es : List Element) (k : ℕ) → k < length es → nat_eq (get_or es k d).payload at ≡ true → 1 ≤ refer_to at es
refer_to-some at d [] k less is = absurd (omega arith)
refer_to-some at d (e ∷ es) zero less is =
    let one : refers at e ≡ 1 = rw is refl in
    omega (arith, refer_to-cons at e es)
refer_to-some at d (e ∷ es) (suc k) less is =
    let rest : 1 ≤ refer_to at es = refer_to-some at d es k (omega arith) is in
    omega (arith, refer_to-cons at e es)

-- two offsets that are not one
not_there : (here at other : ℕ) → nat_eq here at ≡ true → nat_eq other at ≡ false → nat_eq here other ≡ false
not_there here at other is apart = ne_eqb here other (λ same. eqb-false other at apart (sym same ∙ eqb-true here at is))

-- an extent elsewhere stays when a reference is given back
pub extent_at-elsewhere : (at other : ℕ) (xs : List Extent) → nat_eq other at ≡ false → extent_at other (given_back_at at xs) ≡ extent_at other xs
extent_at-elsewhere at other [] apart = refl
extent_at-elsewhere at other (x ∷ xs) apart = by_test (nat_eq x.at at) refl (nat_eq x.refs 1) (extent_at-elsewhere at other xs apart) where
  by_test : (b : Bool) → nat_eq x.at at ≡ b → (last : Bool) → extent_at other (given_back_at at xs) ≡ extent_at other xs
      → extent_at other (if b then (if last then xs else record x { refs = x.refs - 1 } ∷ xs) else x ∷ given_back_at at xs) ≡ extent_at other (x ∷ xs)
  by_test true is true more = rw (not_there x.at at other is apart) refl
  by_test true is false more = rw (not_there x.at at other is apart) refl
  by_test false is last more = ap (λ (o : Option Extent). if nat_eq x.at other then Some x else o) more

-- the extent that loses a reference, but not its last, stays where it was
extent_at-given : (at : ℕ) (x : Extent) (xs : List Extent) → extent_at at xs ≡ Some x → nat_eq x.refs 1 ≡ false
    → extent_at at (given_back_at at xs) ≡ Some (record x { refs = x.refs - 1 })
extent_at-given at x [] found several = absurd (cc)
extent_at-given at x (y ∷ xs) found several = by_test (nat_eq y.at at) refl found (extent_at-given at x xs) where
  by_test : (b : Bool) → nat_eq y.at at ≡ b → (if b then Some y else extent_at at xs) ≡ Some x
      → (extent_at at xs ≡ Some x → nat_eq x.refs 1 ≡ false → extent_at at (given_back_at at xs) ≡ Some (record x { refs = x.refs - 1 }))
      → extent_at at (if b then (if nat_eq y.refs 1 then xs else record y { refs = y.refs - 1 } ∷ xs) else y ∷ given_back_at at xs) ≡ Some
      (record x { refs = x.refs - 1 })
  by_test true is found more =
      let same : y ≡ x = cc in
      let left : nat_eq y.refs 1 ≡ false = ap (λ (z : Extent). nat_eq z.refs 1) same ∙ several in
      rw (left, is) (ap (λ (z : Extent). Some (record z { refs = z.refs - 1 })) same)
  by_test false is found more = rw is (more found several)

-- what holds of each extent holds of the one at an offset, which stands there
pub extent_each : (P : Extent → Type 0) (at : ℕ) (x : Extent) (xs : List Extent) → AllByRecursion P xs → extent_at at xs ≡ Some x → P x × (x.at ≡ at)
extent_each P at x [] each found = absurd (cc)
extent_each P at x (y ∷ xs) each found = by_test (nat_eq y.at at) refl found (extent_each P at x xs each.1) where
  by_test : (b : Bool) → nat_eq y.at at ≡ b → (if b then Some y else extent_at at xs) ≡ Some x → (extent_at at xs ≡ Some x → P x × (x.at ≡ at))
      → P x × (x.at ≡ at)
  by_test true is found more = let same : y ≡ x = cc in (subst P same each.0, ap (λ (z : Extent). z.at) (sym same) ∙ eqb-true y.at at is)
  by_test false is found more = more found

-- extents that begin after a byte are not at an offset there
pub all_elsewhere : (low at : ℕ) (xs : List Extent) → AreApart low xs → byte_of at < low → AllByRecursion (λ x. nat_eq x.at at ≡ false) xs
all_elsewhere low at [] apart before = tt
all_elsewhere low at (x ∷ xs) apart before = (
  ne_eqb x.at at (λ same. let bytes : byte_of x.at ≡ byte_of at = ap byte_of same in omega (arith, apart.0)),
  all_elsewhere (byte_of x.at + x.len) at xs apart.1 (omega (arith, apart.0)),
)

module _ (key : Key) (e : Element) (es : List Element) (found : element_at key es ≡ Some e) where
  -- an extent elsewhere keeps its number of references
  counted_one : (x : Extent) → nat_eq x.at e.payload ≡ false → x.refs ≡ refer_to x.at es → x.refs ≡ refer_to x.at (removed key es)
  counted_one x apart count =
      let none : refers x.at e ≡ 0 = rw (ne_eqb e.payload x.at (λ same. eqb-false x.at e.payload apart (sym same))) refl in
      omega (arith, refer_to-removed key e x.at es found)

  -- extents elsewhere do
  counted_elsewhere : (xs : List Extent) → AllByRecursion (λ x. nat_eq x.at e.payload ≡ false) xs → AllByRecursion (λ x. x.refs ≡ refer_to x.at es) xs
      → AllByRecursion (λ x. x.refs ≡ refer_to x.at (removed key es)) xs
  counted_elsewhere [] apart each = tt
  counted_elsewhere (x ∷ xs) apart each = (counted_one x apart.0 each.0, counted_elsewhere xs apart.1 each.1)

  -- so do those that follow the one whose reference goes
  rest_counted : (x : Extent) (xs : List Extent) → AreApart (byte_of x.at + x.len) xs → 1 ≤ x.len → AllByRecursion (λ y. y.refs ≡ refer_to y.at es) xs
      → nat_eq x.at e.payload ≡ true → AllByRecursion (λ y. y.refs ≡ refer_to y.at (removed key es)) xs
  rest_counted x xs apart some each is =
      let there : x.at ≡ e.payload = eqb-true x.at e.payload is in
      let before : byte_of e.payload < byte_of x.at + x.len = subst (λ (at : ℕ). byte_of at < byte_of x.at + x.len) there (omega (arith, some)) in
      counted_elsewhere xs (all_elsewhere (byte_of x.at + x.len) e.payload xs apart before) each

  -- the extents that are left are referred to as often as the elements that are left say
  counted_given : (low : ℕ) (xs : List Extent) → AreApart low xs → AllByRecursion IsExtent xs → AllByRecursion (λ x. x.refs ≡ refer_to x.at es) xs
      → AllByRecursion (λ x. x.refs ≡ refer_to x.at (removed key es)) (given_back_at e.payload xs)
  counted_given low [] apart live each = tt
  counted_given low (x ∷ xs) apart live each =
      by_test (nat_eq x.at e.payload) refl (nat_eq x.refs 1) refl (counted_given (byte_of x.at + x.len) xs apart.1 live.1 each.1) where
        by_test : (b : Bool) → nat_eq x.at e.payload ≡ b → (last : Bool) → nat_eq x.refs 1 ≡ last
            → AllByRecursion (λ y. y.refs ≡ refer_to y.at (removed key es)) (given_back_at e.payload xs)
            → AllByRecursion (λ y. y.refs ≡ refer_to y.at (removed key es))
            (if b then (if last then xs else record x { refs = x.refs - 1 } ∷ xs) else x ∷ given_back_at e.payload xs)
        by_test true is true one more = rest_counted x xs apart.1 live.0.some each.1 is
        by_test true is false one more =
            let taken : refers x.at e ≡ 1 = rw (eq-eqb e.payload x.at (sym (eqb-true x.at e.payload is))) refl in
            (omega (arith, refer_to-removed key e x.at es found, each.0), rest_counted x xs apart.1 live.0.some each.1 is)
        by_test false is last one more = (counted_one x is each.0, more)

-- what an extent holds, without its references
abbrev shape_of : Extent → ℕ × List ℕ
shape_of x = (x.len, x.bytes)

-- an extent of a length, before and after, whatever its references are
held_same : (len : ℕ) (old new : Option Extent) → option_map shape_of new ≡ option_map shape_of old → IsSomeAnd old (λ x. x.len ≡ len)
    → IsSomeAnd new (λ x. x.len ≡ len)
held_same len None new same held = absurd held
held_same len (Some x) None same held = absurd (cc)
held_same len (Some x) (Some y) same held = let shapes : shape_of y ≡ shape_of x = cc in ap (λ (s : ℕ × List ℕ). s.0) shapes ∙ held

-- the first bytes of an extent, before and after
first_same : (len : ℕ) (old new : Option Extent) → option_map shape_of new ≡ option_map shape_of old → first_bytes len new ≡ first_bytes len old
first_same len None None same = refl
first_same len None (Some y) same = absurd (cc)
first_same len (Some x) None same = absurd (cc)
first_same len (Some x) (Some y) same = let shapes : shape_of y ≡ shape_of x = cc in ap (λ (s : ℕ × List ℕ). take len s.1) shapes

-- two functions that give the same of each element of a list
pub map_same : {A B : Type 0} (f g : A → B) (list : List A) → All (λ a. f a ≡ g a) list → map f list ≡ map g list
map_same f g [] same = refl
map_same f g (a ∷ list) same = λ i. All-head (λ a. f a ≡ g a) a list same i ∷ map_same f g list (All-tail (λ a. f a ≡ g a) a list same) i

-- an element with these bytes
abbrev with_bytes : Element → List ℕ → FullElement
with_bytes e bytes = record (full_of [] e) { bytes = bytes }

module _ (key : Key) (e : Element) (es : List Element) (xs : List Extent) (found : element_at key es ≡ Some e) (live : AreExtents xs)
    (balanced : IsBalanced es xs) where
  -- the extent of an element that is left holds what it held
  shape_left : (k : ℕ) (d : Element) → k < length (removed key es) → IsHeld xs (get_or (removed key es) k d)
      → option_map shape_of (extent_at (get_or (removed key es) k d).payload (given_back_at e.payload xs)) ≡ option_map shape_of
      (extent_at (get_or (removed key es) k d).payload xs)
  shape_left k d less held =
      by_test (nat_eq (get_or (removed key es) k d).payload e.payload) refl (extent_at (get_or (removed key es) k d).payload xs) refl held where
        by_test : (b : Bool) → nat_eq (get_or (removed key es) k d).payload e.payload ≡ b → (o : Option Extent)
            → extent_at (get_or (removed key es) k d).payload xs ≡ o → IsSomeAnd o (λ x. x.len ≡ rounded (get_or (removed key es) k d).len)
            → option_map shape_of (extent_at (get_or (removed key es) k d).payload (given_back_at e.payload xs)) ≡ option_map shape_of
            (extent_at (get_or (removed key es) k d).payload xs)
        by_test false is o there held = ap (option_map shape_of) (extent_at-elsewhere e.payload (get_or (removed key es) k d).payload xs is)
        by_test true is None there held = absurd held
        by_test true is (Some x) there held =
            let same : (get_or (removed key es) k d).payload ≡ e.payload = eqb-true _ _ is in
            let here : extent_at e.payload xs ≡ Some x = subst (λ (at : ℕ). extent_at at xs ≡ Some x) same there in
            let count = extent_each (λ y. y.refs ≡ refer_to y.at es) e.payload x xs (recursion_from_All _ xs balanced.counted) here in
            let refs : x.refs ≡ refer_to e.payload es = subst (λ (at : ℕ). x.refs ≡ refer_to at es) count.1 count.0 in
            let other : 1 ≤ refer_to e.payload (removed key es) = refer_to-some e.payload d (removed key es) k less is in
            let own : refers e.payload e ≡ 1 = rw (eq-eqb e.payload e.payload refl) refl in
            let several : nat_eq x.refs 1 ≡ false = ne_eqb x.refs 1 (λ one. omega (arith, refer_to-removed key e e.payload es found)) in
            subst (λ (at : ℕ). option_map shape_of (extent_at at (given_back_at e.payload xs)) ≡ option_map shape_of (extent_at at xs)) (sym same)
            (rw (extent_at-given e.payload x xs here several, here) refl)

  -- the elements that are left are held as before
  held_left : All (IsHeld xs) (removed key es)
  held_left = All-from_recursion (IsHeld xs) (removed key es) (each_removed (IsHeld xs) key es (recursion_from_All (IsHeld xs) es balanced.held))

  -- the store is balanced still
  pub balanced_removed : IsBalanced (removed key es) (given_back_at e.payload xs)
  balanced_removed = record {
    held =
        λ k d less. held_same (rounded (get_or (removed key es) k d).len) (extent_at (get_or (removed key es) k d).payload xs)
        (extent_at (get_or (removed key es) k d).payload (given_back_at e.payload xs)) (shape_left k d less (held_left k d less)) (held_left k d less);
    counted =
        All-from_recursion (λ x. x.refs ≡ references (removed key es) x) (given_back_at e.payload xs)
        (counted_given key e es found 0 xs live.apart (recursion_from_All IsExtent xs live.each)
        (recursion_from_All (λ x. x.refs ≡ references es x) xs balanced.counted));
  }

  -- the elements that are left have their payloads still
  pub full_removed : full_elements (removed key es) (given_back_at e.payload xs) ≡ full_elements (removed key es) xs
  full_removed =
      map_same (full_of (given_back_at e.payload xs)) (full_of xs) (removed key es)
      (λ k d less. ap (λ (bytes : List ℕ). with_bytes (get_or (removed key es) k d) bytes)
      (first_same (get_or (removed key es) k d).len (extent_at (get_or (removed key es) k d).payload xs)
      (extent_at (get_or (removed key es) k d).payload (given_back_at e.payload xs)) (shape_left k d less (held_left k d less))))

-- elements that stay are lost by no job
pub LosesDead-refl : (kept : ℕ → Option (List (ℕ × ℕ))) (es : List FullElement) → LosesDead kept es es
LosesDead-refl kept [] = none
LosesDead-refl kept (e ∷ es) = keep (LosesDead-refl kept es)

-- what two units lose may go
pub LosesDead-trans : (kept : ℕ → Option (List (ℕ × ℕ))) {es fs gs : List FullElement} → LosesDead kept es fs → LosesDead kept fs gs → LosesDead kept es gs
LosesDead-trans kept none second = second
LosesDead-trans kept (keep first) (keep second) = keep (LosesDead-trans kept first second)
LosesDead-trans kept (keep first) (lose dead second) = lose dead (LosesDead-trans kept first second)
LosesDead-trans kept (lose dead first) second = lose dead (LosesDead-trans kept first second)

-- one dead element goes
pub LosesDead-removed : (kept : ℕ → Option (List (ℕ × ℕ))) (key : Key) (e : Element) (es : List Element) (xs : List Extent) → element_at key es ≡ Some e
    → MayGo kept (full_of xs e) → LosesDead kept (full_elements es xs) (full_elements (removed key es) xs)
LosesDead-removed kept key e [] xs found dead = absurd (cc)
LosesDead-removed kept key e (y ∷ es) xs found dead = by_test (stands_at key y) found (λ more. LosesDead-removed kept key e es xs more dead) where
  by_test : (b : Bool) → (if b then Some y else element_at key es) ≡ Some e
      → (element_at key es ≡ Some e → LosesDead kept (full_elements es xs) (full_elements (removed key es) xs))
      → LosesDead kept (full_elements (y ∷ es) xs) (full_elements (if b then es else y ∷ removed key es) xs)
  by_test true found more =
      let same : y ≡ e = cc in lose (subst (λ (z : Element). MayGo kept (full_of xs z)) (sym same) dead) (LosesDead-refl kept (full_elements es xs))
  by_test false found more = keep (more found)

-- A balanced store in which an element moves to another extent with the same bytes.
use Rattle.std.proofs.Common.{◌≡◌, ℕ, zero, suc, ◌+◌, ◌-◌, ◌<◌, ◌≤◌, List, [], ◌∷◌, true, false, Bool, Option, Some, None, refl, ap, sym, ◌∙◌, subst, arith}
use Rattle.std.proofs.Common.{nat_eq, length, map, take, inl, inr}
use Rattle.std.specs.Prelude.{if◌then◌else◌, IfSome, IsSomeAnd}
use Rattle.std.specs.List.{AllByRecursion}
use Rattle.std.proofs.lemmas.Bool.{eq-eqb, ne_eqb, eqb-true, eqb-false}
use Rattle.std.proofs.lemmas.List.Elements.{All-from_recursion, recursion_from_All}
use Rattle.hm_types.specs.Offset.{byte_of}
use Rattle.hm_types.specs.Elements.{Key, FullElement}
use Rattle.hm_types.specs.Space.{rounded}
use Rattle.hm_key.specs.Elements.{stands_at, element_at, removed, changed, moved_to, with_payload}
use Rattle.hm_key.specs.Extents.{Extent, IsExtent, AreApart, AreExtents, PlacesAt, extent_at, with_extent, shared_at, given_back_at}
use Rattle.hm_key.specs.Balance.{IsHeld, references, IsBalanced, first_bytes, payload_of, full_of, full_elements}
use Rattle.hm_key.specs.Moves.{GainsReference, refs_of}
use Rattle.hm_key.specs.declared.element.Element.{Element}
use Rattle.hm_key.proofs.AddLemmas.{extent_at-others, extent_at-new, new_elsewhere, refer_to-none}
use Rattle.hm_key.proofs.BalanceLemmas.{refer_to, refers, refer_to-cons, extent_at-elsewhere, extent_each, all_elsewhere, balanced_removed, full_removed}
use Rattle.hm_key.proofs.ExtentLemmas.{extents_given}

-- no extent stands at an offset
none_at : (at : ℕ) (xs : List Extent) → AllByRecursion (λ x. nat_eq x.at at ≡ false) xs → extent_at at xs ≡ None
none_at at [] apart = refl
none_at at (x ∷ xs) apart = rw apart.0 (none_at at xs apart.1)

-- no other extent stands where one does
none_behind : (at : ℕ) (x : Extent) (xs : List Extent) → nat_eq x.at at ≡ true → 1 ≤ x.len → AreApart (byte_of x.at + x.len) xs → extent_at at xs ≡ None
none_behind at x xs is some apart =
    let there : x.at ≡ at = eqb-true x.at at is in
    let before : byte_of at < byte_of x.at + x.len = subst (λ (a : ℕ). byte_of a < byte_of x.at + x.len) there (omega (arith, some)) in
    none_at at xs (all_elsewhere (byte_of x.at + x.len) at xs apart before)

-- the extent at an offset after a reference was given back
abbrev left_of : Option Extent → Option Extent
left_of None = None
left_of (Some x) = if nat_eq x.refs 1 then None else Some (record x { refs = x.refs - 1 })

given_here : (low at : ℕ) (xs : List Extent) → AreApart low xs → AllByRecursion IsExtent xs → extent_at at (given_back_at at xs) ≡ left_of (extent_at at xs)
given_here low at [] apart live = refl
given_here low at (x ∷ xs) apart live = by_test (nat_eq x.at at) refl (nat_eq x.refs 1) refl (given_here (byte_of x.at + x.len) at xs apart.1 live.1) where
  by_test : (b : Bool) → nat_eq x.at at ≡ b → (last : Bool) → nat_eq x.refs 1 ≡ last → extent_at at (given_back_at at xs) ≡ left_of (extent_at at xs)
      → extent_at at (if b then (if last then xs else record x { refs = x.refs - 1 } ∷ xs) else x ∷ given_back_at at xs) ≡ left_of
      (if b then Some x else extent_at at xs)
  by_test true is true one more = rw one (none_behind at x xs is live.0.some apart.1)
  by_test true is false one more = rw (is, one) refl
  by_test false is last one more = rw is more

-- what holds of the extent at each offset holds of each extent
each_at : (P : Extent → Type 0) (low : ℕ) (xs : List Extent) → AreApart low xs → AllByRecursion IsExtent xs
    → ((at : ℕ) (x : Extent) → extent_at at xs ≡ Some x → P x) → AllByRecursion P xs
each_at P low [] apart live all = tt
each_at P low (x ∷ xs) apart live all = (
  all x.at x (rw (eq-eqb x.at x.at refl) refl),
  each_at P (byte_of x.at + x.len) xs apart.1 live.1
      (λ at y found. all at y (behind at y (nat_eq x.at at) refl found)),
) where
  behind : (at : ℕ) (y : Extent) (b : Bool) → nat_eq x.at at ≡ b → extent_at at xs ≡ Some y → (if b then Some x else extent_at at xs) ≡ Some y
  behind at y true is found = let none : extent_at at xs ≡ None = none_behind at x xs is live.0.some apart.1 in absurd (cc)
  behind at y false is found = found

-- what holds of each element that is left, and of a changed one, holds of each where that changed
each_instead : (P : Element → Type 0) (key : Key) (e : Element) (change : Element → Element) (es : List Element) → element_at key es ≡ Some e → P (change e)
    → AllByRecursion P (removed key es) → AllByRecursion P (changed key change es)
each_instead P key e change [] found fact each = absurd (cc)
each_instead P key e change (y ∷ es) found fact each = by_test (stands_at key y) found each (each_instead P key e change es) where
  by_test : (b : Bool) → (if b then Some y else element_at key es) ≡ Some e → AllByRecursion P (if b then es else y ∷ removed key es)
      → (element_at key es ≡ Some e → P (change e) → AllByRecursion P (removed key es) → AllByRecursion P (changed key change es))
      → AllByRecursion P (if b then change y ∷ es else y ∷ changed key change es)
  by_test true found each more = let same : y ≡ e = cc in (subst (λ (z : Element). P (change z)) (sym same) fact, each)
  by_test false found each more = (each.0, more found fact each.1)

-- a changed element brings its reference in place of the old one's
refer_to-instead : (at : ℕ) (key : Key) (e : Element) (change : Element → Element) (es : List Element) → element_at key es ≡ Some e
    → refer_to at (changed key change es) ≡ refers at (change e) + refer_to at (removed key es)
refer_to-instead at key e change [] found = absurd (cc)
refer_to-instead at key e change (y ∷ es) found = by_test (stands_at key y) found (refer_to-instead at key e change es) where
  by_test : (b : Bool) → (if b then Some y else element_at key es) ≡ Some e
      → (element_at key es ≡ Some e → refer_to at (changed key change es) ≡ refers at (change e) + refer_to at (removed key es))
      → refer_to at (if b then change y ∷ es else y ∷ changed key change es) ≡ refers at (change e) + refer_to at (if b then es else y ∷ removed key es)
  by_test true found more =
      let same : y ≡ e = cc in
      let one : refers at (change y) ≡ refers at (change e) = ap (λ (z : Element). refers at (change z)) same in
      omega (arith, refer_to-cons at (change y) es)
  by_test false found more =
      let rest : refer_to at (changed key change es) ≡ refers at (change e) + refer_to at (removed key es) = more found in
      omega (arith, refer_to-cons at y (changed key change es), refer_to-cons at y (removed key es))

-- elements that were mapped to the same were so one by one
each_mapped : (f g : Element → FullElement) (es : List Element) → map f es ≡ map g es → AllByRecursion (λ y. f y ≡ g y) es
each_mapped f g [] same = tt
each_mapped f g (e ∷ es) same = let whole : f e ∷ map f es ≡ g e ∷ map g es = same in let rest : map f es ≡ map g es = cc in (cc, each_mapped f g es rest)

-- a list of which one element changed is mapped to what it was
map_instead : (f g : Element → FullElement) (key : Key) (e : Element) (change : Element → Element) (es : List Element) → element_at key es ≡ Some e
    → f (change e) ≡ g e → AllByRecursion (λ y. f y ≡ g y) (removed key es)
    → map f (changed key change es) ≡ map g es
map_instead f g key e change [] found one each = absurd (cc)
map_instead f g key e change (y ∷ es) found one each = by_test (stands_at key y) found each (map_instead f g key e change es) where
  all_same : (list : List Element) → AllByRecursion (λ z. f z ≡ g z) list → map f list ≡ map g list
  all_same [] each = refl
  all_same (z ∷ list) each = λ i. each.0 i ∷ all_same list each.1 i

  by_test : (b : Bool) → (if b then Some y else element_at key es) ≡ Some e → AllByRecursion (λ z. f z ≡ g z) (if b then es else y ∷ removed key es)
      → (element_at key es ≡ Some e → f (change e) ≡ g e → AllByRecursion (λ z. f z ≡ g z) (removed key es) → map f (changed key change es) ≡ map g es)
      → map f (if b then change y ∷ es else y ∷ changed key change es) ≡ g y ∷ map g es
  by_test true found each more =
      let same : y ≡ e = cc in
      let here : f (change y) ≡ g y = subst (λ (z : Element). f (change z) ≡ g z) (sym same) one in
      λ i. here i ∷ all_same es each i
  by_test false found each more = λ i. each.0 i ∷ more found one each.1 i

-- the references to the extent at an offset are those of the elements that are held
refs_there : (at : ℕ) (es : List Element) (xs : List Extent) → IsBalanced es xs → refs_of (extent_at at xs) ≡ refer_to at es
refs_there at es xs balanced = by_extent (extent_at at xs) refl where
  elsewhere : (list : List Element) → extent_at at xs ≡ None → AllByRecursion (IsHeld xs) list → AllByRecursion (λ e. nat_eq e.payload at ≡ false) list
  elsewhere [] none held = tt
  elsewhere (e ∷ list) none held = (
    ne_eqb e.payload at (λ same. subst (λ (o : Option Extent). IsSomeAnd o (λ x. x.len ≡ rounded e.len))
        (ap (λ (a : ℕ). extent_at a xs) same ∙ none) held.0),
    elsewhere list none held.1,
  )

  by_extent : (o : Option Extent) → extent_at at xs ≡ o → refs_of o ≡ refer_to at es
  by_extent None none = sym (refer_to-none at es (elsewhere es none (recursion_from_All (IsHeld xs) es balanced.held)))
  by_extent (Some x) there =
      let counted = extent_each (λ y. y.refs ≡ references es y) at x xs (recursion_from_All (λ y. y.refs ≡ references es y) xs balanced.counted) there in
      subst (λ (a : ℕ). x.refs ≡ refer_to a es) counted.1 counted.0

-- the rest of a store, to whose extents a reference comes, with an element that has it
module _ (key : Key) (e : Element) (to : ℕ) (es : List Element) (ws zs : List Extent) (bytes : List ℕ) (found : element_at key es ≡ Some e)
    (gains : GainsReference to e.len bytes ws zs) (live : AreExtents zs) (balanced : IsBalanced (removed key es) ws) where
  -- the extent at an element's payload is as long as it was, with the same first bytes
  stays_held : (y : Element) → IsHeld ws y → IsHeld zs y × (payload_of zs y ≡ payload_of ws y)
  stays_held y held = by_test (nat_eq y.payload to) refl where
    at_to : (o : Option Extent) → y.payload ≡ to → IsSomeAnd o (λ x. x.len ≡ rounded y.len)
        → IfSome o (λ x. (gains.extent.len ≡ x.len) × (gains.extent.bytes ≡ x.bytes))
        → IsSomeAnd (extent_at y.payload zs) (λ x. x.len ≡ rounded y.len) × (first_bytes y.len (extent_at y.payload zs) ≡ first_bytes y.len o)
    at_to None is held same = absurd held
    at_to (Some x) is held same =
        let there : extent_at y.payload zs ≡ Some gains.extent = ap (λ (a : ℕ). extent_at a zs) is ∙ gains.there in
        rw there (same.0 ∙ held, ap (take y.len) same.1)

    by_test : (b : Bool) → nat_eq y.payload to ≡ b → IsHeld zs y × (payload_of zs y ≡ payload_of ws y)
    by_test true is =
        let here : y.payload ≡ to = eqb-true y.payload to is in
        let was : extent_at to ws ≡ extent_at y.payload ws = ap (λ (a : ℕ). extent_at a ws) (sym here) in
        at_to (extent_at y.payload ws) here held
        (subst (λ (o : Option Extent). IfSome o (λ x. (gains.extent.len ≡ x.len) × (gains.extent.bytes ≡ x.bytes))) was gains.same)
    by_test false is =
        let stays : extent_at y.payload zs ≡ extent_at y.payload ws = gains.others y.payload is in
        (subst (λ (o : Option Extent). IsSomeAnd o (λ x. x.len ≡ rounded y.len)) (sym stays) held, ap (first_bytes y.len) stays)

  -- so are those of all elements that are left
  all_held : (list : List Element) → AllByRecursion (IsHeld ws) list → AllByRecursion (IsHeld zs) list
  all_held [] held = tt
  all_held (y ∷ list) held = ((stays_held y held.0).0, all_held list held.1)

  -- an extent has the references of the elements that are left, and that of the moved one
  counted_at : (at : ℕ) (x : Extent) → extent_at at zs ≡ Some x → x.refs ≡ references (with_payload key to es) x
  counted_at at x there =
      let place = (extent_each IsExtent at x zs (recursion_from_All IsExtent zs live.each) there).1 in
      subst (λ (a : ℕ). x.refs ≡ refer_to a (with_payload key to es)) (sym place) (by_test (nat_eq at to) refl) where
        moved : refer_to at (with_payload key to es) ≡ refers at (moved_to to e) + refer_to at (removed key es)
        moved = refer_to-instead at key e (moved_to to) es found

        by_test : (b : Bool) → nat_eq at to ≡ b → x.refs ≡ refer_to at (with_payload key to es)
        by_test true is =
            let here : at ≡ to = eqb-true at to is in
            let one : refers at (moved_to to e) ≡ 1 = rw (eq-eqb to at (sym here)) refl in
            let same : x ≡ gains.extent = let ends : extent_at to zs ≡ Some x = ap (λ (a : ℕ). extent_at a zs) (sym here)
            ∙ there in let had = gains.there in cc in
            let refs : x.refs ≡ refs_of (extent_at to ws) + 1 = ap (λ (z : Extent). z.refs) same ∙ gains.more in
            let rest : refs_of (extent_at to ws) ≡ refer_to at (removed key es) =
            ap (λ (a : ℕ). refs_of (extent_at a ws)) (sym here) ∙ refs_there at (removed key es) ws balanced in
            omega (arith, moved, one, refs, rest)
        by_test false is =
            let none : refers at (moved_to to e) ≡ 0 = rw (ne_eqb to at (λ same. eqb-false at to is (sym same))) refl in
            let stood : extent_at at ws ≡ Some x = sym (gains.others at is) ∙ there in
            let refs : x.refs ≡ refer_to at (removed key es) = ap refs_of (sym stood) ∙ refs_there at (removed key es) ws balanced in
            omega (arith, moved, none, refs)

  -- the store is balanced still
  instead_balanced : IsBalanced (with_payload key to es) zs
  instead_balanced = record {
    held = All-from_recursion (IsHeld zs) (with_payload key to es)
        (each_instead (IsHeld zs) key e (moved_to to) es found (rw gains.there gains.size)
        (all_held (removed key es) (recursion_from_All (IsHeld ws) (removed key es) balanced.held)));
    counted = All-from_recursion (λ x. x.refs ≡ references (with_payload key to es) x) zs
        (each_at (λ x. x.refs ≡ references (with_payload key to es) x) 0 zs live.apart (recursion_from_All IsExtent zs live.each) counted_at);
  }

-- An element moves to another extent with the same bytes, and its reference to the old one is given back.
module _ (key : Key) (e : Element) (to : ℕ) (es : List Element) (xs ys : List Extent) (found : element_at key es ≡ Some e) (apart : nat_eq to e.payload ≡ false)
    (gains : GainsReference to e.len (payload_of xs e) xs ys) (was : AreExtents xs) (live : AreExtents ys) (balanced : IsBalanced es xs) where
  ws : List Extent
  ws = given_back_at e.payload xs

  zs : List Extent
  zs = given_back_at e.payload ys

  -- the reference comes to the extents that are left, too
  gains_left : GainsReference to e.len (payload_of xs e) (given_back_at e.payload xs) (given_back_at e.payload ys)
  gains_left =
      let stood : extent_at to (given_back_at e.payload xs) ≡ extent_at to xs = extent_at-elsewhere e.payload to xs apart in
      record {
        extent = gains.extent;
        there = extent_at-elsewhere e.payload to ys apart ∙ gains.there;
        size = gains.size;
        begin = gains.begin;
        more = gains.more ∙ ap (λ (o : Option Extent). refs_of o + 1) (sym stood);
        same = subst (λ (o : Option Extent). IfSome o (λ x. (gains.extent.len ≡ x.len) × (gains.extent.bytes ≡ x.bytes))) (sym stood) gains.same;
        others = λ other elsewhere. by_test other elsewhere (nat_eq other e.payload) refl;
      } where
        by_test : (other : ℕ) → nat_eq other to ≡ false → (b : Bool) → nat_eq other e.payload ≡ b
            → extent_at other (given_back_at e.payload ys) ≡ extent_at other (given_back_at e.payload xs)
        by_test other elsewhere true is =
            let here : other ≡ e.payload = eqb-true other e.payload is in
            let new : extent_at e.payload (given_back_at e.payload ys) ≡ left_of (extent_at e.payload ys) =
            given_here 0 e.payload ys live.apart (recursion_from_All IsExtent ys live.each) in
            let old : extent_at e.payload (given_back_at e.payload xs) ≡ left_of (extent_at e.payload xs) =
            given_here 0 e.payload xs was.apart (recursion_from_All IsExtent xs was.each) in
            let same : extent_at e.payload ys ≡ extent_at e.payload xs =
            ap (λ (a : ℕ). extent_at a ys) (sym here) ∙ gains.others other elsewhere ∙ ap (λ (a : ℕ). extent_at a xs) here in
            subst (λ (a : ℕ). extent_at a (given_back_at e.payload ys) ≡ extent_at a (given_back_at e.payload xs)) (sym here) (new ∙ ap left_of same ∙ sym old)
        by_test other elsewhere false is =
            extent_at-elsewhere e.payload other ys is ∙ gains.others other elsewhere ∙ sym (extent_at-elsewhere e.payload other xs is)

  rest_balanced : IsBalanced (removed key es) (given_back_at e.payload xs)
  rest_balanced = balanced_removed key e es xs found was balanced

  -- the store is balanced still
  pub moved_balanced : IsBalanced (with_payload key to es) (given_back_at e.payload ys)
  moved_balanced =
      instead_balanced key e to es (given_back_at e.payload xs) (given_back_at e.payload ys) (payload_of xs e) found gains_left
      (extents_given e.payload ys live) rest_balanced

  -- the elements that are left have their payloads still
  rest_full : (list : List Element) → AllByRecursion (IsHeld (given_back_at e.payload xs)) list
      → AllByRecursion (λ y. full_of (given_back_at e.payload xs) y ≡ full_of xs y) list
      → AllByRecursion (λ y. full_of (given_back_at e.payload ys) y ≡ full_of xs y) list
  rest_full [] held same = tt
  rest_full (y ∷ list) held same =
      let bytes : payload_of (given_back_at e.payload ys) y ≡ payload_of (given_back_at e.payload xs) y =
      (stays_held key e to es (given_back_at e.payload xs) (given_back_at e.payload ys) (payload_of xs e) found gains_left
      (extents_given e.payload ys live) rest_balanced y held.0).1 in
      (ap (λ (b : List ℕ). record (full_of xs y) { bytes = b }) bytes ∙ same.0, rest_full list held.1 same.1)

  -- all have
  pub moved_full : full_elements (with_payload key to es) (given_back_at e.payload ys) ≡ full_elements es xs
  unfolding gains_left
  moved_full =
      let one : full_of (given_back_at e.payload ys) (moved_to to e) ≡ full_of xs e =
      ap (λ (b : List ℕ). record (full_of xs e) { bytes = b }) (rw gains_left.there gains.begin) in
      map_instead (full_of (given_back_at e.payload ys)) (full_of xs) key e (moved_to to) es found one
      (rest_full (removed key es) (recursion_from_All (IsHeld (given_back_at e.payload xs)) (removed key es) rest_balanced.held)
      (each_mapped (full_of (given_back_at e.payload xs)) (full_of xs) (removed key es) (full_removed key e es xs found was balanced)))

-- a part of the front of a list
take_front : (m n : ℕ) (list : List ℕ) → m ≤ n → take m (take n list) ≡ take m list
take_front zero n list le = refl
take_front (suc m) zero list le = absurd (omega arith)
take_front (suc m) (suc n) [] le = refl
take_front (suc m) (suc n) (x ∷ list) le = ap (λ (l : List ℕ). x ∷ l) (take_front m n list (omega arith))

-- a new extent with these bytes has a reference to give
pub placed_gains : (to len : ℕ) (given bytes : List ℕ) (xs ys : List Extent) → PlacesAt to given xs ys → 1 ≤ length given → rounded len ≡ rounded (length given)
    → len ≤ length given
    → take len given ≡ bytes → AreExtents ys → GainsReference to len bytes xs ys
placed_gains to len given bytes xs ys placed some long fits begins live =
    let new : Extent = placed.extent in
    let apart : AllByRecursion (λ x. nat_eq x.at new.at ≡ false) xs =
    new_elsewhere 0 new xs (omega (arith, some, placed.size)) (subst (AreApart 0) placed.list live.apart) in
    let none : extent_at to xs ≡ None = subst (λ (a : ℕ). extent_at a xs ≡ None) placed.place (none_at new.at xs apart) in
    record {
      extent = new;
      there = subst (λ (a : ℕ). extent_at a ys ≡ Some new) placed.place
          (subst (λ (l : List Extent). extent_at new.at l ≡ Some new) (sym placed.list) (extent_at-new new xs apart));
      size = placed.size ∙ sym long;
      begin = sym (take_front len (length given) new.bytes fits) ∙ ap (take len) placed.begin ∙ begins;
      more = placed.one ∙ ap (λ (o : Option Extent). refs_of o + 1) (sym none);
      same = rw none tt;
      others = λ other elsewhere. ap (extent_at other) placed.list
          ∙ extent_at-others other new xs (ne_eqb new.at other (λ same. eqb-false other to elsewhere (sym same ∙ placed.place)));
    }

-- the extent that gets a reference more, and the others
shared_there : (at : ℕ) (x : Extent) (xs : List Extent) → extent_at at xs ≡ Some x → extent_at at (shared_at at xs) ≡ Some (record x { refs = x.refs + 1 })
shared_there at x [] found = absurd (cc)
shared_there at x (y ∷ xs) found = by_test (nat_eq y.at at) refl found (shared_there at x xs) where
  by_test : (b : Bool) → nat_eq y.at at ≡ b → (if b then Some y else extent_at at xs) ≡ Some x
      → (extent_at at xs ≡ Some x → extent_at at (shared_at at xs) ≡ Some (record x { refs = x.refs + 1 }))
      → extent_at at (if b then record y { refs = y.refs + 1 } ∷ xs else y ∷ shared_at at xs) ≡ Some (record x { refs = x.refs + 1 })
  by_test true is found more = let same : y ≡ x = cc in rw is (ap (λ (z : Extent). Some (record z { refs = z.refs + 1 })) same)
  by_test false is found more = rw is (more found)

shared_others : (at other : ℕ) (xs : List Extent) → nat_eq other at ≡ false → extent_at other (shared_at at xs) ≡ extent_at other xs
shared_others at other [] apart = refl
shared_others at other (x ∷ xs) apart = by_test (nat_eq x.at at) refl (shared_others at other xs apart) where
  by_test : (b : Bool) → nat_eq x.at at ≡ b → extent_at other (shared_at at xs) ≡ extent_at other xs
      → extent_at other (if b then record x { refs = x.refs + 1 } ∷ xs else x ∷ shared_at at xs) ≡ extent_at other (x ∷ xs)
  by_test true is more =
      let elsewhere : nat_eq x.at other ≡ false = ne_eqb x.at other (λ same. eqb-false other at apart (sym same ∙ eqb-true x.at at is)) in
      rw elsewhere refl
  by_test false is more = ap (λ (o : Option Extent). if nat_eq x.at other then Some x else o) more

-- an extent with these bytes that is shared has one to give, too
pub shared_gains : (to len : ℕ) (bytes : List ℕ) (x : Extent) (xs : List Extent) → extent_at to xs ≡ Some x → x.len ≡ rounded len → take len x.bytes ≡ bytes
    → GainsReference to len bytes xs (shared_at to xs)
shared_gains to len bytes x xs found size begins = record {
  extent = record x { refs = x.refs + 1 };
  there = shared_there to x xs found;
  size = size;
  begin = begins;
  more = ap (λ (o : Option Extent). refs_of o + 1) (sym found);
  same = rw found (refl, refl);
  others = λ other elsewhere. shared_others to other xs elsewhere;
}

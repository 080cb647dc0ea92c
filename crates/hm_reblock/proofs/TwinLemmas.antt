-- Twins: two extents with the same bytes, from one of which elements move to the other.
use Rattle.std.proofs.Common.{◌≡◌, ℕ, ◌+◌, ◌-◌, ◌<◌, ◌≤◌, List, [], ◌∷◌, true, false, Bool, Option, Some, None, refl, ap, sym, ◌∙◌, subst, arith}
use Rattle.std.proofs.Common.{nat_eq, take}
use Rattle.std.specs.Prelude.{if◌then◌else◌, IfSome, IsSomeAnd}
use Rattle.std.specs.List.{AllByRecursion}
use Rattle.std.proofs.lemmas.Bool.{eqb-false, eqb-true, ne_eqb}
use Rattle.std.proofs.lemmas.List.Elements.{recursion_from_All}
use Rattle.hm_types.specs.Elements.{Key}
use Rattle.hm_types.specs.Offset.{byte_of}
use Rattle.hm_types.specs.Space.{rounded}
use Rattle.hm_key.specs.Balance.{IsBalanced, IsHeld, first_bytes, payload_of}
use Rattle.hm_key.specs.Elements.{element_at, element_key, moved_to, stands_at, with_payload}
use Rattle.hm_key.specs.Extents.{AreApart, AreExtents, Extent, IsExtent, extent_at, given_back_at, shared_at}
use Rattle.hm_key.specs.Moves.{GainsReference, refs_of}
use Rattle.hm_key.specs.declared.element.Element.{Element}
use Rattle.hm_key.proofs.BalanceLemmas.{all_elsewhere, extent_at-elsewhere, extent_each}
use Rattle.hm_key.proofs.MoveLemmas.{moved_balanced, moved_full, shared_gains}
use Rattle.hm_reblock.specs.Moving.{AreTwins, HasMovedTo, IsCopy, IsTwin, MovesTo}
use Rattle.hm_reblock.specs.Moving.{move, none, stay}
use Rattle.hm_reblock.proofs.CopyLemmas.{none_at}

-- no other extent stands where one does
none_behind : (at : ℕ) (x : Extent) (xs : List Extent) → nat_eq x.at at ≡ true → 1 ≤ x.len → AreApart (byte_of x.at + x.len) xs → extent_at at xs ≡ None
none_behind at x xs is some apart =
    let there : x.at ≡ at = eqb-true x.at at is in
    let before : byte_of at < byte_of x.at + x.len = subst (λ (a : ℕ). byte_of a < byte_of x.at + x.len) there (omega (arith, some)) in
    none_at at xs (all_elsewhere (byte_of x.at + x.len) at xs apart before)

-- the extent at an offset after a reference was given back
abbrev left_of : Option Extent → Option Extent
left_of None = None
left_of (Some x) = if nat_eq x.refs 1 then None else Some (record x { refs = x.refs - 1 })

given_here : (low at : ℕ) (xs : List Extent) → AreApart low xs → AllByRecursion IsExtent xs → extent_at at (given_back_at at xs) ≡ left_of (extent_at at xs)
given_here low at [] apart live = refl
given_here low at (x ∷ xs) apart live = by_test (nat_eq x.at at) refl (nat_eq x.refs 1) refl (given_here (byte_of x.at + x.len) at xs apart.1 live.1) where
  by_test : (b : Bool) → nat_eq x.at at ≡ b → (last : Bool) → nat_eq x.refs 1 ≡ last → extent_at at (given_back_at at xs) ≡ left_of (extent_at at xs)
      → extent_at at (if b then (if last then xs else record x { refs = x.refs - 1 } ∷ xs) else x ∷ given_back_at at xs) ≡ left_of
      (if b then Some x else extent_at at xs)
  by_test true is true one more = rw one (none_behind at x xs is live.0.some apart.1)
  by_test true is false one more = rw (is, one) refl
  by_test false is last one more = rw is more

-- twins are so with a reference less to the first
pub twins_given : (from to : ℕ) (xs : List Extent) → AreTwins 65 from to xs → AreExtents xs → AreTwins 64 from to (given_back_at from xs)
twins_given from to xs twins live =
    let here : extent_at from (given_back_at from xs) ≡ left_of (extent_at from xs) =
    given_here 0 from xs live.apart (recursion_from_All IsExtent xs live.each) in
    let there : extent_at to (given_back_at from xs) ≡ extent_at to xs = extent_at-elsewhere from to xs twins.apart in
    record { apart = twins.apart; twin = rw (here, there) (by_extent (extent_at from xs) refl twins.twin) } where
      less : (x : Extent) → 1 ≤ x.refs → (o : Option Extent) → IsSomeAnd o (IsTwin 65 x) → IsSomeAnd o (IsTwin 64 (record x { refs = x.refs - 1 }))
      less x some None twin = twin
      less x some (Some y) twin = record { len = twin.len; bytes = twin.bytes; few = (let few = twin.few in omega (arith, few, some)) }

      by_refs : (x : Extent) (b : Bool) → 1 ≤ x.refs → IsSomeAnd (extent_at to xs) (IsTwin 65 x)
          → IfSome (if b then None else Some (record x { refs = x.refs - 1 })) (λ x. IsSomeAnd (extent_at to xs) (IsTwin 64 x))
      by_refs x true some twin = tt
      by_refs x false some twin = less x some (extent_at to xs) twin

      by_extent : (o : Option Extent) → extent_at from xs ≡ o → IfSome o (λ x. IsSomeAnd (extent_at to xs) (IsTwin 65 x))
          → IfSome (left_of o) (λ x. IsSomeAnd (extent_at to xs) (IsTwin 64 x))
      by_extent None found twin = tt
      by_extent (Some x) found twin =
          let is = (extent_each IsExtent from x xs (recursion_from_All IsExtent xs live.each) found).0 in
          by_refs x (nat_eq x.refs 1) is.shared.0 twin

-- all elements stay
pub all_stay : (from to : ℕ) (es : List Element) → MovesTo from to es es
all_stay from to [] = none
all_stay from to (e ∷ es) = stay (all_stay from to es)

-- one element moves
pub one_moves : (key : Key) (e : Element) (to : ℕ) (es : List Element) → element_at key es ≡ Some e → MovesTo e.payload to es (with_payload key to es)
one_moves key e to [] found = absurd (cc)
one_moves key e to (y ∷ es) found = by_test (stands_at key y) found (one_moves key e to es) where
  by_test : (b : Bool) → (if b then Some y else element_at key es) ≡ Some e → (element_at key es ≡ Some e → MovesTo e.payload to es (with_payload key to es))
      → MovesTo e.payload to (y ∷ es) (if b then moved_to to y ∷ es else y ∷ with_payload key to es)
  by_test true found more = let same : y ≡ e = cc in move (ap (λ (z : Element). z.payload) same) (all_stay e.payload to es)
  by_test false found more = stay (more found)

-- elements move in two steps
pub moves_both : {from to : ℕ} {es fs gs : List Element} → MovesTo from to es fs → MovesTo from to fs gs → MovesTo from to es gs
moves_both none second = second
moves_both (stay first) (stay second) = stay (moves_both first second)
moves_both (stay first) (move is second) = move is (moves_both first second)
moves_both (move is first) (stay second) = move is (moves_both first second)
moves_both (move is first) (move again second) = move is (moves_both first second)

-- An element moves to a twin of its extent, to which a reference came.
pub moved : (e : Element) (to : ℕ) (es : List Element) (xs ys : List Extent) → element_at (element_key e) es ≡ Some e → IsCopy e to xs ys → AreExtents xs
    → AreExtents ys → IsBalanced es xs → HasMovedTo e.payload to (es, xs) (with_payload (element_key e) to es, given_back_at e.payload ys)
moved e to es xs ys found copy was live balanced = record {
  balanced = moved_balanced (element_key e) e to es xs ys found copy.twins.apart copy.gains was live balanced;
  full = moved_full (element_key e) e to es xs ys found copy.twins.apart copy.gains was live balanced;
  elements = one_moves (element_key e) e to es found;
  others = λ at from other. extent_at-elsewhere e.payload at ys from ∙ copy.gains.others at other;
  twins = twins_given e.payload to ys copy.twins live;
}

-- the extent of an element is held still
pub held_still : (e : Element) (to : ℕ) (xs ys : List Extent) → IsCopy e to xs ys → IsHeld xs e → IsHeld ys e
held_still e to xs ys copy held =
    let away : nat_eq e.payload to ≡ false = ne_eqb e.payload to (λ same. eqb-false to e.payload copy.twins.apart (sym same)) in
    subst (λ (o : Option Extent). IsSomeAnd o (λ x. x.len ≡ rounded e.len)) (sym (copy.gains.others e.payload away)) held

-- a twin that is shared is such a copy
pub shared_copy : (e : Element) (to : ℕ) (xs : List Extent) → AreTwins 64 e.payload to xs → IsHeld xs e → IsCopy e to xs (shared_at to xs)
shared_copy e to xs twins held = by_extent (extent_at e.payload xs) refl held twins.twin where
  by_twin : (x : Extent) → extent_at e.payload xs ≡ Some x → x.len ≡ rounded e.len → (o : Option Extent) → extent_at to xs ≡ o → IsSomeAnd o (IsTwin 64 x)
      → IsCopy e to xs (shared_at to xs)
  by_twin x found size None other twin = absurd twin
  by_twin x found size (Some y) other twin =
      let bytes : take e.len y.bytes ≡ payload_of xs e = ap (take e.len) twin.bytes ∙ ap (first_bytes e.len) (sym found) in
      let gains : GainsReference to e.len (payload_of xs e) xs (shared_at to xs) =
      shared_gains to e.len (payload_of xs e) y xs other (twin.len ∙ size) bytes in
      let away : nat_eq e.payload to ≡ false = ne_eqb e.payload to (λ same. eqb-false to e.payload twins.apart (sym same)) in
      let here : extent_at e.payload (shared_at to xs) ≡ Some x = gains.others e.payload away ∙ found in
      let same : IfSome (Some y) (λ y. (gains.extent.len ≡ y.len) × (gains.extent.bytes ≡ y.bytes)) =
      subst (λ (o : Option Extent). IfSome o (λ y. (gains.extent.len ≡ y.len) × (gains.extent.bytes ≡ y.bytes))) other gains.same in
      let refs : gains.extent.refs ≡ y.refs + 1 = gains.more ∙ ap (λ (o : Option Extent). refs_of o + 1) other in
      let few = twin.few in
      let two : IsTwin 65 x gains.extent = record {
        len = same.0 ∙ twin.len;
        bytes = same.1 ∙ twin.bytes;
        few = omega (arith, few, refs);
      } in
      record { gains = gains; twins = record { apart = twins.apart; twin = rw (here, gains.there) two } }

  by_extent : (o : Option Extent) → extent_at e.payload xs ≡ o → IsSomeAnd o (λ x. x.len ≡ rounded e.len)
      → IfSome o (λ x. IsSomeAnd (extent_at to xs) (IsTwin 64 x)) → IsCopy e to xs (shared_at to xs)
  by_extent None found held twin = absurd held
  by_extent (Some x) found held twin = by_twin x found held (extent_at to xs) refl twin

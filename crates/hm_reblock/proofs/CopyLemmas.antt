-- A new extent with the bytes of another one.
use Rattle.std.proofs.Common.{◌≡◌, ℕ, ◌+◌, ◌≤◌, List, [], ◌∷◌, false, Option, Some, None, refl, ap, sym, ◌∙◌, subst, arith}
use Rattle.std.proofs.Common.{nat_eq, length, take}
use Rattle.std.specs.Prelude.{IfOk, IfSome, IsSomeAnd, Result, Err, Ok, is_some}
use Rattle.std.specs.List.{AllByRecursion}
use Rattle.std.proofs.lemmas.Bool.{eqb-false, ne_eqb}
use Rattle.std.proofs.lemmas.List.{take_all}
use Rattle.std.proofs.lemmas.List.Elements.{recursion_from_All}
use Rattle.hm_types.specs.Elements.{Key}
use Rattle.hm_types.specs.Offset.{zone_of}
use Rattle.hm_types.specs.Space.{rounded}
use Rattle.hm_types.specs.Told.{BothTell}
use Rattle.hm_key.specs.Balance.{IsHeld, first_bytes, payload_of}
use Rattle.hm_types.specs.declared.fault.Fault.{Fault}
use Rattle.hm_key.specs.Calls.{Placement}
use Rattle.hm_key.specs.Extents.{AreApart, AreExtents, Extent, IsExtent, PlacesAt, extent_at}
use Rattle.hm_key.specs.Moves.{GainsReference, refs_of}
use Rattle.hm_key.specs.Stores.{Same}
use Rattle.hm_key.specs.declared.element.Element.{Element}
use Rattle.hm_key.proofs.AddLemmas.{new_elsewhere}
use Rattle.hm_key.proofs.BalanceLemmas.{extent_each}
use Rattle.hm_key.proofs.MoveLemmas.{placed_gains}
use Rattle.hm_reblock.specs.Moving.{Copies, IsCopy, IsTwin}

-- no extent stands at an offset
pub none_at : (at : ℕ) (xs : List Extent) → AllByRecursion (λ x. nat_eq x.at at ≡ false) xs → extent_at at xs ≡ None
none_at at [] apart = refl
none_at at (x ∷ xs) apart = rw apart.0 (none_at at xs apart.1)

-- none stood where one was placed
pub placed_apart : (to : ℕ) (given : List ℕ) (xs ys : List Extent) → PlacesAt to given xs ys → 1 ≤ length given → AreExtents ys → extent_at to xs ≡ None
placed_apart to given xs ys placed some live =
    let new : Extent = placed.extent in
    subst (λ (a : ℕ). extent_at a xs ≡ None) placed.place
    (none_at new.at xs (new_elsewhere 0 new xs (omega (arith, some, placed.size)) (subst (AreApart 0) placed.list live.apart)))

-- what is live is as long as it is asked to be
pub live_long : (at len n : ℕ) (xs : Option (List Extent)) → n ≡ rounded len → IfSome xs (λ list. IsSomeAnd (extent_at at list) (λ x. x.len ≡ rounded len))
    → IfSome xs (λ list. IsSomeAnd (extent_at at list) (λ x. n ≤ x.len))
live_long at len n None same live = tt
live_long at len n (Some list) same live = by_extent (extent_at at list) live where
  by_extent : (o : Option Extent) → IsSomeAnd o (λ x. x.len ≡ rounded len) → IsSomeAnd o (λ x. n ≤ x.len)
  by_extent None live = live
  by_extent (Some x) live = omega (arith, same, live)

-- An extent came with the bytes of the one of an element.
module _ (e : Element) (to : ℕ) (given : List ℕ) (xs ys : List Extent) (x : Extent) (found : extent_at e.payload xs ≡ Some x) (held : x.len ≡ rounded e.len)
    (long : length given ≡ rounded e.len) (bytes : given ≡ take (length given) x.bytes) (placed : PlacesAt to given xs ys) (was : AreExtents xs)
    (live : AreExtents ys) where
  is : IsExtent x
  is = (extent_each IsExtent e.payload x xs (recursion_from_All IsExtent xs was.each) found).0

  same : given ≡ x.bytes
  same = let all = is.bytes in bytes ∙ take_all (length given) x.bytes (omega (arith, all, held, long))

  some : 1 ≤ length given
  some = let one = is.some in omega (arith, one, held, long)

  whole : rounded (length given) ≡ length given
  whole = let fits = is.whole in ap rounded (long ∙ sym held) ∙ fits ∙ held ∙ sym long

  apart : extent_at to xs ≡ None
  apart = placed_apart to given xs ys placed some live

  -- the whole of it
  gains_whole : GainsReference to (length given) given xs ys
  gains_whole = placed_gains to (length given) given given xs ys placed some refl (omega arith) (take_all (length given) given (omega arith)) live

  -- as much as the element needs
  gains_part : GainsReference to e.len (payload_of xs e) xs ys
  gains_part =
      placed_gains to e.len given (payload_of xs e) xs ys placed some (sym (whole ∙ long)) (omega (arith, long))
      (ap (take e.len) same ∙ ap (first_bytes e.len) (sym found)) live

  elsewhere : nat_eq to e.payload ≡ false
  elsewhere = ne_eqb to e.payload (λ here. let none : Some x ≡ None = sym found ∙ ap (λ (a : ℕ). extent_at a xs) (sym here) ∙ apart in cc)

  there : extent_at e.payload ys ≡ Some x
  there = gains_whole.others e.payload (ne_eqb e.payload to (λ here. eqb-false to e.payload elsewhere (sym here))) ∙ found

  twin : IsTwin 65 x gains_whole.extent
  twin =
      let new : Extent = gains_whole.extent in
      let fits = (extent_each IsExtent to new ys (recursion_from_All IsExtent ys live.each) gains_whole.there).0 in
      let size : new.len ≡ length given = gains_whole.size ∙ whole in
      let all : length new.bytes ≡ length given = fits.bytes ∙ size in
      let one : new.refs ≡ 1 = gains_whole.more ∙ ap (λ (o : Option Extent). refs_of o + 1) apart in
      let refs = is.shared in
      record {
        len = size ∙ long ∙ sym held;
        bytes = sym (take_all (length given) new.bytes (omega (arith, all))) ∙ gains_whole.begin ∙ same;
        few = omega (arith, one, refs.1);
      }

  -- it is a copy of that, where none stood
  pub is_copy : IsCopy e to xs ys × (extent_at to xs ≡ None)
  is_copy = (
    record { gains = gains_part; twins = record { apart = elsewhere; twin = rw (there, gains_whole.there) twin } },
    apart,
  )

-- what was placed, by what a store told before and after
module _ {S : Type 0} (elements_of : S → Option (List Element)) (mark_of : S → Key → ℕ) (extents_of : S → Option (List Extent)) {room_of : S → ℕ → ℕ}
    {free_of : S → ℕ} (e : Element) (given : List ℕ) (zone : ℕ) (old mid new : S)
    (same : Same elements_of mark_of extents_of room_of free_of old mid) (here : zone ≡ zone_of e.payload) (long : length given ≡ rounded e.len)
    (held : IfSome (extents_of old) (λ xs. IsHeld xs e))
    (read : IfSome (extents_of old) (λ xs. IfSome (extent_at e.payload xs) (λ x. given ≡ take (length given) x.bytes)))
    (was : IfSome (extents_of old) AreExtents) (live : IfSome (extents_of new) AreExtents) where
  in_told : (to : ℕ) (o m n : Option (List Extent)) → m ≡ o → IfSome o (λ xs. IsHeld xs e)
      → IfSome o (λ xs. IfSome (extent_at e.payload xs) (λ x. given ≡ take (length given) x.bytes)) → IfSome o AreExtents → IfSome n AreExtents
      → BothTell m n (PlacesAt to given)
      → (is_some n ≡ is_some o) × IfSome o (λ xs. extent_at to xs ≡ None) × IfSome o (λ xs. IsSomeAnd n (IsCopy e to xs))
  in_told to None None n stay held read was live placed = by_new n placed where
    by_new : (n : Option (List Extent)) → BothTell None n (PlacesAt to given) → (is_some n ≡ false) × Unit {0} × Unit {0}
    by_new None placed = (refl, tt, tt)
    by_new (Some ys) placed = absurd placed
  in_told to None (Some ms) n stay held read was live placed = let apart : Some ms ≡ None = stay in absurd (cc)
  in_told to (Some xs) None n stay held read was live placed = let apart : Some xs ≡ None = sym stay in absurd (cc)
  in_told to (Some xs) (Some ms) None stay held read was live placed = absurd placed
  in_told to (Some xs) (Some ms) (Some ys) stay held read was live placed =
      let is : ms ≡ xs = cc in
      let both = by_extent (extent_at e.payload xs) refl held read (subst (λ (l : List Extent). PlacesAt to given l ys) is placed) in
      (refl, both.1, both.0) where
        by_extent : (x : Option Extent) → extent_at e.payload xs ≡ x → IsSomeAnd x (λ x. x.len ≡ rounded e.len)
            → IfSome x (λ x. given ≡ take (length given) x.bytes) → PlacesAt to given xs ys
            → IsCopy e to xs ys × (extent_at to xs ≡ None)
        by_extent None found held read placed = absurd held
        by_extent (Some x) found held read placed = is_copy e to given xs ys x found held long read placed was live

  pub copies : (to : ℕ) → Placement elements_of mark_of extents_of room_of zone given mid new to → Copies elements_of mark_of extents_of e to old new
  copies to placed =
      let told = in_told to (extents_of old) (extents_of mid) (extents_of new) same.extents held read was live placed.extents.extents in
      record {
        elements = placed.extents.elements ∙ same.elements;
        mark = placed.extents.mark ∙ same.mark;
        told = told.0;
        place = record { zone = placed.zone_is ∙ here; apart = told.1 };
        extents = told.2;
      }

  -- the same by what the call answered
  pub copies_given : (result : Result ℕ Fault) → IfOk result (Placement elements_of mark_of extents_of room_of zone given mid new)
      → IfOk result (λ to. Copies elements_of mark_of extents_of e to old new)
  copies_given (Ok to) placed = copies to placed
  copies_given (Err fault) placed = tt

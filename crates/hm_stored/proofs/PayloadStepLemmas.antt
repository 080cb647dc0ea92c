-- The books of a space as an extent of a payload comes, is shared or given back.
use Rattle.std.proofs.Common.{◌≡◌, Bool, true, false, ℕ, ◌+◌, ◌%◌, ◌<◌, ◌≤◌, inl, inr, ⊎_elim, List, [], ◌∷◌, map, Option, Some, None, refl, sym, ap}
use Rattle.std.proofs.Common.{subst, ◌∙◌, arith, cond, nat_eq, eqb-true, eq-eqb, is_some, length}
use Rattle.std.specs.Prelude.{All, IsSomeAnd, option_map, ◌&&◌}
use Rattle.std.specs.List.{AllByRecursion, list_any}
use Rattle.std.proofs.lemmas.List.Elements.{All-head, All-weaker, recursion_from_All}
use Rattle.hm_types.specs.Offset.{byte_of, zone_of}
use Rattle.hm_types.specs.References.{Reference, IsPlaced, end_of}
use Rattle.hm_types.specs.Space.{IsPayloadZone, rounded}
use Rattle.hm_types.specs.declared.limits.TheConstants.{MOST_BIGBLOCKS}
use Rattle.hm_types.specs.declared.zone.TheConstants.{TREE_ZONE}
use Rattle.hm_disk.specs.Crash.{MayLeave}
use Rattle.hm_fields.specs.Pages.{PageMap}
use Rattle.hm_header.proofs.SliceLemmas.{length-slice}
use Rattle.hm_key.specs.Extents.{AreExtents, Extent, IsExtent, extent_at, given_back_at, shared_at, with_extent}
use Rattle.hm_key.proofs.BalanceLemmas.{extent_each}
use Rattle.hm_key.proofs.ExtentLemmas.{extents_given, extents_shared}
use Rattle.hm_freemap.specs.Change.{given, shared}
use Rattle.hm_freemap.specs.Extents.{Changes, IsApart, IsReferred, IsShareable, IsUnit, Takes, is_extent, reference, referred, unreferred}
use Rattle.hm_freemap.specs.Extents.{without_one, with_current}
use Rattle.hm_freemap.specs.Stand.{StandBy}
use Rattle.hm_freemap.proofs.ListLemmas.{all_left, apart_left}
use Rattle.hm_image.specs.Referred.{references_of}
use Rattle.hm_stored.specs.Basis.{Basis, nodes, states_of}
use Rattle.hm_stored.specs.Heap.{Heap, bytes_of, maps_of, places_in}
use Rattle.hm_stored.specs.Held.{HeldBy, expected, with_refs}
use Rattle.hm_stored.specs.Log.{filled, one_of}
use Rattle.hm_stored.proofs.ApartLemmas.{IsBeside, apart_times, each_at, extents_with, filled_kept}
use Rattle.hm_stored.proofs.BookLemmas.{Agrees, IsLong, SamePages, all_agree, expected_same, node_uses, nodes_kept, there_counts}
use Rattle.hm_stored.proofs.FixedLemmas.{fixed_change, fixed_take}
use Rattle.hm_stored.proofs.HeldLemmas.{StaysBeside, held_after}
use Rattle.hm_stored.proofs.MapLemmas.{SameFreemap}
use Rattle.hm_stored.proofs.PlaceLemmas.{at_filled, given_filled, shared_filled, with_filled}
use Rattle.hm_stored.proofs.ReferLemmas.{referred_where, times, times_less, times_more}
use Rattle.hm_stored.proofs.UseLemmas.{is_one, uses_given, uses_placed, uses_shared}

-- an extent with its bytes, and without them
found_filled : (bytes : List ℕ) (at : ℕ) (x : Extent) (xs : List Extent) → extent_at at (map (filled bytes) xs) ≡ Some x
    → (y : Extent) × (extent_at at xs ≡ Some y) × (y.len ≡ x.len) × (y.refs ≡ x.refs) × (y.at ≡ x.at)
found_filled bytes at x xs found = by_found (extent_at at xs) refl (sym (at_filled bytes at xs) ∙ found) where
  by_found : (o : Option Extent) → extent_at at xs ≡ o → option_map (filled bytes) o ≡ Some x
      → (y : Extent) × (extent_at at xs ≡ Some y) × (y.len ≡ x.len) × (y.refs ≡ x.refs) × (y.at ≡ x.at)
  by_found None is same = absurd (cc)
  by_found (Some y) is same =
      let one : filled bytes y ≡ x = cc in
      (y, is, ap (λ (z : Extent). z.len) one, ap (λ (z : Extent). z.refs) one, ap (λ (z : Extent). z.at) one)

-- no node stands in a zone of payloads
no_node : (pages : PageMap) (at : ℕ) → IsPayloadZone (zone_of at) → nodes pages at ≡ None
no_node pages at zone = by_test (nat_eq (zone_of at) TREE_ZONE) refl where
  by_test : (t : Bool) → nat_eq (zone_of at) TREE_ZONE ≡ t → cond t (pages at) None ≡ None
  by_test true is = absurd (omega (arith, eqb-true (zone_of at) TREE_ZONE is, zone.0))
  by_test false is = refl

uses_there : (len : ℕ) (x : Extent) (o : Option Extent) → o ≡ Some x → x.len ≡ rounded len → references_of len o ≡ x.refs
uses_there len x o is long = rw (is, long, eq-eqb (rounded len) (rounded len) refl) refl

module _ (h h' : Heap) (b : Basis) (refs : List Reference) (at len : ℕ) (now : PageMap) (few : h.bigblocks ≤ MOST_BIGBLOCKS) (same : StaysBeside h h')
    (held : HeldBy h b refs) (some : 1 ≤ len) (put : h'.pages.current ≡ now) (pages : SamePages h.pages.current now) where
  abbrev r : Reference
  r = reference at len

  abbrev xs : List Extent
  xs = places_in h

  abbrev filled_xs : List Extent
  filled_xs = map (filled (bytes_of h.disk)) xs

  each : AllByRecursion IsExtent filled_xs
  each = recursion_from_All IsExtent filled_xs held.extents.each

  same_map : SameFreemap now h'.pages.current
  same_map other zone = ap (λ (m : PageMap). m other) put

  longs : All IsLong refs
  longs = All-weaker (IsPlaced h.bigblocks) IsLong (λ s placed. placed.some) refs (all_left (IsPlaced h.bigblocks) refs _ held.stand.placed)

  -- nodes are where they were
  nodes_same : (x l : ℕ) (ys : List Extent) → expected (nodes h'.pages.current) ys x l ≡ expected (nodes h.pages.current) ys x l
  nodes_same x l ys =
      expected_same (nodes h.pages.current) (nodes h'.pages.current) ys x l
      (ap (λ (o : Option (List ℕ)). is_some o) (ap (λ (m : PageMap). nodes m x) put ∙ nodes_kept h.pages.current now pages x))

  -- an extent of the list is referred to as often as it says
  module _ (x : Extent) (found : extent_at at filled_xs ≡ Some x) (long : x.len ≡ rounded len) where
    is_extent_there : IsExtent x × (x.at ≡ at)
    is_extent_there = extent_each IsExtent at x filled_xs each found

    counts : times at len refs ≡ x.refs
    counts =
        let y = found_filled (bytes_of h.disk) at x xs found in
        let uses = uses_there len y.0 (extent_at at xs) y.1 (y.2 ∙ long) in
        let none : node_uses (nodes h.pages.current at) len ≡ 0 =
        rw (no_node h.pages.current at (subst (λ (n : ℕ). IsPayloadZone (zone_of n)) is_extent_there.1 is_extent_there.0.zone))
        (by_size (nat_eq (rounded len) 4096)) in
        let count = held.counted at len in
        omega (arith, uses, none, y.3, count) where
          by_size : (t : Bool) → cond {A = ℕ} (t && false) 1 0 ≡ 0
          by_size true = refl
          by_size false = refl

    pub live : list_any (is_extent r) refs ≡ true
    live = referred_where r refs (let count = counts in omega (arith, count, is_extent_there.0.shared))

    agree : All (Agrees r) refs
    agree = all_agree r some refs longs (apart_left refs _ held.stand.apart) live

    place : (y : Extent) × (extent_at at xs ≡ Some y) × (y.len ≡ x.len) × (y.refs ≡ x.refs) × (y.at ≡ x.at)
    place = found_filled (bytes_of h.disk) at x xs found

    -- A reference was added to it.
    pub held_share : x.refs < 64 → Changes h.bigblocks h.append r (IsShareable r) (referred r) (shared (rounded len)) (maps_of h) now
        → places_in h' ≡ shared_at at xs → bytes_of h'.disk ≡ bytes_of h.disk → HeldBy h' b (r ∷ refs)
    held_share less changes places bytes =
        held_after h h' b refs (r ∷ refs) now few same held same_map
        (changes.stand (with_refs refs (states_of b)) held.stand
        (record { live = live; few = let count = counts in let one = there_counts r some refs agree in omega (arith, count, one, less) }))
        (fixed_change h.bigblocks h.append (maps_of h) (with_refs refs (states_of b)) held.stand now r _ _ _ live changes held.fixed)
        (λ x' l.
        let uses = uses_shared at len x' l place.0 xs place.1 (place.2 ∙ long) in
        let moved : expected (nodes h.pages.current) (places_in h') x' l ≡ expected (nodes h.pages.current) (shared_at at xs) x' l =
        ap (λ (ys : List Extent). expected (nodes h.pages.current) ys x' l) places in
        omega (arith, times_more x' l r refs, held.counted x' l, nodes_same x' l (places_in h'), moved, uses))
        (subst (λ (bs : List ℕ). AreExtents (map (filled bs) (places_in h'))) (sym bytes)
        (subst (λ (ys : List Extent). AreExtents (map (filled (bytes_of h.disk)) ys)) (sym places)
        (subst AreExtents (shared_filled (bytes_of h.disk) at xs)
        (extents_shared at filled_xs (subst (λ (o : Option Extent). IsSomeAnd o (λ y. y.refs < 64)) (sym found) less) held.extents))))

    -- One was taken off.
    pub held_give : Changes h.bigblocks h.append r (IsReferred r) (unreferred r) (given (rounded len)) (maps_of h) now
        → places_in h' ≡ given_back_at at xs → bytes_of h'.disk ≡ bytes_of h.disk → HeldBy h' b (without_one r refs)
    held_give changes places bytes =
        held_after h h' b refs (without_one r refs) now few same held same_map
        (changes.stand (with_refs refs (states_of b)) held.stand live)
        (fixed_change h.bigblocks h.append (maps_of h) (with_refs refs (states_of b)) held.stand now r _ _ _ live changes held.fixed)
        (λ x' l.
        let uses = uses_back x' l in
        let moved : expected (nodes h.pages.current) (places_in h') x' l ≡ expected (nodes h.pages.current) (given_back_at at xs) x' l =
        ap (λ (ys : List Extent). expected (nodes h.pages.current) ys x' l) places in
        omega (arith, times_less x' l r refs live, held.counted x' l, nodes_same x' l (places_in h'), moved, uses))
        (subst (λ (bs : List ℕ). AreExtents (map (filled bs) (places_in h'))) (sym bytes)
        (subst (λ (ys : List Extent). AreExtents (map (filled (bytes_of h.disk)) ys)) (sym places)
        (subst AreExtents (given_filled (bytes_of h.disk) at xs) (extents_given at filled_xs held.extents)))) where
          same_uses : (l : ℕ) (o : Option Extent) → references_of l (option_map (filled (bytes_of h.disk)) o) ≡ references_of l o
          same_uses l None = refl
          same_uses l (Some y) = refl

          uses_back : (x' l : ℕ) → is_one x' l at len + references_of l (extent_at x' (given_back_at at xs)) ≡ references_of l (extent_at x' xs)
          uses_back x' l =
              let back = uses_given at len x' l x filled_xs held.extents.apart each found is_extent_there.0.shared.0 long in
              let old : references_of l (extent_at x' filled_xs) ≡ references_of l (extent_at x' xs) =
              ap (references_of l) (at_filled (bytes_of h.disk) x' xs) ∙ same_uses l (extent_at x' xs) in
              let new : references_of l (extent_at x' (given_back_at at filled_xs)) ≡ references_of l (extent_at x' (given_back_at at xs)) =
              ap (λ (ys : List Extent). references_of l (extent_at x' ys)) (given_filled (bytes_of h.disk) at xs)
              ∙ (ap (references_of l) (at_filled (bytes_of h.disk) x' (given_back_at at xs)) ∙ same_uses l
              (extent_at x' (given_back_at at xs))) in
              omega (arith, back, old, new)

-- A new extent was placed, and its bytes were written.
module _ (h h' : Heap) (b : Basis) (refs : List Reference) (zone at len : ℕ) (now : PageMap) (few : h.bigblocks ≤ MOST_BIGBLOCKS) (same : StaysBeside h h')
    (held : HeldBy h b refs) (some : 1 ≤ len) (put : h'.pages.current ≡ now) (payload : IsPayloadZone zone)
    (takes : Takes h.bigblocks h.append zone len at (maps_of h) now) (places : places_in h' ≡ with_extent (one_of at len) (places_in h))
    (change : MayLeave (bytes_of h.disk) ((byte_of at, rounded len) ∷ []) (bytes_of h'.disk)) where
  abbrev new_one : Reference
  new_one = reference at len

  abbrev old_xs : List Extent
  old_xs = places_in h

  abbrev was_filled : List Extent
  was_filled = map (filled (bytes_of h.disk)) old_xs

  unit : IsUnit zone len
  unit = by_test (nat_eq zone TREE_ZONE) refl where
    by_test : (t : Bool) → nat_eq zone TREE_ZONE ≡ t → rounded len % cond t 4096 16 ≡ 0
    by_test true is = absurd (omega (arith, eqb-true zone TREE_ZONE is, payload.0))
    by_test false is = omega arith

  dead : All (IsApart new_one) refs
  dead = all_left (IsApart new_one) refs _ (takes.dead (with_refs refs (states_of b)) held.stand)

  after : StandBy h.bigblocks h.append (with_current now (maps_of h)) (with_refs (new_one ∷ refs) (states_of b))
  after = takes.stand (with_refs refs (states_of b)) held.stand unit

  placed : IsPlaced h.bigblocks new_one
  placed = All-head (IsPlaced h.bigblocks) new_one _ after.placed

  each_was : AllByRecursion IsExtent was_filled
  each_was = recursion_from_All IsExtent was_filled held.extents.each

  -- an extent of the list is apart from it
  beside_one : (x : Extent) → IsExtent x → extent_at x.at was_filled ≡ Some x → IsApart new_one (reference x.at x.len)
  beside_one x is found =
      let y = found_filled (bytes_of h.disk) x.at x old_xs found in
      let uses = uses_there x.len y.0 (extent_at x.at old_xs) y.1 (y.2 ∙ sym is.whole) in
      let count = held.counted x.at x.len in
      apart_times new_one x.at x.len refs (omega (arith, count, uses, y.3, is.shared)) dead

  beside : (ys : List Extent) → AllByRecursion IsExtent ys → AllByRecursion (λ x. extent_at x.at was_filled ≡ Some x) ys
      → AllByRecursion (λ (x : Extent). IsApart new_one (reference x.at x.len) × (rounded x.len ≡ x.len)) ys
  beside [] _ _ = tt
  beside (x ∷ ys) each found = ((beside_one x each.0 found.0, each.0.whole), beside ys each.1 found.1)

  all_beside : AllByRecursion (λ (x : Extent). IsApart new_one (reference x.at x.len) × (rounded x.len ≡ x.len)) was_filled
  all_beside = beside was_filled each_was (each_at 0 was_filled held.extents.apart each_was)

  -- none stands at its offset
  none_there : extent_at at old_xs ≡ None
  none_there = by_found (extent_at at was_filled) refl where
    none_back : (o : Option Extent) → option_map (filled (bytes_of h.disk)) o ≡ None → o ≡ None
    none_back None is = refl
    none_back (Some y) is = absurd (cc)

    by_found : (o : Option Extent) → extent_at at was_filled ≡ o → extent_at at old_xs ≡ None
    by_found None is = none_back (extent_at at old_xs) (sym (at_filled (bytes_of h.disk) at old_xs) ∙ is)
    by_found (Some x) is =
        let there = extent_each IsExtent at x was_filled each_was is in
        let apart = beside_one x there.0 (subst (λ (n : ℕ). extent_at n was_filled ≡ Some x) (sym there.1) is) in
        let begin : byte_of x.at ≡ byte_of at = ap byte_of there.1 in
        ⊎_elim (λ (low : end_of new_one ≤ byte_of x.at). absurd (omega (arith, low, begin, some)))
        (λ (high : byte_of x.at + rounded x.len ≤ byte_of at). absurd (omega (arith, high, begin, there.0.some))) apart

  -- the others are read as before
  same_filled : map (filled (bytes_of h'.disk)) old_xs ≡ was_filled
  same_filled = filled_kept (bytes_of h.disk) (bytes_of h'.disk) at len old_xs change (unfilled old_xs all_beside) where
    unfilled : (ys : List Extent) → AllByRecursion (λ (x : Extent). IsApart new_one (reference x.at x.len) × (rounded x.len ≡ x.len))
        (map (filled (bytes_of h.disk)) ys)
        → AllByRecursion (λ (x : Extent). IsApart new_one (reference x.at x.len) × (x.len ≤ rounded x.len)) ys
    unfilled [] each = tt
    unfilled (y ∷ ys) each = ((each.0.0, omega arith), unfilled ys each.1)

  module _ (inside : byte_of at + rounded len ≤ length (bytes_of h'.disk)) where
    new_extent : IsExtent (filled (bytes_of h'.disk) (one_of at len))
    new_extent = record {
      volume = placed.volume;
      zone = subst IsPayloadZone (sym takes.place) payload;
      some = omega (arith, some);
      whole = omega arith;
      bytes = let size = length-slice (bytes_of h'.disk) (byte_of at) (byte_of at + rounded len) inside in omega (arith, size);
      shared = (omega arith, omega arith);
    }

    besides : (ys : List Extent) → AllByRecursion (λ (x : Extent). IsApart new_one (reference x.at x.len) × (rounded x.len ≡ x.len)) ys
        → AllByRecursion (IsBeside (filled (bytes_of h'.disk) (one_of at len))) ys
    besides [] each = tt
    besides (y ∷ ys) each = (
      ⊎_elim (λ (low : end_of new_one ≤ byte_of y.at). inl low) (λ (high : byte_of y.at + rounded y.len ≤ byte_of at). inr
          (omega (arith, high, each.0.1))) each.0.0,
      besides ys each.1,
    )

    pub extents_after : AreExtents (map (filled (bytes_of h'.disk)) (places_in h'))
    extents_after =
        subst (λ (ys : List Extent). AreExtents (map (filled (bytes_of h'.disk)) ys)) (sym places)
        (subst AreExtents (with_filled (bytes_of h'.disk) (one_of at len) old_xs)
        (subst (λ (ys : List Extent). AreExtents (with_extent (filled (bytes_of h'.disk) (one_of at len)) ys)) (sym same_filled)
        (extents_with (filled (bytes_of h'.disk) (one_of at len)) was_filled new_extent (besides was_filled all_beside) held.extents)))

    pub held_place : HeldBy h' b (new_one ∷ refs)
    held_place =
        held_after h h' b refs (new_one ∷ refs) now few same held (λ other zone. ap (λ (m : PageMap). m other) put) after
        (fixed_take h.bigblocks h.append (maps_of h) (with_refs refs (states_of b)) held.stand now zone len at
        (omega (arith, payload.0)) payload.1 takes held.fixed)
        (λ x l.
        let uses = uses_placed at len x l old_xs none_there in
        let moved : expected (nodes h.pages.current) (places_in h') x l ≡ expected (nodes h.pages.current) (with_extent (one_of at len) old_xs) x l =
        ap (λ (ys : List Extent). expected (nodes h.pages.current) ys x l) places in
        let nodes_are : expected (nodes h'.pages.current) (places_in h') x l ≡ expected (nodes h.pages.current) (places_in h') x l =
        expected_same (nodes h.pages.current) (nodes h'.pages.current) (places_in h') x l
        (ap (λ (o : Option (List ℕ)). is_some o) (ap (λ (m : PageMap). nodes m x) put ∙ nodes_kept h.pages.current now takes.pages x)) in
        omega (arith, times_more x l new_one refs, held.counted x l, nodes_are, moved, uses))
        extents_after

  -- the list of told extents is the old one with the new one in its place
  pub told_place : map (filled (bytes_of h'.disk)) (places_in h') ≡ with_extent (filled (bytes_of h'.disk) (one_of at len)) was_filled
  told_place =
      ap (map (filled (bytes_of h'.disk))) places ∙ (sym (with_filled (bytes_of h'.disk) (one_of at len) old_xs)
      ∙ ap (λ (ys : List Extent). with_extent (filled (bytes_of h'.disk) (one_of at len)) ys) same_filled)

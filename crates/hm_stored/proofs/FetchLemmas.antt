-- The bytes of a live extent are read.
use Rattle.std.proofs.Common.{◌≡◌, Bool, true, false, true≢false, ℕ, ◌+◌, ◌*◌, ◌<◌, ◌≤◌, List, map, take, Option, Some, None, Result, Ok}
use Rattle.std.proofs.Common.{Err, refl, sym, ap, subst, ◌∙◌, arith, cond, is_some, length, slice_range}
use Rattle.std.specs.Prelude.{IfSome, IsSomeAnd, IsTrue, OnOk, option_map}
use Rattle.std.proofs.Math.Logic.{∥∥₁_elim}
use Rattle.std.proofs.Props.{props}
use Rattle.std.proofs.lemmas.List.Elements.{recursion_from_All}
use Rattle.hm_types.specs.Faults.{HasStoreCause}
use Rattle.hm_types.specs.Offset.{byte_of}
use Rattle.hm_types.specs.References.{Reference}
use Rattle.hm_types.specs.declared.fault.Fault.{Fault}
use Rattle.hm_types.specs.declared.fault.Fault.TheVariants.{Damaged}
use Rattle.hm_types.specs.declared.limits.TheConstants.{BIGBLOCK_BYTES}
use Rattle.hm_disk.specs.Crash.{Told}
use Rattle.hm_key.specs.Extents.{Extent, IsExtent, extent_at}
use Rattle.hm_key.proofs.BalanceLemmas.{extent_each}
use Rattle.hm_freemap.specs.Extents.{reference}
use Rattle.hm_freemap.proofs.BoundLemmas.{placed_high}
use Rattle.hm_freemap.proofs.ExtentLemmas.{placed_extent}
use Rattle.hm_pages.specs.Store.{Store}
use Rattle.hm_stored.specs.Basis.{Basis, states_of}
use Rattle.hm_stored.specs.Heap.{Heap, basis_with, bytes_of, content_with, does_tell, extents_in, heap_of, maps_of, places_in}
use Rattle.hm_stored.specs.Held.{HeldBy, IsKept, with_refs}
use Rattle.hm_stored.specs.Log.{filled}
use Rattle.hm_stored.specs.declared.books.Books.{Books}
use Rattle.hm_stored.proofs.CauseLemmas.{held_of, on_books, tells_parts, told_extents}
use Rattle.hm_stored.proofs.PayloadCallLemmas.{live_found}
use Rattle.hm_stored.proofs.PayloadStepLemmas.{live}
use Rattle.hm_stored.proofs.PlaceLemmas.{at_filled}
use Rattle.hm_stored.proofs.PutCallLemmas.{sized_of}
use Rattle.hm_stored.proofs.PutLemmas.{cut_first}

-- what lies within the volume lies on a disk that tells
pub fetch_within : (old : Store) (disk : Option Told) (books : Books) (end : ℕ) → ∥ IsKept (heap_of old disk books) ∥₁
    → end ≤ books.bigblocks * BIGBLOCK_BYTES
    → IfSome disk (λ (t : Told). end ≤ length t.bytes)
fetch_within old disk books end kept within = by_disk disk (sized_of old disk books kept) where
  by_disk : (o : Option Told) → IfSome o (λ (t : Told). books.bigblocks * BIGBLOCK_BYTES ≤ length t.bytes) → IfSome o (λ (t : Told). end ≤ length t.bytes)
  by_disk None size = tt
  by_disk (Some t) size = omega (arith, size, within)

-- the extent that is told at an offset has the bytes that the disk has there
bytes_are : (bytes : List ℕ) (at : ℕ) (x : Extent) (xs : List Extent) → extent_at at (map (filled bytes) xs) ≡ Some x
    → x.bytes ≡ slice_range bytes (byte_of x.at) (byte_of x.at + x.len)
bytes_are bytes at x xs found = by_found (extent_at at xs) (sym (at_filled bytes at xs) ∙ found) where
  by_found : (o : Option Extent) → option_map (filled bytes) o ≡ Some x → x.bytes ≡ slice_range bytes (byte_of x.at) (byte_of x.at + x.len)
  by_found None same = absurd (cc)
  by_found (Some y) same =
      let one : filled bytes y ≡ x = cc in
      subst (λ (z : Extent). z.bytes ≡ slice_range bytes (byte_of z.at) (byte_of z.at + z.len)) one refl

module _ (old : Store) (disk : Option Told) (books : Books) (at : ℕ) (was now : List ℕ) (kept : ∥ IsKept (heap_of old disk books) ∥₁) where
  abbrev h : Heap
  h = heap_of old disk books

  -- what a live extent is, where the space tells
  found_there : (b : Basis) (refs : List Reference) → HeldBy h b refs → (x : Extent) → extent_at at (map (filled (bytes_of h.disk)) (places_in h)) ≡ Some x
      → IsExtent x × (x.at ≡ at)
  found_there b refs held x found = extent_each IsExtent at x (map (filled (bytes_of h.disk)) (places_in h))
      (recursion_from_All IsExtent _ held.extents.each) found

  pub fetch_ok : IfSome (extents_in h) (λ xs. IsSomeAnd (extent_at at xs) (λ x. length was ≤ x.len))
      → IfSome disk (λ (t : Told). now ≡ slice_range t.bytes (byte_of at) (byte_of at + length was))
      → IfSome (extents_in h) (λ xs. IfSome (extent_at at xs) (λ x. now ≡ take (length was) x.bytes))
  unfolding heap_of
  fetch_ok live_one read = by_test (does_tell h) refl where
    by_disk : (d : Option Told) → IfSome d (λ (t : Told). now ≡ slice_range t.bytes (byte_of at) (byte_of at + length was)) → is_some d ≡ true
        → now ≡ slice_range (bytes_of d) (byte_of at) (byte_of at + length was)
    by_disk None is told = absurd (true≢false (sym told))
    by_disk (Some t) is told = is

    tells_disk : IsTrue (does_tell h) → is_some disk ≡ true
    tells_disk told = by_parts (option_map (basis_with h) h.pages.begin) disk ((tells_parts h told).1) where
      by_parts : (o : Option Basis) (d : Option Told) → is_some (content_with h.last o d) ≡ true → is_some d ≡ true
      by_parts None d is = absurd (true≢false (sym is))
      by_parts (Some b) None is = absurd (true≢false (sym is))
      by_parts (Some b) (Some t) is = refl

    by_test : (t : Bool) → does_tell h ≡ t → IfSome (cond t (Some (map (filled (bytes_of disk)) (places_in h))) None)
        (λ xs. IfSome (extent_at at xs) (λ x. now ≡ take (length was) x.bytes))
    by_test false none = tt
    by_test true told =
        let found = live_found h at (λ x. length was ≤ x.len) told live_one in
        let here : (x : Extent) → extent_at at (map (filled (bytes_of disk)) (places_in h)) ≡ Some x → x.at ≡ at =
        λ x is. ∥∥₁_elim (held_of h kept) (hlevel props) (λ held. on_books h (x.at ≡ at) told held (λ b refs by. (found_there b refs by x is).1)) in
        subst (λ (o : Option Extent). IfSome o (λ x. now ≡ take (length was) x.bytes)) (sym found.1)
        (let x = found.0 in
        let bytes = bytes_are (bytes_of disk) at x (places_in h) found.1 in
        let same = here x found.1 in
        let moved : x.bytes ≡ slice_range (bytes_of disk) (byte_of at) (byte_of at + x.len) =
        bytes ∙ ap (λ (n : ℕ). slice_range (bytes_of disk) (byte_of n) (byte_of n + x.len)) same in
        by_disk disk read (tells_disk told) ∙ sym (ap (take (length was)) moved
        ∙ cut_first (bytes_of disk) (byte_of at) x.len (length was) found.2))

  -- where nothing is answered, nothing is said of an extent
  none_said : (o : Option (List Extent)) (e : Fault)
      → IfSome o (λ xs. IfSome (extent_at at xs) (λ x. OnOk {T = Unit {0}} (Err e) (now ≡ take (length was) x.bytes)))
  none_said None e = tt
  none_said (Some xs) e = by_one (extent_at at xs) where
    by_one : (o : Option Extent) → IfSome o (λ x. OnOk {T = Unit {0}} (Err e) (now ≡ take (length was) x.bytes))
    by_one None = tt
    by_one (Some x) = tt

  pub fetch_answers : (place : ℕ) → place ≡ byte_of at → (r : Result (Unit {0}) Fault)
      → IfSome (extents_in h) (λ xs. IsSomeAnd (extent_at at xs) (λ x. length was ≤ x.len))
      → OnOk r (IfSome disk (λ (t : Told). now ≡ slice_range t.bytes place (place + length was)))
      → IfSome (extents_in h) (λ xs. IfSome (extent_at at xs) (λ x. OnOk r (now ≡ take (length was) x.bytes)))
  fetch_answers place is (Ok tt) live_one read =
      fetch_ok live_one (subst (λ (n : ℕ). IfSome disk (λ (t : Told). now ≡ slice_range t.bytes n (n + length was))) is read)
  fetch_answers place is (Err e) live_one read = none_said (extents_in h) e

  -- no live extent ends beyond the volume
  pub fetch_bad : (faults kind : ℕ) → IfSome (extents_in h) (λ xs. IsSomeAnd (extent_at at xs) (λ x. length was ≤ x.len))
      → books.bigblocks * BIGBLOCK_BYTES < byte_of at + length was
      → HasStoreCause {T = Unit {0}} (extents_in h) faults faults (Err (Damaged at kind))
  unfolding heap_of
  fetch_bad faults kind live_one beyond = record {
    counted = record { never_falls = omega arith; caused = tt };
    undamaged = told_extents h (Damaged at kind) (held_of h kept) (λ told b refs held.
        let found = live_found h at (λ x. length was ≤ x.len) told live_one in
        let x = found.0 in
        let is = found_there b refs held x found.1 in
        let r = reference at x.len in
        let there = live h h b refs at x.len old.current books.most
        (record { committed = refl; frozen = refl; bigblocks = refl; append = refl }) held is.0.some refl (λ other away. refl)
        x found.1 (sym is.0.whole) in
        let placed = placed_extent h.bigblocks h.append r (maps_of h) (with_refs refs (states_of b)) held.stand there in
        let high = placed_high h.bigblocks r placed in
        absurd (omega (arith, high, placed.pool, beyond, found.2, is.0.whole)));
  }

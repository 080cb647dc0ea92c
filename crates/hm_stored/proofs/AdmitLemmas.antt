-- What a space tells as zones get room.
use Rattle.std.proofs.Common.{◌≡◌, Bool, true, false, true≢false, ⊎_elim, ℕ, ◌+◌, ◌*◌, ◌^◌, ◌<◌, ◌≤◌, List, map, Option, Some, None, refl, sym, ap, subst, ◌∙◌}
use Rattle.std.proofs.Common.{arith, cond, length, ℤ, pos, negsuc, eqb-true}
use Rattle.std.specs.Prelude.{All, IfSome, ◌<ℤ◌}
use Rattle.std.specs.List.{Contains}
use Rattle.std.proofs.Math.Logic.{∥∥₁_elim}
use Rattle.std.proofs.lemmas.Bool.{cases_eq, lt-ltb, ne_eqb}
use Rattle.std.proofs.lemmas.Int.{ints}
use Rattle.std.proofs.lemmas.List.Elements.{All-contains, All-contains_itself, All-weaker}
use Rattle.hm_types.specs.Layout.{start_of}
use Rattle.hm_types.specs.References.{IsPlaced, Reference, end_of}
use Rattle.hm_types.specs.Space.{Admits, names_zone, needed, reserve_of}
use Rattle.hm_types.specs.declared.limits.TheConstants.{BIGBLOCK_BYTES, MOST_BIGBLOCKS}
use Rattle.hm_types.specs.declared.zones.Zones.{Zones}
use Rattle.hm_disk.specs.Crash.{Told}
use Rattle.hm_fields.specs.Pages.{PageMap}
use Rattle.hm_freemap.specs.Admit.{IsAdmitted, does_lack}
use Rattle.hm_freemap.specs.Extents.{with_current}
use Rattle.hm_freemap.specs.Stand.{AreBelow, IsBelow, entry_of, free_by, home_of, is_free_by, is_whole_block, room_in}
use Rattle.hm_freemap.specs.declared.entry.Entry.{Entry}
use Rattle.hm_freemap.proofs.MapsLemmas.{clear_block}
use Rattle.hm_stored.specs.Basis.{Basis, nodes, states_of}
use Rattle.hm_stored.specs.Heap.{Heap, bytes_of, does_tell, extents_in, free_of, maps_of, pages_of, places_in, rest_of, room_of}
use Rattle.hm_key.specs.Calls.{GetWhole}
use Rattle.hm_key.specs.Extents.{AreExtents, Extent}
use Rattle.hm_stored.specs.Log.{filled}
use Rattle.hm_stored.specs.Held.{AreNodes, IsInUse, IsKept, IsSafe, expected}
use Rattle.hm_stored.proofs.BasisLemmas.{SameBasis, begin_same, beside, committed_same, content_same, extents_same, frozen_same, held_map}
use Rattle.hm_stored.proofs.BasisLemmas.{places_same, tell_same}
use Rattle.hm_stored.proofs.BeginLemmas.{held_admit}
use Rattle.hm_stored.proofs.BookLemmas.{nodes_kept}
use Rattle.hm_stored.proofs.HeldLemmas.{held_after}
use Rattle.hm_stored.proofs.MapLemmas.{SameFreemap}
use Rattle.hm_stored.proofs.NewNodeLemmas.{room_whole}
use Rattle.hm_stored.proofs.PageLemmas.{nodes_same}
use Rattle.hm_stored.proofs.RoomLemmas.{rest_stays}
use Rattle.hm_stored.proofs.SafeLemmas.{holds_same, safe_after, safe_map}

-- a zone that a set names is one of four
named_zone : (zones : Zones) (zone : ℕ) → names_zone zones zone ≡ true → (k : ℕ) × (k < 4) × (zone ≡ 8 + k)
named_zone zones zone named =
    ⊎_elim (λ e. (0, omega arith, e)) (λ not8.
    ⊎_elim (λ e. (1, omega arith, e)) (λ not9.
    ⊎_elim (λ e. (2, omega arith, e)) (λ not10.
    ⊎_elim (λ e. (3, omega arith, e)) (λ not11. absurd (true≢false (sym named ∙ none not8 not9 not10 not11)))
    (cases_eq zone 11)) (cases_eq zone 10)) (cases_eq zone 9)) (cases_eq zone 8) where
      none : (zone ≡ 8 → ⊥) → (zone ≡ 9 → ⊥) → (zone ≡ 10 → ⊥) → (zone ≡ 11 → ⊥) → names_zone zones zone ≡ false
      none a b c d = rw (ne_eqb zone 8 a, ne_eqb zone 9 b, ne_eqb zone 10 c, ne_eqb zone 11 d) refl

-- a big-block with bytes in use is not a whole free one
used_not_whole : (free : ℤ) → free <ℤ pos BIGBLOCK_BYTES → is_whole_block free ≡ true → ⊥
used_not_whole (pos n) used is = let same = eqb-true n BIGBLOCK_BYTES is in absurd (omega (arith, ints, used, same))
used_not_whole (negsuc n) used is = absurd (true≢false (sym is))

-- no zone begins the big-block of what is in use
pub admitted_kept : (h : Heap) (zones : Zones) (most : ℕ) (append' : List ℕ) (now : PageMap) (r : Reference)
    → IsAdmitted h.bigblocks zones most h.append append' (maps_of h) now
    → IsInUse h.pages.current r → entry_of now (home_of r) ≡ entry_of h.pages.current (home_of r)
admitted_kept h zones most append' now r admitted used =
    admitted.lowest.entries (home_of r) (λ k low lacks same.
    let begun = admitted.lowest.begun k low lacks in
    let clear = clear_block h.append (maps_of h) (home_of r) (subst (λ (n : ℕ). is_free_by h.append (maps_of h) n ≡ true) same begun.free) in
    used_not_whole (entry_of h.pages.current (home_of r)).bytes_free used clear.current)

pub safe_admit : (h h' : Heap) (b : Basis) (zones : Zones) (most : ℕ) → h'.bigblocks ≡ h.bigblocks → h.gave ≡ false → IsSafe h b
    → IsAdmitted h.bigblocks zones most h.append h'.append (maps_of h) h'.pages.current → IsSafe h' b
safe_admit h h' b zones most bigblocks none safe admitted = record {
  placed = subst (λ (n : ℕ). All (IsPlaced n) (states_of b).current) (sym bigblocks) safe.placed;
  below = All-weaker (Contains (states_of b).current) (IsBelow h'.pages.current)
      (λ r there.
      let was = All-contains (IsBelow h.pages.current) (states_of b).current r safe.below there in
      let same = kept r there in
      record {
        zone = ap (λ (e : Entry). e.zone) same ∙ was.zone;
        end = subst (λ (e : Entry). end_of r ≤ start_of (home_of r) + e.append_off)
            (sym same) was.end;
      })
      (states_of b).current (All-contains_itself (states_of b).current);
  used = λ _. All-weaker (Contains (states_of b).current) (IsInUse h'.pages.current)
      (λ r there. subst (λ (e : Entry). e.bytes_free <ℤ pos BIGBLOCK_BYTES) (sym (kept r there))
      (All-contains (IsInUse h.pages.current) (states_of b).current r (safe.used none) there))
      (states_of b).current (All-contains_itself (states_of b).current);
} where
  kept : (r : Reference) → Contains (states_of b).current r → entry_of h'.pages.current (home_of r) ≡ entry_of h.pages.current (home_of r)
  kept r there = admitted_kept h zones most h'.append h'.pages.current r admitted (All-contains (IsInUse h.pages.current) (states_of b).current r
      (safe.used none) there)

-- Zones have the room that they need.
module _ (h h' : Heap) (zones : Zones) (most : ℕ) (few : h.bigblocks ≤ MOST_BIGBLOCKS) (basis : SameBasis h h') (disk : h'.disk ≡ h.disk)
    (log : h'.log ≡ h.log)
    (gave : h'.gave ≡ h.gave) (whole : h.whole ≡ true) (whole' : h'.whole ≡ true) (none : h.gave ≡ false)
    (admitted : IsAdmitted h.bigblocks zones most h.append h'.append (maps_of h) h'.pages.current) where
  tells : does_tell h' ≡ does_tell h
  tells = tell_same h h' (content_same h h' basis disk) (whole' ∙ sym whole)

  places : places_in h' ≡ places_in h
  places = places_same h h' basis log

  bytes : bytes_of h'.disk ≡ bytes_of h.disk
  bytes = ap bytes_of disk

  pub pages_admit : pages_of h' ≡ pages_of h
  pages_admit =
      ap (λ (t : Bool). cond t (Some (nodes h'.pages.current)) None) tells
      ∙ ap (λ (m : PageMap). cond (does_tell h) (Some m) None) (λ i at. nodes_kept h.pages.current h'.pages.current admitted.pages at i)

  pub extents_admit : extents_in h' ≡ extents_in h
  extents_admit = extents_same h h' tells bytes places

  room_was : (zone : ℕ) → room_of h zone ≡ room_in h.append h.pages.current zone
  room_was zone = room_whole h whole zone

  room_is : (zone : ℕ) → room_of h' zone ≡ room_in h'.append h'.pages.current zone
  room_is zone = room_whole h' whole' zone

  free_was : free_of h ≡ free_by h.bigblocks h.append (maps_of h)
  free_was = ap (λ (t : Bool). cond t (free_by h.bigblocks h.append (maps_of h)) (2 ^ 32)) whole

  free_is : free_of h' ≡ free_by h.bigblocks h'.append (with_current h'.pages.current (maps_of h))
  free_is = ap (λ (t : Bool). cond t (free_by h'.bigblocks h'.append (maps_of h')) (2 ^ 32)) whole'
      ∙ by_parts h'.bigblocks h'.pages.committed h'.pages.frozen basis.bigblocks (committed_same h h' basis) (frozen_same h h' basis) where
        by_parts : (n : ℕ) (c f : PageMap) → n ≡ h.bigblocks → c ≡ h.pages.committed → f ≡ h.pages.frozen
            → free_by n h'.append (record { committed = c; frozen = f; current = h'.pages.current }) ≡ free_by h.bigblocks h'.append
            (with_current h'.pages.current (maps_of h))
        by_parts n c f first second third = rw (first, second, third) refl

  need_same : needed zones (room_of h) ≡ needed zones (room_in h.append h.pages.current)
  need_same = ap (needed zones) (λ i zone. room_was zone i)

  pub admits : Admits room_of free_of zones most h h'
  admits =
      let a = admitted.admits in
      record {
        enough = omega (arith, need_same, free_was, a.enough);
        no_more = omega (arith, free_was, free_is, a.no_more);
        paid = omega (arith, need_same, free_was, free_is, a.paid);
        reserve = λ zone named. let is = room_is zone in let enough = a.reserve zone named in omega (arith, is, enough);
      }

  pub room_admit : (zone : ℕ) → room_of h zone ≤ room_of h' zone
  room_admit zone = let was = room_was zone in let is = room_is zone in let step = admitted.room zone in omega (arith, was, is, step)

  -- a zone that lacked room has that of a whole big-block
  pub whole_admit : GetWhole zones (room_of h) (room_of h')
  whole_admit zone named low =
      let four = named_zone zones zone named in
      let was = room_was zone in
      let lacks : does_lack zones (room_in h.append h.pages.current) zone ≡ true =
      rw (named, lt-ltb (room_in h.append h.pages.current zone) (reserve_of zone) (omega (arith, was, low))) refl in
      room_is zone ∙ subst (λ (z : ℕ). does_lack zones (room_in h.append h.pages.current) z ≡ true → room_in h'.append h'.pages.current z ≡ BIGBLOCK_BYTES)
      (sym four.2) (λ is. admitted.lowest.whole four.0 four.1 is) lacks

  pub kept_admit : ∥ IsKept h ∥₁ → ∥ IsKept h' ∥₁
  kept_admit kept = ∥∥₁_elim kept squash₁ (λ k. ∣ record {
    nodes = λ _. nodes_same h.pages.current h'.pages.current (k.nodes whole) (nodes_kept h.pages.current h'.pages.current admitted.pages);
    begun = subst (λ (o : Option PageMap). IfSome o AreNodes) (sym (begin_same h h' basis)) k.begun;
    size = subst (λ (n : ℕ). IfSome h'.disk (λ (t : Told). n * BIGBLOCK_BYTES ≤ length t.bytes)) (sym basis.bigblocks)
        (subst (λ (o : Option Told). IfSome o (λ (t : Told). h.bigblocks * BIGBLOCK_BYTES ≤ length t.bytes)) (sym disk) k.size);
    safe = safe_map h h' basis (holds_same h h' basis disk (whole' ∙ sym whole))
        (λ b safe. safe_admit h h' b zones most basis.bigblocks none safe admitted) k.safe;
    held = held_map h h' basis (λ told. sym tells ∙ told) (λ b refs _ is. (
      refs,
      held_admit h h' b refs zones most h'.pages.current is admitted refl (committed_same h h' basis) (frozen_same h h' basis) basis.bigblocks places bytes,
    )) k.held;
  } ∣₁)

-- Nothing that a space tells changed.
module _ (h h' : Heap) (few : h.bigblocks ≤ MOST_BIGBLOCKS) (below : AreBelow h.bigblocks h.append) (basis : SameBasis h h') (disk : h'.disk ≡ h.disk)
    (append : h'.append ≡ h.append)
    (log : h'.log ≡ h.log) (gave : h'.gave ≡ h.gave) (whole : h'.whole ≡ h.whole) (current : h'.pages.current ≡ h.pages.current) where
  tells_same : does_tell h' ≡ does_tell h
  tells_same = tell_same h h' (content_same h h' basis disk) whole

  freemap_same : SameFreemap h.pages.current h'.pages.current
  freemap_same other zone = ap (λ (m : PageMap). m other) current

  pub pages_still : pages_of h' ≡ pages_of h
  pages_still =
      ap (λ (t : Bool). cond t (Some (nodes h'.pages.current)) None) tells_same ∙ ap (λ (m : PageMap). cond (does_tell h) (Some (nodes m)) None) current

  pub extents_still : extents_in h' ≡ extents_in h
  extents_still = extents_same h h' tells_same (ap bytes_of disk) (places_same h h' basis log)

  pub rest_still : rest_of h' ≡ rest_of h
  rest_still = rest_stays h h' few below basis.bigblocks append whole (committed_same h h' basis) (frozen_same h h' basis) freemap_same extents_still

  pub kept_still : ∥ IsKept h ∥₁ → ∥ IsKept h' ∥₁
  kept_still kept = ∥∥₁_elim kept squash₁ (λ k. ∣ record {
    nodes = λ is. subst AreNodes (sym current) (k.nodes (sym whole ∙ is));
    begun = subst (λ (o : Option PageMap). IfSome o AreNodes) (sym (begin_same h h' basis)) k.begun;
    size = subst (λ (n : ℕ). IfSome h'.disk (λ (t : Told). n * BIGBLOCK_BYTES ≤ length t.bytes)) (sym basis.bigblocks)
        (subst (λ (o : Option Told). IfSome o (λ (t : Told). h.bigblocks * BIGBLOCK_BYTES ≤ length t.bytes)) (sym disk) k.size);
    safe = safe_map h h' basis (holds_same h h' basis disk whole) (λ b safe. safe_after h h' b h.pages.current few basis.bigblocks safe freemap_same
        (λ block. record { zone = refl; filled = omega arith }) (λ none. (sym gave ∙ none, λ block used. used))) k.safe;
    held = held_map h h' basis (λ told. sym tells_same ∙ told) (λ b refs _ is. (
      refs,
      held_after h h' b refs refs h.pages.current few (beside h h' basis append) is freemap_same is.stand is.fixed
          (λ x l. is.counted x l ∙ (ap (λ (m : PageMap). expected (nodes m) (places_in h) x l) (sym current)
          ∙ ap (λ (xs : List Extent). expected (nodes h'.pages.current) xs x l) (sym (places_same h h' basis log))))
          (subst (λ (xs : List Extent). AreExtents (map (filled (bytes_of h'.disk)) xs)) (sym (places_same h h' basis log))
          (subst (λ (bs : List ℕ). AreExtents (map (filled bs) (places_in h))) (sym (ap bytes_of disk)) is.extents)),
    )) k.held;
  } ∣₁)

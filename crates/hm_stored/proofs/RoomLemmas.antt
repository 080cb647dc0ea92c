-- The room of a space and its free big-blocks.
use Rattle.std.proofs.Common.{◌≡◌, Bool, true, false, ℕ, ◌-◌, ◌^◌, ◌≤◌, List, Option, refl, ap, ◌∙◌, arith, cond}
use Rattle.std.proofs.lemmas.List.FromFn.{length-range_with_len}
use Rattle.std.proofs.lemmas.List.Sums.{count_by-le-length}
use Rattle.hm_types.specs.Layout.{first_pool}
use Rattle.hm_types.specs.References.{pool}
use Rattle.hm_types.specs.Space.{Spends}
use Rattle.hm_types.specs.declared.limits.TheConstants.{BIGBLOCK_BYTES, MOST_BIGBLOCKS}
use Rattle.hm_fields.specs.Pages.{PageMap}
use Rattle.hm_key.specs.Extents.{Extent}
use Rattle.hm_freemap.specs.Stand.{AreBelow, append_of, entry_of, free_by, is_free_by, is_handed_out, room_in}
use Rattle.hm_stored.specs.Heap.{Heap, extents_in, free_of, maps_of, rest_of, room_of}
use Rattle.hm_stored.proofs.MapLemmas.{SameFreemap, free_same, room_same}

-- the room of a zone is at most a big-block
pub room_most : (h : Heap) (zone : ℕ) → room_of h zone ≤ cond (is_handed_out zone) BIGBLOCK_BYTES 0
room_most h zone = by_whole h.whole (is_handed_out zone) where
  by_whole : (w t : Bool) → cond w (cond t (BIGBLOCK_BYTES - (entry_of h.pages.current (append_of h.append zone)).append_off) 0)
      (cond t BIGBLOCK_BYTES 0) ≤ cond t BIGBLOCK_BYTES 0
  by_whole true true = omega arith
  by_whole true false = omega arith
  by_whole false t = omega arith

-- fewer big-blocks are free than a number of 4 bytes can tell
pub free_most : (h : Heap) → h.bigblocks ≤ MOST_BIGBLOCKS → free_of h ≤ 2 ^ 32
free_most h few = by_whole h.whole where
  count : free_by h.bigblocks h.append (maps_of h) ≤ 2 ^ 32
  count =
      let most = count_by-le-length (is_free_by h.append (maps_of h)) (pool h.bigblocks) in
      let long = length-range_with_len (first_pool h.bigblocks) (h.bigblocks - first_pool h.bigblocks) in
      omega (arith, most, long, few)

  by_whole : (w : Bool) → cond w (free_by h.bigblocks h.append (maps_of h)) (2 ^ 32) ≤ 2 ^ 32
  by_whole true = count
  by_whole false = omega arith

-- once a change has failed half-way, more room is told than before, so that nothing was spent
pub spends_broken : (h h' : Heap) (most : ℕ → ℕ) → h.bigblocks ≤ MOST_BIGBLOCKS → h'.whole ≡ false → Spends room_of free_of most h h'
spends_broken h h' most few broken = record {
  room = λ zone.
      let most_is = room_most h zone in
      let now : room_of h' zone ≡ cond (is_handed_out zone) BIGBLOCK_BYTES 0 =
      ap (λ (t : Bool). cond t (room_in h'.append h'.pages.current zone) (cond (is_handed_out zone) BIGBLOCK_BYTES 0)) broken in
      omega (arith, most_is, now);
  free =
      let most_is = free_most h few in
      let now : free_of h' ≡ 2 ^ 32 = ap (λ (t : Bool). cond t (free_by h'.bigblocks h'.append (maps_of h')) (2 ^ 32)) broken in
      omega (arith, most_is, now);
}

-- a call that does nothing spends nothing
pub spends_none : (h : Heap) (most : ℕ → ℕ) → Spends room_of free_of most h h
spends_none h most = record { room = λ zone. omega arith; free = omega arith }

-- both are the same where the pages of the freemap are
module _ (h h' : Heap) (few : h.bigblocks ≤ MOST_BIGBLOCKS) (below : AreBelow h.bigblocks h.append) (bigblocks : h'.bigblocks ≡ h.bigblocks)
    (append : h'.append ≡ h.append) (whole : h'.whole ≡ h.whole) (committed : h'.pages.committed ≡ h.pages.committed)
    (frozen : h'.pages.frozen ≡ h.pages.frozen)
    (same : SameFreemap h.pages.current h'.pages.current) where
  pub room_stays : room_of h' ≡ room_of h
  room_stays = λ i zone. each zone i where
    each : (zone : ℕ) → room_of h' zone ≡ room_of h zone
    each zone =
        ap (λ (t : Bool). cond t (room_in h'.append h'.pages.current zone) (cond (is_handed_out zone) BIGBLOCK_BYTES 0)) whole
        ∙ ap (λ (n : ℕ). cond h.whole n (cond (is_handed_out zone) BIGBLOCK_BYTES 0))
        (ap (λ (a : List ℕ). room_in a h'.pages.current zone) append ∙ room_same h.pages.current h'.pages.current same h.bigblocks h.append few below zone)

  pub free_stays : free_of h' ≡ free_of h
  free_stays =
      ap (λ (t : Bool). cond t (free_by h'.bigblocks h'.append (maps_of h')) (2 ^ 32)) whole
      ∙ ap (λ (n : ℕ). cond h.whole n (2 ^ 32)) (by_parts h'.bigblocks h'.append h'.pages.committed h'.pages.frozen bigblocks append committed frozen) where
        by_parts : (n : ℕ) (a : List ℕ) (c f : PageMap) → n ≡ h.bigblocks → a ≡ h.append → c ≡ h.pages.committed → f ≡ h.pages.frozen
            → free_by n a (record { committed = c; frozen = f; current = h'.pages.current }) ≡ free_by h.bigblocks h.append (maps_of h)
        by_parts n a c f first second third fourth =
            rw (first, second, third, fourth) (free_same h.pages.current h'.pages.current same h.bigblocks h.append h.pages.committed h.pages.frozen few)

  pub rest_stays : extents_in h' ≡ extents_in h → rest_of h' ≡ rest_of h
  rest_stays extents = by_parts (room_of h') (free_of h') (extents_in h') room_stays free_stays extents where
    by_parts : (r : ℕ → ℕ) (n : ℕ) (xs : Option (List Extent)) → r ≡ room_of h → n ≡ free_of h → xs ≡ extents_in h
        → record { room = r; free = n; extents = xs } ≡ rest_of h
    by_parts r n xs first second third = rw (first, second, third) refl

-- The books of a space stay in order at each call.
use Rattle.std.proofs.Common.{◌≡◌, ℕ, ◌≤◌, List, map, refl, sym, subst}
use Rattle.hm_types.specs.References.{Reference}
use Rattle.hm_types.specs.declared.limits.TheConstants.{MOST_BIGBLOCKS}
use Rattle.hm_fields.specs.Pages.{PageMap}
use Rattle.hm_key.specs.Extents.{AreExtents}
use Rattle.hm_freemap.specs.Extents.{with_current}
use Rattle.hm_freemap.specs.Stand.{Maps, StandBy}
use Rattle.hm_stored.specs.Basis.{AreFixed, Basis, nodes, states_of}
use Rattle.hm_stored.specs.Heap.{Heap, bytes_of, maps_of, places_in}
use Rattle.hm_stored.specs.Held.{HeldBy, expected, with_refs}
use Rattle.hm_stored.specs.Log.{filled}
use Rattle.hm_stored.proofs.FixedLemmas.{fixed_same}
use Rattle.hm_stored.proofs.MapLemmas.{SameFreemap, stand_same}
use Rattle.hm_stored.proofs.ReferLemmas.{times}

-- what a call leaves of a space beside its current pages and what it did with extents
pub record StaysBeside (h h' : Heap) : Type 0 where
  pub committed : h'.pages.committed ≡ h.pages.committed
  pub frozen : h'.pages.frozen ≡ h.pages.frozen
  pub bigblocks : h'.bigblocks ≡ h.bigblocks
  pub append : h'.append ≡ h.append

-- the maps with another current one
pub maps_with : (h h' : Heap) → StaysBeside h h' → with_current h'.pages.current (maps_of h) ≡ maps_of h'
maps_with h h' same = by_parts h'.pages.committed h'.pages.frozen same.committed same.frozen where
  by_parts : (c f : PageMap) → c ≡ h.pages.committed → f ≡ h.pages.frozen
      → with_current h'.pages.current (maps_of h) ≡ record { committed = c; frozen = f; current = h'.pages.current }
  by_parts c f first second = rw (first, second) refl

-- The books after a call: for which references, with which pages and extents.
module _ (h h' : Heap) (b : Basis) (refs refs' : List Reference) (now : PageMap) (few : h.bigblocks ≤ MOST_BIGBLOCKS) (same : StaysBeside h h')
    (held : HeldBy h b refs) (freemap : SameFreemap now h'.pages.current) where
  stands : StandBy h.bigblocks h.append (with_current now (maps_of h)) (with_refs refs' (states_of b))
      → StandBy h'.bigblocks h'.append (maps_of h') (with_refs refs' (states_of b))
  stands stand =
      let moved : StandBy h.bigblocks h.append (with_current h'.pages.current (maps_of h)) (with_refs refs' (states_of b)) =
      stand_same now h'.pages.current freemap h.bigblocks h.append h.pages.committed h.pages.frozen (with_refs refs' (states_of b)) few stand in
      subst (λ (n : ℕ). StandBy n h'.append (maps_of h') (with_refs refs' (states_of b))) (sym same.bigblocks)
      (subst (λ (a : List ℕ). StandBy h.bigblocks a (maps_of h') (with_refs refs' (states_of b))) (sym same.append)
      (subst (λ (m : Maps). StandBy h.bigblocks h.append m (with_refs refs' (states_of b))) (maps_with h h' same) moved))

  pub held_after : StandBy h.bigblocks h.append (with_current now (maps_of h)) (with_refs refs' (states_of b)) → AreFixed h.bigblocks now
      → ((at len : ℕ) → times at len refs' ≡ expected (nodes h'.pages.current) (places_in h') at len)
      → AreExtents (map (filled (bytes_of h'.disk)) (places_in h'))
      → HeldBy h' b refs'
  held_after stand fixed counted extents = record {
    stand = stands stand;
    counted = counted;
    extents = extents;
    fixed = subst (λ (n : ℕ). AreFixed n h'.pages.current) (sym same.bigblocks) (fixed_same h.bigblocks now h'.pages.current few freemap fixed);
  }

-- The books of a space as a node comes or goes.
use Rattle.std.proofs.Common.{◌≡◌, Bool, true, false, true≢false, ℕ, ◌+◌, ◌≤◌, List, ◌∷◌, map, Option, Some, None, refl, sym, ap, subst, ◌∙◌, arith}
use Rattle.std.proofs.Common.{cond, nat_eq, eqb-true, eq-eqb, is_some}
use Rattle.std.specs.Prelude.{All}
use Rattle.std.specs.List.{list_any}
use Rattle.hm_types.specs.Offset.{zone_of}
use Rattle.hm_types.specs.References.{Reference}
use Rattle.hm_types.specs.Space.{rounded}
use Rattle.hm_types.specs.declared.limits.TheConstants.{MOST_BIGBLOCKS}
use Rattle.hm_types.specs.declared.zone.TheConstants.{TREE_ZONE}
use Rattle.hm_fields.specs.Pages.{PageMap}
use Rattle.hm_pages.specs.Maps.{set_at}
use Rattle.hm_key.specs.Extents.{AreExtents, Extent, extent_at}
use Rattle.hm_freemap.specs.Change.{given}
use Rattle.hm_freemap.specs.Extents.{Changes, IsApart, IsReferred, Takes, is_extent, reference, unreferred, without_one}
use Rattle.hm_freemap.proofs.ListLemmas.{all_left}
use Rattle.hm_image.specs.Referred.{references_of}
use Rattle.hm_stored.specs.Basis.{Basis, nodes, states_of}
use Rattle.hm_stored.specs.Heap.{Heap, bytes_of, maps_of, places_in}
use Rattle.hm_stored.specs.Held.{HeldBy, expected, with_refs}
use Rattle.hm_stored.specs.Log.{filled}
use Rattle.hm_stored.proofs.BookLemmas.{eq_either, expected_more, node_uses, nodes_kept}
use Rattle.hm_stored.proofs.FixedLemmas.{fixed_change, fixed_take}
use Rattle.hm_stored.proofs.HeldLemmas.{StaysBeside, held_after}
use Rattle.hm_stored.proofs.MapLemmas.{SameFreemap}
use Rattle.hm_stored.proofs.ReferLemmas.{referred_where, times, times_less, times_more, times_none}

-- what one page was put to, or taken from, where a node may stand
module _ (at : ℕ) (page : Option (List ℕ)) (now : PageMap) (tree : zone_of at ≡ TREE_ZONE) where
  -- leaves the freemap
  pub freemap_set : SameFreemap now (set_at at page now)
  freemap_set other zone = by_test (nat_eq other at) refl where
    by_test : (t : Bool) → nat_eq other at ≡ t → cond t page (now other) ≡ now other
    by_test true is = let same : zone_of other ≡ zone_of at = ap zone_of (eqb-true other at is) in absurd (omega (arith, same, zone, tree))
    by_test false is = refl

  -- is the node there
  pub node_set : nodes (set_at at page now) at ≡ page
  node_set = by_test (nat_eq (zone_of at) TREE_ZONE) (nat_eq at at) (eq-eqb (zone_of at) TREE_ZONE tree) (eq-eqb at at refl) where
    by_test : (z t : Bool) → z ≡ true → t ≡ true → cond z (cond t page (now at)) None ≡ page
    by_test true true first second = refl
    by_test true false first second = absurd (true≢false (sym second))
    by_test false t first second = absurd (true≢false (sym first))

  -- and leaves the others
  pub nodes_set : (other : ℕ) → nat_eq at other ≡ false → nodes (set_at at page now) other ≡ nodes now other
  nodes_set other apart = ap (λ (t : Bool). cond (nat_eq (zone_of other) TREE_ZONE) (cond t page (now other)) None) (eq_either other at ∙ apart)

module _ (h h' : Heap) (b : Basis) (refs : List Reference) (at : ℕ) (now : PageMap) (few : h.bigblocks ≤ MOST_BIGBLOCKS) (same : StaysBeside h h')
    (held : HeldBy h b refs) (places : places_in h' ≡ places_in h) (bytes : bytes_of h'.disk ≡ bytes_of h.disk) where
  extents_kept : AreExtents (map (filled (bytes_of h'.disk)) (places_in h'))
  extents_kept = subst (λ (xs : List Extent). AreExtents (map (filled (bytes_of h'.disk)) xs)) (sym places)
      (subst (λ (bs : List ℕ). AreExtents (map (filled bs) (places_in h))) (sym bytes) held.extents)

  abbrev r : Reference
  r = reference at 4096

  none_where : (o : Option (List ℕ)) (n : ℕ) → node_uses o 4096 + n ≡ 0 → o ≡ None
  none_where None n none = refl
  none_where (Some page) n none = absurd (omega (arith, none))

  some_where : (o : Option (List ℕ)) (n : ℕ) → is_some o ≡ true → 1 ≤ node_uses o 4096 + n
  some_where None n is = absurd (true≢false (sym is))
  some_where (Some page) n is = omega arith

  -- A node was put where one was taken.
  pub held_node : (page : List ℕ) → Takes h.bigblocks h.append TREE_ZONE 4096 at (maps_of h) now → h'.pages.current ≡ set_at at (Some page) now
      → HeldBy h' b (r ∷ refs)
  held_node page takes put =
      held_after h h' b refs (r ∷ refs) now few same held
      (λ other zone. ap (λ (m : PageMap). m other) put ∙ freemap_set at (Some page) now takes.place other zone)
      (takes.stand (with_refs refs (states_of b)) held.stand refl)
      (fixed_take h.bigblocks h.append (maps_of h) (with_refs refs (states_of b)) held.stand now TREE_ZONE 4096 at (omega arith) (omega arith) takes held.fixed)
      counted extents_kept where
        dead : All (IsApart r) refs
        dead = all_left (IsApart r) refs _ (takes.dead (with_refs refs (states_of b)) held.stand)

        empty : nodes h.pages.current at ≡ None
        empty =
            let zero = times_none at 4096 refs (omega arith) dead in
            none_where (nodes h.pages.current at) (references_of 4096 (extent_at at (places_in h))) (sym (held.counted at 4096) ∙ zero)

        counted : (x l : ℕ) → times x l (r ∷ refs) ≡ expected (nodes h'.pages.current) (places_in h') x l
        counted x l =
            let there : nodes h'.pages.current at ≡ Some page = ap (λ (m : PageMap). nodes m at) put ∙ node_set at (Some page) now takes.place in
            let others : (other : ℕ) → nat_eq at other ≡ false → nodes h'.pages.current other ≡ nodes h.pages.current other =
            λ other apart. ap (λ (m : PageMap). nodes m other) put ∙
            (nodes_set at (Some page) now takes.place other apart ∙ nodes_kept h.pages.current now takes.pages other) in
            let more = expected_more at x l page (nodes h.pages.current) (nodes h'.pages.current) (places_in h) empty there others in
            let moved : expected (nodes h'.pages.current) (places_in h') x l ≡ expected (nodes h'.pages.current) (places_in h) x l =
            ap (λ (xs : List Extent). expected (nodes h'.pages.current) xs x l) places in
            omega (arith, times_more x l r refs, held.counted x l, more, moved)

  -- A node was taken out.
  pub held_drop : Changes h.bigblocks h.append r (IsReferred r) (unreferred r) (given (rounded 4096)) (maps_of h) now → zone_of at ≡ TREE_ZONE
      → h'.pages.current ≡ set_at at None now → (page : List ℕ) → nodes h.pages.current at ≡ Some page → HeldBy h' b (without_one r refs)
  held_drop changes tree put page there =
      held_after h h' b refs (without_one r refs) now few same held
      (λ other zone. ap (λ (m : PageMap). m other) put ∙ freemap_set at None now tree other zone)
      (changes.stand (with_refs refs (states_of b)) held.stand found)
      (fixed_change h.bigblocks h.append (maps_of h) (with_refs refs (states_of b)) held.stand now r _ _ _ found changes held.fixed)
      counted extents_kept where
        some : 1 ≤ times at 4096 refs
        some =
            let count = held.counted at 4096 in
            let node = some_where (nodes h.pages.current at) (references_of 4096 (extent_at at (places_in h)))
            (ap (λ (o : Option (List ℕ)). is_some o) there) in
            omega (arith, count, node)

        found : list_any (is_extent r) refs ≡ true
        found = referred_where r refs some

        counted : (x l : ℕ) → times x l (without_one r refs) ≡ expected (nodes h'.pages.current) (places_in h') x l
        counted x l =
            let gone : nodes h'.pages.current at ≡ None = ap (λ (m : PageMap). nodes m at) put ∙ node_set at None now tree in
            let others : (other : ℕ) → nat_eq at other ≡ false → nodes h.pages.current other ≡ nodes h'.pages.current other =
            λ other apart. sym (ap (λ (m : PageMap). nodes m other) put ∙
            (nodes_set at None now tree other apart ∙ nodes_kept h.pages.current now changes.pages other)) in
            let more = expected_more at x l page (nodes h'.pages.current) (nodes h.pages.current) (places_in h) gone there others in
            let moved : expected (nodes h'.pages.current) (places_in h') x l ≡ expected (nodes h'.pages.current) (places_in h) x l =
            ap (λ (xs : List Extent). expected (nodes h'.pages.current) xs x l) places in
            omega (arith, times_less x l r refs found, held.counted x l, more, moved)

-- No node stands where an extent is taken.
pub node_free : (h : Heap) (b : Basis) (refs : List Reference) (at : ℕ) (now : PageMap) → HeldBy h b refs
    → Takes h.bigblocks h.append TREE_ZONE 4096 at (maps_of h) now → nodes h.pages.current at ≡ None
node_free h b refs at now held takes =
    let dead : All (IsApart (reference at 4096)) refs = all_left (IsApart (reference at 4096)) refs _
    (takes.dead (with_refs refs (states_of b)) held.stand) in
    let zero = times_none at 4096 refs (omega arith) dead in
    none_where (nodes h.pages.current at) (references_of 4096 (extent_at at (places_in h))) (sym (held.counted at 4096) ∙ zero) where
      none_where : (o : Option (List ℕ)) (n : ℕ) → node_uses o 4096 + n ≡ 0 → o ≡ None
      none_where None n none = refl
      none_where (Some page) n none = absurd (omega (arith, none))

-- A node that is there is referred to.
pub node_referred : (h : Heap) (b : Basis) (refs : List Reference) (at : ℕ) (page : List ℕ) → HeldBy h b refs → nodes h.pages.current at ≡ Some page
    → list_any (is_extent (reference at 4096)) refs ≡ true
node_referred h b refs at page held there =
    referred_where (reference at 4096) refs
    (let count = held.counted at 4096 in
    let node = some_where (nodes h.pages.current at) (references_of 4096 (extent_at at (places_in h))) (ap (λ (o : Option (List ℕ)). is_some o) there) in
    omega (arith, count, node)) where
      some_where : (o : Option (List ℕ)) (n : ℕ) → is_some o ≡ true → 1 ≤ node_uses o 4096 + n
      some_where None n is = absurd (true≢false (sym is))
      some_where (Some page) n is = omega arith

-- A node comes into a space, or goes.
use Rattle.std.proofs.Common.{◌≡◌, ◌≢◌, Bool, true, false, true≢false, ℕ, ◌+◌, ◌*◌, ◌^◌, ◌<◌, ◌≤◌, List, ◌∷◌, Option, Some, None, refl, sym, ap}
use Rattle.std.proofs.Common.{subst, ◌∙◌, arith, cond, nat_eq, eqb-true, eq-eqb, length}
use Rattle.std.specs.Prelude.{IfSome, IsSome, IsTrue}
use Rattle.std.proofs.Math.Logic.{∥∥₁_elim}
use Rattle.std.proofs.Props.{props}
use Rattle.hm_types.specs.Offset.{zone_of}
use Rattle.hm_types.specs.References.{Reference}
use Rattle.hm_types.specs.Space.{Spends, in_zone, nothing, rounded}
use Rattle.hm_types.specs.Told.{BothTell}
use Rattle.hm_types.specs.declared.limits.TheConstants.{BIGBLOCK_BYTES, MOST_BIGBLOCKS}
use Rattle.hm_types.specs.declared.zone.TheConstants.{FREEMAP_ZONE, TREE_ZONE}
use Rattle.hm_disk.specs.Crash.{Told}
use Rattle.hm_fields.specs.Pages.{PageMap}
use Rattle.hm_pages.specs.Maps.{set_at}
use Rattle.hm_node.specs.Inner.{IsNodeOffset}
use Rattle.hm_node.specs.Shape.{HoldsNode}
use Rattle.hm_btree.specs.Space.{HasLost, HasNew, IsSpot}
use Rattle.hm_freemap.specs.Change.{appended, given}
use Rattle.hm_freemap.specs.Extents.{Changes, IsReferred, Takes, reference, unreferred, with_current, without_one}
use Rattle.hm_freemap.specs.Stand.{AreBelow, AreDistinct, append_of, entry_of, free_by, home_of, is_handed_out, room_in}
use Rattle.hm_freemap.specs.Space.{free_at, room_at, space_of}
use Rattle.hm_stored.specs.Basis.{Basis, nodes}
use Rattle.hm_stored.specs.Heap.{Heap, bytes_of, does_tell, extents_in, free_of, maps_of, pages_of, places_in, room_of}
use Rattle.hm_stored.specs.Held.{AreNodes, Held, HeldBy, IsKept}
use Rattle.hm_stored.proofs.BasisLemmas.{SameBasis, begin_same, beside, both_nodes, content_same, extents_same, held_map, places_same, tell_same}
use Rattle.hm_stored.proofs.BasisLemmas.{committed_same, frozen_same}
use Rattle.hm_stored.proofs.BookLemmas.{Grows, grows_put, nodes_kept}
use Rattle.hm_stored.proofs.CauseLemmas.{held_of, on_books}
use Rattle.hm_stored.proofs.NodeStepLemmas.{freemap_set, held_drop, held_node, node_free}
use Rattle.hm_stored.proofs.PageLemmas.{nodes_less, nodes_more, nodes_same}
use Rattle.hm_stored.proofs.MapLemmas.{SameFreemap, free_same, room_same}
use Rattle.hm_stored.proofs.SafeLemmas.{Uses, fewer_used, holds_same, safe_after, safe_map, uses_put}

-- what both have in common
pub record SamePlaces (h h' : Heap) : Type 0 where
  pub basis : SameBasis h h'
  pub disk : h'.disk ≡ h.disk
  pub append : h'.append ≡ h.append
  pub log : h'.log ≡ h.log
  pub whole : h.whole ≡ true
  pub whole' : h'.whole ≡ true

-- the room and the free big-blocks of a whole space are those of its maps
pub room_whole : (h : Heap) → h.whole ≡ true → (zone : ℕ) → room_of h zone ≡ room_in h.append h.pages.current zone
room_whole h whole zone = ap (λ (t : Bool). cond t (room_in h.append h.pages.current zone) (cond (is_handed_out zone) BIGBLOCK_BYTES 0)) whole

module _ (h h' : Heap) (at : ℕ) (page : Option (List ℕ)) (now : PageMap) (few : h.bigblocks ≤ MOST_BIGBLOCKS) (below : AreBelow h.bigblocks h.append)
    (same : SamePlaces h h') (tree : zone_of at ≡ TREE_ZONE) (put : h'.pages.current ≡ set_at at page now) where
  pub tells : does_tell h' ≡ does_tell h
  tells = tell_same h h' (content_same h h' same.basis same.disk) (same.whole' ∙ sym same.whole)

  pub places : places_in h' ≡ places_in h
  places = places_same h h' same.basis same.log

  pub bytes : bytes_of h'.disk ≡ bytes_of h.disk
  bytes = ap bytes_of same.disk

  pub extents_stay : extents_in h' ≡ extents_in h
  extents_stay = extents_same h h' tells bytes places

  pub freemap : SameFreemap now h'.pages.current
  freemap other zone = ap (λ (m : PageMap). m other) put ∙ freemap_set at page now tree other zone

  -- the pages outside of the freemap stay, but for that one
  pub nodes_put : ((other : ℕ) → zone_of other ≢ FREEMAP_ZONE → now other ≡ h.pages.current other) → (other : ℕ)
      → nodes h'.pages.current other ≡ cond (nat_eq other at) page (nodes h.pages.current other)
  nodes_put kept other =
      ap (λ (m : PageMap). nodes m other) put ∙ by_test (nat_eq (zone_of other) TREE_ZONE) refl (nat_eq other at) refl
      (nodes_kept h.pages.current now kept other) where
        by_test : (z : Bool) → nat_eq (zone_of other) TREE_ZONE ≡ z → (t : Bool) → nat_eq other at ≡ t
            → cond z (now other) None ≡ cond z (h.pages.current other) None
            → cond z (cond t page (now other)) None ≡ cond t page (cond z (h.pages.current other) None)
        by_test true zone true is rest = refl
        by_test true zone false is rest = rest
        by_test false zone true is rest =
            let one : zone_of other ≡ zone_of at = ap zone_of (eqb-true other at is) in
            absurd (true≢false (sym (eq-eqb (zone_of other) TREE_ZONE (one ∙ tree)) ∙ zone))
        by_test false zone false is rest = refl

  pub room_after : (zone : ℕ) → room_of h' zone ≡ room_in h.append now zone
  room_after zone =
      room_whole h' same.whole' zone ∙ (ap (λ (a : List ℕ). room_in a h'.pages.current zone) same.append
      ∙ room_same now h'.pages.current freemap h.bigblocks h.append few below zone)

  free_after : free_of h' ≡ free_by h.bigblocks h.append (with_current now (maps_of h))
  free_after =
      ap (λ (t : Bool). cond t (free_by h'.bigblocks h'.append (maps_of h')) (2 ^ 32)) same.whole'
      ∙ by_parts h'.bigblocks h'.append h'.pages.committed h'.pages.frozen same.basis.bigblocks same.append (committed_same h h' same.basis)
      (frozen_same h h' same.basis) where
        by_parts : (n : ℕ) (a : List ℕ) (c f : PageMap) → n ≡ h.bigblocks → a ≡ h.append → c ≡ h.pages.committed → f ≡ h.pages.frozen
            → free_by n a (record { committed = c; frozen = f; current = h'.pages.current }) ≡ free_by h.bigblocks h.append (with_current now (maps_of h))
        by_parts n a c f first second third fourth =
            rw (first, second, third, fourth) (free_same now h'.pages.current freemap h.bigblocks h.append h.pages.committed h.pages.frozen few)

  free_before : free_of h ≡ free_by h.bigblocks h.append (maps_of h)
  free_before = ap (λ (t : Bool). cond t (free_by h.bigblocks h.append (maps_of h)) (2 ^ 32)) same.whole

  -- what was spent by the maps was spent
  pub spent : (most : ℕ → ℕ) → Spends room_at (free_at h.bigblocks) most (space_of h.append (maps_of h)) (space_of h.append (with_current now (maps_of h)))
      → Spends room_of free_of most h h'
  spent most spends = record {
    room = λ zone. let was = room_whole h same.whole zone in let is = room_after zone in let step = spends.room zone in omega (arith, was, is, step);
    free = let was = free_before in let is = free_after in let step = spends.free in omega (arith, was, is, step);
  }

  pub kept_nodes : ∥ IsKept h ∥₁ → (IsKept h → AreNodes h'.pages.current) → ((block : ℕ) → Grows h.pages.current now block)
      → (h'.gave ≡ false → (h.gave ≡ false) × ((block : ℕ) → Uses h.pages.current now block)) → (IsTrue (does_tell h) → Held h → Held h') → ∥ IsKept h' ∥₁
  kept_nodes kept nodes_are grows uses held_are = ∥∥₁_elim kept squash₁ (λ k. ∣ record {
    nodes = λ _. nodes_are k;
    begun = subst (λ (o : Option PageMap). IfSome o AreNodes) (sym (begin_same h h' same.basis)) k.begun;
    size = subst (λ (n : ℕ). IfSome h'.disk (λ (t : Told). n * BIGBLOCK_BYTES ≤ length t.bytes)) (sym same.basis.bigblocks)
        (subst (λ (o : Option Told). IfSome o (λ (t : Told). h.bigblocks * BIGBLOCK_BYTES ≤ length t.bytes)) (sym same.disk) k.size);
    safe = safe_map h h' same.basis (holds_same h h' same.basis same.disk (same.whole' ∙ sym same.whole))
        (λ b safe. safe_after h h' b now few same.basis.bigblocks safe freemap grows uses) k.safe;
    held = λ told. held_are (sym tells ∙ told) k.held told;
  } ∣₁)

-- A node was added.
module _ (h h' : Heap) (at : ℕ) (page : List ℕ) (now : PageMap) (few : h.bigblocks ≤ MOST_BIGBLOCKS) (below : AreBelow h.bigblocks h.append)
    (distinct : AreDistinct h.append)
    (same : SamePlaces h h') (gave : h'.gave ≡ h.gave) (spot : IsNodeOffset at) (takes : Takes h.bigblocks h.append TREE_ZONE 4096 at (maps_of h) now)
    (put : h'.pages.current ≡ set_at at (Some page) now) (kept : ∥ IsKept h ∥₁) where
  pub told_new : BothTell (pages_of h) (pages_of h') (HasNew at page)
  told_new = by_told (does_tell h) refl where
    free : IsTrue (does_tell h) → nodes h.pages.current at ≡ None
    free told = ∥∥₁_elim (held_of h kept) (hlevel props) (λ held. on_books h (nodes h.pages.current at ≡ None) told held
        (λ b refs is. node_free h b refs at now is takes))

    by_told : (t : Bool) → does_tell h ≡ t → BothTell (pages_of h) (pages_of h') (HasNew at page)
    by_told true told = both_nodes h h' (HasNew at page) (tells h h' at (Some page) now few below same takes.place put)
        (record { free = free told; put = nodes_put h h' at (Some page) now few below same takes.place put takes.pages })
    by_told false none =
        subst (λ (t : Bool). BothTell (cond t (Some (nodes h.pages.current)) None) (pages_of h') (HasNew at page)) (sym none)
        (subst (λ (t : Bool). BothTell None (cond t (Some (nodes h'.pages.current)) None) (HasNew at page))
        (sym (tells h h' at (Some page) now few below same takes.place put ∙ none)) tt)

  pub spot_new : 4096 ≤ room_of h TREE_ZONE → IsSpot at
  spot_new room = record {
    node = spot;
    below =
        let low = below 0 (omega arith) in
        let left = room_whole h same.whole TREE_ZONE in
        omega (arith, takes.begin, room, left, low, few);
  }

  pub room_new : (zone : ℕ) → room_of h' zone + in_zone TREE_ZONE 4096 zone ≡ room_of h zone
  room_new zone =
      let was = room_whole h same.whole zone in
      let is = room_after h h' at (Some page) now few below same takes.place put zone in
      let step = takes.room distinct zone in
      omega (arith, was, is, step)

  pub spent_new : Spends room_of free_of (in_zone TREE_ZONE 4096) h h'
  spent_new = spent h h' at (Some page) now few below same takes.place put (in_zone TREE_ZONE 4096) (takes.spends distinct)

  pub kept_new : at < 2 ^ 64 → HoldsNode page → ∥ IsKept h' ∥₁
  kept_new low holds = kept_nodes h h' at (Some page) now few below same takes.place put kept
      (λ k. nodes_more now h'.pages.current at page (nodes_same h.pages.current now (k.nodes same.whole)
      (nodes_kept h.pages.current now takes.pages)) put low (λ _. holds))
      (grows_put h.pages.current now (append_of h.append TREE_ZONE) (appended (rounded 4096)) takes.put refl (omega arith))
      (λ none. (
        sym gave ∙ none,
        uses_put h.pages.current now (append_of h.append TREE_ZONE) (appended (rounded 4096)) takes.put
            (λ used. fewer_used (entry_of h.pages.current (append_of h.append TREE_ZONE)).bytes_free (rounded 4096) used),
      ))
      (λ told held. held_map h h' same.basis (λ _. told)
      (λ b refs _ is. (
        reference at 4096 ∷ refs,
        held_node h h' b refs at now few (beside h h' same.basis same.append) is (places h h' at (Some page) now few below same takes.place put)
            (bytes h h' at (Some page) now few below same takes.place put) page takes put,
      )) held)

-- A node was taken out.
module _ (h h' : Heap) (at : ℕ) (now : PageMap) (few : h.bigblocks ≤ MOST_BIGBLOCKS) (below : AreBelow h.bigblocks h.append)
    (same : SamePlaces h h') (gave : h'.gave ≡ true) (tree : zone_of at ≡ TREE_ZONE)
    (gives : Changes h.bigblocks h.append (reference at 4096) (IsReferred (reference at 4096)) (unreferred (reference at 4096)) (given (rounded 4096))
    (maps_of h) now)
    (put : h'.pages.current ≡ set_at at None now) (there : IfSome (pages_of h) (λ map. IsSome (map at))) (kept : ∥ IsKept h ∥₁) where
  pub told_gone : BothTell (pages_of h) (pages_of h') (HasLost at)
  told_gone = both_nodes h h' (HasLost at) (tells h h' at None now few below same tree put)
      (λ other. nodes_put h h' at None now few below same tree put gives.pages other)

  pub spent_gone : Spends room_of free_of nothing h h'
  spent_gone = spent h h' at None now few below same tree put nothing gives.spends

  found : IsTrue (does_tell h) → IsSome (nodes h.pages.current at)
  found told = subst (λ (t : Bool). IfSome (cond t (Some (nodes h.pages.current)) None) (λ map. IsSome (map at))) told there

  pub kept_gone : ∥ IsKept h' ∥₁
  kept_gone = kept_nodes h h' at None now few below same tree put kept
      (λ k. nodes_less now h'.pages.current at (nodes_same h.pages.current now (k.nodes same.whole) (nodes_kept h.pages.current now gives.pages)) put)
      (grows_put h.pages.current now (home_of (reference at 4096)) (given (rounded 4096)) gives.put refl (omega arith))
      (λ none. absurd (true≢false (sym gave ∙ none)))
      (λ told held. held_map h h' same.basis (λ _. told)
      (λ b refs _ is. by_node (nodes h.pages.current at) refl (found told) b refs is) held) where
        by_node : (o : Option (List ℕ)) → nodes h.pages.current at ≡ o → IsSome o → (b : Basis) (refs : List Reference) → HeldBy h b refs
            → (refs' : List Reference) × HeldBy h' b refs'
        by_node None none some b refs is = absurd (true≢false (sym some))
        by_node (Some page) node some b refs is = (
          without_one (reference at 4096) refs,
          held_drop h h' b refs at now few (beside h h' same.basis same.append) is (places h h' at None now few below same tree put)
              (bytes h h' at None now few below same tree put) gives tree put page node,
        )

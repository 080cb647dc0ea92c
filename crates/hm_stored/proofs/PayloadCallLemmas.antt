-- What a space tells as extents of payloads come, are shared and go.
use Rattle.std.proofs.Common.{◌≡◌, Bool, true, false, true≢false, ℕ, ◌*◌, ◌^◌, ◌<◌, ◌≤◌, List, ◌∷◌, map, Option, Some, None, refl, sym, ap, subst}
use Rattle.std.proofs.Common.{◌∙◌, arith, cond, length}
use Rattle.std.specs.Prelude.{IfSome, IsSomeAnd, IsTrue}
use Rattle.std.proofs.Math.Logic.{∥∥₁_elim}
use Rattle.hm_types.specs.Space.{Spends, rounded}
use Rattle.hm_types.specs.Told.{BothTell}
use Rattle.hm_types.specs.declared.limits.TheConstants.{BIGBLOCK_BYTES, MOST_BIGBLOCKS}
use Rattle.hm_disk.specs.Crash.{Told}
use Rattle.hm_fields.specs.Pages.{PageMap}
use Rattle.std.proofs.lemmas.List.Elements.{recursion_from_All}
use Rattle.hm_key.proofs.BalanceLemmas.{extent_each}
use Rattle.hm_key.specs.Extents.{AreExtents, Extent, IsExtent, extent_at, given_back_at, shared_at}
use Rattle.hm_freemap.specs.Change.{given, shared}
use Rattle.hm_freemap.specs.Extents.{Changes, IsReferred, IsShareable, reference, referred, unreferred, with_current, without_one}
use Rattle.hm_freemap.specs.Space.{free_at, room_at, space_of}
use Rattle.hm_freemap.specs.Stand.{entry_of, free_by, home_of, room_in}
use Rattle.hm_stored.specs.Basis.{nodes}
use Rattle.hm_stored.specs.Calls.{ChangesExtents}
use Rattle.hm_stored.specs.Heap.{Heap, bytes_of, does_tell, extents_in, free_of, maps_of, pages_of, places_in, room_of}
use Rattle.hm_stored.specs.Held.{AreNodes, Held, IsKept}
use Rattle.hm_stored.specs.Log.{filled}
use Rattle.hm_stored.proofs.BasisLemmas.{SameBasis, begin_same, beside, committed_same, content_same, frozen_same, held_map, tell_same}
use Rattle.hm_stored.proofs.BookLemmas.{Grows, SamePages, grows_put, nodes_kept}
use Rattle.hm_stored.proofs.NewNodeLemmas.{room_whole}
use Rattle.hm_stored.proofs.PageLemmas.{nodes_same}
use Rattle.hm_stored.proofs.PayloadStepLemmas.{held_give, held_share}
use Rattle.hm_stored.proofs.PlaceLemmas.{given_filled, shared_filled}
use Rattle.hm_stored.proofs.SafeLemmas.{Uses, fewer_used, holds_same, safe_after, safe_map, uses_put}

-- what both have in common, where the pages of the freemap alone changed
pub record SameTree (h h' : Heap) : Type 0 where
  pub basis : SameBasis h h'
  pub append : h'.append ≡ h.append
  pub whole : h.whole ≡ true
  pub whole' : h'.whole ≡ true
  pub pages : SamePages h.pages.current h'.pages.current

module _ (h h' : Heap) (same : SameTree h h') (tells : does_tell h' ≡ does_tell h) where
  pub tree_stays : pages_of h' ≡ pages_of h
  tree_stays =
      ap (λ (t : Bool). cond t (Some (nodes h'.pages.current)) None) tells
      ∙ ap (λ (m : PageMap). cond (does_tell h) (Some m) None) (λ i at. nodes_kept h.pages.current h'.pages.current same.pages at i)

  pub both_extents : (R : List Extent → List Extent → Type 0)
      → (IsTrue (does_tell h) → R (map (filled (bytes_of h.disk)) (places_in h)) (map (filled (bytes_of h'.disk)) (places_in h'))) → BothTell
      (extents_in h) (extents_in h') R
  both_extents R is = subst (λ (t : Bool). BothTell (extents_in h) (cond t (Some (map (filled (bytes_of h'.disk)) (places_in h'))) None) R) (sym tells)
      (by_test (does_tell h) is) where
        by_test : (t : Bool) → (t ≡ true → R (map (filled (bytes_of h.disk)) (places_in h)) (map (filled (bytes_of h'.disk)) (places_in h')))
            → BothTell (cond t (Some (map (filled (bytes_of h.disk)) (places_in h))) None)
            (cond t (Some (map (filled (bytes_of h'.disk)) (places_in h'))) None) R
        by_test true is = is refl
        by_test false is = tt

  -- what was spent by the maps was spent
  pub spent_tree : (most : ℕ → ℕ)
      → Spends room_at (free_at h.bigblocks) most (space_of h.append (maps_of h)) (space_of h.append
      (with_current h'.pages.current (maps_of h))) → Spends room_of free_of most h h'
  spent_tree most spends = record {
    room = λ zone.
        let was = room_whole h same.whole zone in
        let is = room_whole h' same.whole' zone in
        let one : room_in h'.append h'.pages.current zone ≡ room_in h.append h'.pages.current zone = ap
        (λ (a : List ℕ). room_in a h'.pages.current zone) same.append in
        let step = spends.room zone in
        omega (arith, was, is, one, step);
    free =
        let was : free_of h ≡ free_by h.bigblocks h.append (maps_of h) = ap (λ (t : Bool). cond t (free_by h.bigblocks h.append (maps_of h))
        (2 ^ 32)) same.whole in
        let is : free_of h' ≡ free_by h'.bigblocks h'.append (maps_of h') = ap (λ (t : Bool). cond t (free_by h'.bigblocks h'.append (maps_of h'))
        (2 ^ 32)) same.whole' in
        let one = by_parts h'.bigblocks h'.append h'.pages.committed h'.pages.frozen same.basis.bigblocks same.append (committed_same h h' same.basis)
        (frozen_same h h' same.basis) in
        let step = spends.free in
        omega (arith, was, is, one, step);
  } where
    by_parts : (n : ℕ) (a : List ℕ) (c f : PageMap) → n ≡ h.bigblocks → a ≡ h.append → c ≡ h.pages.committed → f ≡ h.pages.frozen
        → free_by n a (record { committed = c; frozen = f; current = h'.pages.current }) ≡ free_by h.bigblocks h.append
        (with_current h'.pages.current (maps_of h))
    by_parts n a c f first second third fourth = rw (first, second, third, fourth) refl

-- the live extent of a space that tells, at an offset
pub live_found : (h : Heap) (at : ℕ) (P : Extent → Type 0) → IsTrue (does_tell h) → IfSome (extents_in h) (λ xs. IsSomeAnd (extent_at at xs) P)
    → (x : Extent) × (extent_at at (map (filled (bytes_of h.disk)) (places_in h)) ≡ Some x) × P x
live_found h at P told live =
    by_found (extent_at at (map (filled (bytes_of h.disk)) (places_in h))) refl
    (subst (λ (t : Bool). IfSome (cond t (Some (map (filled (bytes_of h.disk)) (places_in h))) None) (λ xs. IsSomeAnd (extent_at at xs) P)) told live) where
      by_found : (o : Option Extent) → extent_at at (map (filled (bytes_of h.disk)) (places_in h)) ≡ o → IsSomeAnd o P
          → (x : Extent) × (extent_at at (map (filled (bytes_of h.disk)) (places_in h)) ≡ Some x) × P x
      by_found None is some = absurd some
      by_found (Some x) is some = (x, is, some)

-- an extent of a list is not empty
pub len_some : (xs : List Extent) (at len : ℕ) (x : Extent) → AreExtents xs → extent_at at xs ≡ Some x → x.len ≡ rounded len → 1 ≤ len
len_some xs at len x are found long =
    let is = extent_each IsExtent at x xs (recursion_from_All IsExtent xs are.each) found in
    omega (arith, is.0.some, long)

-- Where the disk is as it was: sharing and giving back.
module _ (h h' : Heap) (at len : ℕ) (few : h.bigblocks ≤ MOST_BIGBLOCKS) (same : SameTree h h') (disk : h'.disk ≡ h.disk) where
  pub tells_on : does_tell h' ≡ does_tell h
  tells_on = tell_same h h' (content_same h h' same.basis disk) (same.whole' ∙ sym same.whole)

  bytes : bytes_of h'.disk ≡ bytes_of h.disk
  bytes = ap bytes_of disk

  pub kept_on : ∥ IsKept h ∥₁ → ((block : ℕ) → Grows h.pages.current h'.pages.current block)
      → (h'.gave ≡ false → (h.gave ≡ false) × ((block : ℕ) → Uses h.pages.current h'.pages.current block)) →
      (IsTrue (does_tell h) → Held h → Held h') → ∥ IsKept h' ∥₁
  kept_on kept grows uses held_are = ∥∥₁_elim kept squash₁ (λ k. ∣ record {
    nodes = λ _. nodes_same h.pages.current h'.pages.current (k.nodes same.whole) (nodes_kept h.pages.current h'.pages.current same.pages);
    begun = subst (λ (o : Option PageMap). IfSome o AreNodes) (sym (begin_same h h' same.basis)) k.begun;
    size = subst (λ (n : ℕ). IfSome h'.disk (λ (t : Told). n * BIGBLOCK_BYTES ≤ length t.bytes)) (sym same.basis.bigblocks)
        (subst (λ (o : Option Told). IfSome o (λ (t : Told). h.bigblocks * BIGBLOCK_BYTES ≤ length t.bytes)) (sym disk) k.size);
    safe = safe_map h h' same.basis (holds_same h h' same.basis disk (same.whole' ∙ sym same.whole))
        (λ b safe. safe_after h h' b h'.pages.current few same.basis.bigblocks safe (λ other zone. refl) grows uses) k.safe;
    held = λ told. held_are (sym tells_on ∙ told) k.held told;
  } ∣₁)

  -- An extent was shared.
  module _ (shares : Changes h.bigblocks h.append (reference at len) (IsShareable (reference at len)) (referred (reference at len))
      (shared (rounded len)) (maps_of h) h'.pages.current)
      (places : places_in h' ≡ shared_at at (places_in h)) (gave : h'.gave ≡ h.gave)
      (live : IfSome (extents_in h) (λ xs. IsSomeAnd (extent_at at xs) (λ x. (x.len ≡ rounded len) × (x.refs < 64)))) where
    pub share_ok : ChangesExtents (λ xs ys. ys ≡ shared_at at xs) h h'
    share_ok = record {
      tree = tree_stays h h' same tells_on;
      extents = both_extents h h' same tells_on (λ xs ys. ys ≡ shared_at at xs) (λ _.
          ap (λ (b : List ℕ). map (filled b) (places_in h')) bytes
          ∙ (ap (map (filled (bytes_of h.disk))) places ∙ sym (shared_filled (bytes_of h.disk) at (places_in h))));
    }

    pub share_kept : ∥ IsKept h ∥₁ → ∥ IsKept h' ∥₁
    share_kept kept = kept_on kept
        (grows_put h.pages.current h'.pages.current (home_of (reference at len)) (shared (rounded len)) shares.put refl (omega arith))
        (λ none. (
          sym gave ∙ none,
          uses_put h.pages.current h'.pages.current (home_of (reference at len)) (shared (rounded len)) shares.put
              (λ used. fewer_used (entry_of h.pages.current (home_of (reference at len))).bytes_free (rounded len) used),
        ))
        (λ told held. held_map h h' same.basis (λ _. told) (λ b refs _ is.
        let found = live_found h at (λ x. (x.len ≡ rounded len) × (x.refs < 64)) told live in (
          reference at len ∷ refs,
          held_share h h' b refs at len h'.pages.current few (beside h h' same.basis same.append) is
              (len_some (map (filled (bytes_of h.disk))
              (places_in h)) at len found.0 is.extents found.1 found.2.0) refl same.pages found.0 found.1 found.2.0 found.2.1
              shares places bytes,
        )) held)

  -- One reference was given back.
  module _ (gives : Changes h.bigblocks h.append (reference at len) (IsReferred (reference at len)) (unreferred (reference at len))
      (given (rounded len)) (maps_of h) h'.pages.current)
      (places : places_in h' ≡ given_back_at at (places_in h)) (gave : h'.gave ≡ true)
      (live : IfSome (extents_in h) (λ xs. IsSomeAnd (extent_at at xs) (λ x. x.len ≡ rounded len))) where
    pub give_ok : ChangesExtents (λ xs ys. ys ≡ given_back_at at xs) h h'
    give_ok = record {
      tree = tree_stays h h' same tells_on;
      extents = both_extents h h' same tells_on (λ xs ys. ys ≡ given_back_at at xs) (λ _.
          ap (λ (b : List ℕ). map (filled b) (places_in h')) bytes
          ∙ (ap (map (filled (bytes_of h.disk))) places ∙ sym (given_filled (bytes_of h.disk) at (places_in h))));
    }

    pub give_kept : ∥ IsKept h ∥₁ → ∥ IsKept h' ∥₁
    give_kept kept = kept_on kept
        (grows_put h.pages.current h'.pages.current (home_of (reference at len)) (given (rounded len)) gives.put refl (omega arith))
        (λ none. absurd (true≢false (sym gave ∙ none)))
        (λ told held. held_map h h' same.basis (λ _. told) (λ b refs _ is.
        let found = live_found h at (λ x. x.len ≡ rounded len) told live in (
          without_one (reference at len) refs,
          held_give h h' b refs at len h'.pages.current few (beside h h' same.basis same.append) is
              (len_some (map (filled (bytes_of h.disk)) (places_in h)) at len found.0 is.extents found.1 found.2) refl same.pages found.0 found.1 found.2
              gives places bytes,
        )) held)

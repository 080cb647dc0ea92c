-- The books of a space as a call is opened, and as zones begin new big-blocks.
use Rattle.std.proofs.Common.{◌≡◌, true, false, ℕ, ◌*◌, ◌≤◌, List, [], ◌∷◌, map, Option, Some, None, refl, sym, ap, subst, ◌∙◌}
use Rattle.std.proofs.Common.{is_some, length}
use Rattle.std.specs.Prelude.{option_map}
use Rattle.hm_types.specs.References.{Reference, IsPlaced}
use Rattle.hm_types.specs.declared.limits.TheConstants.{BIGBLOCK_BYTES}
use Rattle.hm_types.specs.declared.zones.Zones.{Zones}
use Rattle.hm_fields.specs.Pages.{PageMap}
use Rattle.hm_key.specs.Balance.{IsBalanced}
use Rattle.hm_key.specs.Extents.{AreExtents, Extent, extent_at, shared_at, with_extent}
use Rattle.hm_key.specs.declared.element.Element.{Element}
use Rattle.hm_freemap.specs.Admit.{IsAdmitted}
use Rattle.hm_freemap.specs.Extents.{with_current}
use Rattle.hm_freemap.specs.Stand.{Maps, StandBy}
use Rattle.hm_freemap.proofs.ListLemmas.{all_left, all_right, apart_left}
use Rattle.hm_image.specs.Extents as image
use Rattle.hm_image.specs.Image.{to_payload}
use Rattle.hm_image.specs.Referred.{nodes_of}
use Rattle.hm_image.proofs.ExtentsOfLemmas.{placed_balanced, placed_live}
use Rattle.hm_image.proofs.SoundPlacesLemmas.{apart_right, few_right}
use Rattle.hm_stored.specs.Basis.{AreFixed, Basis, IsFirm, elements_in, nodes, states_of}
use Rattle.hm_stored.specs.Heap.{Heap, bytes_of, maps_of, places_in}
use Rattle.hm_stored.specs.Held.{HeldBy, expected, with_refs}
use Rattle.hm_stored.specs.Log.{filled, places_of, referred_at}
use Rattle.hm_stored.proofs.BookLemmas.{expected_same, nodes_kept}
use Rattle.hm_stored.proofs.FixedLemmas.{fixed_admit}
use Rattle.hm_stored.proofs.PlaceLemmas.{at_filled, shared_filled, with_filled}
use Rattle.hm_stored.proofs.ReferLemmas.{times}
use Rattle.hm_stored.proofs.TreeCountLemmas.{tree_counted}

-- the extents of elements with their bytes are those that the image has
pub image_extents : (bytes : List ℕ) (es : List Element) → map (filled bytes) (places_of es) ≡ image.extents_of bytes es
unfolding places_of
image_extents bytes [] = refl
image_extents bytes (e ∷ es) = by_found (extent_at e.payload (places_of es)) refl (image_extents bytes es) where
  by_found : (o : Option Extent) → extent_at e.payload (places_of es) ≡ o → map (filled bytes) (places_of es) ≡ image.extents_of bytes es
      → map (filled bytes) (referred_at e.payload e.len o (places_of es)) ≡ image.with_payload_of bytes e (image.extents_of bytes es)
  by_found None is rest =
      let there : is_some (extent_at e.payload (image.extents_of bytes es)) ≡ false =
      ap (λ (xs : List Extent). is_some (extent_at e.payload xs)) (sym rest) ∙ (ap (λ (o : Option Extent). is_some o)
      (at_filled bytes e.payload (places_of es))
      ∙ ap (λ (o : Option Extent). is_some (option_map (filled bytes) o)) is) in
      rw there (sym (with_filled bytes _ (places_of es)) ∙ ap (λ (xs : List Extent). with_extent (image.extent_of bytes e) xs) rest)
  by_found (Some x) is rest =
      let there : is_some (extent_at e.payload (image.extents_of bytes es)) ≡ true =
      ap (λ (xs : List Extent). is_some (extent_at e.payload xs)) (sym rest) ∙ (ap (λ (o : Option Extent). is_some o)
      (at_filled bytes e.payload (places_of es))
      ∙ ap (λ (o : Option Extent). is_some (option_map (filled bytes) o)) is) in
      rw there (sym (shared_filled bytes e.payload (places_of es)) ∙ ap (λ (xs : List Extent). shared_at e.payload xs) rest)

-- the payloads of a state whose books are in order stand where they may
pub firm_places : (b : Basis) (bytes : List ℕ) → b.bigblocks * BIGBLOCK_BYTES ≤ length bytes → IsFirm b → image.HavePlaces bytes b.bigblocks (elements_in b)
firm_places b bytes room firm =
    let mine = nodes_of (nodes b.maps.current) b.roots.current in
    let payloads = map to_payload (elements_in b) in
    record {
      room = room;
      zones = firm.zones;
      placed = all_right (IsPlaced b.bigblocks) mine payloads (all_left (IsPlaced b.bigblocks) (states_of b).current _ firm.stand.placed);
      apart = apart_right mine payloads (apart_left (states_of b).current _ firm.stand.apart);
      few = few_right mine payloads firm.stand.few.2;
    }

-- As a call is opened, the current tree refers to what there is.
module _ (h : Heap) (b : Basis) (firm : IsFirm b) (bigblocks : h.bigblocks ≡ b.bigblocks) (append : h.append ≡ b.append) (maps : maps_of h ≡ b.maps)
    (places : places_in h ≡ places_of (elements_in b)) (room : h.bigblocks * BIGBLOCK_BYTES ≤ length (bytes_of h.disk)) where
  abbrev bytes : List ℕ
  bytes = bytes_of h.disk

  have : image.HavePlaces bytes b.bigblocks (elements_in b)
  have = firm_places b bytes (subst (λ (n : ℕ). n * BIGBLOCK_BYTES ≤ length bytes) bigblocks room) firm

  current : h.pages.current ≡ b.maps.current
  current = ap (λ (m : Maps). m.current) maps

  extents_are : map (filled bytes) (places_in h) ≡ image.extents_of bytes (elements_in b)
  extents_are = ap (map (filled bytes)) places ∙ image_extents bytes (elements_in b)

  stands : StandBy h.bigblocks h.append (maps_of h) (states_of b)
  stands =
      subst (λ (n : ℕ). StandBy n h.append (maps_of h) (states_of b)) (sym bigblocks)
      (subst (λ (a : List ℕ). StandBy b.bigblocks a (maps_of h) (states_of b)) (sym append)
      (subst (λ (m : Maps). StandBy b.bigblocks b.append m (states_of b)) (sym maps) firm.stand))

  balanced : IsBalanced (elements_in b) (map (filled bytes) (places_in h))
  balanced = subst (IsBalanced (elements_in b)) (sym extents_are) (placed_balanced bytes b.bigblocks (elements_in b) have)

  counted : (at len : ℕ) → times at len (states_of b).current ≡ expected (nodes h.pages.current) (places_in h) at len
  counted at len =
      tree_counted b.maps.current b.roots.current bytes (places_in h) at len firm.tree balanced
      ∙ ap (λ (m : PageMap). expected (nodes m) (places_in h) at len) (sym current)

  pub held_begin : HeldBy h b (states_of b).current
  held_begin = record {
    stand = stands;
    counted = counted;
    extents = subst AreExtents (sym extents_are) (placed_live bytes b.bigblocks (elements_in b) have);
    fixed = subst (λ (n : ℕ). AreFixed n h.pages.current) (sym bigblocks) (subst (AreFixed b.bigblocks) (sym current) firm.fixed);
  }

-- Zones began new big-blocks, before anything was given back.
pub held_admit : (h h' : Heap) (b : Basis) (refs : List Reference) (zones : Zones) (most : ℕ) (now : PageMap)
    → HeldBy h b refs → IsAdmitted h.bigblocks zones most h.append h'.append (maps_of h) now → h'.pages.current ≡ now
    → h'.pages.committed ≡ h.pages.committed → h'.pages.frozen ≡ h.pages.frozen → h'.bigblocks ≡ h.bigblocks → places_in h' ≡ places_in h
    → bytes_of h'.disk ≡ bytes_of h.disk → HeldBy h' b refs
held_admit h h' b refs zones most now held admitted put committed frozen bigblocks places bytes = record {
  stand = after;
  counted = λ at len.
      held.counted at len
      ∙ (sym (expected_same (nodes h.pages.current) (nodes h'.pages.current) (places_in h) at len
      (ap (λ (o : Option (List ℕ)). is_some o) (ap (λ (m : PageMap). nodes m at) put ∙ nodes_kept h.pages.current now admitted.pages at)))
      ∙ ap (λ (xs : List Extent). expected (nodes h'.pages.current) xs at len) (sym places));
  extents = subst (λ (xs : List Extent). AreExtents (map (filled (bytes_of h'.disk)) xs)) (sym places)
      (subst (λ (bs : List ℕ). AreExtents (map (filled bs) (places_in h))) (sym bytes) held.extents);
  fixed = subst (λ (n : ℕ). AreFixed n h'.pages.current) (sym bigblocks) (subst (AreFixed h.bigblocks) (sym put)
      (fixed_admit h.bigblocks h.append (maps_of h) (with_refs refs (states_of b)) held.stand now zones most h'.append admitted held.fixed));
} where
  maps_are : with_current now (maps_of h) ≡ maps_of h'
  maps_are = by_parts h'.pages.committed h'.pages.frozen h'.pages.current committed frozen put where
    by_parts : (c f u : PageMap) → c ≡ h.pages.committed → f ≡ h.pages.frozen → u ≡ now
        → with_current now (maps_of h) ≡ record { committed = c; frozen = f; current = u }
    by_parts c f u first second third = rw (first, second, third) refl

  after : StandBy h'.bigblocks h'.append (maps_of h') (with_refs refs (states_of b))
  after =
      subst (λ (n : ℕ). StandBy n h'.append (maps_of h') (with_refs refs (states_of b))) (sym bigblocks)
      (subst (λ (m : Maps). StandBy h.bigblocks h'.append m (with_refs refs (states_of b))) maps_are
      (admitted.stand (with_refs refs (states_of b)) held.stand))

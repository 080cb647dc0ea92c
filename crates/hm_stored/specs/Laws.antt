-- What the members of a space, and of the store over it, have to do with each other.
use Rattle.std.specs.Prelude.{Bool, true, false, ℕ, ◌&&◌, List, Option, Some, None, if◌then◌else◌, is_some, map, option_map, IfSome}
use Rattle.std.proofs.Common.{◌≡◌, ◌∙◌, ap, refl, sym, true≢false}
use Rattle.std.proofs.Math.Logic.{∥∥₁_elim}
use Rattle.hm_types.specs.References.{Reference}
use Rattle.hm_fields.specs.Pages.{PageMap}
use Rattle.hm_key.specs.Extents.{AreExtents, Extent}
use Rattle.hm_key.specs.Props.{AreExtents-prop}
use Rattle.hm_btree.specs.Tree.{told_elements}
use Rattle.hm_stored.specs.Basis.{nodes}
use Rattle.hm_stored.specs.Heap.{Heap, Rest, basis_with, bytes_of, content_with, does_tell, extents_in, free_of, places_in, rest_of, room_of}
use Rattle.hm_stored.specs.Held.{HeldBy, IsKept}
use Rattle.hm_stored.specs.Log.{filled}
use Rattle.hm_stored.specs.Told.{elements_told}

pub rests : (h k : Heap) → rest_of k ≡ rest_of h → (room_of k ≡ room_of h) × (free_of k ≡ free_of h) × (extents_in k ≡ extents_in h)
rests h k same = (ap (λ (r : Rest). r.room) same, ap (λ (r : Rest). r.free) same, ap (λ (r : Rest). r.extents) same)

-- told extents are live, disjoint and in the order of their places
module _ (h : Heap) where
  abbrev filled_places : List Extent
  filled_places = map (filled (bytes_of h.disk)) (places_in h)

  live_begun : does_tell h ≡ true → (o : Option PageMap) → h.pages.begin ≡ o
      → IfSome o (λ begin. (refs : List Reference) × HeldBy h (basis_with h begin) refs) → AreExtents filled_places
  live_begun told None none is =
      let silent = ap (λ (o : Option PageMap). h.whole && is_some (content_with h.last (option_map (basis_with h) o) h.disk)) none in
      absurd (true≢false (sym told ∙ silent ∙ by_whole h.whole)) where
        by_whole : (t : Bool) → (t && false) ≡ false
        by_whole true = refl
        by_whole false = refl
  live_begun told (Some begin) there is = is.1.extents

  pub live_told : ∥ IsKept h ∥₁ → IfSome (extents_in h) AreExtents
  live_told kept = by_test (does_tell h) refl where
    by_test : (t : Bool) → does_tell h ≡ t → IfSome (if t then Some filled_places else None) AreExtents
    by_test false none = tt
    by_test true told = ∥∥₁_elim kept (AreExtents-prop filled_places) (λ k. live_begun told h.pages.begin refl (k.held told))

-- extents are told exactly where elements are
pub told_together : (h : Heap) (root : ℕ) → is_some (extents_in h) ≡ is_some (elements_told h root)
told_together h root = by_test (does_tell h) where
  by_test : (t : Bool) → is_some (if t then Some (map (filled (bytes_of h.disk)) (places_in h)) else None)
      ≡ is_some (told_elements true (if t then Some (nodes h.pages.current) else None) root)
  by_test true = refl
  by_test false = refl

-- A space over a disk that tells nothing tells nothing.
use Rattle.std.proofs.Common.{◌≡◌, Bool, true, false, List, Option, Some, None, refl, sym, ap, subst, ◌∙◌, cond, is_some, map, ℕ}
use Rattle.std.specs.Prelude.{IfSome, option_map, ◌&&◌}
use Rattle.hm_types.specs.Elements.{FullElement}
use Rattle.hm_fields.specs.Pages.{PageMap}
use Rattle.hm_key.specs.Extents.{Extent}
use Rattle.hm_key.specs.declared.element.Element.{Element}
use Rattle.hm_pages.specs.Store.{Store}
use Rattle.hm_btree.specs.Tree.{told_elements}
use Rattle.hm_stored.specs.Basis.{nodes}
use Rattle.hm_stored.specs.Heap.{Heap, basis_with, bytes_of, content_with, does_tell, extents_in, heap_of, places_in}
use Rattle.hm_stored.specs.Log.{filled}
use Rattle.hm_stored.specs.Told.{elements_told}
use Rattle.hm_stored.specs.declared.books.Books.{Books}

module _ (store : Store) (books : Books) where
  abbrev h : Heap
  h = heap_of store None books

  untold : does_tell h ≡ false
  unfolding heap_of
  untold = ap (λ (o : Option (List FullElement)). books.whole && is_some o) (none store.begin) ∙ by_whole books.whole where
    none : (o : Option PageMap) → content_with h.last (option_map (basis_with h) o) None ≡ None
    none None = refl
    none (Some begin) = refl

    by_whole : (t : Bool) → (t && false) ≡ false
    by_whole true = refl
    by_whole false = refl

  pub untold_elements : (root : ℕ) (P : List Element → Type 0) → IfSome (elements_told h root) P
  untold_elements root P =
      subst (λ (t : Bool). IfSome (told_elements true (cond t (Some (nodes h.pages.current)) None) root) P) (sym untold) tt

  pub untold_extents : (P : List Extent → Type 0) → IfSome (extents_in h) P
  untold_extents P = subst (λ (t : Bool). IfSome (cond t (Some (map (filled (bytes_of h.disk)) (places_in h))) None) P) (sym untold) tt

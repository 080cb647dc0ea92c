-- The lists that a space tells, and the content by which it tells.
use Rattle.std.proofs.Common.{◌≡◌, Bool, true, false, ℕ, List, map, Option, Some, None, refl, sym, ap, subst, ◌∙◌, cond}
use Rattle.std.specs.Prelude.{IfSome, IsTrue, ◌&&◌}
use Rattle.hm_types.specs.Elements.{FullElement}
use Rattle.hm_btree.specs.Tree.{told_elements}
use Rattle.hm_key.specs.Balance.{content_of}
use Rattle.hm_key.specs.Extents.{Extent}
use Rattle.hm_key.specs.declared.element.Element.{Element}
use Rattle.hm_search.specs.Tree.{elements_of}
use Rattle.hm_stored.specs.Basis.{Basis, IsFirm, fulls_in, nodes}
use Rattle.hm_stored.specs.Content.{OfLists}
use Rattle.hm_stored.specs.DecideFirm.{from_firm, is_firm, to_firm}
use Rattle.hm_stored.specs.Heap.{Heap, bytes_of, content_by, does_tell, extents_in, pages_of, places_in}
use Rattle.hm_stored.specs.Known.{is_known}
use Rattle.hm_stored.specs.Log.{filled}

-- the extents of a space with their bytes
abbrev pub live_in : Heap → List Extent
live_in h = map (filled (bytes_of h.disk)) (places_in h)

-- the elements of its tree from a root on
abbrev pub elements_at : Heap → ℕ → List Element
elements_at h root = elements_of (nodes h.pages.current) root

told_lists : (h : Heap) (root : ℕ) (t : Bool) → does_tell h ≡ t
    → content_of (told_elements true (pages_of h) root) (extents_in h) ≡ cond t (Some (elements_at h root, live_in h)) None
told_lists h root t told =
    ap (λ (t : Bool). content_of (told_elements true (cond t (Some (nodes h.pages.current)) None) root) (cond t (Some (live_in h)) None)) told ∙ by_test t where
      by_test : (t : Bool) → content_of (told_elements true (cond t (Some (nodes h.pages.current)) None) root) (cond t (Some (live_in h)) None)
          ≡ cond t (Some (elements_at h root, live_in h)) None
      by_test true = refl
      by_test false = refl

-- a fact of both lists, where the space tells
pub of_lists : (h : Heap) (root : ℕ) (P : List Element → List Extent → Type 0) → (IsTrue (does_tell h) → P (elements_at h root) (live_in h)) → OfLists h root P
of_lists h root P is = by_test (does_tell h) refl where
  by_test : (t : Bool) → does_tell h ≡ t → OfLists h root P
  by_test true told = subst (λ (o : Option (List Element × List Extent)). IfSome o (λ lists. P lists.0 lists.1)) (sym (told_lists h root true told)) (is told)
  by_test false told = subst (λ (o : Option (List Element × List Extent)). IfSome o (λ lists. P lists.0 lists.1)) (sym (told_lists h root false told)) tt

-- the content of a state whose books are in order and whose ids are known
pub content_found : (last : ℕ) (b : Basis) (bytes : List ℕ) (es : List FullElement) → IsFirm b → is_known last es ≡ true → fulls_in b bytes ≡ es
    → content_by last b bytes ≡ Some es
unfolding content_by
content_found last b bytes es firm known same =
    ap (λ (t : Bool). cond (t && is_known last (fulls_in b bytes)) (Some (fulls_in b bytes)) None) (to_firm b firm)
    ∙ (ap (λ (fs : List FullElement). cond (is_known last fs) (Some fs) None) same ∙ ap (λ (t : Bool). cond t (Some es) None) known)

-- where there is a content, the books are in order
pub content_firm : (last : ℕ) (b : Basis) (bytes : List ℕ) (es : List FullElement) → content_by last b bytes ≡ Some es → IsFirm b × (fulls_in b bytes ≡ es)
unfolding content_by
content_firm last b bytes es told = by_tests (is_firm b) (is_known last (fulls_in b bytes)) refl told where
  by_tests : (f k : Bool) → is_firm b ≡ f → cond (f && k) (Some (fulls_in b bytes)) None ≡ Some es → IsFirm b × (fulls_in b bytes ≡ es)
  by_tests true true firm told = (from_firm b firm, cc)
  by_tests true false firm told = absurd (cc)
  by_tests false k firm told = absurd (cc)

-- and the ids are known
pub content_known : (last : ℕ) (b : Basis) (bytes : List ℕ) (es : List FullElement) → content_by last b bytes ≡ Some es → is_known last es ≡ true
unfolding content_by
content_known last b bytes es told = by_tests (is_firm b) (is_known last (fulls_in b bytes)) refl told where
  by_tests : (f k : Bool) → is_known last (fulls_in b bytes) ≡ k → cond (f && k) (Some (fulls_in b bytes)) None ≡ Some es → is_known last es ≡ true
  by_tests true true known told = let same : fulls_in b bytes ≡ es = cc in sym (ap (is_known last) same) ∙ known
  by_tests true false known told = absurd (cc)
  by_tests false k known told = absurd (cc)

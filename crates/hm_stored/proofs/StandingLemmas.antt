-- What a volume holds is told as a call is opened, and is held again where that is dropped.
use Rattle.std.proofs.Common.{◌≡◌, Bool, true, false, true≢false, ℕ, ◌*◌, ◌≤◌, List, Option, Some, None, refl, sym, ap, subst, ◌∙◌, cond, is_some}
use Rattle.std.proofs.Common.{length, map}
use Rattle.std.specs.Prelude.{IfSome, IsSomeAnd, IsTrue, option_map, ◌&&◌}
use Rattle.hm_types.specs.Elements.{FullElement}
use Rattle.hm_types.specs.declared.limits.TheConstants.{BIGBLOCK_BYTES}
use Rattle.hm_disk.specs.Crash.{Told}
use Rattle.hm_fields.specs.Pages.{PageMap}
use Rattle.hm_key.specs.Balance.{IsBalanced, content_of, full_elements}
use Rattle.hm_key.specs.Extents.{Extent}
use Rattle.hm_key.specs.declared.element.Element.{Element}
use Rattle.hm_search.specs.Tree.{elements_of}
use Rattle.hm_btree.specs.Tree.{IsTreeSpace, told_elements}
use Rattle.hm_image.specs.Extents as image
use Rattle.hm_image.proofs.ExtentsOfLemmas.{placed_balanced, placed_payloads}
use Rattle.hm_stored.specs.Basis.{Basis, IsFirm, elements_in, fulls_in, nodes}
use Rattle.hm_stored.specs.DecideFirm.{from_firm, is_firm, to_firm}
use Rattle.hm_stored.specs.Heap.{Heap, basis_with, bytes_of, content_by, begun_content, content_with, does_tell, elements_with, extents_in, pages_of, places_in}
use Rattle.hm_stored.specs.Known.{AreKnown, is_known}
use Rattle.hm_stored.specs.Log.{after_changes, filled, places_of}
use Rattle.hm_stored.specs.Standing.{Holds, HoldsBy, basis_now}
use Rattle.hm_stored.specs.Told.{Tells, elements_told}
use Rattle.hm_stored.specs.Turn.{IsClosed, IsDropped, IsOpened}
use Rattle.hm_stored.specs.declared.roots.Roots.{Roots}
use Rattle.hm_stored.proofs.BeginLemmas.{firm_places, image_extents}
use Rattle.hm_stored.proofs.CauseLemmas.{tells_parts}
use Rattle.hm_stored.proofs.KnownLemmas.{known_from_each}

-- a state whose books are in order and whose ids are known tells its elements
pub content_firm : (last : ℕ) (b : Basis) (bytes : List ℕ) → IsFirm b → IsTrue (is_known last (fulls_in b bytes))
    → content_by last b bytes ≡ Some (fulls_in b bytes)
unfolding content_by
content_firm last b bytes firm known = by_tests (is_firm b) (is_known last (fulls_in b bytes)) (to_firm b firm) known where
  by_tests : (s t : Bool) → s ≡ true → t ≡ true → cond (s && t) (Some (fulls_in b bytes)) None ≡ Some (fulls_in b bytes)
  by_tests true true first second = refl
  by_tests true false first second = absurd (true≢false (sym second))
  by_tests false t first second = absurd (true≢false (sym first))

-- and what such a state tells is what it holds
pub firm_content : (last : ℕ) (b : Basis) (bytes : List ℕ) → IfSome (content_by last b bytes) (λ es. IsFirm b × (fulls_in b bytes ≡ es))
unfolding content_by
firm_content last b bytes = by_tests (is_firm b) (is_known last (fulls_in b bytes)) (from_firm b) where
  by_tests : (s t : Bool) → (s ≡ true → IsFirm b) → IfSome (cond (s && t) (Some (fulls_in b bytes)) None) (λ es. IsFirm b × (fulls_in b bytes ≡ es))
  by_tests true true firm = (firm refl, refl)
  by_tests true false firm = tt
  by_tests false t firm = tt

-- A call that is dropped.
module _ (old new : Heap) (dropped : IsDropped old new) where
  -- the state that it began with is the one that there is now
  same_basis : (begin : PageMap) → old.pages.begin ≡ Some begin → basis_with old begin ≡ basis_now new old.roots.current
  same_basis begin opened =
      by_parts new.bigblocks new.append new.pages.committed new.pages.frozen new.pages.current new.roots
      (ap (λ (h : Heap). h.bigblocks) dropped.rest) (ap (λ (h : Heap). h.append) dropped.rest) dropped.pages.flush.committed dropped.pages.flush.frozen
      current (ap (λ (h : Heap). h.roots) dropped.rest) where
        some_same : (m n : PageMap) → Some m ≡ Some n → m ≡ n
        some_same m n same = cc

        current : new.pages.current ≡ begin
        current = some_same new.pages.current begin (dropped.pages.current ∙ opened)

        by_parts : (n : ℕ) (a : List ℕ) (c f u : PageMap) (r : Roots) → n ≡ old.bigblocks → a ≡ old.begun → c ≡ old.pages.committed
            → f ≡ old.pages.frozen → u ≡ begin → r ≡ old.roots
            → basis_with old begin ≡ record {
              bigblocks = n;
              append = a;
              maps = record { committed = c; frozen = f; current = u };
              roots = record r { current = old.roots.current };
            }
        by_parts n a c f u r first second third fourth fifth sixth = rw (first, second, third, fourth, fifth, sixth) refl

  pub dropped_held : (root : ℕ) → root ≡ old.roots.current → IfSome (begun_content old) (Holds new root)
  dropped_held root is = by_begin old.pages.begin refl where
    by_disk : (begin : PageMap) → old.pages.begin ≡ Some begin → (d : Option Told) → old.disk ≡ d
        → IfSome (content_with old.last (Some (basis_with old begin)) d) (Holds new root)
    by_disk begin opened None none = tt
    by_disk begin opened (Some t) told =
        by_content (content_by old.last (basis_with old begin) t.bytes) (firm_content old.last (basis_with old begin) t.bytes) where
          same : basis_with old begin ≡ basis_now new root
          same = same_basis begin opened ∙ ap (basis_now new) (sym is)

          disk : new.disk ≡ Some t
          disk = ap (λ (h : Heap). h.disk) dropped.rest ∙ told

          by_content : (o : Option (List FullElement)) → IfSome o (λ es. IsFirm (basis_with old begin) × (fulls_in (basis_with old begin) t.bytes ≡ es))
              → IfSome o (Holds new root)
          by_content None held = tt
          by_content (Some es) held =
              subst (λ (o : Option Told). IsSomeAnd o (λ t. HoldsBy new root t.bytes es)) (sym disk)
              (record {
                firm = subst IsFirm same held.0;
                elements = ap (λ (b : Basis). fulls_in b t.bytes) (sym same) ∙ held.1;
              })

    by_begin : (o : Option PageMap) → old.pages.begin ≡ o → IfSome (content_with old.last (option_map (basis_with old) o) old.disk) (Holds new root)
    by_begin None none = tt
    by_begin (Some begin) opened = by_disk begin opened old.disk refl

-- both lists, where a test says that they are told
both_lists : (t : Bool) (pages : PageMap) (root : ℕ) (xs : List Extent) → t ≡ true
    → content_of (told_elements true (cond t (Some pages) None) root) (cond t (Some xs) None) ≡ Some (elements_of pages root, xs)
both_lists true pages root xs told = refl
both_lists false pages root xs told = absurd (true≢false (sym told))

-- A call that is opened.
module _ (old new : Heap) (root last : ℕ) (closed : IsClosed old) (opened : IsOpened root last old new) where
  abbrev b : Basis
  b = basis_now old root

  begun_basis : basis_with new old.pages.current ≡ b
  begun_basis =
      by_parts new.bigblocks new.begun new.pages.committed new.pages.frozen new.roots (ap (λ (h : Heap). h.bigblocks) opened.rest)
      (ap (λ (h : Heap). h.begun) opened.rest) opened.pages.flush.committed opened.pages.flush.frozen (ap (λ (h : Heap). h.roots) opened.rest) where
        by_parts : (n : ℕ) (a : List ℕ) (c f : PageMap) (r : Roots) → n ≡ old.bigblocks → a ≡ old.append → c ≡ old.pages.committed
            → f ≡ old.pages.frozen → r ≡ record old.roots { current = root }
            → record { bigblocks = n; append = a; maps = record { committed = c; frozen = f; current = old.pages.current }; roots = r } ≡ b
        by_parts n a c f r first second third fourth fifth = rw (first, second, third, fourth, fifth) refl

  basis_is : option_map (basis_with new) new.pages.begin ≡ Some b
  basis_is = ap (option_map (basis_with new)) opened.pages.begin ∙ ap Some begun_basis

  disk_is : new.disk ≡ old.disk
  disk_is = ap (λ (h : Heap). h.disk) opened.rest

  places_are : places_in new ≡ places_of (elements_in b)
  unfolding after_changes places_of
  places_are = ap (λ l. after_changes l (places_of (elements_with (option_map (basis_with new) new.pages.begin)))) (ap (λ (h : Heap). h.log) opened.rest)
      ∙ ap (λ (o : Option Basis). places_of (elements_with o)) basis_is

  module _ (t : Told) (told : old.disk ≡ Some t) (room : b.bigblocks * BIGBLOCK_BYTES ≤ length t.bytes) (es : List FullElement)
      (held : HoldsBy old root t.bytes es) (known : AreKnown last es) where
    have : image.HavePlaces t.bytes b.bigblocks (elements_in b)
    have = firm_places b t.bytes room held.firm

    begun_is : begun_content new ≡ Some es
    begun_is =
        ap (λ (o : Option Basis). content_with new.last o new.disk) basis_is
        ∙ (ap (λ (d : Option Told). content_with new.last (Some b) d) (disk_is ∙ told)
        ∙ (ap (λ (n : ℕ). content_by n b t.bytes) (ap (λ (h : Heap). h.last) opened.rest)
        ∙ (content_firm last b t.bytes held.firm (known_from_each last (fulls_in b t.bytes) (subst (AreKnown last) (sym held.elements) known))
        ∙ ap Some held.elements)))

    tells : does_tell new ≡ true
    tells = both new.whole (is_some (begun_content new)) (ap (λ (h : Heap). h.whole) opened.rest ∙ closed.whole)
        (ap (λ (o : Option (List FullElement)). is_some o) begun_is) where
          both : (s t : Bool) → s ≡ true → t ≡ true → (s && t) ≡ true
          both s t first second = rw (first, second) refl

    extents_are : map (filled (bytes_of new.disk)) (places_in new) ≡ image.extents_of t.bytes (elements_in b)
    extents_are =
        ap (λ (xs : List Extent). map (filled (bytes_of new.disk)) xs) places_are
        ∙ (ap (λ (o : Option Told). map (filled (bytes_of o)) (places_of (elements_in b))) (disk_is ∙ told)
        ∙ image_extents t.bytes (elements_in b))

    lists_are : content_of (elements_told new root) (extents_in new) ≡ Some (elements_in b, image.extents_of t.bytes (elements_in b))
    lists_are =
        both_lists (does_tell new) (nodes new.pages.current) root (map (filled (bytes_of new.disk)) (places_in new)) tells
        ∙ (ap (λ (m : PageMap). Some (elements_of (nodes m) root, map (filled (bytes_of new.disk)) (places_in new))) opened.pages.current
        ∙ ap (λ (xs : List Extent). Some (elements_in b, xs)) extents_are)

    pub tells_held : Tells new root es
    tells_held = record {
      lists = subst (λ (o : Option (List Element × List Extent)). IsSomeAnd o (λ lists. IsBalanced lists.0 lists.1 × (full_elements lists.0 lists.1 ≡ es)))
          (sym lists_are)
          (placed_balanced t.bytes b.bigblocks (elements_in b) have, placed_payloads t.bytes b.bigblocks (elements_in b) have ∙ held.elements);
      begun = begun_is;
    }

  -- what was held is told
  pub opened_tells : IfSome old.disk (λ (t : Told). old.bigblocks * BIGBLOCK_BYTES ≤ length t.bytes) → (es : List FullElement)
      → Holds old root es → AreKnown last es → Tells new root es
  opened_tells size es held known = by_disk old.disk refl size held where
    by_disk : (d : Option Told) → old.disk ≡ d → IfSome d (λ (t : Told). old.bigblocks * BIGBLOCK_BYTES ≤ length t.bytes)
        → IsSomeAnd d (λ t. HoldsBy old root t.bytes es) → Tells new root es
    by_disk None none room is = absurd is
    by_disk (Some t) told room is = tells_held t told room es is known

  -- and where the space tells, its nodes are the tree
  pub opened_tree : IfSome (pages_of new) (λ pages. IsTreeSpace pages root)
  opened_tree = by_test (does_tell new) refl where
    firm_told : (d : Option Told) → is_some (content_with new.last (Some b) d) ≡ true → IsFirm b
    firm_told None none = absurd (true≢false (sym none))
    firm_told (Some t) is = by_content (content_by new.last b t.bytes) (firm_content new.last b t.bytes) is where
      by_content : (o : Option (List FullElement)) → IfSome o (λ es. IsFirm b × (fulls_in b t.bytes ≡ es)) → is_some o ≡ true → IsFirm b
      by_content None is none = absurd (true≢false (sym none))
      by_content (Some es) is some = is.0

    by_test : (t : Bool) → does_tell new ≡ t → IfSome (cond t (Some (nodes new.pages.current)) None) (λ pages. IsTreeSpace pages root)
    by_test false none = tt
    by_test true told =
        subst (λ (m : PageMap). IsTreeSpace (nodes m) root) (sym opened.pages.current)
        (firm_told new.disk (sym (ap (λ (o : Option Basis). is_some (content_with new.last o new.disk)) basis_is) ∙ (tells_parts new told).1)).tree

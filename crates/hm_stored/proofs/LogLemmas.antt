-- The list of extents as one change more was noted, and the content of a space whose disk changed beside it.
use Rattle.std.proofs.Common.{◌≡◌, ℕ, List, [], ◌∷◌, ◌++◌, map, Some, None, refl, ap, ◌∙◌, arith, cond}
use Rattle.std.specs.Prelude.{All, ◌&&◌}
use Rattle.std.proofs.lemmas.List.Elements.{All-head, All-tail}
use Rattle.hm_types.specs.Elements.{FullElement}
use Rattle.hm_types.specs.Space.{rounded}
use Rattle.hm_types.specs.Offset.{byte_of}
use Rattle.hm_disk.specs.Crash.{MayLeave}
use Rattle.hm_key.specs.Extents.{Extent}
use Rattle.hm_key.specs.declared.element.Element.{Element}
use Rattle.hm_freemap.specs.Extents.{IsApart, reference}
use Rattle.hm_freemap.proofs.ListLemmas.{all_right}
use Rattle.hm_image.specs.Image.{full_of, to_payload}
use Rattle.hm_image.specs.Referred.{nodes_of}
use Rattle.hm_stored.specs.Basis.{Basis, elements_in, nodes, states_of}
use Rattle.hm_stored.specs.DecideFirm.{is_firm}
use Rattle.hm_stored.specs.Heap.{content_by}
use Rattle.hm_stored.specs.Known.{is_known}
use Rattle.hm_stored.specs.Log.{after_change, after_changes}
use Rattle.hm_stored.specs.declared.change.Change.{Change}
use Rattle.hm_stored.proofs.ApartLemmas.{bytes_kept}

-- the last change comes after all others
pub changes_more : (c : Change) (cs : List Change) (xs : List Extent) → after_changes (cs ++ c ∷ []) xs ≡ after_change c (after_changes cs xs)
unfolding after_changes
changes_more c [] xs = refl
changes_more c (d ∷ cs) xs = changes_more c cs (after_change d xs)

-- elements whose payloads stand apart from what changed have the same payloads
fulls_kept : (old new : List ℕ) (at len : ℕ) (es : List Element) → MayLeave old ((byte_of at, rounded len) ∷ []) new
    → All (IsApart (reference at len)) (map to_payload es) → map (full_of new) es ≡ map (full_of old) es
fulls_kept old new at len [] change apart = refl
fulls_kept old new at len (e ∷ es) change apart =
    let bytes = bytes_kept old new at len (to_payload e) e.len (omega arith) change (All-head (IsApart (reference at len)) (to_payload e)
    (map to_payload es) apart) in
    let rest = fulls_kept old new at len es change (All-tail (IsApart (reference at len)) (to_payload e) (map to_payload es) apart) in
    ap (λ (b : List ℕ). record (full_of old e) { bytes = b } ∷ map (full_of new) es) bytes ∙ ap (λ (l : List FullElement). full_of old e ∷ l) rest

-- so a state has the same content, where all that its current tree refers to stands apart
pub content_kept : (last : ℕ) (b : Basis) (old new : List ℕ) (at len : ℕ) → MayLeave old ((byte_of at, rounded len) ∷ []) new
    → All (IsApart (reference at len)) (states_of b).current → content_by last b new ≡ content_by last b old
unfolding content_by
content_kept last b old new at len change apart =
    ap (λ (fs : List FullElement). cond (is_firm b && is_known last fs) (Some fs) None)
    (fulls_kept old new at len (elements_in b) change (all_right (IsApart (reference at len)) (nodes_of (nodes b.maps.current) b.roots.current)
    (map to_payload (elements_in b)) apart))

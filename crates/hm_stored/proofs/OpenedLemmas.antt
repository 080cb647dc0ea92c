-- What a space held is told as a call is opened.
use Rattle.std.proofs.Common.{◌≡◌, true, true≢false, ℕ, ◌*◌, ◌≤◌, List, [], length, map, Option, Some, None, refl, sym, ap, subst, ◌∙◌, is_some}
use Rattle.std.specs.Prelude.{IfSome, IsSomeAnd, IsTrue, option_map, ◌&&◌}
use Rattle.hm_types.specs.Elements.{FullElement}
use Rattle.hm_types.specs.declared.limits.TheConstants.{BIGBLOCK_BYTES}
use Rattle.hm_disk.specs.Crash.{Told}
use Rattle.hm_fields.specs.Pages.{PageMap}
use Rattle.hm_image.specs.Extents as image
use Rattle.hm_image.proofs.ExtentsOfLemmas.{placed_balanced, placed_payloads}
use Rattle.hm_key.specs.Balance.{IsBalanced, full_elements}
use Rattle.hm_stored.specs.Basis.{Basis, IsFirm, elements_in, fulls_in}
use Rattle.hm_stored.specs.Content.{HaveContent, OpensContent, TellsContent}
use Rattle.hm_stored.specs.Heap.{Heap, basis_with, bytes_of, content_by, begun_content, content_with, does_tell, places_in}
use Rattle.hm_stored.specs.Held.{IsKept}
use Rattle.hm_stored.specs.Known.{is_known}
use Rattle.hm_stored.specs.Log.{filled}
use Rattle.hm_stored.specs.Standing.{Holds, HoldsBy, basis_now}
use Rattle.hm_stored.specs.Turn.{IsClosed, IsOpened}
use Rattle.hm_stored.specs.declared.roots.Roots.{Roots}
use Rattle.hm_stored.proofs.BeginLemmas.{firm_places, image_extents}
use Rattle.hm_stored.proofs.CauseLemmas.{tells_parts}
use Rattle.hm_stored.proofs.PutCallLemmas.{sized_kept}
use Rattle.hm_stored.proofs.ToldLemmas.{content_firm, content_found, content_known, elements_at, live_in, of_lists}
use Rattle.hm_stored.proofs.TurnLemmas.{IsSized, places_are}

-- a call was opened, over a state whose books are in order
module _ (h : Heap) (t : Told) (es : List FullElement) (whole : h.whole ≡ true) (begin : h.pages.begin ≡ Some h.pages.current) (append : h.begun ≡ h.append)
    (log : h.log ≡ []) (size : IsSized h) (disk : h.disk ≡ Some t) (firm : IsFirm (basis_with h h.pages.current)) (known : is_known h.last es ≡ true)
    (elements : fulls_in (basis_with h h.pages.current) t.bytes ≡ es) where
  abbrev b : Basis
  b = basis_with h h.pages.current

  content : begun_content h ≡ Some es
  content =
      ap (λ (o : Option PageMap). content_with h.last (option_map (basis_with h) o) h.disk) begin
      ∙ (ap (content_with h.last (Some b)) disk ∙ content_found h.last b t.bytes es firm known elements)

  tells : does_tell h ≡ true
  tells = ap (λ (o : Option (List FullElement)). h.whole && is_some o) content ∙ ap (λ w. w && true) whole

  have : image.HavePlaces t.bytes h.bigblocks (elements_in b)
  have = firm_places b t.bytes (subst (λ (o : Option Told). IfSome o (λ (t : Told). h.bigblocks * BIGBLOCK_BYTES ≤ length t.bytes)) disk size) firm

  extents : live_in h ≡ image.extents_of t.bytes (elements_in b)
  extents =
      ap (λ (o : Option Told). map (filled (bytes_of o)) (places_in h)) disk
      ∙ (ap (map (filled t.bytes)) (places_are h begin append log size) ∙ image_extents t.bytes (elements_in b))

  have_content : HaveContent es (elements_at h h.roots.current) (live_in h)
  have_content = record {
    balanced = subst (IsBalanced (elements_in b)) (sym extents) (placed_balanced t.bytes h.bigblocks (elements_in b) have);
    fulls = ap (full_elements (elements_in b)) extents ∙ (placed_payloads t.bytes h.bigblocks (elements_in b) have ∙ elements);
  }

  tells_content : TellsContent h h.roots.current es
  tells_content = record {
    content = content;
    tells = tells;
    tree = firm.tree;
    lists = of_lists h h.roots.current (HaveContent es) (λ told. have_content);
  }

-- so it is of what a space held
module _ (h h' : Heap) (root last : ℕ) (closed : IsClosed h) (kept : ∥ IsKept h ∥₁) (opens : IsOpened root last h h') where
  basis_is : basis_with h' h'.pages.current ≡ basis_now h root
  basis_is =
      by_parts h'.bigblocks h'.begun h'.pages.committed h'.pages.frozen h'.pages.current h'.roots (ap (λ (x : Heap). x.bigblocks) opens.rest)
      (ap (λ (x : Heap). x.begun) opens.rest) opens.pages.flush.committed opens.pages.flush.frozen opens.pages.current
      (ap (λ (x : Heap). x.roots) opens.rest) where
        by_parts : (n : ℕ) (a : List ℕ) (c f u : PageMap) (r : Roots) → n ≡ h.bigblocks → a ≡ h.append → c ≡ h.pages.committed → f ≡ h.pages.frozen
            → u ≡ h.pages.current → r ≡ record h.roots { current = root }
            → record { bigblocks = n; append = a; maps = record { committed = c; frozen = f; current = u }; roots = r } ≡ basis_now h root
        by_parts n a c f u r first second third fourth fifth sixth = rw (first, second, third, fourth, fifth, sixth) refl

  disk_is : h'.disk ≡ h.disk
  disk_is = ap (λ (x : Heap). x.disk) opens.rest

  append_is : h'.begun ≡ h'.append
  append_is = ap (λ (x : Heap). x.begun) opens.rest ∙ sym (ap (λ (x : Heap). x.append) opens.rest)

  size_is : IsSized h'
  size_is =
      subst (λ (n : ℕ). IfSome h'.disk (λ (t : Told). n * BIGBLOCK_BYTES ≤ length t.bytes)) (sym (ap (λ (x : Heap). x.bigblocks) opens.rest))
      (subst (λ (o : Option Told). IfSome o (λ (t : Told). h.bigblocks * BIGBLOCK_BYTES ≤ length t.bytes)) (sym disk_is) (sized_kept h kept))

  pub opens_content : OpensContent root last h h'
  opens_content es holds known = by_disk h.disk refl holds where
    by_disk : (o : Option Told) → h.disk ≡ o → IsSomeAnd o (λ t. HoldsBy h root t.bytes es) → TellsContent h' root es
    by_disk None is holds = absurd holds
    by_disk (Some t) is holds =
        subst (λ (n : ℕ). TellsContent h' n es) (ap (λ (x : Heap). x.roots.current) opens.rest)
        (tells_content h' t es (ap (λ (x : Heap). x.whole) opens.rest ∙ closed.whole) (opens.pages.begin ∙ ap Some (sym opens.pages.current)) append_is
        (ap (λ (x : Heap). x.log) opens.rest) size_is (disk_is ∙ is) (subst IsFirm (sym basis_is) holds.firm)
        (ap (λ (n : ℕ). is_known n es) (ap (λ (x : Heap). x.last) opens.rest) ∙ known)
        (ap (λ (b : Basis). fulls_in b t.bytes) basis_is ∙ holds.elements))

  -- and what is told was held
  pub told_held : IsTrue (does_tell h') → (es : List FullElement) × Holds h root es × IsTrue (is_known last es)
  told_held told = by_disk h.disk refl (sym (ap (λ (o : Option (List FullElement)). is_some o) content_is) ∙ (tells_parts h' told).1) where
    basis_at : option_map (basis_with h') h'.pages.begin ≡ Some (basis_now h root)
    basis_at = ap (option_map (basis_with h')) (opens.pages.begin ∙ ap Some (sym opens.pages.current)) ∙ ap Some basis_is

    content_is : begun_content h' ≡ content_with last (Some (basis_now h root)) h.disk
    content_is =
        ap (λ (o : Option Basis). content_with h'.last o h'.disk) basis_at
        ∙ (ap (content_with h'.last (Some (basis_now h root))) disk_is
        ∙ ap (λ (n : ℕ). content_with n (Some (basis_now h root)) h.disk) (ap (λ (x : Heap). x.last) opens.rest))

    by_content : (t : Told) → h.disk ≡ Some t → (o : Option (List FullElement)) → content_by last (basis_now h root) t.bytes ≡ o → is_some o ≡ true
        → (es : List FullElement) × Holds h root es × IsTrue (is_known last es)
    by_content t is None found some = absurd (true≢false (sym some))
    by_content t is (Some es) found some =
        let firm = content_firm last (basis_now h root) t.bytes es found in (
          es,
          subst (λ (o : Option Told). IsSomeAnd o (λ t. HoldsBy h root t.bytes es)) (sym is) (record { firm = firm.0; elements = firm.1 }),
          content_known last (basis_now h root) t.bytes es found,
        )

    by_disk : (o : Option Told) → h.disk ≡ o → is_some (content_with last (Some (basis_now h root)) o) ≡ true
        → (es : List FullElement) × Holds h root es × IsTrue (is_known last es)
    by_disk None is some = absurd (true≢false (sym some))
    by_disk (Some t) is some = by_content t is (content_by last (basis_now h root) t.bytes) refl some

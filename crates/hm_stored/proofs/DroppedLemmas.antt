-- What a call told of the content at its beginning is held once it was dropped.
use Rattle.std.proofs.Common.{◌≡◌, ℕ, List, Option, Some, None, refl, sym, ap, subst, ◌∙◌}
use Rattle.std.specs.Prelude.{IfSome, IsSomeAnd, option_map}
use Rattle.hm_types.specs.Elements.{FullElement}
use Rattle.hm_disk.specs.Crash.{Told}
use Rattle.hm_fields.specs.Pages.{PageMap}
use Rattle.hm_stored.specs.Basis.{Basis, IsFirm, fulls_in}
use Rattle.hm_stored.specs.Content.{DropsContent}
use Rattle.hm_stored.specs.Heap.{Heap, basis_with, begun_content, content_with}
use Rattle.hm_stored.specs.Standing.{Holds, HoldsBy, basis_now}
use Rattle.hm_stored.specs.Turn.{IsDropped}
use Rattle.hm_stored.specs.declared.roots.Roots.{Roots}
use Rattle.hm_stored.proofs.ToldLemmas.{content_firm}

module _ (h h' : Heap) (drops : IsDropped h h') where
  -- the state is that of the call's beginning
  basis_is : (begin : PageMap) → h'.pages.current ≡ begin → basis_now h' h.roots.current ≡ basis_with h begin
  basis_is begin same =
      by_parts h'.bigblocks h'.append h'.pages.committed h'.pages.frozen h'.pages.current h'.roots (ap (λ (x : Heap). x.bigblocks) drops.rest)
      (ap (λ (x : Heap). x.append) drops.rest) drops.pages.flush.committed drops.pages.flush.frozen same (ap (λ (x : Heap). x.roots) drops.rest) where
        by_parts : (n : ℕ) (a : List ℕ) (c f u : PageMap) (r : Roots) → n ≡ h.bigblocks → a ≡ h.begun → c ≡ h.pages.committed → f ≡ h.pages.frozen
            → u ≡ begin → r ≡ h.roots
            → record {
              bigblocks = n;
              append = a;
              maps = record { committed = c; frozen = f; current = u };
              roots = record r { current = h.roots.current };
            } ≡ basis_with h begin
        by_parts n a c f u r first second third fourth fifth sixth = rw (first, second, third, fourth, fifth, sixth) refl

  by_content : (es : List FullElement) (o : Option PageMap) (d : Option Told) → Some h'.pages.current ≡ o
      → content_with h.last (option_map (basis_with h) o) d ≡ Some es → IsSomeAnd d (λ t. HoldsBy h' h.roots.current t.bytes es)
  by_content es None d is told = absurd (cc)
  by_content es (Some begin) None is told = absurd (cc)
  by_content es (Some begin) (Some t) is told =
      let firm = content_firm h.last (basis_with h begin) t.bytes es told in
      let same = basis_is begin (cc) in
      record { firm = subst IsFirm (sym same) firm.0; elements = ap (λ (b : Basis). fulls_in b t.bytes) same ∙ firm.1 }

  pub drops_content : DropsContent h h'
  drops_content = by_told (begun_content h) refl where
    by_told : (c : Option (List FullElement)) → begun_content h ≡ c → IfSome c (λ es. Holds h' h.roots.current es)
    by_told None told = tt
    by_told (Some es) told =
        subst (λ (d : Option Told). IsSomeAnd d (λ t. HoldsBy h' h.roots.current t.bytes es)) (sym (ap (λ (x : Heap). x.disk) drops.rest))
        (by_content es h.pages.begin h.disk drops.pages.current told)

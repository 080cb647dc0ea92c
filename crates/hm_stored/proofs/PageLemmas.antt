-- The nodes of a space, read and changed.
use Rattle.std.proofs.Common.{◌≡◌, Bool, true, false, ℕ, ◌^◌, ◌<◌, List, Option, Some, None, Err, refl, sym, ap, subst, ◌∙◌, arith, cond, nat_eq}
use Rattle.std.proofs.Common.{eqb-true, eq-eqb}
use Rattle.std.specs.Prelude.{IfSome, IsTrue, option_map}
use Rattle.std.proofs.Math.Logic.{∥∥₁_elim}
use Rattle.hm_types.specs.Offset.{zone_of}
use Rattle.hm_types.specs.declared.fault.Fault.TheVariants.{Damaged}
use Rattle.hm_types.specs.declared.zone.TheConstants.{TREE_ZONE}
use Rattle.hm_fields.specs.Pages.{HasReadCause, PageMap}
use Rattle.hm_pages.specs.Maps.{set_at}
use Rattle.hm_node.specs.Inner.{IsNodeOffset}
use Rattle.hm_node.specs.Props.{HoldsNode-prop}
use Rattle.hm_node.specs.Shape.{HoldsNode}
use Rattle.hm_stored.specs.Basis.{nodes}
use Rattle.hm_stored.specs.Heap.{Heap, does_tell, pages_of}
use Rattle.hm_stored.specs.Held.{AreNodes, IsKept}
use Rattle.hm_stored.specs.Nodes.{KeepsNodes}

-- a page of the zone of nodes is one
pub node_is : (pages : PageMap) (at : ℕ) → zone_of at ≡ TREE_ZONE → nodes pages at ≡ pages at
node_is pages at tree = ap (λ (t : Bool). cond t (pages at) None) (eq-eqb (zone_of at) TREE_ZONE tree)

-- a node that is told is a page
node_told : (pages : PageMap) (at : ℕ) (P : List ℕ → Type 0) → IfSome (pages at) P → IfSome (nodes pages at) P
node_told pages at P page = by_test (nat_eq (zone_of at) TREE_ZONE) where
  by_test : (t : Bool) → IfSome (cond t (pages at) None) P
  by_test true = page
  by_test false = tt

-- a fact of the told pages, where it is one of the nodes
pub pages_told : (h : Heap) (P : PageMap → Type 0) → P (nodes h.pages.current) → IfSome (pages_of h) P
pages_told h P is = by_test (does_tell h) where
  by_test : (t : Bool) → IfSome (cond t (Some (nodes h.pages.current)) None) P
  by_test true = is
  by_test false = tt

pub read_told : (h : Heap) (at : ℕ) (page : List ℕ) → h.pages.current at ≡ Some page → IfSome (pages_of h) (λ map. IfSome (map at) (λ bytes. page ≡ bytes))
read_told h at page is =
    pages_told h (λ map. IfSome (map at) (λ bytes. page ≡ bytes))
    (node_told h.pages.current at (λ bytes. page ≡ bytes) (subst (λ (o : Option (List ℕ)). IfSome o (λ bytes. page ≡ bytes)) (sym is) refl))

pub read_none : (h : Heap) (at faults : ℕ) → h.pages.current at ≡ None
    → HasReadCause {T = Unit {0}} (pages_of h) at faults faults (Err (Damaged at 1))
read_none h at faults none = record {
  counted = record { never_falls = omega arith; caused = tt };
  here = refl;
  undamaged = pages_told h (λ map. IfSome (map at) (λ _. ⊥))
      (node_told h.pages.current at (λ _. ⊥) (subst (λ (o : Option (List ℕ)). IfSome o (λ _. ⊥)) (sym none) tt));
}

-- each page that is read where a node may stand is one
pub read_kept : (h : Heap) (at : ℕ) (page : List ℕ) → IsTrue h.whole → ∥ IsKept h ∥₁ → h.pages.current at ≡ Some page → KeepsNodes at page
read_kept h at page whole kept is = record { node = λ spot. ∥∥₁_elim kept (HoldsNode-prop page) (λ k. holds spot k) } where
  holds : IsNodeOffset at → IsKept h → HoldsNode page
  holds spot k =
      let there : nodes h.pages.current at ≡ Some page = node_is h.pages.current at spot.zone ∙ is in
      (subst (λ (o : Option (List ℕ)). IfSome o (λ bytes. (at < 2 ^ 64) × (IsNodeOffset at → HoldsNode bytes))) there (k.nodes whole at)).1 spot

-- the same of a page that is looked at where it stands, if one does
module _ {R : Type 0} (now : R → List ℕ) (h : Heap) (at : ℕ) where
  pub looked_told : (found : Option R) → option_map now found ≡ h.pages.current at
      → IfSome found (λ page. IfSome (pages_of h) (λ map. IsNodeOffset at → map at ≡ Some (now page)))
  looked_told None is = tt
  looked_told (Some page) is = pages_told h (λ map. IsNodeOffset at → map at ≡ Some (now page))
      (λ spot. node_is h.pages.current at spot.zone ∙ sym is)

  pub looked_kept : (found : Option R) → option_map now found ≡ h.pages.current at → IsTrue h.whole → ∥ IsKept h ∥₁
      → IfSome found (λ page. KeepsNodes at (now page))
  looked_kept None is whole kept = tt
  looked_kept (Some page) is whole kept = read_kept h at (now page) whole kept (sym is)

-- pages with one more that is a node are nodes still
pub nodes_more : (pages new : PageMap) (at : ℕ) (page : List ℕ) → AreNodes pages → new ≡ set_at at (Some page) pages → at < 2 ^ 64
    → (IsNodeOffset at → HoldsNode page)
    → AreNodes new
nodes_more pages new at page are is low holds other = subst (λ (m : PageMap). IfSome (nodes m other)
    (λ bytes. (other < 2 ^ 64) × (IsNodeOffset other → HoldsNode bytes))) (sym is)
    (by_zone (nat_eq (zone_of other) TREE_ZONE) (nat_eq other at) refl (are other)) where
      by_zone : (z t : Bool) → nat_eq other at ≡ t → IfSome (cond z (pages other) None) (λ bytes. (other < 2 ^ 64) × (IsNodeOffset other → HoldsNode bytes))
          → IfSome (cond z (cond t (Some page) (pages other)) None) (λ bytes. (other < 2 ^ 64) × (IsNodeOffset other → HoldsNode bytes))
      by_zone true true is was =
          let same = eqb-true other at is in
          subst (λ (n : ℕ). (n < 2 ^ 64) × (IsNodeOffset n → HoldsNode page)) (sym same) (low, holds)
      by_zone true false is was = was
      by_zone false t is was = tt

pub nodes_less : (pages new : PageMap) (at : ℕ) → AreNodes pages → new ≡ set_at at None pages → AreNodes new
nodes_less pages new at are is other = subst (λ (m : PageMap). IfSome (nodes m other) (λ bytes. (other < 2 ^ 64) ×
    (IsNodeOffset other → HoldsNode bytes))) (sym is)
    (by_zone (nat_eq (zone_of other) TREE_ZONE) (nat_eq other at) (are other)) where
      by_zone : (z t : Bool) → IfSome (cond z (pages other) None) (λ bytes. (other < 2 ^ 64) × (IsNodeOffset other → HoldsNode bytes))
          → IfSome (cond z (cond t None (pages other)) None) (λ bytes. (other < 2 ^ 64) × (IsNodeOffset other → HoldsNode bytes))
      by_zone true true was = tt
      by_zone true false was = was
      by_zone false t was = tt

-- where nodes stay, they are nodes still
pub nodes_same : (pages new : PageMap) → AreNodes pages → ((at : ℕ) → nodes new at ≡ nodes pages at) → AreNodes new
nodes_same pages new are same at = subst (λ (o : Option (List ℕ)). IfSome o (λ bytes. (at < 2 ^ 64) × (IsNodeOffset at → HoldsNode bytes)))
    (sym (same at)) (are at)

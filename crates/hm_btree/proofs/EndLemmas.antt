-- Elements stand between the boundaries of the whole tree.
use Rattle.std.proofs.Common.{◌≡◌, ℕ, ◌-◌, ◌^◌, ◌<◌, ◌≤◌, inl, inr, refl, arith}
use Rattle.std.specs.Ordering.{nat_cmp, ordering_then}
use Rattle.std.specs.declared.cmp.Ordering.{Ordering}
use Rattle.std.specs.declared.cmp.Ordering.TheVariants.{Less, Equal, Greater}
use Rattle.std.proofs.lemmas.Cmp.{ranked}
use Rattle.std.proofs.lemmas.Bool.{cases_eq}
use Rattle.hm_key.specs.Element.{IsElement, part_of}
use Rattle.hm_key.specs.Elements.{element_key}
use Rattle.hm_key.specs.Key.{least_key}
use Rattle.hm_key.specs.declared.element.Element.{Element}
use Rattle.hm_key.specs.declared.rec_type.TheConstants.{INODE}
use Rattle.hm_key.proofs.KeyLemmas.{key_from_fields}
use Rattle.hm_search.specs.Place.{IsInside}
use Rattle.hm_search.specs.Tree.{root_place}

less_then : (m n : ℕ) (rest : Ordering) → m < n → ordering_then (nat_cmp m n) rest ≡ Less
less_then m n rest less = by_order (nat_cmp m n) refl where
  by_order : (o : Ordering) → nat_cmp m n ≡ o → ordering_then o rest ≡ Less
  by_order Less is = refl
  by_order Equal is = let same : m ≡ n = rw is at (ranked m n (nat_cmp m n) refl) in absurd (omega arith)
  by_order Greater is = let more : n < m = rw is at (ranked m n (nat_cmp m n) refl) in absurd (omega arith)

part_low : (e : Element) → IsElement e → part_of e.base.localization ≤ 2
part_low e is = elim (cases_eq e.base.rec_type INODE) [
  | inl same ↦ omega (arith, is.fits.inode_part same)
  | inr other ↦
      omega (arith, is.fits.other_part other)
]

pub element_inside : (root : ℕ) (e : Element) → IsElement e → e.base.localization < 2 ^ 32 → IsInside (root_place root).left
    (root_place root).right (element_key e)
element_inside root e is wide =
    let low = part_low e is in
    let less : e.base.localization < 2 ^ 32 - 1 = omega arith in
    record {
      from = key_from_fields least_key (element_key e) (omega arith) (omega arith) (omega arith) (omega arith) (omega arith);
      before = less_then e.base.localization (2 ^ 32 - 1) _ less;
    }

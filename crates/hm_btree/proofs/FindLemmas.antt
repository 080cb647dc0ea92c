-- The element at a key of a leaf.
use Rattle.std.proofs.Common.{◌≡◌, Bool, false, ℕ, List, sym, ap, ◌∙◌, Some, None, Bor}
use Rattle.std.specs.Prelude.{IfSome, Option, is_some, ◌==◌, slice_get}
use Rattle.std.specs.Option.{option_copied}
use Rattle.std.specs.Slice.{IsItemAt}
use Rattle.std.specs.Ordering.{ordering_index}
use Rattle.std.specs.declared.cmp.Ordering.{Ordering}
use Rattle.hm_types.specs.Elements.{Key, key_cmp}
use Rattle.hm_key.specs.Elements.{IsContent, element_key, element_at, first_from}
use Rattle.hm_key.specs.Places.{leading}
use Rattle.hm_key.specs.declared.element.Element.{Element}
use Rattle.hm_key.proofs.PlaceLemmas.{first_from-leading, got}
use Rattle.hm_key.proofs.SearchLemmas.{has_found, has_none}
use Rattle.hm_node.specs.Leaf.{HasLeafOrder}
use Rattle.hm_node.specs.declared.leaf.Leaf.{Leaf}
use Rattle.hm_btree.proofs.ToldLemmas.{IfSome_both}

module _ (leaf : Leaf) (key : Key) (i : ℕ) (lent : Option (Bor Element)) where
  first_is : (xs : List Element) → i ≡ leading key leaf.places.items → IsItemAt xs i lent → xs ≡ leaf.places.items
      → first_from key leaf.places.items ≡ option_copied lent
  first_is xs at item same = first_from-leading key leaf.places.items ∙ ap (slice_get leaf.places.items) (sym at)
      ∙ ap (λ (l : List Element). slice_get l i) (sym same) ∙ sym (got lent xs i item)

  pub found_at : (e : Bor Element) (xs : List Element) (o : Ordering) (test : Bool) → HasLeafOrder leaf
      → i ≡ leading key leaf.places.items → IsItemAt xs i lent → xs ≡ leaf.places.items → lent ≡ Some e
      → o ≡ key_cmp (element_key e.now) key → test ≡ (ordering_index o == 1) → test ≡ is_some (element_at key leaf.places.items)
  found_at e xs o test order at item same is compared tested =
      has_found key e.now leaf.places.items o test order (first_is xs at item same ∙ ap option_copied is) compared tested

  pub none_at : (xs : List Element) → HasLeafOrder leaf → i ≡ leading key leaf.places.items → IsItemAt xs i lent
      → xs ≡ leaf.places.items → lent ≡ None → false ≡ is_some (element_at key leaf.places.items)
  none_at xs order at item same is = has_none key leaf.places.items order (first_is xs at item same ∙ ap option_copied is)

-- whether an element stands at a key, by the first one from it on that a store answered
pub stands_there : (at : Key) (e : Element) (found : Option Element) (old new : Option (List Element)) (o : Ordering)
    (test : Bool) → new ≡ old → IfSome old IsContent
    → IfSome old (λ es. found ≡ first_from at es) → found ≡ Some e → o ≡ key_cmp (element_key e) at
    → test ≡ (ordering_index o == 1) → IfSome new (λ es. test ≡ is_some (element_at at es))
stands_there at e found old new o test same content search is order tested = rw same (IfSome_both old content search (λ es content search.
    has_found at e es o test content.rising (sym search ∙ is) order tested))

pub stands_nowhere : (at : Key) (found : Option Element) (old new : Option (List Element)) → new ≡ old → IfSome old IsContent
    → IfSome old (λ es. found ≡ first_from at es) → found ≡ None
    → IfSome new (λ es. false ≡ is_some (element_at at es))
stands_nowhere at found old new same content search is = rw same (IfSome_both old content search (λ es content search.
    has_none at es content.rising (sym search ∙ is)))

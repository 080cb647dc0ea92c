use Rattle.std.proofs.Common.{◌≡◌, ◌∙◌, ap, Option, None, Some, List}
use Rattle.std.specs.Prelude.{IfSome, IsSome, is_some}
use Rattle.hm_key.specs.Elements.{element_at, element_key, first_from, IsContent}
use Rattle.hm_key.specs.Key.{key_of}
use Rattle.hm_key.specs.declared.element.Element.{Element}
use Rattle.hm_types.specs.Elements.{Key}
use Rattle.hm_key.proofs.SweepLemmas.{found_there}
use Rattle.hm_key.proofs.callers.renew_from.Goals as goal

-- what a search found stands there still
stands_there : (at : Key) (e : Element) (found : Option Element) (old new : Option (List Element)) → new ≡ old → IfSome old IsContent
    → IfSome old (λ es. found ≡ first_from at es) → found ≡ Some e → IfSome new (λ es. IsSome (element_at (element_key e) es))
stands_there at e found old new same content search is = some new (found_there at e found old new same content search is) where
  some : (list : Option (List Element)) → IfSome list (λ es. element_at (element_key e) es ≡ Some e)
      → IfSome list (λ es. IsSome (element_at (element_key e) es))
  some None there = tt
  some (Some es) there = ap is_some there

pub readdress-requires : goal.readdress-requires
readdress-requires g c = let searched = c.first_at_or_after in record {
  there =
      stands_there (key_of c.loop-looked.at) c.in-Some.element c.in_ok-element.field-0 (g.T.HasElements.elements c.loop-looked.store)
      (g.T.HasElements.elements c.place.new.self)
      (c.in_ok-to.ensures.ok.extents.elements ∙ c.in_ok-admit.ensures.answers.content.elements ∙ searched.ensures.keeps.elements)
      (g.met.T.ElementStore.sorted c.loop-looked.store) c.in_ok-element.ensures.ok c.in-Some.is;
}

pub remove-requires : goal.remove-requires
remove-requires g c = let searched = c.first_at_or_after in record {
  there =
      stands_there (key_of c.loop-looked.at) c.in-Some.element c.in_ok-element.field-0 (g.T.HasElements.elements c.loop-looked.store)
      (g.T.HasElements.elements searched.new.self)
      searched.ensures.keeps.elements (g.met.T.ElementStore.sorted c.loop-looked.store) c.in_ok-element.ensures.ok c.in-Some.is;
}

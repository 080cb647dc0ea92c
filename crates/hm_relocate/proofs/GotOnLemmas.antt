-- What a unit did where there is more to do.
use Rattle.std.proofs.Common.{◌≡◌, true≢false, ℕ, List, Option, None, Some, sym, subst, ◌∙◌, inl, inr, arith}
use Rattle.std.specs.Prelude.{◌⊎◌, IfSome, IsSomeAnd, is_some}
use Rattle.std.specs.List.{Contains}
use Rattle.hm_fields.specs.Pages.{PageMap}
use Rattle.hm_key.specs.Job.{ComesFurther, HasMoreCause, IfProgress, Place}
use Rattle.hm_key.specs.declared.job.Progress.{Progress}
use Rattle.hm_key.specs.declared.job.Progress.TheVariants.{Done, More}
use Rattle.hm_key.specs.declared.element.Element.{Element}
use Rattle.hm_key.proofs.KeyLemmas.{key_total}
use Rattle.hm_btree.specs.Calls.Choice.{FindsNode}
use Rattle.hm_btree.specs.Calls.Move.{Exchanges}
use Rattle.hm_reblock.specs.Choice.{IsInChoice, IsZoneChosen, NoneChosen, SomeChosen, SomeChosenIn}
use Rattle.hm_reblock.specs.Stages.{StandsOrComes}
use Rattle.hm_stored.specs.Heap.{Heap, pages_of}
use Rattle.hm_stored.specs.Told.{elements_told}
use Rattle.hm_relocate.specs.Unit.{ClearsPayloads, HasChosenNode, HasGotOn, IsToMove, LooksThrough, MovesPayload, Way}

-- a place that is further than one that is further
further_both : (a b c : Place) → ComesFurther a b → ComesFurther b c → ComesFurther a c
further_both a b c (inl first) (inl second) = inl (omega arith)
further_both a b c (inl first) (inr second) = inl (let same = second.0 in omega (arith, first, same))
further_both a b c (inr first) (inl second) = inl (let same = first.0 in omega (arith, second, same))
further_both a b c (inr first) (inr second) = inr (first.0 ∙ second.0, key_total.trans a.at b.at c.at first.1 second.1)

pub further_from : (a b c : Place) → StandsOrComes a b → ComesFurther b c → ComesFurther a c
further_from a b c (inl same) further = subst (λ (p : Place). ComesFurther p c) same further
further_from a b c (inr first) further = further_both a b c first further

pub stands_both : (a b c : Place) → StandsOrComes a b → StandsOrComes b c → StandsOrComes a c
stands_both a b c first (inl same) = subst (StandsOrComes a) (sym same) first
stands_both a b c first (inr further) = inr (further_from a b c first further)

-- the part of the payloads in what a unit did: their reblock came further, one moved, or none is left of those that lay in the choice
abbrev pub PayloadsGotOn : Place → Place → List ℕ → List ℕ → Heap → Heap → ℕ → ℕ → Type 0
PayloadsGotOn from to was now old new root root' =
    ComesFurther from to
    ⊎ MovesPayload (elements_told old root) (elements_told new root')
    ⊎ ClearsPayloads was now (elements_told old root) (elements_told new root')

pub got_by_payloads : (from to : Way) (was now : List ℕ) (old new : Heap) (root root' : ℕ)
    → PayloadsGotOn from.payloads to.payloads was now old new root root' → HasGotOn from to was now old new root root'
got_by_payloads from to was now old new root root' (inl further) = inl further
got_by_payloads from to was now old new root root' (inr (inl moved)) = inr (inl moved)
got_by_payloads from to was now old new root root' (inr (inr cleared)) = inr (inr (inl cleared))

-- after a look, and after a job that did not fall behind
module _ (old mid : Heap) (root root1 : ℕ) (looks : LooksThrough old mid root root1) where
  pub payloads_later : (from place to : Place) (was now : List ℕ) (new : Heap) (root' : ℕ) → StandsOrComes from place
      → PayloadsGotOn place to was now mid new root1 root' → PayloadsGotOn from to was now old new root root'
  payloads_later from place to was now new root' stands (inl further) = inl (further_from from place to stands further)
  payloads_later from place to was now new root' stands (inr (inl moved)) =
      inr (inl (subst (λ (o : Option (List Element)). MovesPayload o (elements_told new root')) looks.elements moved))
  payloads_later from place to was now new root' stands (inr (inr cleared)) =
      inr (inr (subst (λ (o : Option (List Element)). ClearsPayloads was now o (elements_told new root')) looks.elements cleared))

  -- a look at the nodes leaves these too
  pub got_on_later : (from place to : Way) (was now : List ℕ) (new : Heap) (root' : ℕ) → StandsOrComes from.payloads place.payloads
      → place.nodes ≡ from.nodes → pages_of mid ≡ pages_of old → HasGotOn place to was now mid new root1 root'
      → HasGotOn from to was now old new root root'
  got_on_later from place to was now new root' stands turned same (inl further) =
      inl (further_from from.payloads place.payloads to.payloads stands further)
  got_on_later from place to was now new root' stands turned same (inr (inl moved)) =
      inr (inl (subst (λ (o : Option (List Element)). MovesPayload o (elements_told new root')) looks.elements moved))
  got_on_later from place to was now new root' stands turned same (inr (inr (inl cleared))) =
      inr (inr (inl (subst (λ (o : Option (List Element)). ClearsPayloads was now o (elements_told new root')) looks.elements cleared)))
  got_on_later from place to was now new root' stands turned same (inr (inr (inr (inl node)))) = inr (inr (inr (inl (record {
    at = node.at;
    to = node.to;
    lies = subst (λ (o : Option PageMap). IfSome o (λ map. FindsNode was map (Some node.at))) same node.lies;
    moves = subst (λ (o : Option PageMap). IfSome o (λ map. IfSome (pages_of new) (Exchanges node.at node.to map))) same node.moves;
  }))))
  got_on_later from place to was now new root' stands turned same (inr (inr (inr (inr turns)))) = inr (inr (inr (inr (sym turned ∙ turns.0, turns.1))))

-- each big-block of one choice is one of another
module _ (some all : List ℕ) (within : (block : ℕ) → Contains some block → Contains all block) where
  in_more : (e : Element) → IsInChoice some e → IsInChoice all e
  in_more e is = record { some = is.some; lies = record { zone = is.lies.zone; block = within _ is.lies.block } }

  some_more : (es : List Element) → SomeChosen some es → SomeChosen all es
  some_more es is = record { element = is.element; there = is.there; chosen = in_more is.element is.chosen }

  chosen_node_more : (o : Option PageMap) → IfSome o (HasChosenNode some) → IfSome o (HasChosenNode all)
  chosen_node_more None is = tt
  chosen_node_more (Some map) is = (is.0, (is.1.0, within _ is.1.1))

  pub to_move_more : (pages : Option PageMap) (o : Option (List Element)) (zone : ℕ) → IsToMove some pages o zone → IsToMove all pages o zone
  to_move_more pages o zone (inl node) = inl (node.0, chosen_node_more pages node.1)
  to_move_more pages None zone (inr payload) = inr tt
  to_move_more pages (Some es) zone (inr payload) = inr (record {
    element = payload.element;
    there = payload.there;
    chosen = in_more payload.element payload.chosen;
    zone_is = payload.zone_is;
  })

  none_less : (o : Option (List Element)) → IsSomeAnd o (NoneChosen all) → IsSomeAnd o (NoneChosen some)
  none_less None is = is
  none_less (Some es) is = λ e has wide chosen. is e has wide (in_more e chosen)

  cleared_more : (o n : Option (List Element)) (now : List ℕ) → ClearsPayloads some now o n → ClearsPayloads all now o n
  cleared_more None n now is = tt
  cleared_more (Some es) n now is = (some_more es is.0, is.1)

  cleared_less : (o n : Option (List Element)) (was : List ℕ) → ClearsPayloads was all o n → ClearsPayloads was some o n
  cleared_less None n was is = tt
  cleared_less (Some es) n was is = (is.0, none_less n is.1)

  node_more : (o : Option PageMap) (at : ℕ) → IfSome o (λ map. FindsNode some map (Some at)) → IfSome o (λ map. FindsNode all map (Some at))
  node_more None at is = tt
  node_more (Some map) at is = (is.0, within _ is.1)

  -- what was done for the one was done for the other
  pub got_on_more : (from to : Way) (now : List ℕ) (old new : Heap) (root root' : ℕ) → HasGotOn from to some now old new root root'
      → HasGotOn from to all now old new root root'
  got_on_more from to now old new root root' (inl further) = inl further
  got_on_more from to now old new root root' (inr (inl moved)) = inr (inl moved)
  got_on_more from to now old new root root' (inr (inr (inl cleared))) =
      inr (inr (inl (cleared_more (elements_told old root) (elements_told new root') now cleared)))
  got_on_more from to now old new root root' (inr (inr (inr (inl node)))) = inr (inr (inr (inl (record {
    at = node.at;
    to = node.to;
    lies = node_more (pages_of old) node.at node.lies;
    moves = node.moves;
  }))))
  got_on_more from to now old new root root' (inr (inr (inr (inr turns)))) = inr (inr (inr (inr turns)))

  -- and where big-blocks left a choice
  pub got_on_less : (from to : Way) (was : List ℕ) (old new : Heap) (root root' : ℕ) → HasGotOn from to was all old new root root'
      → HasGotOn from to was some old new root root'
  got_on_less from to was old new root root' (inl further) = inl further
  got_on_less from to was old new root root' (inr (inl moved)) = inr (inl moved)
  got_on_less from to was old new root root' (inr (inr (inl cleared))) =
      inr (inr (inl (cleared_less (elements_told old root) (elements_told new root') was cleared)))
  got_on_less from to was old new root root' (inr (inr (inr node))) = inr (inr (inr node))

-- what a unit that is done tells of its choice, in the words of the choice before it
pub ends_none : (o : Option (List Element)) (now was : List ℕ) (Goes Balance : Type 0) (progress : Progress) → now ≡ was
    → IfProgress Goes (Balance × IfSome o (NoneChosen now)) progress → IfProgress (Unit {0}) (IfSome o (NoneChosen was)) progress
ends_none o now was Goes Balance More same ends = tt
ends_none o now was Goes Balance Done same ends = subst (λ (choice : List ℕ). IfSome o (NoneChosen choice)) same ends.1

-- a unit of the reblock of the payloads, of which one lay in the choice
pub got_on_payload : (from to : Place) (choice : List ℕ) (zone : ℕ) (old new : Heap) (root root' : ℕ) (progress : Progress)
    → IfSome (elements_told old root) (SomeChosenIn zone choice) → is_some (elements_told new root') ≡ is_some (elements_told old root)
    → HasMoreCause from to (elements_told old root) (elements_told new root') progress
    → IfProgress (Unit {0}) (IfSome (elements_told new root') (NoneChosen choice)) progress → PayloadsGotOn from to choice choice old new root root'
got_on_payload from to choice zone old new root root' More there told (inl further) ends = inl further
got_on_payload from to choice zone old new root root' More there told (inr touched) ends = inr (inl touched)
got_on_payload from to choice zone old new root root' Done there told cause ends =
    inr (inr (cleared (elements_told old root) (elements_told new root') there told ends)) where
      cleared : (o n : Option (List Element)) → IfSome o (SomeChosenIn zone choice) → is_some n ≡ is_some o → IfSome n (NoneChosen choice)
          → ClearsPayloads choice choice o n
      cleared None n there told ends = tt
      cleared (Some es) None there told ends = absurd (true≢false (sym told))
      cleared (Some es) (Some fs) there told ends =
          (record { element = there.element; there = there.there; chosen = there.chosen }, ends)

-- what is to move is the payload of one of its elements
pub zone_there : (choice : List ℕ) (o : Option (List Element)) (found : Option ℕ) (zone : ℕ) → found ≡ Some zone
    → IfSome o (λ es. IsZoneChosen choice es found) → IfSome o (SomeChosenIn zone choice)
zone_there choice o found zone is there = subst (λ (f : Option ℕ). IfSome o (λ es. IsZoneChosen choice es f)) is there

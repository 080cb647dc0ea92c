use Rattle.std.proofs.Common.{subst, sym}
use Rattle.std.specs.Prelude.{IfSome}
use Rattle.hm_node.specs.declared.node.Node.{Node}
use Rattle.hm_search.specs.Descent.{PassesHere}
use Rattle.hm_search.specs.Place.{FitsLevel}
use Rattle.hm_search.specs.declared.place_rule.PlaceRule.TheVariants.{Level}
use Rattle.hm_btree.specs.Shape.{IsShaped}
use Rattle.hm_btree.proofs.PageLemmas.{page_shaped}
use Rattle.hm_btree.proofs.remove.visited_node.Goals as goal

pub returns-clause-ok : goal.returns-clause-ok
returns-clause-ok g c =
    let is = sym c.node_of.ensures in
    record {
      shape = subst IsShaped is (page_shaped c.step_into.new.page c.in_ok-step_into.ensures.visits.holds);
      level = subst (λ (n : Node). FitsLevel c.args.place.now.parent n) is (c.in_ok-step_into.ensures.visits.meets Level);
      here = subst (λ (n : Node). IfSome (g.S.Pages.pages c.args.space.now) (λ map. PassesHere map c.args.place.now n)) is
          c.in_ok-step_into.ensures.visits.there;
    }

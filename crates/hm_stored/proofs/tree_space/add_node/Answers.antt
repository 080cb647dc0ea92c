-- Only the page of the new node comes.
use Rattle.std.proofs.Common.{◌∙◌, Some, ap, subst}
use Rattle.hm_pages.specs.Store.{contents}
use Rattle.hm_stored.specs.Nodes.{MovesNodes, Spots, spots}
use Rattle.hm_stored.proofs.SpotLemmas.{node_moves, node_place, none_moves}
use Rattle.hm_stored.proofs.tree_space.add_node.Goals as goal

pub returns-in_err-at-clause-spots : goal.returns-in_err-at-clause-spots
returns-in_err-at-clause-spots c = none_moves c.args.bigblocks _ _ c.take.ensures.rest

pub returns-then-not-is_tree_place-clause-spots : goal.returns-then-not-is_tree_place-clause-spots
returns-then-not-is_tree_place-clause-spots c = none_moves c.args.bigblocks _ _ c.take.ensures.rest

pub returns-in-Ok-clause-spots : goal.returns-in-Ok-clause-spots
returns-in-Ok-clause-spots c = subst (λ (s : Spots). MovesNodes c.args.bigblocks s (spots (contents c.change.new.self))) c.take.ensures.rest
    (node_moves c.args.bigblocks c.in_ok-at.at (Some c.args.with.now) (contents c.take.new.pages.store) (contents c.change.new.self)
    (c.is_tree_place.ensures.0 c.if-not-is_tree_place.false) c.in-Ok.ensures.changed)

pub returns-in-Ok-clause-ok : goal.returns-in-Ok-clause-ok
returns-in-Ok-clause-ok c = record {
  now = (contents c.take.new.pages.store).current;
  takes = c.in_ok-at.ensures.ok;
  spot = node_place c.args.bigblocks c.in_ok-at.at (c.is_tree_place.ensures.0 c.if-not-is_tree_place.false);
  put = c.in-Ok.ensures.changed.current;
}

pub returns-in-Err-clause-spots : goal.returns-in-Err-clause-spots
returns-in-Err-clause-spots c = none_moves c.args.bigblocks _ _ (ap spots c.in-Err.ensures.unchanged ∙ c.take.ensures.rest)

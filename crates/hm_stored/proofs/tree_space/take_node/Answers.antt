-- Only the page of the node goes.
use Rattle.std.proofs.Common.{◌∙◌, None, ap, subst}
use Rattle.hm_pages.specs.Store.{contents}
use Rattle.hm_stored.specs.Nodes.{MovesNodes, Spots, spots}
use Rattle.hm_stored.proofs.SpotLemmas.{node_moves, none_moves}
use Rattle.hm_stored.proofs.tree_space.take_node.Goals as goal

pub returns-in_err-give-clause-spots : goal.returns-in_err-give-clause-spots
returns-in_err-give-clause-spots c = none_moves c.args.bigblocks _ _ c.give.ensures.rest

pub returns-in-Ok-clause-spots : goal.returns-in-Ok-clause-spots
returns-in-Ok-clause-spots c = subst (λ (s : Spots). MovesNodes c.args.bigblocks s (spots (contents c.remove.new.self))) c.give.ensures.rest
    (node_moves c.args.bigblocks c.args.at None (contents c.give.new.pages.store) (contents c.remove.new.self) c.requires.place c.in-Ok.ensures.ok)

pub returns-in-Err-clause-spots : goal.returns-in-Err-clause-spots
returns-in-Err-clause-spots c = none_moves c.args.bigblocks _ _ (ap spots c.in-Err.ensures.err ∙ c.give.ensures.rest)

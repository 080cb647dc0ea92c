use Rattle.hm_image.proofs.NodeCountLemmas.{node_once, page_once}
use Rattle.hm_image.proofs.laws.referred.nodes_are_referred_to_once.Goals as goal

pub returns-clause-nodes : goal.returns-clause-nodes
returns-clause-nodes c = node_once

pub returns-clause-pages : goal.returns-clause-pages
returns-clause-pages c = page_once

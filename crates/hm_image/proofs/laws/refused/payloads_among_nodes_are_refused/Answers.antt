use Rattle.hm_image.proofs.WitnessLemmas.{node_zone_refused, meta_zone_among}
use Rattle.hm_image.proofs.laws.refused.payloads_among_nodes_are_refused.Goals as goal

pub returns-clause-refused : goal.returns-clause-refused
returns-clause-refused c = node_zone_refused

pub returns-clause-among : goal.returns-clause-among
returns-clause-among c = meta_zone_among

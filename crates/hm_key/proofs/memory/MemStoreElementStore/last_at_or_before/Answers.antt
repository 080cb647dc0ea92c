use Rattle.hm_key.specs.Key.{key_of}
use Rattle.hm_key.proofs.LastLemmas.{found_to}
use Rattle.hm_key.proofs.memory.MemStoreElementStore.last_at_or_before.Goals as goal

pub returns-clause-found : goal.returns-clause-found
returns-clause-found c =
    found_to (key_of c.args.at.now) c.args.self.now.elements.list.items c.last_to.result c.args.self.now.elements.content.each c.last_to.ensures

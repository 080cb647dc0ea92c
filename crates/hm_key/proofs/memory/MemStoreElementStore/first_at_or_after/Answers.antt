use Rattle.hm_key.specs.Key.{key_of}
use Rattle.hm_key.proofs.MemoryLemmas.{found_from}
use Rattle.hm_key.proofs.memory.MemStoreElementStore.first_at_or_after.Goals as goal

pub returns-clause-found : goal.returns-clause-found
returns-clause-found c =
    found_from (key_of c.args.at.now) c.args.self.now.elements.list.items c.first_from.result c.args.self.now.elements.content.each c.first_from.ensures

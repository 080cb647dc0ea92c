use Rattle.std.proofs.Common.{sym}
use Rattle.hm_key.specs.Key.{key_of}
use Rattle.hm_key.proofs.SearchLemmas.{has_found, has_none}
use Rattle.hm_key.proofs.memory.MemStore.has.Goals as goal

pub returns-in-Some : goal.returns-in-Some
returns-in-Some c =
    has_found (key_of c.args.at.now) c.in-Some.element c.args.self.now.elements.list.items c.order.result c.eq.result c.args.self.now.elements.content.rising
    (sym c.in-Some.ensures) c.order.ensures c.eq.ensures

pub returns-in-None : goal.returns-in-None
returns-in-None c = has_none (key_of c.args.at.now) c.args.self.now.elements.list.items c.args.self.now.elements.content.rising (sym c.in-None.ensures)

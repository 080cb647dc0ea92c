use Rattle.std.proofs.Common.{arith}
use Rattle.hm_key.specs.Key.{key_of}
use Rattle.hm_key.specs.Elements.{closed_at}
use Rattle.hm_key.proofs.ElementLemmas.{content_closed}
use Rattle.hm_key.proofs.PlaceLemmas.{IsPlace-within, changed_here}
use Rattle.hm_key.proofs.element_list.ElementList.set_delete.Goals as goal

pub index_mut-requires : goal.index_mut-requires
index_mut-requires c = omega (arith, IsPlace-within (key_of c.args.at.now) c.args.self.now.list.items c.place_of-place.result c.place_of-place.ensures)

pub invariant_of-self : goal.invariant_of-self
invariant_of-self c =
    record {
      content = rw (changed_here (key_of c.args.at.now)
          (closed_at c.args.delete) c.index_mut.result.now c.args.self.now.list.items c.place_of-place.result c.place_of-place.ensures
          c.index_mut.ensures.value)
          (content_closed (key_of c.args.at.now) c.args.delete c.args.self.now.list.items c.requires.later c.args.self.now.content);
    }

pub returns : goal.returns
returns c =
    (changed_here (key_of c.args.at.now) (closed_at c.args.delete) c.index_mut.result.now c.args.self.now.list.items c.place_of-place.result
    c.place_of-place.ensures c.index_mut.ensures.value)

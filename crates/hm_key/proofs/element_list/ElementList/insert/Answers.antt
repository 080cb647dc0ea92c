use Rattle.std.proofs.Common.{arith, ◌∙◌}
use Rattle.hm_key.specs.Key.{key_of}
use Rattle.hm_key.proofs.ElementLemmas.{content_if}
use Rattle.hm_key.proofs.PlaceLemmas.{leading_most, inserted_here}
use Rattle.hm_key.proofs.element_list.ElementList.insert.Goals as goal

pub insert-requires : goal.insert-requires
insert-requires c = omega (arith, leading_most (key_of c.args.element.now.base) c.args.self.now.list.items)

pub invariant_of-self : goal.invariant_of-self
invariant_of-self c =
    record {
      content = content_if _ c.args.element.now c.args.self.now.list.items _ c.leading-place.result c.requires.element c.requires.new
          c.args.self.now.content c.leading-place.ensures c.insert.ensures.items;
    }

pub returns-clause-ok : goal.returns-clause-ok
returns-clause-ok c = c.in_ok-insert.ensures.items ∙ inserted_here c.args.element.now c.args.self.now.list.items c.leading-place.result c.leading-place.ensures

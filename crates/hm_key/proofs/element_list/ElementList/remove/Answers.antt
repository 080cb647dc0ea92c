use Rattle.std.proofs.Common.{arith, sym, ◌∙◌}
use Rattle.hm_key.specs.Key.{key_of}
use Rattle.hm_key.proofs.ElementLemmas.{content_removed}
use Rattle.hm_key.proofs.PlaceLemmas.{IsPlace-within, removed-place}
use Rattle.hm_key.proofs.element_list.ElementList.remove.Goals as goal

pub remove-requires : goal.remove-requires
remove-requires c = omega (arith, IsPlace-within (key_of c.args.at.now) c.args.self.now.list.items c.place_of-place.result c.place_of-place.ensures)

pub invariant_of-self : goal.invariant_of-self
invariant_of-self c =
    record {
      content = rw (
        c.remove.ensures.items,
        ← removed-place
            (key_of c.args.at.now) c.args.self.now.list.items c.place_of-place.result c.place_of-place.ensures,
      )
          (content_removed (key_of c.args.at.now) c.args.self.now.list.items c.args.self.now.content);
    }

pub returns : goal.returns
returns c = c.remove.ensures.items ∙ sym (removed-place (key_of c.args.at.now) c.args.self.now.list.items c.place_of-place.result c.place_of-place.ensures)

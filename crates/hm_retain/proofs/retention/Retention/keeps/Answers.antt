use Rattle.std.proofs.Common.{◌<◌, ◌/◌, length, rules}
use Rattle.hm_retain.proofs.SearchLemmas.{IsSearched-all, searched_before, searched_after, searched_found}
use Rattle.hm_retain.proofs.retention.Retention.keeps.Goals as goal

pub loop-part-init : goal.loop-part-init
loop-part-init c = rw c.as_slice-part.ensures.value (IsSearched-all c.args.self.now c.args.id.0 c.self.inside.list.items c.self.view_is c.self.invariant)

pub loop-part-preserved-then-lt : goal.loop-part-preserved-then-lt
loop-part-preserved-then-lt c =
    let within : length c.loop-part.part.now / 2 < length c.loop-part.part.now = search rules in
    searched_before c.args.self.now c.args.id.0 c.loop-part.part.now (length c.loop-part.part.now / 2) (record { 0 = 0 }, record { 0 = 0 })
    c.loop-part.invariant within (search rules)

pub loop-part-preserved : goal.loop-part-preserved
loop-part-preserved c =
    let within : length c.loop-part.part.now / 2 < length c.loop-part.part.now = search rules in
    searched_after c.args.self.now c.args.id.0 c.loop-part.part.now (length c.loop-part.part.now / 2) (record { 0 = 0 }, record { 0 = 0 })
    c.loop-part.invariant within (search rules)

pub returns-else-lt-2 : goal.returns-else-lt-2
returns-else-lt-2 c =
    let within : length c.loop-part.part.now / 2 < length c.loop-part.part.now = search rules in (
      λ _. searched_found c.args.self.now c.args.id.0 c.loop-part.part.now (length c.loop-part.part.now / 2) (record { 0 = 0 }, record { 0 = 0 })
          c.loop-part.invariant within (search rules) (search rules),
      λ _. search rules,
    )

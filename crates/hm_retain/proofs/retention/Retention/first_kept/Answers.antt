use Rattle.std.proofs.Common.{◌<◌, ◌/◌, length, rules, arith}
use Rattle.hm_retain.proofs.FirstKeptLemmas.{sought_before, sought_after, sought_found}
use Rattle.hm_retain.proofs.retention.Retention.first_kept.Goals as goal

pub loop-part-preserved-then-lt : goal.loop-part-preserved-then-lt
loop-part-preserved-then-lt c =
    let within : length c.loop-part.part.now / 2 < length c.loop-part.part.now = search rules in
    sought_before c.args.self.now c.args.id.0 c.loop-part.part.now c.loop-part.next (length c.loop-part.part.now / 2) (
      record { 0 = 0 },
      record { 0 = 0 },
    ) c.loop-part.invariant within (search rules)

pub loop-part-preserved : goal.loop-part-preserved
loop-part-preserved c =
    let within : length c.loop-part.part.now / 2 < length c.loop-part.part.now = search rules in
    sought_after c.args.self.now c.args.id.0 c.loop-part.part.now c.loop-part.next (length c.loop-part.part.now / 2) (
      record { 0 = 0 },
      record { 0 = 0 },
    ) c.loop-part.invariant within (search rules)

pub returns-else-lt-2 : goal.returns-else-lt-2
returns-else-lt-2 c =
    let within : length c.loop-part.part.now / 2 < length c.loop-part.part.now = search rules in
    record {
      onward = omega arith;
      kept = sought_found c.args.self.now c.args.id.0 c.loop-part.part.now c.loop-part.next (length c.loop-part.part.now / 2) (
        record { 0 = 0 },
        record { 0 = 0 },
      ) c.loop-part.invariant within (search rules) (search rules);
      least = λ other kept later. later;
    }

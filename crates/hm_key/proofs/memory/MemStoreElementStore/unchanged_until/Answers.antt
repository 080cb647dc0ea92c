use Rattle.std.proofs.Common.{◌≤◌, arith}
use Rattle.hm_key.specs.Key.{key_of}
use Rattle.hm_key.specs.Memory.{mark_of}
use Rattle.hm_key.proofs.MemoryLemmas.{quiet_from}
use Rattle.hm_key.proofs.memory.MemStoreElementStore.unchanged_until.Goals as goal

pub returns-else-of-since-clause-ok : goal.returns-else-of-since-clause-ok
returns-else-of-since-clause-ok c =
    let here : mark_of c.args.self.now.marks.list.items (key_of c.args.at.now) ≤ c.args.since.0 = omega (arith, c.of.ensures) in
    quiet_from (mark_of c.args.self.now.marks.list.items) (key_of c.args.at.now) (key_of c.end_after.result) c.args.since.0 here c.end_after.ensures.quiet

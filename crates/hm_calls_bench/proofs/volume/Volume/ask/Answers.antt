use Rattle.std.proofs.Common.{None}
use Rattle.hm_types.specs.Hash.{name_hash}
use Rattle.hm_calls.specs.Changes.{Changes}
use Rattle.hm_calls.specs.Replies.{Asks, is_change}
use Rattle.hm_calls_tests.proofs.TestLemmas.{balanced_after}
use Rattle.hm_calls_bench.proofs.volume.Volume.ask.Goals as goal

pub returns : goal.returns
returns g c =
    let done = c.in_ok-reply.ensures in
    record {
      balanced = balanced_after g.T.HasElements.elements g.T.HasRoom.extents (Changes name_hash c.args.self.now.next
          (Asks c.args.command.now None))
          (is_change c.args.command.now c.in_ok-reply.reply) c.args.self.now.store c.answer.new.store done.keeps.elements done.keeps.extents
          c.requires.ready.balanced
          (λ stays. let same = done.replies.stays stays in (same.elements, same.extents)) done.replies.changes;
      known = done.known;
    }

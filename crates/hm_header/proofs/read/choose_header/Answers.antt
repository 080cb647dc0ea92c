use Rattle.std.proofs.Common.{IfErr, IfOk}
use Rattle.hm_header.specs.Slots.{IsChosen, IsFault}
use Rattle.hm_header.proofs.ReadLemmas.{slots-read}
use Rattle.hm_header.proofs.read.choose_header.Goals as goal

pub returns-clause-chosen : goal.returns-clause-chosen
returns-clause-chosen c bytes size same =
    let split = c.split_at.ensures in
    slots-read (λ first second n. IfOk c.choose.result (λ answer. IsChosen first second n answer.0 answer.1))
    bytes c.args.slots.now _ _ c.args.size c.min-count.result c.min.result size same c.min-count.ensures c.min.ensures
    split.front split.back c.choose.ensures.ok

pub returns-clause-err : goal.returns-clause-err
returns-clause-err c bytes size same =
    let split = c.split_at.ensures in
    slots-read (λ first second n. IfErr c.choose.result (IsFault first second n))
    bytes c.args.slots.now _ _ c.args.size c.min-count.result c.min.result size same c.min-count.ensures c.min.ensures
    split.front split.back c.choose.ensures.err

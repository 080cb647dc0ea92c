use Rattle.std.proofs.Common.{rules}
use Rattle.hm_retain.specs.Retention.{IsCut}
use Rattle.hm_retain.proofs.CutLemmas.{err_meets, IsCut-shared}
use Rattle.hm_retain.proofs.retention.Retention.cut_to.Goals as goal

pub returns-clause-err : goal.returns-clause-err
returns-clause-err c =
    let cut : IsCut c.args.self.now c.args.ids.now c.args.from.0 c.in_ok-cut.cut = search (rules, IsCut-shared, c.in_ok-cut.ensures, c.in_ok-wanted.ensures) in
    err_meets _ c.in_ok-cut.cut _ cut c.of_intervals.ensures.err

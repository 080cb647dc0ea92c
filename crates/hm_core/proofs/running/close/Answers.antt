-- The call with an opening id is taken out.
use Rattle.std.proofs.Common.{rules, true, false, [], ap, ◌∙◌, eqb, if◌then◌else◌}
use Rattle.std.proofs.lemmas.Fn.{filter_same}
use Rattle.hm_core.specs.Running.{choice_among, choice_of_work, open_jobs}
use Rattle.hm_core.proofs.RunningLemmas.{beside_running, differ_so, told_beside}
use Rattle.hm_core.proofs.running.close.Goals as goal

pub returns : goal.returns
returns c =
    let kept = filter_same _ (λ r. if eqb r.opening.0 c.args.opening.0 then false else true) _ (λ x b f' called. search rules) _ _
    c.retain.ensures.filtered in
    record {
      left = ap open_jobs kept ∙ beside_running c.args.opening.0 c.args.running.now.items;
      others = λ id other.
          ap (choice_among id) kept
          ∙ told_beside [] choice_of_work id c.args.opening.0 (differ_so id c.args.opening.0 other) c.args.running.now.items;
    }

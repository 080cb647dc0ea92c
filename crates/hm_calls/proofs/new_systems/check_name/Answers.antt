use Rattle.std.proofs.Common.{None, refl}
use Rattle.std.proofs.lemmas.Result.{err_from_is_err_and}
use Rattle.hm_model.specs.Due.{has_id}
use Rattle.hm_model.specs.Sites.{Parts}
use Rattle.hm_model.specs.declared.reply.Reply.TheVariants.{ReadOnly}
use Rattle.hm_calls.proofs.FrontLemmas.{ends, halts, skips}
use Rattle.hm_calls.proofs.NewSystemLemmas.{past_one}
use Rattle.hm_calls.proofs.RefusalLemmas.{refuse_one}
use Rattle.hm_calls.proofs.SceneLemmas.{decided}
use Rattle.hm_calls.proofs.StageLemmas.{good_new, nameless_new, no_ids}
use Rattle.hm_calls.proofs.new_systems.check_name.Goals as goal

pub returns-in_err-front-clause-checks : goal.returns-in_err-front-clause-checks
returns-in_err-front-clause-checks c =
    let p = err_from_is_err_and c.from_residual.result c.from_residual.ensures.1 in
    rw (p.1, p.2) (halts _ (nameless_new c.args.parts.now _ c.in_err-front.ensures.refused))

pub returns-in_err-check_future-clause-checks : goal.returns-in_err-check_future-clause-checks
returns-in_err-check_future-clause-checks c =
    let p = err_from_is_err_and c.from_residual-in_err-check_future.result c.from_residual-in_err-check_future.ensures.1 in
    rw (p.1, p.2) (skips (good_new c.args.parts.now _ c.in_ok-front.ensures.name) (halts _ (decided (Unit {0}) _ _ c.in_err-check_future.ensures)))

pub returns-in_err-check_present-clause-checks : goal.returns-in_err-check_present-clause-checks
returns-in_err-check_present-clause-checks c =
    let p = err_from_is_err_and c.from_residual-in_err-check_present.result c.from_residual-in_err-check_present.ensures.1 in
    rw (p.1, p.2) (skips (good_new c.args.parts.now _ c.in_ok-front.ensures.name) (skips c.in_ok-check_future.ensures
    (skips refl (halts _ (past_one c.args.parts.now _ c.in_err-check_present.ensures)))))

pub returns-clause-checks : goal.returns-clause-checks
returns-clause-checks c =
    skips (good_new c.args.parts.now _ c.in_ok-front.ensures.name) (skips c.in_ok-check_future.ensures (skips refl
    (skips (refuse_one (has_id (Parts c.args.parts.now)) ReadOnly None c.in_ok-check_present.ensures) ends)))

pub returns-clause-new : goal.returns-clause-new
returns-clause-new c = record {
  front = c.in_ok-front.ensures.front;
  name = c.in_ok-front.ensures.name;
  is_name = c.in_ok-front.ensures.is_name;
  first_now = refl;
  now = no_ids c.args.parts.now c.in_ok-check_present.ensures;
}

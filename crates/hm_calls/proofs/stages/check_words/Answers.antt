use Rattle.std.proofs.Common.{None, refl}
use Rattle.std.proofs.lemmas.Result.{err_from_is_err_and}
use Rattle.hm_model.specs.Due.{has_id}
use Rattle.hm_model.specs.Sites.{Parts}
use Rattle.hm_model.specs.declared.reply.Reply.TheVariants.{ReadOnly}
use Rattle.hm_calls.proofs.FrontLemmas.{ends, first_stops, halts, second_stops, skips}
use Rattle.hm_calls.proofs.RefusalLemmas.{refuse_second}
use Rattle.hm_calls.proofs.SceneLemmas.{decided}
use Rattle.hm_calls.proofs.StageLemmas.{good_new, nameless_new, no_ids}
use Rattle.hm_calls.proofs.stages.check_words.Goals as goal

pub returns-in_err-front-clause-checks : goal.returns-in_err-front-clause-checks
returns-in_err-front-clause-checks c =
    let p = err_from_is_err_and c.from_residual.result c.from_residual.ensures.1 in
    rw (p.1, p.2) (halts _ (nameless_new c.args.two.now _ c.in_err-front.ensures.refused))

pub returns-in_err-check_future-clause-checks : goal.returns-in_err-check_future-clause-checks
returns-in_err-check_future-clause-checks c =
    let p = err_from_is_err_and c.from_residual-in_err-check_future.result c.from_residual-in_err-check_future.ensures.1 in
    rw (p.1, p.2) (skips (good_new c.args.two.now _ c.in_ok-front.ensures.name) (halts _ (decided (Unit {0}) _ _ c.in_err-check_future.ensures)))

pub returns-in_err-check_future-2-clause-checks : goal.returns-in_err-check_future-2-clause-checks
returns-in_err-check_future-2-clause-checks c =
    let p = err_from_is_err_and c.from_residual-in_err-check_future-2.result c.from_residual-in_err-check_future-2.ensures.1 in
    rw (p.1, p.2) (skips (good_new c.args.two.now _ c.in_ok-front.ensures.name) (skips c.in_ok-check_future.ensures
    (halts _ (decided (Unit {0}) _ _ c.in_err-check_future-2.ensures))))

pub returns-in_err-check_present-clause-checks : goal.returns-in_err-check_present-clause-checks
returns-in_err-check_present-clause-checks c =
    let p = err_from_is_err_and c.from_residual-in_err-check_present.result c.from_residual-in_err-check_present.ensures.1 in
    rw (p.1, p.2) (skips (good_new c.args.two.now _ c.in_ok-front.ensures.name) (skips c.in_ok-check_future.ensures (skips c.in_ok-check_future-2.ensures
    (skips refl (halts _ (first_stops _ (has_id (Parts c.args.two.now)) ReadOnly _ (decided (Unit {0}) _ _ c.in_err-check_present.ensures)))))))

pub returns-in_err-check_present-2-clause-checks : goal.returns-in_err-check_present-2-clause-checks
returns-in_err-check_present-2-clause-checks c =
    let p = err_from_is_err_and c.from_residual-in_err-check_present-2.result c.from_residual-in_err-check_present-2.ensures.1 in
    rw (p.1, p.2) (skips (good_new c.args.two.now _ c.in_ok-front.ensures.name) (skips c.in_ok-check_future.ensures (skips c.in_ok-check_future-2.ensures
    (skips refl (halts _ (second_stops (has_id (Parts c.args.one.now)) _ ReadOnly _ c.in_ok-check_present.ensures
    (decided (Unit {0}) _ _ c.in_err-check_present-2.ensures)))))))

pub returns-clause-checks : goal.returns-clause-checks
returns-clause-checks c =
    skips (good_new c.args.two.now _ c.in_ok-front.ensures.name) (skips c.in_ok-check_future.ensures (skips c.in_ok-check_future-2.ensures (skips refl
    (skips (refuse_second (has_id (Parts c.args.one.now)) (has_id (Parts c.args.two.now)) ReadOnly None c.in_ok-check_present.ensures
    c.in_ok-check_present-2.ensures) ends))))

pub returns-clause-new : goal.returns-clause-new
returns-clause-new c = record {
  front = c.in_ok-front.ensures.front;
  name = c.in_ok-front.ensures.name;
  is_name = c.in_ok-front.ensures.is_name;
  first_now = no_ids c.args.one.now c.in_ok-check_present.ensures;
  now = no_ids c.args.two.now c.in_ok-check_present-2.ensures;
}

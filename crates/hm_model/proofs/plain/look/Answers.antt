use Rattle.std.proofs.Common.{◌≡◌, ◌∙◌, sym, subst}
use Rattle.std.proofs.lemmas.Result.{IfOk-weaker}
use Rattle.hm_model.specs.declared.reply.Reply.{Reply}
use Rattle.hm_model.specs.declared.stop.PlainStop.{PlainStop}
use Rattle.hm_model.specs.declared.stop.PlainStop.TheVariants.{Refused}
use Rattle.hm_model.specs.Plain.{site_of}
use Rattle.hm_model.specs.PlainCall.{IsLooked, StopsCall}
use Rattle.hm_model.specs.PlainChecks.{answered_at}
use Rattle.hm_model.proofs.PlainDueLemmas.{look_answered, look_refused, own_refuses}
use Rattle.hm_model.proofs.plain.look.Goals as goal

pub returns-in-Err : goal.returns-in-Err
returns-in-Err c =
    let P : PlainStop → Type 0 = StopsCall c.args.tree.now c.args.call.now in
    IfOk-weaker c.refusal_of.result (λ (r : Reply). c.in-Err.stop ≡ Refused r) (IsLooked c.args.tree.now c.args.call.now)
    (λ (r : Reply) (is : c.in-Err.stop ≡ Refused r). look_refused c.args.tree.now c.args.call.now r (subst P is c.in-Err.ensures.err))
    c.refusal_of.ensures

pub returns-in-Some : goal.returns-in-Some
returns-in-Some c =
    look_refused c.args.tree.now c.args.call.now c.in-Some.refusal
    (own_refuses c.args.tree.now c.args.call.now c.in-Ok.places.0 c.in-Ok.places.1 c.in-Some.refusal c.in-Ok.ensures.ok (sym c.in-Some.ensures.check))

pub returns : goal.returns
returns c =
    IfOk-weaker c.answer.result (λ (r : Reply). r ≡ answered_at c.args.tree.now c.args.call.now (site_of c.in-Ok.places.0))
    (IsLooked c.args.tree.now c.args.call.now)
    (λ (r : Reply) (same : r ≡ answered_at c.args.tree.now c.args.call.now (site_of c.in-Ok.places.0)).
    look_answered c.args.tree.now c.args.call.now c.in-Ok.places.0 c.in-Ok.places.1 r c.in-Ok.ensures.ok
    (sym c.own_refusal.ensures.check ∙ c.in_default.is) same)
    c.answer.ensures

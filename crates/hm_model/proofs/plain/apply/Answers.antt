use Rattle.std.proofs.Common.{◌≡◌, ◌∙◌, sym, subst}
use Rattle.hm_model.specs.declared.reply.Reply.{Reply}
use Rattle.hm_model.specs.declared.stop.PlainStop.{PlainStop}
use Rattle.hm_model.specs.declared.stop.PlainStop.TheVariants.{Refused}
use Rattle.hm_model.specs.Plain.{IsRefusing}
use Rattle.hm_model.specs.PlainCall.{StopsCall}
use Rattle.hm_model.proofs.PlainDueLemmas.{own_refuses}
use Rattle.hm_model.proofs.PlainChangeLemmas.{apply_done, apply_refused, hash_refuses}
use Rattle.hm_model.proofs.plain.apply.Goals as goal

pub returns-in-Err : goal.returns-in-Err
returns-in-Err c =
    let P : PlainStop → Type 0 = StopsCall c.args.tree.now c.args.call.now in
    let Q : PlainStop → Type 0 = IsRefusing in
    apply_refused c.args.tree.now c.args.call.now c.args.id.0 c.in_ok-refusal_of-in-Err.field-0 c.in_ok-copy_of-in-Err.field-0 c.requires.0 c.requires.1
    (subst P c.in_ok-refusal_of-in-Err.ensures c.in-Err.ensures.err) (subst Q c.in_ok-refusal_of-in-Err.ensures c.in-Err.ensures.refuses)
    c.in_ok-copy_of-in-Err.ensures

pub returns-in-Some : goal.returns-in-Some
returns-in-Some c =
    apply_refused c.args.tree.now c.args.call.now c.args.id.0 c.in-Some.refusal c.in_ok-copy_of.field-0 c.requires.0 c.requires.1
    (own_refuses c.args.tree.now c.args.call.now c.in-Ok.places.0 c.in-Ok.places.1 c.in-Some.refusal c.in-Ok.ensures.ok (sym c.in-Some.ensures.check))
    c.in-Some.ensures.refuses c.in_ok-copy_of.ensures

pub returns-in-Some-hash_refusal : goal.returns-in-Some-hash_refusal
returns-in-Some-hash_refusal c =
    hash_refuses c.args.tree.now c.args.call.now c.args.id.0 c.in-Ok.places.0 c.in-Ok.places.1 c.in-Some-hash_refusal.refusal c.in_ok-copy_of-2.field-0
    c.requires.0 c.requires.1
    c.in-Ok.ensures.ok (sym c.own_refusal.ensures.check ∙ c.in_default.is) (sym c.in-Some-hash_refusal.ensures.check) c.in-Some-hash_refusal.ensures.refuses
    c.in_ok-copy_of-2.ensures

pub returns : goal.returns
returns c =
    apply_done c.args.tree.now c.args.call.now c.args.id.0 c.in-Ok.places.0 c.in-Ok.places.1 c.in_ok-edit.field-0 c.requires.0 c.requires.1
    c.in-Ok.ensures.ok (sym c.own_refusal.ensures.check ∙ c.in_default.is) (sym c.hash_refusal.ensures.check ∙ c.in_default-hash_refusal.is)
    c.in_ok-edit.ensures

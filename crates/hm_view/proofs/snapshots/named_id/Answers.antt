use Rattle.std.proofs.Common.{◌∙◌, arith, sym}
use Rattle.hm_view.proofs.NamedLemmas.{named_short, none_named, some_named}
use Rattle.hm_view.proofs.snapshots.named_id.Goals as goal

pub returns-then-is_some : goal.returns-then-is_some
returns-then-is_some c =
    some_named c.args.target.now c.loop-rest.rest.now c.read_id-found.result c.loop-rest.invariant
    (sym c.is_some.ensures ∙ c.if-is_some.true) c.read_id-found.ensures

pub loop-rest-preserved : goal.loop-rest-preserved
loop-rest-preserved c =
    none_named c.args.target.now c.loop-rest.rest.now c.read_id-found.result c.loop-rest.invariant
    (sym c.is_some.ensures ∙ c.if-is_some.false) c.read_id-found.ensures
    (omega (arith, c.loop-rest-test.true))

pub returns : goal.returns
returns c = sym (c.loop-rest.invariant ∙ named_short c.loop-rest.rest.now (omega (arith, c.loop-rest-test.false)))

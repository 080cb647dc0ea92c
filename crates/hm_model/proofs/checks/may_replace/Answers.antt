use Rattle.hm_model.proofs.checks.may_replace.Goals as goal

pub returns-in-Some : goal.returns-in-Some
returns-in-Some c = rw (← c.in-Some.ensures) (c.gives_way.ensures c.args.tree.now)

use Rattle.hm_btree.proofs.near.remove_by.Goals as goal

pub returns-then-branch-clause-done : goal.returns-then-branch-clause-done
returns-then-branch-clause-done g c = c.in_ok-remove_near.ensures.done.removes c.if-branch.true c.args.root

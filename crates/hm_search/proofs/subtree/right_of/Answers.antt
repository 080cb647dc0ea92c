use Rattle.std.proofs.Common.{◌+◌, length, sym, ltb-true, ltb-false}
use Rattle.hm_search.proofs.ChildLemmas.{next_read, next_past}
use Rattle.hm_search.proofs.subtree.right_of.Goals as goal

pub returns-in-Some : goal.returns-in-Some
returns-in-Some c =
    next_read c.args.inner.now c.deref.result.now (c.args.i + 1) c.in-Some.next.now c.deref.ensures.0
    (ltb-true (c.args.i + 1) (length c.deref.result.now) (sym c.in-Some.ensures.lookup.0)) c.in-Some.ensures.lookup.1

pub returns-in-None : goal.returns-in-None
returns-in-None c =
    next_past c.args.inner.now c.deref.result.now (c.args.i + 1) c.deref.ensures.0
    (ltb-false (c.args.i + 1) (length c.deref.result.now) (sym c.in-None.ensures.lookup.0))

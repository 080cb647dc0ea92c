use Rattle.std.proofs.Common.{sym, ◌∙◌}
use Rattle.std.proofs.lemmas.Bool.{eqb-true}
use Rattle.hm_key.specs.Balance.{content_of}
use Rattle.hm_calls.proofs.NewSystemLemmas.{numbers_beside, numbers_full, numbers_left, numbers_told}
use Rattle.hm_calls.proofs.new_systems.check_numbers.Goals as goal

pub returns-in_default-clause-check : goal.returns-in_default-clause-check
returns-in_default-clause-check g c =
    numbers_full (content_of (g.T.HasElements.elements c.args.store.now) (g.T.HasRoom.extents c.args.store.now)) c.args.from c.args.beside.0
    c.in_ok-number.field-0 c.in_default.is c.in_ok-number.ensures.ok

pub returns-then-eq-clause-check : goal.returns-then-eq-clause-check
returns-then-eq-clause-check g c =
    numbers_beside (content_of (g.T.HasElements.elements c.args.store.now) (g.T.HasRoom.extents c.args.store.now)) c.args.from c.args.beside.0
    c.in_ok-number.field-0 c.in-Some.number c.in-Some.is (eqb-true c.in-Some.number.0 c.args.beside.0 (sym c.eq.ensures ∙ c.if-eq.true))
    c.in_ok-number.ensures.ok

pub returns-clause-check : goal.returns-clause-check
returns-clause-check g c =
    numbers_left (content_of (g.T.HasElements.elements c.args.store.now) (g.T.HasRoom.extents c.args.store.now)) c.args.from c.args.beside.0
    c.in_ok-number.field-0 c.in-Some.number c.in-Some.is c.in_ok-number.ensures.ok

pub returns-clause-unused : goal.returns-clause-unused
returns-clause-unused g c =
    numbers_told (content_of (g.T.HasElements.elements c.args.store.now) (g.T.HasRoom.extents c.args.store.now)) c.args.from c.args.beside.0
    c.in_ok-number.field-0 c.in-Some.number c.in-Some.is c.in_ok-number.ensures.ok

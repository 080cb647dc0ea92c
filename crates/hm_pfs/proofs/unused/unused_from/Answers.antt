use Rattle.std.proofs.Common.{arith, rules}
use Rattle.hm_key.specs.Counts.{subject_of}
use Rattle.hm_key.specs.Key.{key_of}
use Rattle.hm_types.specs.declared.id.Pfs.{Pfs}
use Rattle.hm_cursor.proofs.StoreLemmas.{same_both}
use Rattle.hm_pfs.proofs.UnusedLemmas.{first_unused, one_used}
use Rattle.hm_pfs.proofs.unused.unused_from.Goals as goal

pub returns-then-is_none-clause-ok : goal.returns-then-is_none-clause-ok
returns-then-is_none-clause-ok g c =
    let invariant = c.loop-number.invariant in
    let pfs : Pfs = record { 0 = c.loop-number.number } in
    first_unused (g.T.HasElements.elements c.args.store.now) (g.T.HasElements.elements c.loop-number.store) (g.T.HasRoom.extents c.args.store.now)
    (subject_of (key_of c.record_base.result)) c.args.from pfs c.in_ok-record.record invariant.keeps.elements
    c.record_base.ensures c.if-is_none.ensures c.in_ok-record.ensures.ok invariant.from c.loop-number-test.true invariant.used

pub loop-number-preserved : goal.loop-number-preserved
loop-number-preserved g c =
    let invariant = c.loop-number.invariant in
    record {
      from = omega (arith, invariant.from);
      used = one_used (g.T.HasElements.elements c.args.store.now) (g.T.HasElements.elements c.loop-number.store) (g.T.HasRoom.extents c.args.store.now)
          (subject_of (key_of c.record_base.result)) c.args.from c.loop-number.number c.in_ok-record.record invariant.keeps.elements
          c.record_base.ensures c.if-is_none.ensures c.in_ok-record.ensures.ok invariant.used;
      keeps = search (rules, same_both);
      name = search rules;
      frame = search rules;
      faults = omega (arith, invariant.faults, c.in_ok-record.ensures.cause.counted.never_falls);
    }

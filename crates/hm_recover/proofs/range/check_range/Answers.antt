use Rattle.std.proofs.Common.{ℕ, ◌-◌, subst, ◌∙◌, arith, Option, IfSome}
use Rattle.hm_disk.specs.Crash.{Told}
use Rattle.hm_disk.proofs.MomentLemmas.{SameLeft-then}
use Rattle.hm_undo.specs.Log.{entry_at}
use Rattle.hm_recover.specs.Damage.{IsWholeEntry}
use Rattle.hm_header.proofs.AnswerLemmas.{IfSome-map}
use Rattle.hm_recover.proofs.AnswerLemmas.{IfSome-two, read-whole}
use Rattle.hm_recover.proofs.DamageLemmas.{range-of-wholes, wholes-more}
use Rattle.hm_recover.proofs.range.check_range.Goals as goal

pub loop-i-preserved : goal.loop-i-preserved
loop-i-preserved g c =
    let header = c.args.header.now in
    let was = c.loop-i.invariant in
    let read = c.in_ok-read_entry.ensures in
    let i = c.loop-i.i in
    let old = g.D.Disk.told c.args.disk.now in
    let here : IfSome old (λ t. IsWholeEntry t.bytes header (entry_at header.undo_first (i - 1))) =
    subst (λ (n : ℕ). IfSome old (λ t. IsWholeEntry t.bytes header n)) c.entry_at-entry.ensures.value
    (subst (λ (o : Option Told). IfSome o (λ t. IsWholeEntry t.bytes header c.entry_at-entry.result)) was.told
    (read-whole c.in_ok-read_entry.field-0 (g.D.Disk.told c.loop-i.disk) header c.entry_at-entry.result c.if-is_none.ensures read.some)) in
    record {
      told = read.same ∙ was.told;
      past = read.past ∙ was.past;
      any_moment = SameLeft-then _ _ _ was.any_moment read.any_moment;
      counted = omega (arith, was.counted, read.cause.never_falls);
      whole = IfSome-two old _ _ _
          (λ t later now. wholes-more t.bytes header (i - 1) (λ j from to. later j (omega (arith, from, c.loop-i-test.true)) to) now)
          was.whole here;
    }

pub returns-clause-ok : goal.returns-clause-ok
returns-clause-ok g c =
    IfSome-map (g.D.Disk.told c.args.disk.now) _ _
    (λ t whole. range-of-wholes t.bytes c.args.header.now (λ j from to. whole j (omega (arith, c.loop-i-test.false)) to)) c.loop-i.invariant.whole

use Rattle.std.proofs.Common.{◌≡◌, ◌-◌, ◌+◌, sym, ◌∙◌, ap, arith, ℕ, ◌<◌}
use Rattle.hm_pages.specs.Store.{contents}
use Rattle.hm_flush.specs.Group.{group_of, next_live}
use Rattle.hm_flush.proofs.GroupLemmas.{next_live-dead}
use Rattle.hm_flush.proofs.group.next_live.Goals as goal

pub loop-i-preserved : goal.loop-i-preserved
loop-i-preserved c =
    let w = (group_of (contents c.args.pages.now)).was_live in
    let i = c.loop-i.i in
    let less : c.args.end - i - 1 ≡ c.args.end - (i + 1) = omega arith in
    let some : 0 < c.args.end - i = omega (arith, c.loop-i-test.true) in
    record {
      below = omega (arith, c.loop-i-test.true);
      same = ap (λ (n : ℕ). next_live w (i + 1) n) (sym less)
          ∙ (sym (next_live-dead w i (c.args.end - i) some (grind arith)) ∙ c.loop-i.invariant.same);
    }

use Rattle.std.proofs.Common.{◌∙◌, [], ◌∷◌, ◌++◌, ap, arith, rules}
use Rattle.hm_retain.specs.Intervals.{numbers_of, IsIntervals}
use Rattle.hm_retain.specs.Growth.{BeginBy, Adds}
use Rattle.hm_retain.proofs.GrowthLemmas.{merged, parted}
use Rattle.hm_retain.proofs.intervals.Intervals.add.Goals as goal

grows : (c : goal.In_ok-push-2) → IsIntervals (numbers_of c.push-then-first-saturating_add.new.self.items)
    × Adds (c.args.first.0, c.args.last.0) (numbers_of c.self.inside.list.items) (numbers_of c.push-then-first-saturating_add.new.self.items)
grows c =
    let begin : BeginBy c.args.first.0 (numbers_of c.self.inside.list.items) = rw c.self.view_is c.requires.rising in
    merged c.self.inside.list.items c.pop.new.self.items c.push-then-first-saturating_add.new.self.items c.in-Some.before _ (
      c.args.first,
      c.args.last,
    ) c.in-Some.ensures.items c.in_ok-push-2.ensures.items (search rules) (search rules) c.self.invariant begin (omega arith)
    c.requires.ordered (omega arith)

pub invariant_of-self-in-Continue-branch-2 : goal.invariant_of-self-in-Continue-branch-2
invariant_of-self-in-Continue-branch-2 c = (grows c).0

pub returns-in_ok-push-2 : goal.returns-in_ok-push-2
returns-in_ok-push-2 c = rw (← c.self.view_is) (grows c).1

goes_on : (c : goal.In_ok-push-4) → IsIntervals (numbers_of c.push-else-first-saturating_add-2.new.self.items)
    × Adds (c.args.first.0, c.args.last.0) (numbers_of c.self.inside.list.items) (numbers_of c.push-else-first-saturating_add-2.new.self.items)
goes_on c =
    let begin : BeginBy c.args.first.0 (numbers_of c.self.inside.list.items) = rw c.self.view_is c.requires.rising in
    parted c.self.inside.list.items c.pop.new.self.items c.push-else-first-saturating_add-2.new.self.items c.in-Some.before (
      c.args.first,
      c.args.last,
    ) c.in-Some.ensures.items (c.in_ok-push-4.ensures.items
    ∙ ap (λ l. l ++ (c.args.first, c.args.last) ∷ []) c.in_ok-push-3.ensures.items) c.self.invariant begin (omega arith) c.requires.ordered (omega arith)

pub invariant_of-self-in-Continue-branch-4 : goal.invariant_of-self-in-Continue-branch-4
invariant_of-self-in-Continue-branch-4 c = (goes_on c).0

pub returns-in_ok-push-4 : goal.returns-in_ok-push-4
returns-in_ok-push-4 c = rw (← c.self.view_is) (goes_on c).1

use Rattle.std.proofs.Common.{Option, Some, subst, ◌∙◌, arith}
use Rattle.std.specs.Prelude.{IfSome}
use Rattle.hm_key.specs.Key.{IsBefore, key_of}
use Rattle.hm_key.specs.declared.base.Base.{Base}
use Rattle.hm_cursor.proofs.StoreLemmas.{same_both, told_both, told_still}
use Rattle.hm_reblock.specs.Choice.{AllNoted}
use Rattle.hm_reblock.proofs.LookLemmas.{all_both, before_both}
use Rattle.hm_reblock.proofs.StageLemmas.{front_both}
use Rattle.hm_reblock.proofs.choice.Choice.collect.Goals as goal

pub loop-preserved : goal.loop-preserved
loop-preserved g c =
    let invariant = c.loop.invariant in
    let last = c.in_ok-next-2.ensures in
    let from = key_of c.args.from.now in
    let came : IfSome (Some c.in-Some.at) (λ b. IsBefore from (key_of b)) =
    subst (λ (o : Option Base). IfSome o (λ b. IsBefore from (key_of b))) c.in-Some.is invariant.further in
    let elements = g.T.HasElements.elements in
    let was = elements c.args.store.now in
    let choice = c.args.self.now in
    let known = c.loop.known.items in
    let more = c.note-in-loop.new.known.items in
    let noted = subst (λ (o : Option Base). IfSome was (λ es. AllNoted choice es from o known)) c.in-Some.is invariant.all in
    record {
      further = before_both from (key_of c.in-Some.at) c.in_ok-next-2.next came last.further;
      all = told_both was (λ es first second. all_both choice es known more from c.in-Some.at c.in_ok-next-2.next last.noted first second) noted
          (told_still (elements c.loop.store) was (λ es. AllNoted choice es (key_of c.in-Some.at) c.in_ok-next-2.next more) invariant.keeps.elements last.all);
      noted = front_both c.args.known.now.items c.loop.known.items c.note-in-loop.new.known.items invariant.noted last.noted;
      keeps = same_both invariant.keeps last.keeps;
      name = last.name ∙ invariant.name;
      frame = last.frame ∙ invariant.frame;
      faults = omega (arith, last.cause.counted.never_falls, invariant.faults);
    }

pub returns-in_default-clause-all : goal.returns-in_default-clause-all
returns-in_default-clause-all g c =
    let was = g.T.HasElements.elements c.args.store.now in
    let from = key_of c.args.from.now in
    subst (λ (o : Option Base). IfSome was (λ es. AllNoted c.args.self.now es from o c.loop.known.items)) c.in_default.is c.loop.invariant.all

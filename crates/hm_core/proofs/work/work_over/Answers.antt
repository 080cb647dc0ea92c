-- A unit of either kind of work is done.
use Rattle.std.proofs.Common.{[], false, refl, subst, sym}
use Rattle.std.specs.Prelude.{IfErr, IfOk}
use Rattle.hm_types.specs.Space.{IfNoSpace}
use Rattle.hm_key.specs.Sweep.{place_from}
use Rattle.hm_relocate.specs.Leaving.{LeavesChoice}
use Rattle.hm_relocate.specs.Unit.{Way}
use Rattle.hm_relocate.specs.Way.{way_of}
use Rattle.hm_stored.specs.Space.{heap}
use Rattle.hm_core.specs.Running.{choice_of_work, open_work, way_of_work}
use Rattle.hm_core.specs.Unit.{EndsOver, IfMoreWorksOn, LacksFor, LacksForChoice}
use Rattle.hm_core.specs.declared.work.Work.{Work}
use Rattle.hm_core.proofs.ChoiceLemmas.{none_left}
use Rattle.hm_core.proofs.WorkLemmas.{lacks_room}
use Rattle.hm_core.proofs.work.work_over.Goals as goal

pub returns-in-Ok-clause-choice : goal.returns-in-Ok-clause-choice
returns-in-Ok-clause-choice g c =
    let h = heap c.args.stored.now.space in
    let h' = heap c.unit_over.new.stored.space in
    (subst (λ (w : Work). LeavesChoice h h' (choice_of_work w) []) (sym c.in-Prune.is) (none_left h h' []), λ is. refl)

pub returns-in-Ok-clause-done : goal.returns-in-Ok-clause-done
returns-in-Ok-clause-done g c = λ is.
    let s = c.args.stored.now in
    let t = c.unit_over.new.stored in
    subst (λ (w : Work). EndsOver (open_work w) c.args.last.0 (heap s.space) (heap t.space) s.root t.root) (sym c.in-Prune.is) (c.in-Ok.ensures.done is)

pub returns-in-Ok-clause-more : goal.returns-in-Ok-clause-more
returns-in-Ok-clause-more g c =
    let s = c.args.stored.now in
    let t = c.unit_over.new.stored in
    let to : Way = record { payloads = place_from c.unit_over.new.prune.from; nodes = false } in
    subst (λ (w : Work). IfMoreWorksOn (open_work w) (way_of_work w) to (choice_of_work w) [] c.args.last.0 (heap s.space) (heap t.space) s.root t.root
    c.in-Ok.progress) (sym c.in-Prune.is) c.in-Ok.ensures.more

pub returns-in-Reblock-clause-more : goal.returns-in-Reblock-clause-more
returns-in-Reblock-clause-more g c =
    let s = c.args.stored.now in
    let t = c.reblock_over.new.stored in
    let new = c.reblock_over.new.reblock in
    subst (λ (w : Work). IfOk c.reblock_over.result (IfMoreWorksOn (open_work w) (way_of_work w) (way_of new) (choice_of_work w) new.payloads.choice
    c.args.last.0 (heap s.space) (heap t.space) s.root t.root)) (sym c.in-Reblock.is) c.reblock_over.ensures.more

pub returns-in-Reblock-clause-space : goal.returns-in-Reblock-clause-space
returns-in-Reblock-clause-space g c =
    let s = c.args.stored.now in
    let r = c.reblock_over.result in
    subst (λ (w : Work). IfErr r (IfNoSpace (LacksFor (open_work w) (heap s.space)))) (sym c.in-Reblock.is)
    (lacks_room c.in-Reblock.reblock.payloads.choice c.args.last.0 (heap s.space) s.root r c.reblock_over.ensures.space)

pub returns-in-Reblock-clause-moves : goal.returns-in-Reblock-clause-moves
returns-in-Reblock-clause-moves g c =
    let s = c.args.stored.now in
    subst (λ (w : Work). IfErr c.reblock_over.result (IfNoSpace (LacksForChoice (choice_of_work w) c.args.last.0 (heap s.space) s.root)))
    (sym c.in-Reblock.is) c.reblock_over.ensures.space

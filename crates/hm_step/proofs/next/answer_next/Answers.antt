use Rattle.std.specs.Prelude.{option_map}
use Rattle.hm_types.specs.declared.id.Id.{Id}
use Rattle.hm_step.proofs.NextCallLemmas.{each_due, each_form, each_possible, each_step}
use Rattle.hm_step.proofs.next.answer_next.Goals as goal

pub returns-clause-step : goal.returns-clause-step
returns-clause-step g c =
    each_step g.T.HasElements.elements g.T.HasElements.mark g.T.HasRoom.extents g.T.HasRoom.room g.T.HasRoom.free
    (record { command = c.args.command.now; last = c.args.last.0; beside = c.args.beside }) c.args.store.now c.answer_call.new.store
    c.answer_call.result (g.met.T.ElementStore.sorted c.answer_call.new.store) c.answer_call.ensures.answers

pub returns-clause-due : goal.returns-clause-due
returns-clause-due g c =
    each_due g.T.HasElements.elements g.T.HasElements.mark g.T.HasRoom.extents g.T.HasRoom.room g.T.HasRoom.free
    (record { command = c.args.command.now; last = c.args.last.0; beside = c.args.beside }) c.args.store.now c.answer_call.new.store
    c.answer_call.result c.answer_call.ensures.answers

pub returns-clause-form : goal.returns-clause-form
returns-clause-form g c =
    each_form g.T.HasElements.elements g.T.HasElements.mark g.T.HasRoom.extents g.T.HasRoom.room g.T.HasRoom.free
    (record { command = c.args.command.now; last = c.args.last.0; beside = c.args.beside }) c.args.store.now c.answer_call.new.store
    c.answer_call.result c.answer_call.ensures.answers

pub returns-clause-possible : goal.returns-clause-possible
returns-clause-possible g c =
    each_possible c.args.last.0 (option_map (λ (i : Id). i.0) c.args.beside.busy) c.args.command.now c.answer_call.result
    c.answer_call.ensures.possible

-- A call is answered, and kept or dropped.
use Rattle.std.proofs.Common.{inr, refl, sym, ap, subst}
use Rattle.std.specs.Prelude.{IfErr, Option}
use Rattle.hm_types.specs.Faults.{IsCaused}
use Rattle.hm_types.specs.declared.fault.Fault.TheVariants.{NoMemory as no_memory}
use Rattle.hm_model.specs.declared.reply.Reply.{Reply}
use Rattle.hm_model.specs.declared.reply.Reply.TheVariants.{NoMemory as no_memory_reply}
use Rattle.hm_pages.specs.Store.{contents}
use Rattle.hm_stored.specs.Heap.{heap_of}
use Rattle.hm_core.specs.Answer.{AnswersOver}
use Rattle.hm_core.specs.State.{OpenWork}
use Rattle.hm_core.specs.Told.{TellsFailure}
use Rattle.hm_core.proofs.AnswerLemmas.{caused_over, dropped_answers, fault_told, kept_answers}
use Rattle.hm_core.proofs.CrashLemmas.{leaves_around}
use Rattle.hm_core.proofs.OutcomeLemmas.{no_choice}
use Rattle.hm_core.proofs.TurnLemmas.{balanced_begun, begun_some, known_begun}
use Rattle.hm_core.proofs.calls.answer_over.Goals as goal

pub answer_next-requires-clause-balanced : goal.answer_next-requires-clause-balanced
answer_next-requires-clause-balanced g c =
    let s = c.args.stored.now in
    let s1 = c.begin.new.self in
    balanced_begun (heap_of (contents s.space.pages.store) (g.D.Disk.told s.space.disk) s.space.books)
    (heap_of (contents s1.space.pages.store) (g.D.Disk.told s1.space.disk) s1.space.books) s.root s1.root c.args.last.0 c.requires.closed s.space.kept
    c.begin.ensures.turn c.begin.ensures.root

pub answer_next-requires-clause-known : goal.answer_next-requires-clause-known
answer_next-requires-clause-known g c =
    let s = c.args.stored.now in
    let s1 = c.begin.new.self in
    known_begun (heap_of (contents s.space.pages.store) (g.D.Disk.told s.space.disk) s.space.books)
    (heap_of (contents s1.space.pages.store) (g.D.Disk.told s1.space.disk) s1.space.books) s.root s1.root c.args.last.0 c.requires.closed s.space.kept
    c.begin.ensures.turn c.begin.ensures.root

pub keep-requires-clause-opened : goal.keep-requires-clause-opened
unfolding heap_of
keep-requires-clause-opened g c =
    let s = c.args.stored.now in
    let s1 = c.begin.new.self in
    let s2 = c.answer_next.new.store in
    begun_some (heap_of (contents s.space.pages.store) (g.D.Disk.told s.space.disk) s.space.books)
    (heap_of (contents s1.space.pages.store) (g.D.Disk.told s1.space.disk) s1.space.books)
    (heap_of (contents s2.space.pages.store) (g.D.Disk.told s2.space.disk) s2.space.books) s.root c.args.last.0 c.begin.ensures.turn
    (ap (λ f. f.0) c.answer_next.ensures.borrowed.1)

pub undo-requires : goal.undo-requires
unfolding heap_of
undo-requires g c =
    let s = c.args.stored.now in
    let s1 = c.begin.new.self in
    let s2 = c.answer_next.new.store in
    record {
      opened = begun_some (heap_of (contents s.space.pages.store) (g.D.Disk.told s.space.disk) s.space.books)
          (heap_of (contents s1.space.pages.store) (g.D.Disk.told s1.space.disk) s1.space.books)
          (heap_of (contents s2.space.pages.store) (g.D.Disk.told s2.space.disk) s2.space.books) s.root c.args.last.0 c.begin.ensures.turn
          (ap (λ f. f.0) c.answer_next.ensures.borrowed.1);
    }

pub undo-requires-in-Err : goal.undo-requires-in-Err
unfolding heap_of
undo-requires-in-Err g c =
    let s = c.args.stored.now in
    let s1 = c.begin.new.self in
    let s2 = c.answer_next.new.store in
    record {
      opened = begun_some (heap_of (contents s.space.pages.store) (g.D.Disk.told s.space.disk) s.space.books)
          (heap_of (contents s1.space.pages.store) (g.D.Disk.told s1.space.disk) s1.space.books)
          (heap_of (contents s2.space.pages.store) (g.D.Disk.told s2.space.disk) s2.space.books) s.root c.args.last.0 c.begin.ensures.turn
          (ap (λ f. f.0) c.answer_next.ensures.borrowed.1);
    }

pub returns-in-Ok : goal.returns-in-Ok
unfolding heap_of
returns-in-Ok g c =
    let s = c.args.stored.now in
    let s1 = c.begin.new.self in
    let s2 = c.answer_next.new.store in
    let s3 = c.keep.new.self in
    record {
      answers = λ boundary.
          subst (λ (x : Reply × Option OpenWork). AnswersOver c.args.numbers boundary (g.D.Disk.faults s.space.disk) (g.D.Disk.faults s3.space.disk)
          c.args.last.0 c.args.command.now (heap_of (contents s.space.pages.store) (g.D.Disk.told s.space.disk) s.space.books)
          (heap_of (contents s3.space.pages.store) (g.D.Disk.told s3.space.disk) s3.space.books) s.root s3.root x.0 x.1)
          (λ i. (sym c.outcome_of.ensures.reply i, sym c.outcome_of.ensures.work i))
          (kept_answers (λ s. heap_of (contents s.space.pages.store) (g.D.Disk.told s.space.disk) s.space.books) (λ s. s.root)
          (heap_of (contents s.space.pages.store) (g.D.Disk.told s.space.disk) s.space.books) s.root c.args.last.0 s1 s2
          (heap_of (contents s3.space.pages.store) (g.D.Disk.told s3.space.disk) s3.space.books) s3.root c.args.command.now c.args.numbers
          (g.D.Disk.faults s.space.disk) (g.D.Disk.faults s3.space.disk) c.requires.closed s.space.kept c.begin.ensures.turn c.begin.ensures.root
          (ap (λ f. f.0) c.answer_next.ensures.borrowed.1) c.requires.served.0 c.requires.left c.answer_next.result
          (caused_over _ _ _ _ (g.D.Disk.faults s.space.disk) (g.D.Disk.faults s3.space.disk) c.answer_next.result
          (ap g.D.Disk.faults c.begin.ensures.disk) (ap g.D.Disk.faults c.keep.ensures.disk) c.answer_next.ensures.cause)
          (c.can_keep.ensures.0 c.if-can_keep.true).whole c.keep.ensures.turn c.keep.ensures.content c.keep.ensures.root c.pages_are_bytes.ensures s2.tree
          c.in-Ok.answered c.in-Ok.ensures.step c.in-Ok.ensures.charges c.in-Ok.ensures.possible c.in-Ok.ensures.due c.in-Ok.ensures.form
          boundary);
      crashes = leaves_around g.D.Disk.left_since g.D.Disk.told s.space.disk s1.space.disk s2.space.disk s3.space.disk c.begin.ensures.disk
          c.keep.ensures.disk (c.what_a_crash_leaves_over_calls.ensures s1 s2 c.answer_next.ensures.borrowed.1);
      begins = no_choice c.args.command.now (heap_of (contents s.space.pages.store) (g.D.Disk.told s.space.disk) s.space.books) c.outcome_of.result
          c.requires.served.0;
    }

pub returns-in-Ok-2 : goal.returns-in-Ok-2
unfolding heap_of
returns-in-Ok-2 g c =
    let s = c.args.stored.now in
    let s1 = c.begin.new.self in
    let s2 = c.answer_next.new.store in
    let s3 = c.undo.new.self in
    record {
      answers = dropped_answers (λ s. heap_of (contents s.space.pages.store) (g.D.Disk.told s.space.disk) s.space.books) (λ s. s.root)
          (heap_of (contents s.space.pages.store) (g.D.Disk.told s.space.disk) s.space.books) s.root c.args.last.0 s1 s2
          (heap_of (contents s3.space.pages.store) (g.D.Disk.told s3.space.disk) s3.space.books) s3.root c.args.command.now c.args.numbers
          (g.D.Disk.faults s.space.disk) (g.D.Disk.faults s3.space.disk) c.requires.closed s.space.kept c.begin.ensures.turn c.begin.ensures.root
          (ap (λ f. f.0) c.answer_next.ensures.borrowed.1) c.requires.served.0 c.requires.left c.answer_next.result
          (caused_over _ _ _ _ (g.D.Disk.faults s.space.disk) (g.D.Disk.faults s3.space.disk) c.answer_next.result
          (ap g.D.Disk.faults c.begin.ensures.disk) (ap g.D.Disk.faults c.undo.ensures.disk) c.answer_next.ensures.cause)
          no_memory_reply c.undo.ensures.turn c.undo.ensures.root c.undo.ensures.held (λ volume holds. inr refl) no_memory refl tt;
      crashes = leaves_around g.D.Disk.left_since g.D.Disk.told s.space.disk s1.space.disk s2.space.disk s3.space.disk c.begin.ensures.disk
          c.undo.ensures.disk (c.what_a_crash_leaves_over_calls.ensures s1 s2 c.answer_next.ensures.borrowed.1);
      begins = tt;
    }

pub returns-in-Err : goal.returns-in-Err
unfolding heap_of
returns-in-Err g c =
    let s = c.args.stored.now in
    let s1 = c.begin.new.self in
    let s2 = c.answer_next.new.store in
    let s3 = c.undo-in-Err.new.self in
    let cause =
    caused_over _ _ _ _ (g.D.Disk.faults s.space.disk) (g.D.Disk.faults s3.space.disk) c.answer_next.result
    (ap g.D.Disk.faults c.begin.ensures.disk) (ap g.D.Disk.faults c.undo-in-Err.ensures.disk) c.answer_next.ensures.cause in
    record {
      answers = dropped_answers (λ s. heap_of (contents s.space.pages.store) (g.D.Disk.told s.space.disk) s.space.books) (λ s. s.root)
          (heap_of (contents s.space.pages.store) (g.D.Disk.told s.space.disk) s.space.books) s.root c.args.last.0 s1 s2
          (heap_of (contents s3.space.pages.store) (g.D.Disk.told s3.space.disk) s3.space.books) s3.root c.args.command.now c.args.numbers
          (g.D.Disk.faults s.space.disk) (g.D.Disk.faults s3.space.disk) c.requires.closed s.space.kept c.begin.ensures.turn c.begin.ensures.root
          (ap (λ f. f.0) c.answer_next.ensures.borrowed.1) c.requires.served.0 c.requires.left c.answer_next.result cause
          c.failure.result c.undo-in-Err.ensures.turn c.undo-in-Err.ensures.root c.undo-in-Err.ensures.held
          (λ volume holds.
          subst (λ r. TellsFailure (g.D.Disk.faults s.space.disk) (g.D.Disk.faults s3.space.disk) r) (sym c.failure.ensures)
          (fault_told (λ s. heap_of (contents s.space.pages.store) (g.D.Disk.told s.space.disk) s.space.books) (λ s. s.root)
          (heap_of (contents s.space.pages.store) (g.D.Disk.told s.space.disk) s.space.books) s.root c.args.last.0 s1 s2
          (heap_of (contents s3.space.pages.store) (g.D.Disk.told s3.space.disk) s3.space.books) s3.root c.args.command.now c.args.numbers
          (g.D.Disk.faults s.space.disk) (g.D.Disk.faults s3.space.disk) c.requires.closed s.space.kept c.begin.ensures.turn c.begin.ensures.root
          (ap (λ f. f.0) c.answer_next.ensures.borrowed.1) c.requires.served.0 c.requires.left c.answer_next.result cause c.in-Err.fault
          c.in-Err.is volume holds))
          c.in-Err.fault c.failure.ensures
          (subst (λ r. IfErr r (IsCaused (g.D.Disk.faults s.space.disk) (g.D.Disk.faults s3.space.disk))) c.in-Err.is cause.counted.caused);
      crashes = leaves_around g.D.Disk.left_since g.D.Disk.told s.space.disk s1.space.disk s2.space.disk s3.space.disk c.begin.ensures.disk
          c.undo-in-Err.ensures.disk (c.what_a_crash_leaves_over_calls.ensures s1 s2 c.answer_next.ensures.borrowed.1);
      begins = tt;
    }

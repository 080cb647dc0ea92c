-- A reblock is opened.
use Rattle.std.proofs.Common.{None, ap, inr, subst, sym}
use Rattle.hm_model.specs.declared.command.Command.TheVariants.{Reblock}
use Rattle.hm_model.specs.declared.reply.Reply.{Reply}
use Rattle.hm_pages.specs.Store.{contents}
use Rattle.hm_stored.specs.Heap.{heap_of}
use Rattle.hm_core.specs.Answer.{AnswersOver}
use Rattle.hm_core.proofs.CrashLemmas.{leaves_same}
use Rattle.hm_core.proofs.OutcomeLemmas.{begins_with}
use Rattle.hm_core.proofs.TellLemmas.{chosen_answers, failed_answers}
use Rattle.hm_core.proofs.opening.open_reblock.Goals as goal

pub returns-in-Ok : goal.returns-in-Ok
unfolding heap_of
returns-in-Ok g c =
    let s = c.args.stored.now in
    let t = c.choose.new.stored in
    let h = heap_of (contents s.space.pages.store) (g.D.Disk.told s.space.disk) s.space.books in
    record {
      answers = λ numbers boundary last left.
          chosen_answers h (heap_of (contents t.space.pages.store) (g.D.Disk.told t.space.disk) t.space.books) s.root t.root
          (g.D.Disk.faults s.space.disk) (g.D.Disk.faults t.space.disk) c.requires.closed c.choose.ensures.same c.choose.ensures.rest.0
          (ap g.D.Disk.faults c.choose.ensures.rest.1) last left numbers boundary c.args.fill;
      crashes = leaves_same g.D.Disk.left_since g.D.Disk.told s.space.disk t.space.disk c.choose.ensures.rest.1;
      begins = begins_with c.args.fill h _ _ c.new.ensures c.in-Ok.ensures.ok;
    }

pub returns-in-Err : goal.returns-in-Err
unfolding heap_of
returns-in-Err g c =
    let s = c.args.stored.now in
    let t = c.choose.new.stored in
    let h = heap_of (contents s.space.pages.store) (g.D.Disk.told s.space.disk) s.space.books in
    let h' = heap_of (contents t.space.pages.store) (g.D.Disk.told t.space.disk) t.space.books in
    record {
      answers = λ numbers boundary last left.
          subst (λ (r : Reply). AnswersOver numbers boundary (g.D.Disk.faults s.space.disk) (g.D.Disk.faults t.space.disk) last
          (Reblock c.args.fill) h h' s.root t.root r None) (sym c.failure.ensures)
          (failed_answers h h' s.root t.root (g.D.Disk.faults s.space.disk) (g.D.Disk.faults t.space.disk) c.requires.closed
          c.choose.ensures.same c.choose.ensures.rest.0 (ap g.D.Disk.faults c.choose.ensures.rest.1) last left numbers boundary (Reblock c.args.fill)
          (inr tt) c.in-Err.fault c.in-Err.ensures.cause c.in-Err.ensures.no_media);
      crashes = leaves_same g.D.Disk.left_since g.D.Disk.told s.space.disk t.space.disk c.choose.ensures.rest.1;
      begins = tt;
    }

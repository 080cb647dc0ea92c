-- The space is told.
use Rattle.std.proofs.Common.{None, ap, inl, refl, subst, sym, ℕ, ◌∙◌, ◌-◌}
use Rattle.hm_types.specs.Layout.{first_pool}
use Rattle.hm_model.specs.declared.command.Command.TheVariants.{Df}
use Rattle.hm_model.specs.declared.reply.Reply.{Reply}
use Rattle.hm_pages.specs.Store.{contents}
use Rattle.hm_stored.specs.Heap.{heap_of}
use Rattle.hm_stored.specs.declared.books.Books.{Books}
use Rattle.hm_core.specs.Answer.{AnswersOver}
use Rattle.hm_core.proofs.CrashLemmas.{leaves_same}
use Rattle.hm_core.proofs.TellLemmas.{failed_answers, told_answers}
use Rattle.hm_core.proofs.space.tell_space.Goals as goal

pub returns-in-Ok : goal.returns-in-Ok
unfolding heap_of
returns-in-Ok g c =
    let s = c.args.stored.now in
    let t = c.free_blocks.new.self in
    let blocks = ap (λ (b : Books). b.bigblocks) (c.books.ensures ∙ ap (λ s. s.books) c.space.ensures) in
    record {
      answers = λ numbers boundary last left.
          told_answers (heap_of (contents s.space.pages.store) (g.D.Disk.told s.space.disk) s.space.books)
          (heap_of (contents t.space.pages.store) (g.D.Disk.told t.space.disk) t.space.books) s.root t.root (g.D.Disk.faults s.space.disk)
          (g.D.Disk.faults t.space.disk) c.requires.closed c.free_blocks.ensures.same c.free_blocks.ensures.rest.0
          (ap g.D.Disk.faults c.free_blocks.ensures.rest.1) last left numbers boundary (c.books.result.now.bigblocks - c.first_pool.result) c.in-Ok.free
          (ap (λ (n : ℕ). c.books.result.now.bigblocks - n) c.first_pool.ensures.value
          ∙ ap (λ (n : ℕ). n - first_pool n) blocks) c.in-Ok.ensures.ok;
      crashes = leaves_same g.D.Disk.left_since g.D.Disk.told s.space.disk t.space.disk c.free_blocks.ensures.rest.1;
    }

pub returns-in-Err : goal.returns-in-Err
unfolding heap_of
returns-in-Err g c =
    let s = c.args.stored.now in
    let t = c.free_blocks.new.self in
    let h = heap_of (contents s.space.pages.store) (g.D.Disk.told s.space.disk) s.space.books in
    let h' = heap_of (contents t.space.pages.store) (g.D.Disk.told t.space.disk) t.space.books in
    record {
      answers = λ numbers boundary last left.
          subst (λ (r : Reply). AnswersOver numbers boundary (g.D.Disk.faults s.space.disk) (g.D.Disk.faults t.space.disk) last Df h h' s.root t.root r None)
          (sym c.failure.ensures)
          (failed_answers h h' s.root t.root (g.D.Disk.faults s.space.disk) (g.D.Disk.faults t.space.disk) c.requires.closed
          c.free_blocks.ensures.same c.free_blocks.ensures.rest.0 (ap g.D.Disk.faults c.free_blocks.ensures.rest.1) last left numbers boundary Df (inl refl)
          c.in-Err.fault
          c.in-Err.ensures.cause c.in-Err.ensures.no_media);
      crashes = leaves_same g.D.Disk.left_since g.D.Disk.told s.space.disk t.space.disk c.free_blocks.ensures.rest.1;
    }

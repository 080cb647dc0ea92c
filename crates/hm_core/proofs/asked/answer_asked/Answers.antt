-- The command is told apart.
use Rattle.std.proofs.Common.{None, inl, subst, sym}
use Rattle.hm_types.specs.declared.id.Id.{Id}
use Rattle.hm_model.specs.declared.command.Command.{Command}
use Rattle.hm_model.specs.declared.reply.Reply.TheVariants.{Synced}
use Rattle.hm_pages.specs.Store.{contents}
use Rattle.hm_stored.specs.Heap.{heap_of}
use Rattle.hm_core.specs.Answer.{AnswersOver}
use Rattle.hm_core.proofs.OutcomeLemmas.{reblock_answers, reblock_begins}
use Rattle.hm_core.proofs.SyncLemmas.{sync_answers}
use Rattle.hm_core.proofs.asked.answer_asked.Goals as goal

pub returns-in-Df : goal.returns-in-Df
returns-in-Df g c =
    let s = c.args.stored.now in
    let t = c.tell_space.new.stored in
    record {
      answers = subst (λ (command : Command). AnswersOver c.args.numbers c.args.flusher.now.header.last.0 (g.D.Disk.faults s.space.disk)
          (g.D.Disk.faults t.space.disk)
          c.args.last.0 command
          (heap_of (contents s.space.pages.store) (g.D.Disk.told s.space.disk) s.space.books)
          (heap_of (contents t.space.pages.store) (g.D.Disk.told t.space.disk) t.space.books) s.root t.root c.tell_space.result None)
          (sym c.in-Df.is) (c.tell_space.ensures.answers c.args.numbers c.args.flusher.now.header.last.0 c.args.last.0 c.requires.left);
      crashes = c.tell_space.ensures.crashes;
      begins = tt;
    }

pub returns-in-Reblock : goal.returns-in-Reblock
returns-in-Reblock g c =
    let s = c.args.stored.now in
    let t = c.open_reblock.new.stored in
    record {
      answers = reblock_answers c.args.numbers c.args.flusher.now.header.last.0 (g.D.Disk.faults s.space.disk) (g.D.Disk.faults t.space.disk)
          c.args.last.0 c.args.command.now c.in-Reblock.fill
          (heap_of (contents s.space.pages.store) (g.D.Disk.told s.space.disk) s.space.books)
          (heap_of (contents t.space.pages.store) (g.D.Disk.told t.space.disk) t.space.books) s.root t.root c.open_reblock.result
          c.in-Reblock.is (c.open_reblock.ensures.answers c.args.numbers c.args.flusher.now.header.last.0 c.args.last.0 c.requires.left);
      crashes = c.open_reblock.ensures.crashes;
      begins = reblock_begins c.args.command.now c.in-Reblock.fill
          (heap_of (contents s.space.pages.store) (g.D.Disk.told s.space.disk) s.space.books) c.open_reblock.result c.in-Reblock.is
          c.open_reblock.ensures.begins;
    }

pub returns-in_default : goal.returns-in_default
returns-in_default g c = record {
  answers = c.answer_over.ensures.answers c.args.flusher.now.header.last.0;
  crashes = c.answer_over.ensures.crashes;
  begins = c.answer_over.ensures.begins;
}

pub returns-in-Sync : goal.returns-in-Sync
returns-in-Sync g c =
    let s = c.args.stored.now in
    let h = heap_of (contents s.space.pages.store) (g.D.Disk.told s.space.disk) s.space.books in
    let faults = g.D.Disk.faults s.space.disk in
    record {
      answers = subst
          (λ (id : Id). AnswersOver c.args.numbers id.0 faults faults c.args.last.0 c.args.command.now h h s.root s.root (Synced c.boundary.result) None)
          c.boundary.ensures
          (sync_answers c.args.numbers c.boundary.result faults c.args.last.0 c.args.command.now h s.root c.in-Sync.is c.requires.closed c.requires.left);
      crashes = λ moment image left. inl left;
      begins = tt;
    }

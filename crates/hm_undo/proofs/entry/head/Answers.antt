use Rattle.hm_undo.proofs.EntryLemmas.{head-built}
use Rattle.hm_undo.proofs.entry.head.Goals as goal

pub returns : goal.returns
returns c =
    head-built c.copy_from_slice.new.self c.write_u64.new.buf c.write_u64-2.new.buf c.args.at c.raw.result c.args.generation
    c.copy_from_slice.ensures.after c.raw.ensures.value c.write_u64.ensures c.write_u64-2.ensures

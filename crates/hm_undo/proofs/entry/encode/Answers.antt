use Rattle.std.proofs.Common.{length, ap, ◌∙◌}
use Rattle.hm_undo.specs.Entry.{undo_entry_of}
use Rattle.hm_undo.proofs.EntryLemmas.{entry-built}
use Rattle.hm_undo.proofs.entry.encode.Goals as goal

pub returns : goal.returns
returns c =
    let page = c.copy_from_slice-2.ensures.after ∙ c.bytes.ensures.value in
    entry-built c.args.into.now c.copy_from_slice.new.self c.copy_from_slice-2.new.self c.args.at c.args.generation c.told-into
    (c.copy_from_slice.ensures.after ∙ c.head-head.ensures) (ap length page ∙ c.bytes.ensures.sized)
    ∙ ap (undo_entry_of c.args.at c.args.generation) page

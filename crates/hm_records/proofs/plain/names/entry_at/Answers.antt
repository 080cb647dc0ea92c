use Rattle.std.proofs.Common.{◌≡◌, ◌≢◌, sym, subst}
use Rattle.std.specs.Prelude.{Option, None, Result}
use Rattle.hm_types.specs.declared.fault.Fault.{Fault}
use Rattle.hm_types.specs.declared.fault.Fault.TheVariants.{NoMemory}
use Rattle.hm_records.specs.declared.entry.DirEntry.{DirEntry}
use Rattle.hm_key.specs.Counts.{Counts, Subject}
use Rattle.hm_records.specs.Changes.{CountsNothing}
use Rattle.hm_records.specs.Faults.{Reads}
use Rattle.hm_records.specs.PlainView.{IsEntryAt}
use Rattle.hm_records.proofs.PlainTreeLemmas.{no_bytes_at, no_entry_at, ok_weaker}
use Rattle.hm_records.proofs.plain.names.entry_at.Goals as goal

pub returns-in_default : goal.returns-in_default
returns-in_default c =
    no_entry_at c.args.elements.now c.args.id c.args.pfs.0 c.args.directory c.args.key
    (subst (λ (s : Subject). CountsNothing (Counts c.args.elements.now c.args.id) s) c.entry_of.ensures c.in_default.ensures)

pub returns-in-Err : goal.returns-in-Err
returns-in-Err c =
    ok_weaker c.unless_no_memory.result
    (λ (e : Option DirEntry). (e ≡ None) × (c.in-Err.fault ≢ NoMemory))
    (IsEntryAt (Counts c.args.elements.now c.args.id) c.args.pfs.0 c.args.directory c.args.key)
    (λ e h.
    subst (λ (o : Option DirEntry). IsEntryAt (Counts c.args.elements.now c.args.id) c.args.pfs.0 c.args.directory c.args.key o) (sym h.0)
    (no_bytes_at c.args.elements.now c.args.id c.args.pfs.0 c.args.directory c.args.key c.in-Some.bytes.now c.requires
    (subst (λ (s : Subject). Counts c.args.elements.now c.args.id s c.in-Some.bytes.now) c.entry_of.ensures c.in-Some.ensures)
    (λ entry ranges same. h.1 (subst (λ (r : Result DirEntry Fault). Reads entry r) c.in-Err.is (c.decode_entry.ensures.only entry ranges same)))))
    c.unless_no_memory.ensures

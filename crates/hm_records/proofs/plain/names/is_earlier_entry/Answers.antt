use Rattle.std.proofs.Common.{◌≡◌, ℕ, sym, ap, subst, ◌∙◌}
use Rattle.std.specs.Prelude.{Option}
use Rattle.hm_records.specs.declared.entry.DirEntry.{DirEntry}
use Rattle.hm_key.specs.Counts.{Counts, entry_subject, subject_of}
use Rattle.hm_records.specs.View.{HasEntry}
use Rattle.hm_records.specs.PlainView.{IsEntryAt, IsLess}
use Rattle.hm_records.proofs.ChangeLemmas.{about_is}
use Rattle.hm_records.proofs.CountsLemmas.{settled}
use Rattle.hm_records.proofs.PlainTreeLemmas.{earlier_test}
use Rattle.hm_records.proofs.plain.names.is_earlier_entry.Goals as goal

pub returns-in-Some : goal.returns-in-Some
returns-in-Some c =
    let about : subject_of c.args.element.now.key ≡ entry_subject c.args.pfs.0 c.args.directory.0 c.args.element.now.key.key =
    about_is c.entry_of.result c.args.element.now.key (sym c.is_about.ensures ∙ c.if-not-is_about.false)
    ∙ c.entry_of.ensures ∙ ap (entry_subject c.args.pfs.0 c.args.directory.0) c.key-key.ensures in
    let before : IsLess c.args.element.now.key.key c.args.first =
    subst (λ (k : ℕ). IsLess k c.args.first) c.key-key.ensures (c.is_less.ensures.0 c.if-not-is_less.false) in
    let has : HasEntry (Counts c.args.elements.now c.args.id) c.args.pfs.0 c.args.directory c.args.element.now.key.key c.in-Some.entry.name
    c.in-Some.entry.obj =
    subst (λ (k : ℕ). HasEntry (Counts c.args.elements.now c.args.id) c.args.pfs.0 c.args.directory k c.in-Some.entry.name c.in-Some.entry.obj)
    c.key-key.ensures
    (subst (λ (o : Option DirEntry). IsEntryAt (Counts c.args.elements.now c.args.id) c.args.pfs.0 c.args.directory c.key-key.result o) c.in-Some.is
    c.in_ok-entry.ensures) in
    rw c.eq.ensures
    (earlier_test (Counts c.args.elements.now c.args.id) c.args.pfs.0 c.args.directory c.args.name.now c.args.first c.args.element.now c.in-Some.entry
    (settled c.args.elements.now c.args.id c.requires) about before has)

use Rattle.std.proofs.Common.{◌≡◌, ℕ, sym, ap, subst, ◌∙◌}
use Rattle.std.specs.Prelude.{Option}
use Rattle.hm_types.specs.declared.id.Obj.{Obj}
use Rattle.hm_records.specs.declared.entry.DirEntry.{DirEntry}
use Rattle.hm_key.specs.Counts.{Counts, entry_subject, subject_of}
use Rattle.hm_records.specs.View.{HasEntry}
use Rattle.hm_records.specs.PlainView.{IsEntryAt, NameLeadsTo}
use Rattle.hm_records.proofs.ChangeLemmas.{about_is}
use Rattle.hm_records.proofs.CountsLemmas.{settled}
use Rattle.hm_records.proofs.PlainTreeLemmas.{triple_known, triple_lacks}
use Rattle.hm_records.proofs.plain.names.new_triple_of.Goals as goal

pub returns-then-has_triple : goal.returns-then-has_triple
returns-then-has_triple c =
    let about : subject_of c.args.element.now.key ≡ entry_subject c.args.pfs.0 c.obj-directory.result.0 c.args.element.now.key.key =
    about_is c.entry_of.result c.args.element.now.key (sym c.is_about.ensures ∙ c.if-not-is_about.false)
    ∙ c.entry_of.ensures ∙ ap (entry_subject c.args.pfs.0 c.obj-directory.result.0) c.key.ensures in
    let has : HasEntry (Counts c.args.elements.now c.args.id) c.args.pfs.0 c.obj-directory.result c.args.element.now.key.key c.in-Some.entry.name
    c.in-Some.entry.obj =
    subst (λ (k : ℕ). HasEntry (Counts c.args.elements.now c.args.id) c.args.pfs.0 c.obj-directory.result k c.in-Some.entry.name c.in-Some.entry.obj)
    c.key-2.ensures
    (subst (λ (o : Option DirEntry). IsEntryAt (Counts c.args.elements.now c.args.id) c.args.pfs.0 c.obj-directory.result c.key-2.result o)
    c.in-Some.is c.in_ok-entry.ensures) in
    triple_known (Counts c.args.elements.now c.args.id) c.args.pfs.0 c.args.element.now c.obj-directory.result c.in-Some.entry c.args.triples.now
    (settled c.args.elements.now c.args.id c.requires) about has (c.has_triple.ensures.0 c.if-has_triple.true)

pub returns-in_default-2 : goal.returns-in_default-2
returns-in_default-2 c =
    let has : HasEntry (Counts c.args.elements.now c.args.id) c.args.pfs.0 c.obj-directory.result c.args.element.now.key.key c.in-Some.entry.name
    c.in-Some.entry.obj =
    subst (λ (k : ℕ). HasEntry (Counts c.args.elements.now c.args.id) c.args.pfs.0 c.obj-directory.result k c.in-Some.entry.name c.in-Some.entry.obj)
    c.key-2.ensures
    (subst (λ (o : Option DirEntry). IsEntryAt (Counts c.args.elements.now c.args.id) c.args.pfs.0 c.obj-directory.result c.key-2.result o)
    c.in-Some.is c.in_ok-entry.ensures) in
    triple_lacks (Counts c.args.elements.now c.args.id) c.args.pfs.0 c.args.element.now c.obj-directory.result c.in-Some.entry c.args.triples.now has
    (subst (λ (o : Option Obj). NameLeadsTo (Counts c.args.elements.now c.args.id) c.args.pfs.0 c.obj-directory.result c.in-Some.entry.name o)
    c.in_default-2.is c.in_ok-object.ensures)

use Rattle.std.proofs.Common.{List, sym, subst, ◌∙◌}
use Rattle.std.specs.Prelude.{Option}
use Rattle.std.proofs.lemmas.Bool.{false≢true}
use Rattle.std.proofs.lemmas.List.{take_all}
use Rattle.hm_types.specs.Elements.{FullElement}
use Rattle.hm_records.specs.declared.entry.DirEntry.{DirEntry}
use Rattle.hm_key.specs.Counts.{Counts}
use Rattle.hm_records.specs.PlainView.{IsEntryAt, IsFirstKey}
use Rattle.hm_records.proofs.PlainTreeLemmas.{first_none, first_some, key_passed, key_taken}
use Rattle.hm_records.proofs.plain.names.first_entry.Goals as goal
use Rattle.hm_records.proofs.plain.names.first_entry.Goals.{then-branch, else-branch}

pub loop-element-preserved : goal.loop-element-preserved
loop-element-preserved c = elim c.if-branch.branch [
  | then-branch w ↦
      rw (w.first-is, w.key.ensures)
      (key_taken (Counts c.args.elements.now c.args.id) c.args.pfs.0 c.args.directory c.args.name.now c.args.elements.now
      c.loop-element.element-index c.element-item.result
      c.loop-element-test.true c.element-item.is c.loop-element.first c.loop-element.invariant (c.in_ok-is_earlier_entry.ensures.0 w.if-branch.true))
  | else-branch w ↦
      rw w.first-is
      (key_passed (Counts c.args.elements.now c.args.id) c.args.pfs.0 c.args.directory c.args.name.now c.args.elements.now
      c.loop-element.element-index c.element-item.result
      c.loop-element-test.true c.element-item.is c.loop-element.first c.loop-element.invariant
      (λ held. false≢true (sym w.if-branch.false ∙ c.in_ok-is_earlier_entry.ensures.1 held)))
]

pub returns-in_default : goal.returns-in_default
returns-in_default c =
    let all : IsFirstKey (Counts c.args.elements.now c.args.id) c.args.pfs.0 c.args.directory c.args.name.now c.args.elements.now c.loop-element.first =
    subst (λ (es : List FullElement). IsFirstKey (Counts c.args.elements.now c.args.id) c.args.pfs.0 c.args.directory c.args.name.now es c.loop-element.first)
    (take_all c.loop-element.element-index c.args.elements.now c.loop-element-test.false) c.loop-element.invariant in
    first_none c.args.elements.now c.args.id c.args.pfs.0 c.args.directory c.args.name.now (rw c.in_default.is at all)

pub returns : goal.returns
returns c =
    let all : IsFirstKey (Counts c.args.elements.now c.args.id) c.args.pfs.0 c.args.directory c.args.name.now c.args.elements.now c.loop-element.first =
    subst (λ (es : List FullElement). IsFirstKey (Counts c.args.elements.now c.args.id) c.args.pfs.0 c.args.directory c.args.name.now es c.loop-element.first)
    (take_all c.loop-element.element-index c.args.elements.now c.loop-element-test.false) c.loop-element.invariant in
    first_some c.args.elements.now c.args.id c.args.pfs.0 c.args.directory c.args.name.now c.in-Some.key c.in-Some-2.entry c.requires (rw c.in-Some.is at all)
    (subst (λ (o : Option DirEntry). IsEntryAt (Counts c.args.elements.now c.args.id) c.args.pfs.0 c.args.directory c.in-Some.key o) c.in-Some-2.is
    c.in_ok-entry.ensures)

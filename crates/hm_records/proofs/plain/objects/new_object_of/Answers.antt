use Rattle.std.proofs.Common.{◌≡◌, sym, ◌∙◌}
use Rattle.std.proofs.lemmas.Bool.{false≢true}
use Rattle.hm_key.specs.Counts.{Counts, inode_subject, subject_of}
use Rattle.hm_records.specs.PlainView.{IsNewObject, IsObjectAt}
use Rattle.hm_records.proofs.ChangeLemmas.{about_is}
use Rattle.hm_records.proofs.PlainTreeLemmas.{object_new, ok_weaker}
use Rattle.hm_records.proofs.plain.objects.new_object_of.Goals as goal

pub returns : goal.returns
returns c =
    let about : subject_of c.args.element.now.key ≡ inode_subject c.args.pfs.0 c.obj-number.result.0 =
    about_is c.inode_of.result c.args.element.now.key (sym c.is_about.ensures ∙ c.if-not-is_about.false) ∙ c.inode_of.ensures in
    ok_weaker c.object_at.result
    (IsObjectAt (Counts c.args.elements.now c.args.id) c.args.pfs.0 c.obj-number.result.0)
    (IsNewObject (Counts c.args.elements.now c.args.id) c.args.pfs.0 c.args.element.now c.args.objects.now)
    (object_new (Counts c.args.elements.now c.args.id) c.args.pfs.0 c.obj-number.result.0 c.args.element.now c.args.objects.now about
    (λ has. false≢true (sym c.if-has_number.false ∙ c.has_number.ensures.1 has)))
    c.object_at.ensures

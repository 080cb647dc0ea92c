use Rattle.std.proofs.Common.{sym, ◌∙◌}
use Rattle.std.proofs.lemmas.Bool.{false≢true}
use Rattle.hm_records.proofs.PlainLemmas.{newest_unseen}
use Rattle.hm_records.proofs.plain.element.counted.Goals as goal

pub returns-then-not-is_seen : goal.returns-then-not-is_seen
returns-then-not-is_seen c =
    newest_unseen c.args.elements.now c.args.id c.args.subject.now c.in-Some.element.now c.requires c.in-Some.ensures
    (λ seen. false≢true (sym c.if-not-is_seen.true ∙ c.is_seen.ensures.1 seen))

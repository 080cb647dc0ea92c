use Rattle.hm_recover.proofs.DamageLemmas.{broken-holds-none, other-holds-none}
use Rattle.hm_recover.proofs.entry.page_of.Goals.{else-generation-header-via-then-generation-header+else-is_page_of}
use Rattle.hm_recover.proofs.entry.page_of.Goals.{else-generation-header-via-else-generation-header}
use Rattle.hm_recover.proofs.entry.page_of.Goals as goal

pub returns-in_err-at-clause-none : goal.returns-in_err-at-clause-none
returns-in_err-at-clause-none c = rw c.from_residual.ensures (broken-holds-none c.args.bytes.now c.args.header.now c.in_err-at.ensures.none)

pub returns-else-generation-header-clause-none : goal.returns-else-generation-header-clause-none
returns-else-generation-header-clause-none c =
    other-holds-none c.args.bytes.now c.args.header.now c.in_ok-at.at c.in_ok-at.generation c.in_ok-at.page c.in_ok-at.ensures.some
    (elim c.else-generation-header.branch [
      | else-generation-header-via-then-generation-header+else-is_page_of w ↦ λ same page. let no = w.if-is_page_of.ensures.1 page in absurd cc
      | else-generation-header-via-else-generation-header w ↦ λ same page. w.if-generation-header.false same
    ])

use Rattle.std.proofs.Common.{length, ap, ◌∙◌}
use Rattle.hm_header.proofs.PageLemmas.{page_and_rest, two_parts}
use Rattle.hm_header.proofs.body.encode.Goals as goal

pub returns : goal.returns
returns c =
    let page = c.copy_from_slice.ensures.after ∙ c.bytes.ensures.value in
    two_parts c.args.body.now c.copy_from_slice.new.self c.fill.new.self 4096 12287 c.told-body
    (ap length page ∙ c.bytes.ensures.sized) (c.fill.ensures.after (λ y e. e))
    ∙ page_and_rest c.args.h.now c.copy_from_slice.new.self (page ∙ c.fields_page-head.ensures)

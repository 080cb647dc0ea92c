use Rattle.std.proofs.Common.{◌≡◌, ◌+◌, ◌-◌, List, ℕ, length, rules, subst}
use Rattle.std.specs.List.{CopiedTo, SameBelow, SameFrom}
use Rattle.hm_types.specs.declared.limits.TheConstants.{PAGE_BYTES}
use Rattle.hm_fields.proofs.MoveLemmas.{bytes_moved}
use Rattle.hm_fields.proofs.moves.move_bytes.Goals as goal

pub returns : goal.returns
returns c =
    let sized : length c.copy_within.new.self ≡ PAGE_BYTES = search rules in
    let copied = subst (λ (l : List ℕ). CopiedTo l c.copy_within.new.self c.args.from c.args.dest (c.args.to - c.args.from)) c.page.view_is
    c.copy_within.ensures.by_index.0 in
    let below = subst (λ (l : List ℕ). SameBelow l c.copy_within.new.self c.args.dest) c.page.view_is c.copy_within.ensures.by_index.1 in
    let above = subst (λ (l : List ℕ). SameFrom l c.copy_within.new.self (c.args.dest + (c.args.to - c.args.from))) c.page.view_is
    c.copy_within.ensures.by_index.2 in
    bytes_moved c.args.page.now c.copy_within.new.self c.args.from c.args.to c.args.dest sized copied below above

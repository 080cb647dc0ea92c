use Rattle.std.proofs.Common.{◌≡◌, rules, ap, sym, subst, ◌∙◌}
use Rattle.std.proofs.lemmas.Fn.{filter_same}
use Rattle.std.proofs.lemmas.List.Kept.{IsNonDecreasingBy-filter}
use Rattle.std.specs.List.Sorted.{IsNonDecreasing}
use Rattle.hm_reblock.specs.Choice.{without_block}
use Rattle.hm_reblock.proofs.choice.Choice.leave.Goals as goal

left : (c : goal.After-retain) → c.retain.new.self.items ≡ without_block c.args.block c.self.inside.blocks.items
left c = filter_same _ _ _ (λ x b f' k. search rules) _ _ c.retain.ensures.filtered

pub invariant_of-self : goal.invariant_of-self
invariant_of-self c =
    subst IsNonDecreasing (sym (left c)) (IsNonDecreasingBy-filter (λ x. x) _ c.self.inside.blocks.items c.self.invariant)

pub returns : goal.returns
returns c = left c ∙ ap (without_block c.args.block) c.self.view_is

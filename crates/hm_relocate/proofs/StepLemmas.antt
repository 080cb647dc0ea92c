-- A unit of a reblock between two looks at the append big-blocks.
use Rattle.std.proofs.Common.{◌≡◌, ℕ, List, ap, subst, sym, ◌∙◌}
use Rattle.std.specs.List.{Contains}
use Rattle.hm_key.specs.declared.job.Progress.{Progress}
use Rattle.hm_key.specs.declared.job.Progress.TheVariants.{Done, More}
use Rattle.hm_stored.specs.Heap.{Heap}
use Rattle.hm_relocate.specs.Leaving.{AppendsToNone, LeavesChoice, apart_from}
use Rattle.hm_relocate.specs.Unit.{EndsUnit, HasGotOn, TakesStep, Way}
use Rattle.hm_relocate.proofs.GotOnLemmas.{got_on_less, got_on_more}
use Rattle.hm_relocate.proofs.LeavingLemmas.{apart_appends, apart_has, apart_nothing, leaves_all, leaves_both}

module _ (from to : Way) (was begun ended now : List ℕ) (old new : Heap) (root root' : ℕ) (first : begun ≡ apart_from old.append was)
    (last : now ≡ apart_from new.append ended) where
  -- what left the choice
  pub step_leaves : (progress : Progress) → TakesStep from to begun ended old new root root' progress → LeavesChoice old new was now
  step_leaves More step = leaves_both old new was begun now first (last ∙ ap (apart_from new.append) step.1)
  step_leaves Done step =
      leaves_all old new was begun now first (last ∙ (ap (apart_from new.append) step.0 ∙ apart_nothing new.append)) step.1

  within_begun : (block : ℕ) → Contains begun block → Contains was block
  within_begun block has = (apart_has old.append was block (subst (λ (l : List ℕ). Contains l block) first has)).0

  within_ended : (block : ℕ) → Contains now block → Contains ended block
  within_ended block has = (apart_has new.append ended block (subst (λ (l : List ℕ). Contains l block) last has)).0

  -- and how the unit ended
  step_ends : (progress : Progress) → TakesStep from to begun ended old new root root' progress → EndsUnit from to was now old new root root' progress
  step_ends More step = record {
    apart = subst (AppendsToNone new.append) (sym last) (apart_appends new.append ended);
    goes = got_on_more begun was within_begun from to now old new root root'
        (got_on_less now ended within_ended from to begun old new root root'
        (subst (λ (l : List ℕ). HasGotOn from to begun l old new root root') (sym step.1) step.0));
  }
  step_ends Done step = record {
    apart = subst (AppendsToNone new.append) (sym last) (apart_appends new.append ended);
    goes = last ∙ (ap (apart_from new.append) step.0 ∙ apart_nothing new.append);
  }

  -- as far as the reblock came before and after the looks
  pub unit_ends : (from' to' : Way) (progress : Progress) → from ≡ from' → to' ≡ to → TakesStep from to begun ended old new root root' progress
      → EndsUnit from' to' was now old new root root' progress
  unit_ends from' to' progress before after step =
      subst (λ (p : Way). EndsUnit p to' was now old new root root' progress) before
      (subst (λ (p : Way). EndsUnit from p was now old new root root' progress) (sym after) (step_ends progress step))

use Rattle.std.proofs.Common.{◌≡◌, length, max}
use Rattle.hm_model.specs.Cut.{greatest}
use Rattle.hm_calls.proofs.RetentionLemmas.{numbers}
use Rattle.hm_calls.proofs.kept.greatest.Given as goal

-- what was passed and what is left have the greatest of all
abbrev pub invariant-loop-first : goal.invariant-loop-first
invariant-loop-first l = max l.most.0 (greatest (numbers l.rest)) ≡ greatest (numbers l.ids)

abbrev pub decreases-loop-first : goal.decreases-loop-first
decreases-loop-first l = length l.rest

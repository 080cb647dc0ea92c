use Rattle.std.proofs.Common.{◌≡◌, length}
use Rattle.hm_model.specs.Cut.{named_id}
use Rattle.hm_view.proofs.snapshots.named_id.Given as goal

-- no id stands before what is left
abbrev pub invariant-loop-rest : goal.invariant-loop-rest
invariant-loop-rest l = named_id l.target ≡ named_id l.rest

abbrev pub decreases-loop-rest : goal.decreases-loop-rest
decreases-loop-rest l = length l.rest

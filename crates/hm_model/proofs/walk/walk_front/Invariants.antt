use Rattle.std.proofs.Common.{◌≡◌, drop, true}
use Rattle.hm_model.specs.Walk.{Follows, walk_on}
use Rattle.hm_model.specs.Plain.{pairs, place, plain_view, plain_volume, walk_in}
use Rattle.hm_model.proofs.walk.walk_front.Given as goal

-- the walk of the whole path goes on over the parts that are left
abbrev pub invariant-loop-part : goal.invariant-loop-part
invariant-loop-part l =
    walk_in l.tree true l.parts
    ≡ walk_on (plain_volume l.tree) (plain_view l.tree) Follows (drop l.part-index l.parts) (place l.here.here) (pairs l.here.passed.items)

use Rattle.std.proofs.Common.{◌-◌}
use Rattle.hm_key.specs.Key.{key_of}
use Rattle.hm_node.specs.Base.{base_in}
use Rattle.hm_node.specs.Places.{place}
use Rattle.hm_search.specs.Look.{is_by}
use Rattle.hm_search.proofs.LookLemmas.{IsCut}
use Rattle.hm_search.proofs.look.rank.Given as goal

-- the one below `low` passes the test, and the one at `high` does not
abbrev pub invariant-loop-low : goal.invariant-loop-low
invariant-loop-low l = IsCut (λ i. is_by l.also_at (key_of l.at) (base_in l.page (place i))) l.count l.low l.high

abbrev pub decreases-loop-low : goal.decreases-loop-low
decreases-loop-low l = l.high - l.low

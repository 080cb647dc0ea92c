use Rattle.std.proofs.Common.{◌≡◌, ◌+◌, ◌-◌, ◌≤◌, length, drop}
use Rattle.hm_core.specs.Running.{place_among}
use Rattle.hm_core.proofs.volume.Core.place_of.Given as goal

-- those that were passed have other opening ids
abbrev pub invariant-loop-place : goal.invariant-loop-place
invariant-loop-place g l =
    (l.place ≤ length l.self.running.items)
    × (place_among l.opening.0 l.self.running.items ≡ l.place + place_among l.opening.0 (drop l.place l.self.running.items))

abbrev pub decreases-loop-place : goal.decreases-loop-place
decreases-loop-place g l = length l.self.running.items - l.place

use Rattle.std.proofs.Common.{◌≡◌, ◌+◌, ◌-◌, ◌≤◌, length, drop}
use Rattle.hm_key.specs.Key.{key_of}
use Rattle.hm_key.specs.Places.{leading}
use Rattle.hm_key.proofs.element_list.ElementList.leading.Given as goal

-- the elements that were passed all lead
abbrev pub invariant-loop-place : goal.invariant-loop-place
invariant-loop-place l =
    (l.place ≤ length l.self.list.items) × (leading (key_of l.at) l.self.list.items ≡ l.place + leading (key_of l.at) (drop l.place l.self.list.items))

abbrev pub decreases-loop-place : goal.decreases-loop-place
decreases-loop-place l = length l.self.list.items - l.place

use Rattle.std.proofs.Common.{◌≡◌, ◌+◌, ◌-◌, ◌≤◌, length, drop}
use Rattle.hm_key.specs.Key.{key_of}
use Rattle.hm_key.specs.Memory.{mark_place}
use Rattle.hm_key.proofs.mark_list.MarkList.place_of.Given as goal

-- the marks that were passed are for other keys
abbrev pub invariant-loop-place : goal.invariant-loop-place
invariant-loop-place l =
    (l.place ≤ length l.self.list.items) × (mark_place (key_of l.at) l.self.list.items ≡ l.place + mark_place (key_of l.at) (drop l.place l.self.list.items))

abbrev pub decreases-loop-place : goal.decreases-loop-place
decreases-loop-place l = length l.self.list.items - l.place

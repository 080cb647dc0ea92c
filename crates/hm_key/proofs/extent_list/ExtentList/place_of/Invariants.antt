use Rattle.std.proofs.Common.{◌-◌, length}
use Rattle.hm_key.specs.Memory.{NoneAt}
use Rattle.hm_key.proofs.extent_list.ExtentList.place_of.Given as goal

-- no extent that was passed stands at the offset
abbrev pub invariant-loop-at : goal.invariant-loop-at
invariant-loop-at l = NoneAt l.at l.self.list.items l.place

abbrev pub decreases-loop-at : goal.decreases-loop-at
decreases-loop-at l = length l.self.list.items - l.place

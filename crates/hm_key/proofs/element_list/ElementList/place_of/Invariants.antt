use Rattle.std.proofs.Common.{◌-◌, length}
use Rattle.hm_key.specs.Key.{key_of}
use Rattle.hm_key.specs.Places.{NoneBefore}
use Rattle.hm_key.proofs.element_list.ElementList.place_of.Given as goal

-- no element that was passed stands at the key
abbrev pub invariant-loop-place : goal.invariant-loop-place
invariant-loop-place l = NoneBefore (key_of l.at) l.self.list.items l.place

abbrev pub decreases-loop-place : goal.decreases-loop-place
decreases-loop-place l = length l.self.list.items - l.place

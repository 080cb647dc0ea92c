use Rattle.hm_key.specs.Memory.{NoneAt}
use Rattle.hm_key.proofs.extent_list.ExtentList.extent.Given as goal

-- no extent that was looked at stands at the offset
abbrev pub invariant-loop-held : goal.invariant-loop-held
invariant-loop-held l = NoneAt l.at l.self.list.items l.held-index

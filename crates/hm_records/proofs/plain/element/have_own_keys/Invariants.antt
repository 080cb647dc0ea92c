use Rattle.std.proofs.Common.{take}
use Rattle.hm_key.specs.Versions.{HaveOwnKeys}
use Rattle.hm_records.proofs.plain.element.have_own_keys.Given as goal

-- those that were looked at have keys of their own
abbrev pub invariant-loop-i : goal.invariant-loop-i
invariant-loop-i l = HaveOwnKeys (take l.i l.elements)

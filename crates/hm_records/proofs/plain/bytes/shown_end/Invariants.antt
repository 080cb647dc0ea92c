use Rattle.std.proofs.Common.{take}
use Rattle.hm_key.specs.Counts.{Counts}
use Rattle.hm_records.specs.PlainView.{IsShownEnd}
use Rattle.hm_records.proofs.plain.bytes.shown_end.Given as goal

-- it is the best of those that were looked at
abbrev pub invariant-loop-element : goal.invariant-loop-element
invariant-loop-element l = IsShownEnd (Counts l.elements l.id) l.pfs.0 l.obj.0 l.size l.block (take l.element-index l.elements) l.best

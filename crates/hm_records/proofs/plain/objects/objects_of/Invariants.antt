use Rattle.std.proofs.Common.{take}
use Rattle.hm_key.specs.Counts.{Counts}
use Rattle.hm_records.specs.PlainView.{HoldsObjects}
use Rattle.hm_records.proofs.plain.objects.objects_of.Given as goal

-- these are the objects that the elements make that were looked at
abbrev pub invariant-loop-element : goal.invariant-loop-element
invariant-loop-element l = HoldsObjects (Counts l.elements l.id) l.pfs.0 (take l.element-index l.elements) l.objects.items

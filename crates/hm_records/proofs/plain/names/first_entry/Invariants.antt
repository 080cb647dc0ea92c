use Rattle.std.proofs.Common.{take}
use Rattle.hm_key.specs.Counts.{Counts}
use Rattle.hm_records.specs.PlainView.{IsFirstKey}
use Rattle.hm_records.proofs.plain.names.first_entry.Given as goal

-- it is the least key of those that were looked at
abbrev pub invariant-loop-element : goal.invariant-loop-element
invariant-loop-element l = IsFirstKey (Counts l.elements l.id) l.pfs.0 l.directory l.name (take l.element-index l.elements) l.first

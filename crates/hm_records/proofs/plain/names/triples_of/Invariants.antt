use Rattle.std.proofs.Common.{take}
use Rattle.hm_key.specs.Counts.{Counts}
use Rattle.hm_records.specs.PlainView.{HoldsTriples}
use Rattle.hm_records.proofs.plain.names.triples_of.Given as goal

-- these are the triples of the entries that were looked at
abbrev pub invariant-loop-element : goal.invariant-loop-element
invariant-loop-element l = HoldsTriples (Counts l.elements l.id) l.pfs.0 (take l.element-index l.elements) l.triples.items

use Rattle.hm_key.specs.Counts.{Counts}
use Rattle.hm_records.specs.PlainView.{AreFirstBytes}
use Rattle.hm_records.proofs.plain.bytes.file_bytes.Given as goal

-- as many bytes as places were passed are the first of the file
abbrev pub invariant-loop-place : goal.invariant-loop-place
invariant-loop-place l = AreFirstBytes (Counts l.elements l.id) l.pfs.0 l.obj.0 l.size l.place l.bytes.items

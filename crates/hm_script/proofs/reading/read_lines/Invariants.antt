use Rattle.std.proofs.Common.{length}
use Rattle.hm_script.specs.Reading.{IsReadSoFar}
use Rattle.hm_script.proofs.reading.read_lines.Given as goal

abbrev pub invariant-lines : goal.invariant-lines
invariant-lines l = IsReadSoFar l.bytes l.rest l.number l.blocks

abbrev pub decreases-lines : goal.decreases-lines
decreases-lines l = length l.rest

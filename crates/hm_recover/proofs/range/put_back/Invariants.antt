use Rattle.std.proofs.Common.{◌≤◌, List, IfSome}
use Rattle.hm_types.specs.Told.{BothTell}
use Rattle.hm_undo.specs.Range.{HasRange, OldPage}
use Rattle.hm_recover.specs.Recovery.{HasSpaceFor}
use Rattle.hm_recover.proofs.PutLemmas.{PutSoFar}
use Rattle.hm_recover.proofs.range.put_back.Given as goal

-- the last pages are put back
abbrev pub invariant-loop-i : goal.invariant-loop-i
invariant-loop-i g l = record {
  told : BothTell (g.D.Disk.told l.fn.disk) (g.D.Disk.told l.disk) (λ s t. (olds : List OldPage) → HasRange s.bytes l.header olds
      → PutSoFar olds l.i (g.D.Disk.left_since l.fn.disk) (g.D.Disk.left_since l.disk) s t);
  space : IfSome (g.D.Disk.told l.disk) (HasSpaceFor l.header.bigblocks);
  counted : g.D.Disk.faults l.fn.disk ≤ g.D.Disk.faults l.disk;
}

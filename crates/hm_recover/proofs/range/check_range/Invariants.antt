use Rattle.std.proofs.Common.{◌≡◌, ℕ, ◌<◌, ◌≤◌, IfSome}
use Rattle.hm_disk.specs.Moments.{SameLeft}
use Rattle.hm_undo.specs.Log.{entry_at}
use Rattle.hm_recover.specs.Damage.{IsWholeEntry}
use Rattle.hm_recover.proofs.range.check_range.Given as goal

-- the last entries are whole
abbrev pub invariant-loop-i : goal.invariant-loop-i
invariant-loop-i g l = record {
  told : g.D.Disk.told l.disk ≡ g.D.Disk.told l.fn.disk;
  past : g.D.Disk.past l.disk ≡ g.D.Disk.past l.fn.disk;
  any_moment : SameLeft (g.D.Disk.left_since l.fn.disk) (g.D.Disk.left_since l.disk);
  counted : g.D.Disk.faults l.fn.disk ≤ g.D.Disk.faults l.disk;
  whole : IfSome (g.D.Disk.told l.fn.disk) (λ t. (j : ℕ) → l.i ≤ j → j < l.header.undo_count
      → IsWholeEntry t.bytes l.header (entry_at l.header.undo_first j));
}

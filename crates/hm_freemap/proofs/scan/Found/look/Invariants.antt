use Rattle.std.proofs.Common.{◌≤◌, ◌-◌, ℕ, Bool}
use Rattle.std.specs.List.{range_with_len}
use Rattle.hm_freemap.specs.Scan.{Finds, IsAgreed}
use Rattle.hm_freemap.specs.Stand.{AreBelow}
use Rattle.hm_freemap.proofs.scan.Found.look.Given as goal

abbrev pub invariant-loop-block : goal.invariant-loop-block
invariant-loop-block l = record {
  few : l.self.count ≤ l.limit;
  below : (bound : ℕ) → l.to ≤ bound → AreBelow bound l.fn.self.first → AreBelow bound l.self.first;
  -- the big-blocks before this one were looked at
  found : (free : ℕ → Bool) (first : ℕ) → first ≤ l.from → IsAgreed free l.append l.sheets l.from l.to
      → Finds free l.limit (range_with_len first (l.from - first)) l.fn.self → Finds free l.limit (range_with_len first (l.block - first)) l.self;
}

use Rattle.std.proofs.Common.{ℕ, ◌<◌, get_or}
use Rattle.hm_key.specs.Key.{key_of}
use Rattle.hm_key.specs.Memory.{IsPassed}
use Rattle.hm_key.specs.Stores.{IsEnd}
use Rattle.hm_key.specs.declared.mark_list.Mark.{Mark}
use Rattle.hm_key.proofs.mark_list.MarkList.end_after.Given as goal

-- `end` is an end, and no mark above `since` that was looked at is for a key between
abbrev pub invariant-loop-mark : goal.invariant-loop-mark
invariant-loop-mark l =
    IsEnd (key_of l.at) l.end × ((k : ℕ) (d : Mark) → k < l.mark-index → IsPassed (key_of l.at) l.since (key_of l.end) (get_or l.self.list.items k d))

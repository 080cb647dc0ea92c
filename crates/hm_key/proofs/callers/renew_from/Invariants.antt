use Rattle.std.proofs.Common.{◌≡◌, ◌≤◌}
use Rattle.hm_key.proofs.callers.renew_from.Given as goal

-- the store is the same one and kept its frame, and at most each element that was looked at was changed
abbrev pub invariant-loop-looked : goal.invariant-loop-looked
invariant-loop-looked g l =
    (g.T.Counted.name l.store ≡ g.T.Counted.name l.initial.store)
    × (g.T.Counted.frame l.store ≡ g.T.Counted.frame l.initial.store)
    × (l.changed ≤ l.looked)

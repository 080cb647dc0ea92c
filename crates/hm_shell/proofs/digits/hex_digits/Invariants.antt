use Rattle.std.proofs.Common.{◌≡◌, ◌-◌, [], drop, length}
use Rattle.hm_shell.proofs.HexLemmas.{fixed_onto}
use Rattle.hm_shell.proofs.digits.hex_digits.Given as goal

-- the digits that are left, and those that stand there already
abbrev pub invariant-loop-done : goal.invariant-loop-done
invariant-loop-done l =
    (fixed_onto (16 - l.done) l.rest (drop (16 - l.done) l.digits) ≡ fixed_onto 16 l.number [])
    × (length l.digits ≡ 16)

-- Zone 8 has its reserve still once a node was looked for, which is more than a node takes.
use Rattle.std.proofs.Common.{ℕ, ap, arith, refl}
use Rattle.hm_stored_tests.proofs.moving_tests.move_one.Goals as goal

pub move_node-requires-clause-room : goal.move_node-requires-clause-room
move_node-requires-clause-room g c =
    let same = ap (λ (room : ℕ → ℕ). room 8) c.node_from.ensures.reads.room in
    omega (arith, c.in_ok-admit.ensures.answers.ok.reserve 8 refl, same)

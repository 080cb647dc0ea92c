-- The zone has its reserve, which is more than a piece takes.
use Rattle.std.proofs.Common.{arith, refl}
use Rattle.hm_stored_tests.proofs.tests.put_piece.Goals as goal

pub place-requires-clause-room : goal.place-requires-clause-room
place-requires-clause-room g c = omega (arith, c.requires.most, c.in_ok-admit.ensures.answers.ok.reserve 9 refl)

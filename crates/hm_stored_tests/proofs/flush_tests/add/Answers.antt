-- The disk tells nothing, and zone 8 has its reserve, which is more than an element takes.
use Rattle.std.proofs.Common.{arith, refl}
use Rattle.hm_pages.specs.Store.{contents}
use Rattle.hm_stored.proofs.UntoldLemmas.{untold_elements}
use Rattle.hm_stored_tests.proofs.flush_tests.add.Goals as goal

pub insert-requires-clause-new : goal.insert-requires-clause-new
insert-requires-clause-new c =
    let s = c.admit.new.self in
    untold_elements (contents s.space.pages.store) s.space.books s.root _

pub insert-requires-clause-room : goal.insert-requires-clause-room
insert-requires-clause-room c = omega (arith, c.in_ok-admit.ensures.answers.ok.reserve 8 refl)

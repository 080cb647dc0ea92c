use Rattle.std.proofs.Common.{rules}
use Rattle.hm_header.proofs.KeptLemmas.{synced-counting}
use Rattle.hm_volume_tests.proofs.change_tests.change.Goals as goal

pub change_header-requires-clause-before : goal.change_header-requires-clause-before
change_header-requires-clause-before g c =
    synced-counting _ _ _ c.in-Ok.header c.in-Ok.number c.in_ok-sync.ensures.ok c.in_ok-header.ensures.same (search rules)

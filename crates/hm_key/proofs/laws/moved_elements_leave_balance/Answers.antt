use Rattle.std.proofs.lemmas.Bool.{ne_eqb}
use Rattle.hm_key.proofs.MoveLemmas.{moved_balanced, moved_full}
use Rattle.hm_key.proofs.laws.moved_elements_leave_balance.Goals as goal

pub returns : goal.returns
returns c at e to es xs ys found other gains was live balanced =
    let apart = ne_eqb to e.payload other in
    (moved_balanced at e to es xs ys found apart gains was live balanced, moved_full at e to es xs ys found apart gains was live balanced)

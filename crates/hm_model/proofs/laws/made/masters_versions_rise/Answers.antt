use Rattle.hm_model.proofs.MadeLemmas.{order_later, order_made}
use Rattle.hm_model.proofs.laws.made.masters_versions_rise.Goals as goal

pub returns-clause-made : goal.returns-clause-made
returns-clause-made c run before event path shared legal makes = let order = order_made run before event path shared legal makes in (order.rising, order.begun)

pub returns-clause-later : goal.returns-clause-later
returns-clause-later c run before rest pfs legal master rising begun =
    let order = order_later run before rest pfs legal master (record { rising = rising; begun = begun }) in (order.rising, order.begun)

use Rattle.hm_key.proofs.LogLemmas.{still_safe}
use Rattle.hm_key.proofs.log_owner.Owner.renew_from.Goals as goal

pub returns-clause-safe : goal.returns-clause-safe
returns-clause-safe g c =
    still_safe c.args.self.now.store.committed.items c.renew_from.new.store.committed.items c.args.self.now.store.size c.renew_from.new.store.size
    (g.D.Disk.left_since c.renew_from.new.store.disk)
    (g.D.Disk.told c.args.self.now.store.disk) (g.D.Disk.told c.renew_from.new.store.disk)
    c.renew_from.ensures.frame c.args.self.now.store.safe c.renew_from.new.store.safe (g.met.D.Disk.only_now c.renew_from.new.store.disk)

use Rattle.hm_key.proofs.LogLemmas.{still_safe}
use Rattle.hm_key.proofs.log_owner.Owner.insert_and_find.Goals as goal

pub returns-clause-safe : goal.returns-clause-safe
returns-clause-safe g c =
    still_safe c.args.self.now.store.committed.items c.insert_and_find.new.store.committed.items c.args.self.now.store.size c.insert_and_find.new.store.size
    (g.D.Disk.left_since c.insert_and_find.new.store.disk)
    (g.D.Disk.told c.args.self.now.store.disk) (g.D.Disk.told c.insert_and_find.new.store.disk)
    c.insert_and_find.ensures.frame c.args.self.now.store.safe c.insert_and_find.new.store.safe (g.met.D.Disk.only_now c.insert_and_find.new.store.disk)

use Rattle.hm_calls_tests.proofs.NewSystemLemmas.{founded_balanced}
use Rattle.hm_calls_tests.proofs.new_system_tests.reply_of.Goals as goal

pub returns : goal.returns
returns g c =
    let done = c.in_ok-told.ensures in
    record {
      balanced = founded_balanced g.T.HasElements.elements g.T.HasElements.mark g.T.HasRoom.extents g.T.HasRoom.room g.T.HasRoom.free
          (g.H.NameHash.hash_of c.args.hash.now) c.args.volume.now.next c.args.numbers c.args.new c.args.path.now 170 c.args.volume.now.store
          c.make_system.new.store c.in_ok-told.told done.founded done.keeps.elements done.keeps.extents c.requires.ready.balanced;
      known = done.known;
    }

use Rattle.hm_flush.proofs.SomeHeaderLemmas.{some-guarded}
use Rattle.hm_flush.proofs.laws.each_position_is_guarded_on_some_disk.Goals as goal

pub returns : goal.returns
returns c = some-guarded

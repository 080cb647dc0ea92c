use Rattle.hm_state.proofs.MountedFlushLemmas.{mounted_committed}
use Rattle.hm_state.proofs.flushing.a_mounted_volume_is_committed.Goals as goal

pub returns : goal.returns
returns c = λ t told header slot s books volume stands counts unarmed settled loaded holds is bytes.
    mounted_committed t told header slot s books volume stands counts unarmed settled loaded holds is bytes

use Rattle.hm_state.proofs.RecoveredVolumeLemmas.{idle_stands, left_recovers, within_recovers}
use Rattle.hm_state.proofs.flushing.what_a_flush_holds_is_recovered.Goals as goal

pub returns-clause-now : goal.returns-clause-now
returns-clause-now g c = λ f h t committed frozen flush holds. left_recovers f flush h t committed frozen holds

pub returns-clause-within : goal.returns-clause-within
returns-clause-within g c = λ now f after old new result s t was is root last volume committed frozen flushes told told' tells held holds.
    within_recovers now f after old new result s t (g.D.Disk.left_since was) (g.D.Disk.left_since is) root last volume committed frozen
    flushes tells held holds

pub returns-clause-idle : goal.returns-clause-idle
returns-clause-idle g c = λ f h t committed frozen flush idle holds. idle_stands f flush h t committed frozen holds idle

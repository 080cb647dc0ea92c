use Rattle.std.proofs.Common.{Option, subst}
use Rattle.hm_disk.specs.Crash.{Told}
use Rattle.hm_state.specs.AtRest.{at_rest}
use Rattle.hm_state.specs.Volume.{HoldsVolume}
use Rattle.hm_state.proofs.AtRestLemmas.{rest_held}
use Rattle.hm_state.proofs.laws.a_state_at_rest_is_held.Goals as goal

pub returns : goal.returns
returns c = λ h t root last volume header disk holds is.
    subst (λ (o : Option Told). HoldsVolume (at_rest o header h.pages.current) header.root header.last.0 volume) disk
    (rest_held h root last volume header holds is)

-- What the frame says stays.
use Rattle.std.proofs.Common.{ap, subst, sym}
use Rattle.hm_stored.proofs.laws.what_the_frame_says_stays.Goals as goal

pub returns : goal.returns
returns g c before after same holds = subst g.W.FrameWord.holds (sym (ap (λ f. f.0) same)) holds

-- Once all is committed, the disk stands for the volume.
use Rattle.std.proofs.Common.{rules, refl}
use Rattle.hm_core.specs.Seen.{seen}
use Rattle.hm_core.specs.Staged.{IsFlushed}
use Rattle.hm_core.proofs.EndLemmas.{committed_on}
use Rattle.hm_core.proofs.volume.Core.is_flushed.Goals as goal

pub returns-then-is_idle-clause-committed : goal.returns-then-is_idle-clause-committed
returns-then-is_idle-clause-committed g c = λ all.
    let s = c.args.self.now in
    let flushed : IsFlushed (seen s) = search rules in
    committed_on (seen s) flushed refl c.flush_is_sound.ensures s.ordered

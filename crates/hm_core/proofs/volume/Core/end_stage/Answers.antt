-- A stage of the last flush.
use Rattle.std.proofs.Common.{refl}
use Rattle.hm_state.specs.Live.{IsInPlace}
use Rattle.hm_state.proofs.LiveLemmas.{live_same}
use Rattle.hm_core.specs.Seen.{seen}
use Rattle.hm_core.proofs.CoreLemmas.{follows_itself}
use Rattle.hm_core.proofs.volume.Core.end_stage.Goals as goal

pub returns-then-is_flushed-clause-follows : goal.returns-then-is_flushed-clause-follows
returns-then-is_flushed-clause-follows g c =
    follows_itself (g.D.Disk.left_since c.args.self.now.stored.space.disk) (seen c.args.self.now) c.core_is_sound.ensures

pub returns-then-is_flushed-clause-live : goal.returns-then-is_flushed-clause-live
returns-then-is_flushed-clause-live g c =
    let s = seen c.args.self.now in
    λ volume holds. live_same (IsInPlace s.flush.at s.heap.pages) s.heap s.root s.heap.disk refl

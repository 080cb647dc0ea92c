use Rattle.std.proofs.Common.{◌≡◌, ◌≤◌, None, false, length}
use Rattle.hm_key.specs.Stores.{Same}
use Rattle.hm_model.specs.Due.{has_id}
use Rattle.hm_model.specs.Sites.{Parts}
use Rattle.hm_records.specs.KeysFit.{KeysFit}
use Rattle.hm_dirs.specs.Walk.{AreDrawn, OnShown, mode_of}
use Rattle.hm_dirs.proofs.WalkLoopLemmas.{IsOver}
use Rattle.hm_dirs.proofs.walks.walk.Given as goal

-- Over the parts that were taken the walk is that of the model, and the store is as it was.
abbrev pub invariant-loop-rest : goal.invariant-loop-rest
invariant-loop-rest g l = record {
  over : OnShown (g.T.HasElements.elements l.fn.store) (g.T.HasRoom.extents l.fn.store) l.fn.course (λ scene.
      KeysFit (g.H.NameHash.hash_of l.fn.hash) scene.elements → AreDrawn scene.course.last l.fn.parts
      → IsOver scene (mode_of l.fn.follow) l.fn.parts l.rest l.stand);
  now : has_id (Parts l.fn.parts) ≡ false → (has_id (Parts l.rest) ≡ false) × (l.stand.at.when ≡ None);
  keeps : Same g.T.HasElements.elements g.T.HasElements.mark g.T.HasRoom.extents g.T.HasRoom.room g.T.HasRoom.free l.fn.store l.store;
  name : g.T.Counted.name l.store ≡ g.T.Counted.name l.fn.store;
  frame : g.T.Counted.frame l.store ≡ g.T.Counted.frame l.fn.store;
  faults : g.T.Counted.faults l.fn.store ≤ g.T.Counted.faults l.store;
}

abbrev pub decreases-loop-rest : goal.decreases-loop-rest
decreases-loop-rest g l = length l.rest

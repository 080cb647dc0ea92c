use Rattle.std.proofs.Common.{◌≡◌, ◌-◌, ◌≤◌, length, take}
use Rattle.hm_key.specs.Stores.{Same}
use Rattle.hm_cursor.specs.Told.{OnBalanced}
use Rattle.hm_files.specs.Bytes.{AreBytesRead}
use Rattle.hm_files.proofs.read.read_all.Given as goal

-- the front of the buffer is read
abbrev pub invariant-loop-done : goal.invariant-loop-done
invariant-loop-done g l = record {
  most : l.done ≤ length l.fn.buffer;
  read : OnBalanced (g.T.HasElements.elements l.fn.store) (g.T.HasRoom.extents l.fn.store)
      (AreBytesRead l.as_of.0 l.pfs.0 l.obj.0 l.size l.offset (take l.done l.buffer));
  keeps : Same g.T.HasElements.elements g.T.HasElements.mark g.T.HasRoom.extents g.T.HasRoom.room g.T.HasRoom.free l.fn.store l.store;
  name : g.T.Counted.name l.store ≡ g.T.Counted.name l.fn.store;
  frame : g.T.Counted.frame l.store ≡ g.T.Counted.frame l.fn.store;
  faults : g.T.Counted.faults l.fn.store ≤ g.T.Counted.faults l.store;
}

abbrev pub decreases-loop-done : goal.decreases-loop-done
decreases-loop-done g l = length l.initial.buffer - l.done

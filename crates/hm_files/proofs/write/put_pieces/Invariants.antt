use Rattle.std.proofs.Common.{◌≡◌, ◌-◌, ◌/◌, ◌≤◌}
use Rattle.std.specs.Prelude.{is_some}
use Rattle.hm_types.specs.Space.{Spends}
use Rattle.hm_key.specs.Balance.{Balanced}
use Rattle.hm_cursor.specs.Write.{Writes}
use Rattle.hm_files.specs.Put.{block_space}
use Rattle.hm_files.specs.Source.{bytes_of}
use Rattle.hm_files.specs.Write.{PutsBefore}
use Rattle.hm_files.proofs.write.put_pieces.Given as goal

-- the blocks so far have the bytes
abbrev pub invariant-loop-next : goal.invariant-loop-next
invariant-loop-next g l = record {
  from : l.fn.offset / 16384 ≤ l.next;
  to : l.next ≤ l.blocks;
  wrote : Writes g.T.HasElements.elements g.T.HasRoom.extents
      (PutsBefore l.fn.pfs.0 l.fn.obj.0 l.fn.id.0 l.fn.size l.fn.after l.fn.offset (bytes_of l.fn.source) l.next)
      l.fn.store l.store;
  balanced : Balanced (g.T.HasElements.elements l.store) (g.T.HasRoom.extents l.store);
  elements : is_some (g.T.HasElements.elements l.store) ≡ is_some (g.T.HasElements.elements l.fn.store);
  extents : is_some (g.T.HasRoom.extents l.store) ≡ is_some (g.T.HasRoom.extents l.fn.store);
  space : Spends g.T.HasRoom.room g.T.HasRoom.free (block_space (l.next - l.fn.offset / 16384)) l.fn.store l.store;
  name : g.T.Counted.name l.store ≡ g.T.Counted.name l.fn.store;
  frame : g.T.Counted.frame l.store ≡ g.T.Counted.frame l.fn.store;
  faults : g.T.Counted.faults l.fn.store ≤ g.T.Counted.faults l.store;
}

abbrev pub decreases-loop-next : goal.decreases-loop-next
decreases-loop-next g l = l.blocks - l.next

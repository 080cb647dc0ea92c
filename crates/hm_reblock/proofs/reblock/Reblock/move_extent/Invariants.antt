use Rattle.std.proofs.Common.{◌≡◌, ◌<◌, ◌≤◌, ◌-◌, vec_len}
use Rattle.std.specs.Prelude.{IfSome}
use Rattle.hm_types.specs.Offset.{zone_of}
use Rattle.hm_types.specs.Space.{Spends, in_zone}
use Rattle.hm_types.specs.declared.space.TheConstants.{PAYLOAD_RESERVE}
use Rattle.hm_reblock.specs.Moving.{AllAway, Relocates}
use Rattle.hm_reblock.proofs.reblock.Reblock.move_extent.Given as goal

-- elements moved from the one extent to the other
abbrev pub invariant-loop-known : goal.invariant-loop-known
invariant-loop-known g l = record {
  onward : l.fn.at < l.next;
  relocates : Relocates g.T.HasElements.elements g.T.HasElements.mark g.T.HasRoom.extents l.first.payload l.to l.fn.store l.store;
  all : IfSome (g.T.HasElements.elements l.store) (AllAway l.first.payload l.self.known.items l.fn.at l.next);
  space : Spends g.T.HasRoom.room g.T.HasRoom.free (in_zone (zone_of l.first.payload) PAYLOAD_RESERVE) l.fn.store l.store;
  name : g.T.Counted.name l.store ≡ g.T.Counted.name l.fn.store;
  frame : g.T.Counted.frame l.store ≡ g.T.Counted.frame l.fn.store;
  faults : g.T.Counted.faults l.fn.store ≤ g.T.Counted.faults l.store;
}

abbrev pub decreases-loop-known : goal.decreases-loop-known
decreases-loop-known g l = vec_len l.self.known - l.next

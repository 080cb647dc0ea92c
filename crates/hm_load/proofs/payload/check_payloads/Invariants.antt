use Rattle.std.proofs.Common.{◌≡◌, ℕ, ◌<◌, ◌≤◌, IfSome, Some, slice_get}
use Rattle.hm_key.specs.declared.element.Element.{Element}
use Rattle.hm_load.specs.Payload.{HasPayload}
use Rattle.hm_load.proofs.payload.check_payloads.Given as goal

-- the first payloads may be
abbrev pub invariant-loop-i : goal.invariant-loop-i
invariant-loop-i g l = record {
  told : g.D.Disk.told l.disk ≡ g.D.Disk.told l.fn.disk;
  crashes : g.D.Disk.past l.disk ≡ g.D.Disk.past l.fn.disk;
  counted : g.D.Disk.faults l.fn.disk ≤ g.D.Disk.faults l.disk;
  payloads : IfSome (g.D.Disk.told l.fn.disk) (λ t. (j : ℕ) (e : Element) → j < l.i → slice_get l.leaf.places.items j ≡ Some e
      → HasPayload t.bytes l.volume.bigblocks e);
}

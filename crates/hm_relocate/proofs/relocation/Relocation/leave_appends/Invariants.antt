use Rattle.std.proofs.Common.{◌≡◌, drop}
use Rattle.hm_relocate.specs.Leaving.{apart_from}
use Rattle.hm_relocate.specs.Way.{way_of}
use Rattle.hm_relocate.proofs.relocation.Relocation.leave_appends.Given as goal

abbrev pub invariant-loop-block : goal.invariant-loop-block
invariant-loop-block g l = record {
  -- those from this one on are still to leave
  choice : apart_from (drop l.block-index l.block-items) l.self.payloads.choice ≡ apart_from l.block-items l.fn.self.payloads.choice;
  way : way_of l.self ≡ way_of l.fn.self;
}

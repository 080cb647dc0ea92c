-- How far the work of a reblock came.
use Rattle.std.specs.Prelude.{is_some}
use Rattle.hm_reblock.specs.Stages.{reblock_place}
use Rattle.hm_relocate.specs.Unit.{Way}
use Rattle.hm_relocate.specs.declared.relocation.Relocation.{Relocation}

abbrev pub way_of : Relocation → Way
way_of r = record { payloads = reblock_place r.payloads; nodes = is_some r.nodes }

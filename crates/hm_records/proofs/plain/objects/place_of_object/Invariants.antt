use Rattle.std.proofs.Common.{◌≡◌, ◌++◌, take, drop}
use Rattle.hm_types.specs.Tree.{insert_by, is_object_before}
use Rattle.hm_records.proofs.plain.objects.place_of_object.Given as goal

-- it goes past all that were looked at
abbrev pub invariant-loop-i : goal.invariant-loop-i
invariant-loop-i l = insert_by is_object_before l.object l.objects ≡ take l.i l.objects ++ insert_by is_object_before l.object (drop l.i l.objects)

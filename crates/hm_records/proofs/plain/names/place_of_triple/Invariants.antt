use Rattle.std.proofs.Common.{◌≡◌, ◌++◌, take, drop}
use Rattle.hm_types.specs.Tree.{insert_by, is_triple_before}
use Rattle.hm_records.proofs.plain.names.place_of_triple.Given as goal

-- it goes past all that were looked at
abbrev pub invariant-loop-i : goal.invariant-loop-i
invariant-loop-i l = insert_by is_triple_before l.triple l.triples ≡ take l.i l.triples ++ insert_by is_triple_before l.triple (drop l.i l.triples)

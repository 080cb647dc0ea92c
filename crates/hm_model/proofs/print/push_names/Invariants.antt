use Rattle.std.proofs.Common.{◌≡◌, ◌++◌, drop}
use Rattle.std.specs.List.{flat_map}
use Rattle.hm_model.specs.Reply.{listed}
use Rattle.hm_model.proofs.print.push_names.Given as goal

abbrev pub invariant-loop-kind : goal.invariant-loop-kind
invariant-loop-kind l = l.line.items ++ flat_map listed (drop l.kind-index l.names) ≡ l.fn.line.items ++ flat_map listed l.names

use Rattle.std.proofs.Common.{◌≡◌, ◌++◌, drop, map, filter}
use Rattle.std.specs.Prelude.{◌==◌}
use Rattle.hm_types.specs.declared.object.Triple.{Triple}
use Rattle.hm_model.specs.Answer.{entry_kind, listing}
use Rattle.hm_model.proofs.answer.listing.Given as goal

-- the entries that are left come after those that were found
abbrev pub invariant-loop-triple : goal.invariant-loop-triple
invariant-loop-triple l =
    l.names.items ++ map (λ (t : Triple). (entry_kind l.tree t.object, t.name))
    (filter (λ (t : Triple). t.directory.0 == l.directory.0) (drop l.triple-index l.tree.triples))
    ≡ listing l.tree l.directory

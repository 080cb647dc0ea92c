use Rattle.std.proofs.Common.{◌≡◌, ◌++◌, drop}
use Rattle.std.specs.Prelude.{◌==◌}
use Rattle.hm_types.specs.declared.object.Object.{Object}
use Rattle.hm_types.specs.Tree.{is_named, without, without_name, without_object}
use Rattle.hm_model.proofs.tree_edit.without_name.Given as goal

-- those that are left and stay come after those that stayed
abbrev pub invariant-loop-triple : goal.invariant-loop-triple
invariant-loop-triple l =
    l.triples.items ++ without (is_named l.directory l.name) (drop l.triple-index l.tree.triples) ≡ without (is_named l.directory l.name) l.tree.triples

use Rattle.std.proofs.Common.{◌≡◌, ◌++◌, drop}
use Rattle.std.specs.Prelude.{◌==◌}
use Rattle.hm_types.specs.declared.object.Object.{Object}
use Rattle.hm_types.specs.Tree.{is_named, without, without_name, without_object}
use Rattle.hm_model.proofs.tree_edit.without_object.Given as goal

-- those that are left and stay come after those that stayed
abbrev pub invariant-loop-object : goal.invariant-loop-object
invariant-loop-object l =
    l.objects.items ++ without ((λ (o : Object). o.number.0 == l.number.0)) (drop l.object-index l.tree.objects)
    ≡ without ((λ (o : Object). o.number.0 == l.number.0)) l.tree.objects

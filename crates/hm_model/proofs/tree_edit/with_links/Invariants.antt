use Rattle.std.proofs.Common.{◌≡◌, ◌++◌, drop, map}
use Rattle.std.specs.Prelude.{◌==◌, if◌then◌else◌}
use Rattle.hm_types.specs.declared.object.Content.TheVariants.{File}
use Rattle.hm_types.specs.declared.object.Object.{Object}
use Rattle.hm_types.specs.Tree.{holding, with_change, with_links}
use Rattle.hm_model.proofs.tree_edit.with_links.Given as goal

-- the objects that are left come after those that were copied
abbrev pub invariant-loop-object : goal.invariant-loop-object
invariant-loop-object l =
    l.objects.items ++ map (λ (o : Object). if o.number.0 == l.number.0 then (with_links l.links) o else o) (drop l.object-index l.tree.objects)
    ≡ (with_change l.tree l.number (with_links l.links)).objects

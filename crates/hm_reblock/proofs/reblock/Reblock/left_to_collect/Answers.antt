use Rattle.std.proofs.Common.{refl, ◌∙◌}
use Rattle.hm_key.specs.Key.{key_of}
use Rattle.hm_reblock.proofs.LeftLemmas.{look_left, stands_left}
use Rattle.hm_reblock.proofs.reblock.Reblock.left_to_collect.Goals as goal

pub returns-in-Some-clause-ok : goal.returns-in-Some-clause-ok
returns-in-Some-clause-ok g c =
    let was = g.T.HasElements.elements c.args.store.now in
    stands_left was was c.in-Some.element c.in_ok-element.field-0 refl c.in-Some.is c.in_ok-element.ensures.ok

pub returns-in-Some-2-clause-ok : goal.returns-in-Some-2-clause-ok
returns-in-Some-2-clause-ok g c =
    let elements = g.T.HasElements.elements in
    stands_left (elements c.last_still.new.store) (elements c.args.store.now) c.in-Some-2.element
    c.in_ok-element-2.field-0 c.last_still.ensures.keeps.elements c.in-Some-2.is c.in_ok-element-2.ensures.ok

pub returns-in-Some-3-clause-ok : goal.returns-in-Some-3-clause-ok
returns-in-Some-3-clause-ok g c =
    let elements = g.T.HasElements.elements in
    look_left (elements c.first_to_come.new.store) (elements c.args.store.now) c.args.self.now.choice (key_of c.least.result) c.in-Some-3.element
    c.in_ok-element-3.field-0 (c.first_to_come.ensures.keeps.elements ∙ c.last_still.ensures.keeps.elements) c.in-Some-3.is c.in_ok-element-3.ensures.ok

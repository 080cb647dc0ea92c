use Rattle.std.proofs.Common.{◌≡◌, ◌<◌, List, length, get_or, Option, Some, subst}
use Rattle.std.specs.Prelude.{IfSome}
use Rattle.hm_key.specs.declared.element.Element.{Element}
use Rattle.hm_reblock.specs.Choice.{IsStill}
use Rattle.hm_key.specs.Key.{key_of}
use Rattle.hm_reblock.proofs.LeftLemmas.{known_at, look_left, still_left}
use Rattle.hm_reblock.proofs.reblock.Reblock.left_to_move.Goals as goal

pub returns-in-Some-2-clause-ok : goal.returns-in-Some-2-clause-ok
returns-in-Some-2-clause-ok g c =
    let elements = g.T.HasElements.elements in
    still_left (elements c.loop-known.store) (elements c.args.store.now) c.args.self.now.choice c.in-Some.known.now c.in-Some-2.element
    c.in_ok-element.field-0 c.loop-known.invariant.keeps.elements c.in-Some-2.is c.in_ok-element.ensures.ok

pub returns-in-Some-2-clause-leads : goal.returns-in-Some-2-clause-leads
returns-in-Some-2-clause-leads g c =
    let same : c.deref.result.now ≡ c.args.self.now.known.items = c.deref.ensures.value in
    let found : IfSome (Some c.in-Some-2.element) (IsStill c.args.self.now.choice c.in-Some.known.now) =
    subst (λ (o : Option Element). IfSome o (IsStill c.args.self.now.choice c.in-Some.known.now)) c.in-Some-2.is c.in_ok-element.ensures.found in (
      c.loop-known.invariant.onward,
      known_at c.args.self.now.known.items c.in-Some.known.now c.in-Some-2.element c.loop-known.at
          (subst (λ (l : List Element). c.loop-known.at < length l) same c.in-Some.ensures.lookup.3.0)
          (subst (λ (l : List Element). c.in-Some.known.now ≡ get_or l c.loop-known.at c.in-Some.known.now) same c.in-Some.ensures.lookup.1) found.payload,
    )

pub returns-in-Some-3-clause-ok : goal.returns-in-Some-3-clause-ok
returns-in-Some-3-clause-ok g c =
    let elements = g.T.HasElements.elements in
    look_left (elements c.loop-known.store) (elements c.args.store.now) c.args.self.now.choice (key_of c.least.result) c.in-Some-3.element
    c.in_ok-element-2.field-0 c.loop-known.invariant.keeps.elements c.in-Some-3.is c.in_ok-element-2.ensures.ok

use Rattle.std.proofs.Common.{◌≡◌, ◌<◌, Some, Option, subst, sym, ◌∙◌, true≢false, arith, rules}
use Rattle.std.specs.Prelude.{IfSome}
use Rattle.hm_key.specs.Elements.{element_key, first_from}
use Rattle.hm_key.specs.Key.{key_of, IsFrom, IsWide}
use Rattle.hm_key.specs.Stores.{IsFound}
use Rattle.hm_key.specs.declared.base.Base.{Base}
use Rattle.hm_key.specs.declared.element.Element.{Element}
use Rattle.hm_key.proofs.SweepLemmas.{found_there}
use Rattle.hm_cursor.specs.Shown.{IsAfter}
use Rattle.hm_cursor.proofs.StoreLemmas.{told, told_both, told_still, told_first, same_both}
use Rattle.hm_cursor.proofs.ShownLemmas.{after_is, next_wide, keys_left, fewer_keys}
use Rattle.hm_reblock.specs.Choice.{IsInChoice}
use Rattle.hm_reblock.proofs.LookLemmas.{NonePassed, from_both, from_next, none_found, none_left, passed_after}
use Rattle.hm_reblock.proofs.choice.Choice.first_from.Goals as goal

pub returns-in_default-2-clause-ok : goal.returns-in_default-2-clause-ok
returns-in_default-2-clause-ok g c =
    let elements = g.T.HasElements.elements in
    let was = elements c.args.store.now in
    let choice = c.args.self.now in
    let from = key_of c.args.from.now in
    let invariant = c.loop-next.invariant in
    let at = c.in-Some.at in
    let read : IfSome (elements c.loop-next.store) (λ es. c.in_ok-element.field-0 ≡ first_from (key_of at) es) = c.in_ok-element.ensures.ok in
    let passed = subst (λ (o : Option Base). IfSome was (λ es. NonePassed choice es from o)) c.in-Some.is invariant.passed in
    told_both was (λ es found none. none_found choice es from at (sym found ∙ c.in_default-2.is) none)
    (told_still (elements c.loop-next.store) was (λ es. c.in_ok-element.field-0 ≡ first_from (key_of at) es) invariant.keeps.elements read) passed

pub returns-then-has-clause-ok : goal.returns-then-has-clause-ok
returns-then-has-clause-ok g c =
    let elements = g.T.HasElements.elements in
    found_there (key_of c.in-Some.at) c.in-Some-2.element c.in_ok-element.field-0 (elements c.loop-next.store) (elements c.args.store.now)
    (sym c.loop-next.invariant.keeps.elements) (g.met.T.ElementStore.sorted c.loop-next.store) c.in_ok-element.ensures.ok c.in-Some-2.is

pub returns-then-has-clause-onward : goal.returns-then-has-clause-onward
returns-then-has-clause-onward g c =
    let at = c.in-Some.at in
    let found : IfSome (Some c.in-Some-2.element) (IsFound (key_of at)) =
    subst (λ (o : Option Element). IfSome o (IsFound (key_of at))) c.in-Some-2.is c.in_ok-element.ensures.found in
    let onward : IfSome (Some at) (λ b. IsFrom (key_of c.args.from.now) (key_of b)) =
    subst (λ (o : Option Base). IfSome o (λ b. IsFrom (key_of c.args.from.now) (key_of b))) c.in-Some.is c.loop-next.invariant.onward in
    from_both (key_of c.args.from.now) (key_of at) (element_key c.in-Some-2.element) onward found.place

pub returns-clause-ok : goal.returns-clause-ok
returns-clause-ok g c =
    told (g.T.HasElements.elements c.args.store.now)
    (λ es. none_left c.args.self.now es (key_of c.args.from.now) c.loop-next.next c.in_default.is) c.loop-next.invariant.passed

pub loop-next-smaller : goal.loop-next-smaller
loop-next-smaller g c =
    let at = c.in-Some.at in
    let e = c.in-Some-2.element in
    let wide : IsWide (key_of at) = record {
      localization = search rules;
      obj = search rules;
      rec_type = search rules;
      number = search rules;
      create = search rules;
    } in
    let found : IfSome (Some e) (IsFound (key_of at)) =
    subst (λ (o : Option Element). IfSome o (IsFound (key_of at))) c.in-Some-2.is c.in_ok-element.ensures.found in
    subst (λ (o : Option Base). keys_left c.key_after-next.result < keys_left o) (sym c.in-Some.is)
    (fewer_keys at e.base c.key_after-next.result wide (next_wide (key_of e.base) c.key_after-next.result c.key_after-next.ensures) found.place
    (after_is e.base c.key_after-next.result c.key_after-next.ensures))

pub loop-next-preserved : goal.loop-next-preserved
loop-next-preserved g c =
    let elements = g.T.HasElements.elements in
    let was = elements c.args.store.now in
    let choice = c.args.self.now in
    let from = key_of c.args.from.now in
    let invariant = c.loop-next.invariant in
    let at = c.in-Some.at in
    let e = c.in-Some-2.element in
    let passed = subst (λ (o : Option Base). IfSome was (λ es. NonePassed choice es from o)) c.in-Some.is invariant.passed in
    let found =
    told_first (elements c.loop-next.store) was (key_of at) c.in_ok-element.field-0 e invariant.keeps.elements (g.met.T.ElementStore.sorted c.args.store.now)
    c.in_ok-element.ensures.ok c.in-Some-2.is in
    let sound : IfSome (Some e) (IsFound (key_of at)) =
    subst (λ (o : Option Element). IfSome o (IsFound (key_of at))) c.in-Some-2.is c.in_ok-element.ensures.found in
    let onward : IfSome (Some at) (λ b. IsFrom from (key_of b)) =
    subst (λ (o : Option Base). IfSome o (λ b. IsFrom from (key_of b))) c.in-Some.is invariant.onward in
    let after : IsAfter e.base c.key_after-next.result = after_is e.base c.key_after-next.result c.key_after-next.ensures in
    let outside : IsInChoice choice e → ⊥ = λ chosen. true≢false (sym (c.has.ensures.1 chosen) ∙ c.if-has.false) in
    record {
      passed = told_both was (λ es search none. passed_after choice es from at e search none c.key_after-next.result after outside) found passed;
      onward = from_next from (key_of at) (element_key e) c.key_after-next.result onward sound.place c.key_after-next.ensures;
      keeps = search (rules, same_both);
      name = search rules;
      frame = search rules;
      faults = omega (arith, invariant.faults, c.in_ok-element.ensures.cause.counted.never_falls);
    }

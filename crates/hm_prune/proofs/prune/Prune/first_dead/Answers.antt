use Rattle.std.proofs.Common.{◌≡◌, ◌<◌, Some, Option, subst, sym, ◌∙◌, true≢false, arith, rules}
use Rattle.std.specs.Prelude.{IfSome}
use Rattle.hm_key.specs.Elements.{first_from}
use Rattle.hm_key.specs.Key.{key_of, IsWide}
use Rattle.hm_key.specs.Stores.{IsFound}
use Rattle.hm_key.specs.declared.base.Base.{Base}
use Rattle.hm_key.specs.declared.element.Element.{Element}
use Rattle.hm_key.proofs.SweepLemmas.{found_there}
use Rattle.hm_cursor.specs.Shown.{IsAfter}
use Rattle.hm_cursor.proofs.StoreLemmas.{told, told_both, told_still, told_first, same_both}
use Rattle.hm_cursor.proofs.ShownLemmas.{after_is, next_wide, keys_left, fewer_keys}
use Rattle.hm_prune.specs.Dead.{IsDeadIn}
use Rattle.hm_prune.proofs.LookLemmas.{NonePassed, none_found, none_left, none_beyond, passed_after}
use Rattle.hm_prune.proofs.prune.Prune.first_dead.Goals as goal

pub returns-in_default-2-clause-ok : goal.returns-in_default-2-clause-ok
returns-in_default-2-clause-ok g c =
    let elements = g.T.HasElements.elements in
    let was = elements c.args.store.now in
    let pfs = c.args.self.now.pfs.0 in
    let kept = c.args.self.now.kept in
    let invariant = c.loop-from.invariant in
    let at = c.in-Some.at in
    let read : IfSome (elements c.loop-from.store) (λ es. c.in_ok-element.field-0 ≡ first_from (key_of at) es) = c.in_ok-element.ensures.ok in
    let passed = subst (λ (o : Option Base). IfSome was (λ es. NonePassed pfs kept es o)) c.in-Some.is invariant.passed in
    told_both was (λ es found none. none_found pfs kept es at (sym found ∙ c.in_default-2.is) none)
    (told_still (elements c.loop-from.store) was (λ es. c.in_ok-element.field-0 ≡ first_from (key_of at) es) invariant.keeps.elements read) passed

pub returns-then-element-from-clause-ok : goal.returns-then-element-from-clause-ok
returns-then-element-from-clause-ok g c =
    let elements = g.T.HasElements.elements in
    let was = elements c.args.store.now in
    let pfs = c.args.self.now.pfs.0 in
    let kept = c.args.self.now.kept in
    let invariant = c.loop-from.invariant in
    let at = c.in-Some.at in
    let e = c.in-Some-2.element in
    let passed = subst (λ (o : Option Base). IfSome was (λ es. NonePassed pfs kept es o)) c.in-Some.is invariant.passed in
    let found =
    told_first (elements c.loop-from.store) was (key_of at) c.in_ok-element.field-0 e invariant.keeps.elements (g.met.T.ElementStore.sorted c.args.store.now)
    c.in_ok-element.ensures.ok c.in-Some-2.is in
    told_both was (λ es search none. none_beyond pfs kept es at e search none (omega (arith, c.if-element-from.true, c.from.ensures))) found passed

pub returns-then-is_dead-clause-ok : goal.returns-then-is_dead-clause-ok
returns-then-is_dead-clause-ok g c =
    let elements = g.T.HasElements.elements in
    found_there (key_of c.in-Some.at) c.in-Some-2.element c.in_ok-element.field-0 (elements c.loop-from.store) (elements c.args.store.now)
    (sym c.loop-from.invariant.keeps.elements) (g.met.T.ElementStore.sorted c.loop-from.store) c.in_ok-element.ensures.ok c.in-Some-2.is

pub returns-clause-ok : goal.returns-clause-ok
returns-clause-ok g c =
    let pfs = c.args.self.now.pfs.0 in
    let kept = c.args.self.now.kept in
    told (g.T.HasElements.elements c.args.store.now) (λ es. none_left pfs kept es c.loop-from.from c.in_default.is) c.loop-from.invariant.passed

pub loop-from-smaller : goal.loop-from-smaller
loop-from-smaller g c =
    let at = c.in-Some.at in
    let e = c.in-Some-2.element in
    let wide : IsWide (key_of at) = record {
      localization = search rules;
      obj = search rules;
      rec_type = search rules;
      number = search rules;
      create = search rules;
    } in
    let found : IfSome (Some e) (IsFound (key_of at)) =
    subst (λ (o : Option Element). IfSome o (IsFound (key_of at))) c.in-Some-2.is c.in_ok-element.ensures.found in
    subst (λ (o : Option Base). keys_left c.key_after-from.result < keys_left o) (sym c.in-Some.is)
    (fewer_keys at e.base c.key_after-from.result wide (next_wide (key_of e.base) c.key_after-from.result c.key_after-from.ensures) found.place
    (after_is e.base c.key_after-from.result c.key_after-from.ensures))

pub loop-from-preserved : goal.loop-from-preserved
loop-from-preserved g c =
    let elements = g.T.HasElements.elements in
    let was = elements c.args.store.now in
    let pfs = c.args.self.now.pfs.0 in
    let kept = c.args.self.now.kept in
    let invariant = c.loop-from.invariant in
    let at = c.in-Some.at in
    let e = c.in-Some-2.element in
    let passed = subst (λ (o : Option Base). IfSome was (λ es. NonePassed pfs kept es o)) c.in-Some.is invariant.passed in
    let found =
    told_first (elements c.loop-from.store) was (key_of at) c.in_ok-element.field-0 e invariant.keeps.elements (g.met.T.ElementStore.sorted c.args.store.now)
    c.in_ok-element.ensures.ok c.in-Some-2.is in
    let after : IsAfter e.base c.key_after-from.result = after_is e.base c.key_after-from.result c.key_after-from.ensures in
    let alive : IsDeadIn pfs kept e.base → ⊥ = λ dead. true≢false (sym (c.is_dead.ensures.1 dead) ∙ c.if-is_dead.false) in
    record {
      passed = told_both was (λ es search none. passed_after pfs kept es at e search none c.key_after-from.result after alive) found passed;
      keeps = search (rules, same_both);
      name = search rules;
      frame = search rules;
      faults = omega (arith, invariant.faults, c.in_ok-element.ensures.cause.counted.never_falls);
    }

use Rattle.std.proofs.Common.{◌≡◌, ◌<◌, Some, Option, subst, sym, ap, ◌∙◌, true≢false, arith, rules}
use Rattle.std.specs.Prelude.{IfSome}
use Rattle.hm_types.specs.Elements.{Key, Sees}
use Rattle.hm_key.specs.Elements.{element_key, first_from}
use Rattle.hm_key.specs.Key.{key_of, IsWide}
use Rattle.hm_key.specs.Stores.{IsFound}
use Rattle.hm_key.specs.declared.base.Base.{Base}
use Rattle.hm_key.specs.declared.element.Element.{Element}
use Rattle.hm_cursor.specs.Shown.{IsAfter, IsShown, IsToCome}
use Rattle.hm_cursor.specs.declared.cursor.Cursor.{Cursor}
use Rattle.hm_cursor.proofs.StoreLemmas.{told_both, told_still, told_first, same_both}
use Rattle.hm_cursor.proofs.ShownLemmas.{NonePassed, next_empty, next_found, next_beyond, after_is, next_wide, passed_after, passes, keys_left, fewer_keys}
use Rattle.hm_cursor.proofs.cursor.Cursor.next.Goals as goal
use Rattle.hm_cursor.proofs.cursor.Cursor.next.Goals.{else-element-self-2-via-then-element-self-2+else-is_seen, else-element-self-2-via-else-element-self-2}

pub returns-in_default-2-clause-ok : goal.returns-in_default-2-clause-ok
returns-in_default-2-clause-ok g c =
    let elements = g.T.HasElements.elements in
    let was = elements c.args.store.now in
    let invariant = c.loop-from.invariant in
    let cursor = c.args.self.now in
    let at = c.in-Some.at in
    let read : IfSome (elements c.loop-from.store) (λ es. c.in_ok-element.field-0 ≡ first_from (key_of at) es) = c.in_ok-element.ensures.ok in
    let passed = subst (λ (o : Option Base). IfSome was (λ es. NonePassed es cursor o)) c.in-Some.is invariant.passed in
    told_both was (λ es found none. next_empty es cursor at (sym found ∙ c.in_default-2.is) none)
    (told_still (elements c.loop-from.store) was (λ es. c.in_ok-element.field-0 ≡ first_from (key_of at) es) invariant.keeps.elements read) passed

pub returns-then-element-self-clause-ok : goal.returns-then-element-self-clause-ok
returns-then-element-self-clause-ok g c =
    let elements = g.T.HasElements.elements in
    let was = elements c.args.store.now in
    let invariant = c.loop-from.invariant in
    let cursor = c.args.self.now in
    let at = c.in-Some.at in
    let e = c.in-Some-2.element in
    let passed = subst (λ (o : Option Base). IfSome was (λ es. NonePassed es cursor o)) c.in-Some.is invariant.passed in
    let found =
    told_first (elements c.loop-from.store) was (key_of at) c.in_ok-element.field-0 e invariant.keeps.elements (g.met.T.ElementStore.sorted c.args.store.now)
    c.in_ok-element.ensures.ok c.in-Some-2.is in
    let same : c.loop-from.self.localization ≡ cursor.localization = ap (λ (x : Cursor). x.localization) invariant.self in
    told_both was (λ es search none. next_beyond es cursor at e search none (omega (arith, c.if-element-self.true))) found passed

pub returns-then-is_seen-clause-ok : goal.returns-then-is_seen-clause-ok
returns-then-is_seen-clause-ok g c =
    let elements = g.T.HasElements.elements in
    let was = elements c.args.store.now in
    let invariant = c.loop-from.invariant in
    let cursor = c.args.self.now in
    let at = c.in-Some.at in
    let e = c.in-Some-2.element in
    let passed = subst (λ (o : Option Base). IfSome was (λ es. NonePassed es cursor o)) c.in-Some.is invariant.passed in
    let found =
    told_first (elements c.loop-from.store) was (key_of at) c.in_ok-element.field-0 e invariant.keeps.elements (g.met.T.ElementStore.sorted c.args.store.now)
    c.in_ok-element.ensures.ok c.in-Some-2.is in
    told_both was (λ es search none. next_found es cursor at e search none) found passed

pub returns-then-is_seen-clause-passes : goal.returns-then-is_seen-clause-passes
returns-then-is_seen-clause-passes g c =
    let invariant = c.loop-from.invariant in
    let at = c.in-Some.at in
    let e = c.in-Some-2.element in
    let wide : IsWide (key_of e.base) = record {
      localization = search rules;
      obj = search rules;
      rec_type = search rules;
      number = search rules;
      create = search rules;
    } in
    let found : IfSome (Some e) (IsFound (key_of at)) =
    subst (λ (o : Option Element). IfSome o (IsFound (key_of at))) c.in-Some-2.is c.in_ok-element.ensures.found in
    let onward = subst (λ (o : Option Base). (key : Key) → IsWide key → IsToCome o key → IsToCome c.args.self.now.from key) c.in-Some.is invariant.onward in
    let same : c.loop-from.self ≡ c.args.self.now = invariant.self in
    record {
      shown = record {
        place = c.if-element-self-2.true ∙ ap (λ (x : Cursor). x.localization) same;
        seen = subst (λ (x : Cursor). Sees e.base.create e.base.delete x.as_of.0) same (c.is_seen.ensures.0 c.if-is_seen.true);
        wide = wide;
      };
      came = onward (element_key e) wide found.place;
      localization = ap (λ (x : Cursor). x.localization) same;
      as_of = ap (λ (x : Cursor). x.as_of) same;
      rest = after_is e.base c.key_after-from.result c.key_after-from.ensures;
    }

pub loop-from-smaller : goal.loop-from-smaller
loop-from-smaller g c =
    let at = c.in-Some.at in
    let e = c.in-Some-2.element in
    let wide : IsWide (key_of at) = record {
      localization = search rules;
      obj = search rules;
      rec_type = search rules;
      number = search rules;
      create = search rules;
    } in
    let found : IfSome (Some e) (IsFound (key_of at)) =
    subst (λ (o : Option Element). IfSome o (IsFound (key_of at))) c.in-Some-2.is c.in_ok-element.ensures.found in
    subst (λ (o : Option Base). keys_left c.key_after-from.result < keys_left o) (sym c.in-Some.is)
    (fewer_keys at e.base c.key_after-from.result wide (next_wide (key_of e.base) c.key_after-from.result c.key_after-from.ensures) found.place
    (after_is e.base c.key_after-from.result c.key_after-from.ensures))

pub loop-from-preserved : goal.loop-from-preserved
loop-from-preserved g c =
    let elements = g.T.HasElements.elements in
    let was = elements c.args.store.now in
    let invariant = c.loop-from.invariant in
    let cursor = c.args.self.now in
    let at = c.in-Some.at in
    let e = c.in-Some-2.element in
    let passed = subst (λ (o : Option Base). IfSome was (λ es. NonePassed es cursor o)) c.in-Some.is invariant.passed in
    let found =
    told_first (elements c.loop-from.store) was (key_of at) c.in_ok-element.field-0 e invariant.keeps.elements (g.met.T.ElementStore.sorted c.args.store.now)
    c.in_ok-element.ensures.ok c.in-Some-2.is in
    let place : IfSome (Some e) (IsFound (key_of at)) =
    subst (λ (o : Option Element). IfSome o (IsFound (key_of at))) c.in-Some-2.is c.in_ok-element.ensures.found in
    let onward = subst (λ (o : Option Base). (key : Key) → IsWide key → IsToCome o key → IsToCome cursor.from key) c.in-Some.is invariant.onward in
    let same : c.loop-from.self ≡ cursor = invariant.self in
    let after : IsAfter e.base c.key_after-from.result = after_is e.base c.key_after-from.result c.key_after-from.ensures in
    let unshown : IsShown cursor.localization cursor.as_of.0 e → ⊥ =
    (λ shown. elim c.else-element-self-2.branch [
      | else-element-self-2-via-then-element-self-2+else-is_seen w ↦
          let sees = subst (λ (x : Cursor). Sees e.base.create e.base.delete x.as_of.0) (sym same) shown.seen in
          true≢false (sym (w.is_seen.ensures.1 sees) ∙ w.if-is_seen.false)
      | else-element-self-2-via-else-element-self-2 w ↦ w.if-element-self-2.false (shown.place ∙ sym (ap (λ (x : Cursor). x.localization) same))
    ]) in
    record {
      self = same;
      passed = told_both was (λ es search none. passed_after es cursor at e search none c.key_after-from.result after unshown) found passed;
      onward = λ key wide come. onward key wide (passes (key_of at) (element_key e) key place.place ((after key wide).0 come));
      keeps = search (rules, same_both);
      name = search rules;
      frame = search rules;
      faults = omega arith;
    }

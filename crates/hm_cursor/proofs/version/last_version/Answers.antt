use Rattle.std.proofs.Common.{◌≡◌, Some, Option, subst, sym, ◌∙◌, inl, inr, true≢false, arith, rules}
use Rattle.std.specs.Prelude.{IfSome}
use Rattle.hm_key.specs.Counts.{subject_of}
use Rattle.hm_key.specs.Elements.{element_key, last_to}
use Rattle.hm_key.specs.Key.{key_of}
use Rattle.hm_key.specs.Stores.{IsFoundTo}
use Rattle.hm_key.specs.declared.element.Element.{Element}
use Rattle.hm_cursor.specs.Version.{AreOfOneKind, IsFoundAbout, IsVersion, numbered}
use Rattle.hm_cursor.proofs.SpanLemmas.{end_empty, end_last, end_newest, end_outside, end_over, end_passed, found_there, number_to, span_end}
use Rattle.hm_cursor.proofs.StoreLemmas.{told, told_both, told_last, told_still, told_three, same_both}
use Rattle.hm_cursor.proofs.version.last_version.Goals as goal
use Rattle.hm_cursor.proofs.version.last_version.Goals.{then-not-is_of_one_kind-via-then-not-is_of_one_kind}
use Rattle.hm_cursor.proofs.version.last_version.Goals.{then-not-is_of_one_kind-via-else-not-is_of_one_kind+then-newest-first}

pub loop-key-init : goal.loop-key-init
loop-key-init g c = record {
  high = omega arith;
  above = told (g.T.HasElements.elements c.args.store.now) (λ es sorted e is. is.place.to) (g.met.T.ElementStore.sorted c.args.store.now);
  keeps = search rules;
  name = search rules;
  frame = search rules;
  faults = omega arith;
}

pub returns-in_default-clause-ok : goal.returns-in_default-clause-ok
returns-in_default-clause-ok g c =
    let elements = g.T.HasElements.elements in
    let invariant = c.loop-key.invariant in
    let at = numbered (key_of c.args.at.now) c.args.first in
    let end = span_end at c.loop-key.key c.args.as_of.0 in
    let read : IfSome (elements c.loop-key.store) (λ es. c.in_ok-newest.field-0 ≡ last_to end es) = c.in_ok-newest.ensures.ok in
    told_both (elements c.args.store.now)
    (λ es found above. end_empty es at c.args.at.now.key c.args.as_of.0 c.loop-key.key (sym found ∙ c.in_default.is) above)
    (told_still (elements c.loop-key.store) (elements c.args.store.now) (λ es. c.in_ok-newest.field-0 ≡ last_to end es) invariant.keeps.elements read)
    invariant.above

pub returns-then-not-is_of_one_kind-clause-ok : goal.returns-then-not-is_of_one_kind-clause-ok
returns-then-not-is_of_one_kind-clause-ok g c =
    let elements = g.T.HasElements.elements in
    let was = c.args.store.now in
    let now = c.last_at_or_before.new.self in
    let invariant = c.loop-key.invariant in
    let newest = c.in-Some.newest in
    let at = numbered (key_of c.args.at.now) c.args.first in
    let last = c.args.at.now.key in
    let t = c.args.as_of.0 in
    let end = span_end at c.loop-key.key t in
    let found =
    told_last (elements c.loop-key.store) (elements was) end c.in_ok-newest.field-0 newest invariant.keeps.elements
    (g.met.T.ElementStore.sorted was) c.in_ok-newest.ensures.ok c.in-Some.is in
    told_both (elements was)
    (λ es search above. end_outside es at last t c.loop-key.key newest search
    (elim c.then-not-is_of_one_kind.branch [
      | then-not-is_of_one_kind-via-then-not-is_of_one_kind w ↦ inl (λ kind. true≢false
          (sym (c.is_of_one_kind.ensures.1 (record { localization = kind.localization; obj = kind.obj; rec_type = kind.rec_type }))
          ∙ w.if-not-is_of_one_kind.true))
      | then-not-is_of_one_kind-via-else-not-is_of_one_kind+then-newest-first w ↦ inr (omega arith)
    ])
    above)
    found invariant.above

pub seen_to-requires-clause-element : goal.seen_to-requires-clause-element
seen_to-requires-clause-element g c =
    let newest = c.in-Some.newest in
    let end = span_end (numbered (key_of c.args.at.now) c.args.first) c.loop-key.key c.args.as_of.0 in
    let element : IfSome (Some newest) (IsFoundTo end) = subst (λ (o : Option Element). IfSome o (IsFoundTo end)) c.in-Some.is c.in_ok-newest.ensures.found in
    element.element

pub seen_to-requires-clause-newest : goal.seen_to-requires-clause-newest
seen_to-requires-clause-newest g c =
    let elements = g.T.HasElements.elements in
    let was = c.args.store.now in
    let now = c.last_at_or_before.new.self in
    let invariant = c.loop-key.invariant in
    let newest = c.in-Some.newest in
    let at = numbered (key_of c.args.at.now) c.args.first in
    let last = c.args.at.now.key in
    let t = c.args.as_of.0 in
    let end = span_end at c.loop-key.key t in
    let alike = c.is_of_one_kind.ensures.0 c.if-not-is_of_one_kind.false in
    let kind : AreOfOneKind (element_key newest) at = record { localization = alike.localization; obj = alike.obj; rec_type = alike.rec_type } in
    told (elements now)
    (λ es search. end_newest es at last t c.loop-key.key newest search kind)
    (told_last (elements c.loop-key.store) (elements now) end c.in_ok-newest.field-0 newest (sym c.in_ok-newest.ensures.keeps.elements)
    (g.met.T.ElementStore.sorted now) c.in_ok-newest.ensures.ok c.in-Some.is)

pub returns-in-Some-2-clause-ok : goal.returns-in-Some-2-clause-ok
returns-in-Some-2-clause-ok g c =
    let elements = g.T.HasElements.elements in
    let was = c.args.store.now in
    let now = c.last_at_or_before.new.self in
    let invariant = c.loop-key.invariant in
    let newest = c.in-Some.newest in
    let at = numbered (key_of c.args.at.now) c.args.first in
    let last = c.args.at.now.key in
    let t = c.args.as_of.0 in
    let end = span_end at c.loop-key.key t in
    let found =
    told_last (elements c.loop-key.store) (elements was) end c.in_ok-newest.field-0 newest invariant.keeps.elements
    (g.met.T.ElementStore.sorted was) c.in_ok-newest.ensures.ok c.in-Some.is in
    let s = subject_of (element_key newest) in
    let read : IfSome (elements now) (λ es. IsVersion es s t c.in_ok-seen.field-0) = c.in_ok-seen.ensures.ok in
    let version =
    told_still (elements now) (elements was) (λ es. IsVersion es s t c.in_ok-seen.field-0)
    (c.in_ok-newest.ensures.keeps.elements ∙ invariant.keeps.elements) read in
    let alike = c.is_of_one_kind.ensures.0 c.if-not-is_of_one_kind.false in
    let kind : AreOfOneKind (element_key newest) at = record { localization = alike.localization; obj = alike.obj; rec_type = alike.rec_type } in
    told_three (elements was)
    (λ es search counts above. end_last es at last t c.loop-key.key newest search kind
    (omega arith) invariant.high c.in-Some-2.seen (subst (λ (o : Option Element). IsVersion es s t o) c.in-Some-2.is counts) above)
    found version invariant.above

pub returns-in-Some-2-clause-found : goal.returns-in-Some-2-clause-found
returns-in-Some-2-clause-found g c =
    let newest = c.in-Some.newest in
    let at = numbered (key_of c.args.at.now) c.args.first in
    let end = span_end at c.loop-key.key c.args.as_of.0 in
    let s = subject_of (element_key newest) in
    let alike = c.is_of_one_kind.ensures.0 c.if-not-is_of_one_kind.false in
    let kind : AreOfOneKind (element_key newest) at = record { localization = alike.localization; obj = alike.obj; rec_type = alike.rec_type } in
    let element : IfSome (Some newest) (IsFoundTo end) = subst (λ (o : Option Element). IfSome o (IsFoundTo end)) c.in-Some.is c.in_ok-newest.ensures.found in
    let seen : IfSome (Some c.in-Some-2.seen) (IsFoundAbout s c.args.as_of.0) =
    subst (λ (o : Option Element). IfSome o (IsFoundAbout s c.args.as_of.0)) c.in-Some-2.is c.in_ok-seen.ensures.found in
    let up = number_to at c.loop-key.key c.args.as_of.0 (element_key newest) kind element.place in
    found_there at c.args.at.now.key c.args.as_of.0 newest c.in-Some-2.seen kind (omega (arith, c.if-not-is_of_one_kind.false))
    (omega (arith, up, c.loop-key.invariant.high)) seen

pub returns-then-newest-first-2-clause-ok : goal.returns-then-newest-first-2-clause-ok
returns-then-newest-first-2-clause-ok g c =
    let elements = g.T.HasElements.elements in
    let was = c.args.store.now in
    let now = c.last_at_or_before.new.self in
    let invariant = c.loop-key.invariant in
    let newest = c.in-Some.newest in
    let at = numbered (key_of c.args.at.now) c.args.first in
    let last = c.args.at.now.key in
    let t = c.args.as_of.0 in
    let end = span_end at c.loop-key.key t in
    let found =
    told_last (elements c.loop-key.store) (elements was) end c.in_ok-newest.field-0 newest invariant.keeps.elements
    (g.met.T.ElementStore.sorted was) c.in_ok-newest.ensures.ok c.in-Some.is in
    let s = subject_of (element_key newest) in
    let read : IfSome (elements now) (λ es. IsVersion es s t c.in_ok-seen.field-0) = c.in_ok-seen.ensures.ok in
    let version =
    told_still (elements now) (elements was) (λ es. IsVersion es s t c.in_ok-seen.field-0)
    (c.in_ok-newest.ensures.keeps.elements ∙ invariant.keeps.elements) read in
    let alike = c.is_of_one_kind.ensures.0 c.if-not-is_of_one_kind.false in
    let kind : AreOfOneKind (element_key newest) at = record { localization = alike.localization; obj = alike.obj; rec_type = alike.rec_type } in
    told_three (elements was)
    (λ es search none above e is.
    let below = end_passed es at last t c.loop-key.key newest search kind
    (subst (λ (o : Option Element). IsVersion es s t o) c.in_default-2.is none) above e is in
    let from = is.place.from in
    absurd (omega (arith, below, from, c.if-newest-first-2.true)))
    found version invariant.above

pub loop-key-preserved : goal.loop-key-preserved
loop-key-preserved g c =
    let elements = g.T.HasElements.elements in
    let was = c.args.store.now in
    let now = c.last_at_or_before.new.self in
    let invariant = c.loop-key.invariant in
    let newest = c.in-Some.newest in
    let at = numbered (key_of c.args.at.now) c.args.first in
    let last = c.args.at.now.key in
    let t = c.args.as_of.0 in
    let end = span_end at c.loop-key.key t in
    let found =
    told_last (elements c.loop-key.store) (elements was) end c.in_ok-newest.field-0 newest invariant.keeps.elements
    (g.met.T.ElementStore.sorted was) c.in_ok-newest.ensures.ok c.in-Some.is in
    let s = subject_of (element_key newest) in
    let read : IfSome (elements now) (λ es. IsVersion es s t c.in_ok-seen.field-0) = c.in_ok-seen.ensures.ok in
    let version =
    told_still (elements now) (elements was) (λ es. IsVersion es s t c.in_ok-seen.field-0)
    (c.in_ok-newest.ensures.keeps.elements ∙ invariant.keeps.elements) read in
    let alike = c.is_of_one_kind.ensures.0 c.if-not-is_of_one_kind.false in
    let kind : AreOfOneKind (element_key newest) at = record { localization = alike.localization; obj = alike.obj; rec_type = alike.rec_type } in
    let element : IfSome (Some newest) (IsFoundTo end) = subst (λ (o : Option Element). IfSome o (IsFoundTo end)) c.in-Some.is c.in_ok-newest.ensures.found in
    record {
      high = let up = number_to at c.loop-key.key t (element_key newest) kind element.place in omega (arith, up, invariant.high);
      above = told_three (elements was)
          (λ es search none above e is.
          let below = end_passed es at last t c.loop-key.key newest search kind
          (subst (λ (o : Option Element). IsVersion es s t o) c.in_default-2.is none) above e is in
          omega (arith, below))
          found version invariant.above;
      keeps = search (rules, same_both);
      name = search rules;
      frame = search rules;
      faults = omega arith;
    }

pub returns-clause-ok : goal.returns-clause-ok
returns-clause-ok g c =
    told (g.T.HasElements.elements c.args.store.now)
    (λ es above. end_over es (numbered (key_of c.args.at.now) c.args.first) c.args.at.now.key c.args.as_of.0 c.loop-key.key c.loop-key-test.false above)
    c.loop-key.invariant.above

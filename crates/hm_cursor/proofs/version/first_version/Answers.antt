use Rattle.std.proofs.Common.{◌≡◌, ◌+◌, Some, Option, subst, sym, ◌∙◌, inl, inr, true≢false, arith, rules}
use Rattle.std.specs.Prelude.{IfSome}
use Rattle.hm_key.specs.Counts.{subject_of}
use Rattle.hm_key.specs.Elements.{element_key, first_from}
use Rattle.hm_key.specs.Key.{key_of}
use Rattle.hm_key.specs.Stores.{IsFound}
use Rattle.hm_key.specs.declared.element.Element.{Element}
use Rattle.hm_cursor.specs.Version.{IsVersion}
use Rattle.hm_cursor.proofs.SpanLemmas.{span_start, number_from, span_over, span_empty, span_outside, span_oldest, span_passed, span_first}
use Rattle.hm_cursor.proofs.StoreLemmas.{told, told_both, told_three, told_still, told_first, same_both}
use Rattle.hm_cursor.proofs.version.first_version.Goals as goal
use Rattle.hm_cursor.proofs.version.first_version.Goals.{then-not-is_of_one_kind-via-then-not-is_of_one_kind}
use Rattle.hm_cursor.proofs.version.first_version.Goals.{then-not-is_of_one_kind-via-else-not-is_of_one_kind+then-oldest-last}

pub returns-in_default-clause-ok : goal.returns-in_default-clause-ok
returns-in_default-clause-ok g c =
    let elements = g.T.HasElements.elements in
    let invariant = c.loop-key.invariant in
    let start = span_start (key_of c.args.at.now) c.loop-key.key in
    let read : IfSome (elements c.loop-key.store) (λ es. c.in_ok-oldest.field-0 ≡ first_from start es) = c.in_ok-oldest.ensures.ok in
    told_both (elements c.args.store.now)
    (λ es found below. span_empty es (key_of c.args.at.now) c.args.last c.args.as_of.0 c.loop-key.key (sym found ∙ c.in_default.is) below)
    (told_still (elements c.loop-key.store) (elements c.args.store.now) (λ es. c.in_ok-oldest.field-0 ≡ first_from start es) invariant.keeps.elements read)
    invariant.below

pub returns-then-not-is_of_one_kind-clause-ok : goal.returns-then-not-is_of_one_kind-clause-ok
returns-then-not-is_of_one_kind-clause-ok g c =
    let elements = g.T.HasElements.elements in
    let invariant = c.loop-key.invariant in
    let oldest = c.in-Some.oldest in
    let start = span_start (key_of c.args.at.now) c.loop-key.key in
    let found =
    told_first (elements c.loop-key.store) (elements c.args.store.now) start c.in_ok-oldest.field-0 oldest invariant.keeps.elements
    (g.met.T.ElementStore.sorted c.args.store.now) c.in_ok-oldest.ensures.ok c.in-Some.is in
    told_both (elements c.args.store.now)
    (λ es search below. span_outside es (key_of c.args.at.now) c.args.last c.args.as_of.0 c.loop-key.key oldest search
    (elim c.then-not-is_of_one_kind.branch [
      | then-not-is_of_one_kind-via-then-not-is_of_one_kind w ↦ inl (λ kind. true≢false (sym (c.is_of_one_kind.ensures.1 kind) ∙ w.if-not-is_of_one_kind.true))
      | then-not-is_of_one_kind-via-else-not-is_of_one_kind+then-oldest-last w ↦ inr (omega arith)
    ])
    below)
    found invariant.below

pub seen_from-requires : goal.seen_from-requires
seen_from-requires g c =
    let elements = g.T.HasElements.elements in
    let oldest = c.in-Some.oldest in
    let start = span_start (key_of c.args.at.now) c.loop-key.key in
    let now = c.first_at_or_after.new.self in
    told (elements now)
    (λ es search. span_oldest es (key_of c.args.at.now) c.args.last c.args.as_of.0 c.loop-key.key oldest search
    (c.is_of_one_kind.ensures.0 c.if-not-is_of_one_kind.false))
    (told_first (elements c.loop-key.store) (elements now) start c.in_ok-oldest.field-0 oldest (sym c.in_ok-oldest.ensures.keeps.elements)
    (g.met.T.ElementStore.sorted now) c.in_ok-oldest.ensures.ok c.in-Some.is)

pub returns-in-Some-2-clause-ok : goal.returns-in-Some-2-clause-ok
returns-in-Some-2-clause-ok g c =
    let elements = g.T.HasElements.elements in
    let was = c.args.store.now in
    let now = c.first_at_or_after.new.self in
    let invariant = c.loop-key.invariant in
    let oldest = c.in-Some.oldest in
    let s = subject_of (element_key oldest) in
    let t = c.args.as_of.0 in
    let start = span_start (key_of c.args.at.now) c.loop-key.key in
    let found =
    told_first (elements c.loop-key.store) (elements was) start c.in_ok-oldest.field-0 oldest invariant.keeps.elements
    (g.met.T.ElementStore.sorted was) c.in_ok-oldest.ensures.ok c.in-Some.is in
    let read : IfSome (elements now) (λ es. IsVersion es s t c.in_ok-seen.field-0) = c.in_ok-seen.ensures.ok in
    let version =
    told_still (elements now) (elements was) (λ es. IsVersion es s t c.in_ok-seen.field-0)
    (c.in_ok-oldest.ensures.keeps.elements ∙ invariant.keeps.elements) read in
    told_three (elements was)
    (λ es search counts below. span_first es (key_of c.args.at.now) c.args.last t c.loop-key.key oldest search
    (c.is_of_one_kind.ensures.0 c.if-not-is_of_one_kind.false)
    invariant.low c.if-oldest-last.false c.in-Some-2.seen (subst (λ (o : Option Element). IsVersion es s t o) c.in-Some-2.is counts) below)
    found version invariant.below

pub returns-then-oldest-last-2-clause-ok : goal.returns-then-oldest-last-2-clause-ok
returns-then-oldest-last-2-clause-ok g c =
    let elements = g.T.HasElements.elements in
    let was = c.args.store.now in
    let now = c.first_at_or_after.new.self in
    let invariant = c.loop-key.invariant in
    let oldest = c.in-Some.oldest in
    let at = key_of c.args.at.now in
    let s = subject_of (element_key oldest) in
    let t = c.args.as_of.0 in
    let start = span_start at c.loop-key.key in
    let found =
    told_first (elements c.loop-key.store) (elements was) start c.in_ok-oldest.field-0 oldest invariant.keeps.elements
    (g.met.T.ElementStore.sorted was) c.in_ok-oldest.ensures.ok c.in-Some.is in
    let read : IfSome (elements now) (λ es. IsVersion es s t c.in_ok-seen.field-0) = c.in_ok-seen.ensures.ok in
    let version =
    told_still (elements now) (elements was) (λ es. IsVersion es s t c.in_ok-seen.field-0)
    (c.in_ok-oldest.ensures.keeps.elements ∙ invariant.keeps.elements) read in
    told_three (elements was)
    (λ es search none below. span_over es at c.args.last t (oldest.base.key + 1) (omega (arith, c.if-oldest-last-2.true))
    (span_passed es at c.args.last t c.loop-key.key oldest search (c.is_of_one_kind.ensures.0 c.if-not-is_of_one_kind.false)
    (subst (λ (o : Option Element). IsVersion es s t o) c.in_default-2.is none) below))
    found version invariant.below

pub loop-key-preserved : goal.loop-key-preserved
loop-key-preserved g c =
    let elements = g.T.HasElements.elements in
    let was = c.args.store.now in
    let now = c.first_at_or_after.new.self in
    let invariant = c.loop-key.invariant in
    let oldest = c.in-Some.oldest in
    let at = key_of c.args.at.now in
    let s = subject_of (element_key oldest) in
    let t = c.args.as_of.0 in
    let start = span_start at c.loop-key.key in
    let kind = c.is_of_one_kind.ensures.0 c.if-not-is_of_one_kind.false in
    let element : IfSome (Some oldest) (IsFound start) = subst (λ (o : Option Element). IfSome o (IsFound start)) c.in-Some.is c.in_ok-oldest.ensures.found in
    let found =
    told_first (elements c.loop-key.store) (elements was) start c.in_ok-oldest.field-0 oldest invariant.keeps.elements
    (g.met.T.ElementStore.sorted was) c.in_ok-oldest.ensures.ok c.in-Some.is in
    let read : IfSome (elements now) (λ es. IsVersion es s t c.in_ok-seen.field-0) = c.in_ok-seen.ensures.ok in
    let version =
    told_still (elements now) (elements was) (λ es. IsVersion es s t c.in_ok-seen.field-0)
    (c.in_ok-oldest.ensures.keeps.elements ∙ invariant.keeps.elements) read in
    record {
      low = let up = number_from at c.loop-key.key (element_key oldest) kind element.place in omega (arith, invariant.low);
      below = told_three (elements was)
          (λ es search none below. span_passed es at c.args.last t c.loop-key.key oldest search kind
          (subst (λ (o : Option Element). IsVersion es s t o) c.in_default-2.is none) below)
          found version invariant.below;
      keeps = search (rules, same_both);
      name = search rules;
      frame = search rules;
      faults = omega arith;
    }

pub returns-clause-ok : goal.returns-clause-ok
returns-clause-ok g c =
    told (g.T.HasElements.elements c.args.store.now)
    (λ es below. span_over es (key_of c.args.at.now) c.args.last c.args.as_of.0 c.loop-key.key c.loop-key-test.false below) c.loop-key.invariant.below

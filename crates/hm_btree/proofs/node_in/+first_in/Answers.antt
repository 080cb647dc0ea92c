use Rattle.std.proofs.Common.{◌<◌, Result, Some, None, true≢false, sym, subst, ◌∙◌, arith, rules}
use Rattle.std.specs.Prelude.{Option, IfSome}
use Rattle.std.proofs.lemmas.Option.{IfSome_then}
use Rattle.std.proofs.lemmas.Result.{err_from_is_err_and}
use Rattle.hm_types.specs.Faults.{HasFaultCause}
use Rattle.hm_types.specs.declared.fault.Fault.{Fault}
use Rattle.hm_key.specs.Key.{key_of}
use Rattle.hm_node.specs.Head.{head_in}
use Rattle.hm_node.specs.Inner.{child_in, inner_in, IsNodeOffset}
use Rattle.hm_node.specs.Leaf.{leaf_in}
use Rattle.hm_node.specs.Node.{node_in, HasLevel}
use Rattle.hm_node.specs.Places.{place}
use Rattle.hm_node.specs.declared.node.Node.{Node}
use Rattle.hm_node.proofs.PlaceLemmas.{first_length}
use Rattle.hm_node.proofs.ReadyLemmas.{inner_there, leaf_there}
use Rattle.hm_search.specs.Descent.{levels_below, HasSearchCause, PassesHere}
use Rattle.hm_search.specs.Place.{MeetsBy}
use Rattle.hm_search.specs.declared.place_rule.PlaceRule.{PlaceRule}
use Rattle.hm_search.specs.declared.subtree.Subtree.{Subtree}
use Rattle.hm_search.proofs.DescentLemmas.{cause_below, cause_here, cause_ok, goes_lower, goes_told}
use Rattle.hm_btree.proofs.ChoiceLemmas.{FindsTold, here_finds, leaf_finds, none_told, past_told, more_told, found_told}
use Rattle.hm_btree.proofs.PageLemmas.{page_shaped}
use Rattle.hm_btree.proofs.ShapeLemmas.{child_offset}
use Rattle.hm_btree.proofs.ToldLemmas.{IfSome_all}
use Rattle.hm_btree.proofs.node_in.+first_in.Goals as goal

pub returns-then-lies_in-clause-ok : goal.returns-then-lies_in-clause-ok
returns-then-lies_in-clause-ok g t c =
    IfSome_all (g.P.Pages.pages c.args.pages.now) (λ map height stored wide.
    here_finds c.args.chosen.now (key_of c.args.from.now) map height c.args.place.now stored wide c.requires.after (c.lies_in.ensures.0 c.if-lies_in.true))

pub returns-in_err-visit-clause-cause : goal.returns-in_err-visit-clause-cause
returns-in_err-visit-clause-cause g t c =
    let told = g.P.Pages.pages c.args.pages.now in
    let old = g.P.Counted.faults c.args.pages.now in
    let new = g.P.Counted.faults c.visit.new.pages in
    let fault = c.in_err-visit.field-0.0 in
    let p = err_from_is_err_and c.from_residual.result c.from_residual.ensures.1 in
    let whole = cause_here {T = Option Subtree} told c.args.place.now old new fault
    (subst (λ (r : Result (Unit {0}) Fault). HasFaultCause old new r) c.in_err-visit.was c.visit.ensures.cause) c.in_err-visit.ensures.damage in
    rw (p.1, p.2) whole

pub returns-then-head-eq-LEAF-clause-ok : goal.returns-then-head-eq-LEAF-clause-ok
returns-then-head-eq-LEAF-clause-ok g t c =
    let page = c.visit.new.page in
    IfSome_then (g.P.Pages.pages c.args.pages.now) c.in_ok-visit.ensures.visits.there (λ map here height stored wide.
    leaf_finds c.args.chosen.now (key_of c.args.from.now) map height c.args.place.now (leaf_in page) stored
    (λ lies. true≢false (sym (c.lies_in.ensures.1 lies) ∙ c.if-lies_in.false))
    ((here.spelled stored.there).value ∙ leaf_there page c.read-head.result c.read-head.ensures.value c.if-head-eq-LEAF.true))

pub first_in-requires : goal.first_in-requires
first_in-requires g t c κs within =
    let page = c.visit.new.page in
    let visits = c.in_ok-visit.ensures.visits in
    let is = inner_there page c.read-head.result c.read-head.ensures.value c.if-head-eq-LEAF.false in
    let smaller : levels_below c.child_below-child.result < levels_below c.args.place.now =
    goes_lower c.args.place.now (inner_in page) c.loop-i.i c.child_below-child.result (subst HasLevel is visits.holds.level)
    (subst (λ (n : Node). (rule : PlaceRule) → MeetsBy c.args.place.now n rule) is visits.meets) c.child_below-child.ensures in
    let spot : IsNodeOffset c.child_below-child.result.at =
    child_offset (node_in page) (inner_in page) c.loop-i.i c.child_below-child.result (page_shaped page visits.holds) is c.child_below-child.ensures in
    search rules

pub returns-in_err-found-clause-same : goal.returns-in_err-found-clause-same
returns-in_err-found-clause-same g t c = record {
  name = c.first_in.ensures.same.name ∙ c.loop-i.invariant.same.name;
  frame = c.first_in.ensures.same.frame ∙ c.loop-i.invariant.same.frame;
  rest = c.first_in.ensures.same.rest ∙ c.loop-i.invariant.same.rest;
  pages = c.first_in.ensures.same.pages ∙ c.loop-i.invariant.same.pages;
}

pub returns-in_err-found-clause-cause : goal.returns-in_err-found-clause-cause
returns-in_err-found-clause-cause g t c =
    let told = g.P.Pages.pages c.args.pages.now in
    let old = g.P.Counted.faults c.args.pages.now in
    let new = g.P.Counted.faults c.first_in.new.pages in
    let page = c.visit.new.page in
    let is = inner_there page c.read-head.result c.read-head.ensures.value c.if-head-eq-LEAF.false in
    let here = subst (λ (n : Node). IfSome told (λ map. PassesHere map c.args.place.now n)) is c.in_ok-visit.ensures.visits.there in
    let whole = cause_below told (g.P.Pages.pages c.loop-i.pages) c.args.place.now c.child_below-child.result old (g.P.Counted.faults c.loop-i.pages) new
    c.first_in.result c.loop-i.invariant.same.pages c.loop-i.invariant.counted
    (goes_told told c.args.place.now (inner_in page) c.child_below-child.result here (c.loop-i.i, c.child_below-child.ensures)) c.first_in.ensures.cause in
    let failed = subst (λ (r : Result (Option Subtree) Fault). HasSearchCause told c.args.place.now old new r) c.in_err-found.was whole in
    let p = err_from_is_err_and c.from_residual-in_err-found.result c.from_residual-in_err-found.ensures.1 in
    rw (p.1, p.2) failed

pub returns-in-Some-clause-ok : goal.returns-in-Some-clause-ok
returns-in-Some-clause-ok g t c =
    let told = g.P.Pages.pages c.args.pages.now in
    let from = key_of c.args.from.now in
    let now = g.P.Pages.pages c.loop-i.pages in
    let page = c.visit.new.page in
    let child = c.child_below-child.result in
    let is = inner_there page c.read-head.result c.read-head.ensures.value c.if-head-eq-LEAF.false in
    let here = subst (λ (n : Node). IfSome told (λ map. PassesHere map c.args.place.now n)) is c.in_ok-visit.ensures.visits.there in
    found_told c.args.chosen.now from told c.args.place.now (inner_in page) here c.loop-i.i child c.child_below-child.ensures
    c.loop-i.invariant.none now c.loop-i.invariant.same.pages c.in-Some.found (λ lies. true≢false (sym (c.lies_in.ensures.1 lies) ∙ c.if-lies_in.false))
    (subst (λ (o : Option Subtree). FindsTold c.args.chosen.now from told c.args.place.now (inner_in page) now child o) c.in-Some.is c.in_ok-found.ensures.ok)

pub returns-in-Some-clause-same : goal.returns-in-Some-clause-same
returns-in-Some-clause-same g t c = record {
  name = c.first_in.ensures.same.name ∙ c.loop-i.invariant.same.name;
  frame = c.first_in.ensures.same.frame ∙ c.loop-i.invariant.same.frame;
  rest = c.first_in.ensures.same.rest ∙ c.loop-i.invariant.same.rest;
  pages = c.first_in.ensures.same.pages ∙ c.loop-i.invariant.same.pages;
}

pub returns-in-Some-clause-cause : goal.returns-in-Some-clause-cause
returns-in-Some-clause-cause g t c =
    cause_ok (g.P.Pages.pages c.args.pages.now) c.args.place.now (g.P.Counted.faults c.args.pages.now) (g.P.Counted.faults c.first_in.new.pages)
    (Some c.in-Some.found) (omega (arith, c.loop-i.invariant.counted, c.first_in.ensures.cause.counted.never_falls))

pub returns-clause-ok : goal.returns-clause-ok
returns-clause-ok g t c =
    let told = g.P.Pages.pages c.args.pages.now in
    let page = c.visit.new.page in
    let is = inner_there page c.read-head.result c.read-head.ensures.value c.if-head-eq-LEAF.false in
    let here = subst (λ (n : Node). IfSome told (λ map. PassesHere map c.args.place.now n)) is c.in_ok-visit.ensures.visits.there in
    let long = first_length (λ i. child_in page (place i)) (head_in page).count in
    none_told c.args.chosen.now (key_of c.args.from.now) told c.args.place.now (inner_in page) here c.loop-i.i (search (long, rules))
    (λ lies. true≢false (sym (c.lies_in.ensures.1 lies) ∙ c.if-lies_in.false)) c.loop-i.invariant.none

pub returns-clause-cause : goal.returns-clause-cause
returns-clause-cause g t c =
    cause_ok (g.P.Pages.pages c.args.pages.now) c.args.place.now (g.P.Counted.faults c.args.pages.now) (g.P.Counted.faults c.loop-i.pages)
    None c.loop-i.invariant.counted

pub loop-i-preserved-then-not-ends_after : goal.loop-i-preserved-then-not-ends_after
loop-i-preserved-then-not-ends_after g t c =
    let told = g.P.Pages.pages c.args.pages.now in
    let page = c.visit.new.page in
    let is = inner_there page c.read-head.result c.read-head.ensures.value c.if-head-eq-LEAF.false in
    let here = subst (λ (n : Node). IfSome told (λ map. PassesHere map c.args.place.now n)) is c.in_ok-visit.ensures.visits.there in
    record {
      same = c.loop-i.invariant.same;
      counted = c.loop-i.invariant.counted;
      none = past_told c.args.chosen.now (key_of c.args.from.now) told c.args.place.now (inner_in page) here c.loop-i.i c.child_below-child.result
          c.child_below-child.ensures c.loop-i.invariant.none (λ before. true≢false (sym (c.ends_after.ensures.1 before) ∙ c.if-not-ends_after.true));
    }

pub loop-i-preserved : goal.loop-i-preserved
loop-i-preserved g t c =
    let told = g.P.Pages.pages c.args.pages.now in
    let from = key_of c.args.from.now in
    let now = g.P.Pages.pages c.loop-i.pages in
    let page = c.visit.new.page in
    let child = c.child_below-child.result in
    let is = inner_there page c.read-head.result c.read-head.ensures.value c.if-head-eq-LEAF.false in
    let here = subst (λ (n : Node). IfSome told (λ map. PassesHere map c.args.place.now n)) is c.in_ok-visit.ensures.visits.there in
    record {
      same = record {
        name = c.first_in.ensures.same.name ∙ c.loop-i.invariant.same.name;
        frame = c.first_in.ensures.same.frame ∙ c.loop-i.invariant.same.frame;
        rest = c.first_in.ensures.same.rest ∙ c.loop-i.invariant.same.rest;
        pages = c.first_in.ensures.same.pages ∙ c.loop-i.invariant.same.pages;
      };
      counted = omega (arith, c.loop-i.invariant.counted, c.first_in.ensures.cause.counted.never_falls);
      none = more_told c.args.chosen.now from told c.args.place.now (inner_in page) here c.loop-i.i child c.child_below-child.ensures
          c.loop-i.invariant.none now c.loop-i.invariant.same.pages
          (subst (λ (o : Option Subtree). FindsTold c.args.chosen.now from told c.args.place.now (inner_in page) now child o)
          c.in_default.is c.in_ok-found.ensures.ok);
    }

use Rattle.std.proofs.Common.{◌≡◌, ℕ, ◌<◌, List, ◌∷◌, [], ◌++◌, map, length, refl, ◌∙◌, arith, rules, tests, inl, inr}
use Rattle.std.specs.Bool.{◌==◌}
use Rattle.std.proofs.lemmas.Iterator.Splits.{YieldsList-from_slice_split}
use Rattle.std.proofs.lemmas.Iterator.Consumers.{YieldsList-at}
use Rattle.std.proofs.lemmas.List.{map-append}
use Rattle.hm_types.specs.declared.limits.TheConstants.{MOST_PATH_PARTS}
use Rattle.hm_path.specs.Path.{slash}
use Rattle.hm_path.proofs.ComponentLemmas.{no_part, one_part}
use Rattle.hm_path.proofs.PathLemmas.{length_parts}
use Rattle.hm_path.proofs.SplitLemmas.{next_item, no_item, bad_here, texts_are, place_within, spells_more, offset_more}
use Rattle.hm_path.proofs.path.read_components.Goals as goal

pub returns-then-len-eq-MOST_PATH_PARTS-clause-err :
    goal.returns-then-len-eq-MOST_PATH_PARTS-clause-err
returns-then-len-eq-MOST_PATH_PARTS-clause-err c =
    let next = next_item c.loop-text.yielded _ c.loop-text.yielded_by _ _ c.in-Some.text c.in-Some.is c.next.ensures.steps
    (YieldsList-at c.into_iter-text-iterator.ensures.into_iter_gives
    (YieldsList-from_slice_split _ (λ x. x == slash) c.args.rest.now c.split-text-items.ensures.rest c.split-text-items.ensures.done
    c.split-text-items.ensures.closure (λ x b q k. search (rules, tests)))) in
    let before : List (List ℕ) = map (λ t. t.now) c.loop-text.yielded in
    let full : length before ≡ MOST_PATH_PARTS =
    length_parts before c.loop-text.parts.items c.loop-text.invariant.good.each
    ∙ omega (arith, c.if-len-eq-MOST_PATH_PARTS.true, c.len.ensures, c.loop-text.parts.ok.0) in
    bad_here c.args.rest.now before c.in-Some.text.now next.0 c.loop-text.parts.items c.loop-text.place c.requires.some next.1
    c.loop-text.invariant.good c.loop-text.invariant.place_is (inr full)

pub returns-in_default-clause-err : goal.returns-in_default-clause-err
returns-in_default-clause-err c =
    let next = next_item c.loop-text.yielded _ c.loop-text.yielded_by _ _ c.in-Some.text c.in-Some.is c.next.ensures.steps
    (YieldsList-at c.into_iter-text-iterator.ensures.into_iter_gives
    (YieldsList-from_slice_split _ (λ x. x == slash) c.args.rest.now c.split-text-items.ensures.rest c.split-text-items.ensures.done
    c.split-text-items.ensures.closure (λ x b q k. search (rules, tests)))) in
    let before : List (List ℕ) = map (λ t. t.now) c.loop-text.yielded in
    let none = no_part c.in-Some.text.now c.in_ok-part.field-0 c.in_ok-part.ensures c.in_default.not-Some in
    bad_here c.args.rest.now before c.in-Some.text.now next.0 c.loop-text.parts.items c.loop-text.place c.requires.some next.1
    c.loop-text.invariant.good c.loop-text.invariant.place_is (inl none)

pub overflow_add-place-in-loop-text : goal.overflow_add-place-in-loop-text
overflow_add-place-in-loop-text c =
    let next = next_item c.loop-text.yielded _ c.loop-text.yielded_by _ _ c.in-Some.text c.in-Some.is c.next.ensures.steps
    (YieldsList-at c.into_iter-text-iterator.ensures.into_iter_gives
    (YieldsList-from_slice_split _ (λ x. x == slash) c.args.rest.now c.split-text-items.ensures.rest c.split-text-items.ensures.done
    c.split-text-items.ensures.closure (λ x b q k. search (rules, tests)))) in
    let before : List (List ℕ) = map (λ t. t.now) c.loop-text.yielded in
    let within = place_within (λ x. x == slash) c.args.rest.now before c.in-Some.text.now next.0 next.1 in
    omega (arith, within, c.loop-text.invariant.place_is, c.requires.short)

pub loop-text-preserved : goal.loop-text-preserved
loop-text-preserved c =
    let before : List (List ℕ) = map (λ t. t.now) c.loop-text.yielded in
    let more : map (λ t. t.now) (c.loop-text.yielded ++ c.in-Some.text ∷ []) ≡ before ++ c.in-Some.text.now ∷ [] =
    map-append (λ t. t.now) c.loop-text.yielded (c.in-Some.text ∷ []) in
    let room : length c.loop-text.parts.items < MOST_PATH_PARTS =
    omega (arith, c.if-len-eq-MOST_PATH_PARTS.false, c.len.ensures, c.loop-text.parts.ok.0, c.loop-text.invariant.good.few) in
    let is = one_part c.in-Some.text.now c.in_ok-part.field-0 c.in-Some-2.part c.in-Some-2.is c.in_ok-part.ensures in
    record {
      good = rw (more, c.in_ok-push.ensures.items) (spells_more before c.loop-text.parts.items c.in-Some.text.now c.in-Some-2.part
          c.loop-text.invariant.good room is);
      place_is = rw (more, offset_more before c.in-Some.text.now, c.loop-text.invariant.place_is) refl;
    }

pub returns-clause-ok : goal.returns-clause-ok
returns-clause-ok c =
    let all = no_item c.loop-text.yielded _ c.loop-text.yielded_by _ _ c.in-None.is c.next.ensures.steps
    (YieldsList-at c.into_iter-text-iterator.ensures.into_iter_gives
    (YieldsList-from_slice_split _ (λ x. x == slash) c.args.rest.now c.split-text-items.ensures.rest c.split-text-items.ensures.done
    c.split-text-items.ensures.closure (λ x b q k. search (rules, tests)))) in
    rw (texts_are c.args.rest.now c.requires.some, ← all) c.loop-text.invariant.good

use Rattle.std.proofs.Common.{◌≡◌, ℕ, List, [], ◌∷◌, ◌++◌, length, refl, sym, ◌∙◌, ap, arith, rules, tests, length-append, Bor}
use Rattle.std.specs.Bool.{◌==◌}
use Rattle.std.proofs.lemmas.Bool.{false≢true}
use Rattle.std.proofs.lemmas.Iterator.Splits.{YieldsList-from_slice_split}
use Rattle.std.proofs.lemmas.Iterator.Consumers.{YieldsList-at}
use Rattle.std.proofs.lemmas.List.{map-append, length-map, length-set}
use Rattle.std.proofs.lemmas.List.Elements.{All-push}
use Rattle.hm_model.specs.Words.{blank, IsWord}
use Rattle.hm_path.proofs.SplitLemmas.{next_item, no_item}
use Rattle.hm_script.specs.declared.words.TheConstants.{MOST_WORDS}
use Rattle.hm_script.specs.Texts.{texts}
use Rattle.hm_script.proofs.WordLemmas.{texts_more, no_text-bad, no_text-many}
use Rattle.hm_script.proofs.words.Words.of.Goals as goal
use Rattle.hm_script.proofs.words.Words.of.Goals.{then-count-eq-MOST_WORDS-via-then-count-eq-MOST_WORDS}
use Rattle.hm_script.proofs.words.Words.of.Goals.{then-count-eq-MOST_WORDS-via-else-count-eq-MOST_WORDS+then-not-is_word}

pub returns-then-count-eq-MOST_WORDS : goal.returns-then-count-eq-MOST_WORDS
returns-then-count-eq-MOST_WORDS c =
    let next = next_item c.loop-word.yielded _ c.loop-word.yielded_by _ _ c.in-Some.word c.in-Some.is c.next.ensures.steps
    (YieldsList-at c.into_iter-word-iterator.ensures.into_iter_gives
    (YieldsList-from_slice_split _ (λ x. x == blank) c.args.text.now c.split-word-items.ensures.rest c.split-word-items.ensures.done
    c.split-word-items.ensures.closure (λ x b q k. search (rules, tests)))) in
    let before : List (List ℕ) = texts c.loop-word.yielded in
    elim c.then-count-eq-MOST_WORDS.branch [
      | then-count-eq-MOST_WORDS-via-then-count-eq-MOST_WORDS w ↦
          let many : length before ≡ MOST_WORDS = omega (arith, length-map c.loop-word.yielded (λ (t : Bor (List ℕ)). t.now)) in
          no_text-many c.args.text.now before c.in-Some.word.now next.0 next.1 many
      | then-count-eq-MOST_WORDS-via-else-count-eq-MOST_WORDS+then-not-is_word w ↦
          no_text-bad c.args.text.now before c.in-Some.word.now next.0 next.1 (λ is. false≢true (w.if-not-is_word.ensures.1 is))
    ]

pub loop-word-preserved : goal.loop-word-preserved
loop-word-preserved c =
    let more : texts (c.loop-word.yielded ++ c.in-Some.word ∷ []) ≡ texts c.loop-word.yielded ++ c.in-Some.word.now ∷ [] =
    map-append (λ t. t.now) c.loop-word.yielded (c.in-Some.word ∷ []) in
    record {
      kept = texts_more c.loop-word.words c.loop-word.count c.in-Some.word (omega arith)
          ∙ (ap (λ ts. ts ++ c.in-Some.word.now ∷ []) c.loop-word.invariant.kept ∙ sym more);
      count = omega (arith, length-append c.loop-word.yielded (c.in-Some.word ∷ []));
      sized = omega (arith, length-set c.loop-word.words c.loop-word.count c.in-Some.word);
      few = omega arith;
      each = rw more (All-push IsWord (texts c.loop-word.yielded) c.in-Some.word.now c.loop-word.invariant.each (c.if-not-is_word.ensures.0 refl));
    }

pub returns : goal.returns
returns c =
    let all = no_item c.loop-word.yielded _ c.loop-word.yielded_by _ _ c.in-None.is c.next.ensures.steps
    (YieldsList-at c.into_iter-word-iterator.ensures.into_iter_gives
    (YieldsList-from_slice_split _ (λ x. x == blank) c.args.text.now c.split-word-items.ensures.rest c.split-word-items.ensures.done
    c.split-word-items.ensures.closure (λ x b q k. search (rules, tests)))) in
    record {
      split = sym all ∙ sym c.loop-word.invariant.kept;
      each = rw c.loop-word.invariant.kept c.loop-word.invariant.each;
    }

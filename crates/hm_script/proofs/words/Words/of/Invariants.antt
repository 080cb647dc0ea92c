use Rattle.std.proofs.Common.{◌≡◌, ◌≤◌, length, take, All}
use Rattle.hm_model.specs.Words.{IsWord}
use Rattle.hm_script.specs.declared.words.TheConstants.{MOST_WORDS}
use Rattle.hm_script.specs.Texts.{texts}
use Rattle.hm_script.proofs.words.Words.of.Given as goal

abbrev pub invariant-loop-word : goal.invariant-loop-word
invariant-loop-word l = record {
  kept : texts (take l.count l.words) ≡ texts l.yielded;
  count : l.count ≡ length l.yielded;
  sized : length l.words ≡ MOST_WORDS;
  few : l.count ≤ MOST_WORDS;
  each : All IsWord (texts l.yielded);
}

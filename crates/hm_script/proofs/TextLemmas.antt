-- What the text of a line gives.
use Rattle.std.proofs.Common.{◌≡◌, inl, inr, ℕ, ◌≤◌, List, [], ◌∷◌, Option, None, Some, false, length, sym, ◌∙◌, arith}
use Rattle.hm_model.specs.declared.command.Command.{Command}
use Rattle.hm_model.specs.Words.{AreWords, IsLaneWord}
use Rattle.hm_model.specs.Forms.{IsForm, IsInRange}
use Rattle.hm_model.specs.Script.{is_remark, IsLaned, Gives, IsBad}
use Rattle.hm_script.specs.Texts.{IsNoText}
use Rattle.hm_script.specs.Lanes.{CutsLane}
use Rattle.hm_script.specs.Commands.{IsCommandOf, IsNoCommand, FindsCommand}
use Rattle.hm_script.proofs.FormLemmas.{length_form, no_form-none, no_form-lane}

-- a text that is no remark is bad, where it gives no command
pub bad_text : (text : List ℕ) → is_remark text ≡ false → ((lane : ℕ) (command : Command) → Gives text lane command → ⊥) → IsBad text
bad_text text no_remark none (inl remark) = cc
bad_text text no_remark none (inr good) = none good.0 good.1 good.2

-- a text without words, or with too many, gives no command
pub no_words : (text : List ℕ) → IsNoText text → (lane : ℕ) (command : Command) → Gives text lane command → ⊥
no_words text none lane command gives =
    let few : length gives.words ≤ 5 = length_form gives.words command gives.form in
    elim gives.laned [
      | inl bare ↦ none gives.words bare.1 (omega arith)
      | inr laned ↦ none (laned.0 ∷ gives.words) laned.2 (omega arith)
    ]

-- a text has its words in one way
pub words_are_one : (text : List ℕ) (v w : List (List ℕ)) → AreWords text v → AreWords text w → v ≡ w
words_are_one text v w p q = sym p.split ∙ q.split

-- words that give a command beside a lane that was taken off
no_command-bare : (words rest : List (List ℕ)) (lane : ℕ) (command : Command) → CutsLane words lane rest → IsNoCommand rest → IsForm words command
    → IsInRange command → ⊥
no_command-bare [] rest lane command cut none form in_range = no_form-none command form
no_command-bare (word ∷ words) rest lane command (inl laned) none form in_range = no_form-lane word lane words command laned.0 form
no_command-bare (word ∷ words) rest lane command (inr bare) none form in_range =
    none command (rw bare.2 (record { form = form; in_range = in_range }))

-- words that give a command after a lane
no_command-laned : (word : List ℕ) (words rest : List (List ℕ)) (n lane : ℕ) (command : Command) → CutsLane (word ∷ words) lane rest
    → IsNoCommand rest → IsLaneWord word n → IsForm words command → IsInRange command → ⊥
no_command-laned word words rest n lane command (inl laned) none is form in_range =
    none command (rw laned.1 (record { form = form; in_range = in_range }))
no_command-laned word words rest n lane command (inr bare) none is form in_range = bare.0 n is

-- a text gives no command where its words beside the lane give none
pub no_command : (text : List ℕ) (words rest : List (List ℕ)) (lane : ℕ) → AreWords text words → CutsLane words lane rest → IsNoCommand rest
    → (n : ℕ) (command : Command) → Gives text n command → ⊥
no_command text words rest lane are cut none n command gives =
    elim gives.laned [
      | inl bare ↦
          let same : gives.words ≡ words = words_are_one text gives.words words bare.1 are in
          no_command-bare words rest lane command cut none (rw same at gives.form) gives.in_range
      | inr laned ↦
          let same : words ≡ laned.0 ∷ gives.words = words_are_one text words (laned.0 ∷ gives.words) are laned.2 in
          no_command-laned laned.0 gives.words rest n lane command (rw same at cut) none laned.1 gives.form gives.in_range
    ]

-- the words of a text, with its lane taken off
laned_text : (text : List ℕ) (words rest : List (List ℕ)) (lane : ℕ) → AreWords text words → CutsLane words lane rest → IsLaned text lane rest
laned_text text [] rest lane are cut = inl (cut.0, rw cut.1 are)
laned_text text (word ∷ words) rest lane are (inl laned) = inr (word, laned.0, rw laned.1 are)
laned_text text (word ∷ words) rest lane are (inr bare) = inl (bare.1, rw bare.2 are)

-- a text gives the command of its words beside the lane
pub one_command : (text : List ℕ) (words rest : List (List ℕ)) (lane : ℕ) (command : Command) → AreWords text words → CutsLane words lane rest
    → IsCommandOf rest command → Gives text lane command
one_command text words rest lane command are cut is = record {
  words = rest;
  laned = laned_text text words rest lane are cut;
  form = is.form;
  in_range = is.in_range;
}

-- what was found is nothing
pub found_none : (words : List (List ℕ)) (found : Option Command) → found ≡ None → FindsCommand words found → IsNoCommand words
found_none words found none finds = rw none at finds

-- what was found is this command
pub found_one : (words : List (List ℕ)) (found : Option Command) (command : Command) → found ≡ Some command → FindsCommand words found
    → IsCommandOf words command
found_one words found command one finds = rw one at finds

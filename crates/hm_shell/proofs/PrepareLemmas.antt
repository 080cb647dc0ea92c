-- What is made ready may be run.
use Rattle.std.proofs.Common.{◌≡◌, ℕ, ◌+◌, ◌≤◌, List, [], ◌∷◌, Option, Some, None, length, refl, sym, ap, ◌∙◌, arith}
use Rattle.std.specs.Prelude.{IfSome}
use Rattle.hm_header.specs.Range.{IsSize}
use Rattle.hm_model.specs.declared.line.Line.{Line}
use Rattle.hm_model.specs.Lines.{texts_of}
use Rattle.hm_model.specs.Out.{lines_in}
use Rattle.hm_model.specs.Script.{ReadEach}
use Rattle.hm_shell.specs.declared.job.Job.{Job}
use Rattle.hm_shell.specs.Alone.{alone}
use Rattle.hm_shell.specs.Lines.{AreServedLines, HasLines}
use Rattle.hm_shell.specs.Preparing.{WasPrepared}
use Rattle.hm_shell.specs.Reading.{WasRead}
use Rattle.hm_shell.specs.Seen.{Seen}
use Rattle.hm_shell.specs.Words.{IsPlan}
use Rattle.hm_shell.proofs.LinesLemmas.{lines_in_blocks, somes}

-- the size that words name is one of a volume
new_size : (words : List (List ℕ)) (volume : List ℕ) (newfs : Option ℕ) → IsPlan words volume newfs → IfSome newfs IsSize
new_size words volume None plan = tt
new_size words volume (Some size) plan = (plan.size_is.least, plan.size_is.most)

lines_in_alone : (lines : List Line) → lines_in (alone lines) ≡ lines
lines_in_alone [] = refl
lines_in_alone (line ∷ lines) = ap (λ ls. line ∷ ls) (lines_in_alone lines)

no_more : (number : ℕ) (texts : List (List ℕ)) (lines : List (Option Line)) → ReadEach number texts lines → length (somes lines) ≤ length texts
no_more number [] [] read = omega arith
no_more number [] (line ∷ lines) read = absurd read
no_more number (text ∷ texts) [] read = omega arith
no_more number (text ∷ texts) (None ∷ lines) read = (let later = no_more (number + 1) texts lines read.1 in omega (arith, later))
no_more number (text ∷ texts) (Some line ∷ lines) read = (let later = no_more (number + 1) texts lines read.1 in omega (arith, later))

-- a script has no more lines than texts
few_lines : (script : List ℕ) (lines : List Line) → HasLines script lines → length lines ≤ length (texts_of script)
few_lines script lines is =
    let same : lines ≡ somes is.lines = sym (lines_in_alone lines) ∙ (ap lines_in is.blocks_are ∙ lines_in_blocks is.lines) in
    omega (arith, ap length same, no_more 1 (texts_of script) is.lines is.read)

-- from the words, the script and its lines
pub prepared_from : (words : List (List ℕ)) (old new : Seen (List ℕ)) (job : Job) (script : List ℕ) → (volume : List ℕ) × IsPlan words volume job.newfs
    → WasRead old new script → AreServedLines script job.lines.items → WasPrepared words old new job
prepared_from words old new job script plan read are = record {
  prepared = record {
    volume = plan.0;
    plan = plan.1;
    script = script;
    read = read;
    good = are.good;
    lines_are = are.lines_are;
  };
  due = record {
    size = new_size words plan.0 job.newfs plan.1;
    each = are.each;
    rising = are.rising;
    few = omega (arith, few_lines script job.lines.items are.lines_are, read.lines);
  };
}

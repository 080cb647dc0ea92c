-- A script that is read line by line.
use Rattle.std.proofs.Common.{◌≡◌, inl, inr, ℕ, suc, ◌+◌, List, [], ◌∷◌, ◌++◌, Option, Some, None, All, length, refl, sym, ◌∙◌, ap, arith, length-append}
use mathlib.Core.List.{append_assoc}
use Rattle.std.proofs.Common.{Result, Ok, Err, IsErrAnd, IfErr}
use Rattle.std.proofs.lemmas.List.{append-nil}
use Rattle.std.proofs.lemmas.List.Elements.{All-nil, All-cons}
use Rattle.hm_model.specs.declared.line.Line.{Line}
use Rattle.hm_model.specs.Lines.{texts_of}
use Rattle.hm_model.specs.Script.{Reads, ReadEach, IsGood, IsBad, IsScriptOf, IsFirstBadLine}
use Rattle.hm_script.specs.Gathering.{Gathered, closed, gather}
use Rattle.hm_script.specs.Reading.{Adds, IsTextFault, IsLineFault, gathered_from, IsReadSoFar}
use Rattle.hm_script.specs.declared.fault.ScriptFault.{ScriptFault}
use Rattle.hm_script.specs.declared.fault.ScriptFault.TheVariants.{BadLine, TooLong, NoMemory}
use Rattle.hm_script.proofs.BlockLemmas.{gathered_blocks}

-- a text that was read is good
good_text : (number : ℕ) (text : List ℕ) (line : Option Line) → Reads number text line → IsGood text
good_text number text None reads = inl reads
good_text number text (Some line) reads = inr (line.lane, line.command, reads.2)

-- texts that were read are good
pub good_texts : (number : ℕ) (texts : List (List ℕ)) (lines : List (Option Line)) → ReadEach number texts lines → All IsGood texts
good_texts number [] lines read = All-nil IsGood
good_texts number (text ∷ texts) [] read = absurd read
good_texts number (text ∷ texts) (line ∷ lines) read =
    All-cons IsGood text texts (good_text number text line read.0) (good_texts (number + 1) texts lines read.1)

-- one more text was read
read_more : (number : ℕ) (texts : List (List ℕ)) (lines : List (Option Line)) (text : List ℕ) (line : Option Line) → ReadEach number texts lines
    → Reads (number + length texts) text line → ReadEach number (texts ++ text ∷ []) (lines ++ line ∷ [])
read_more number [] [] text line read reads =
    let same : number + 0 ≡ number = omega arith in
    (rw same at reads, tt)
read_more number [] (l ∷ lines) text line read reads = absurd read
read_more number (t ∷ texts) [] text line read reads = absurd read
read_more number (t ∷ texts) (l ∷ lines) text line read reads =
    let same : number + suc (length texts) ≡ (number + 1) + length texts = omega arith in
    (read.0, read_more (number + 1) texts lines text line read.1 (rw same at reads))

-- one more line was gathered
gathered_more : (lines : List (Option Line)) (line : Option Line) (gathered : Gathered)
    → gathered_from gathered (lines ++ line ∷ []) ≡ gather (gathered_from gathered lines) line
gathered_more [] line gathered = refl
gathered_more (l ∷ lines) line gathered = gathered_more lines line (gather gathered l)

-- the script was read one line further
pub read_further : (bytes rest text after : List ℕ) (number : ℕ) (blocks next : Gathered) → IsReadSoFar bytes rest number blocks
    → texts_of rest ≡ text ∷ texts_of after → Adds (number + 1) text blocks next → IsReadSoFar bytes after (number + 1) next
read_further bytes rest text after number blocks next so_far cut adds =
    let place : number + 1 ≡ 1 + length so_far.texts = omega (arith, so_far.count) in
    record {
      texts = so_far.texts ++ text ∷ [];
      lines = so_far.lines ++ adds.line ∷ [];
      split = so_far.split ∙ (ap (λ ts. so_far.texts ++ ts) cut ∙ sym (append_assoc so_far.texts (text ∷ []) (texts_of after)));
      read = read_more 1 so_far.texts so_far.lines text adds.line so_far.read (rw place at adds.reads);
      count = omega (arith, so_far.count, length-append so_far.texts (text ∷ []));
      gathered = adds.gathered ∙ (ap (λ g. gather g adds.line) so_far.gathered ∙ sym (gathered_more so_far.lines adds.line ([], [])));
    }

-- the script was read to its end
pub read_all : (bytes rest : List ℕ) (number : ℕ) (blocks : Gathered) → rest ≡ [] → IsReadSoFar bytes rest number blocks → IsScriptOf bytes (closed blocks)
read_all bytes rest number blocks none so_far =
    let all : texts_of bytes ≡ so_far.texts = so_far.split ∙ (ap (λ r. so_far.texts ++ texts_of r) none ∙ append-nil so_far.texts) in
    record {
      lines = so_far.lines;
      read = rw all so_far.read;
      blocks_are = ap closed so_far.gathered ∙ gathered_blocks so_far.lines;
    }

-- the line at hand is the first bad one
first_bad : (bytes rest text after : List ℕ) (number : ℕ) (blocks : Gathered) → IsReadSoFar bytes rest number blocks
    → texts_of rest ≡ text ∷ texts_of after → IsBad text → IsFirstBadLine bytes (number + 1)
first_bad bytes rest text after number blocks so_far cut bad = record {
  before = so_far.texts;
  bad = text;
  rest = texts_of after;
  texts = so_far.split ∙ ap (λ ts. so_far.texts ++ ts) cut;
  good = good_texts 1 so_far.texts so_far.lines so_far.read;
  outside = bad;
  place = ap (λ n. n + 1) so_far.count;
}

-- why the line at hand was not added is why the lines were not read
pub line_fault : (bytes rest text after : List ℕ) (number : ℕ) (blocks : Gathered) → IsReadSoFar bytes rest number blocks
    → texts_of rest ≡ text ∷ texts_of after → (fault : ScriptFault) → IsTextFault (number + 1) text fault → IsLineFault bytes fault
line_fault bytes rest text after number blocks so_far cut (BadLine bad) is =
    rw is.0 (first_bad bytes rest text after number blocks so_far cut is.1)
line_fault bytes rest text after number blocks so_far cut TooLong is = absurd is
line_fault bytes rest text after number blocks so_far cut NoMemory is = tt

-- an error that is handed up stays what it is
pub same_fault : {T : Type 0} (P : ScriptFault → Type 0) (result : Result T ScriptFault) (fault : ScriptFault) → IsErrAnd result (λ e. e ≡ fault)
    → P fault → IfErr result P
same_fault P (Ok x) fault same is = tt
same_fault P (Err e) fault same is = rw same is

-- The lines of a script that are served, and the first that is not.
use Rattle.std.proofs.Common.{◌≡◌, ◌≢◌, ◌⊎◌, inl, inr, ℕ, ◌+◌, ◌-◌, ◌<◌, ◌≤◌, true, false, List, [], ◌∷◌, ◌++◌, Option, Some, None}
use Rattle.std.proofs.Common.{length, take, drop, get_or, zero, suc, refl, sym, ap, subst, ◌∙◌, arith, append-nil, append_assoc}
use Rattle.std.specs.Prelude.{All, Contains, slice_index_or}
use Rattle.std.specs.List.{AllByRecursion}
use Rattle.std.proofs.Math.Seq.{split_at, take-append_seam}
use Rattle.std.proofs.lemmas.Bool.{true≢false}
use Rattle.std.proofs.lemmas.Grind.{flat_map-append}
use Rattle.std.proofs.lemmas.List.{length-take, take-append-drop, take_more}
use Rattle.std.proofs.lemmas.List.Elements.{All-append, All-contains, All-from_recursion, All-more, Contains-append_cases}
use Rattle.std.proofs.lemmas.List.Elements.{Contains-append_right, recursion_from_All}
use Rattle.hm_calls.specs.Answered.{IsAnswerable}
use Rattle.hm_model.specs.declared.command.Command.{Command}
use Rattle.hm_model.specs.declared.command.Command.TheVariants.{Mkdir, Touch, Symlink, Snapshot, Ln, Mv, Write, Fill, Truncate}
use Rattle.hm_model.specs.declared.command.Command.TheVariants.{Rm, Rmdir, Ls, Cat, Stat, Readlink, Sync, Synctid, Prune}
use Rattle.hm_model.specs.declared.command.Command.TheVariants.{PruneAll, Reblock, PfsMaster, PfsSlave, PfsStatus, PfsUpgrade}
use Rattle.hm_model.specs.declared.command.Command.TheVariants.{MirrorRead, MirrorWrite, MirrorCopy, Df, Progress, End}
use Rattle.hm_model.specs.declared.line.Line.{Line}
use Rattle.hm_model.specs.Lines.{texts_of}
use Rattle.hm_model.specs.Out.{lines_in}
use Rattle.hm_model.specs.Script.{Gives, IsFirstBadLine, IsGood, IsScriptOf, IsTooLong, ReadEach, blocks_of, goes_on, is_remark, with_line}
use Rattle.hm_script.proofs.ScriptLemmas.{gives_is_one}
use Rattle.hm_core.specs.Open.{IsReblock}
use Rattle.hm_core.specs.Served.{IsServed}
use Rattle.hm_shell.specs.Alone.{BeginsCall, alone}
use Rattle.hm_shell.specs.Lines.{NumbersRise, AreServedLines, IsFirstRefused, IsFirstUnserved, IsServable, IsServedLine, IsServedText}

-- the lines of a script beside those that answer nothing
abbrev pub somes : List (Option Line) → List Line
somes [] = []
somes (None ∷ lines) = somes lines
somes (Some line ∷ lines) = line ∷ somes lines

lines_with : (b : _) (line : Line) (blocks : List (List Line)) → lines_in (with_line b line blocks) ≡ line ∷ lines_in blocks
lines_with true line [] = refl
lines_with true line (block ∷ blocks) = refl
lines_with false line blocks = refl

-- all lines of the blocks are these
pub lines_in_blocks : (lines : List (Option Line)) → lines_in (blocks_of lines) ≡ somes lines
lines_in_blocks [] = refl
lines_in_blocks (None ∷ lines) = lines_in_blocks lines
lines_in_blocks (Some line ∷ lines) = lines_with (goes_on line lines) line (blocks_of lines) ∙ ap (λ ls. line ∷ ls) (lines_in_blocks lines)

-- a line without a lane ends its block
ends_here : (line : Line) (lines : List (Option Line)) → line.lane ≡ 0 → goes_on line lines ≡ false
ends_here line [] none = refl
ends_here line (None ∷ lines) none = refl
ends_here line (Some next ∷ lines) none = rw none refl

-- lines without lanes are blocks by themselves
alone_blocks : (lines : List (Option Line)) → AllByRecursion IsServable (somes lines) → alone (somes lines) ≡ blocks_of lines
alone_blocks [] each = refl
alone_blocks (None ∷ lines) each = alone_blocks lines each
alone_blocks (Some line ∷ lines) each =
    rw (ends_here line lines each.0.lane) (ap (λ bs. (line ∷ []) ∷ bs) (alone_blocks lines each.1))

-- a command that is served begins a call
answerable_begins : (command : Command) → IsAnswerable command → BeginsCall command
answerable_begins (Mkdir path) is = record { calls = λ e. absurd (cc); begins = refl }
answerable_begins (Touch path) is = record { calls = λ e. absurd (cc); begins = refl }
answerable_begins (Symlink target path) is = record { calls = λ e. absurd (cc); begins = refl }
answerable_begins (Snapshot path) is = record { calls = λ e. absurd (cc); begins = refl }
answerable_begins (Ln old new) is = record { calls = λ e. absurd (cc); begins = refl }
answerable_begins (Mv old new) is = record { calls = λ e. absurd (cc); begins = refl }
answerable_begins (Write path offset bytes) is = record { calls = λ e. absurd (cc); begins = refl }
answerable_begins (Fill path offset count byte) is = record { calls = λ e. absurd (cc); begins = refl }
answerable_begins (Truncate path size) is = record { calls = λ e. absurd (cc); begins = refl }
answerable_begins (Rm path) is = record { calls = λ e. absurd (cc); begins = refl }
answerable_begins (Rmdir path) is = record { calls = λ e. absurd (cc); begins = refl }
answerable_begins (Ls path) is = record { calls = λ e. absurd (cc); begins = refl }
answerable_begins (Cat path offset count) is = record { calls = λ e. absurd (cc); begins = refl }
answerable_begins (Stat path) is = record { calls = λ e. absurd (cc); begins = refl }
answerable_begins (Readlink path) is = record { calls = λ e. absurd (cc); begins = refl }
answerable_begins (Prune path) is = record { calls = λ e. absurd (cc); begins = refl }
answerable_begins (PruneAll path) is = record { calls = λ e. absurd (cc); begins = refl }
answerable_begins (PfsMaster path shared) is = record { calls = λ e. absurd (cc); begins = refl }
answerable_begins (PfsSlave path shared) is = record { calls = λ e. absurd (cc); begins = refl }
answerable_begins (PfsStatus path) is = record { calls = λ e. absurd (cc); begins = refl }
answerable_begins (PfsUpgrade path) is = absurd is
answerable_begins (MirrorRead path begin) is = absurd is
answerable_begins (MirrorWrite path) is = absurd is
answerable_begins (MirrorCopy master slave limit) is = absurd is
answerable_begins Sync is = absurd is
answerable_begins Synctid is = absurd is
answerable_begins (Reblock fill) is = absurd is
answerable_begins Df is = absurd is
answerable_begins Progress is = absurd is
answerable_begins (End opening) is = absurd is

reblock_begins : (command : Command) → IsReblock command → BeginsCall command
reblock_begins (Reblock fill) is = record { calls = λ e. absurd (cc); begins = refl }
reblock_begins other is = absurd is

served_begins : (command : Command) → IsServed command → BeginsCall command
served_begins command (inl (inl is)) = answerable_begins command is
served_begins command (inl (inr (inl is))) = subst BeginsCall (sym is) (record { calls = λ e. absurd (cc); begins = refl })
served_begins command (inl (inr (inr is))) = reblock_begins command is
served_begins command (inr (inl is)) = subst BeginsCall (sym is) (record { calls = λ e. absurd (cc); begins = refl })
served_begins command (inr (inr is)) = subst BeginsCall (sym is) (record { calls = λ e. absurd (cc); begins = refl })

-- the texts of lines that are served
served_texts : (number : ℕ) (texts : List (List ℕ)) (lines : List (Option Line)) → ReadEach number texts lines → AllByRecursion IsServable (somes lines)
    → AllByRecursion IsServedText texts
served_texts number [] [] read each = tt
served_texts number [] (line ∷ lines) read each = absurd read
served_texts number (text ∷ texts) [] read each = absurd read
served_texts number (text ∷ texts) (None ∷ lines) read each = (inl read.0, served_texts (number + 1) texts lines read.1 each)
served_texts number (text ∷ texts) (Some line ∷ lines) read each =
    (inr (line.command, subst (λ n. Gives text n line.command) each.0.lane read.0.2, each.0.served), served_texts (number + 1) texts lines read.1 each.1)

-- lines of a script that are served
served_each : (number : ℕ) (texts : List (List ℕ)) (lines : List (Option Line)) → ReadEach number texts lines → AllByRecursion IsServable (somes lines)
    → AllByRecursion IsServedLine (somes lines)
served_each number [] [] read each = tt
served_each number [] (line ∷ lines) read each = absurd read
served_each number (text ∷ texts) [] read each = absurd read
served_each number (text ∷ texts) (None ∷ lines) read each = served_each (number + 1) texts lines read.1 each
served_each number (text ∷ texts) (Some line ∷ lines) read each = (
  record {
    by_itself = record { lane = each.0.lane; call = served_begins line.command each.0.served };
    asked = record { served = each.0.served; in_range = read.0.2.in_range };
  },
  served_each (number + 1) texts lines read.1 each.1,
)

-- lines whose numbers rise from a bound on
Rise : ℕ → List Line → Type 0
Rise bound [] = Unit {0}
Rise bound (line ∷ lines) = (bound ≤ line.number) × Rise (line.number + 1) lines

lower_bound : (low bound : ℕ) (lines : List Line) → low ≤ bound → Rise bound lines → Rise low lines
unfolding Rise
lower_bound low bound [] less rise = tt
lower_bound low bound (line ∷ lines) less rise = (omega (arith, less, rise.0), rise.1)

numbers_rise : (number : ℕ) (texts : List (List ℕ)) (lines : List (Option Line)) → ReadEach number texts lines → Rise number (somes lines)
unfolding Rise
numbers_rise number [] [] read = tt
numbers_rise number [] (line ∷ lines) read = absurd read
numbers_rise number (text ∷ texts) [] read = absurd read
numbers_rise number (text ∷ texts) (None ∷ lines) read =
    lower_bound number (number + 1) (somes lines) (omega arith) (numbers_rise (number + 1) texts lines read.1)
numbers_rise number (text ∷ texts) (Some line ∷ lines) read =
    (omega (arith, read.0.1), rw read.0.1 (numbers_rise (number + 1) texts lines read.1))

-- a line stands behind a bound
bounded : (bound : ℕ) (before rest : List Line) (line : Line) → Rise bound (before ++ line ∷ rest) → bound ≤ line.number
unfolding Rise
bounded bound [] rest line rise = rise.0
bounded bound (b ∷ before) rest line rise = (let later = bounded (b.number + 1) before rest line rise.1 in omega (arith, rise.0, later))

-- the first of two, or one of the rest
first_or_later : {X : Type 0} (x : X) (xs : List X) (y : X) → Contains (x ∷ xs) y → (x ≡ y) ⊎ Contains xs y
first_or_later x xs y has = elim (Contains-append_cases (x ∷ []) xs y has) [
  | inl one ↦ inl (by_index one.0 one.1 one.2)
  | inr later ↦ inr later
] where
  by_index : (k : ℕ) → k < 1 → slice_index_or (x ∷ []) k y ≡ y → x ≡ y
  by_index zero below at = at
  by_index (suc k) below at = absurd (omega (arith, below))

rising : (bound : ℕ) (before rest : List Line) (line earlier : Line) → Rise bound (before ++ line ∷ rest) → Contains before earlier
    → earlier.number < line.number
unfolding Rise
rising bound [] rest line earlier rise has = (let lt = has.1 in absurd (omega (arith, lt)))
rising bound (b ∷ before) rest line earlier rise has = elim (first_or_later b before earlier has) [
  | inl same ↦ (let later = bounded (b.number + 1) before rest line rise.1 in let number = ap (λ (l : Line). l.number) same in omega (arith, later, number))
  | inr later ↦ rising (b.number + 1) before rest line earlier rise.1 later
]

are_rising : (number : ℕ) (texts : List (List ℕ)) (lines : List (Option Line)) → ReadEach number texts lines → NumbersRise (somes lines)
are_rising number texts lines read before rest line earlier split has =
    rising number before rest line earlier (subst (Rise number) split (numbers_rise number texts lines read)) has

-- a script whose lines are all served
pub served_from : (script : List ℕ) (blocks : List (List Line)) → IsScriptOf script blocks → All IsServable (lines_in blocks)
    → AreServedLines script (lines_in blocks)
served_from script blocks is each =
    let same : lines_in blocks ≡ somes is.lines = ap lines_in is.blocks_are ∙ lines_in_blocks is.lines in
    let all : AllByRecursion IsServable (somes is.lines) = subst (AllByRecursion IsServable) same (recursion_from_All IsServable (lines_in blocks) each) in
    subst (AreServedLines script) (sym same) (record {
      good = All-from_recursion IsServedText (texts_of script) (served_texts 1 (texts_of script) is.lines is.read all);
      lines_are = record { lines = is.lines; read = is.read; blocks_are = alone_blocks is.lines all };
      each = All-from_recursion IsServedLine (somes is.lines) (served_each 1 (texts_of script) is.lines is.read all);
      rising = are_rising 1 (texts_of script) is.lines is.read;
    })

-- a text of a line that is not served
unserved_text : (text : List ℕ) (line : Line) → is_remark text ≡ false → Gives text line.lane line.command → (IsServable line → ⊥) → IsServedText text → ⊥
unserved_text text line plain gives outside (inl remark) = true≢false (sym remark ∙ plain)
unserved_text text line plain gives outside (inr (command, given, served)) =
    let same = gives_is_one text line.lane 0 line.command command gives given in
    outside (record { lane = same.0; served = subst IsServed (sym same.1) served })

-- texts with a first one that is not served
record FirstBad (number : ℕ) (texts : List (List ℕ)) (place : ℕ) : Type 0 where
  before : List (List ℕ)
  bad : List ℕ
  rest : List (List ℕ)
  split : texts ≡ before ++ bad ∷ rest
  good : AllByRecursion IsServedText before
  outside : IsServedText bad → ⊥
  place_is : place ≡ length before + number

bad_with : (number : ℕ) (text : List ℕ) (texts : List (List ℕ)) (place : ℕ) → IsServedText text → FirstBad (number + 1) texts place
    → FirstBad number (text ∷ texts) place
bad_with number text texts place good bad = record {
  before = text ∷ bad.before;
  bad = bad.bad;
  rest = bad.rest;
  split = ap (λ ts. text ∷ ts) bad.split;
  good = (good, bad.good);
  outside = bad.outside;
  place_is = omega (arith, bad.place_is);
}

bad_from : (number : ℕ) (texts : List (List ℕ)) (lines : List (Option Line)) (before : List Line) (line : Line) (rest : List Line)
    → ReadEach number texts lines → somes lines ≡ before ++ line ∷ rest → AllByRecursion IsServable before → (IsServable line → ⊥)
    → FirstBad number texts line.number
bad_from number [] [] [] line rest read split each outside = absurd (cc)
bad_from number [] [] (b ∷ before) line rest read split each outside = absurd (cc)
bad_from number [] (l ∷ lines) before line rest read split each outside = absurd read
bad_from number (text ∷ texts) [] before line rest read split each outside = absurd read
bad_from number (text ∷ texts) (None ∷ lines) before line rest read split each outside =
    bad_with number text texts line.number (inl read.0) (bad_from (number + 1) texts lines before line rest read.1 split each outside)
bad_from number (text ∷ texts) (Some l ∷ lines) [] line rest read split each outside =
    let same : l ≡ line = cc in record {
      before = [];
      bad = text;
      rest = texts;
      split = refl;
      good = tt;
      outside = unserved_text text l read.0.0 read.0.2 (λ is. outside (subst IsServable same is));
      place_is = sym (ap (λ (l : Line). l.number) same) ∙ (read.0.1 ∙ omega arith);
    }
bad_from number (text ∷ texts) (Some l ∷ lines) (b ∷ before) line rest read split each outside =
    let same : b ≡ l = cc in
    let tail : somes lines ≡ before ++ line ∷ rest = cc in
    let served : IsServable l = subst IsServable same each.0 in
    bad_with number text texts line.number (inr (l.command, subst (λ n. Gives text n l.command) served.lane read.0.2, served.served))
    (bad_from (number + 1) texts lines before line rest read.1 tail each.1 outside)

-- the first line that is not served, of a script all of whose lines are in the grammar
pub unserved_from : (script : List ℕ) (blocks : List (List Line)) (number : ℕ) → IsScriptOf script blocks → IsFirstUnserved (lines_in blocks) number
    → IsFirstRefused script number
unserved_from script blocks number is first =
    let same : lines_in blocks ≡ somes is.lines = ap lines_in is.blocks_are ∙ lines_in_blocks is.lines in
    let bad : FirstBad 1 (texts_of script) first.line.number =
    bad_from 1 (texts_of script) is.lines first.before first.line first.rest is.read (sym same ∙ first.split)
    (recursion_from_All IsServable first.before first.good) first.outside in
    record {
      before = bad.before;
      bad = bad.bad;
      rest = bad.rest;
      texts = bad.split;
      good = All-from_recursion IsServedText bad.before bad.good;
      outside = bad.outside;
      place = first.number_is ∙ bad.place_is;
    }

-- a bad line of the first lines is one of the script
pub bad_in_front : (script front : List ℕ) (count number : ℕ) → texts_of front ≡ take count (texts_of script) → IsFirstRefused front number
    → IsFirstRefused script number
bad_in_front script front count number are bad =
    let split : texts_of script ≡ (bad.before ++ bad.bad ∷ bad.rest) ++ drop count (texts_of script) =
    sym (take-append-drop count (texts_of script)) ∙ ap (λ ts. ts ++ drop count (texts_of script)) (sym are ∙ bad.texts) in
    record {
      before = bad.before;
      bad = bad.bad;
      rest = bad.rest ++ drop count (texts_of script);
      texts = split ∙ append_assoc bad.before (bad.bad ∷ bad.rest) (drop count (texts_of script));
      good = bad.good;
      outside = bad.outside;
      place = bad.place;
    }

-- the lines before the first one outside the grammar
module _ (script front : List ℕ) (number : ℕ) (first : IsFirstBadLine script number)
    (are : texts_of front ≡ take (number - 1) (texts_of script)) where
  before_it : texts_of front ≡ first.before
  before_it =
      let count : number - 1 ≡ length first.before = omega (arith, first.place) in
      are ∙ (ap (take (number - 1)) first.texts ∙ (ap (λ n. take n (first.before ++ first.bad ∷ first.rest)) count
      ∙ take-append_seam first.before (first.bad ∷ first.rest)))

  -- none of them is outside it
  pub none_before_it : (earlier : ℕ) → IsFirstBadLine front earlier → ⊥
  none_before_it earlier other =
      other.outside (All-contains IsGood first.before other.bad first.good
      (subst (λ (ts : List (List ℕ)). Contains ts other.bad) (sym other.texts ∙ before_it)
      (Contains-append_right other.before (other.bad ∷ other.rest) other.bad (0, omega arith, refl))))

  -- where they are served, that one is the first bad one
  pub bad_itself : (blocks : List (List Line)) → IsScriptOf front blocks → All IsServable (lines_in blocks) → IsFirstRefused script number
  bad_itself blocks is each = record {
    before = first.before;
    bad = first.bad;
    rest = first.rest;
    texts = first.texts;
    good = subst (All IsServedText) before_it (served_from front blocks is each).good;
    outside = λ served. first.outside (good_text served);
    place = first.place;
  } where
    good_text : IsServedText first.bad → IsGood first.bad
    good_text (inl remark) = inl remark
    good_text (inr given) = inr (0, given.0, given.1)

-- the first lines of a script are not too long where it is not
pub front_too_long : (script front : List ℕ) (count : ℕ) → texts_of front ≡ take count (texts_of script) → length front ≤ length script
    → IsTooLong front → IsTooLong script
front_too_long script front count are shorter (inl bytes) = inl (omega (arith, shorter, bytes))
front_too_long script front count are shorter (inr lines) =
    inr (let same = ap length are in let taken = length-take count (texts_of script) in omega (arith, lines, same, taken))

-- lines were looked through up to one
module _ (lines : List Line) (i : ℕ) (line : Line) (within : i < length lines) (here : line ≡ get_or lines i line) (each : All IsServable (take i lines)) where
  line_passed : IsServable line → All IsServable (take (i + 1) lines)
  line_passed is = All-more IsServable lines i line within each (subst IsServable here is)

  first_here : (IsServable line → ⊥) → IsFirstUnserved lines line.number
  first_here outside = record {
    before = take i lines;
    line = line;
    rest = drop (suc i) lines;
    split = split_at lines i line within ∙ ap (λ l. take i lines ++ l ∷ drop (suc i) lines) (sym here);
    good = each;
    outside = outside;
    number_is = refl;
  }

  -- from both tests of a line
  pub passed_by_tests : line.lane ≡ 0 → IsServed line.command → All IsServable (take (i + 1) lines)
  passed_by_tests lane served = line_passed (record { lane = lane; served = served })

  pub first_by_lane : line.lane ≢ 0 → IsFirstUnserved lines line.number
  first_by_lane laned = first_here (λ is. laned is.lane)

  pub first_by_command : (IsServed line.command → ⊥) → IsFirstUnserved lines line.number
  first_by_command unserved = first_here (λ is. unserved is.served)

-- blocks were looked through up to one
module _ (blocks : List (List Line)) (i : ℕ) (block : List Line) (within : i < length blocks) (here : block ≡ get_or blocks i block)
    (each : All IsServable (lines_in (take i blocks))) where
  lines_more : lines_in (take (i + 1) blocks) ≡ lines_in (take i blocks) ++ block
  lines_more =
      ap lines_in (take_more blocks i block within ∙ ap (λ b. take i blocks ++ b ∷ []) (sym here)) ∙
      (flat_map-append (λ b. b) (take i blocks) (block ∷ []) ∙ ap (λ ls. lines_in (take i blocks) ++ ls) (append-nil block))

  pub block_passed : All IsServable block → All IsServable (lines_in (take (i + 1) blocks))
  block_passed are = subst (All IsServable) (sym lines_more) (All-append IsServable (lines_in (take i blocks)) block each are)

  pub first_in_block : (number : ℕ) → IsFirstUnserved block number → IsFirstUnserved (lines_in blocks) number
  first_in_block number first =
      let rest : List Line = lines_in (drop (i + 1) blocks) in
      let split : lines_in blocks ≡ (lines_in (take i blocks) ++ block) ++ rest =
      ap lines_in (sym (take-append-drop (i + 1) blocks)) ∙ (flat_map-append (λ b. b) (take (i + 1) blocks) (drop (i + 1) blocks) ∙ ap (λ ls. ls ++ rest)
      lines_more) in
      record {
        before = lines_in (take i blocks) ++ first.before;
        line = first.line;
        rest = first.rest ++ rest;
        split = split ∙ (ap (λ ls. (lines_in (take i blocks) ++ ls) ++ rest) first.split ∙
            regroup (lines_in (take i blocks)) first.before (first.line ∷ first.rest) rest);
        good = All-append IsServable (lines_in (take i blocks)) first.before each first.good;
        outside = first.outside;
        number_is = first.number_is;
      }
    where
      regroup : (a b c d : List Line) → (a ++ (b ++ c)) ++ d ≡ (a ++ b) ++ (c ++ d)
      regroup a b c d = ap (λ ls. ls ++ d) (sym (append_assoc a b c)) ∙ append_assoc (a ++ b) c d

-- Lines that run by themselves print what the lines of a run print.
use Rattle.std.proofs.Common.{◌≡◌, ◌≢◌, ◌⊎◌, inl, inr, ⊎_elim, ℕ, Bool, true, false, List, [], ◌∷◌, refl, sym, ap, subst, ◌∙◌, arith, append-nil}
use Rattle.std.specs.Prelude.{All, Contains, filter, map, if◌then◌else◌, ◌&&◌}
use Rattle.std.specs.List.{AllByRecursion, AllZip, flat_map}
use Rattle.std.proofs.lemmas.List.Elements.{recursion_from_All}
use Rattle.std.proofs.lemmas.Option.{IfSome_then}
use Rattle.hm_model.specs.declared.command.Command.{Command}
use Rattle.hm_model.specs.declared.command.Command.TheVariants.{Mkdir, Touch, Symlink, Snapshot, Ln, Mv, Write, Fill, Truncate}
use Rattle.hm_model.specs.declared.command.Command.TheVariants.{Rm, Rmdir, Ls, Cat, Stat, Readlink, Sync, Synctid, Prune}
use Rattle.hm_model.specs.declared.command.Command.TheVariants.{PruneAll, Reblock, PfsMaster, PfsSlave, PfsStatus, PfsUpgrade}
use Rattle.hm_model.specs.declared.command.Command.TheVariants.{MirrorRead, MirrorWrite, MirrorCopy, Df, End, Progress}
use Rattle.hm_model.specs.declared.entry.Entry.{Entry}
use Rattle.hm_model.specs.declared.line.Line.{Line}
use Rattle.hm_model.specs.Caused.{is_ending, opens}
use Rattle.hm_model.specs.declared.reply.Reply.{Reply}
use Rattle.hm_model.specs.Out.{AreOrdered, IsAnswered, IsBlockText, IsCallLine, IsLineText, IsOf, IsOut, IsSpent, KeepsBoundary}
use Rattle.hm_model.specs.Out.{answers, begins, ends, endings_of, joined, line_words, lines_in, openings_of}
use Rattle.hm_model.specs.Reply.{told_boundary}
use Rattle.hm_shell.specs.Alone.{AnswersEach, AreEntriesOf, BeginsCall, FoundNone, HasAnswer, IsAlone, IsEndingOf, TellsAfter}
use Rattle.hm_shell.specs.Alone.{alone, line_text, out_text, words_of}

-- what a line of a call prints is the text of its line
module _ (history : List Entry) (end : ℕ) (block : List Line) (line : Line) (text : List ℕ) where
  abbrev CallLine : Command → Type 0
  CallLine command = IsCallLine history end block (record line { command = command }) text

  abbrev LineText : Command → Type 0
  LineText command = IsLineText history end block (record line { command = command }) text

  call_text : (command : Command) → command ≢ Progress → CallLine command → LineText command
  call_text (Mkdir path) calls is = is
  call_text (Touch path) calls is = is
  call_text (Symlink target path) calls is = is
  call_text (Snapshot path) calls is = is
  call_text (Ln old new) calls is = is
  call_text (Mv old new) calls is = is
  call_text (Write path offset bytes) calls is = is
  call_text (Fill path offset count byte) calls is = is
  call_text (Truncate path size) calls is = is
  call_text (Rm path) calls is = is
  call_text (Rmdir path) calls is = is
  call_text (Ls path) calls is = is
  call_text (Cat path offset count) calls is = is
  call_text (Stat path) calls is = is
  call_text (Readlink path) calls is = is
  call_text Sync calls is = is
  call_text Synctid calls is = is
  call_text (Prune path) calls is = is
  call_text (PruneAll path) calls is = is
  call_text (Reblock fill) calls is = is
  call_text (PfsMaster path shared) calls is = is
  call_text (PfsSlave path shared) calls is = is
  call_text (PfsStatus path) calls is = is
  call_text (PfsUpgrade path) calls is = is
  call_text (MirrorRead path begin) calls is = is
  call_text (MirrorWrite path) calls is = is
  call_text (MirrorCopy master slave limit) calls is = is
  call_text Df calls is = is
  call_text (End opening) calls is = is
  call_text Progress calls is = absurd (calls refl)

-- whether an entry is an ending, and whether it is none
abbrev pub is_end : Entry → Bool
is_end e = is_ending e.call

abbrev pub is_begin : Entry → Bool
is_begin e = if is_ending e.call then false else true

-- the entries that begin a line are those of its entries that are no endings, and those that end it the others
pub begins_within : (number : ℕ) (history : List Entry) → filter (begins number) history ≡ filter is_begin (filter (answers number) history)
begins_within number [] = refl
begins_within number (e ∷ es) = by (answers number e) (is_begin e) refl (begins_within number es) where
  by : (a b : Bool) → is_begin e ≡ b → filter (begins number) es ≡ filter is_begin (filter (answers number) es)
      → (if a && b then e ∷ filter (begins number) es else filter (begins number) es)
      ≡ filter is_begin (if a then e ∷ filter (answers number) es else filter (answers number) es)
  by true true is rest = rw is (ap (λ xs. e ∷ xs) rest)
  by true false is rest = rw is rest
  by false true is rest = rest
  by false false is rest = rest

pub ends_within : (number : ℕ) (history : List Entry) → filter (ends number) history ≡ filter is_end (filter (answers number) history)
ends_within number [] = refl
ends_within number (e ∷ es) = by (answers number e) (is_end e) refl (ends_within number es) where
  by : (a b : Bool) → is_end e ≡ b → filter (ends number) es ≡ filter is_end (filter (answers number) es)
      → (if a && b then e ∷ filter (ends number) es else filter (ends number) es)
      ≡ filter is_end (if a then e ∷ filter (answers number) es else filter (answers number) es)
  by true true is rest = rw is (ap (λ xs. e ∷ xs) rest)
  by true false is rest = rw is rest
  by false true is rest = rest
  by false false is rest = rest

-- of the entries of a line the first is no ending, and the second is one
module _ (line : Line) (call : BeginsCall line.command) where
  pub first_begins : (e : Entry) → IsOf line e → is_ending e.call ≡ false
  first_begins e of = ap is_ending of.command ∙ call.begins

  pub second_ends : (e f : Entry) → IsEndingOf line e f → is_ending f.call ≡ true
  second_ends e f of = ap is_ending of.command

  -- so they print what their line is to print
  pub words_are : (Lacks : Type 0) (es : List Entry) → AreEntriesOf Lacks line es → line_words (filter is_begin es) (filter is_end es) ≡ words_of es
  words_are Lacks [] are = refl
  words_are Lacks (e ∷ []) are = rw (first_begins e are.0) refl
  words_are Lacks (e ∷ f ∷ []) are = rw (first_begins e are.0, second_ends e f are.2) refl
  words_are Lacks (e ∷ f ∷ g ∷ es) are = absurd are

-- all lines of blocks of one line each
lines_alone : (lines : List Line) → lines_in (alone lines) ≡ lines
lines_alone [] = refl
lines_alone (line ∷ lines) = ap (λ ls. line ∷ ls) (lines_alone lines)

module _ (end : ℕ) (history : List Entry) where
  abbrev texts_of : List Line → List (List (List ℕ))
  texts_of lines = map (λ (line : Line). line_text history line ∷ []) lines

  joined_alone : (lines : List Line) → flat_map joined (texts_of lines) ≡ out_text lines history
  joined_alone [] = refl
  joined_alone (line ∷ lines) = cc (append-nil (line_text history line), joined_alone lines)

  module _ (line : Line) (is_alone : IsAlone line) where
    is_spent : FoundNone history end line → IsSpent history end (line ∷ []) line
    is_spent h = record { greatest = h.greatest; none_later = λ e has later. h.none_later e has (⊎_elim (λ lt. lt) (λ lt. lt.1) later) }

    keeps : (reply : Reply) → TellsAfter history line.number reply → KeepsBoundary history (line ∷ []) line reply
    keeps reply told = IfSome_then (told_boundary reply) told (λ boundary after e has earlier. after e has (⊎_elim (λ lower. lower) (λ lower. lower.1) earlier))

    -- its entries answer it
    answered_by : (es : List Entry) → AreEntriesOf (FoundNone history end line) line es
        → AllByRecursion (λ (e : Entry). TellsAfter history line.number e.reply) es
        → IsAnswered history end (line ∷ []) line (filter is_begin es) (filter is_end es)
    answered_by [] are told = is_spent are
    answered_by (e ∷ []) are told = rw (first_begins line is_alone.call e are.0) (are.0, keeps e.reply told.0, by are.1) where
      by : (opens e ≡ false) ⊎ FoundNone history end line → (opens e ≡ false) ⊎ IsSpent history end (line ∷ []) line
      by (inl closed) = inl closed
      by (inr none) = inr (is_spent none)
    answered_by (e ∷ f ∷ []) are told =
        rw (first_begins line is_alone.call e are.0, second_ends line is_alone.call e f are.2) (are.0, are.1, are.2.own.lane, are.2.command)
    answered_by (e ∷ f ∷ g ∷ es) are told = absurd are

    text_is : HasAnswer history end line → IsLineText history end (line ∷ []) line (line_text history line)
    text_is h = call_text history end (line ∷ []) line (line_text history line) line.command is_alone.call.calls
        (record { answered = answered; printed = refl })
      where
        answered : IsAnswered history end (line ∷ []) line (openings_of history line) (endings_of history line)
        answered = rw (begins_within line.number history, ends_within line.number history)
            (answered_by (filter (answers line.number) history) h.entries (recursion_from_All _ (filter (answers line.number) history) h.told))

  each_text : (lines : List Line) → AllByRecursion IsAlone lines → AllByRecursion (HasAnswer history end) lines
      → AllZip (IsBlockText history end) (alone lines) (texts_of lines)
  each_text [] are each = tt
  each_text (line ∷ lines) are each = ((text_is line are.0 each.0, tt), each_text lines are.1 each.1)

  module _ (lines : List Line) (are : All IsAlone lines) (h : AnswersEach end lines history) where
    ordered : AreOrdered (alone lines) history
    ordered = record {
      in_lane = λ a b has also lane lower. h.in_order a b has also lower;
      by_block = λ block a b there has also lower upper. h.in_order a b has also (omega (arith, lower, upper));
    }

    pub answers_out : IsOut (alone lines) history end (out_text lines history)
    answers_out = record {
      texts = texts_of lines;
      each = each_text lines (recursion_from_All IsAlone lines are) (recursion_from_All _ lines h.each);
      text_is = sym (joined_alone lines);
      owned = λ e has. (let of = h.owned e has in (of.0, subst (λ ls. Contains ls of.0) (sym (lines_alone lines)) of.1, sym of.2.number, sym of.2.lane));
      ordered = ordered;
    }

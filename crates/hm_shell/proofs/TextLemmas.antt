-- What one line more prints.
use Rattle.std.proofs.Common.{◌≡◌, ℕ, ◌<◌, List, [], ◌∷◌, ◌++◌, refl, ap, ◌∙◌, append-nil}
use Rattle.std.specs.Prelude.{Contains, filter}
use Rattle.std.specs.List.{AllByRecursion}
use Rattle.std.proofs.lemmas.Grind.{flat_map-append}
use Rattle.std.proofs.lemmas.List.Elements.{filter-append, recursion_from_All}
use Rattle.hm_types.specs.declared.limits.TheConstants.{GREATEST_ID}
use Rattle.hm_model.specs.Out.{begins, ends, printed_line}
use Rattle.hm_model.specs.declared.entry.Entry.{Entry}
use Rattle.hm_model.specs.declared.line.Line.{Line}
use Rattle.hm_shell.specs.Alone.{AddsEntries, AnswersEach, BeginsCall, line_text, out_text, words_of}
use Rattle.hm_shell.proofs.AloneLemmas.{begins_within, ends_within, words_are}
use Rattle.hm_shell.proofs.AloneMoreLemmas.{AreOfOthers, each_from, new_entries, none_begins, none_ends, others}

-- entries of other lines add nothing to what begins a line, or ends it
begins_other : (number : ℕ) (history more : List Entry) → AreOfOthers number more → filter (begins number) (history ++ more) ≡ filter (begins number) history
begins_other number history more others = filter-append (begins number) history more
    ∙ (ap (λ es. filter (begins number) history ++ es) (none_begins number more others) ∙ append-nil (filter (begins number) history))

ends_other : (number : ℕ) (history more : List Entry) → AreOfOthers number more → filter (ends number) (history ++ more) ≡ filter (ends number) history
ends_other number history more others = filter-append (ends number) history more
    ∙ (ap (λ es. filter (ends number) history ++ es) (none_ends number more others) ∙ append-nil (filter (ends number) history))

-- so other lines print what they did
text_other : (history more : List Entry) (line : Line) → AreOfOthers line.number more → line_text (history ++ more) line ≡ line_text history line
text_other history more line others = rw (begins_other line.number history more others, ends_other line.number history more others) refl

out_others : (lines : List Line) (history more : List Entry) → AllByRecursion (λ (l : Line). AreOfOthers l.number more) lines
    → out_text lines (history ++ more) ≡ out_text lines history
out_others [] history more others = refl
out_others (line ∷ lines) history more others =
    ap (λ text. text ++ out_text lines (history ++ more)) (text_other history more line others.0)
    ∙ ap (λ rest. line_text history line ++ rest) (out_others lines history more others.1)

-- what all lines print, with one line more
out_more : (lines : List Line) (line : Line) (history : List Entry)
    → out_text (lines ++ line ∷ []) history ≡ out_text lines history ++ line_text history line
out_more lines line history = flat_map-append (line_text history) lines (line ∷ [])
    ∙ ap (λ rest. out_text lines history ++ rest) (append-nil (line_text history line))

module _ (lines : List Line) (history : List Entry) (line : Line) (later : (l : Line) → Contains lines l → l.number < line.number)
    (call : BeginsCall line.command) (end next : ℕ) (more : List Entry) (h : AnswersEach end lines history)
    (adds : AddsEntries history end next line more) where
  -- those before it print what they did
  pub out_before : out_text lines (history ++ more) ≡ out_text lines history
  out_before = out_others lines history more (recursion_from_All _ lines (each_from (λ (l : Line). AreOfOthers l.number more) lines
      (others lines history line later end next more h adds)))

  -- and it prints the words of its entries
  pub text_added : line_text (history ++ more) line ≡ printed_line (words_of more)
  text_added = ap printed_line
      (rw (begins_within line.number (history ++ more), ends_within line.number (history ++ more), new_entries lines history line later end next more h adds)
      (words_are line call (next ≡ GREATEST_ID) more adds.entries))

  pub out_added : out_text (lines ++ line ∷ []) (history ++ more) ≡ out_text lines history ++ printed_line (words_of more)
  out_added = out_more lines line (history ++ more) ∙ rw (out_before, text_added) refl

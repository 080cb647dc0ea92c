-- One line more, that runs by itself.
use Rattle.std.proofs.Common.{◌≡◌, ◌≢◌, ◌⊎◌, inl, inr, ⊎_elim, ℕ, ◌<◌, ◌≤◌, List, [], ◌∷◌, ◌++◌, refl, sym, ap, subst, ◌∙◌, arith, append-nil}
use Rattle.std.specs.Prelude.{All, Contains, filter}
use Rattle.std.specs.List.{AllByRecursion}
use Rattle.std.proofs.lemmas.Bool.{eq-eqb, ne_eqb}
use Rattle.std.proofs.lemmas.Option.{IfSome_then}
use Rattle.std.proofs.lemmas.List.Elements.{All-contains, All-from_recursion, Contains-append_cases, Contains-append_left}
use Rattle.std.proofs.lemmas.List.Elements.{Contains-append_right, Contains-get_or, filter-append, recursion_from_All}
use Rattle.hm_types.specs.declared.limits.TheConstants.{GREATEST_ID}
use Rattle.hm_model.specs.declared.entry.Entry.{Entry}
use Rattle.hm_model.specs.declared.line.Line.{Line}
use Rattle.hm_model.specs.Out.{answers, begins, ends}
use Rattle.hm_model.specs.Reply.{told_boundary}
use Rattle.hm_image.proofs.ListLemmas.{only_one}
use Rattle.hm_shell.specs.Alone.{AddsEntries, AnswersEach, AreEntriesOf, FoundNone, HasAnswer, IsIn, TellsAfter}

-- no line was run
pub answers_none : (end : ℕ) → AnswersEach end [] []
answers_none end = record {
  each = All-from_recursion _ [] tt;
  owned = λ e has. (let lt = has.1 in absurd (omega (arith, lt)));
  in_order = λ a b has also lower. (let lt = has.1 in absurd (omega (arith, lt)));
}

-- entries of other lines
abbrev pub AreOfOthers : ℕ → List Entry → Type 0
AreOfOthers number history = AllByRecursion (λ e. e.line ≢ number) history

-- of such entries none answers the line, begins it or ends it
pub none_answers : (number : ℕ) (history : List Entry) → AreOfOthers number history → filter (answers number) history ≡ []
none_answers number [] apart = refl
none_answers number (e ∷ es) apart = rw (ne_eqb e.line number apart.0) (none_answers number es apart.1)

pub none_begins : (number : ℕ) (history : List Entry) → AreOfOthers number history → filter (begins number) history ≡ []
none_begins number [] apart = refl
none_begins number (e ∷ es) apart = rw (ne_eqb e.line number apart.0) (none_begins number es apart.1)

pub none_ends : (number : ℕ) (history : List Entry) → AreOfOthers number history → filter (ends number) history ≡ []
none_ends number [] apart = refl
none_ends number (e ∷ es) apart = rw (ne_eqb e.line number apart.0) (none_ends number es apart.1)

-- a fact of each element, from one of each that is contained
pub each_from : {X : Type 0} (P : X → Type 0) (xs : List X) → ((x : X) → Contains xs x → P x) → All P xs
each_from P xs each = λ k d below. each _ (Contains-get_or xs k d below)

-- the same of each other fact that follows
each_then : {X : Type 0} (P Q : X → Type 0) (xs : List X) → ((x : X) → P x → Q x) → All P xs → All Q xs
each_then P Q xs then all = λ k d below. then _ (all k d below)

-- what lacks may lack for another reason
entries_weaker : (A B : Type 0) (line : Line) (es : List Entry) → (A → B) → AreEntriesOf A line es → AreEntriesOf B line es
entries_weaker A B line [] then are = then are
entries_weaker A B line (e ∷ []) then are = (are.0, ⊎_elim (λ closed. inl closed) (λ lacks. inr (then lacks)) are.1)
entries_weaker A B line (e ∷ f ∷ []) then are = are
entries_weaker A B line (e ∷ f ∷ g ∷ es) then are = absurd are

-- the entries of a line are in it
pub entries_own : (Lacks : Type 0) (line : Line) (es : List Entry) → AreEntriesOf Lacks line es → AllByRecursion (IsIn line) es
entries_own Lacks line [] are = tt
entries_own Lacks line (e ∷ []) are = (record { lane = are.0.lane; number = are.0.number }, tt)
entries_own Lacks line (e ∷ f ∷ []) are = (record { lane = are.0.lane; number = are.0.number }, (are.2.own, tt))
entries_own Lacks line (e ∷ f ∷ g ∷ es) are = absurd are

-- so all of them answer it
all_answer : (line : Line) (es : List Entry) → AllByRecursion (IsIn line) es → filter (answers line.number) es ≡ es
all_answer line [] own = refl
all_answer line (e ∷ es) own = rw (eq-eqb e.line line.number own.0.number) (ap (λ xs. e ∷ xs) (all_answer line es own.1))

module _ (lines : List Line) (history : List Entry) (line : Line) (later : (l : Line) → Contains lines l → l.number < line.number) where
  -- no entry is of the new line, or of one after it
  pub earlier : (end : ℕ) → AnswersEach end lines history → (e : Entry) → Contains history e → e.line < line.number
  earlier end h e has = (let of = h.owned e has in let number = of.2.number in let lower = later of.0 of.1 in omega (arith, number, lower))

  -- the new line has none so far
  pub apart : (end : ℕ) → AnswersEach end lines history → AreOfOthers line.number history
  apart end h = recursion_from_All _ history
      (each_from (λ e. e.line ≢ line.number) history (λ e has same. (let lower = earlier end h e has in absurd (omega (arith, same, lower)))))

  none_yet : (end : ℕ) → AnswersEach end lines history → filter (answers line.number) history ≡ []
  none_yet end h = none_answers line.number history (apart end h)

  -- it was answered by some entries more
  module _ (end next : ℕ) (more : List Entry) (h : AnswersEach end lines history) (adds : AddsEntries history end next line more) where
    abbrev after : List Entry
    after = history ++ more

    own : AllByRecursion (IsIn line) more
    own = entries_own (next ≡ GREATEST_ID) line more adds.entries

    own_each : (e : Entry) → Contains more e → IsIn line e
    own_each e has = All-contains (IsIn line) more e (All-from_recursion (IsIn line) more own) has

    -- these are of no earlier line
    pub others : (l : Line) → Contains lines l → AreOfOthers l.number more
    others l has = recursion_from_All _ more (each_from (λ e. e.line ≢ l.number) more
        (λ e there same. (let number = (own_each e there).number in let lower = later l has in absurd (omega (arith, number, lower, same)))))

    -- a boundary that was told is at least the same ids still
    tells_after : (number : ℕ) → number ≤ line.number → (e : Entry) → TellsAfter history number e.reply → TellsAfter after number e.reply
    tells_after number low e tells = IfSome_then (told_boundary e.reply) tells (λ boundary bounds x has before.
        ⊎_elim (λ old. bounds x old before)
        (λ new. (let is = (own_each x new).number in absurd (omega (arith, before, is, low))))
        (Contains-append_cases history more x has))

    -- a line that found no id left has no entry after it still
    none_still : (l : Line) → (es : List Entry) → more ≡ es → FoundNone history end l → FoundNone after next l
    none_still l [] is none = record {
      greatest = subst (AreEntriesOf (next ≡ GREATEST_ID) line) is adds.entries;
      none_later = λ e has behind. none.none_later e
          (subst (λ (es : List Entry). Contains es e) (ap (λ es. history ++ es) is ∙ append-nil history) has) behind;
    }
    none_still l (e ∷ es) is none = (let empty = sym is ∙ adds.spent none.greatest in absurd (cc))

    old_entries : (l : Line) → Contains lines l → filter (answers l.number) after ≡ filter (answers l.number) history
    old_entries l has = filter-append (answers l.number) history more
        ∙ (ap (λ es. filter (answers l.number) history ++ es) (none_answers l.number more (others l has)) ∙ append-nil (filter (answers l.number) history))

    pub new_entries : filter (answers line.number) after ≡ more
    new_entries = filter-append (answers line.number) history more ∙ rw (none_yet end h) (all_answer line more own)

    old_answer : (l : Line) → Contains lines l → HasAnswer history end l → HasAnswer after next l
    old_answer l has old = record {
      entries = subst (AreEntriesOf (FoundNone after next l) l) (sym (old_entries l has))
          (entries_weaker (FoundNone history end l) (FoundNone after next l) l (filter (answers l.number) history) (none_still l more refl) old.entries);
      told = subst (All (λ (e : Entry). TellsAfter after l.number e.reply)) (sym (old_entries l has))
          (each_then _ _ (filter (answers l.number) history) (tells_after l.number (omega (arith, later l has))) old.told);
    }

    -- no entry is of a line after the new one
    last_one : (e : Entry) → Contains after e → line.number < e.line → ⊥
    last_one e has behind = ⊎_elim
        (λ old. (let lower = earlier end h e old in omega (arith, behind, lower)))
        (λ new. (let is = (own_each e new).number in omega (arith, behind, is)))
        (Contains-append_cases history more e has)

    new_answer : HasAnswer after next line
    new_answer = record {
      entries = subst (AreEntriesOf (FoundNone after next line) line) (sym new_entries)
          (entries_weaker (next ≡ GREATEST_ID) (FoundNone after next line) line more (λ greatest. record { greatest = greatest; none_later = last_one })
          adds.entries);
      told = subst (All (λ (e : Entry). TellsAfter after line.number e.reply)) (sym new_entries)
          (each_then _ _ more (tells_after line.number (omega arith)) adds.told);
    }

    has_answer : (l : Line) → Contains (lines ++ line ∷ []) l → HasAnswer after next l
    has_answer l has = ⊎_elim (λ old. old_answer l old (All-contains (HasAnswer history end) lines l h.each old))
        (λ new. subst (HasAnswer after next) (only_one line l new) new_answer) (Contains-append_cases lines (line ∷ []) l has)

    owned : (e : Entry) → Contains after e → (l : Line) × Contains (lines ++ line ∷ []) l × IsIn l e
    owned e has = ⊎_elim
        (λ old. (let its = h.owned e old in (its.0, Contains-append_left lines (line ∷ []) its.0 its.1, its.2)))
        (λ new. (line, Contains-append_right lines (line ∷ []) line (0, omega arith, refl), own_each e new))
        (Contains-append_cases history more e has)

    in_order : (a b : Entry) → Contains after a → Contains after b → a.line < b.line → a.id.0 < b.id.0
    in_order a b has also lower = ⊎_elim
        (λ a_old. ⊎_elim (λ b_old. h.in_order a b a_old b_old lower) (λ b_new. adds.above a b a_old b_new) (Contains-append_cases history more b also))
        (λ a_new. (let is = (own_each a a_new).number in absurd (last_one b also (omega (arith, lower, is)))))
        (Contains-append_cases history more a has)

    pub answers_more : AnswersEach next (lines ++ line ∷ []) after
    answers_more = record {
      each = each_from (HasAnswer after next) (lines ++ line ∷ []) has_answer;
      owned = owned;
      in_order = in_order;
    }

  -- a line found no id left
  pub answers_spent : (end : ℕ) → end ≡ GREATEST_ID → AnswersEach end lines history → AnswersEach end (lines ++ line ∷ []) history
  answers_spent end greatest h =
      subst (AnswersEach end (lines ++ line ∷ [])) (append-nil history) (answers_more end end [] h (record {
        entries = greatest;
        spent = λ is. refl;
        told = All-from_recursion _ [] tt;
        above = λ a b has also. (let lt = also.1 in absurd (omega (arith, lt)));
      }))

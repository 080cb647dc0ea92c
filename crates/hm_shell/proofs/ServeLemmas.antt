-- Lines that are served from the front.
use Rattle.std.proofs.Common.{◌≡◌, ℕ, ◌+◌, ◌*◌, ◌<◌, ◌≤◌, List, [], ◌∷◌, ◌++◌, length, take, refl, subst, sym}
use Rattle.std.proofs.Common.{◌≢◌, ◌∙◌, ap, inl, inr, arith, append_assoc, append-nil, length-append}
use Rattle.std.specs.Prelude.{◌⊎◌, All, Contains, OnErr, OnOk, Option, Result, Ok, Err}
use Rattle.std.proofs.lemmas.List.Elements.{All-contains, Contains-append_cases, Contains-append_right}
use Rattle.std.proofs.lemmas.Option.{IfSome_then}
use Rattle.hm_model.specs.Reply.{told_boundary}
use Rattle.hm_types.specs.Faults.{Rose}
use Rattle.hm_disk.specs.Moments.{LeftSince}
use Rattle.hm_pipe.specs.Pipe.{Gains}
use Rattle.hm_pipe.proofs.PipeLemmas.{Gains-none, Gains-append, Rose-wider}
use Rattle.hm_model.specs.declared.entry.Entry.{Entry}
use Rattle.hm_model.specs.declared.line.Line.{Line}
use Rattle.hm_model.specs.Out.{printed_line}
use Rattle.hm_core.specs.Core.{Follows, IsSoundCore}
use Rattle.hm_core.specs.State.{CoreState}
use Rattle.hm_core.proofs.CoreLemmas.{follows_further, follows_itself, follows_spare}
use Rattle.hm_shell.specs.declared.stop.RunStop.{RunStop}
use Rattle.hm_shell.specs.declared.stop.RunStop.TheVariants.{Usage, NotVolume, BadField, DiskFault, Damaged, ScriptFault, OutFault, NoMemory, BadLine, TooLong}
use Rattle.hm_shell.specs.Alone.{AddsEntries, AnswersEach, IsAlone, TellsAfter, line_text, out_text, words_of}
use Rattle.hm_shell.specs.Lines.{NumbersRise, IsServedLine}
use Rattle.hm_shell.specs.Printing.{StoppedPrinting}
use Rattle.hm_shell.specs.Seen.{Seen}
use Rattle.hm_shell.specs.Serving.{IsUncommitted, KeepsSize, RunsLine, Served, ServedInPart, ServesLine, Serving, StoppedServing}
use Rattle.hm_shell.proofs.AloneMoreLemmas.{answers_more, answers_none, each_from}
use Rattle.hm_shell.proofs.TextLemmas.{out_added, out_before, text_added}

-- a line that was not printed was printed in part, and something of it only by a fault of the sink
stopped_front : (line : List ℕ) (old new : Seen (List ℕ)) (stop : RunStop) → StoppedPrinting line old new stop
    → (k : ℕ) × Gains old.told (take k line) new.told × ((k ≡ 0) ⊎ Rose old.faults new.faults)
stopped_front line old new OutFault stopped = (stopped.1, stopped.2, inr stopped.0)
stopped_front line old new NoMemory stopped = (0, rw stopped (Gains-none old.told), inl refl)
stopped_front line old new Usage stopped = absurd stopped
stopped_front line old new NotVolume stopped = absurd stopped
stopped_front line old new (BadField place) stopped = absurd stopped
stopped_front line old new (DiskFault before after) stopped = absurd stopped
stopped_front line old new (Damaged at kind) stopped = absurd stopped
stopped_front line old new (ScriptFault before after) stopped = absurd stopped
stopped_front line old new (BadLine number why) stopped = absurd stopped
stopped_front line old new TooLong stopped = absurd stopped

-- the lines before one that stands in rising lines have lower numbers
below_next : (lines before rest : List Line) (line : Line) → NumbersRise lines → lines ≡ before ++ line ∷ rest → (l : Line) → Contains before l
    → l.number < line.number
below_next lines before rest line rising split l has = rising before rest line l split has

-- a line in the middle of served lines is one
pub served_next : (lines before rest : List Line) (line : Line) → All IsServedLine lines → lines ≡ before ++ line ∷ rest → IsServedLine line
served_next lines before rest line each split =
    All-contains IsServedLine lines line each
    (subst (λ (ls : List Line). Contains ls line) (sym split) (Contains-append_right before (line ∷ rest) line (0, omega arith, refl)))

-- a history with an entry more has one
not_empty : (history more : List Entry) (e : Entry) → history ++ e ∷ more ≡ [] → ⊥
not_empty history more e none = (let length_is = ap length none in let sum = length-append history (e ∷ more) in absurd (omega (arith, length_is, sum)))

-- What comes of one line more: the history answers it, it prints its text, and those before it print what they did.
record HasRun (lines : List Line) (line : Line) (begun old new : CoreState) (text : List ℕ) : Type 0 where
  pub answers : AnswersEach new.last (lines ++ line ∷ []) new.history
  pub up_to : (e : Entry) → Contains new.history e → e.id.0 ≤ new.last
  pub behind : IsUncommitted begun old → IsUncommitted begun new
  pub earlier : out_text lines new.history ≡ out_text lines old.history
  pub own : out_text (line ∷ []) new.history ≡ text
  pub both : out_text (lines ++ line ∷ []) new.history ≡ out_text lines old.history ++ text
  pub spare : old.spare ≤ new.spare + 2

module _ (lines : List Line) (line : Line) (later : (l : Line) → Contains lines l → l.number < line.number) (alone : IsAlone line)
    (past mid : LeftSince) (begun old : CoreState) (held holds : Option (List ℕ)) (served : Served lines past mid begun old held holds) where
  module _ (new : CoreState) (more : List Entry) (runs : RunsLine old new line more) where
    told_run : (e : Entry) → Contains more e → TellsAfter old.history line.number e.reply
    told_run e has = IfSome_then (told_boundary e.reply) (runs.told e has) (λ boundary least x there earlier.
        (let up_to = served.up_to x there in omega (arith, up_to, least)))

    adds : AddsEntries old.history old.last new.last line more
    adds = record {
      entries = runs.entries;
      spent = runs.spent;
      told = each_from _ more told_run;
      above = λ a b has also. (let up_to = served.up_to a has in let drawn = (runs.drawn b also).0 in omega (arith, up_to, drawn));
    }

    up_to_run : (e : Entry) → Contains new.history e → e.id.0 ≤ new.last
    up_to_run e has = elim (Contains-append_cases old.history more e (subst (λ (h : List Entry). Contains h e) runs.history has)) [
      | inl before ↦ (let up_to = served.up_to e before in let later = runs.later in omega (arith, up_to, later))
      | inr here ↦ (runs.drawn e here).1
    ]

    -- not all of it is committed, where there is an entry
    behind_run : IsUncommitted begun old → IsUncommitted begun new
    behind_run was = record { behind = behind more refl; idle = idle more refl } where
      behind : (es : List Entry) → more ≡ es → new.history ≢ [] → new.boundary < new.last
      behind [] is some =
          let same = runs.idle is in
          subst (λ (c : CoreState). c.boundary < c.last) (sym same) (was.behind (subst (λ (c : CoreState). c.history ≢ []) same some))
      behind (e ∷ es) is some = runs.behind (λ none. absurd (cc))

      idle : (es : List Entry) → more ≡ es → new.history ≡ [] → new ≡ record begun { spare = new.spare }
      idle [] is none =
          let same = runs.idle is in
          subst (λ (c : CoreState). c ≡ record begun { spare = c.spare }) (sym same) (was.idle (subst (λ (c : CoreState). c.history ≡ []) same none))
      idle (e ∷ es) is none = absurd (not_empty old.history es e (ap (λ es. old.history ++ es) (sym is) ∙ sym runs.history ∙ none))

    has_run : HasRun lines line begun old new (printed_line (words_of more))
    has_run = record {
      answers = rw runs.history (answers_more lines old.history line later old.last new.last more served.answers adds);
      up_to = up_to_run;
      behind = behind_run;
      earlier = rw runs.history (out_before lines old.history line later alone.call old.last new.last more served.answers adds);
      own = rw runs.history (append-nil (line_text (old.history ++ more) line)
          ∙ text_added lines old.history line later alone.call old.last new.last more served.answers adds);
      both = rw runs.history (out_added lines old.history line later alone.call old.last new.last more served.answers adds);
      spare = runs.room;
    }

  module _ (since : LeftSince) (new : CoreState) (follows : Follows mid since old new) (size : KeepsSize old new) where
    from : Follows past since begun new
    from = follows_further past mid since begun old new served.from follows

    -- one more line was run and printed
    module _ (gained : Option (List ℕ)) (serves : ServesLine old new line holds gained) where
      run : HasRun lines line begun old new (printed_line (words_of serves.more))
      run = has_run new serves.more serves.runs

      Served-line : Served (lines ++ line ∷ []) past since begun new held gained
      Served-line = record {
        from = from;
        size = size ∙ served.size;
        answers = run.answers;
        up_to = run.up_to;
        gained = rw run.both (Gains-append held holds gained (out_text lines old.history) (printed_line (words_of serves.more))
            served.gained serves.gained);
      }

      spare_left : old.spare ≤ new.spare + 2
      spare_left = run.spare

      behind_left : IsUncommitted begun old → IsUncommitted begun new
      behind_left = run.behind

    -- one more line was run, and printed in part or not at all
    part_line : (all rest : List Line) (first second third : Seen (List ℕ)) (stop : RunStop) → first.told ≡ held → holds ≡ second.told
        → first.faults ≤ second.faults → all ≡ lines ++ line ∷ rest → StoppedServing old new line second third stop
        → ServedInPart all past since begun new first third
    part_line all rest first second third stop began same earlier split stopped =
        let run = has_run new stopped.more stopped.runs in
        let text = printed_line (words_of stopped.more) in
        let part = stopped_front text second third stop stopped.printing in
        record {
          before = lines;
          last = line ∷ [];
          rest = rest;
          split = split;
          one = omega arith;
          from = from;
          size = size ∙ served.size;
          answers = run.answers;
          printed = part.0;
          gained = rw (run.earlier, run.own, began)
              (Gains-append held holds third.told (out_text lines old.history) (take part.0 text) served.gained (rw same part.1));
          cut = elim part.2 [
            | inl none ↦ inl none
            | inr rose ↦ inr (Rose-wider first.faults second.faults third.faults third.faults earlier rose (omega arith))
          ];
        }

-- no line was served yet
pub Serving-none : (lines : List Line) (left : LeftSince) (core : CoreState) (held : Option (List ℕ)) → IsSoundCore core → core.history ≡ []
    → 2 * length lines ≤ core.spare → Serving lines [] lines left left core core held held
Serving-none lines left core held sound none room = record {
  split = refl;
  served = record {
    from = follows_itself left core sound;
    size = refl;
    answers = rw none (answers_none core.last);
    up_to = λ e has. (let lt = (subst (λ (h : List Entry). Contains h e) none has).1 in absurd (omega (arith, lt)));
    gained = Gains-none held;
  };
  behind = record { behind = λ some. absurd (some none); idle = λ _. refl };
  room = room;
}

-- nothing was served
pub ServedInPart-none : (lines : List Line) (left : LeftSince) (begun core : CoreState) (held : Seen (List ℕ)) → IsSoundCore begun
    → core ≡ record begun { spare = core.spare } → begun.history ≡ [] → ServedInPart lines left left begun core held held
ServedInPart-none lines left begun core held sound keeps none =
    let empty : core.history ≡ [] = ap (λ (c : CoreState). c.history) keeps ∙ none in
    record {
      before = [];
      last = [];
      rest = lines;
      split = refl;
      one = omega arith;
      from = subst (λ (c : CoreState). Follows left left begun c) (sym keeps) (follows_spare left begun core.spare sound);
      size = ap (λ (c : CoreState). c.flush.header.bigblocks) keeps;
      answers = rw empty (answers_none core.last);
      printed = 0;
      gained = Gains-none held.told;
      cut = inl refl;
    }

module _ (lines before rest : List Line) (line : Line) (each : All IsServedLine lines) (rising : NumbersRise lines)
    (past mid since : LeftSince) (begun old new : CoreState) (follows : Follows mid since old new) (size : KeepsSize old new) where
  pub Serving-more : (held holds gained : Option (List ℕ)) → Serving lines before (line ∷ rest) past mid begun old held holds
      → ServesLine old new line holds gained → Serving lines (before ++ line ∷ []) rest past since begun new held gained
  Serving-more held holds gained so_far serves =
      let later = below_next lines before rest line rising so_far.split in
      let is_alone = (served_next lines before rest line each so_far.split).by_itself in
      let left = spare_left before line later is_alone past mid begun old held holds so_far.served since new follows size gained serves in
      record {
        split = so_far.split ∙ sym (append_assoc before (line ∷ []) rest);
        served = Served-line before line later is_alone past mid begun old held holds so_far.served since new follows size gained serves;
        behind = behind_left before line later is_alone past mid begun old held holds so_far.served since new follows size gained serves so_far.behind;
        room = (let room = so_far.room in omega (arith, room, left));
      }

  -- the lines before were served when this one stopped
  pub ServedInPart-stopped : (first second third : Seen (List ℕ)) (stop : RunStop)
      → Serving lines before (line ∷ rest) past mid begun old first.told second.told → first.faults ≤ second.faults
      → StoppedServing old new line second third stop → ServedInPart lines past since begun new first third
  ServedInPart-stopped first second third stop so_far earlier stopped =
      part_line before line (below_next lines before rest line rising so_far.split) (served_next lines before rest line each so_far.split).by_itself
      past mid begun old first.told second.told so_far.served since new follows size lines rest first second third stop refl refl earlier so_far.split stopped

-- what was served from a core in which room was made was served from it
module _ (lines : List Line) (past since : LeftSince) (a b c : CoreState) (sound : IsSoundCore a) (keeps : b ≡ record a { spare = b.spare }) where
  from_before : Follows past since b c → Follows past since a c
  from_before follows =
      follows_further past past since a (record a { spare = b.spare }) c (follows_spare past a b.spare sound)
      (subst (λ (x : CoreState). Follows past since x c) keeps follows)

  size_before : KeepsSize b c → KeepsSize a c
  size_before size = size ∙ ap (λ (x : CoreState). x.flush.header.bigblocks) keeps

  -- the same where there was no error, and where there was one
  pub served_after : (held holds : Option (List ℕ)) (r : Result (Unit {0}) RunStop) → OnOk r (Served lines past since b c held holds)
      → OnOk r (Served lines past since a c held holds)
  served_after held holds (Ok done) served = record {
    from = from_before served.from;
    size = size_before served.size;
    answers = served.answers;
    up_to = served.up_to;
    gained = served.gained;
  }
  served_after held holds (Err stop) served = tt

  pub behind_after : (r : Result (Unit {0}) RunStop) → OnOk r (IsUncommitted b c) → OnOk r (IsUncommitted a c)
  behind_after (Ok done) behind = record {
    behind = behind.behind;
    idle = λ none. behind.idle none ∙ ap (λ (x : CoreState). record x { spare = c.spare }) keeps;
  }
  behind_after (Err stop) behind = tt

  pub part_after : (held holds : Seen (List ℕ)) (r : Result (Unit {0}) RunStop) → OnErr r (ServedInPart lines past since b c held holds)
      → OnErr r (ServedInPart lines past since a c held holds)
  part_after held holds (Ok done) part = tt
  part_after held holds (Err stop) part = record {
    before = part.before;
    last = part.last;
    rest = part.rest;
    split = part.split;
    one = part.one;
    from = from_before part.from;
    size = size_before part.size;
    answers = part.answers;
    printed = part.printed;
    gained = part.gained;
    cut = part.cut;
  }

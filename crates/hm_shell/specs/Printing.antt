-- What printing a line came to.
use Rattle.std.specs.Prelude.{◌≡◌, ◌⊎◌, ℕ, List, [], ◌∷◌, ◌++◌, codes, take}
use Rattle.std.specs.Borrow.{Bor}
use Rattle.hm_types.specs.Faults.{Rose}
use Rattle.hm_pipe.specs.Pipe.{Gains}
use Rattle.hm_model.specs.declared.entry.Entry.{Entry}
use Rattle.hm_model.specs.Out.{entry_words, printed_line, spent_words}
use Rattle.hm_shell.specs.declared.stop.RunStop.{RunStop}
use Rattle.hm_shell.specs.declared.stop.RunStop.TheVariants.{Usage, NotVolume, BadField, DiskFault, Damaged, ScriptFault, OutFault, NoMemory, BadLine, TooLong}
use Rattle.hm_shell.specs.Seen.{Seen}

-- the pieces one after another
abbrev pub joined : List (Bor (List ℕ)) → List ℕ
joined [] = []
joined (piece ∷ pieces) = piece.now ++ joined pieces

-- the line of an opening and of its ending
abbrev pub ended_line : Entry → Entry → List ℕ
ended_line opening ending = printed_line (entry_words opening ++ (codes " " ++ entry_words ending))

-- the line of an opening, for whose ending no id was left
abbrev pub unended_line : Entry → List ℕ
unended_line opening = printed_line (entry_words opening ++ (codes " " ++ spent_words))

-- the sink failed, and gained only a front of this text
abbrev pub IsCutShort : List ℕ → Seen (List ℕ) → Seen (List ℕ) → Type 0
IsCutShort text old new =
    Rose old.faults new.faults × (k : ℕ) × Gains old.told (take k text) new.told

-- the sink gained this text and then this line, or only a front of the line where its count of faults
-- rose
abbrev pub Prints : List ℕ → List ℕ → Seen (List ℕ) → Seen (List ℕ) → Type 0
Prints text line old new =
    Gains old.told (text ++ line) new.told
    ⊎ (Rose old.faults new.faults × (k : ℕ) × Gains old.told (text ++ take k line) new.told)

-- why a line was not printed: the sink failed, or memory ran out before
abbrev pub StoppedPrinting : List ℕ → Seen (List ℕ) → Seen (List ℕ) → RunStop → Type 0
StoppedPrinting line old new OutFault = IsCutShort line old new
StoppedPrinting line old new NoMemory = new.told ≡ old.told
StoppedPrinting line old new Usage = ⊥
StoppedPrinting line old new NotVolume = ⊥
StoppedPrinting line old new (BadField place) = ⊥
StoppedPrinting line old new (DiskFault before after) = ⊥
StoppedPrinting line old new (Damaged at kind) = ⊥
StoppedPrinting line old new (ScriptFault before after) = ⊥
StoppedPrinting line old new (BadLine number why) = ⊥
StoppedPrinting line old new TooLong = ⊥

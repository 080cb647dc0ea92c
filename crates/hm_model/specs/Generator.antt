-- The lines that are run where no script is read, made from one number, and what such a run prints.
use Rattle.std.specs.Prelude.{◌≡◌, ℕ, zero, suc, ◌+◌, ◌-◌, ◌*◌, ◌/◌, ◌%◌, ◌^◌, List, [], ◌∷◌, ◌++◌, Bool, true, false, ◌==◌, if◌then◌else◌, codes, decimal, map}
use Rattle.std.specs.Bool.{nat_le, nat_lt}
use Rattle.std.specs.List.{count_by}
use Rattle.std.specs.Fmt.{digits, padded_integral, format_spec}
use Rattle.hm_types.specs.Id.{id_text}
use Rattle.hm_model.specs.declared.command.Command.{Command}
use Rattle.hm_model.specs.declared.command.Command.TheVariants.{Touch, Snapshot, Fill, Truncate, Ls, Cat, Stat, Sync, Prune, Reblock}
use Rattle.hm_model.specs.declared.entry.Entry.{Entry}
use Rattle.hm_model.specs.declared.line.Line.{Line}
use Rattle.hm_model.specs.Reply.{is_refusal}
use Rattle.hm_model.specs.Caused.{opens}
use Rattle.hm_model.specs.Out.{IsOut, endings_of, openings_of, printed_line}

-- how many lines there are
abbrev pub generated_count : ℕ
generated_count = 4096

-- the number that the next line is made from
abbrev pub next_number : ℕ → ℕ
next_number x = (x * 6364136223846793005 + 1442695040888963407) % 2 ^ 64

-- the upper 31 bits of a line's number, of which its command is made
abbrev pub upper_bits : ℕ → ℕ
upper_bits x = x / 2 ^ 33

-- a file's number, below 64; which kind of command; a place in a file; a byte; and a free number
abbrev pub drawn_file : ℕ → ℕ
drawn_file r = r % 64

abbrev pub drawn_kind : ℕ → ℕ
drawn_kind r = r / 64 % 16

abbrev pub drawn_rest : ℕ → ℕ
drawn_rest r = r / 1024

abbrev pub drawn_offset : ℕ → ℕ
drawn_offset r = drawn_rest r % 256 * 4096

abbrev pub drawn_byte : ℕ → ℕ
drawn_byte r = r / 262144 % 256

-- a number in two decimal digits, and in four
abbrev pub two_digits : ℕ → List ℕ
two_digits n = padded_integral (format_spec 32 0 4 2 (2 ^ 64 - 1)) false [] (digits 10 false n)

abbrev pub four_digits : ℕ → List ℕ
four_digits n = padded_integral (format_spec 32 0 4 4 (2 ^ 64 - 1)) false [] (digits 10 false n)

-- the path of a file, now and as of an id, and that of a snapshot
abbrev pub file_path : ℕ → List ℕ
file_path file = codes "/f" ++ two_digits file

abbrev pub past_path : ℕ → ℕ → List ℕ
past_path id file = codes "/@@" ++ (id_text (record { 0 = id }) ++ (codes "/f" ++ two_digits file))

abbrev pub snapshot_path : ℕ → List ℕ
snapshot_path number = codes "/s" ++ four_digits number

-- the id that a line with this number reads as of: at most its number, and so drawn before it
abbrev pub past_id : ℕ → ℕ → ℕ
past_id number r = 1 + drawn_rest r % number

-- the command that these bits draw for the line with this number
abbrev pub drawn_command : ℕ → ℕ → Command
drawn_command number r =
    if nat_lt (drawn_kind r) 8 then Fill (file_path (drawn_file r)) (drawn_offset r) 4096 (drawn_byte r)
    else if nat_lt (drawn_kind r) 11 then Cat (file_path (drawn_file r)) (drawn_offset r) 256
    else if drawn_kind r == 11 then Truncate (file_path (drawn_file r)) (drawn_offset r)
    else if drawn_kind r == 12 then Cat (past_path (past_id number r) (drawn_file r)) (drawn_offset r) 256
    else if drawn_kind r == 13 then Ls (codes "/")
    else if drawn_kind r == 14 then Snapshot (snapshot_path number)
    else Stat (file_path (drawn_file r))

-- The command of a line, by its number and what that is made from: the first 64 make the files; one prunes
-- and one reblocks; each 256th waits for the disk; and every other one is drawn.
abbrev pub generated_command : ℕ → ℕ → Command
generated_command number x =
    if nat_le number 64 then Touch (file_path (number - 1))
    else if number == 2048 then Prune (codes "/")
    else if number == 3072 then Reblock 50
    else if number % 256 == 0 then Sync
    else drawn_command number (upper_bits x)

-- the line: it has no lane
abbrev pub generated_line : ℕ → ℕ → Line
generated_line number x = record { lane = 0; number = number; command = generated_command number x }

-- so many lines from one with this number on, which is made from this
unfoldable pub lines_from : ℕ → ℕ → ℕ → List Line
lines_from zero number x = []
lines_from (suc count) number x = generated_line number x ∷ lines_from count (number + 1) (next_number x)

-- all lines of a seed
abbrev pub generated_lines : ℕ → List Line
generated_lines seed = lines_from generated_count 1 (next_number seed)

-- each is a block by itself
abbrev pub generated_blocks : ℕ → List (List Line)
generated_blocks seed = map (λ (line : Line). line ∷ []) (generated_lines seed)

-- whether a line with these entries, its call's and that of its ending, came to a good end: neither of them
-- is a refusal, and neither lacks for want of an id
abbrev pub is_well : List Entry → List Entry → Bool
is_well [] endings = false
is_well (e ∷ es) [] = if is_refusal e.reply then false else if opens e then false else true
is_well (e ∷ es) (f ∷ fs) = if is_refusal e.reply then false else if is_refusal f.reply then false else true

-- how many lines did
abbrev pub well_count : List Entry → List Line → ℕ
well_count history lines =
    count_by (λ (line : Line). is_well (openings_of history line) (endings_of history line)) lines

-- the last id of a history, or the one before it where it has no entry
abbrev pub last_drawn : ℕ → List Entry → ℕ
last_drawn before [] = before
last_drawn before (e ∷ es) = last_drawn e.id.0 es

-- what such a run prints in place of the replies
abbrev pub summary_words : ℕ → ℕ → List ℕ
summary_words well last =
    codes "lines " ++ (decimal generated_count ++ (codes " ok " ++ (decimal well
    ++ (codes " refused " ++ (decimal (generated_count - well)
    ++ (codes " last " ++ id_text (record { 0 = last })))))))

-- What a run of generated lines prints, which had this history, found this last id as it began, and has this
-- one at its end: the history answers these lines as it would answer a script, and one line sums it up.
pub record IsSummary (seed before : ℕ) (history : List Entry) (end : ℕ) (text : List ℕ) : Type 0 where
  pub replies : List ℕ
  pub answered : IsOut (generated_blocks seed) history end replies
  pub text_is : text ≡
      printed_line (summary_words (well_count history (generated_lines seed)) (last_drawn before history))

-- What a run prints.
use Rattle.std.specs.Prelude.{◌≡◌, ◌⊎◌, ℕ, ◌<◌, ◌≤◌, List, [], ◌∷◌, ◌++◌, Bool, true, false, ◌==◌, ◌&&◌, if◌then◌else◌, Contains, codes, filter, IfSome}
use Rattle.std.specs.List.{AllZip, flat_map}
use Rattle.hm_types.specs.Id.{id_text}
use Rattle.hm_types.specs.declared.id.Id.{Id}
use Rattle.hm_types.specs.declared.limits.TheConstants.{GREATEST_ID}
use Rattle.hm_model.specs.declared.command.Command.{Command}
use Rattle.hm_model.specs.declared.command.Command.TheVariants.{End, Progress, Mkdir, Touch, Symlink, Snapshot, Ln, Mv, Write, Fill, Truncate, Rm, Rmdir, Ls, Cat, Stat, Readlink, Sync, Synctid, Prune, PruneAll, Reblock, PfsMaster, PfsSlave, PfsStatus, PfsUpgrade, MirrorRead, MirrorWrite, MirrorCopy, Df}
use Rattle.hm_model.specs.declared.entry.Entry.{Entry}
use Rattle.hm_model.specs.declared.line.Line.{Line}
use Rattle.hm_model.specs.declared.reply.Reply.{Reply}
use Rattle.hm_model.specs.Reply.{answer_text, told_boundary}
use Rattle.hm_model.specs.Lines.{line_feed}
use Rattle.hm_model.specs.Caused.{boundary_in, is_ending, opens}

-- a printed line: some words, and its end
abbrev pub printed_line : List ℕ → List ℕ
printed_line words = words ++ line_feed ∷ []

-- an entry as it is printed: its id and its reply
abbrev pub entry_words : Entry → List ℕ
entry_words e = id_text e.id ++ (codes " " ++ answer_text e.call e.reply)

-- whether an entry answers the line with this number, and whether it is its ending
abbrev pub answers : ℕ → Entry → Bool
answers number e = e.line == number

abbrev pub ends : ℕ → Entry → Bool
ends number e = (e.line == number) && is_ending e.call

abbrev pub begins : ℕ → Entry → Bool
begins number e = (e.line == number) && (if is_ending e.call then false else true)

-- the entries of a line: its call, or its opening, and its ending
abbrev pub openings_of : List Entry → Line → List Entry
openings_of history line = filter (begins line.number) history

abbrev pub endings_of : List Entry → Line → List Entry
endings_of history line = filter (ends line.number) history

-- what a line of `progress` prints: two ids, the last one and the durable one
abbrev pub progress_words : ℕ → ℕ → List ℕ
progress_words last durable =
    codes "- last " ++ (id_text (record { 0 = last }) ++ (codes " durable " ++ id_text (record { 0 = durable })))

-- what a call prints that found no id left, and the ending of one
abbrev pub spent_words : List ℕ
spent_words = codes "- ids spent"

-- What a line prints with these entries. A call without an entry found no id left, as did the ending of a
-- housekeeping call that was opened and has none.
abbrev pub line_words : List Entry → List Entry → List ℕ
line_words [] endings = spent_words
line_words (e ∷ es) [] = if opens e then entry_words e ++ (codes " " ++ spent_words) else entry_words e
line_words (e ∷ es) (f ∷ fs) = entry_words e ++ (codes " " ++ entry_words f)

-- the number of the first line of a block, and that of its last
abbrev pub first_number : List Line → ℕ
first_number [] = 0
first_number (line ∷ lines) = line.number

abbrev pub last_number : List Line → ℕ
last_number [] = 0
last_number (line ∷ []) = line.number
last_number (line ∷ next ∷ lines) = last_number (next ∷ lines)

-- an entry is of an earlier line of the same lane
abbrev pub IsEarlierInLane : Line → Entry → Type 0
IsEarlierInLane line e = (e.lane ≡ line.lane) × (e.line < line.number)

-- an entry is of an earlier line of the same lane, or of an earlier block than this one
abbrev pub IsEarlier : List Line → Line → Entry → Type 0
IsEarlier block line e = (e.line < first_number block) ⊎ IsEarlierInLane line e

-- an entry is of a later line of the same lane, or of a later block than this one
abbrev pub IsLater : List Line → Line → Entry → Type 0
IsLater block line e =
    (last_number block < e.line) ⊎ ((e.lane ≡ line.lane) × (line.number < e.line))

-- the entry has the line's lane, number and command
pub record IsOf (line : Line) (e : Entry) : Type 0 where
  pub lane : e.lane ≡ line.lane
  pub number : e.line ≡ line.number
  pub command : e.call ≡ line.command

-- a bound is at least the ids of earlier lines
abbrev pub BoundsEarlier : List Entry → List Line → Line → ℕ → Type 0
BoundsEarlier history block line bound =
    (e : Entry) → Contains history e → IsEarlier block line e → e.id.0 ≤ bound

-- What a line of `progress` prints: a last id that is at least the ids of earlier lines, and not above that
-- of the run's end; and a durable one that is not above it, and at least each boundary that the lane was
-- told before.
pub record IsProgress (history : List Entry) (end : ℕ) (block : List Line) (line : Line) (text : List ℕ)
    : Type 0 where
  pub last : ℕ
  pub durable : ℕ
  pub printed : text ≡ printed_line (progress_words last durable)
  pub ordered : durable ≤ last
  pub after : BoundsEarlier history block line last
  pub by_end : last ≤ end
  pub told : (e : Entry) → Contains history e → IsEarlierInLane line e → boundary_in e.reply ≤ durable

-- a call or an ending has no entry: no id was left, and no later line has an entry
pub record IsSpent (history : List Entry) (end : ℕ) (block : List Line) (line : Line) : Type 0 where
  pub greatest : end ≡ GREATEST_ID
  pub none_later : (e : Entry) → Contains history e → IsLater block line e → ⊥

-- a boundary that a line was told is at least the ids of earlier lines
abbrev pub KeepsBoundary : List Entry → List Line → Line → Reply → Type 0
KeepsBoundary history block line reply = IfSome (told_boundary reply) (λ boundary. BoundsEarlier history block line boundary.0)

-- The entries of a line: one for its call, and one for the ending of a housekeeping call that was accepted.
-- Either may lack where no id was left.
abbrev pub IsAnswered : List Entry → ℕ → List Line → Line → List Entry → List Entry → Type 0
IsAnswered history end block line [] [] = IsSpent history end block line
IsAnswered history end block line (e ∷ []) [] =
    IsOf line e × KeepsBoundary history block line e.reply
    × ((opens e ≡ false) ⊎ IsSpent history end block line)
IsAnswered history end block line (e ∷ []) (f ∷ []) =
    IsOf line e × (opens e ≡ true) × (f.lane ≡ line.lane) × (f.call ≡ End e.id)
IsAnswered history end block line openings endings = ⊥

-- a line of a call prints its entries
pub record IsCallLine (history : List Entry) (end : ℕ) (block : List Line) (line : Line) (text : List ℕ)
    : Type 0 where
  pub answered : IsAnswered history end block line (openings_of history line) (endings_of history line)
  pub printed : text ≡ printed_line (line_words (openings_of history line) (endings_of history line))

-- what a line prints
abbrev pub IsLineText : List Entry → ℕ → List Line → Line → List ℕ → Type 0
IsLineText history end block line text = elim line.command [
  | Progress ↦ IsProgress history end block line text × (openings_of history line ≡ []) × (endings_of history line ≡ [])
  | Mkdir path ↦ IsCallLine history end block line text
  | Touch path ↦ IsCallLine history end block line text
  | Symlink target path ↦ IsCallLine history end block line text
  | Snapshot path ↦ IsCallLine history end block line text
  | Ln old new ↦ IsCallLine history end block line text
  | Mv old new ↦ IsCallLine history end block line text
  | Write path offset bytes ↦ IsCallLine history end block line text
  | Fill path offset count byte ↦ IsCallLine history end block line text
  | Truncate path size ↦ IsCallLine history end block line text
  | Rm path ↦ IsCallLine history end block line text
  | Rmdir path ↦ IsCallLine history end block line text
  | Ls path ↦ IsCallLine history end block line text
  | Cat path offset count ↦ IsCallLine history end block line text
  | Stat path ↦ IsCallLine history end block line text
  | Readlink path ↦ IsCallLine history end block line text
  | Sync ↦ IsCallLine history end block line text
  | Synctid ↦ IsCallLine history end block line text
  | Prune path ↦ IsCallLine history end block line text
  | PruneAll path ↦ IsCallLine history end block line text
  | Reblock fill ↦ IsCallLine history end block line text
  | PfsMaster path shared ↦ IsCallLine history end block line text
  | PfsSlave path shared ↦ IsCallLine history end block line text
  | PfsStatus path ↦ IsCallLine history end block line text
  | PfsUpgrade path ↦ IsCallLine history end block line text
  | MirrorRead path begin ↦ IsCallLine history end block line text
  | MirrorWrite path ↦ IsCallLine history end block line text
  | MirrorCopy master slave limit ↦ IsCallLine history end block line text
  | Df ↦ IsCallLine history end block line text
  | End opening ↦ IsCallLine history end block line text
]

-- the texts of a block, one for each line
abbrev pub IsBlockText : List Entry → ℕ → List Line → List (List ℕ) → Type 0
IsBlockText history end block texts = AllZip (IsLineText history end block) block texts

-- some texts, one after another
abbrev pub joined : List (List ℕ) → List ℕ
joined texts = flat_map (λ text. text) texts

-- all lines of some blocks
abbrev pub lines_in : List (List Line) → List Line
lines_in blocks = flat_map (λ block. block) blocks

-- the ids of a lane rise by its lines, and those of a block lie before those of the next
pub record AreOrdered (blocks : List (List Line)) (history : List Entry) : Type 0 where
  pub in_lane : (a b : Entry) → Contains history a → Contains history b → a.lane ≡ b.lane → a.line < b.line →
      a.id.0 < b.id.0
  pub by_block : (block : List Line) (a b : Entry) → Contains blocks block → Contains history a →
      Contains history b → a.line < first_number block → first_number block ≤ b.line → a.id.0 < b.id.0

-- What a run with this history prints, where its last id at its end is this one: the text of each line, in
-- the order of the script; and every entry belongs to a line.
pub record IsOut (blocks : List (List Line)) (history : List Entry) (end : ℕ) (text : List ℕ) : Type 0 where
  pub texts : List (List (List ℕ))
  pub each : AllZip (IsBlockText history end) blocks texts
  pub text_is : text ≡ flat_map joined texts
  pub owned : (e : Entry) → Contains history e →
      (line : Line) × Contains (lines_in blocks) line × (line.number ≡ e.line) × (line.lane ≡ e.lane)
  pub ordered : AreOrdered blocks history

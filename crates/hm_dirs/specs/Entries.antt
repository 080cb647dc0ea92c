-- What the name of one entry is, and what is known of the entries under some keys: which are taken, and how many lead.
use Rattle.std.specs.Prelude.{◌≡◌, ℕ, ◌+◌, ◌*◌, ◌/◌, ◌^◌, ◌<◌, ◌≤◌, Bool, true, false, List, [], ◌∷◌, ◌++◌, length, Option, None, Some}
use Rattle.std.specs.List.{Contains}
use Rattle.hm_types.specs.Elements.{FullElement}
use Rattle.hm_types.specs.declared.id.Obj.{Obj}
use Rattle.hm_key.specs.Counts.{Content, Counts, Subject, entry_subject}
use Rattle.hm_records.specs.Changes.{CountsNothing}
use Rattle.hm_records.specs.Entry.{IsSpelled, entry_bytes}
use Rattle.hm_records.specs.Laws.{IsFirstOf}
use Rattle.hm_records.specs.View.{HasEntry}
use Rattle.hm_records.specs.declared.entry.DirEntry.{DirEntry}
use Rattle.hm_cursor.specs.Told.{Lists, fulls}
use Rattle.hm_cursor.specs.Write.{Rewrites}
use Rattle.hm_dirs.specs.Names.{IsHidden, numbers}

-- some bytes spell an entry of a name
abbrev pub IsNamed : List ℕ → List ℕ → Type 0
IsNamed bytes name = (object : Obj) × IsSpelled bytes object name

-- a directory has an entry under each key from one to another
abbrev pub AreTaken : Content → ℕ → Obj → ℕ → ℕ → Type 0
AreTaken counts pfs directory first end =
    (key : ℕ) → first ≤ key → key < end → CountsNothing counts (entry_subject pfs directory.0 key) → ⊥

-- A key with one of as many collision numbers as there are, from `first` on, under which a directory has no entry, or none
-- where each of them has one.
abbrev pub IsFreeKey : ℕ → ℕ → Obj → ℕ → Option ℕ → Lists → Type 0
IsFreeKey t pfs directory first None lists = AreTaken (Counts (fulls lists) t) pfs directory first (first + numbers)
IsFreeKey t pfs directory first (Some free) lists =
    (first ≤ free) × (free < first + numbers) × CountsNothing (Counts (fulls lists) t) (entry_subject pfs directory.0 free)

-- an entry leads: no entry of its name stands under an earlier key
pub record Leads (counts : Content) (pfs : ℕ) (directory : Obj) (key : ℕ) (entry : DirEntry) : Type 0 where
  pub there : HasEntry counts pfs directory key entry.name entry.obj
  pub first : IsFirstOf counts pfs directory entry.name key

-- the key of a directory's first entry from one key to another, and its name, or none where there is no entry
abbrev pub IsNextName : ℕ → ℕ → Obj → ℕ → ℕ → Option (ℕ × List ℕ) → Lists → Type 0
IsNextName t pfs directory key last None lists =
    (k : ℕ) → key ≤ k → k ≤ last → CountsNothing (Counts (fulls lists) t) (entry_subject pfs directory.0 k)
IsNextName t pfs directory key last (Some found) lists =
    ((k : ℕ) → key ≤ k → k < found.0 → CountsNothing (Counts (fulls lists) t) (entry_subject pfs directory.0 k))
    × ((object : Obj) × HasEntry (Counts (fulls lists) t) pfs directory found.0 found.1 object)

-- the least key of some hash
pub record IsLeastKey (first : ℕ) : Type 0 where
  pub whole : first / 65536 * 65536 ≡ first
  pub few : first < 2 ^ 63

-- a name was added to a list that lacked it, or was there
abbrev pub IsNoted : List (List ℕ) → List ℕ → List (List ℕ) → Bool → Type 0
IsNoted old name new true = (new ≡ old ++ (name ∷ [])) × (Contains old name → ⊥)
IsNoted old name new false = (new ≡ old) × Contains old name

-- the entries that lead from one key to another have their payloads in a list of so many
pub record HaveAtMost (counts : Content) (pfs : ℕ) (directory : Obj) (first end count : ℕ) : Type 0 where
  pub payloads : List (List ℕ)
  pub sized : length payloads ≡ count
  pub all : (key : ℕ) (entry : DirEntry) → first ≤ key → key < end → Leads counts pfs directory key entry
      → Contains payloads (entry_bytes entry)

-- some bytes are the payload of an entry that leads, from one key to another
pub record IsLeading (counts : Content) (pfs : ℕ) (directory : Obj) (first end : ℕ) (bytes : List ℕ) : Type 0 where
  pub key : ℕ
  pub entry : DirEntry
  pub from : first ≤ key
  pub below : key < end
  pub leads : Leads counts pfs directory key entry
  pub spelled : bytes ≡ entry_bytes entry

-- no two of a list are equal
abbrev pub AreDistinct : {X : Type 0} → List X → Type 0
AreDistinct [] = Unit {0}
AreDistinct (x ∷ xs) = (Contains xs x → ⊥) × AreDistinct xs

-- so many entries lead from one key to another, or more
pub record HaveAtLeast (counts : Content) (pfs : ℕ) (directory : Obj) (first end count : ℕ) : Type 0 where
  pub payloads : List (List ℕ)
  pub sized : length payloads ≡ count
  pub distinct : AreDistinct payloads
  pub each : (bytes : List ℕ) → Contains payloads bytes → IsLeading counts pfs directory first end bytes

-- fewer entries lead, under the keys of a hash, than there are collision numbers
abbrev pub AreFewer : Content → ℕ → Obj → ℕ → Type 0
AreFewer counts pfs directory first = (n : ℕ) × (n < numbers) × HaveAtMost counts pfs directory first (first + 65536) n

-- as many lead as there are collision numbers, or more
abbrev pub AreMany : Content → ℕ → Obj → ℕ → Type 0
AreMany counts pfs directory first = HaveAtLeast counts pfs directory first (first + 65536) numbers

-- where few entries have a hash, fewer lead than there are collision numbers
abbrev pub IsFewEntries : ℕ → ℕ → Obj → ℕ → Bool → Lists → Type 0
IsFewEntries t pfs directory first true lists = AreFewer (Counts (fulls lists) t) pfs directory first
IsFewEntries t pfs directory first false lists = Unit {0}

-- whether fewer lead than there are collision numbers
abbrev pub IsFewNames : ℕ → ℕ → Obj → ℕ → Bool → Lists → Type 0
IsFewNames t pfs directory first true lists = AreFewer (Counts (fulls lists) t) pfs directory first
IsFewNames t pfs directory first false lists = AreMany (Counts (fulls lists) t) pfs directory first

-- a key with one of the collision numbers whose entry is hidden, or none: then each entry with such a number leads
abbrev pub IsHiddenKey : ℕ → ℕ → Obj → ℕ → Option ℕ → Lists → Type 0
IsHiddenKey t pfs directory first None lists =
    AreTaken (Counts (fulls lists) t) pfs directory first (first + numbers) → AreMany (Counts (fulls lists) t) pfs directory first
IsHiddenKey t pfs directory first (Some key) lists =
    (first ≤ key) × (key < first + numbers) × IsHidden (Counts (fulls lists) t) pfs directory key

-- what is about a subject is closed at `i` where it is hidden, and else all stays
abbrev pub Clears : Bool → Subject → ℕ → List FullElement → List FullElement → Type 0
Clears true s i es mid = Rewrites s None i es mid
Clears false s i es mid = mid ≡ es

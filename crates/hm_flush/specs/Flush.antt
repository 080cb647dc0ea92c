-- Where a flush stands: what always holds of it, and what it has to do with the frozen group of a store.
use Rattle.std.specs.Prelude.{◌≡◌, ℕ, ◌+◌, ◌-◌, ◌*◌, ◌%◌, ◌^◌, ◌<◌, ◌≤◌, Bool, true, false, Some, None, length}
use Rattle.hm_types.specs.declared.limits.TheConstants.{MOST_GROUP_PAGES}
use Rattle.hm_header.specs.declared.header.Header.{Header}
use Rattle.hm_header.specs.Range.{IsHeader}
use Rattle.hm_undo.specs.Log.{entry_at}
use Rattle.hm_pages.specs.Store.{Store}
use Rattle.hm_flush.specs.declared.change.Change.{Change}
use Rattle.hm_flush.specs.declared.change.Change.TheVariants.{Close, Write, Open}
use Rattle.hm_flush.specs.declared.flush.Flush.{Flush}
use Rattle.hm_flush.specs.declared.flush.Position.{Position}
use Rattle.hm_flush.specs.declared.flush.Position.TheVariants.{Idle, Undoing, Arming, Placing, Committing}
use Rattle.hm_flush.specs.Group.{group_of, live_before}

-- the generation of the header that is written after this one
abbrev pub next_generation : Header → ℕ
next_generation header = (header.generation + 1) % 2 ^ 64

-- The header that names a range of so many entries of the log, from the next free one on. But for that it is the
-- header that counts.
abbrev pub armed_header : Header → ℕ → Header
armed_header header entries = record header {
  generation = next_generation header;
  undo_first = header.undo_next;
  undo_count = entries;
  undo_next = entry_at header.undo_next entries;
}

-- The header with the state that is to be committed, without a range.
abbrev pub committed_header : Header → Header → Header
committed_header header target = record header {
  version = target.version;
  generation = next_generation header;
  last = target.last;
  root = target.root;
  undo_count = 0;
  append = target.append;
}

-- the header that a flush changes to next, at each position
abbrev pub header_to_write_at : Position → Flush → Header
header_to_write_at Idle f = armed_header f.header f.written
header_to_write_at (Undoing from) f = armed_header f.header f.written
header_to_write_at (Arming change) f = armed_header f.header f.written
header_to_write_at (Placing i) f = committed_header f.header f.target
header_to_write_at (Committing change) f = committed_header f.header f.target

abbrev pub header_to_write : Flush → Header
header_to_write f = header_to_write_at f.at f

-- The numbers of a flush fit its position. All entries are written from the success of UndoSync on.
abbrev pub AreCounts : Position → Flush → Type 0
AreCounts Idle f = Unit {0}
AreCounts (Undoing from) f = (from ≤ f.pages) × (f.written ≤ f.live)
AreCounts (Arming change) f = f.written ≡ f.live
AreCounts (Placing i) f = (i ≤ f.pages) × (f.written ≡ f.live)
AreCounts (Committing change) f = f.written ≡ f.live

-- what always holds of a flush
pub record IsFlush (f : Flush) : Type 0 where
  pub slot : f.slot ≤ 1
  pub header : IsHeader f.header
  pub target : IsHeader f.target
  pub bigblocks : f.target.bigblocks ≡ f.header.bigblocks
  pub pages : f.pages ≤ MOST_GROUP_PAGES
  pub live : f.live ≤ f.pages
  pub written : f.written ≤ f.live
  pub counts : AreCounts f.at f

-- The entries that were written are those of the live pages so far.
abbrev pub AreWritten : Position → (ℕ → Bool) → Flush → Type 0
AreWritten Idle was_live f = Unit {0}
AreWritten (Undoing from) was_live f = live_before was_live from ≡ f.written
AreWritten (Arming change) was_live f = Unit {0}
AreWritten (Placing i) was_live f = Unit {0}
AreWritten (Committing change) was_live f = Unit {0}

-- the frozen group of a store is that of a flush in flight
pub record IsGroup (f : Flush) (s : Store) : Type 0 where
  pub boundary : s.boundary ≡ Some f.target.last
  pub pages : length s.frozen_group ≡ f.pages
  pub live : live_before (group_of s).was_live f.pages ≡ f.live
  pub written : AreWritten f.at (group_of s).was_live f

-- A group is frozen in a store exactly where a flush is in flight, and then it is that flush's group.
abbrev pub IsGroupAt : Position → Flush → Store → Type 0
IsGroupAt Idle f s = s.boundary ≡ None
IsGroupAt (Undoing from) f s = IsGroup f s
IsGroupAt (Arming change) f s = IsGroup f s
IsGroupAt (Placing i) f s = IsGroup f s
IsGroupAt (Committing change) f s = IsGroup f s

abbrev pub IsGroupOf : Flush → Store → Type 0
IsGroupOf f s = IsGroupAt f.at f s

-- the stages of a header change that are left
abbrev pub left_of_change : Change → ℕ
left_of_change Close = 3
left_of_change Write = 2
left_of_change (Open tried) = 1

-- how many stages are left until the flush ends, at each position
abbrev pub left_at : Position → Flush → ℕ
left_at Idle f = 0
left_at (Undoing from) f = (f.live - f.written) + 1 + 3 + f.pages + 1 + 3
left_at (Arming change) f = left_of_change change + f.pages + 1 + 3
left_at (Placing i) f = (f.pages - i) + 1 + 3
left_at (Committing change) f = left_of_change change

abbrev pub left : Flush → ℕ
left f = left_at f.at f

-- the flush that begins as a group was frozen, of so many pages, of which so many were live
abbrev pub begun_flush : Header → ℕ → ℕ → Flush → Flush
begun_flush target pages live f = record f { target = target; at = Undoing 0; pages = pages; live = live; written = 0 }

-- the position after the stage that is due was tried and failed: where it opens a gate, that was tried from then on
abbrev pub tried_change : Change → Change
tried_change Close = Close
tried_change Write = Write
tried_change (Open tried) = Open true

abbrev pub tried_at : Position → Position
tried_at Idle = Idle
tried_at (Undoing from) = Undoing from
tried_at (Arming change) = Arming (tried_change change)
tried_at (Placing i) = Placing i
tried_at (Committing change) = Committing (tried_change change)

abbrev pub tried : Flush → Flush
tried f = record f { at = tried_at f.at }

-- no flush is in flight, and this header counts, in this slot
abbrev pub idle_flush : Header → ℕ → Flush
idle_flush header slot = record { header = header; slot = slot; target = header; at = Idle; pages = 0; live = 0; written = 0 }

-- which stage of a header change is due
abbrev pub due_change : Position → Change
due_change Idle = Close
due_change (Undoing from) = Close
due_change (Arming change) = change
due_change (Placing i) = Close
due_change (Committing change) = change

-- whether the stage that is due ends the flush
abbrev pub is_last : Position → Bool
is_last Idle = false
is_last (Undoing from) = false
is_last (Arming change) = false
is_last (Placing i) = false
is_last (Committing Close) = false
is_last (Committing Write) = false
is_last (Committing (Open tried)) = true

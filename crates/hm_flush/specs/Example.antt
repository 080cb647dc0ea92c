-- A state at a position of a flush for which the guard holds. Without one a guard might be a contradiction.
use Rattle.std.specs.Prelude.{◌≡◌, ℕ, ◌+◌, ◌<◌, ◌≤◌, true, false, List, ◌∷◌, is_some, length, nat_eq}
use Rattle.std.specs.Set.{is_member}
use Rattle.hm_disk.specs.Crash.{Told}
use Rattle.hm_pages.specs.Sound.{IsSound}
use Rattle.hm_pages.specs.Store.{Store}
use Rattle.hm_flush.specs.declared.flush.Flush.{Flush}
use Rattle.hm_flush.specs.declared.flush.Position.{Position}
use Rattle.hm_flush.specs.declared.flush.Position.TheVariants.{Idle, Undoing, Arming, Placing, Committing}
use Rattle.hm_flush.specs.Calls.{IsFlushReady}
use Rattle.hm_flush.specs.Flush.{IsFlush}
use Rattle.hm_flush.specs.Guard.{Guards, IsGuarded}

-- a position that the flush of so many pages may have
abbrev pub IsPositionOf : ℕ → Position → Type 0
IsPositionOf pages Idle = Unit {0}
IsPositionOf pages (Undoing from) = from ≤ pages
IsPositionOf pages (Arming change) = Unit {0}
IsPositionOf pages (Placing i) = i ≤ pages
IsPositionOf pages (Committing change) = Unit {0}

-- A page of the group that is flushed: one that is frozen, or, where no flush is in flight, one that Freeze will take.
abbrev pub IsGroupPage : Position → Store → ℕ → Type 0
IsGroupPage Idle s at = (s.group.changed at ≡ true) × (is_some (s.current at) ≡ true)
IsGroupPage (Undoing from) s at = is_member nat_eq s.frozen_group at ≡ true
IsGroupPage (Arming change) s at = is_member nat_eq s.frozen_group at ≡ true
IsGroupPage (Placing i) s at = is_member nat_eq s.frozen_group at ≡ true
IsGroupPage (Committing change) s at = is_member nat_eq s.frozen_group at ≡ true

-- one page of the group was live as committed, and another one was not
pub record HasBothPages (p : Position) (s : Store) : Type 0 where
  pub live : (at : ℕ) × IsGroupPage p s at × (is_some (s.committed at) ≡ true)
  pub fresh : (at : ℕ) × IsGroupPage p s at × (is_some (s.committed at) ≡ false)

-- a range of the disk that no sync has settled, with no byte on which the guard hangs: that of a payload
pub record HasUnsettledPayload (bigblocks : ℕ) (s : Store) (t : Told) : Type 0 where
  pub place : ℕ
  pub count : ℕ
  pub some : 0 < count
  pub inside : place + count ≤ length t.bytes
  pub others : List (ℕ × ℕ)
  pub unsettled : t.unsettled ≡ (place, count) ∷ others
  pub beside : (byte : ℕ) → place ≤ byte → byte < place + count → ¬ IsGuarded bigblocks s byte

-- At this position there are a flush, a store of pages and a disk that a stage can be made of, and the committed pages are
-- guarded.
pub record GuardedAt (p : Position) : Type 0 where
  pub flush : Flush
  pub pages : Store
  pub disk : Told
  pub position : flush.at ≡ p
  pub sound : IsFlush flush × IsSound pages
  pub ready : IsFlushReady flush pages
  pub guards : Guards flush pages disk
  pub both : HasBothPages p pages
  pub payload : HasUnsettledPayload flush.header.bigblocks pages disk

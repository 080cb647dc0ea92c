-- What the steps of making a volume do to a disk.
use Rattle.std.specs.Prelude.{◌≡◌, ℕ, ◌≤◌, List, [], ◌∷◌, length}
use Rattle.hm_disk.specs.Crash.{Told, MayLeave, Outside}
use Rattle.hm_disk.specs.Moments.{Elapses, LeftSince}
use Rattle.hm_disk.specs.Transfer.{TornAll}
use Rattle.hm_header.specs.OnDisk.{first_slot, gate_place, second_slot}
use Rattle.hm_header.specs.Range.{HasRoom}
use Rattle.hm_header.specs.Slots.{IsClosed}
use Rattle.hm_newfs.specs.Contents.{HasContents}

-- a disk that tells this has room for so many big-blocks
abbrev pub HasSpace : ℕ → Told → Type 0
HasSpace bigblocks t = HasRoom (length t.bytes) bigblocks

-- a step wrote in a range, which now has this, and nowhere else
pub record Fills (Has : List ℕ → Type 0) (place count : ℕ) (old new : Told) : Type 0 where
  pub has : Has new.bytes
  pub others : TornAll place count old new

-- both gates are closed, so there is no volume
pub record AreGatesClosed (bytes : List ℕ) : Type 0 where
  pub first : IsClosed (first_slot bytes)
  pub second : IsClosed (second_slot bytes)

-- so they are whatever a crash leaves
pub record HasClosedGates (t : Told) : Type 0 where
  pub closed : AreGatesClosed t.bytes
  pub settled : (number : ℕ) → number ≤ 1 → Outside t.unsettled (gate_place number)

-- the first step closed both gates
pub record ClosesGates (old new : Told) : Type 0 where
  pub gates : HasClosedGates new
  pub size : length new.bytes ≡ length old.bytes

-- within it a crash leaves what one might have left before, but for the two gates
abbrev pub HasOldButGates : Told → List ℕ → Type 0
HasOldButGates old image = MayLeave old.bytes ((gate_place 0, 1) ∷ (gate_place 1, 1) ∷ old.unsettled) image

abbrev pub ClosingElapses : LeftSince → LeftSince → Told → Told → Type 0
ClosingElapses past since old new = Elapses (HasOldButGates old) past since old new

-- the second step wrote all but the gates, and nothing is unsettled
pub record WritesContents (bigblocks : ℕ) (old new : Told) : Type 0 where
  pub contents : HasContents bigblocks new.bytes
  pub closed : AreGatesClosed new.bytes
  pub settled : new.unsettled ≡ []
  pub size : length new.bytes ≡ length old.bytes

-- within it a crash leaves closed gates
abbrev pub ContentsElapse : LeftSince → LeftSince → Told → Told → Type 0
ContentsElapse past since old new = Elapses AreGatesClosed past since old new

-- What keeps the header slots keeps what a flush asks for.
use Rattle.std.proofs.Common.{◌≡◌, ◌↔◌, ℕ, ◌+◌, ◌-◌, ◌*◌, ◌<◌, ◌≤◌, false, List, length, refl, sym, ap, subst, arith}
use Rattle.hm_disk.specs.Crash.{Told, MayLeave}
use Rattle.hm_disk.proofs.CrashLemmas.{MayLeave-same}
use Rattle.hm_header.specs.declared.header.Header.{Header}
use Rattle.hm_header.specs.declared.header.TheConstants.{SLOT_BYTES}
use Rattle.hm_header.specs.Change.{AnyCrash, HasNextBody, HaveSameSlots, IsBodyWritten, IsClosedBeside, IsCounting}
use Rattle.hm_header.specs.Range.{HasRoom}
use Rattle.hm_header.proofs.HeaderLemmas.{header-same}
use Rattle.hm_header.proofs.KeptLemmas.{same-beside, same-counting, same-next, same-slots}
use Rattle.hm_flush.specs.declared.change.Change.{Change}
use Rattle.hm_flush.specs.declared.change.Change.TheVariants.{Close, Write, Open}
use Rattle.hm_flush.specs.declared.flush.Flush.{Flush}
use Rattle.hm_flush.specs.declared.flush.Position.{Position}
use Rattle.hm_flush.specs.declared.flush.Position.TheVariants.{Idle, Undoing, Arming, Placing, Committing}
use Rattle.hm_flush.specs.Calls.{FlushStands, HeaderStands, StandsForChange}
use Rattle.hm_flush.specs.Flush.{header_to_write, left_at, left_of_change}

-- the header that counts as reads give it
counts-still : (old new : Told) (header : Header) (slot : ℕ) → HaveSameSlots old new → IsCounting header slot old.bytes → IsCounting header slot new.bytes
counts-still old new header slot slots was =
    let same = same-slots old.bytes new.bytes slots.size (λ byte below inside. slots.bytes byte below) in
    header-same old.bytes new.bytes header slot slots.size same.first same.second was

-- a body that is written under a closed gate
written-still : (old new : Told) (header next : Header) (slot : ℕ) → HaveSameSlots old new → AnyCrash (IsBodyWritten header slot next) old
    → AnyCrash (IsBodyWritten header slot next) new
written-still old new header next slot slots was = λ image left. (
  same-beside old new header slot slots (λ i l. (was i l).0) image left,
  same-next old new header next slot slots (λ i l. (was i l).1) image left,
)

change-still : (change : Change) (f : Flush) (old new : Told) → HaveSameSlots old new → StandsForChange change f old → StandsForChange change f new
change-still Close f old new slots was = same-counting old new f.header f.slot slots was
change-still Write f old new slots was = same-beside old new f.header f.slot slots was
change-still (Open tried) f old new slots was = (
  same-next old new f.header (header_to_write f) f.slot slots was.0,
  λ first. written-still old new f.header (header_to_write f) f.slot slots (was.1 first),
)

header-still : (p : Position) (f : Flush) (old new : Told) → HaveSameSlots old new → HeaderStands p f old → HeaderStands p f new
header-still Idle f old new slots was = counts-still old new f.header f.slot slots was
header-still (Undoing from) f old new slots was = counts-still old new f.header f.slot slots was
header-still (Arming change) f old new slots was = change-still change f old new slots was
header-still (Placing i) f old new slots was = same-counting old new f.header f.slot slots was
header-still (Committing change) f old new slots was = change-still change f old new slots was

pub stands-still-there : (f : Flush) (old new : Told) → HaveSameSlots old new → FlushStands f old → FlushStands f new
stands-still-there f old new slots was = record {
  room = subst (λ (n : ℕ). HasRoom n f.header.bigblocks) (sym slots.size) was.room;
  header = header-still f.at f old new slots was.header;
}

-- a change of the header has a stage left
some-change : (change : Change) → 1 ≤ left_of_change change
some-change Close = omega arith
some-change Write = omega arith
some-change (Open tried) = omega arith

pub left-none : (p : Position) (f : Flush) → (left_at p f ≡ 0) ↔ (p ≡ Idle)
left-none Idle f = ((λ none. refl), (λ idle. refl))
left-none (Undoing from) f = ((λ none. absurd (omega (arith, none))), (λ idle. absurd (cc)))
left-none (Arming change) f = ((λ none. absurd (omega (arith, none))), (λ idle. absurd (cc)))
left-none (Placing i) f = ((λ none. absurd (omega (arith, none))), (λ idle. absurd (cc)))
left-none (Committing change) f = ((λ none. absurd (omega (arith, none, some-change change))), (λ idle. absurd (cc)))

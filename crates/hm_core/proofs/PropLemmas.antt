-- What always holds of a core says nothing but that it holds: each part is a proposition.
use Rattle.std.proofs.Common.{◌≢◌, ◌⊎◌, inl, inr, ℕ, zero, suc, ◌-◌, Bool, List, [], ◌∷◌, Option, None, Some, ap}
use Rattle.std.specs.Prelude.{IfSome}
use Rattle.std.specs.List.{AllByRecursion}
use Rattle.std.proofs.Props.{props}
use Rattle.hm_disk.specs.Crash.{Told}
use Rattle.hm_header.specs.Change.{AnyCrash, HasNextBody, HoldsHeader, IsBodyWritten, IsClosedBeside, IsCounting}
use Rattle.hm_header.specs.OnDisk.{HasHeader, first_slot, second_slot}
use Rattle.hm_header.specs.Range.{IsHeader}
use Rattle.hm_header.specs.Slots.{Counts}
use Rattle.hm_header.specs.declared.header.Header.{Header}
use Rattle.hm_flush.specs.declared.change.Change.{Change}
use Rattle.hm_flush.specs.declared.change.Change.TheVariants.{Close, Write, Open}
use Rattle.hm_flush.specs.declared.flush.Flush.{Flush}
use Rattle.hm_flush.specs.declared.flush.Position.{Position}
use Rattle.hm_flush.specs.declared.flush.Position.TheVariants.{Idle, Undoing, Arming, Placing, Committing}
use Rattle.hm_flush.specs.Calls.{FlushStands, HeaderStands, StandsForChange}
use Rattle.hm_flush.specs.Flush.{AreWritten, IsGroup, IsGroupAt, header_to_write}
use Rattle.hm_pages.specs.Store.{Store}
use Rattle.hm_stored.specs.Flushed.{IsFlushedBy}
use Rattle.hm_stored.specs.Heap.{Heap}

none_prop : (block : ℕ) (others : List ℕ) → IsProp (AllByRecursion (λ other. block ≢ other) others)
none_prop block [] = hlevel props
none_prop block (x ∷ xs) = hlevel (props, none_prop block xs)

pub header_prop : (header : Header) → IsProp (IsHeader header)
header_prop header = hlevel (props, none_prop)

counts_prop : (first second : List ℕ) (number : ℕ) → IsProp (Counts first second number)
counts_prop first second zero = hlevel props
counts_prop first second (suc zero) = hlevel props
counts_prop first second (suc (suc number)) = hlevel props

-- a header counts in one slot alone
one_slot : (first second : List ℕ) (number : ℕ) → Counts first second number → Counts first second (1 - number) → ⊥
one_slot first second zero mine theirs = mine.1 theirs.0 (theirs.1 mine.0)
one_slot first second (suc zero) mine theirs = theirs.1 mine.0 (mine.1 theirs.0)
one_slot first second (suc (suc number)) mine theirs = mine

either_prop : {A B : Type 0} → IsProp A → IsProp B → (A → B → ⊥) → IsProp (A ⊎ B)
either_prop p q apart (inl x) (inl y) = ap inl (p x y)
either_prop p q apart (inr x) (inr y) = ap inr (q x y)
either_prop p q apart (inl x) (inr y) = absurd (apart x y)
either_prop p q apart (inr x) (inl y) = absurd (apart y x)

module _ (header : Header) (slot : ℕ) (next : Header) where
  counting_prop : (bytes : List ℕ) → IsProp (IsCounting header slot bytes)
  counting_prop bytes = hlevel (props, counts_prop, header_prop)

  closed_prop : (bytes : List ℕ) → IsProp (IsClosedBeside header slot bytes)
  closed_prop bytes = hlevel (props, counts_prop, header_prop)

  held_prop : (bytes : List ℕ) → IsProp (HoldsHeader header slot bytes)
  held_prop bytes = hlevel (props, header_prop)

  which_prop : (bytes : List ℕ) → IsProp (HasHeader bytes header slot ⊎ HasHeader bytes next (1 - slot))
  which_prop bytes = either_prop (counting_prop bytes) (hlevel (props, counts_prop, header_prop))
      (λ mine theirs. one_slot (first_slot bytes) (second_slot bytes) slot mine.counts theirs.counts)

  body_prop : (bytes : List ℕ) → IsProp (HasNextBody header slot next bytes)
  body_prop bytes = hlevel (props, held_prop, which_prop)

  written_prop : (bytes : List ℕ) → IsProp (IsBodyWritten header slot next bytes)
  written_prop bytes = hlevel (closed_prop, body_prop)

crash_prop : (Has : List ℕ → Type 0) (t : Told) → ((bytes : List ℕ) → IsProp (Has bytes)) → IsProp (AnyCrash Has t)
crash_prop Has t each = hlevel (each)

change_prop : (change : Change) (f : Flush) (t : Told) → IsProp (StandsForChange change f t)
change_prop Close f t = crash_prop (IsCounting f.header f.slot) t (counting_prop f.header f.slot f.header)
change_prop Write f t = crash_prop (IsClosedBeside f.header f.slot) t (closed_prop f.header f.slot f.header)
change_prop (Open tried) f t = hlevel (
  crash_prop (HasNextBody f.header f.slot (header_to_write f)) t (body_prop f.header f.slot (header_to_write f)),
  crash_prop (IsBodyWritten f.header f.slot (header_to_write f)) t (written_prop f.header f.slot (header_to_write f)),
)

position_prop : (p : Position) (f : Flush) (t : Told) → IsProp (HeaderStands p f t)
position_prop Idle f t = counting_prop f.header f.slot f.header t.bytes
position_prop (Undoing from) f t = counting_prop f.header f.slot f.header t.bytes
position_prop (Arming change) f t = change_prop change f t
position_prop (Placing i) f t = crash_prop (IsCounting f.header f.slot) t (counting_prop f.header f.slot f.header)
position_prop (Committing change) f t = change_prop change f t

stands_prop : (f : Flush) (t : Told) → IsProp (FlushStands f t)
stands_prop f t = hlevel (props, position_prop)

told_prop : (o : Option Told) (f : Flush) → IsProp (IfSome o (FlushStands f))
told_prop None f = hlevel props
told_prop (Some t) f = stands_prop f t

count_prop : (p : Position) (was_live : ℕ → Bool) (f : Flush) → IsProp (AreWritten p was_live f)
count_prop Idle was_live f = hlevel props
count_prop (Undoing from) was_live f = hlevel props
count_prop (Arming change) was_live f = hlevel props
count_prop (Placing i) was_live f = hlevel props
count_prop (Committing change) was_live f = hlevel props

one_group_prop : (f : Flush) (s : Store) → IsProp (IsGroup f s)
one_group_prop f s = hlevel (props, count_prop)

group_prop : (p : Position) (f : Flush) (s : Store) → IsProp (IsGroupAt p f s)
group_prop Idle f s = hlevel props
group_prop (Undoing from) f s = one_group_prop f s
group_prop (Arming change) f s = one_group_prop f s
group_prop (Placing i) f s = one_group_prop f s
group_prop (Committing change) f s = one_group_prop f s

pub flushed_prop : (f : Flush) (h : Heap) → IsProp (IsFlushedBy f h)
flushed_prop f h = hlevel (props, told_prop, group_prop)

-- Which header counts, by what stands in the two slots.
use Rattle.std.proofs.Common.{◌≡◌, ℕ, zero, suc, ◌+◌, ◌-◌, ◌%◌, ◌^◌, ◌≤◌, List, [], ◌∷◌, ◌++◌, sym, ap, subst, ◌∙◌, arith, length, drop}
use Rattle.std.proofs.lemmas.List.{take_at}
use Rattle.hm_header.specs.declared.header.Header.{Header}
use Rattle.hm_header.specs.declared.header.TheConstants.{GATE_OPEN}
use Rattle.hm_header.specs.Change.{HoldsHeader, IsNext}
use Rattle.hm_header.specs.Layout.{body_of, header_in, zeros}
use Rattle.hm_header.specs.OnDisk.{HasHeader, HasSlots, first_slot, second_slot, slot_in}
use Rattle.hm_header.specs.Range.{HasRoom, IsHeader}
use Rattle.hm_header.specs.Slots.{Counts, Follows, IsChosen, IsClosed, SpellsHeader, TakesPart, slot_of}
use Rattle.hm_header.proofs.LayoutLemmas.{begins, header_back}
use Rattle.hm_header.proofs.SlotLemmas.{counts_takes_part, encoded_is_chosen, encoded_takes_part, last_counts, length-body}

-- a slot with the body of a header reads as this header
spelled-reads : (slot : List ℕ) (header : Header) → SpellsHeader slot header → IsHeader header → header_in slot ≡ header
spelled-reads slot header spelled is =
    ap header_in (begins slot header spelled) ∙ header_back header (zeros 16311 ++ drop 16383 slot) is

written-reads : (header : Header) → IsHeader header → header_in (body_of header ++ GATE_OPEN ∷ []) ≡ header
written-reads header is =
    spelled-reads (body_of header ++ GATE_OPEN ∷ []) header (take_at (body_of header) (GATE_OPEN ∷ []) 16383 (length-body header)) is

-- the slot that counts has its header under an open gate
pub header-held : (bytes : List ℕ) (header : Header) (number : ℕ) → HasHeader bytes header number → HoldsHeader header number bytes
header-held bytes header number chosen = record {
  part = counts_takes_part (first_slot bytes) (second_slot bytes) number chosen.counts;
  spelled = chosen.spelled;
  in_range = chosen.in_range;
  room = chosen.room;
}

-- and so has one that is as it was
pub held-kept : (old new : List ℕ) (header : Header) (number : ℕ) → length new ≡ length old → slot_in new number ≡ slot_in old number
    → HoldsHeader header number old → HoldsHeader header number new
held-kept old new header number size same held = record {
  part = subst TakesPart (sym same) held.part;
  spelled = subst (λ (s : List ℕ). SpellsHeader s header) (sym same) held.spelled;
  in_range = held.in_range;
  room = subst (λ (n : ℕ). HasRoom n header.bigblocks) (sym size) held.room;
}

-- it counts where the other one is closed
counts-beside-closed : (first second : List ℕ) (number : ℕ) → number ≤ 1 → TakesPart (slot_of first second number)
    → IsClosed (slot_of first second (1 - number)) → Counts first second number
counts-beside-closed first second zero small part closed = (part, λ other. absurd (closed other.open_gate))
counts-beside-closed first second (suc zero) small part closed = (part, λ other. absurd (closed other.open_gate))
counts-beside-closed first second (suc (suc number)) small part closed = absurd (omega (arith, small))

pub held-counts : (bytes : List ℕ) (header : Header) (number : ℕ) → number ≤ 1 → HoldsHeader header number bytes
    → IsClosed (slot_in bytes (1 - number)) → HasHeader bytes header number
held-counts bytes header number small held closed = record {
  counts = counts-beside-closed (first_slot bytes) (second_slot bytes) number small held.part closed;
  spelled = held.spelled;
  in_range = held.in_range;
  room = held.room;
}

-- a header counts still where its slot is as it was and the other one is closed
pub header-kept : (old new : List ℕ) (header : Header) (number : ℕ) → number ≤ 1 → length new ≡ length old
    → slot_in new number ≡ slot_in old number → IsClosed (slot_in new (1 - number)) → HasHeader old header number → HasHeader new header number
header-kept old new header number small size same closed chosen =
    held-counts new header number small (held-kept old new header number size same (header-held old header number chosen)) closed

-- a header counts still where both slots are as they were
pub header-same : (old new : List ℕ) (header : Header) (number : ℕ) → length new ≡ length old
    → slot_in new 0 ≡ slot_in old 0 → slot_in new 1 ≡ slot_in old 1 → HasHeader old header number → HasHeader new header number
header-same old new header number size first second chosen =
    subst (λ (n : ℕ). IsChosen (first_slot new) (second_slot new) n header number) (sym size)
    (subst (λ (s : List ℕ). IsChosen s (second_slot new) (length old) header number) (sym first)
    (subst (λ (s : List ℕ). IsChosen (first_slot old) s (length old) header number) (sym second) chosen))

-- the next header's slot follows that of the header that counts
next-follows : (slot : List ℕ) (header next : Header) → SpellsHeader slot header → IsHeader header → IsHeader next
    → next.generation ≡ (header.generation + 1) % 2 ^ 64 → Follows slot (body_of next ++ GATE_OPEN ∷ [])
next-follows slot header next spelled is is_next generation =
    ap (λ (h : Header). h.generation) (written-reads next is_next)
    ∙ (generation ∙ ap (λ (h : Header). (h.generation + 1) % 2 ^ 64) (sym (spelled-reads slot header spelled is)))

-- so it counts where its gate is open
next-counts : (first second : List ℕ) (header next : Header) (number : ℕ) → number ≤ 1 → IsHeader header → IsHeader next
    → next.generation ≡ (header.generation + 1) % 2 ^ 64 → TakesPart (slot_of first second number) → SpellsHeader (slot_of first second number) header
    → slot_of first second (1 - number) ≡ body_of next ++ GATE_OPEN ∷ [] → Counts first second (1 - number)
next-counts first second header next zero small is is_next generation part spelled written =
    let other : TakesPart second = subst TakesPart (sym written) (encoded_takes_part next) in
    let follows : Follows first second = subst (λ (s : List ℕ). Follows first s) (sym written) (next-follows first header next spelled is is_next generation) in
    (last_counts first second part other).0 follows
next-counts first second header next (suc zero) small is is_next generation part spelled written =
    let other : TakesPart first = subst TakesPart (sym written) (encoded_takes_part next) in
    let follows : Follows second first = subst (λ (s : List ℕ). Follows second s) (sym written)
    (next-follows second header next spelled is is_next generation) in
    (last_counts first second other part).1 follows
next-counts first second header next (suc (suc number)) small is is_next generation part spelled written = absurd (omega (arith, small))

pub next-header : (bytes : List ℕ) (header next : Header) (number : ℕ) → number ≤ 1 → IsHeader next → IsNext header next
    → HoldsHeader header number bytes → slot_in bytes (1 - number) ≡ body_of next ++ GATE_OPEN ∷ [] → HasHeader bytes next (1 - number)
next-header bytes header next number small is_next follows held written =
    let room : HasRoom (length bytes) next.bigblocks = subst (λ (n : ℕ). HasRoom (length bytes) n) (sym follows.bigblocks) held.room in
    encoded_is_chosen next (first_slot bytes) (second_slot bytes) (length bytes) (1 - number) is_next room
    (next-counts (first_slot bytes) (second_slot bytes) header next number small held.in_range is_next follows.generation held.part held.spelled written)
    written

-- a disk with a header has both slots
pub held-slots : (bytes : List ℕ) (header : Header) (number : ℕ) → HoldsHeader header number bytes → HasSlots bytes
held-slots bytes header number held = omega (arith, held.room, held.in_range.bigblocks.0)

pub header-slots : (bytes : List ℕ) (header : Header) (number : ℕ) → HasHeader bytes header number → HasSlots bytes
header-slots bytes header number chosen = omega (arith, chosen.room, chosen.in_range.bigblocks.0)

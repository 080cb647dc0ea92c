-- Which slot counts, and that each pair of slots has one answer.
use Rattle.std.proofs.Common.{◌≡◌, inl, inr, ℕ, zero, suc, ◌+◌, ◌%◌, ◌^◌, ◌<◌, List, [], ◌∷◌, ◌++◌, length, take, slice_index, refl, sym, ap, subst}
use Rattle.std.proofs.Common.{◌∙◌, lit<, arith, length-append, append_assoc}
use Rattle.std.proofs.lemmas.List.{get_or-append_right, get_or_past, take_at}
use Rattle.std.proofs.lemmas.Bool.{cases_lt}
use Rattle.hm_header.specs.declared.fault.HeaderFault.{HeaderFault}
use Rattle.hm_header.specs.declared.fault.HeaderFault.TheVariants.{NotVolume, BadField}
use Rattle.hm_header.specs.declared.header.Header.{Header}
use Rattle.hm_header.specs.declared.header.TheConstants.{GATE_OPEN}
use Rattle.hm_header.specs.Layout.{zeros, fields_of, body_of, header_in, signature}
use Rattle.hm_header.specs.Parts.{AreInRange, IsBadField, IsFirstBad, all_parts}
use Rattle.hm_header.specs.Range.{HasRoom, IsHeader}
use Rattle.hm_header.specs.Slots.{Counts, FirstCounts, Follows, IsChosen, IsClosed, IsFault, SecondCounts, SpellsHeader, TakesPart, slot_of}
use Rattle.hm_header.proofs.NumberLemmas.{length-zeros}
use Rattle.hm_header.proofs.LayoutLemmas.{body_is_one, body_read, length-fields}
use Rattle.hm_header.proofs.RangeLemmas.{bad_is_one, header_in_range, none_bad, spelled_in_range}

-- one slot counts
counts_is_one : (first second : List ℕ) (m n : ℕ) → Counts first second m → Counts first second n → m ≡ n
counts_is_one first second zero zero p q = refl
counts_is_one first second zero (suc zero) p q = absurd (p.1 q.0 (q.1 p.0))
counts_is_one first second zero (suc (suc n)) p q = absurd q
counts_is_one first second (suc zero) zero p q = absurd (q.1 p.0 (p.1 q.0))
counts_is_one first second (suc zero) (suc zero) p q = refl
counts_is_one first second (suc zero) (suc (suc n)) p q = absurd q
counts_is_one first second (suc (suc m)) n p q = absurd p

-- the slot that counts takes part
pub counts_takes_part : (first second : List ℕ) (n : ℕ) → Counts first second n → TakesPart (slot_of first second n)
counts_takes_part first second zero p = p.0
counts_takes_part first second (suc zero) p = p.0
counts_takes_part first second (suc (suc n)) p = absurd p

-- where no slot takes part, none counts
none_counts : (first second : List ℕ) (n : ℕ) → ¬ TakesPart first → ¬ TakesPart second → Counts first second n → ⊥
none_counts first second zero fails none p = fails p.0
none_counts first second (suc zero) fails none p = none p.0
none_counts first second (suc (suc n)) fails none p = p

-- no two numbers are each the next one after the other
not_both : (a b : ℕ) → b ≡ (a + 1) % 2 ^ 64 → a ≡ (b + 1) % 2 ^ 64 → ⊥
not_both a b next back = omega arith

pub last_counts : (first second : List ℕ) → TakesPart first → TakesPart second
    → (Follows first second → SecondCounts first second) × (Follows second first → FirstCounts first second)
last_counts first second p q = (
  (λ follows. (q, λ part. follows)),
  (λ back. (p, λ part follows. not_both (header_in first).generation (header_in second).generation follows back)),
)

-- one header is chosen
pub chosen_is_one : (first second : List ℕ) (size : ℕ) (a b : Header) (m n : ℕ)
    → IsChosen first second size a m → IsChosen first second size b n → (a ≡ b) × (m ≡ n)
chosen_is_one first second size a b m n p q =
    let number = counts_is_one first second m n p.counts q.counts in
    let P : ℕ → Type 0 = λ k. SpellsHeader (slot_of first second k) b in
    let other : SpellsHeader (slot_of first second m) b = subst P (sym number) q.spelled in
    (body_is_one a b p.in_range q.in_range (sym p.spelled ∙ other), number)

-- one fault is told
pub fault_is_one : (first second : List ℕ) (size : ℕ) (a b : HeaderFault)
    → IsFault first second size a → IsFault first second size b → a ≡ b
fault_is_one first second size NotVolume NotVolume p q = refl
fault_is_one first second size NotVolume (BadField place) p q = absurd (none_counts first second q.number p.0
    p.1 q.counts)
fault_is_one first second size (BadField place) NotVolume p q = absurd (none_counts first second p.number q.0
    q.1 p.counts)
fault_is_one first second size (BadField place) (BadField other) p q =
    let number = counts_is_one first second p.number q.number p.counts q.counts in
    let P : ℕ → Type 0 = λ k. IsFirstBad (slot_of first second k) size all_parts other in
    let bad : IsFirstBad (slot_of first second p.number) size all_parts other = subst P (sym number) q.bad in
    let make : ℕ → HeaderFault = λ n. BadField n in
    ap make (bad_is_one (slot_of first second p.number) size all_parts place other p.bad bad)

-- and none where a header is chosen
pub chosen_has_none : (first second : List ℕ) (size : ℕ) (header : Header) (number : ℕ) (fault : HeaderFault)
    → IsChosen first second size header number → IsFault first second size fault → ⊥
chosen_has_none first second size header number NotVolume p q = none_counts first second number q.0 q.1 p.counts
chosen_has_none first second size header number (BadField place) p q =
    let same = counts_is_one first second number q.number p.counts q.counts in
    let P : ℕ → Type 0 = λ k. IsFirstBad (slot_of first second k) size all_parts place in
    let bad : IsFirstBad (slot_of first second number) size all_parts place = subst P (sym same) q.bad in
    none_bad (slot_of first second number) size all_parts place
    (spelled_in_range (slot_of first second number) size header p.spelled p.in_range p.room) bad

-- a byte above 0 stands inside its list
inside : (xs : List ℕ) (k byte : ℕ) → slice_index xs k ≡ byte → 0 < byte → k < length xs
inside xs k byte here above =
    elim (cases_lt k (length xs)) [
      | inl lt ↦ lt
      | inr le ↦ absurd (omega (arith, get_or_past xs k 0 le, here))
    ]

-- a slot that takes part and is in range has the body of the header that is read from it
body_in_range : (slot : List ℕ) (size : ℕ) → ((k : ℕ) → slice_index slot k < 256) → TakesPart slot
    → AreInRange slot size all_parts → take 16383 slot ≡ body_of (header_in slot)
body_in_range slot size small part good =
    let long = inside slot 16383 0xA5 part.open_gate (lit< tt) in
    body_read slot small (omega (arith, long)) part.signed good.1.1.1.1.1.1.1.0 good.1.1.1.1.1.1.1.1.1.1.1.1.0

pub header_of_slot : (slot : List ℕ) (size : ℕ) → ((k : ℕ) → slice_index slot k < 256) → TakesPart slot
    → AreInRange slot size all_parts
    → (header : Header) × SpellsHeader slot header × IsHeader header × HasRoom size header.bigblocks
header_of_slot slot size small part good =
    (header_in slot, body_in_range slot size small part good, header_in_range slot size small good, good.1.0.1)

-- what was read from the slot that counts is chosen
chosen_at : (first second slot : List ℕ) (size : ℕ) (header : Header) (number : ℕ)
    → ((k : ℕ) → slice_index slot k < 256) → Counts first second number → slot ≡ slot_of first second number
    → header ≡ header_in slot → AreInRange slot size all_parts → TakesPart slot → IsChosen first second size
    header number
chosen_at first second slot size header number small counts here read good part =
    let is : IsHeader header = subst IsHeader (sym read) (header_in_range slot size small good) in
    let body : take 16383 slot ≡ body_of header = body_in_range slot size small part good ∙ ap body_of (sym
    read) in
    let P : List ℕ → Type 0 = λ s. SpellsHeader s header in
    let Q : Header → Type 0 = λ h. HasRoom size h.bigblocks in
    record { counts = counts; spelled = subst P here body; in_range = is; room = subst Q (sym read) good.1.0.1 }

small_of : (first second : List ℕ) (number : ℕ) → ((k : ℕ) → slice_index first k < 256)
    → ((k : ℕ) → slice_index second k < 256) → (k : ℕ) → slice_index (slot_of first second number) k < 256
small_of first second zero p q = p
small_of first second (suc number) p q = q

pub chosen_from : (first second slot : List ℕ) (size : ℕ) (header : Header) (number : ℕ)
    → ((k : ℕ) → slice_index first k < 256) → ((k : ℕ) → slice_index second k < 256) → Counts first second number
    → slot ≡ slot_of first second number → header ≡ header_in slot → AreInRange slot size all_parts
    → IsChosen first second size header number
chosen_from first second slot size header number p q counts here read good =
    let P : List ℕ → Type 0 = λ s. (k : ℕ) → slice_index s k < 256 in
    let small : (k : ℕ) → slice_index slot k < 256 = subst P (sym here) (small_of first second number p q) in
    let part : TakesPart slot = subst TakesPart (sym here) (counts_takes_part first second number counts) in
    chosen_at first second slot size header number small counts here read good part

-- a bad field of the slot that counts is a fault of the two slots
pub fault_from : (first second slot : List ℕ) (size number : ℕ) (fault : HeaderFault) → Counts first second number
    → slot ≡ slot_of first second number → IsBadField slot size all_parts fault → IsFault first second size fault
fault_from first second slot size number NotVolume counts here bad = absurd bad
fault_from first second slot size number (BadField place) counts here bad =
    let P : List ℕ → Type 0 = λ s. IsFirstBad s size all_parts place in
    record { number = number; counts = counts; bad = subst P here bad }

-- a body has all bytes but the gate
pub length-body : (header : Header) → length (body_of header) ≡ 16383
unfolding body_of
length-body header =
    omega (arith, length-append (fields_of header) (zeros 16311), length-fields header, length-zeros 16311)

begins_signed : (header : Header) (more : List ℕ) → take 8 (fields_of header ++ more) ≡ signature
unfolding fields_of
begins_signed header more = refl

-- a body under an open gate takes part
pub encoded_takes_part : (header : Header) → TakesPart (body_of header ++ GATE_OPEN ∷ [])
unfolding body_of
encoded_takes_part header =
    let gate : slice_index (body_of header ++ GATE_OPEN ∷ []) 16383 ≡ GATE_OPEN =
    get_or-append_right (body_of header) (GATE_OPEN ∷ []) 16383 16383 0 (length-body header) (omega arith) in
    record {
      open_gate = gate;
      signed = ap (λ (xs : List ℕ). take 8 xs) (append_assoc (fields_of header) (zeros 16311) (GATE_OPEN ∷ []))
          ∙ begins_signed header (zeros 16311 ++ GATE_OPEN ∷ []);
    }

pub encoded_is_chosen : (header : Header) (first second : List ℕ) (size number : ℕ) → IsHeader header
    → HasRoom size header.bigblocks → Counts first second number
    → slot_of first second number ≡ body_of header ++ GATE_OPEN ∷ [] → IsChosen first second size header number
encoded_is_chosen header first second size number is room counts here =
    record {
      counts = counts;
      spelled = ap (λ (xs : List ℕ). take 16383 xs) here ∙ take_at (body_of header) (GATE_OPEN ∷ []) 16383
          (length-body header);
      in_range = is;
      room = room;
    }

-- a closed slot may be any closed slot
first_counts : (first other second : List ℕ) (number : ℕ) → IsClosed first → IsClosed other
    → Counts first second number → Counts other second number
first_counts first other second zero p q counts = absurd (p counts.0.open_gate)
first_counts first other second (suc zero) p q counts = (counts.0, λ part. absurd (q part.open_gate))
first_counts first other second (suc (suc number)) p q counts = counts

second_counts : (first second other : List ℕ) (number : ℕ) → IsClosed second → IsClosed other
    → Counts first second number → Counts first other number
second_counts first second other zero p q counts = (counts.0, λ part. absurd (q part.open_gate))
second_counts first second other (suc zero) p q counts = absurd (p counts.0.open_gate)
second_counts first second other (suc (suc number)) p q counts = counts

-- the slot that counts is not the closed one
first_slot : (first other second : List ℕ) (number : ℕ) → IsClosed first → Counts first second number
    → slot_of first second number ≡ slot_of other second number
first_slot first other second zero p counts = absurd (p counts.0.open_gate)
first_slot first other second (suc number) p counts = refl

second_slot : (first second other : List ℕ) (number : ℕ) → IsClosed second → Counts first second number
    → slot_of first second number ≡ slot_of first other number
second_slot first second other zero p counts = refl
second_slot first second other (suc zero) p counts = absurd (p counts.0.open_gate)
second_slot first second other (suc (suc number)) p counts = absurd counts

closed_first_fault : (first other second : List ℕ) (size : ℕ) → IsClosed first → IsClosed other
    → (fault : HeaderFault) → IsFault first second size fault → IsFault other second size fault
closed_first_fault first other second size p q NotVolume fault = (λ part. q part.open_gate, fault.1)
closed_first_fault first other second size p q (BadField place) fault =
    let P : List ℕ → Type 0 = λ s. IsFirstBad s size all_parts place in
    record {
      number = fault.number;
      counts = first_counts first other second fault.number p q fault.counts;
      bad = subst P (first_slot first other second fault.number p fault.counts) fault.bad;
    }

closed_second_fault : (first second other : List ℕ) (size : ℕ) → IsClosed second → IsClosed other
    → (fault : HeaderFault) → IsFault first second size fault → IsFault first other size fault
closed_second_fault first second other size p q NotVolume fault = (fault.0, λ part. q part.open_gate)
closed_second_fault first second other size p q (BadField place) fault =
    let P : List ℕ → Type 0 = λ s. IsFirstBad s size all_parts place in
    record {
      number = fault.number;
      counts = second_counts first second other fault.number p q fault.counts;
      bad = subst P (second_slot first second other fault.number p fault.counts) fault.bad;
    }

pub closed_first : (first other second : List ℕ) (size : ℕ) → IsClosed first → IsClosed other
    → ((header : Header) (number : ℕ) → IsChosen first second size header number → IsChosen other second size
    header number)
    × ((fault : HeaderFault) → IsFault first second size fault → IsFault other second size fault)
closed_first first other second size p q = (
  (λ header number chosen.
      let P : List ℕ → Type 0 = λ s. SpellsHeader s header in
      record {
        counts = first_counts first other second number p q chosen.counts;
        spelled = subst P (first_slot first other second number p chosen.counts) chosen.spelled;
        in_range = chosen.in_range;
        room = chosen.room;
      }),
  closed_first_fault first other second size p q,
)

pub closed_second : (first second other : List ℕ) (size : ℕ) → IsClosed second → IsClosed other
    → ((header : Header) (number : ℕ) → IsChosen first second size header number → IsChosen first other size
    header number)
    × ((fault : HeaderFault) → IsFault first second size fault → IsFault first other size fault)
closed_second first second other size p q = (
  (λ header number chosen.
      let P : List ℕ → Type 0 = λ s. SpellsHeader s header in
      record {
        counts = second_counts first second other number p q chosen.counts;
        spelled = subst P (second_slot first second other number p chosen.counts) chosen.spelled;
        in_range = chosen.in_range;
        room = chosen.room;
      }),
  closed_second_fault first second other size p q,
)

-- What an image recovers to.
use Rattle.std.proofs.Common.{◌≡◌, ◌⊎◌, inl, inr, ⊎_elim, ℕ, zero, suc, ◌+◌, ◌-◌, ◌*◌, ◌<◌, ◌≤◌}
use Rattle.std.proofs.Common.{List, [], ◌∷◌, ◌++◌, refl, sym, ap, subst, ◌∙◌, arith, length, length-append, slice_range}
use Rattle.hm_disk.specs.Crash.{MayLeave, Outside}
use Rattle.hm_disk.proofs.OverwriteLemmas.{MayLeave-overwritten}
use Rattle.hm_header.specs.declared.header.Header.{Header}
use Rattle.hm_header.specs.declared.header.TheConstants.{GATE_OPEN, SLOT_BYTES}
use Rattle.hm_header.specs.Layout.{body_of}
use Rattle.hm_header.specs.OnDisk.{HasHeader, HasSlots, first_slot, second_slot, slot_in, slot_place}
use Rattle.hm_header.specs.Range.{IsHeader}
use Rattle.hm_header.specs.Slots.{Counts}
use Rattle.hm_header.proofs.HeaderLemmas.{header-held, header-slots, held-kept, next-header}
use Rattle.hm_header.proofs.KeptLemmas.{SameSlots, same-slots}
use Rattle.hm_header.proofs.OnDiskLemmas.{other-slot-kept, slot-range}
use Rattle.hm_header.proofs.SliceLemmas.{slice-kept, slice-overwritten}
use Rattle.hm_header.proofs.SlotLemmas.{chosen_is_one, length-body}
use Rattle.hm_undo.specs.Range.{Fit, HasRange, OldPage, old_places_of, put_back}
use Rattle.hm_undo.specs.Recovered.{IsRangeUndone, RecoversTo, recovered_header, with_slot}
use Rattle.hm_undo.proofs.LogLemmas.{page-past_slots}
use Rattle.hm_undo.proofs.PutBackLemmas.{put_back-leaves}
use Rattle.hm_undo.proofs.RangeLemmas.{HasEach, range-each, range-fits, range-is-one}

-- how an image recovers to another by the header of this slot
abbrev How : List ℕ → List ℕ → Header → ℕ → Type 0
How image result header slot = ((header.undo_count ≡ 0) × (result ≡ image)) ⊎ IsRangeUndone image header slot result

how-one : (image : List ℕ) (header : Header) (slot : ℕ) (a b : List ℕ) → How image a header slot → How image b header slot → a ≡ b
how-one image header slot a b (inl same) (inl same') = same.1 ∙ sym same'.1
how-one image header slot a b (inl same) (inr undone) = absurd (omega (arith, same.0, undone.some))
how-one image header slot a b (inr undone) (inl same) = absurd (omega (arith, same.0, undone.some))
how-one image header slot a b (inr undone) (inr undone') =
    undone.result_is
    ∙ (ap (λ (olds : List OldPage). with_slot (put_back image olds) (1 - slot) (recovered_header header))
    (range-is-one image header undone.olds undone'.olds undone.range undone'.range) ∙ sym undone'.result_is)

-- an image recovers to one image at most
pub recovery-is-one : (image a b : List ℕ) → RecoversTo image a → RecoversTo image b → a ≡ b
recovery-is-one image a b is is' =
    let same = chosen_is_one (first_slot image) (second_slot image) (length image) is.header is'.header is.slot is'.slot is.counts is'.counts in
    let how : How image b is.header is.slot =
    subst (λ (n : ℕ). How image b is.header n) (sym same.1) (subst (λ (h : Header). How image b h is'.slot) (sym same.0) is'.how) in
    how-one image is.header is.slot a b is.how how

-- the slot that counts is one of two
counts-small : (first second : List ℕ) (number : ℕ) → Counts first second number → number ≤ 1
counts-small first second zero counts = omega arith
counts-small first second (suc zero) counts = omega arith
counts-small first second (suc (suc number)) counts = absurd counts

-- the pages of a range lie past the slots
pub past-slots : (image : List ℕ) (header : Header) (olds : List OldPage) → HasEach image header olds → (byte : ℕ) → byte < 2 * SLOT_BYTES
    → Outside (old_places_of olds) byte
past-slots image header [] each byte below = tt
past-slots image header (old ∷ olds) each byte below = (
  inl (let here = page-past_slots header.bigblocks old.at (each 0).1.page in omega (arith, here, below)),
  past-slots image header olds (λ i. each (suc i)) byte below,
)

-- the next header is one
next-in-range : (header : Header) → IsHeader header → IsHeader (recovered_header header)
next-in-range header is = record {
  version = is.version;
  bigblocks = is.bigblocks;
  generation = omega arith;
  last = is.last;
  root = is.root;
  undo_first = is.undo_first;
  undo_count = omega arith;
  undo_next = is.undo_next;
  four = is.four;
  append = is.append;
}

length-with_gate : (header : Header) → length (body_of header ++ GATE_OPEN ∷ []) ≡ 16384
length-with_gate header = omega (arith, length-append (body_of header) (GATE_OPEN ∷ []), length-body header)

-- the slot that was written last
slot-written : (image : List ℕ) (number : ℕ) (header : Header) → number ≤ 1 → HasSlots image
    → slot_in (with_slot image number header) number ≡ body_of header ++ GATE_OPEN ∷ []
slot-written image number header small both =
    let bytes = body_of header ++ GATE_OPEN ∷ [] in
    let sized : length bytes ≡ 16384 = length-with_gate header in
    slot-range number (with_slot image number header) small
    ∙ (ap (λ (n : ℕ). slice_range (with_slot image number header) (slot_place number) (slot_place number + n)) (sym sized)
    ∙ slice-overwritten image (slot_place number) bytes (omega (arith, sized, small, both)))

module _ (image : List ℕ) (header : Header) (slot : ℕ) (counts : HasHeader image header slot) (olds : List OldPage)
    (range : HasRange image header olds) where
  both : HasSlots image
  both = header-slots image header slot counts

  small : slot ≤ 1
  small = counts-small (first_slot image) (second_slot image) slot counts.counts

  -- the pages lie inside the image
  pub pages-fit : Fit (length image) olds
  pages-fit = range-fits image header olds counts.in_range.bigblocks counts.room (range-each image header olds range)

  abbrev pub back : List ℕ
  back = put_back image olds

  abbrev pub result : List ℕ
  result = with_slot back (1 - slot) (recovered_header header)

  back-leaves : MayLeave image (old_places_of olds) back
  back-leaves = put_back-leaves image olds pages-fit

  slot-leaves : MayLeave back ((slot_place (1 - slot), SLOT_BYTES) ∷ []) result
  slot-leaves =
      MayLeave-overwritten back (slot_place (1 - slot)) SLOT_BYTES (body_of (recovered_header header) ++ GATE_OPEN ∷ [])
      (omega (arith, length-with_gate (recovered_header header))) (omega (arith, back-leaves.size, both))

  -- each byte outside the pages and the slot that is written is as before
  pub undone-leaves : MayLeave image ((slot_place (1 - slot), SLOT_BYTES) ∷ old_places_of olds) result
  undone-leaves = record {
    size = slot-leaves.size ∙ back-leaves.size;
    same = λ byte below outside. slot-leaves.same byte (omega (arith, below, back-leaves.size)) (outside.0, tt) ∙ back-leaves.same byte below outside.1;
  }

  kept-slot : slot_in result slot ≡ slot_in image slot
  kept-slot =
      other-slot-kept slot back result (slot_place (1 - slot)) SLOT_BYTES small (omega arith) (omega arith) slot-leaves
      ∙ either slot small
    where
      same : SameSlots image back
      same = same-slots image back back-leaves.size
          (λ byte below inside. back-leaves.same byte inside (past-slots image header olds (range-each image header olds range) byte below))

      either : (number : ℕ) → number ≤ 1 → slot_in back number ≡ slot_in image number
      either zero low = same.first
      either (suc number) low = same.second

  -- what lies past the slots stands as it was put back
  pub undone-past : (from to : ℕ) → 2 * SLOT_BYTES ≤ from → slice_range result from to ≡ slice_range back from to
  undone-past from to past = slice-kept back result (slot_place (1 - slot)) SLOT_BYTES from to (inr (omega (arith, past))) slot-leaves

  -- the next header counts, in the other slot
  pub undone-counts : HasHeader result (recovered_header header) (1 - slot)
  undone-counts =
      next-header result header (recovered_header header) slot small (next-in-range header counts.in_range) (record { bigblocks = refl; generation = refl })
      (held-kept image result header slot undone-leaves.size kept-slot (header-held image header slot counts))
      (slot-written back (1 - slot) (recovered_header header) (omega arith) (omega (arith, back-leaves.size, both)))

-- what was recovered recovers to itself
pub recovered-again : (image result : List ℕ) → RecoversTo image result → RecoversTo result result
recovered-again image result is = ⊎_elim itself undone is.how
  where
    itself : (is.header.undo_count ≡ 0) × (result ≡ image) → RecoversTo result result
    itself same = record {
      header = is.header;
      slot = is.slot;
      counts = subst (λ (bytes : List ℕ). HasHeader bytes is.header is.slot) (sym same.1) is.counts;
      how = inl (same.0, refl);
    }

    undone : IsRangeUndone image is.header is.slot result → RecoversTo result result
    undone u = record {
      header = recovered_header is.header;
      slot = 1 - is.slot;
      counts = subst (λ (bytes : List ℕ). HasHeader bytes (recovered_header is.header) (1 - is.slot)) (sym u.result_is)
          (undone-counts image is.header is.slot is.counts u.olds u.range);
      how = inl (refl, refl);
    }

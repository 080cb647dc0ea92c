-- Disks on which a guard holds.
use Rattle.std.proofs.Common.{◌≡◌, inl, inr, ℕ, ◌+◌, ◌-◌, ◌*◌, ◌≤◌, List, [], ◌∷◌, ◌++◌, length, length-append, get_or, sym, ◌∙◌, ap, subst, arith}
use Rattle.std.proofs.Common.{replicate, slice_index, slice_range}
use Rattle.std.proofs.lemmas.List.{length-replicate, get_or-replicate}
use Rattle.hm_types.specs.declared.limits.TheConstants.{BIGBLOCK_BYTES, PAGE_BYTES}
use Rattle.hm_types.specs.Offset.{byte_of}
use Rattle.hm_disk.specs.Crash.{Told}
use Rattle.hm_disk.specs.Disk.{overwritten}
use Rattle.hm_disk.proofs.OverwriteLemmas.{get_or-overwritten_out, length-overwritten}
use Rattle.hm_header.specs.declared.header.Header.{Header}
use Rattle.hm_header.specs.declared.header.TheConstants.{GATE_OPEN, GATE_PLACE, SLOT_BYTES}
use Rattle.hm_header.specs.Change.{IsCounting}
use Rattle.hm_header.specs.Layout.{body_of}
use Rattle.hm_header.specs.OnDisk.{HasHeader, first_slot, second_slot, slot_in, slot_place}
use Rattle.hm_header.specs.Range.{IsHeader}
use Rattle.hm_header.specs.Slots.{TakesPart}
use Rattle.hm_header.proofs.ChangeLemmas.{settled-any}
use Rattle.hm_header.proofs.OnDiskLemmas.{slot-byte, slot-range}
use Rattle.hm_header.proofs.SliceLemmas.{slice-overwritten}
use Rattle.hm_header.proofs.SlotLemmas.{encoded_is_chosen, encoded_takes_part, length-body}
use Rattle.hm_pages.specs.Store.{Store}
use Rattle.hm_undo.specs.Entry.{IsUndoPageOf}
use Rattle.hm_undo.specs.Recovered.{with_slot}
use Rattle.hm_undo.proofs.LogLemmas.{page-past_slots, page-within}
use Rattle.hm_flush.specs.declared.flush.Position.TheVariants.{Idle}
use Rattle.hm_flush.specs.Flush.{idle_flush}
use Rattle.hm_flush.specs.Guard.{ArePlaced, Guards, guarded_at}
use Rattle.hm_flush.specs.Recoverable.{HoldsPages}
use Rattle.hm_flush.proofs.PageLemmas.{page-same, page-written}

-- where a header counts that names no range, on a disk that is settled
pub settled-guarded : (header : Header) (slot : ℕ) (s : Store) (t : Told) → IsCounting header slot t.bytes → header.undo_count ≡ 0
    → ArePlaced header.bigblocks s.committed → ArePlaced header.bigblocks s.frozen → HoldsPages s.committed t.bytes → t.unsettled ≡ []
    → Guards (idle_flush header slot) s t
settled-guarded header slot s t counts none committed frozen holds settled = record {
  stands = record { room = counts.room; header = counts };
  committed = committed;
  frozen = frozen;
  unarmed = none;
  crash = settled-any (guarded_at Idle (idle_flush header slot) s) t settled (counts, holds);
  read = tt;
}

module _ (header : Header) (page : List ℕ) (is : IsHeader header) (sized : length page ≡ PAGE_BYTES) where
  -- zeros, with the page where the root belongs, and the header in the first slot
  abbrev blank : List ℕ
  blank = replicate (header.bigblocks * BIGBLOCK_BYTES) 0

  abbrev based : List ℕ
  based = overwritten blank (byte_of header.root) page

  abbrev slot-bytes : List ℕ
  slot-bytes = body_of header ++ GATE_OPEN ∷ []

  abbrev pub made-up : List ℕ
  made-up = with_slot based 0 header

  root : IsUndoPageOf header.bigblocks header.root
  root = record { volume = is.root.volume; page = is.root.page; zone = inl (is.root.zone, is.root.pool) }

  long : length blank ≡ header.bigblocks * BIGBLOCK_BYTES
  long = length-replicate (header.bigblocks * BIGBLOCK_BYTES) 0

  inside : byte_of header.root + PAGE_BYTES ≤ length blank
  inside = omega (arith, long, page-within header.bigblocks header.root is.bigblocks root)

  past : 2 * SLOT_BYTES ≤ byte_of header.root
  past = page-past_slots header.bigblocks header.root root

  based-long : length based ≡ length blank
  based-long = length-overwritten blank (byte_of header.root) page (omega (arith, inside, sized))

  slot-long : length slot-bytes ≡ SLOT_BYTES
  slot-long = omega (arith, length-append (body_of header) (GATE_OPEN ∷ []), length-body header)

  slot-fits : slot_place 0 + length slot-bytes ≤ length based
  slot-fits = omega (arith, slot-long, based-long, inside, past)

  made-long : length made-up ≡ length based
  made-long = length-overwritten based (slot_place 0) slot-bytes slot-fits

  first : first_slot made-up ≡ slot-bytes
  first =
      slot-range 0 made-up (omega arith)
      ∙ (ap (λ (n : ℕ). slice_range made-up (slot_place 0) (slot_place 0 + n)) (sym slot-long) ∙ slice-overwritten based (slot_place 0) slot-bytes slot-fits)

  gate : get_or made-up 32767 0 ≡ 0
  gate =
      get_or-overwritten_out based (slot_place 0) slot-bytes 32767 slot-fits (omega (arith, based-long, inside, past)) (inr (omega (arith, slot-long)))
      ∙ (get_or-overwritten_out blank (byte_of header.root) page 32767 (omega (arith, inside, sized)) (omega (arith, inside, past)) (inl (omega (arith, past)))
      ∙ get_or-replicate (header.bigblocks * BIGBLOCK_BYTES) 32767 0 0 (omega (arith, long, inside, past)))

  second : TakesPart (second_slot made-up) → ⊥
  second takes =
      let here : slice_index (slot_in made-up 1) GATE_PLACE ≡ slice_index made-up (slot_place 1 + 16383) =
      slot-byte 1 made-up 16383 (omega arith) (omega arith) in
      absurd (omega (arith, here, gate, takes.open_gate))

  pub counts : HasHeader made-up header 0
  counts =
      encoded_is_chosen header (first_slot made-up) (second_slot made-up) (length made-up) 0 is (omega (arith, made-long, based-long, long))
      (subst TakesPart (sym first) (encoded_takes_part header), λ takes. absurd (second takes)) first

  pub root-stands : slice_range made-up (byte_of header.root) (byte_of header.root + PAGE_BYTES) ≡ page
  root-stands =
      page-same based made-up header.root page made-long
      (λ byte within below.
      get_or-overwritten_out based (slot_place 0) slot-bytes byte slot-fits below (inr (omega (arith, within, past, slot-long))))
      (page-written blank header.root page sized inside)

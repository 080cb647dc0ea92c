-- A header in range, and on its volume a second page of the tree, and room for a payload.
use Rattle.std.proofs.Common.{inl, ℕ, zero, suc, ◌+◌, ◌<◌, [], ◌∷◌, replicate, refl, arith}
use Rattle.std.proofs.lemmas.List.{length-replicate}
use Rattle.hm_types.specs.declared.limits.TheConstants.{BLOCK_BYTES, PAGE_BYTES}
use Rattle.hm_types.specs.declared.zone.TheConstants.{TREE_ZONE}
use Rattle.hm_types.specs.Layout.{start_of}
use Rattle.hm_types.specs.Offset.{raw_of}
use Rattle.hm_header.specs.declared.header.Header.{Header}
use Rattle.hm_header.specs.declared.header.TheConstants.{VERSION}
use Rattle.hm_header.specs.Range.{IsAppendAt, IsHeader}
use Rattle.hm_undo.specs.Entry.{IsUndoPageOf}
use Rattle.hm_flush.specs.declared.flush.Position.{Position}
use Rattle.hm_flush.specs.Example.{GuardedAt, IsPositionOf}
use Rattle.hm_flush.proofs.PositionLemmas.{guarded-at}

-- the smallest volume: its pool begins at big-block 11, and the root is the first page there
abbrev some_header : Header
some_header = record {
  version = VERSION;
  bigblocks = 24;
  generation = 1;
  last = record { 0 = 1 };
  root = raw_of TREE_ZONE (start_of 11);
  undo_first = 0;
  undo_count = 0;
  undo_next = 0;
  append = 11 ∷ 12 ∷ 13 ∷ 14 ∷ [];
}

append-is : (k : ℕ) → k < 4 → IsAppendAt some_header k
append-is zero few = (omega arith, tt)
append-is (suc zero) few = (omega arith, (λ same. omega arith, tt))
append-is (suc (suc zero)) few = (omega arith, (λ same. omega arith, (λ same. omega arith, tt)))
append-is (suc (suc (suc zero))) few = (omega arith, (λ same. omega arith, (λ same. omega arith, (λ same. omega arith, tt))))
append-is (suc (suc (suc (suc k)))) few = absurd (omega (arith, few))

header-is : IsHeader some_header
header-is = record {
  version = refl;
  bigblocks = omega arith;
  generation = omega arith;
  last = (omega arith, omega arith);
  root = record { zone = omega arith; volume = omega arith; pool = omega arith; page = omega arith };
  undo_first = omega arith;
  undo_count = omega arith;
  undo_next = omega arith;
  four = refl;
  append = append-is;
}

-- the page after the root
abbrev other : ℕ
other = raw_of TREE_ZONE (start_of 11 + PAGE_BYTES)

other-is : IsUndoPageOf 24 other
other-is = record { volume = omega arith; page = omega arith; zone = inl (omega arith, omega arith) }

-- a payload in the next big-block
pub some-guarded : (p : Position) → IsPositionOf 2 p → GuardedAt p
some-guarded p fits =
    guarded-at some_header other (replicate PAGE_BYTES 0) (replicate PAGE_BYTES 1) (replicate PAGE_BYTES 2) header-is refl other-is (omega arith)
    (length-replicate {A = ℕ} PAGE_BYTES 0) (length-replicate {A = ℕ} PAGE_BYTES 1) (length-replicate {A = ℕ} PAGE_BYTES 2) (start_of 12) BLOCK_BYTES
    (omega arith) (omega arith)
    (omega arith) (inl (omega arith)) (inl (omega arith)) p fits

-- The header of a fresh volume counts.
use Rattle.std.proofs.Common.{ℕ, zero, suc, ◌^◌, ◌<◌, List, refl, sym, subst, arith}
use Rattle.std.specs.Prelude.{length}
use Rattle.hm_types.specs.Layout.{first_pool, start_of}
use Rattle.hm_types.specs.declared.zone.TheConstants.{TREE_ZONE}
use Rattle.hm_header.specs.Range.{IsAppendAt, IsHeader, IsRoot, IsSize}
use Rattle.hm_header.specs.Slots.{FirstCounts, TakesPart}
use Rattle.hm_header.proofs.SlotLemmas.{encoded_is_chosen, encoded_takes_part}
use Rattle.hm_image.specs.Fresh.{IsFresh, fresh_header, root_at}
use Rattle.hm_header.specs.OnDisk.{HasHeader, first_slot, second_slot}
use Rattle.hm_image.proofs.OffsetLemmas.{byte_is, pool_is, volume_is, zone_is}

root_is : (bigblocks : ℕ) → IsSize bigblocks → IsRoot bigblocks (root_at bigblocks)
root_is bigblocks size =
    let pool = pool_is bigblocks size in
    let few : start_of (first_pool bigblocks) < 2 ^ 52 = omega arith in
    let byte = byte_is TREE_ZONE (start_of (first_pool bigblocks)) few in
    record {
      zone = zone_is TREE_ZONE (start_of (first_pool bigblocks)) few;
      volume = volume_is TREE_ZONE (start_of (first_pool bigblocks)) few;
      pool = omega arith;
      page = omega arith;
    }

append_is : (bigblocks : ℕ) → IsSize bigblocks → (k : ℕ) → k < 4 → IsAppendAt (fresh_header bigblocks) k
append_is bigblocks size zero few = let pool = pool_is bigblocks size in (omega arith, tt)
append_is bigblocks size (suc zero) few = let pool = pool_is bigblocks size in (omega arith, (λ same. omega arith, tt))
append_is bigblocks size (suc (suc zero)) few =
    let pool = pool_is bigblocks size in
    (omega arith, (λ same. omega arith, (λ same. omega arith, tt)))
append_is bigblocks size (suc (suc (suc zero))) few =
    let pool = pool_is bigblocks size in
    (omega arith, (λ same. omega arith, (λ same. omega arith, (λ same. omega arith, tt))))
append_is bigblocks size (suc (suc (suc (suc k)))) few = absurd (omega arith)

-- its fields are in range
pub fresh_header_is : (bigblocks : ℕ) → IsSize bigblocks → IsHeader (fresh_header bigblocks)
fresh_header_is bigblocks size = record {
  version = refl;
  bigblocks = size;
  generation = omega arith;
  last = (omega arith, omega arith);
  root = root_is bigblocks size;
  undo_first = omega arith;
  undo_count = omega arith;
  undo_next = omega arith;
  four = refl;
  append = append_is bigblocks size;
}

-- it stands in the first slot, and the second is closed
pub fresh_counts : (bigblocks : ℕ) (image : List ℕ) → IsSize bigblocks → IsFresh bigblocks image
    → HasHeader image (fresh_header bigblocks) 0
fresh_counts bigblocks image size fresh =
    let part : TakesPart (first_slot image) = subst TakesPart (sym fresh.first) (encoded_takes_part (fresh_header bigblocks)) in
    let counts : FirstCounts (first_slot image) (second_slot image) = (part, λ other. absurd (fresh.second other.open_gate)) in
    encoded_is_chosen (fresh_header bigblocks) (first_slot image) (second_slot image) (length image) 0
    (fresh_header_is bigblocks size) fresh.size counts fresh.first

-- Entries of layer 2 for big-blocks past the end of the volume.
use Rattle.std.proofs.Common.{ℕ, ◌<◌, ◌≤◌, List, inr, ap, arith}
use Rattle.std.specs.Int.{w32, cast_signed}
use Rattle.hm_types.specs.Layout.{first_pool}
use Rattle.hm_freemap.specs.Entry.{entry_in}
use Rattle.hm_freemap.specs.Places.{place_of}
use Rattle.hm_header.specs.Range.{IsHeader}
use Rattle.hm_header.specs.declared.header.Header.{Header}
use Rattle.hm_load.specs.Freemap.{HoldsEntryOf, IsPastEntry}

-- the entry of such a big-block is one that may be there
pub past_entry : (header : Header) → IsHeader header → (block : ℕ) → header.bigblocks ≤ block → (page : List ℕ) → IsPastEntry page (place_of block)
    → HoldsEntryOf header block page
unfolding entry_in
past_entry header range block past page is = record {
  entry = record {
    entry = inr (record { zone = inr (inr (inr is.zone)); append = is.append; free = ap (λ (n : ℕ). cast_signed w32 n) is.free });
    headers = λ none. absurd (omega (arith, none, past, pool));
    freemap = λ some low. absurd (omega (arith, low, past, pool));
    undo = λ from low. absurd (omega (arith, low, past, pool));
    pool = λ inside. absurd (omega (arith, inside.1, past));
    past = λ from some. is.zone;
  };
  zero = is.zero;
  appended = λ k low same. absurd (let of_pool = (range.append k low).0 in omega (arith, of_pool.1, same, past));
} where
  pool : first_pool header.bigblocks < header.bigblocks
  pool = let first = (range.append 0 (omega arith)).0 in omega (arith, first.0, first.1)

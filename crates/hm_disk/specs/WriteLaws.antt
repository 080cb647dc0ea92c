-- What a crash leaves after a write, and what it might have left before.
use Rattle.std.specs.Prelude.{◌≡◌, ◌⊎◌, ℕ, ◌+◌, ◌<◌, ◌≤◌, List, [], ◌∷◌, length, get_or}
use Rattle.std.proofs.Common.{inl, inr, sym, ◌∙◌, arith}
use Rattle.std.proofs.lemmas.List.{places}
use Rattle.hm_disk.specs.Crash.{MayLeave}
use Rattle.hm_disk.specs.Disk.{overwritten}

-- a byte that is not overwritten
pub get_or-overwritten_out : (old : List ℕ) (place : ℕ) (bytes : List ℕ) (byte : ℕ) → place + length bytes ≤ length old → byte < length old
    → (byte < place) ⊎ (place + length bytes ≤ byte) → get_or (overwritten old place bytes) byte 0 ≡ get_or old byte 0
get_or-overwritten_out old place bytes byte within below (inl low) = grind (arith, places)
get_or-overwritten_out old place bytes byte within below (inr high) = grind (arith, places)

pub length-overwritten : (old : List ℕ) (place : ℕ) (bytes : List ℕ) → place + length bytes ≤ length old → length (overwritten old place bytes) ≡ length old
length-overwritten old place bytes within = grind (arith, places)

-- a front of a range is overwritten
pub MayLeave-overwritten : (old : List ℕ) (place count : ℕ) (bytes : List ℕ) → length bytes ≤ count → place + count ≤ length old
    → MayLeave old ((place, count) ∷ []) (overwritten old place bytes)
MayLeave-overwritten old place count bytes front within = record {
  size = length-overwritten old place bytes (omega arith);
  same = λ byte below outside. get_or-overwritten_out old place bytes byte (omega arith) below (apart byte outside.0);
}
  where
    apart : (byte : ℕ) → (byte < place) ⊎ (place + count ≤ byte) → (byte < place) ⊎ (place + length bytes ≤ byte)
    apart byte (inl low) = inl low
    apart byte (inr high) = inr (omega arith)

-- What a crash might have left before a range is written, it still may leave.
pub MayLeave-added : (old new image : List ℕ) (range : ℕ × ℕ) (unsettled : List (ℕ × ℕ)) → MayLeave old (range ∷ []) new
    → MayLeave old unsettled image → MayLeave new (range ∷ unsettled) image
MayLeave-added old new image range unsettled change left = record {
  size = left.size ∙ sym change.size;
  same = λ byte below outside. left.same byte (omega (arith, change.size)) outside.1 ∙ sym (change.same byte (omega (arith, change.size)) (outside.0, tt));
}

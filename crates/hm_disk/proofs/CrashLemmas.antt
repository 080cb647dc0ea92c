-- Which images a crash may leave.
use Rattle.std.proofs.Common.{◌≡◌, ◌⊎◌, inl, inr, ℕ, ◌+◌, ◌<◌, ◌≤◌, true, ◌||◌, List, [], ◌∷◌, refl, sym, ◌∙◌, subst, arith, length}
use Rattle.std.specs.Prelude.{nat_le, nat_lt}
use Rattle.std.proofs.lemmas.Bool.{and_from, and_parts, le-leb, leb-true, lt-ltb, ltb-true, or_cases, or_left, or_right}
use Rattle.std.proofs.lemmas.List.{ext_get_or}
use Rattle.hm_disk.specs.Crash.{Told, Outside, MayLeave, is_outside}
use Rattle.hm_disk.specs.Disk.{MayBeTorn, Written}
use Rattle.hm_disk.specs.Moments.{Each}
use Rattle.hm_disk.specs.WriteLaws.{MayLeave-added, MayLeave-overwritten}

-- The test whether a byte lies outside is exact.
pub is_outside-from : (ranges : List (ℕ × ℕ)) (byte : ℕ) → Outside ranges byte → is_outside ranges byte ≡ true
is_outside-from [] byte outside = refl
is_outside-from (range ∷ ranges) byte outside =
    and_from _ _ (apart outside.0) (is_outside-from ranges byte outside.1) where
      apart : (byte < range.0) ⊎ (range.0 + range.1 ≤ byte) → (nat_lt byte range.0 || nat_le (range.0 + range.1) byte) ≡ true
      apart (inl low) = or_left _ _ (lt-ltb _ _ low)
      apart (inr past) = or_right _ _ (le-leb _ _ past)

pub is_outside-is : (ranges : List (ℕ × ℕ)) (byte : ℕ) → is_outside ranges byte ≡ true → Outside ranges byte
is_outside-is [] byte outside = tt
is_outside-is (range ∷ ranges) byte outside =
    let both = and_parts _ _ outside in (apart (or_cases _ _ both.0), is_outside-is ranges byte both.1) where
      apart : (nat_lt byte range.0 ≡ true) ⊎ (nat_le (range.0 + range.1) byte ≡ true) → (byte < range.0) ⊎ (range.0 + range.1 ≤ byte)
      apart (inl low) = inl (ltb-true _ _ low)
      apart (inr past) = inr (leb-true _ _ past)

-- the bytes themselves
pub MayLeave-same : (bytes : List ℕ) (unsettled : List (ℕ × ℕ)) → MayLeave bytes unsettled bytes
MayLeave-same bytes unsettled = record { size = refl; same = λ byte below outside. refl }

-- nothing but the bytes, where all is settled
pub MayLeave-settled : (bytes image : List ℕ) → MayLeave bytes [] image → image ≡ bytes
MayLeave-settled bytes image left =
    ext_get_or 0 image bytes left.size (λ byte below. left.same byte (omega (arith, left.size)) tt)

-- Bytes that agree outside some ranges leave no other images, where all that was unsettled and these
-- ranges are.
pub MayLeave-through : (old new image : List ℕ) (ranges unsettled : List (ℕ × ℕ))
    → MayLeave old ranges new → ((byte : ℕ) → Outside ranges byte → Outside unsettled byte)
    → MayLeave new unsettled image → MayLeave old ranges image
MayLeave-through old new image ranges unsettled change fewer left = record {
  size = left.size ∙ change.size;
  same = λ byte below outside.
      left.same byte (omega (arith, change.size)) (fewer byte outside) ∙ change.same byte below outside;
}

-- fewer ranges leave no other images
pub MayLeave-fewer : (bytes image : List ℕ) (ranges unsettled : List (ℕ × ℕ))
    → ((byte : ℕ) → Outside ranges byte → Outside unsettled byte)
    → MayLeave bytes unsettled image → MayLeave bytes ranges image
MayLeave-fewer bytes image ranges unsettled fewer left =
    MayLeave-through bytes bytes image ranges unsettled (MayLeave-same bytes ranges) fewer left

-- What a crash might have left before a write it still may after it.
pub MayLeave-torn : (old new : Told) (place count : ℕ) → MayBeTorn place count old new
    → Each (MayLeave old.bytes old.unsettled) (MayLeave new.bytes new.unsettled)
MayLeave-torn old new place count (inl torn) image left =
    subst (λ (ranges : List (ℕ × ℕ)). MayLeave new.bytes ranges image) (sym torn.unsettled_are)
    (MayLeave-added old.bytes new.bytes image (place, count) old.unsettled torn.bytes_are left)
MayLeave-torn old new place count (inr same) image left =
    subst (λ (ranges : List (ℕ × ℕ)). MayLeave new.bytes ranges image) (sym same.unsettled_are)
    (subst (λ (bytes : List ℕ). MayLeave bytes old.unsettled image) (sym same.bytes_are) left)

pub MayLeave-written : (old new : Told) (place : ℕ) (bytes : List ℕ) → place + length bytes ≤ length old.bytes → Written place bytes old new
    → Each (MayLeave old.bytes old.unsettled) (MayLeave new.bytes new.unsettled)
MayLeave-written old new place bytes within written = MayLeave-torn old new place (length bytes) (inl (record {
  bytes_are = subst (λ (bs : List ℕ). MayLeave old.bytes ((place, length bytes) ∷ []) bs) (sym written.bytes_are)
      (MayLeave-overwritten old.bytes place (length bytes) bytes (omega arith) within);
  unsettled_are = written.unsettled_are;
  moment_is = written.moment_is;
}))

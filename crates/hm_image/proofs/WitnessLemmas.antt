-- Small things that a sound image has, or cannot have.
use Rattle.std.proofs.Common.{◌≡◌, ◌≢◌, inl, inr, ℕ, zero, suc, ◌+◌, ◌≤◌, List, [], ◌∷◌, refl, ap, arith}
use Rattle.std.specs.Prelude.{codes, count_by, pos, replicate, slice_index}
use Rattle.std.proofs.lemmas.Int.{ints}
use Rattle.std.proofs.lemmas.List.Elements.{All-nil, All-replicate}
use Rattle.hm_types.specs.Hash.{name_hash}
use Rattle.hm_types.specs.Name.{IsName, IsNameByte, LacksId}
use Rattle.hm_types.specs.References.{AreFew, DoNotOverlap, IsPlaced, NoneOverlap, Reference, is_there}
use Rattle.hm_types.specs.declared.space.TheConstants.{MOST_REFERENCES}
use Rattle.hm_key.specs.Elements.{moved_to}
use Rattle.hm_records.specs.Entry.{IsEntry}
use Rattle.hm_records.specs.KeysFit.{KeysFit}
use Rattle.hm_records.specs.Payload.{KeyFits}
use Rattle.hm_image.specs.Examples.{entry_a, entry_at, key_of_a, payload_at}
use Rattle.hm_image.specs.Fresh.{fresh_entry, inode_element, root_at}
use Rattle.hm_image.specs.Sound.{IsAmongPayloads, IsFilled, free_bytes_in}
use Rattle.hm_image.proofs.ListLemmas.{all_one}

-- ---- overlaps

none_of_two : (r s : Reference) → DoNotOverlap r s → NoneOverlap (r ∷ s ∷ [])
none_of_two r s apart = (all_one (DoNotOverlap r) s apart, (All-nil (DoNotOverlap s), tt))

overlapping : DoNotOverlap (payload_at 0 32) (payload_at 16 48) → ⊥
overlapping (inl one) = omega (arith, one.place)
overlapping (inr (inl before)) = omega arith
overlapping (inr (inr after)) = omega arith

pub overlap_refused : ¬ NoneOverlap (payload_at 0 32 ∷ payload_at 16 48 ∷ [])
overlap_refused none = overlapping (none.0 0 (payload_at 0 0) (omega arith))

pub next_apart : NoneOverlap (payload_at 0 32 ∷ payload_at 32 48 ∷ [])
next_apart = none_of_two (payload_at 0 32) (payload_at 32 48) (inr (inl (omega arith)))

pub one_extent : NoneOverlap (payload_at 0 32 ∷ payload_at 0 31 ∷ [])
one_extent = none_of_two (payload_at 0 32) (payload_at 0 31) (inl (record { place = refl; size = refl }))

-- ---- places

pub across_refused : ¬ IsPlaced 24 (payload_at 8388592 32)
across_refused placed = omega (arith, placed.inside)

pub inside_placed : IsPlaced 24 (payload_at 8388576 32)
inside_placed = record {
  some = omega arith;
  volume = refl;
  zone = (omega arith, omega arith);
  unit = refl;
  pool = (omega arith, omega arith);
  inside = refl;
}

pub unfilled_refused : ¬ IsFilled (fresh_entry 24) (payload_at 80 16)
unfilled_refused is = omega (arith, is.filled)

pub filled_there : IsFilled (fresh_entry 24) (payload_at 64 16)
filled_there = record { zone = refl; filled = omega arith }

pub node_zone_refused : ¬ IsAmongPayloads (moved_to (root_at 24) (inode_element 24))
node_zone_refused is = omega (arith, is.0)

pub meta_zone_among : IsAmongPayloads (inode_element 24)
meta_zone_among = (omega arith, omega arith)

-- ---- references

pub many_refused : ¬ AreFew (replicate 65 (payload_at 0 32))
many_refused few = omega (arith, few 0 (payload_at 0 32) (omega arith))

pub few_there : AreFew (replicate 64 (payload_at 0 32))
few_there =
    let rs = replicate 64 (payload_at 0 32) in
    All-replicate (λ (r : Reference). count_by (is_there r) rs ≤ MOST_REFERENCES) 64 (payload_at 0 32) (omega arith)

-- ---- free bytes

pub free_counted : free_bytes_in (payload_at 0 32 ∷ payload_at 32 40 ∷ payload_at 32 40 ∷ []) 12 ≡ pos 8388480
free_counted = refl

pub free_refused : pos 8388481 ≢ free_bytes_in (payload_at 0 32 ∷ payload_at 32 40 ∷ payload_at 32 40 ∷ []) 12
free_refused same = omega (arith, ints)

-- ---- keys

a_is_name : IsName (codes "a")
a_is_name = record {
  size = (omega arith, omega arith);
  each = all_one IsNameByte 97 (omega arith);
  no_id = lacks;
  no_dot = ((λ same. omega (arith, ap first same)), (λ same. omega (arith, ap first same)));
} where
  first : List ℕ → ℕ
  first xs = slice_index xs 0

  lacks : LacksId (codes "a")
  lacks zero sign = absurd (omega arith)
  lacks (suc k) sign = absurd (omega arith)

a_is_entry : IsEntry entry_a
a_is_entry = record { obj = omega arith; name = a_is_name }

pub key_refused : ¬ KeysFit name_hash (entry_at (key_of_a + 65536) ∷ [])
key_refused fit =
    let here = fit (entry_at (key_of_a + 65536)) entry_a (0, omega arith, refl) refl a_is_entry refl in
    omega arith

pub collision_fits : KeyFits name_hash (key_of_a + 1023) (codes "a")
collision_fits = refl

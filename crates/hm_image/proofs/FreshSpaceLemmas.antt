-- The freemap of a fresh volume.
use Rattle.std.proofs.Common.{◌≡◌, inl, inr, ℕ, ◌-◌, nat_eq, nat_lt, refl, ◌∙◌, arith}
use Rattle.std.proofs.lemmas.Bool.{cond_both, cond-true, cond-false, eqb-true, eqb-false, ne_eqb, lt-ltb, le-ltb, ltb-true, ltb-false}
use Rattle.hm_types.specs.Layout.{IsPool, first_pool, first_undo}
use Rattle.hm_types.specs.declared.zone.TheConstants.{VOLUME_ZONE, UNDO_ZONE, FREEMAP_ZONE, UNAVAILABLE_ZONE}
use Rattle.hm_freemap.specs.Entry.{IsEntry, IsEntryOf, IsPoolEntry, IsReservedZone}
use Rattle.hm_freemap.specs.Fresh.{reserved_entry}
use Rattle.hm_freemap.specs.declared.entry.Entry.{Entry}
use Rattle.hm_header.specs.Range.{IsSize}
use Rattle.hm_image.specs.Fresh.{fresh_entry, pool_entry}
use Rattle.hm_image.proofs.OffsetLemmas.{pool_is}

reserved_is : (zone : ℕ) → IsReservedZone zone → IsEntry (reserved_entry zone)
reserved_is zone known = inr (record { zone = known; append = refl; free = refl })

-- the entries of the pool are such entries
pool_entry_is : (k : ℕ) → IsPoolEntry (pool_entry k)
pool_entry_is k =
    cond_both (nat_eq k 0) _ _ IsPoolEntry (λ at. inl (record { zone = (omega arith, omega arith); append = omega arith; unit = refl }))
    (λ other. cond_both (nat_eq k 1) _ _ IsPoolEntry (λ at. inl (record { zone = (omega arith, omega arith); append = omega arith; unit = refl }))
    (λ other. cond_both (nat_eq k 2) _ _ IsPoolEntry (λ at. inl (record { zone = (omega arith, omega arith); append = omega arith; unit = refl }))
    (λ other. cond_both (nat_eq k 3) _ _ IsPoolEntry (λ at. inl (record { zone = (omega arith, omega arith); append = omega arith; unit = refl }))
    (λ other. inr (record { zone = refl; append = refl; free = refl })))))

-- the entry of a big-block of the pool
pub fresh_in_pool : (bigblocks block : ℕ) → IsSize bigblocks → IsPool bigblocks block
    → fresh_entry bigblocks block ≡ pool_entry (block - first_pool bigblocks)
fresh_in_pool bigblocks block size pool =
    let places = pool_is bigblocks size in
    cond-false (nat_eq block 0) _ _ (ne_eqb block 0 (λ at. omega arith))
    ∙ cond-false (nat_lt block (first_undo bigblocks)) _ _ (le-ltb block (first_undo bigblocks) (omega arith))
    ∙ cond-false (nat_lt block (first_pool bigblocks)) _ _ (le-ltb block (first_pool bigblocks) (omega arith))
    ∙ cond-true (nat_lt block bigblocks) _ _ (lt-ltb block bigblocks (omega arith))

-- each entry may be that of its big-block
pub fresh_entry_is : (bigblocks block : ℕ) → IsSize bigblocks → IsEntryOf bigblocks block (fresh_entry bigblocks block)
fresh_entry_is bigblocks block size =
    let places = pool_is bigblocks size in
    let P : Entry → Type 0 = IsEntryOf bigblocks block in
    cond_both (nat_eq block 0) _ _ P
    (λ at. let here = eqb-true block 0 at in record {
      entry = reserved_is VOLUME_ZONE (inl refl);
      headers = λ zero. refl;
      freemap = λ from below. absurd (omega arith);
      undo = λ from below. absurd (omega arith);
      pool = λ pool. absurd (omega arith);
      past = λ past from. absurd (omega arith);
    })
    (λ no. let other = eqb-false block 0 no in cond_both (nat_lt block (first_undo bigblocks)) _ _ P
    (λ at. let here = ltb-true block (first_undo bigblocks) at in record {
      entry = reserved_is FREEMAP_ZONE (inr (inr (inl refl)));
      headers = λ zero. absurd (other zero);
      freemap = λ from below. refl;
      undo = λ from below. absurd (omega arith);
      pool = λ pool. absurd (omega arith);
      past = λ past from. absurd (omega arith);
    })
    (λ no. let after = ltb-false block (first_undo bigblocks) no in cond_both (nat_lt block (first_pool bigblocks)) _ _ P
    (λ at. let here = ltb-true block (first_pool bigblocks) at in record {
      entry = reserved_is UNDO_ZONE (inr (inl refl));
      headers = λ zero. absurd (other zero);
      freemap = λ from below. absurd (omega arith);
      undo = λ from below. refl;
      pool = λ pool. absurd (omega arith);
      past = λ past from. absurd (omega arith);
    })
    (λ no. let later = ltb-false block (first_pool bigblocks) no in cond_both (nat_lt block bigblocks) _ _ P
    (λ at. let here = ltb-true block bigblocks at in record {
      entry = inl (pool_entry_is (block - first_pool bigblocks));
      headers = λ zero. absurd (other zero);
      freemap = λ from below. absurd (omega arith);
      undo = λ from below. absurd (omega arith);
      pool = λ pool. pool_entry_is (block - first_pool bigblocks);
      past = λ past from. absurd (omega arith);
    })
    (λ no. let past = ltb-false block bigblocks no in record {
      entry = reserved_is UNAVAILABLE_ZONE (inr (inr (inr refl)));
      headers = λ zero. absurd (other zero);
      freemap = λ from below. absurd (omega arith);
      undo = λ from below. absurd (omega arith);
      pool = λ pool. absurd (omega arith);
      past = λ past from. refl;
    }))))

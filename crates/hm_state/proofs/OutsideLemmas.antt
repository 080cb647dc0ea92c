-- The entries of big-blocks outside the pool, and which entries no page of zeros has.
use Rattle.std.proofs.Common.{◌≡◌, ◌⊎◌, inl, inr, ℕ, ◌+◌, ◌<◌, ◌≤◌, nat_eq, refl, sym, ap, subst, ◌∙◌, arith, pos}
use Rattle.std.specs.Prelude.{nat_lt}
use Rattle.std.specs.Int.{w32, cast_signed}
use Rattle.std.proofs.lemmas.Bool.{cases_lt, cond_both, eqb-false, eqb-true, ltb-false, ltb-true}
use Rattle.std.proofs.lemmas.Int.{ints}
use Rattle.hm_types.specs.Layout.{IsPool, first_pool, first_undo}
use Rattle.hm_types.specs.declared.zone.TheConstants.{FREEMAP_ZONE, UNAVAILABLE_ZONE, UNDO_ZONE, VOLUME_ZONE}
use Rattle.hm_fields.specs.Fields.{zero_page}
use Rattle.hm_fields.proofs.FieldLemmas.{get_zero}
use Rattle.hm_freemap.specs.Entry.{IsEntry, IsEntryOf, IsPoolEntry, IsReservedZone, entry_in}
use Rattle.hm_freemap.specs.declared.entry.Entry.{Entry}
use Rattle.hm_stored.specs.Basis.{entry_outside}

pub in_pool : (bigblocks block : ℕ) → IsPool bigblocks block ⊎ (¬ IsPool bigblocks block)
in_pool bigblocks block =
    elim (cases_lt block (first_pool bigblocks)) [
      | inl low ↦ inr (λ pool. absurd (omega (arith, low, pool.0)))
      | inr from ↦ elim (cases_lt block bigblocks) [
        | inl below ↦ inl (from, below)
        | inr over ↦ inr (λ pool. absurd (omega (arith, over, pool.1)))
      ]
    ]

-- no big-block of the pool has an entry of such a zone
not_reserved : (e : Entry) → IsPoolEntry e → IsReservedZone e.zone → ⊥
not_reserved e (inl owned) (inl one) = omega (arith, one, owned.zone.0)
not_reserved e (inl owned) (inr (inl one)) = omega (arith, one, owned.zone.0)
not_reserved e (inl owned) (inr (inr (inl one))) = omega (arith, one, owned.zone.0)
not_reserved e (inl owned) (inr (inr (inr one))) = omega (arith, one, owned.zone.1)
not_reserved e (inr unused) (inl one) = omega (arith, one, unused.zone)
not_reserved e (inr unused) (inr (inl one)) = omega (arith, one, unused.zone)
not_reserved e (inr unused) (inr (inr (inl one))) = omega (arith, one, unused.zone)
not_reserved e (inr unused) (inr (inr (inr one))) = omega (arith, one, unused.zone)

module _ (bigblocks block : ℕ) (outside : ¬ IsPool bigblocks block) where
  -- what holds of each part of a volume outside the pool
  by_part : (P : ℕ → Type 0) → (block ≡ 0 → P VOLUME_ZONE) → (1 ≤ block → block < first_undo bigblocks → P FREEMAP_ZONE)
      → (first_undo bigblocks ≤ block → block < first_pool bigblocks → P UNDO_ZONE)
      → (bigblocks ≤ block → first_pool bigblocks ≤ block → P UNAVAILABLE_ZONE) → P (entry_outside bigblocks block).zone
  by_part P headers freemap undo past =
      cond_both (nat_eq block 0) _ _ P (λ is. headers (eqb-true block 0 is))
      (λ no. let some = eqb-false block 0 no in
      cond_both (nat_lt block (first_undo bigblocks)) _ _ P (λ is. freemap (omega arith) (ltb-true block (first_undo bigblocks) is))
      (λ no. let from = ltb-false block (first_undo bigblocks) no in
      cond_both (nat_lt block (first_pool bigblocks)) _ _ P (λ is. undo from (ltb-true block (first_pool bigblocks) is))
      (λ no. let over = ltb-false block (first_pool bigblocks) no in
      past (elim (cases_lt block bigblocks) [ inl below ↦ absurd (outside (over, below)) | inr from ↦ from ]) over)))

  reserved : IsReservedZone (entry_outside bigblocks block).zone
  reserved = by_part IsReservedZone (λ is. inl refl) (λ from to. inr (inr (inl refl))) (λ from to. inr (inl refl)) (λ over from. inr (inr (inr refl)))

  pub outside_entry : IsEntryOf bigblocks block (entry_outside bigblocks block)
  outside_entry = record {
    entry = inr (record { zone = reserved; append = refl; free = refl });
    headers = by_part (λ zone. block ≡ 0 → zone ≡ VOLUME_ZONE) (λ is again. refl) (λ from to is. absurd (omega arith))
        (λ from to is. absurd (omega arith)) (λ over from is. absurd (omega arith));
    freemap = by_part (λ zone. 1 ≤ block → block < first_undo bigblocks → zone ≡ FREEMAP_ZONE) (λ is from to. absurd (omega arith))
        (λ from to low high. refl) (λ from to low high. absurd (omega arith)) (λ over from low high. absurd (omega arith));
    undo = by_part (λ zone. first_undo bigblocks ≤ block → block < first_pool bigblocks → zone ≡ UNDO_ZONE) (λ is from to. absurd (omega arith))
        (λ from to low high. absurd (omega arith)) (λ from to low high. refl) (λ over from low high. absurd (omega arith));
    pool = λ pool. absurd (outside pool);
    past = by_part (λ zone. bigblocks ≤ block → first_pool bigblocks ≤ block → zone ≡ UNAVAILABLE_ZONE) (λ is over from. absurd (omega arith))
        (λ from to over low. absurd (omega arith)) (λ from to over low. absurd (omega arith)) (λ over from again low. refl);
  }

  -- an entry that may be that of the big-block is this one
  pub outside_is : (e : Entry) → IsEntryOf bigblocks block e → e ≡ entry_outside bigblocks block
  outside_is e is = by_kind is.entry where
    zone : e.zone ≡ (entry_outside bigblocks block).zone
    zone = by_part (λ z. e.zone ≡ z) is.headers is.freemap is.undo is.past

    by_kind : IsEntry e → e ≡ entry_outside bigblocks block
    by_kind (inl pool) = absurd (not_reserved e pool (subst IsReservedZone (sym zone) reserved))
    by_kind (inr none) = λ i. record { zone = zone i; append_off = none.append i; bytes_free = none.free i }

-- a page of zeros has no entry of the pool
pub no_zero_entry : (at : ℕ) → IsPoolEntry (entry_in zero_page at) → ⊥
unfolding entry_in
no_zero_entry at (inl owned) = omega (arith, get_zero at 4, owned.zone.0)
no_zero_entry at (inr unused) =
    let free : pos 0 ≡ pos 8388608 = ap (cast_signed w32) (sym (get_zero (at + 8) 4)) ∙ unused.free in
    omega (arith, ints, free)

-- How many bytes of the big-blocks of a fresh volume are free.
use Rattle.std.proofs.Common.{◌≡◌, ℕ, ◌+◌, ◌-◌, ◌<◌, nat_eq, refl, sym, ap, subst, ◌∙◌, arith}
use Rattle.std.specs.Prelude.{if◌then◌else◌, ◌-ℤ◌, pos}
use Rattle.std.proofs.lemmas.Bool.{cond_both, eqb-false, eqb-true}
use Rattle.std.proofs.lemmas.Bool.Decides.{nat_tests}
use Rattle.hm_types.specs.Layout.{IsPool, block_of, first_pool, start_of}
use Rattle.hm_types.specs.References.{begin_of, live_bytes}
use Rattle.hm_types.specs.declared.limits.TheConstants.{BIGBLOCK_BYTES}
use Rattle.hm_freemap.specs.declared.entry.Entry.{Entry}
use Rattle.hm_header.specs.Range.{IsSize}
use Rattle.hm_image.specs.Fresh.{fresh_entry, inode_element, pool_entry, record_element, root_at}
use Rattle.hm_image.specs.Image.{to_node, to_payload}
use Rattle.hm_image.proofs.FreshExtentLemmas.{fresh_references}
use Rattle.hm_image.proofs.FreshSpaceLemmas.{fresh_in_pool}
use Rattle.hm_image.proofs.OffsetLemmas.{byte_is, pool_is}

-- what is live in a big-block, where the node lies in block x and the payloads in y and z
abbrev live : ℕ → ℕ → ℕ → ℕ → ℕ
live x y z block = (if nat_eq x block then 4096 else 0) + ((if nat_eq y block then 32 else 0) + ((if nat_eq z block then 48 else 0) + 0))

live_first : (x y z p block : ℕ) → x ≡ p → y ≡ p + 1 → z ≡ p + 1 → block ≡ p → live x y z block ≡ 4096
live_first x y z p block a b c here = grind (arith, nat_tests)

live_second : (x y z p block : ℕ) → x ≡ p → y ≡ p + 1 → z ≡ p + 1 → block ≡ p + 1 → live x y z block ≡ 80
live_second x y z p block a b c here = grind (arith, nat_tests)

live_none : (x y z p block : ℕ) → x ≡ p → y ≡ p + 1 → z ≡ p + 1 → p + 1 < block → live x y z block ≡ 0
live_none x y z p block a b c after = grind (arith, nat_tests)

module _ (bigblocks : ℕ) (size : IsSize bigblocks) (block : ℕ) (pool : IsPool bigblocks block) where
  -- the free bytes of an entry are those that are not live
  abbrev Balanced : Entry → Type 0
  Balanced e = e.bytes_free ≡ pos BIGBLOCK_BYTES -ℤ pos (live_bytes (fresh_references bigblocks) block)

  balanced : (e : Entry) (n : ℕ) → e.bytes_free ≡ pos BIGBLOCK_BYTES -ℤ pos n → live_bytes (fresh_references bigblocks) block ≡ n → Balanced e
  balanced e n free is = free ∙ ap (λ (m : ℕ). pos BIGBLOCK_BYTES -ℤ pos m) (sym is)

  pub fresh_free : (fresh_entry bigblocks block).bytes_free ≡ pos BIGBLOCK_BYTES -ℤ pos (live_bytes (fresh_references bigblocks) block)
  fresh_free =
      let places = pool_is bigblocks size in
      let P = first_pool bigblocks in
      let k = block - P in
      let root = byte_is 8 (start_of P) (omega arith) in
      let inode = byte_is 9 (start_of (P + 1)) (omega arith) in
      let pfs = byte_is 9 (start_of (P + 1) + 32) (omega arith) in
      let x : block_of (begin_of (to_node (root_at bigblocks))) ≡ P = omega arith in
      let y : block_of (begin_of (to_payload (inode_element bigblocks))) ≡ P + 1 = omega arith in
      let z : block_of (begin_of (to_payload (record_element bigblocks))) ≡ P + 1 = omega arith in
      let none : P + 1 < block → live_bytes (fresh_references bigblocks) block ≡ 0 = λ after. live_none _ _ _ P block x y z after in
      let at_pool : Balanced (pool_entry k) =
      cond_both (nat_eq k 0) _ _ Balanced
      (λ at. let here = eqb-true k 0 at in balanced (pool_entry 0) 4096 refl (live_first _ _ _ P block x y z (omega arith)))
      (λ no. let other = eqb-false k 0 no in cond_both (nat_eq k 1) _ _ Balanced
      (λ at. let here = eqb-true k 1 at in balanced (pool_entry 1) 80 refl (live_second _ _ _ P block x y z (omega arith)))
      (λ no. let more = eqb-false k 1 no in cond_both (nat_eq k 2) _ _ Balanced
      (λ at. balanced (pool_entry 2) 0 refl (none (omega arith)))
      (λ no. cond_both (nat_eq k 3) _ _ Balanced
      (λ at. balanced (pool_entry 3) 0 refl (none (omega arith)))
      (λ no. balanced (pool_entry 4) 0 refl (none (omega arith)))))) in
      subst Balanced (sym (fresh_in_pool bigblocks block size pool)) at_pool

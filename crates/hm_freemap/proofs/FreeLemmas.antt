-- Free big-blocks by entries, and by references.
use Rattle.std.proofs.Common.{◌≡◌, Bool, true, false, ℕ, ◌-◌, ⊎_elim, List, refl, sym, ap, ◌∙◌, arith, not, ◌&&◌, nat_eq, eq-eqb, ℤ, pos, negsuc, ◌+ℤ◌}
use Rattle.std.proofs.lemmas.Int.{ints}
use Rattle.std.proofs.lemmas.Bool.{cases_eq}
use Rattle.hm_types.specs.Layout.{IsPool, first_pool}
use Rattle.hm_types.specs.References.{References, is_append, is_free, live_bytes, free_blocks, pool}
use Rattle.hm_types.specs.declared.limits.TheConstants.{BIGBLOCK_BYTES}
use Rattle.hm_freemap.specs.Stand.{Maps, StandBy, entry_of, entry_page, is_whole_block, is_clear_in, is_free_by, free_by}
use Rattle.std.proofs.lemmas.List.FromFn.{length-range_with_len}
use Rattle.std.proofs.lemmas.List.Sums.{count_by-le-length}
use Rattle.hm_freemap.specs.Admit.{IsFreeAt}
use Rattle.hm_freemap.specs.Calls.{CountsFree}
use Rattle.hm_freemap.specs.Scan.{Finds}
use Rattle.hm_freemap.specs.declared.scan.Found.{Found}
use Rattle.hm_freemap.proofs.CountLemmas.{count_same}
use Rattle.hm_freemap.proofs.PutLemmas.{other_test}

-- all bytes are free where none is live
pub whole_is_dead : (free : ℤ) (live : ℕ) → free +ℤ pos live ≡ pos BIGBLOCK_BYTES → is_whole_block free ≡ nat_eq live 0
whole_is_dead (pos n) live is = ⊎_elim
    (λ (none : live ≡ 0).
    let all : n ≡ BIGBLOCK_BYTES = omega (arith, ints) in
    rw (none) (eq-eqb n BIGBLOCK_BYTES all))
    (λ some.
    let less : n ≡ BIGBLOCK_BYTES → ⊥ = λ same. some (omega (arith, ints)) in
    other_test n BIGBLOCK_BYTES less ∙ sym (other_test live 0 some))
    (cases_eq live 0)
whole_is_dead (negsuc n) live is =
    let some : live ≡ 0 → ⊥ = λ none. absurd (omega (arith, ints)) in
    sym (other_test live 0 some)

and_assoc : (a b c : Bool) → (a && (b && c)) ≡ ((a && b) && c)
and_assoc true b c = refl
and_assoc false b c = refl

joined : (n a b c a' b' c' : Bool) → a ≡ a' → b ≡ b' → c ≡ c' → (n && (a && (b && c))) ≡ (n && ((a' && b') && c'))
joined n a b c a' b' c' first second third = rw (first, second, third) (ap (λ (x : Bool). n && x) (and_assoc a' b' c'))

pub free_is_unused : (bigblocks : ℕ) (append : List ℕ) (maps : Maps) (states : References) (block : ℕ) → StandBy bigblocks append maps states
    → IsPool bigblocks block → is_free_by append maps block ≡ is_free append states block
free_is_unused bigblocks append maps states block stand is =
    joined (not (is_append append block))
    (is_clear_in (entry_page maps.committed block) block) (is_clear_in (entry_page maps.frozen block) block) (is_clear_in (entry_page maps.current block) block)
    (nat_eq (live_bytes states.committed block) 0) (nat_eq (live_bytes states.frozen block) 0) (nat_eq (live_bytes states.current block) 0)
    (whole_is_dead (entry_of maps.committed block).bytes_free (live_bytes states.committed block) (stand.committed block is).free)
    (whole_is_dead (entry_of maps.frozen block).bytes_free (live_bytes states.frozen block) (stand.frozen block is).free)
    (whole_is_dead (entry_of maps.current block).bytes_free (live_bytes states.current block) (stand.current block is).free)

-- the number of free big-blocks by the maps is that by the references
pub free_same : (bigblocks : ℕ) (append : List ℕ) (maps : Maps) (states : References) → StandBy bigblocks append maps states
    → free_by bigblocks append maps ≡ free_blocks bigblocks append states
free_same bigblocks append maps states stand =
    let first = first_pool bigblocks in
    count_same (is_free_by append maps) (is_free append states) first (bigblocks - first)
    (λ block low high. free_is_unused bigblocks append maps states block stand (low, omega arith))

-- the free big-block with so many before it is the same one by both
pub rank_same : (bigblocks : ℕ) (append : List ℕ) (maps : Maps) (states : References) → StandBy bigblocks append maps states
    → (rank block : ℕ) → IsFreeAt bigblocks (is_free_by append maps) rank block → IsFreeAt bigblocks (is_free append states) rank block
rank_same bigblocks append maps states stand rank block here = record {
  pool = here.pool;
  free = sym (free_is_unused bigblocks append maps states block stand here.pool) ∙ here.free;
  lower = count_same (is_free append states) (is_free_by append maps) (first_pool bigblocks) (block - first_pool bigblocks)
      (λ b low high. sym (free_is_unused bigblocks append maps states b stand (low, omega (arith, high, here.pool))))
      ∙ here.lower;
}

-- a look that asked for as many big-blocks as there are counts the free ones
pub counts : (bigblocks : ℕ) (append : List ℕ) (maps : Maps) (found : Found) → Finds (is_free_by append maps) bigblocks (pool bigblocks) found
    → CountsFree bigblocks append maps found.count
counts bigblocks append maps found finds =
    let first = first_pool bigblocks in
    let few = count_by-le-length (is_free_by append maps) (pool bigblocks) in
    let sized = length-range_with_len first (bigblocks - first) in
    let all : found.count ≡ free_by bigblocks append maps = omega (arith, finds.count, few, sized) in
    record {
      by_maps = all;
      by_states = λ states stand. all ∙ free_same bigblocks append maps states stand;
    }

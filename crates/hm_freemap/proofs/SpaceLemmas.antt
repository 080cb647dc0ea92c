-- Which big-blocks are free after an extent is taken, shared or given back, and after zones began new ones.
use Rattle.std.proofs.Common.{◌≡◌, ◌≢◌, Bool, true, false, true≢false, ℕ, suc, ◌+◌, ◌-◌, ◌<◌, ◌≤◌, inl, inr, ◌⊎◌, ⊎_elim, List, [], ◌∷◌, ◌++◌, length}
use Rattle.std.proofs.Common.{slice_index, Some, refl, sym, ap, ◌∙◌, arith, cond, not, ◌&&◌, nat_eq, eq-eqb}
use Rattle.std.specs.Prelude.{count_by}
use Rattle.std.specs.List.{list_any, range_with_len}
use Rattle.std.proofs.lemmas.Bool.{cases_eq, cases_lt}
use Rattle.hm_types.specs.Layout.{block_of, start_of, first_pool}
use Rattle.hm_types.specs.Offset.{byte_of}
use Rattle.hm_types.specs.References.{Reference, References, is_in, is_append, is_unused, is_free, free_blocks, live_bytes}
use Rattle.hm_types.specs.Space.{rounded, in_zone}
use Rattle.hm_types.specs.declared.limits.TheConstants.{BIGBLOCK_BYTES}
use Rattle.hm_types.specs.declared.zone.TheConstants.{TREE_ZONE, SMALL_ZONE}
use Rattle.hm_types.specs.declared.zones.Zones.{Zones}
use Rattle.hm_fields.specs.Pages.{PageMap}
use Rattle.hm_freemap.specs.Admit.{IsAdmitted, IsFreeAt, does_lack, free_before}
use Rattle.hm_freemap.specs.Extents.{Takes, is_extent, reference, referred, unreferred, without_one}
use Rattle.hm_freemap.specs.Stand.{Maps, StandBy, append_of, entry_of, home_of, room_in}
use Rattle.hm_freemap.proofs.BoundLemmas.{placed_size}
use Rattle.hm_freemap.proofs.CountLemmas.{bit, bit_one, count-append, count_less, count_same, is_one, one_most, pair_less}
use Rattle.hm_freemap.proofs.GoodLemmas.{stand_distinct}
use Rattle.hm_freemap.proofs.ListLemmas.{live_without, one_extent}
use Rattle.hm_freemap.proofs.MapsLemmas.{clear_block, has_at}
use Rattle.hm_freemap.proofs.PutLemmas.{other_test, same_test}
use Rattle.hm_freemap.proofs.RenewLemmas.{free_block, free_is, not_free}
use Rattle.hm_freemap.proofs.ScanLemmas.{range-one, range-split}
use Rattle.hm_freemap.proofs.TakeLemmas.{handed_out, zone_of_room}

-- a big-block in which as much is live in another current state
free_as : (append : List ℕ) (states : References) (refs : List Reference) (block : ℕ)
    → nat_eq (live_bytes refs block) 0 ≡ nat_eq (live_bytes states.current block) 0
    → is_free append (record states { current = refs }) block ≡ is_free append states block
free_as append states refs block same =
    ap (λ (b : Bool). not (is_append append block) && ((nat_eq (live_bytes states.committed block) 0 && nat_eq (live_bytes states.frozen block) 0) && b)) same

-- where each big-block is free as before, as many are
all_as : (bigblocks : ℕ) (append : List ℕ) (old new : References) → ((block : ℕ) → is_free append new block ≡ is_free append old block)
    → free_blocks bigblocks append new ≡ free_blocks bigblocks append old
all_as bigblocks append old new same =
    let first = first_pool bigblocks in
    count_same (is_free append new) (is_free append old) first (bigblocks - first) (λ block low high. same block)

-- no more than is live there already
zero_more : (more live : ℕ) → more ≤ live → nat_eq (more + live) 0 ≡ nat_eq live 0
zero_more more live few = ⊎_elim
    (λ (none : live ≡ 0). eq-eqb (more + live) 0 (omega (arith, few, none)) ∙ sym (eq-eqb live 0 none))
    (λ some. other_test (more + live) 0 (λ none. some (omega (arith, none))) ∙ sym (other_test live 0 some))
    (cases_eq live 0)

-- an extent that is shared
pub shared_free : (append : List ℕ) (r : Reference) (states : References) → list_any (is_extent r) states.current ≡ true
    → (block : ℕ) → is_free append (referred r states) block ≡ is_free append states block
shared_free append r states is block =
    let size = cond (is_in block r) (rounded r.len) 0 in
    let live = live_without block r states.current is in
    free_as append states (r ∷ states.current) block (zero_more size (live_bytes states.current block) (omega (arith, live)))

pub shared_blocks : (bigblocks : ℕ) (append : List ℕ) (r : Reference) (states : References) → list_any (is_extent r) states.current ≡ true
    → free_blocks bigblocks append (referred r states) ≡ free_blocks bigblocks append states
shared_blocks bigblocks append r states is = all_as bigblocks append states (referred r states) (shared_free append r states is)

-- less is live without a reference, and as much in other big-blocks
live_fewer : (r : Reference) (xs : List Reference) (block : ℕ) → live_bytes (without_one r xs) block ≤ live_bytes xs block
live_fewer r [] block = omega arith
live_fewer r (x ∷ xs) block = by_test (is_extent r x) (live_fewer r xs block) where
  by_test : (b : Bool) → live_bytes (without_one r xs) block ≤ live_bytes xs block
      → live_bytes (cond b xs (x ∷ without_one r xs)) block ≤ live_bytes (x ∷ xs) block
  by_test true less = omega arith
  by_test false less = omega (arith, less)

live_elsewhere : (r : Reference) (xs : List Reference) (block : ℕ) → block ≢ home_of r → live_bytes (without_one r xs) block ≡ live_bytes xs block
live_elsewhere r [] block other = refl
live_elsewhere r (x ∷ xs) block other = by_test (is_extent r x) refl (live_elsewhere r xs block other) where
  by_test : (b : Bool) → is_extent r x ≡ b → live_bytes (without_one r xs) block ≡ live_bytes xs block
      → live_bytes (cond b xs (x ∷ without_one r xs)) block ≡ live_bytes (x ∷ xs) block
  by_test true same rest =
      let home : home_of r ≡ home_of x = ap (λ (at : ℕ). block_of (byte_of at)) (one_extent r x same).place in
      let apart = other_test (home_of x) block (λ is. other (sym (home ∙ is))) in
      let none : cond (is_in block x) (rounded x.len) 0 ≡ 0 = ap (λ (b : Bool). cond b (rounded x.len) 0) apart in
      omega (arith, none)
  by_test false apart rest = omega (arith, rest)

-- an extent that is given back
pub given_free : (append : List ℕ) (r : Reference) (states : References) (block : ℕ) → is_free append states block ≡ true
    → is_free append (unreferred r states) block ≡ true
given_free append r states block is =
    let free = free_block append states block is in
    free_is append (unreferred r states) block free.apart free.committed free.frozen (omega (arith, live_fewer r states.current block, free.current))

given_elsewhere : (append : List ℕ) (r : Reference) (states : References) (block : ℕ) → block ≢ home_of r
    → is_free append (unreferred r states) block ≡ is_free append states block
given_elsewhere append r states block other =
    free_as append states (without_one r states.current) block (ap (λ (n : ℕ). nat_eq n 0) (live_elsewhere r states.current block other))

pub given_there : (append : List ℕ) (r : Reference) (states : References) (block : ℕ) → is_free append (unreferred r states) block ≡ true
    → (is_free append states block ≡ true) ⊎ (block ≡ home_of r)
given_there append r states block is = ⊎_elim
    (λ (same : block ≡ home_of r). inr same)
    (λ other. inl (sym (given_elsewhere append r states block other) ∙ is))
    (cases_eq block (home_of r))

pub given_more : (bigblocks : ℕ) (append : List ℕ) (r : Reference) (states : References)
    → free_blocks bigblocks append states ≤ free_blocks bigblocks append (unreferred r states)
given_more bigblocks append r states =
    let first = first_pool bigblocks in
    count_less (is_free append states) (is_free append (unreferred r states)) first (bigblocks - first) (given_free append r states)

pub given_most : (bigblocks : ℕ) (append : List ℕ) (r : Reference) (states : References)
    → free_blocks bigblocks append (unreferred r states) ≤ free_blocks bigblocks append states + 1
given_most bigblocks append r states =
    let first = first_pool bigblocks in
    let n = bigblocks - first in
    let sum = pair_less (is_free append (unreferred r states)) (is_free append states) (is_one (home_of r)) first n each in
    omega (arith, sum, one_most (home_of r) first n) where
      each : (x : ℕ) → bit (is_free append (unreferred r states) x) ≤ bit (is_free append states x) + bit (is_one (home_of r) x)
      each x = ⊎_elim
          (λ (same : x ≡ home_of r).
          let one : bit (is_one (home_of r) x) ≡ 1 = ap bit (eq-eqb x (home_of r) same) in
          omega (arith, one, bit_one (is_free append (unreferred r states) x)))
          (λ other.
          let same : bit (is_free append (unreferred r states) x) ≡ bit (is_free append states x) = ap bit (given_elsewhere append r states x other) in
          omega (arith, same))
          (cases_eq x (home_of r))

-- an extent that is taken stands in the append big-block of its zone
module _ (bigblocks : ℕ) (append : List ℕ) (maps : Maps) (states : References) (stand : StandBy bigblocks append maps states)
    (zone len at : ℕ) (now : PageMap) (some : 1 ≤ len) (takes : Takes bigblocks append zone len at maps now) where
  has_room : rounded len ≤ room_in append maps.current zone
  has_room =
      let all : in_zone zone (rounded len) zone ≡ rounded len = ap (λ (b : Bool). cond b (rounded len) 0) (same_test zone) in
      omega (arith, takes.room (stand_distinct bigblocks append maps states stand) zone, all)

  taken_zone : (TREE_ZONE ≤ zone) × (zone ≤ SMALL_ZONE)
  taken_zone = zone_of_room append (Some maps.current) zone len some has_room

  taken_home : home_of (reference at len) ≡ append_of append zone
  taken_home =
      let off = (entry_of maps.current (append_of append zone)).append_off in
      let handed : room_in append maps.current zone ≡ BIGBLOCK_BYTES - off =
      ap (λ (b : Bool). cond b (BIGBLOCK_BYTES - off) 0) (handed_out zone taken_zone.0 taken_zone.1) in
      let begin : byte_of at ≡ start_of (append_of append zone) + off = takes.begin in
      let small : off < BIGBLOCK_BYTES = omega (arith, handed, has_room, placed_size len some) in
      omega (arith, begin, small)

  pub taken_free : (block : ℕ) → is_free append (referred (reference at len) states) block ≡ is_free append states block
  taken_free block = ⊎_elim
      (λ (same : block ≡ append_of append zone).
      let is : is_append append block ≡ true = ap (is_append append) same ∙ has_at append (zone - TREE_ZONE) (omega (arith, taken_zone, stand.appended.four)) in
      not_free append (referred (reference at len) states) block is ∙ sym (not_free append states block is))
      (λ other.
      let apart = other_test (block_of (byte_of at)) block (λ is. other (sym is ∙ taken_home)) in
      let none : cond (is_in block (reference at len)) (rounded len) 0 ≡ 0 = ap (λ (b : Bool). cond b (rounded len) 0) apart in
      free_as append states (reference at len ∷ states.current) block
      (ap (λ (n : ℕ). nat_eq (n + live_bytes states.current block) 0) none ∙ ap (λ (n : ℕ). nat_eq n 0) (zero_front (live_bytes states.current block))))
      (cases_eq block (append_of append zone)) where
        zero_front : (n : ℕ) → 0 + n ≡ n
        zero_front n = omega arith

  pub taken_blocks : free_blocks bigblocks append (referred (reference at len) states) ≡ free_blocks bigblocks append states
  taken_blocks = all_as bigblocks append states (referred (reference at len) states) taken_free

-- a free big-block is counted before each higher one
counted_before : (bigblocks : ℕ) (test : ℕ → Bool) (low high : ℕ) → first_pool bigblocks ≤ low → low < high
    → test low ≡ true → free_before bigblocks test low < free_before bigblocks test high
counted_before bigblocks test low high least below is =
    let first = first_pool bigblocks in
    let front = range_with_len first (low - first) in
    let rest = range_with_len (low + 1) (high - (low + 1)) in
    let parts : range_with_len first (high - first) ≡ (front ++ low ∷ []) ++ rest =
    range-split first (low + 1) high (omega arith) (omega arith) ∙ ap (λ (l : List ℕ). l ++ rest) (range-one first low least) in
    let one : count_by test (low ∷ []) ≡ 1 = rw is refl in
    omega (arith, ap (count_by test) parts, count-append test (front ++ low ∷ []) rest, count-append test front (low ∷ []), one)

-- so many free ones come before one alone
pub same_rank : (bigblocks : ℕ) (test : ℕ → Bool) (rank one other : ℕ) → IsFreeAt bigblocks test rank one
    → IsFreeAt bigblocks test rank other → one ≡ other
same_rank bigblocks test rank one other here there = ⊎_elim
    (λ (same : one ≡ other). same)
    (λ apart. ⊎_elim
    (λ (below : one < other).
    let less = counted_before bigblocks test one other here.pool.0 below here.free in
    absurd (omega (arith, less, here.lower, there.lower)))
    (λ above.
    let less = counted_before bigblocks test other one there.pool.0 (omega (arith, above, apart)) there.free in
    absurd (omega (arith, less, here.lower, there.lower)))
    (cases_lt one other))
    (cases_eq one other)

-- none of them is one of the four
absent : (xs : List ℕ) (block : ℕ) → ((j : ℕ) → j < length xs → slice_index xs j ≢ block) → is_append xs block ≡ false
absent [] block each = refl
absent (x ∷ xs) block each = rw (other_test x block (each 0 (omega arith))) (absent xs block (λ j low. each (suc j) (omega (arith, low))))

-- a big-block that a zone left, and in which nothing is live
pub replaced_free : (bigblocks : ℕ) (zones : Zones) (held : ℕ) (append append' : List ℕ) (maps : Maps) (now : PageMap) (states : References)
    → StandBy bigblocks append maps states → IsAdmitted bigblocks zones held append append' maps now
    → (k : ℕ) → k < 4 → does_lack zones (room_in append maps.current) (TREE_ZONE + k) ≡ true → is_unused states (slice_index append k) ≡ true
    → is_free append' states (slice_index append k) ≡ true
replaced_free bigblocks zones held append append' maps now states stand admitted k low lacks unused =
    ap (λ (b : Bool). not b && is_unused states block) (absent append' block apart) ∙ unused where
      block : ℕ
      block = slice_index append k

      apart : (j : ℕ) → j < length append' → slice_index append' j ≢ slice_index append k
      apart j inside same = by_test (does_lack zones (room_in append maps.current) (TREE_ZONE + j)) refl where
        few : j < 4
        few = omega (arith, inside, (admitted.stand states stand).appended.four)

        by_test : (b : Bool) → does_lack zones (room_in append maps.current) (TREE_ZONE + j) ≡ b → ⊥
        by_test true is =
            let fresh = clear_block append maps (slice_index append' j) (admitted.lowest.begun j few is).free in
            true≢false (sym (ap (is_append append) same ∙ has_at append k (omega (arith, low, stand.appended.four))) ∙ fresh.apart)
        by_test false has =
            let both : slice_index append j ≡ slice_index append k = sym (admitted.lowest.others j few has) ∙ same in
            let zones_same : TREE_ZONE + j ≡ TREE_ZONE + k =
            sym (stand.appended.zone j few) ∙ ap (λ (b : ℕ). (entry_of maps.current b).zone) both ∙ stand.appended.zone k low in
            let here : j ≡ k = omega (arith, zones_same) in
            true≢false (sym (ap (λ (x : ℕ). does_lack zones (room_in append maps.current) (TREE_ZONE + x)) here ∙ lacks) ∙ has)

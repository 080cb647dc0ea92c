-- A zone begins a big-block that is free: the freemap stands for the same states.
use Rattle.std.proofs.Common.{◌≡◌, ◌≢◌, Bool, true, false, true≢false, ℕ, zero, suc, ◌+◌, ◌-◌, ◌%◌, ◌<◌, ◌≤◌, inl, ⊎_elim, List, [], ◌∷◌, ◌++◌}
use Rattle.std.proofs.Common.{length, set, slice_index, slice_set, refl, sym, ap, subst, ◌∙◌, arith, cond, not, ◌&&◌, ◌||◌, nat_eq, eqb-true, eq-eqb}
use Rattle.std.proofs.Common.{pos, ◌+ℤ◌}
use Rattle.std.specs.Prelude.{All}
use Rattle.std.proofs.lemmas.Bool.{cases_eq, not-true}
use Rattle.std.proofs.lemmas.List.{get_or-set_same, get_or-set_other, length-set}
use Rattle.std.proofs.lemmas.List.Elements.{All-append, All-head, All-tail, All-cons, All-nil}
use Rattle.std.proofs.lemmas.Int.{ints}
use Rattle.hm_types.specs.Layout.{IsPool, first_pool}
use Rattle.hm_types.specs.References.{Reference, References, IsPlaced, is_in, unit_of, is_append, is_unused, is_free, live_bytes}
use Rattle.hm_types.specs.Space.{rounded}
use Rattle.hm_types.specs.declared.limits.TheConstants.{BIGBLOCK_BYTES}
use Rattle.hm_types.specs.declared.zone.TheConstants.{TREE_ZONE}
use Rattle.hm_fields.specs.Pages.{PageMap}
use Rattle.hm_freemap.specs.Admit.{entry_begun}
use Rattle.hm_freemap.specs.Entry.{IsPoolEntry}
use Rattle.hm_freemap.specs.Extents.{with_current}
use Rattle.hm_freemap.specs.Stand.{Maps, StandBy, IsBelow, AreAppended, AreDistinct, AreOfPool, EntryPut, all_of, home_of, entry_of, room_in}
use Rattle.hm_freemap.specs.Stand.{append_of, is_handed_out, is_free_by, free_by}
use Rattle.hm_freemap.specs.declared.entry.Entry.{Entry}
use Rattle.hm_freemap.proofs.BoundLemmas.{placed_size}
use Rattle.hm_freemap.proofs.CountLemmas.{bit, bit_one, is_one, one_most, one_there, pair_less, pair_more}
use Rattle.hm_freemap.proofs.FreeLemmas.{free_is_unused}
use Rattle.hm_freemap.proofs.ListLemmas.{all_left, all_right, and_left, and_right}
use Rattle.hm_freemap.proofs.MapsLemmas.{IsClear, clear_block, clear_other, has_at, is_clear_at, not_free_by}
use Rattle.hm_freemap.proofs.PutLemmas.{other_test, same_test}
use Rattle.hm_freemap.proofs.StandLemmas.{tells_after}
use Rattle.hm_freemap.proofs.TakeLemmas.{all_both, handed_out}

-- a big-block in which nothing is live is no reference's
unused_home : (bigblocks block : ℕ) (rs : List Reference) → All (IsPlaced bigblocks) rs → live_bytes rs block ≡ 0 → All (λ r. home_of r ≢ block) rs
unused_home bigblocks block [] placed none = All-nil (λ r. home_of r ≢ block)
unused_home bigblocks block (r ∷ rs) placed none =
    let size = placed_size r.len (All-head (IsPlaced bigblocks) r rs placed).some in
    All-cons (λ r. home_of r ≢ block) r rs
    (λ same.
    let is : cond (is_in block r) (rounded r.len) 0 ≡ rounded r.len = ap (λ (b : Bool). cond b (rounded r.len) 0) (eq-eqb (home_of r) block same) in
    absurd (omega (arith, none, is, size)))
    (unused_home bigblocks block rs (All-tail (IsPlaced bigblocks) r rs placed) (omega (arith, none)))

pub zero_test : (n : ℕ) → nat_eq n 0 ≡ true → n ≡ 0
zero_test n is = eqb-true n 0 is

-- what a big-block that is free is
pub record IsFreeBlock (append : List ℕ) (states : References) (block : ℕ) : Type 0 where
  pub apart : is_append append block ≡ false
  pub committed : live_bytes states.committed block ≡ 0
  pub frozen : live_bytes states.frozen block ≡ 0
  pub current : live_bytes states.current block ≡ 0

pub free_block : (append : List ℕ) (states : References) (block : ℕ) → is_free append states block ≡ true → IsFreeBlock append states block
free_block append states block is =
    let c = nat_eq (live_bytes states.committed block) 0 in
    let f = nat_eq (live_bytes states.frozen block) 0 in
    let u = nat_eq (live_bytes states.current block) 0 in
    let n = not (is_append append block) in
    let rest = and_right n ((c && f) && u) is in
    let both = and_left (c && f) u rest in
    record {
      apart = not-true (is_append append block) (and_left n ((c && f) && u) is);
      committed = zero_test (live_bytes states.committed block) (and_left c f both);
      frozen = zero_test (live_bytes states.frozen block) (and_right c f both);
      current = zero_test (live_bytes states.current block) (and_right (c && f) u rest);
    }

-- a test that no element of a list passes
none_at : (xs : List ℕ) (block i : ℕ) → is_append xs block ≡ false → i < length xs → slice_index xs i ≢ block
none_at [] block i none low same = absurd (omega arith)
none_at (x ∷ xs) block zero none low same = true≢false (sym (eq-eqb x block same) ∙ or_left (nat_eq x block) (is_append xs block) none) where
  or_left : (a b : Bool) → (a || b) ≡ false → a ≡ false
  or_left true b is = is
  or_left false b is = refl
none_at (x ∷ xs) block (suc i) none low same = none_at xs block i (or_right (nat_eq x block) (is_append xs block) none) (omega arith) same where
  or_right : (a b : Bool) → (a || b) ≡ false → b ≡ false
  or_right true b is = absurd (true≢false is)
  or_right false b is = is

-- the four with one replaced
pub set_none : (xs : List ℕ) (k new block : ℕ) → is_append xs block ≡ false → new ≢ block → is_append (set xs k new) block ≡ false
set_none [] k new block none other = refl
set_none (x ∷ xs) zero new block none other = rw (other_test new block other) (or_right (nat_eq x block) (is_append xs block) none) where
  or_right : (a b : Bool) → (a || b) ≡ false → b ≡ false
  or_right true b is = absurd (true≢false is)
  or_right false b is = is
set_none (x ∷ xs) (suc k) new block none other = both (nat_eq x block) (is_append xs block) (is_append (set xs k new) block) none
    (λ rest. set_none xs k new block rest other) where
      both : (a b c : Bool) → (a || b) ≡ false → (b ≡ false → c ≡ false) → (a || c) ≡ false
      both true b c is step = is
      both false b c is step = step is

set_same : (xs : List ℕ) (k new x : ℕ) → new ≢ x → slice_index xs k ≢ x → is_append (set xs k new) x ≡ is_append xs x
set_same [] k new x other apart = refl
set_same (y ∷ ys) zero new x other apart = rw (other_test new x other, other_test y x apart) refl
set_same (y ∷ ys) (suc k) new x other apart = ap (λ (b : Bool). nat_eq y x || b) (set_same ys k new x other apart)

pub set_has : (xs : List ℕ) (k new : ℕ) → k < length xs → is_append (set xs k new) new ≡ true
set_has [] k new low = absurd (omega arith)
set_has (y ∷ ys) zero new low = rw (same_test new) refl
set_has (y ∷ ys) (suc k) new low = or_true (nat_eq y new) (is_append (set ys k new) new) (set_has ys k new (omega arith)) where
  or_true : (a b : Bool) → b ≡ true → (a || b) ≡ true
  or_true true b is = refl
  or_true false b is = is

pub free_is : (append : List ℕ) (states : References) (block : ℕ) → is_append append block ≡ false → live_bytes states.committed block ≡ 0
    → live_bytes states.frozen block ≡ 0 → live_bytes states.current block ≡ 0 → is_free append states block ≡ true
free_is append states block apart committed frozen current =
    let c = eq-eqb (live_bytes states.committed block) 0 committed in
    let f = eq-eqb (live_bytes states.frozen block) 0 frozen in
    let u = eq-eqb (live_bytes states.current block) 0 current in
    rw (apart, c, f, u) refl

pub not_free : (append : List ℕ) (states : References) (block : ℕ) → is_append append block ≡ true → is_free append states block ≡ false
not_free append states block is = ap (λ (b : Bool). not b && is_unused states block) is

zero_unit : (zone : ℕ) → 0 % unit_of zone ≡ 0
zero_unit zone = by_test (nat_eq zone TREE_ZONE) where
  by_test : (t : Bool) → 0 % cond t 4096 16 ≡ 0
  by_test true = omega arith
  by_test false = omega arith

module _ (bigblocks : ℕ) (append : List ℕ) (maps : Maps) (four : length append ≡ 4)
    (k : ℕ) (low : k < 4) (block : ℕ) (inside : IsPool bigblocks block) (is : is_free_by append maps block ≡ true)
    (now : PageMap) (put : EntryPut block (entry_begun (TREE_ZONE + k)) maps.current now) where
  abbrev after : List ℕ
  after = slice_set append k block

  clear : IsClear append maps block
  clear = clear_block append maps block is

  at_place : slice_index after k ≡ block
  at_place = get_or-set_same append k block 0 (omega (arith, four))

  at_other : (j : ℕ) → j ≢ k → slice_index after j ≡ slice_index append j
  at_other j other = get_or-set_other append k j block 0 other

  append_apart : (j : ℕ) → j < 4 → slice_index append j ≢ block
  append_apart j few = none_at append block j clear.apart (omega (arith, four))

  below_begun : (r : Reference) → home_of r ≢ block → IsBelow maps.current r → IsBelow now r
  below_begun r apart below =
      let same = put.others (home_of r) apart in
      record {
        zone = ap (λ (e : Entry). e.zone) same ∙ below.zone;
        end = omega (arith, below.end, ap (λ (e : Entry). e.append_off) same);
      }

  begun_entry : IsPoolEntry (entry_begun (TREE_ZONE + k))
  begun_entry = inl (record {
    zone = (omega arith, omega arith);
    append = omega arith;
    unit = zero_unit (TREE_ZONE + k);
  })

  pub begun_pool : AreOfPool bigblocks append → AreOfPool bigblocks (slice_set append k block)
  begun_pool pool j few = ⊎_elim
      (λ (same : j ≡ k). subst (IsPool bigblocks) (sym (ap (slice_index after) same ∙ at_place)) inside)
      (λ other. subst (IsPool bigblocks) (sym (at_other j other)) (pool j few))
      (cases_eq j k)

  pub begun_distinct : AreDistinct append → AreDistinct (slice_set append k block)
  begun_distinct distinct i j less few same = ⊎_elim
      (λ (first : i ≡ k). ⊎_elim
      (λ (second : j ≡ k). first ∙ sym second)
      (λ other. absurd (append_apart j few (sym (at_other j other) ∙ (sym same ∙ (ap (slice_index after) first ∙ at_place)))))
      (cases_eq j k))
      (λ apart. ⊎_elim
      (λ (second : j ≡ k). absurd (append_apart i less (sym (at_other i apart) ∙ (same ∙ (ap (slice_index after) second ∙ at_place)))))
      (λ other. distinct i j less few (sym (at_other i apart) ∙ (same ∙ at_other j other)))
      (cases_eq j k))
      (cases_eq i k)

  begun_appended : AreAppended bigblocks append maps.current → AreAppended bigblocks after now
  begun_appended appended = record {
    four = length-set append k block ∙ appended.four;
    pool = begun_pool appended.pool;
    zone = λ j few. ⊎_elim
        (λ (same : j ≡ k). ap (λ (b : ℕ). (entry_of now b).zone) (ap (slice_index after) same ∙ at_place) ∙ ap (λ (e : Entry). e.zone) put.put
        ∙ omega (arith, same))
        (λ other. ap (λ (b : ℕ). (entry_of now b).zone) (at_other j other)
        ∙ ap (λ (e : Entry). e.zone) (put.others (slice_index append j) (append_apart j few)) ∙ appended.zone j few)
        (cases_eq j k);
  }

  module _ (states : References) (stand : StandBy bigblocks append maps states) where
    unused : IsFreeBlock append states block
    unused = free_block append states block (sym (free_is_unused bigblocks append maps states block stand inside) ∙ is)

    homes : All (λ r. home_of r ≢ block) (all_of states)
    homes =
        let rest = states.frozen ++ states.committed in
        let more = all_right (IsPlaced bigblocks) states.current rest stand.placed in
        All-append (λ r. home_of r ≢ block) states.current rest
        (unused_home bigblocks block states.current (all_left (IsPlaced bigblocks) states.current rest stand.placed) unused.current)
        (All-append (λ r. home_of r ≢ block) states.frozen states.committed
        (unused_home bigblocks block states.frozen (all_left (IsPlaced bigblocks) states.frozen states.committed more) unused.frozen)
        (unused_home bigblocks block states.committed (all_right (IsPlaced bigblocks) states.frozen states.committed more) unused.committed))

    begun_free : pos BIGBLOCK_BYTES +ℤ pos (live_bytes states.current block) ≡ pos BIGBLOCK_BYTES
    begun_free = let none = unused.current in omega (arith, ints, none)

    pub begun_stands : StandBy bigblocks (slice_set append k block) (with_current now maps) states
    begun_stands = record {
      committed = stand.committed;
      frozen = stand.frozen;
      current = tells_after block (entry_begun (TREE_ZONE + k)) maps.current now put bigblocks states.current states.current
          begun_entry begun_free (λ b other. refl) stand.current;
      appended = begun_appended stand.appended;
      placed = stand.placed;
      below = all_both (λ r. home_of r ≢ block) (IsBelow maps.current) (IsBelow now) (all_of states) below_begun homes stand.below;
      apart = stand.apart;
      few = stand.few;
    }

  -- which big-blocks are free changed at the new one and the old one alone
  same_free : (x : ℕ) → x ≢ block → x ≢ slice_index append k → is_free_by after (with_current now maps) x ≡ is_free_by append maps x
  same_free x other apart =
      let c = is_clear_at maps.committed x in
      let f = is_clear_at maps.frozen x in
      ap (λ (b : Bool). not b && (c && (f && is_clear_at now x))) (set_same append k block x (λ e. other (sym e)) (λ e. apart (sym e)))
      ∙ ap (λ (b : Bool). not (is_append append x) && (c && (f && b))) (clear_other maps block (entry_begun (TREE_ZONE + k)) now put x other)

  gone : is_free_by after (with_current now maps) block ≡ false
  gone = not_free_by after (with_current now maps) block (set_has append k block (omega (arith, four)))

  used : is_free_by append maps (slice_index append k) ≡ false
  used = not_free_by append maps (slice_index append k) (has_at append k (omega (arith, four)))

  each_more : (x : ℕ) → bit (is_free_by after (with_current now maps) x) + bit (is_one block x)
      ≤ bit (is_free_by append maps x) + bit (is_one (slice_index append k) x)
  each_more x = ⊎_elim
      (λ (same : x ≡ block).
      let a : bit (is_free_by after (with_current now maps) x) ≡ 0 = ap (λ (y : ℕ). bit (is_free_by after (with_current now maps) y)) same ∙ ap bit gone in
      let b : bit (is_free_by append maps x) ≡ 1 = ap (λ (y : ℕ). bit (is_free_by append maps y)) same ∙ ap bit is in
      omega (arith, a, b, bit_one (is_one block x)))
      (λ other.
      let none : bit (is_one block x) ≡ 0 = ap bit (other_test x block other) in
      ⊎_elim
      (λ (old : x ≡ slice_index append k).
      let one : bit (is_one (slice_index append k) x) ≡ 1 = ap bit (eq-eqb x (slice_index append k) old) in
      omega (arith, none, one, bit_one (is_free_by after (with_current now maps) x)))
      (λ apart.
      let same : bit (is_free_by after (with_current now maps) x) ≡ bit (is_free_by append maps x) = ap bit (same_free x other apart) in
      omega (arith, none, same))
      (cases_eq x (slice_index append k)))
      (cases_eq x block)

  each_less : (x : ℕ) → bit (is_free_by append maps x) ≤ bit (is_free_by after (with_current now maps) x) + bit (is_one block x)
  each_less x = ⊎_elim
      (λ (same : x ≡ block).
      let one : bit (is_one block x) ≡ 1 = ap bit (eq-eqb x block same) in
      omega (arith, one, bit_one (is_free_by append maps x)))
      (λ other. ⊎_elim
      (λ (old : x ≡ slice_index append k).
      let none : bit (is_free_by append maps x) ≡ 0 = ap (λ (y : ℕ). bit (is_free_by append maps y)) old ∙ ap bit used in
      omega (arith, none))
      (λ apart.
      let same : bit (is_free_by after (with_current now maps) x) ≡ bit (is_free_by append maps x) = ap bit (same_free x other apart) in
      omega (arith, same))
      (cases_eq x (slice_index append k)))
      (cases_eq x block)

  pub no_more : free_by bigblocks (slice_set append k block) (with_current now maps) ≤ free_by bigblocks append maps
  no_more =
      let first = first_pool bigblocks in
      let n = bigblocks - first in
      let sum =
      pair_more (is_free_by append maps) (is_free_by after (with_current now maps)) (is_one block) (is_one (slice_index append k)) first n each_more in
      let one = one_there block first n inside.0 (omega (arith, inside.0, inside.1)) in
      omega (arith, sum, one, one_most (slice_index append k) first n)

  pub one_less : free_by bigblocks append maps ≤ free_by bigblocks (slice_set append k block) (with_current now maps) + 1
  one_less =
      let first = first_pool bigblocks in
      let n = bigblocks - first in
      let sum = pair_less (is_free_by append maps) (is_free_by after (with_current now maps)) (is_one block) first n each_less in
      omega (arith, sum, one_most block first n)

  pub room_begun : room_in (slice_set append k block) now (TREE_ZONE + k) ≡ BIGBLOCK_BYTES
  room_begun =
      let place : TREE_ZONE + k - TREE_ZONE ≡ k = omega arith in
      let here : entry_of now (append_of after (TREE_ZONE + k)) ≡ entry_begun (TREE_ZONE + k) =
      ap (λ (j : ℕ). entry_of now (slice_index after j)) place ∙ ap (entry_of now) at_place ∙ put.put in
      let handed = handed_out (TREE_ZONE + k) (omega arith) (omega arith) in
      ap (λ (e : Entry). cond (is_handed_out (TREE_ZONE + k)) (BIGBLOCK_BYTES - e.append_off) 0) here ∙ ap (λ (b : Bool). cond b (BIGBLOCK_BYTES - 0) 0) handed

  pub room_other : (j : ℕ) → j < 4 → j ≢ k → room_in (slice_set append k block) now (TREE_ZONE + j) ≡ room_in append maps.current (TREE_ZONE + j)
  room_other j few other =
      let place : TREE_ZONE + j - TREE_ZONE ≡ j = omega arith in
      let one : append_of after (TREE_ZONE + j) ≡ slice_index append j = ap (slice_index after) place ∙ at_other j other in
      let two : append_of append (TREE_ZONE + j) ≡ slice_index append j = ap (slice_index append) place in
      let same : entry_of now (append_of after (TREE_ZONE + j)) ≡ entry_of maps.current (append_of append (TREE_ZONE + j)) =
      ap (entry_of now) one ∙ put.others (slice_index append j) (append_apart j few) ∙ ap (entry_of maps.current) (sym two) in
      ap (λ (e : Entry). cond (is_handed_out (TREE_ZONE + j)) (BIGBLOCK_BYTES - e.append_off) 0) same

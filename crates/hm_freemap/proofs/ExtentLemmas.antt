-- Extents that are shared and given back: the freemap stands for one reference more, and for one less.
use Rattle.std.proofs.Common.{◌≡◌, ◌≢◌, Bool, true, false, true≢false, ℕ, ◌+◌, ◌-◌, ◌*◌, ◌%◌, ◌^◌, ◌<◌, ◌≤◌, inl, inr, ⊎_elim, List, [], ◌∷◌, ◌++◌}
use Rattle.std.proofs.Common.{refl, sym, ap, subst, ◌∙◌, arith, cond, nat_eq, eq-eqb, pos, ◌+ℤ◌}
use Rattle.std.specs.Prelude.{All, count_by}
use Rattle.std.specs.List.{list_any}
use Rattle.std.proofs.lemmas.Bool.{cases_eq}
use Rattle.std.proofs.lemmas.Int.{ints}
use Rattle.std.proofs.lemmas.List.Elements.{All-head, All-tail, All-cons, All-weaker}
use Rattle.hm_types.specs.Layout.{IsPool, block_of, start_of}
use Rattle.hm_types.specs.Offset.{zone_of, volume_of, byte_of}
use Rattle.hm_types.specs.References.{Reference, References, begin_of, end_of, IsPlaced, NoneOverlap, DoNotOverlap, IsOneExtent, AreFew, is_there}
use Rattle.hm_types.specs.References.{is_in, unit_of, live_bytes}
use Rattle.hm_types.specs.Space.{rounded}
use Rattle.hm_types.specs.declared.limits.TheConstants.{BIGBLOCK_BYTES}
use Rattle.hm_types.specs.declared.space.TheConstants.{MOST_REFERENCES}
use Rattle.hm_types.specs.declared.zone.TheConstants.{TREE_ZONE, SMALL_ZONE}
use Rattle.hm_fields.specs.Pages.{PageMap}
use Rattle.hm_freemap.specs.Change.{MayHold, shared, given}
use Rattle.hm_freemap.specs.Entry.{IsOwned, IsPoolEntry}
use Rattle.hm_freemap.specs.Extents.{Changes, IsReferred, IsShareable, is_extent, referred, unreferred, without_one, with_current}
use Rattle.hm_freemap.specs.Stand.{Maps, StandBy, IsBelow, EntryPut, all_of, home_of, entry_of, is_free_by, is_whole_block, room_in}
use Rattle.hm_freemap.specs.declared.entry.Entry.{Entry}
use Rattle.hm_freemap.proofs.BoundLemmas.{live_few, placed_size}
use Rattle.hm_freemap.proofs.CountLemmas.{bit, count-cons}
use Rattle.hm_freemap.proofs.EntryLemmas.{free_less, free_more}
use Rattle.hm_freemap.proofs.ListLemmas.{all_left, all_without, apart_left, apart_without, few_without, live_without, one_extent, or_second}
use Rattle.hm_freemap.proofs.MapsLemmas.{clear_block, free_kept, given_whole, shared_whole}
use Rattle.hm_freemap.proofs.PlaceLemmas.{page_zone}
use Rattle.hm_freemap.proofs.PutLemmas.{other_test, same_test}
use Rattle.hm_freemap.proofs.StandLemmas.{changed_at, stand_after, all_below, room_kept}

-- a reference to the extent among the first ones, of which something holds
pub record Found (r : Reference) (P : Reference → Type 0) : Type 0 where
  pub s : Reference
  pub same : IsOneExtent r s
  pub holds : P s

pub find_one : (r : Reference) (P : Reference → Type 0) (xs ys : List Reference) → list_any (is_extent r) xs ≡ true → All P (xs ++ ys) → Found r P
find_one r P [] ys is each = absurd (true≢false (sym is))
find_one r P (x ∷ xs) ys is each = by_test (is_extent r x) refl (λ more. find_one r P xs ys more (All-tail P x (xs ++ ys) each)) where
  by_test : (b : Bool) → is_extent r x ≡ b → (list_any (is_extent r) xs ≡ true → Found r P) → Found r P
  by_test true same rest = record { s = x; same = one_extent r x same; holds = All-head P x (xs ++ ys) each }
  by_test false other rest = rest (or_second (is_extent r x) (list_any (is_extent r) xs) is other)

same_begin : (r s : Reference) → IsOneExtent r s → begin_of r ≡ begin_of s
same_begin r s same = ap (λ (at : ℕ). begin_of (record { at = at; len = r.len })) same.place

same_end : (r s : Reference) → IsOneExtent r s → end_of r ≡ end_of s
same_end r s same = let begin = same_begin r s same in omega (arith, begin, same.size)

same_home : (r s : Reference) → IsOneExtent r s → home_of r ≡ home_of s
same_home r s same = ap block_of (same_begin r s same)

-- what does not overlap an extent does not overlap another reference to it
pub overlap_same : (r s t : Reference) → IsOneExtent r s → DoNotOverlap s t → DoNotOverlap r t
overlap_same r s t same apart =
    let begin = same_begin r s same in
    let end = same_end r s same in
    elim apart [
      | inl one ↦ inl (record { place = same.place ∙ one.place; size = same.size ∙ one.size })
      | inr other ↦ elim other [
        | inl before ↦ inr (inl (omega (arith, end, before)))
        | inr after ↦ inr (inr (omega (arith, begin, after)))
      ]
    ]

pub overlap_turned : (r s : Reference) → DoNotOverlap r s → DoNotOverlap s r
overlap_turned r s apart = elim apart [
  | inl one ↦ inl (record { place = sym one.place; size = sym one.size })
  | inr other ↦ elim other [
    | inl before ↦ inr (inr before)
    | inr after ↦ inr (inl after)
  ]
]

-- a further reference to an extent overlaps nothing
pub overlaps_none : (r : Reference) (xs ys : List Reference) → list_any (is_extent r) xs ≡ true → NoneOverlap (xs ++ ys) → All (DoNotOverlap r) (xs ++ ys)
overlaps_none r [] ys is apart = absurd (true≢false (sym is))
overlaps_none r (x ∷ xs) ys is apart = by_test (is_extent r x) refl (λ more. overlaps_none r xs ys more apart.1) where
  by_test : (b : Bool) → is_extent r x ≡ b → (list_any (is_extent r) xs ≡ true → All (DoNotOverlap r) (xs ++ ys)) → All (DoNotOverlap r) (x ∷ xs ++ ys)
  by_test true same rest =
      let one = one_extent r x same in
      All-cons (DoNotOverlap r) x (xs ++ ys) (inl one) (All-weaker (DoNotOverlap x) (DoNotOverlap r) (λ t other. overlap_same r x t one other)
      (xs ++ ys) apart.0)
  by_test false other rest =
      let more = or_second (is_extent r x) (list_any (is_extent r) xs) is other in
      let found = find_one r (DoNotOverlap x) xs ys more apart.0 in
      All-cons (DoNotOverlap r) x (xs ++ ys) (overlap_same r found.s x found.same (overlap_turned x found.s found.holds)) (rest more)

-- one reference more to an extent that has fewer than 64
pub few_more : (r : Reference) (xs : List Reference) → count_by (is_there r) xs < MOST_REFERENCES → AreFew xs → AreFew (r ∷ xs)
few_more r xs room few =
    All-cons (λ y. count_by (is_there y) (r ∷ xs) ≤ MOST_REFERENCES) r xs
    (let mine : bit (is_there r r) ≡ 1 = ap bit (same_test r.at) in omega (arith, mine, room, count-cons (is_there r) r xs))
    (All-weaker (λ y. count_by (is_there y) xs ≤ MOST_REFERENCES) (λ y. count_by (is_there y) (r ∷ xs) ≤ MOST_REFERENCES)
    (λ y le. ⊎_elim
    (λ (same : y.at ≡ r.at).
    let one : bit (is_there y r) ≡ 1 = ap bit (eq-eqb y.at r.at same) in
    let all : count_by (is_there y) xs ≡ count_by (is_there r) xs = ap (λ (at : ℕ). count_by (λ s. nat_eq at s.at) xs) same in
    omega (arith, one, all, room, count-cons (is_there y) r xs))
    (λ other.
    let none : bit (is_there y r) ≡ 0 = ap bit (other_test y.at r.at other) in
    omega (arith, none, le, count-cons (is_there y) r xs))
    (cases_eq y.at r.at))
    xs few)

-- a big-block of a zone that space is handed out in is not unused
pub owned : (e : Entry) → IsPoolEntry e → TREE_ZONE ≤ e.zone → IsOwned e
owned e entry zone = elim entry [
  | inl is ↦ is
  | inr unused ↦ absurd (omega (arith, unused.zone, zone))
]

-- the live bytes of other big-blocks are as they were
pub elsewhere : (r : Reference) (b live : ℕ) → b ≢ home_of r → cond (is_in b r) (rounded r.len) 0 + live ≡ live
elsewhere r b live other =
    let none : is_in b r ≡ false = other_test (home_of r) b (λ same. other (sym same)) in
    let zero : cond (is_in b r) (rounded r.len) 0 ≡ 0 = ap (λ (x : Bool). cond x (rounded r.len) 0) none in
    omega (arith, zero)

pub here : (r : Reference) (b live : ℕ) → b ≡ home_of r → cond (is_in b r) (rounded r.len) 0 + live ≡ rounded r.len + live
here r b live same =
    let is : is_in b r ≡ true = eq-eqb (home_of r) b (sym same) in
    ap (λ (x : Bool). cond x (rounded r.len) 0 + live) is

pub placed_same : (bigblocks : ℕ) (q s : Reference) → 1 ≤ q.len → IsOneExtent q s → IsPlaced bigblocks s → IsPlaced bigblocks q
placed_same bigblocks q s some same placed = record {
  some = some;
  volume = ap volume_of same.place ∙ placed.volume;
  zone = subst (λ (a : ℕ). (TREE_ZONE ≤ zone_of a) × (zone_of a ≤ SMALL_ZONE)) (sym same.place) placed.zone;
  unit = subst (λ (a : ℕ). byte_of a % unit_of (zone_of a) ≡ 0) (sym same.place) placed.unit;
  pool = subst (λ (a : ℕ). IsPool bigblocks (block_of (byte_of a))) (sym same.place) placed.pool;
  inside = ap (λ (e : ℕ). block_of (e - 1)) (same_end q s same) ∙ placed.inside ∙ ap block_of (sym (same_begin q s same));
}

pub below_same : (current : PageMap) (q s : Reference) → IsOneExtent q s → IsBelow current s → IsBelow current q
below_same current q s same below =
    let home = same_home q s same in
    record {
      zone = ap (λ (b : ℕ). (entry_of current b).zone) home ∙ below.zone ∙ ap zone_of (sym same.place);
      end = subst (λ (b : ℕ). end_of q ≤ start_of b + (entry_of current b).append_off) (sym home) (omega (arith, below.end, same_end q s same));
    }

pub placed_extent : (bigblocks : ℕ) (append : List ℕ) (r : Reference) (maps : Maps) (states : References) → StandBy bigblocks append maps states
    → IsReferred r states → IsPlaced bigblocks r
placed_extent bigblocks append r maps states stand live =
    let placed = find_one r (IsPlaced bigblocks) states.current (states.frozen ++ states.committed) live stand.placed in
    let size = placed_size placed.s.len placed.holds.some in
    let some : 1 ≤ r.len = omega (arith, size, placed.same.size) in
    placed_same bigblocks r placed.s some placed.same placed.holds

-- the entry of its big-block leaves room for what is live
pub held_extent : (bigblocks : ℕ) (append : List ℕ) (r : Reference) (maps : Maps) (states : References) → StandBy bigblocks append maps states
    → IsReferred r states → MayHold (rounded r.len) (entry_of maps.current (home_of r))
held_extent bigblocks append r maps states stand live =
    let home = home_of r in
    let rest = live_bytes (without_one r states.current) home in
    let all : live_bytes states.current home ≡ rounded r.len + rest = live_without home r states.current live ∙ here r home rest refl in
    let free = (stand.current home (placed_extent bigblocks append r maps states stand live).pool).free in
    record { leaves = omega (arith, ints, all, free) }

module _ (bigblocks : ℕ) (append : List ℕ) (r : Reference) (maps : Maps) (now : PageMap) (block : ℕ) (entry : Entry)
    (at : block ≡ home_of r) (small : block < 2 ^ 32) (read : entry ≡ entry_of maps.current block) (holds : IsPoolEntry entry)
    (held : MayHold (rounded r.len) entry) where
  held_there : MayHold (rounded r.len) (entry_of maps.current (home_of r))
  held_there = subst (λ (b : ℕ). MayHold (rounded r.len) (entry_of maps.current b)) at (subst (MayHold (rounded r.len)) read held)

  -- an entry that was read is clear where the big-block is free
  was_whole : is_free_by append maps block ≡ true → is_whole_block entry.bytes_free ≡ true
  was_whole is = subst (λ (e : Entry). is_whole_block e.bytes_free ≡ true) (sym read) (clear_block append maps block is).current

  entry_owned : (states : References) → StandBy bigblocks append maps states → IsReferred r states → IsOwned entry
  entry_owned states stand live =
      let placed = find_one r (IsPlaced bigblocks) states.current (states.frozen ++ states.committed) live stand.placed in
      let below = find_one r (IsBelow maps.current) states.current (states.frozen ++ states.committed) live stand.below in
      let mine : zone_of placed.s.at ≡ zone_of below.s.at = ap zone_of (sym placed.same.place ∙ below.same.place) in
      let zone : entry.zone ≡ zone_of below.s.at =
      ap (λ (e : Entry). e.zone) read ∙ ap (λ (b : ℕ). (entry_of maps.current b).zone) (at ∙ same_home r below.s below.same) ∙ below.holds.zone in
      owned entry holds (omega (arith, placed.holds.zone, mine, zone))

  tells_here : (states : References) → StandBy bigblocks append maps states → IsPlaced bigblocks r
      → entry.bytes_free +ℤ pos (live_bytes states.current block) ≡ pos BIGBLOCK_BYTES
  tells_here states stand placed =
      let pool : IsPool bigblocks block = subst (IsPool bigblocks) (sym at) placed.pool in
      subst (λ (e : Entry). e.bytes_free +ℤ pos (live_bytes states.current block) ≡ pos BIGBLOCK_BYTES) (sym read) (stand.current block pool).free

  bound : (states : References) → StandBy bigblocks append maps states → live_bytes states.current block ≤ MOST_REFERENCES * BIGBLOCK_BYTES
  bound states stand =
      let rest = states.frozen ++ states.committed in
      live_few bigblocks block states.current (all_left (IsPlaced bigblocks) states.current rest stand.placed)
      (apart_left states.current rest stand.apart) stand.few.2

  module _ (put : EntryPut block (shared (rounded r.len) entry) maps.current now) where
    share_stands : (states : References) → StandBy bigblocks append maps states → IsShareable r states
        → StandBy bigblocks append (with_current now maps) (referred r states)
    share_stands states stand needs =
        let rest = states.frozen ++ states.committed in
        let next = shared (rounded r.len) entry in
        let zone : next.zone ≡ (entry_of maps.current block).zone = ap (λ (e : Entry). e.zone) read in
        let up : (entry_of maps.current block).append_off ≤ next.append_off = omega (arith, ap (λ (e : Entry). e.append_off) read) in
        let all = all_below bigblocks append maps states stand block next now put zone up in
        let mine = placed_extent bigblocks append r maps states stand needs.live in
        let placed : All (IsPlaced bigblocks) (r ∷ states.current ++ rest) = All-cons (IsPlaced bigblocks) r (all_of states) mine stand.placed in
        let apart : NoneOverlap (r ∷ states.current ++ rest) = (overlaps_none r states.current rest needs.live stand.apart, stand.apart) in
        let few = few_more r states.current needs.few stand.few.2 in
        let below = find_one r (IsBelow now) states.current rest needs.live all in
        let old = live_bytes states.current block in
        let sum : live_bytes (r ∷ states.current) block ≡ rounded r.len + old = here r block old at in
        let most = live_few bigblocks block (r ∷ states.current) (all_left (IsPlaced bigblocks) (r ∷ states.current) rest placed)
        (apart_left (r ∷ states.current) rest apart) few in
        let tells = free_less entry.bytes_free (rounded r.len) old (tells_here states stand mine) (omega (arith, sum, most)) in
        stand_after bigblocks append maps states stand block next now put zone up (r ∷ states.current)
        (inl (owned_again (entry_owned states stand needs.live)))
        (subst (λ (n : ℕ). next.bytes_free +ℤ pos n ≡ pos BIGBLOCK_BYTES) (sym sum) tells)
        (λ b other. elsewhere r b (live_bytes states.current b) (λ same. other (same ∙ sym at)))
        placed
        (All-cons (IsBelow now) r (all_of states) (below_same now r below.s below.same below.holds) all)
        apart few where
          owned_again : IsOwned entry → IsOwned (shared (rounded r.len) entry)
          owned_again is = record { zone = is.zone; append = is.append; unit = is.unit }

    shared_rooms : (zone : ℕ) → room_in append now zone ≡ room_in append maps.current zone
    shared_rooms = room_kept block (shared (rounded r.len) entry) maps.current now put append (ap (λ (e : Entry). e.append_off) read)

    pub share_changes : Changes bigblocks append r (IsShareable r) (referred r) (shared (rounded r.len)) maps now
    share_changes = record {
      held = held_there;
      put = changed_at (shared (rounded r.len)) block (home_of r) entry maps.current now at read put;
      pages = λ other apart. put.pages other (λ same. apart (ap zone_of same ∙ page_zone block small));
      room = shared_rooms;
      spends = record {
        room = λ zone. omega (arith, shared_rooms zone);
        free = free_kept maps block (shared (rounded r.len) entry) now put bigblocks append
            (λ is. shared_whole entry.bytes_free (rounded r.len) held.leaves (was_whole is));
      };
      stand = share_stands;
    }

  module _ (put : EntryPut block (given (rounded r.len) entry) maps.current now) where
    give_stands : (states : References) → StandBy bigblocks append maps states → IsReferred r states
        → StandBy bigblocks append (with_current now maps) (unreferred r states)
    give_stands states stand live =
        let rest = states.frozen ++ states.committed in
        let next = given (rounded r.len) entry in
        let less = without_one r states.current in
        let zone : next.zone ≡ (entry_of maps.current block).zone = ap (λ (e : Entry). e.zone) read in
        let up : (entry_of maps.current block).append_off ≤ next.append_off = omega (arith, ap (λ (e : Entry). e.append_off) read) in
        let all = all_below bigblocks append maps states stand block next now put zone up in
        let mine = placed_extent bigblocks append r maps states stand live in
        let sum : live_bytes states.current block ≡ rounded r.len + live_bytes less block =
        live_without block r states.current live ∙ here r block (live_bytes less block) at in
        let most = bound states stand in
        let before : entry.bytes_free +ℤ pos (rounded r.len + live_bytes less block) ≡ pos BIGBLOCK_BYTES =
        subst (λ (n : ℕ). entry.bytes_free +ℤ pos n ≡ pos BIGBLOCK_BYTES) sum (tells_here states stand mine) in
        let tells = free_more entry.bytes_free (rounded r.len) (live_bytes less block) before (omega (arith, sum, most)) in
        stand_after bigblocks append maps states stand block next now put zone up less
        (inl (owned_again (entry_owned states stand live)))
        tells
        (λ b other. sym (live_without b r states.current live ∙ elsewhere r b (live_bytes less b) (λ same. other (same ∙ sym at))))
        (all_without (IsPlaced bigblocks) r states.current rest stand.placed)
        (all_without (IsBelow now) r states.current rest all)
        (apart_without r states.current rest stand.apart)
        (few_without r states.current stand.few.2) where
          owned_again : IsOwned entry → IsOwned (given (rounded r.len) entry)
          owned_again is = record { zone = is.zone; append = is.append; unit = is.unit }

    given_rooms : (zone : ℕ) → room_in append now zone ≡ room_in append maps.current zone
    given_rooms = room_kept block (given (rounded r.len) entry) maps.current now put append (ap (λ (e : Entry). e.append_off) read)

    pub give_changes : Changes bigblocks append r (IsReferred r) (unreferred r) (given (rounded r.len)) maps now
    give_changes = record {
      held = held_there;
      put = changed_at (given (rounded r.len)) block (home_of r) entry maps.current now at read put;
      pages = λ other apart. put.pages other (λ same. apart (ap zone_of same ∙ page_zone block small));
      room = given_rooms;
      spends = record {
        room = λ zone. omega (arith, given_rooms zone);
        free = free_kept maps block (given (rounded r.len) entry) now put bigblocks append
            (λ is. given_whole entry.bytes_free (rounded r.len) held.leaves (was_whole is));
      };
      stand = give_stands;
    }

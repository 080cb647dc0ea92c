-- An extent that is taken: it stands behind all that is live in its big-block.
use Rattle.std.proofs.Common.{◌≡◌, ◌≢◌, Bool, true, false, true≢false, ℕ, ◌+◌, ◌-◌, ◌%◌, ◌<◌, ◌≤◌, inl, inr, ⊎_elim, List, [], ◌∷◌, ◌++◌, length}
use Rattle.std.proofs.Common.{Option, Some, None, Err, refl, sym, ap, subst, ◌∙◌, arith, cond, nat_eq, eq-eqb, pos, ◌+ℤ◌}
use Rattle.std.specs.Prelude.{All, count_by, IfSome}
use Rattle.std.proofs.lemmas.Bool.{cases_eq, cases_lt}
use Rattle.std.proofs.lemmas.Bool.Decides.{nat_tests}
use Rattle.std.proofs.lemmas.List.Elements.{All-head, All-tail, All-cons, All-nil, All-weaker}
use Rattle.hm_types.specs.Faults.{IsCaused}
use Rattle.hm_types.specs.declared.damage.TheConstants.{BAD_FREEMAP}
use Rattle.hm_types.specs.declared.fault.Fault.{Fault}
use Rattle.hm_types.specs.declared.fault.Fault.TheVariants.{Damaged}
use Rattle.hm_types.specs.Layout.{IsPool, block_of, start_of}
use Rattle.hm_types.specs.Offset.{zone_of, byte_of, raw_of}
use Rattle.hm_types.specs.References.{Reference, References, end_of, IsPlaced, NoneOverlap, DoNotOverlap, AreFew, is_append, is_there, unit_of, live_bytes}
use Rattle.hm_types.specs.Space.{Spends, rounded, in_zone}
use Rattle.hm_types.specs.declared.limits.TheConstants.{BIGBLOCK_BYTES, MOST_BIGBLOCKS}
use Rattle.hm_types.specs.declared.zone.TheConstants.{TREE_ZONE, SMALL_ZONE}
use Rattle.hm_fields.specs.Pages.{PageMap, page_in}
use Rattle.hm_freemap.specs.Change.{HasRoomFor, appended}
use Rattle.hm_freemap.specs.Entry.{IsOwned, IsPoolEntry, entry_in}
use Rattle.hm_freemap.specs.Extents.{Takes, IsApart, IsUnit, reference, referred, with_current}
use Rattle.hm_freemap.specs.Faults.{HasFreemapCause, IsFreemapDamage, IsGoodBlock}
use Rattle.hm_freemap.specs.Places.{page_of, place_of}
use Rattle.hm_freemap.specs.Space.{free_at, room_at, space_of}
use Rattle.hm_freemap.specs.Stand.{Maps, StandBy, AreDistinct, IsBelow, EntryPut, all_of, append_of, home_of, entry_of, room, room_in, is_handed_out, WhereTold}
use Rattle.hm_freemap.specs.declared.entry.Entry.{Entry}
use Rattle.hm_freemap.proofs.BoundLemmas.{live_few, placed_size, placed_low, placed_high}
use Rattle.hm_freemap.proofs.CountLemmas.{bit, count-cons}
use Rattle.hm_freemap.proofs.EntryLemmas.{free_less}
use Rattle.hm_freemap.proofs.ExtentLemmas.{few_more, owned, here, elsewhere}
use Rattle.hm_freemap.proofs.ListLemmas.{all_left, apart_left}
use Rattle.hm_freemap.proofs.MapsLemmas.{free_kept, has_at, not_free_by}
use Rattle.hm_freemap.proofs.PlaceLemmas.{page_zone}
use Rattle.hm_freemap.proofs.PutLemmas.{other_test}
use Rattle.hm_freemap.proofs.StandLemmas.{changed_at, stand_after, all_below}

pub all_both : (P Q R : Reference → Type 0) (xs : List Reference) → ((x : Reference) → P x → Q x → R x) → All P xs → All Q xs → All R xs
all_both P Q R [] step p q = All-nil R
all_both P Q R (x ∷ xs) step p q =
    All-cons R x xs (step x (All-head P x xs p) (All-head Q x xs q)) (all_both P Q R xs step (All-tail P x xs p) (All-tail Q x xs q))

-- sums of whole units
sum_unit : (zone a b : ℕ) → a % unit_of zone ≡ 0 → b % unit_of zone ≡ 0 → (a + b) % unit_of zone ≡ 0
sum_unit zone a b = by_test (nat_eq zone TREE_ZONE) where
  by_test : (t : Bool) → a % cond t 4096 16 ≡ 0 → b % cond t 4096 16 ≡ 0 → (a + b) % cond t 4096 16 ≡ 0
  by_test true first second = omega arith
  by_test false first second = omega arith

block_unit : (zone block : ℕ) → start_of block % unit_of zone ≡ 0
block_unit zone block = by_test (nat_eq zone TREE_ZONE) where
  by_test : (t : Bool) → start_of block % cond t 4096 16 ≡ 0
  by_test true = omega arith
  by_test false = omega arith

none_there : (r : Reference) (xs : List Reference) → All (λ s. is_there r s ≡ false) xs → count_by (is_there r) xs ≡ 0
none_there r [] each = refl
none_there r (x ∷ xs) each =
    let first : bit (is_there r x) ≡ 0 = ap bit (All-head (λ s. is_there r s ≡ false) x xs each) in
    let rest = none_there r xs (All-tail (λ s. is_there r s ≡ false) x xs each) in
    omega (arith, first, rest, count-cons (is_there r) x xs)

pub handed_out : (zone : ℕ) → TREE_ZONE ≤ zone → zone ≤ SMALL_ZONE → is_handed_out zone ≡ true
handed_out zone low high = grind (arith, nat_tests)

pub is_handed : (zone : ℕ) → is_handed_out zone ≡ true → (TREE_ZONE ≤ zone) × (zone ≤ SMALL_ZONE)
is_handed zone is = grind (arith, nat_tests)

-- a zone that has room is one that space is handed out in
pub zone_of_room : (append : List ℕ) (current : Option PageMap) (zone len : ℕ) → 1 ≤ len → rounded len ≤ room append current zone
    → (TREE_ZONE ≤ zone) × (zone ≤ SMALL_ZONE)
zone_of_room append current zone len some = by_told current where
  by_zone : (t : Bool) (n : ℕ) → is_handed_out zone ≡ t → rounded len ≤ cond t n 0 → (TREE_ZONE ≤ zone) × (zone ≤ SMALL_ZONE)
  by_zone true n is enough = is_handed zone is
  by_zone false n is enough = absurd (omega (arith, placed_size len some, enough))

  by_told : (o : Option PageMap) → rounded len ≤ room append o zone → (TREE_ZONE ≤ zone) × (zone ≤ SMALL_ZONE)
  by_told None enough = by_zone (is_handed_out zone) BIGBLOCK_BYTES refl enough
  by_told (Some map) enough = by_zone (is_handed_out zone) (BIGBLOCK_BYTES - (entry_of map (append_of append zone)).append_off) refl enough

-- where pages are told, an entry in which an extent has no room is that of another zone
pub bad_append : {T : Type 0} (bigblocks : ℕ) (append : List ℕ) (zone len block : ℕ) (page : List ℕ) (c f u : Option PageMap) (old new : ℕ) (fault : Fault)
    → 1 ≤ len → rounded len ≤ room append u zone → block ≡ append_of append zone
    → IfSome u (λ map. map (page_of block) ≡ Some page) → (HasRoomFor zone (rounded len) (entry_in page (place_of block)) → ⊥)
    → fault ≡ Damaged (page_of block) BAD_FREEMAP → old ≤ new
    → HasFreemapCause {T = T} bigblocks append (λ b. b ≡ append_of append zone) c f u old new (Err fault)
bad_append bigblocks append zone len block page c f u old new fault some enough one read none is grows = record {
  counted = record { never_falls = grows; caused = subst (IsCaused old new) (sym is) tt };
  damage = by_told c f u enough read;
} where
  zones : (TREE_ZONE ≤ zone) × (zone ≤ SMALL_ZONE)
  zones = zone_of_room append u zone len some enough

  by_told : (c f o : Option PageMap) → rounded len ≤ room append o zone → IfSome o (λ map. map (page_of block) ≡ Some page)
      → WhereTold c f o (λ maps. IsFreemapDamage bigblocks append (λ b. b ≡ append_of append zone) maps fault)
  by_told None f o enough read = tt
  by_told (Some c) None o enough read = tt
  by_told (Some c) (Some f) None enough read = tt
  by_told (Some c) (Some f) (Some map) enough read =
      let maps : Maps = record { committed = c; frozen = f; current = map } in
      let here : entry_of map block ≡ entry_in page (place_of block) = ap (λ (o : Option (List ℕ)). entry_in (page_in o) (place_of block)) read in
      let handed : room append (Some map) zone ≡ BIGBLOCK_BYTES - (entry_of map (append_of append zone)).append_off =
      ap (λ (t : Bool). cond t (BIGBLOCK_BYTES - (entry_of map (append_of append zone)).append_off) 0) (handed_out zone zones.0 zones.1) in
      let mine : (entry_of map (append_of append zone)).append_off ≡ (entry_in page (place_of block)).append_off =
      ap (λ (b : ℕ). (entry_of map b).append_off) (sym one) ∙ ap (λ (e : Entry). e.append_off) here in
      let size = placed_size len some in
      subst (IsFreemapDamage bigblocks append (λ b. b ≡ append_of append zone) maps) (sym is) (record {
        block = block;
        looked = one;
        place = refl;
        number = refl;
        bad = λ (good : IsGoodBlock bigblocks append maps block). none (record {
          same = ap (λ (e : Entry). e.zone) (sym here) ∙ good.zone (zone - TREE_ZONE) (omega (arith, zones)) (sym one) ∙ omega (arith, zones);
          room = omega (arith, enough, handed, mine, size);
        });
      })

module _ (bigblocks : ℕ) (append : List ℕ) (zone len at : ℕ) (maps : Maps) (now : PageMap) (block : ℕ) (entry : Entry)
    (four : length append ≡ 4) (one : block ≡ append_of append zone) (low : TREE_ZONE ≤ zone) (high : zone ≤ SMALL_ZONE)
    (few : block < MOST_BIGBLOCKS) (some : 1 ≤ len)
    (read : entry ≡ entry_of maps.current block) (holds : IsPoolEntry entry) (room : HasRoomFor zone (rounded len) entry)
    (raw : at ≡ raw_of zone (start_of block + entry.append_off)) (place : zone_of at ≡ zone) (begin : byte_of at ≡ start_of block + entry.append_off)
    (put : EntryPut block (appended (rounded len) entry) maps.current now) where
  abbrev r : Reference
  r = reference at len

  abbrev next : Entry
  next = appended (rounded len) entry

  size : 16 ≤ rounded len
  size = placed_size len some

  home : block_of (byte_of at) ≡ block
  home = let all = room.room in let enough = size in omega (arith, begin, all, enough)

  apart_one : (s : Reference) → IsPlaced bigblocks s → IsBelow maps.current s → IsApart (reference at len) s
  apart_one s placed below =
      let all = room.room in
      let lower = placed_low bigblocks s placed in
      let upper = placed_high bigblocks s placed in
      ⊎_elim
      (λ (same : home_of s ≡ block).
      let end : end_of s ≤ start_of block + (entry_of maps.current block).append_off =
      subst (λ (b : ℕ). end_of s ≤ start_of b + (entry_of maps.current b).append_off) same below.end in
      inr (omega (arith, end, begin, ap (λ (e : Entry). e.append_off) read)))
      (λ other. ⊎_elim
      (λ (before : home_of s < block). inr (omega (arith, upper, begin, before)))
      (λ after. inl (omega (arith, lower, begin, after, other, all)))
      (cases_lt (home_of s) block))
      (cases_eq (home_of s) block)

  module _ (states : References) (stand : StandBy bigblocks append maps states) where
    dead : All (IsApart (reference at len)) (all_of states)
    dead = all_both (IsPlaced bigblocks) (IsBelow maps.current) (IsApart (reference at len)) (all_of states) apart_one stand.placed stand.below

    taken_owned : IsOwned entry
    taken_owned = owned entry holds (omega (arith, room.same, low))

    taken_pool : IsPool bigblocks block
    taken_pool = subst (IsPool bigblocks) (sym one) (stand.appended.pool (zone - TREE_ZONE) (omega (arith, low, high)))

    taken_placed : IsPlaced bigblocks (reference at len)
    taken_placed =
        let all = room.room in
        let off : entry.append_off % unit_of zone ≡ 0 = subst (λ (z : ℕ). entry.append_off % unit_of z ≡ 0) room.same taken_owned.unit in
        let sum = sum_unit zone (start_of block) entry.append_off (block_unit zone block) off in
        let last : block_of (byte_of at + rounded len - 1) ≡ block = omega (arith, begin, all, size) in
        record {
          some = some;
          volume = omega (arith, raw, few, all, size, low, high);
          zone = (omega (arith, place, low), omega (arith, place, high));
          unit = subst (λ (z : ℕ). byte_of at % unit_of z ≡ 0) (sym place) (subst (λ (b : ℕ). b % unit_of zone ≡ 0) (sym begin) sum);
          pool = subst (IsPool bigblocks) (sym home) taken_pool;
          inside = last ∙ sym home;
        }

    zone_same : next.zone ≡ (entry_of maps.current block).zone
    zone_same = ap (λ (e : Entry). e.zone) read

    grown : (entry_of maps.current block).append_off ≤ next.append_off
    grown = omega (arith, ap (λ (e : Entry). e.append_off) read)

    taken_below : IsBelow now (reference at len)
    taken_below =
        let here : entry_of now (block_of (byte_of at)) ≡ next = ap (entry_of now) home ∙ put.put in
        record {
          zone = ap (λ (e : Entry). e.zone) here ∙ room.same ∙ sym place;
          end = rw (ap (λ (e : Entry). e.append_off) here, home) (omega (arith, begin));
        }

    taken_few : AreFew (r ∷ states.current)
    taken_few =
        let rest = states.frozen ++ states.committed in
        let apart = all_left (IsApart (reference at len)) states.current rest dead in
        let placed = all_left (IsPlaced bigblocks) states.current rest stand.placed in
        let none = none_there r states.current (all_both (IsApart (reference at len)) (IsPlaced bigblocks) (λ s. is_there r s ≡ false) states.current
        (λ s other is. other_test at s.at (λ same. elsewhere_at s other is same)) apart placed) in
        few_more r states.current (omega (arith, none)) stand.few.2 where
          elsewhere_at : (s : Reference) → IsApart (reference at len) s → IsPlaced bigblocks s → at ≡ s.at → ⊥
          elsewhere_at s apart placed same =
              let begins : byte_of at ≡ byte_of s.at = ap byte_of same in
              let enough = placed_size s.len placed.some in
              elim apart [
                | inl before ↦ absurd (omega (arith, before, begins, size))
                | inr after ↦ absurd (omega (arith, after, begins, enough))
              ]

    taken_stands : IsUnit zone len → StandBy bigblocks append (with_current now maps) (referred (reference at len) states)
    taken_stands unit =
        let rest = states.frozen ++ states.committed in
        let all = all_below bigblocks append maps states stand block next now put zone_same grown in
        let placed : All (IsPlaced bigblocks) (r ∷ states.current ++ rest) = All-cons (IsPlaced bigblocks) r (all_of states) taken_placed stand.placed in
        let overlap : All (DoNotOverlap r) (all_of states) = All-weaker (IsApart (reference at len)) (DoNotOverlap r) (λ s apart. inr apart)
        (all_of states) dead in
        let apart : NoneOverlap (r ∷ states.current ++ rest) = (overlap, stand.apart) in
        let old = live_bytes states.current block in
        let sum : live_bytes (r ∷ states.current) block ≡ rounded len + old = here r block old (sym home) in
        let most = live_few bigblocks block (r ∷ states.current) (all_left (IsPlaced bigblocks) (r ∷ states.current) rest placed)
        (apart_left (r ∷ states.current) rest apart) taken_few in
        let before : entry.bytes_free +ℤ pos old ≡ pos BIGBLOCK_BYTES =
        subst (λ (e : Entry). e.bytes_free +ℤ pos old ≡ pos BIGBLOCK_BYTES) (sym read) (stand.current block taken_pool).free in
        let tells = free_less entry.bytes_free (rounded len) old before (omega (arith, sum, most)) in
        stand_after bigblocks append maps states stand block next now put zone_same grown (r ∷ states.current)
        (inl owned_next)
        (subst (λ (n : ℕ). next.bytes_free +ℤ pos n ≡ pos BIGBLOCK_BYTES) (sym sum) tells)
        (λ b other. elsewhere r b (live_bytes states.current b) (λ same. other (same ∙ home)))
        placed
        (All-cons (IsBelow now) r (all_of states) taken_below all)
        apart taken_few where
          owned_next : IsOwned next
          owned_next = record {
            zone = taken_owned.zone;
            append = room.room;
            unit = sum_unit entry.zone entry.append_off (rounded len) taken_owned.unit (subst (λ (z : ℕ). rounded len % unit_of z ≡ 0) (sym room.same) unit);
          }

  module _ (distinct : AreDistinct append) where
    -- the append big-block of another zone is another one
    other_append : (other : ℕ) → TREE_ZONE ≤ other → other ≤ SMALL_ZONE → other ≢ zone → append_of append other ≢ block
    other_append other least most apart same =
        let places = distinct (other - TREE_ZONE) (zone - TREE_ZONE) (omega (arith, least, most)) (omega (arith, low, high)) (same ∙ one) in
        apart (omega (arith, places, low, least))

    taken_room : (other : ℕ) → room_in append now other + in_zone zone (rounded len) other ≡ room_in append maps.current other
    taken_room other = ⊎_elim
        (λ (same : other ≡ zone).
        let is : nat_eq other zone ≡ true = eq-eqb other zone same in
        let handed : is_handed_out other ≡ true = ap is_handed_out same ∙ handed_out zone low high in
        let at_zone : append_of append other ≡ block = ap (append_of append) same ∙ sym one in
        let here : (entry_of now (append_of append other)).append_off ≡ entry.append_off + rounded len =
        ap (λ (b : ℕ). (entry_of now b).append_off) at_zone ∙ ap (λ (e : Entry). e.append_off) put.put in
        let there : (entry_of maps.current (append_of append other)).append_off ≡ entry.append_off =
        ap (λ (b : ℕ). (entry_of maps.current b).append_off) at_zone ∙ ap (λ (e : Entry). e.append_off) (sym read) in
        room_fell is handed here there)
        (λ apart. by_zone apart (is_handed_out other) refl)
        (cases_eq other zone) where
          room_fell : nat_eq other zone ≡ true → is_handed_out other ≡ true
              → (entry_of now (append_of append other)).append_off ≡ entry.append_off + rounded len
              → (entry_of maps.current (append_of append other)).append_off ≡ entry.append_off
              → room_in append now other + in_zone zone (rounded len) other ≡ room_in append maps.current other
          room_fell is handed here there =
              let all = room.room in
              let a : room_in append now other ≡ BIGBLOCK_BYTES - (entry_of now (append_of append other)).append_off =
              ap (λ (t : Bool). cond t (BIGBLOCK_BYTES - (entry_of now (append_of append other)).append_off) 0) handed in
              let b : room_in append maps.current other ≡ BIGBLOCK_BYTES - (entry_of maps.current (append_of append other)).append_off =
              ap (λ (t : Bool). cond t (BIGBLOCK_BYTES - (entry_of maps.current (append_of append other)).append_off) 0) handed in
              let z : in_zone zone (rounded len) other ≡ rounded len = ap (λ (t : Bool). cond t (rounded len) 0) is in
              omega (arith, a, b, z, here, there, all)

          by_zone : other ≢ zone → (t : Bool) → is_handed_out other ≡ t
              → room_in append now other + in_zone zone (rounded len) other ≡ room_in append maps.current other
          by_zone apart t handed =
              let z : in_zone zone (rounded len) other ≡ 0 = ap (λ (x : Bool). cond x (rounded len) 0) (other_test other zone apart) in
              let kept : room_in append now other ≡ room_in append maps.current other = by_test t handed in
              omega (arith, z, kept) where
                by_test : (x : Bool) → is_handed_out other ≡ x → room_in append now other ≡ room_in append maps.current other
                by_test true is =
                    let zones = is_handed other is in
                    let same : entry_of now (append_of append other) ≡ entry_of maps.current (append_of append other) =
                    put.others (append_of append other) (other_append other zones.0 zones.1 apart) in
                    ap (λ (e : Entry). cond (is_handed_out other) (BIGBLOCK_BYTES - e.append_off) 0) same
                by_test false is = ap (λ (x : Bool). cond x (BIGBLOCK_BYTES - (entry_of now (append_of append other)).append_off) 0) is
                    ∙ sym (ap (λ (x : Bool). cond x (BIGBLOCK_BYTES - (entry_of maps.current (append_of append other)).append_off) 0) is)

    taken_spends : Spends room_at (free_at bigblocks) (in_zone zone (rounded len)) (space_of append maps) (space_of append (with_current now maps))
    taken_spends =
        let mine : is_append append block ≡ true = ap (is_append append) one ∙ has_at append (zone - TREE_ZONE) (omega (arith, low, high, four)) in
        record {
          room = λ other. omega (arith, taken_room other);
          free = free_kept maps block next now put bigblocks append (λ is. absurd (true≢false (sym is ∙ not_free_by append maps block mine)));
        }

  pub take_takes : Takes bigblocks append zone len at maps now
  take_takes = record {
    place = place;
    begin = begin ∙ ap (λ (e : Entry). start_of block + e.append_off) read ∙ ap (λ (b : ℕ). start_of b + (entry_of maps.current b).append_off) one;
    put = changed_at (appended (rounded len)) block (append_of append zone) entry maps.current now one read put;
    pages = λ other apart. put.pages other (λ same. apart (ap zone_of same ∙ page_zone block (omega (arith, few))));
    room = taken_room;
    spends = taken_spends;
    stand = λ states stand unit. taken_stands states stand unit;
    dead = λ states stand. dead states stand;
  }

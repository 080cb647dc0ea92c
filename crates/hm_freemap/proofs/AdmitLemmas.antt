-- Zones that a call names get the room that they need.
use Rattle.std.proofs.Common.{◌≡◌, ◌≢◌, Bool, true, false, true≢false, ℕ, zero, suc, ◌+◌, ◌-◌, ◌<◌, ◌≤◌, ⊎_elim, List, [], ◌∷◌, length, slice_index}
use Rattle.std.proofs.Common.{refl, sym, ap, subst, ◌∙◌, arith, cond, ◌&&◌, nat_lt}
use Rattle.std.specs.Prelude.{count_by, filter}
use Rattle.std.specs.List.{range_with_len}
use Rattle.std.proofs.lemmas.Bool.{cases_eq}
use Rattle.std.proofs.lemmas.Bool.Decides.{nat_tests}
use Rattle.std.proofs.lemmas.List.Sums.{length-filter}
use Rattle.hm_types.specs.Layout.{first_pool}
use Rattle.hm_types.specs.References.{pool}
use Rattle.hm_types.specs.Space.{names_zone, reserve_of, needed}
use Rattle.hm_types.specs.declared.zone.TheConstants.{TREE_ZONE, SMALL_ZONE}
use Rattle.hm_types.specs.declared.zones.Zones.{Zones}
use Rattle.hm_freemap.specs.Admit.{IsAdmitted, does_lack, which_lack, lacking_before}
use Rattle.hm_freemap.specs.Renew.{AreFresh, count_first, lacking_count, lacks_at}
use Rattle.hm_freemap.specs.Scan.{Finds}
use Rattle.hm_freemap.specs.Stand.{Maps, room_in}
use Rattle.hm_freemap.specs.declared.scan.Found.{Found}
use Rattle.hm_freemap.proofs.CountLemmas.{bit, count-cons, count-range}
use Rattle.hm_freemap.proofs.PutLemmas.{other_test, fails}
use Rattle.hm_freemap.proofs.StepLemmas.{first_few, first_more}

-- the elements of a range that pass a test
record Passes (p : ℕ → Bool) (a n x : ℕ) : Type 0 where
  test : p x ≡ true
  low : a ≤ x
  high : x < a + n

passes_at : (p : ℕ → Bool) (a n i : ℕ) → i < length (filter p (range_with_len a n)) → Passes p a n (slice_index (filter p (range_with_len a n)) i)
passes_at p a zero i low = absurd (omega arith)
passes_at p a (suc n) i low = by_test (p a) refl i low (λ j more. passes_at p (a + 1) n j more) where
  rest : List ℕ
  rest = filter p (range_with_len (a + 1) n)

  wider : (x : ℕ) → Passes p (a + 1) n x → Passes p a (suc n) x
  wider x passes = record { test = passes.test; low = omega (arith, passes.low); high = omega (arith, passes.high) }

  by_test : (b : Bool) → p a ≡ b → (i : ℕ) → i < length (cond b (a ∷ filter p (range_with_len (a + 1) n)) (filter p (range_with_len (a + 1) n)))
      → ((j : ℕ) → j < length (filter p (range_with_len (a + 1) n)) → Passes p (a + 1) n (slice_index (filter p (range_with_len (a + 1) n)) j))
      → Passes p a (suc n) (slice_index (cond b (a ∷ filter p (range_with_len (a + 1) n)) (filter p (range_with_len (a + 1) n))) i)
  by_test true is zero low others = record { test = is; low = omega arith; high = omega arith }
  by_test true is (suc i) low others = wider (slice_index (filter p (range_with_len (a + 1) n)) i) (others i (omega arith))
  by_test false is i low others = wider (slice_index (filter p (range_with_len (a + 1) n)) i) (others i low)

-- a number that is left out of the front of a range
rank_step : (p : ℕ → Bool) (a x : ℕ) → a + 1 ≤ x → count_by p (range_with_len a (x - a)) ≡ bit (p a) + count_by p (range_with_len (a + 1) (x - (a + 1)))
rank_step p a x low =
    let more : x - a ≡ suc (x - (a + 1)) = omega arith in
    ap (λ (n : ℕ). count_by p (range_with_len a n)) more ∙ count-range p a (x - (a + 1))

-- as many of a range pass a test before its i-th that does as i
rank_at : (p : ℕ → Bool) (a n i : ℕ) → i < length (filter p (range_with_len a n))
    → count_by p (range_with_len a (slice_index (filter p (range_with_len a n)) i - a)) ≡ i
rank_at p a zero i low = absurd (omega arith)
rank_at p a (suc n) i low = by_test (p a) refl i low (λ j more. rank_at p (a + 1) n j more) (λ j more. passes_at p (a + 1) n j more) where
  by_test : (b : Bool) → p a ≡ b → (i : ℕ) → i < length (cond b (a ∷ filter p (range_with_len (a + 1) n)) (filter p (range_with_len (a + 1) n)))
      → ((j : ℕ) → j < length (filter p (range_with_len (a + 1) n))
      → count_by p (range_with_len (a + 1) (slice_index (filter p (range_with_len (a + 1) n)) j - (a + 1))) ≡ j)
      → ((j : ℕ) → j < length (filter p (range_with_len (a + 1) n)) → Passes p (a + 1) n (slice_index (filter p (range_with_len (a + 1) n)) j))
      → count_by p (range_with_len a (slice_index (cond b (a ∷ filter p (range_with_len (a + 1) n)) (filter p (range_with_len (a + 1) n))) i - a)) ≡ i
  by_test true is zero low ranks passes =
      let none : a - a ≡ 0 = omega arith in
      ap (λ (m : ℕ). count_by p (range_with_len a m)) none
  by_test true is (suc i) low ranks passes =
      let x = slice_index (filter p (range_with_len (a + 1) n)) i in
      let one : bit (p a) ≡ 1 = ap bit is in
      omega (arith, rank_step p a x (passes i (omega arith)).low, ranks i (omega arith), one)
  by_test false is i low ranks passes =
      let x = slice_index (filter p (range_with_len (a + 1) n)) i in
      let none : bit (p a) ≡ 0 = ap bit is in
      omega (arith, rank_step p a x (passes i low).low, ranks i low, none)

-- the big-blocks that a look found are the lowest free ones
pub found_fresh : (bigblocks : ℕ) (test : ℕ → Bool) (limit many : ℕ) (found : Found)
    → Finds test limit (pool bigblocks) found → many ≤ found.count → many ≤ 4 → AreFresh bigblocks test found.first many
found_fresh bigblocks test limit many found finds enough few = record {
  each = λ i low.
      let at = passes i low in
      record {
        pool = (omega (arith, at.low), omega (arith, at.high, at.low));
        free = at.test;
        lower = ap (λ (b : ℕ). count_by test (range_with_len first (b - first))) (is_there i low)
            ∙ rank_at test first (bigblocks - first) i (inside_list i low);
      };
} where
  first : ℕ
  first = first_pool bigblocks

  sized : length (filter test (pool bigblocks)) ≡ count_by test (pool bigblocks)
  sized = length-filter test (pool bigblocks)

  inside_list : (i : ℕ) → i < many → i < length (filter test (pool bigblocks))
  inside_list i low = omega (arith, sized, finds.count, low, enough)

  is_there : (i : ℕ) → i < many → slice_index found.first i ≡ slice_index (filter test (pool bigblocks)) i
  is_there i low = finds.first i (omega (arith, low, enough)) (omega (arith, low, few))

  passes : (i : ℕ) → i < many → Passes test (first_pool bigblocks) (bigblocks - first_pool bigblocks) (slice_index found.first i)
  passes i low =
      subst (Passes test (first_pool bigblocks) (bigblocks - first_pool bigblocks)) (sym (is_there i low))
      (passes_at test (first_pool bigblocks) (bigblocks - first_pool bigblocks) i (inside_list i low))

-- the number of zones that lack room
pub needed_is : (zones : Zones) (room : ℕ → ℕ) → needed zones room ≡ lacking_count (which_lack zones room)
needed_is zones room =
    let a = does_lack zones room 8 in
    let b = does_lack zones room 9 in
    let c = does_lack zones room 10 in
    let d = does_lack zones room 11 in
    let one = count-cons (λ (x : Bool). x) a (b ∷ c ∷ d ∷ []) in
    let two = count-cons (λ (x : Bool). x) b (c ∷ d ∷ []) in
    let three = count-cons (λ (x : Bool). x) c (d ∷ []) in
    let four = count-cons (λ (x : Bool). x) d [] in
    omega (arith, one, two, three, four)

pub reserve_kept : (zones : Zones) (room : ℕ → ℕ) (zone : ℕ) → names_zone zones zone ≡ true → does_lack zones room zone ≡ false → reserve_of zone ≤ room zone
reserve_kept zones room zone names has =
    let test : nat_lt (room zone) (reserve_of zone) ≡ false = ap (λ (b : Bool). b && nat_lt (room zone) (reserve_of zone)) (sym names) ∙ has in
    not_below (room zone) (reserve_of zone) test where
      not_below : (a b : ℕ) → nat_lt a b ≡ false → b ≤ a
      not_below a b test = grind (arith, nat_tests)

pub named_zone : (zones : Zones) (zone : ℕ) → names_zone zones zone ≡ true → (TREE_ZONE ≤ zone) × (zone ≤ SMALL_ZONE)
named_zone zones zone names = ⊎_elim
    (λ (is : zone ≡ 8). (omega (arith, is), omega (arith, is)))
    (λ not8. ⊎_elim
    (λ (is : zone ≡ 9). (omega (arith, is), omega (arith, is)))
    (λ not9. ⊎_elim
    (λ (is : zone ≡ 10). (omega (arith, is), omega (arith, is)))
    (λ not10. ⊎_elim
    (λ (is : zone ≡ 11). (omega (arith, is), omega (arith, is)))
    (λ not11. absurd (true≢false (sym names ∙ unnamed not8 not9 not10 not11)))
    (cases_eq zone 11))
    (cases_eq zone 10))
    (cases_eq zone 9))
    (cases_eq zone 8) where
      unnamed : zone ≢ 8 → zone ≢ 9 → zone ≢ 10 → zone ≢ 11 → names_zone zones zone ≡ false
      unnamed a b c d = rw (other_test zone 8 a, other_test zone 9 b, other_test zone 10 c, other_test zone 11 d) refl

pub lacks_is : (zones : Zones) (room : ℕ → ℕ) (j : ℕ) → j < 4 → lacks_at (which_lack zones room) j ≡ does_lack zones room (TREE_ZONE + j)
lacks_is zones room zero low = refl
lacks_is zones room (suc zero) low = refl
lacks_is zones room (suc (suc zero)) low = refl
lacks_is zones room (suc (suc (suc zero))) low = refl
lacks_is zones room (suc (suc (suc (suc j)))) low = absurd (omega arith)

-- how many of the first of them do
pub before_is : (zones : Zones) (room : ℕ → ℕ) (k : ℕ) → k < 4 → count_first (which_lack zones room) k ≡ lacking_before zones room k
before_is zones room zero low = refl
before_is zones room (suc zero) low = refl
before_is zones room (suc (suc zero)) low = refl
before_is zones room (suc (suc (suc zero))) low = refl
before_is zones room (suc (suc (suc (suc k)))) low = absurd (omega arith)

none_lacks : (lack : List Bool) (j : ℕ) → j < length lack → lacking_count lack ≡ 0 → lacks_at lack j ≡ false
none_lacks lack j low none = fails (lacks_at lack j) (λ is.
    let one : bit (lacks_at lack j) ≡ 1 = ap bit is in
    absurd (omega (arith, first_more lack j low, first_few lack (j + 1), none, one)))

-- no zone lacks room
pub admitted_none : (bigblocks : ℕ) (zones : Zones) (held : ℕ) (append : List ℕ) (maps : Maps)
    → lacking_count (which_lack zones (room_in append maps.current)) ≡ 0 → IsAdmitted bigblocks zones held append append maps maps.current
admitted_none bigblocks zones held append maps none = record {
  pages = λ at other. refl;
  admits = record {
    enough = omega (arith, needed_is zones room, none);
    no_more = omega arith;
    paid = omega arith;
    reserve = λ zone names.
        let range = named_zone zones zone names in
        let place : TREE_ZONE + (zone - TREE_ZONE) ≡ zone = omega (arith, range) in
        reserve_kept zones room zone names (ap (does_lack zones room) (sym place) ∙ has_room (zone - TREE_ZONE) (omega (arith, range)));
  };
  lowest = record {
    begun = λ k low lacks. absurd (true≢false (sym lacks ∙ has_room k low));
    whole = λ k low lacks. absurd (true≢false (sym lacks ∙ has_room k low));
    others = λ k low has. refl;
    entries = λ block apart. refl;
    bytes = λ block apart. refl;
    elsewhere = λ at apart. refl;
    room = λ k low has. refl;
  };
  room = λ zone. omega arith;
  distinct = λ distinct. distinct;
  pool = λ pool. pool;
  stand = λ states stand. stand;
} where
  room : ℕ → ℕ
  room = room_in append maps.current

  has_room : (k : ℕ) → k < 4 → does_lack zones (room_in append maps.current) (TREE_ZONE + k) ≡ false
  has_room k low =
      sym (lacks_is zones (room_in append maps.current) k low) ∙ none_lacks (which_lack zones (room_in append maps.current)) k low none

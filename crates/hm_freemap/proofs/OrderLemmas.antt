-- A freemap stands for its states in any order of their references.
use Rattle.std.proofs.Common.{◌≡◌, Bool, true, false, true≢false, ℕ, ◌+◌, ◌≤◌, List, [], ◌∷◌, ◌++◌, refl, sym, ap, subst, ◌∙◌, arith, cond, ◌&&◌}
use Rattle.std.proofs.Common.{◌||◌, nat_eq, append-nil, pos, ◌+ℤ◌}
use Rattle.std.specs.Prelude.{All, count_by}
use Rattle.std.specs.List.{list_any, sum_by, Contains}
use Rattle.std.proofs.lemmas.List.Elements.{All-append, All-contains_itself, All-head, All-same, All-tail, All-weaker}
use Rattle.std.proofs.lemmas.List.Sums.{get_or-le-sum_by, sum_by-cons}
use Rattle.hm_types.specs.Layout.{block_of}
use Rattle.hm_types.specs.Offset.{byte_of}
use Rattle.hm_types.specs.References.{Reference, References, IsPlaced, NoneOverlap, DoNotOverlap, IsOneExtent, AreFew, is_there, live_bytes}
use Rattle.hm_types.specs.Space.{rounded}
use Rattle.hm_types.specs.declared.limits.TheConstants.{BIGBLOCK_BYTES}
use Rattle.hm_types.specs.declared.space.TheConstants.{MOST_REFERENCES}
use Rattle.hm_fields.specs.Pages.{PageMap}
use Rattle.hm_freemap.specs.Extents.{is_extent, without_one}
use Rattle.hm_freemap.specs.Order.{IsReordered}
use Rattle.hm_freemap.specs.Stand.{Maps, StandBy, IsBelow, Tells, all_of, entry_of}
use Rattle.hm_freemap.proofs.CountLemmas.{bit, count-cons}
use Rattle.hm_freemap.proofs.ExtentLemmas.{Found, below_same, find_one, overlap_same, overlap_turned, overlaps_none, placed_same}
use Rattle.hm_freemap.proofs.ListLemmas.{all_left, all_right, one_extent, or_second, size_in}
use Rattle.hm_freemap.proofs.PutLemmas.{same_test}
use Rattle.hm_freemap.proofs.TakeLemmas.{all_both}

-- what is the same of each two references to one extent
abbrev IsOfExtent : (Reference → ℕ) → Type 0
IsOfExtent f = (r s : Reference) → IsOneExtent r s → f r ≡ f s

extent_same : (r s t : Reference) → IsOneExtent s t → is_extent r s ≡ is_extent r t
extent_same r s t same =
    ap (λ (at : ℕ). nat_eq at r.at && nat_eq (rounded s.len) (rounded r.len)) same.place
    ∙ ap (λ (n : ℕ). nat_eq t.at r.at && nat_eq n (rounded r.len)) same.size

extent_itself : (r : Reference) → is_extent r r ≡ true
extent_itself r = rw (same_test r.at) (same_test (rounded r.len))

-- as many references to one extent
abbrev AreAsMany : List Reference → List Reference → Type 0
AreAsMany xs ys = (r : Reference) → count_by (is_extent r) ys ≡ count_by (is_extent r) xs

any_counted : (p : Reference → Bool) (xs : List Reference) → 1 ≤ count_by p xs → list_any p xs ≡ true
any_counted p [] some = absurd (omega (arith, some))
any_counted p (x ∷ xs) some = by_test (p x) refl (λ more. any_counted p xs more) where
  by_test : (b : Bool) → p x ≡ b → (1 ≤ count_by p xs → list_any p xs ≡ true) → (b || list_any p xs) ≡ true
  by_test true is rest = refl
  by_test false is rest = let none : bit (p x) ≡ 0 = ap bit is in rest (omega (arith, some, none, count-cons p x xs))

-- a sum over a list, without one of its references to an extent
sum_without : (f : Reference → ℕ) → IsOfExtent f → (x : Reference) (ys : List Reference) → list_any (is_extent x) ys ≡ true
    → sum_by f ys ≡ f x + sum_by f (without_one x ys)
sum_without f like x [] is = absurd (true≢false (sym is))
sum_without f like x (y ∷ ys) is = by_test (is_extent x y) refl (λ more. sum_without f like x ys more) where
  by_test : (b : Bool) → is_extent x y ≡ b → (list_any (is_extent x) ys ≡ true → sum_by f ys ≡ f x + sum_by f (without_one x ys))
      → sum_by f (y ∷ ys) ≡ f x + sum_by f (cond b ys (y ∷ without_one x ys))
  by_test true same rest = sum_by-cons f y ys ∙ ap (λ (n : ℕ). n + sum_by f ys) (sym (like x y (one_extent x y same)))
  by_test false other rest =
      let more = rest (or_second (is_extent x y) (list_any (is_extent x) ys) is other) in
      omega (arith, more, sum_by-cons f y ys, sum_by-cons f y (without_one x ys))

-- sums over lists with as many references to each extent
sum_same : (f : Reference → ℕ) → IsOfExtent f → (xs ys : List Reference) → AreAsMany xs ys → sum_by f ys ≡ sum_by f xs
sum_same f like [] [] many = refl
sum_same f like [] (y ∷ ys) many =
    let one : bit (is_extent y y) ≡ 1 = ap bit (extent_itself y) in
    absurd (omega (arith, many y, one, count-cons (is_extent y) y ys))
sum_same f like (x ∷ xs) ys many =
    let one : bit (is_extent x x) ≡ 1 = ap bit (extent_itself x) in
    let there : list_any (is_extent x) ys ≡ true = any_counted (is_extent x) ys (omega (arith, many x, one, count-cons (is_extent x) x xs)) in
    let less : AreAsMany xs (without_one x ys) = λ r.
    let gone = sum_without (λ s. bit (is_extent r s)) (λ s t same. ap bit (extent_same r s t same)) x ys there in
    omega (arith, gone, many r, count-cons (is_extent r) x xs) in
    let rest = sum_same f like xs (without_one x ys) less in
    omega (arith, rest, sum_without f like x ys there, sum_by-cons f x xs)

live_sum : (block : ℕ) (xs : List Reference) → live_bytes xs block ≡ sum_by (size_in block) xs
live_sum block [] = refl
live_sum block (x ∷ xs) = omega (arith, live_sum block xs, sum_by-cons (size_in block) x xs)

size_same : (block : ℕ) → IsOfExtent (size_in block)
size_same block r s same =
    ap (λ (at : ℕ). cond (nat_eq (block_of (byte_of at)) block) (rounded r.len) 0) same.place
    ∙ ap (λ (n : ℕ). cond (nat_eq (block_of (byte_of s.at)) block) n 0) same.size

-- whether a list refers to an extent
abbrev IsIn : List Reference → Reference → Type 0
IsIn xs r = list_any (is_extent r) xs ≡ true

in_left : (p : Reference → Bool) (xs ys : List Reference) → list_any p xs ≡ true → list_any p (xs ++ ys) ≡ true
in_left p [] ys is = absurd (true≢false (sym is))
in_left p (x ∷ xs) ys is = by_test (p x) is (λ more. in_left p xs ys more) where
  by_test : (b : Bool) → (b || list_any p xs) ≡ true → (list_any p xs ≡ true → list_any p (xs ++ ys) ≡ true) → (b || list_any p (xs ++ ys)) ≡ true
  by_test true is rest = refl
  by_test false is rest = rest is

in_right : (p : Reference → Bool) (xs ys : List Reference) → list_any p ys ≡ true → list_any p (xs ++ ys) ≡ true
in_right p [] ys is = is
in_right p (x ∷ xs) ys is = by_test (p x) (in_right p xs ys is) where
  by_test : (b : Bool) → list_any p (xs ++ ys) ≡ true → (b || list_any p (xs ++ ys)) ≡ true
  by_test true rest = refl
  by_test false rest = rest

-- a reference to the extent in a list, of which what holds of all does
find : (r : Reference) (P : Reference → Type 0) (xs : List Reference) → IsIn xs r → All P xs → Found r P
find r P xs is each = find_one r P xs [] is (All-same P (xs ++ []) xs (append-nil xs) each)

module _ (xs : List Reference) (apart : NoneOverlap xs) where
  overlaps : (r : Reference) → IsIn xs r → All (DoNotOverlap r) xs
  overlaps r is = All-same (DoNotOverlap r) xs (xs ++ []) (sym (append-nil xs))
      (overlaps_none r xs [] is (subst NoneOverlap (sym (append-nil xs)) apart))

  -- references to extents that do not overlap do not
  apart_in : (ys : List Reference) → All (IsIn xs) ys → NoneOverlap ys
  apart_in [] each = tt
  apart_in (y ∷ ys) each =
      let mine = overlaps y (All-head (IsIn xs) y ys each) in
      let rest = All-tail (IsIn xs) y ys each in (
        All-weaker (IsIn xs) (DoNotOverlap y)
            (λ t there.
            let found = find t (DoNotOverlap y) xs there mine in
            overlap_turned t y (overlap_same t found.s y found.same (overlap_turned y found.s found.holds)))
            ys rest,
        apart_in ys rest,
      )

module _ (old new : List Reference) (reordered : IsReordered old new) where
  many : AreAsMany old new
  many r = reordered.counts r.at r.len

  pub all_in : All (IsIn old) new
  all_in = All-weaker (Contains new) (IsIn old)
      (λ r at.
      let one : bit (is_extent r r) ≡ 1 = ap bit (extent_itself r) in
      let here = ap (λ (s : Reference). bit (is_extent r s)) at.2 in
      any_counted (is_extent r) old (omega (arith, many r, one, here, get_or-le-sum_by (λ s. bit (is_extent r s)) new at.0 r at.1)))
      new (All-contains_itself new)

  live_same : (block : ℕ) → live_bytes new block ≡ live_bytes old block
  live_same block = live_sum block new ∙ sum_same (size_in block) (size_same block) old new many ∙ sym (live_sum block old)

  pub tells_reordered : (bigblocks : ℕ) (map : PageMap) → Tells bigblocks map old → Tells bigblocks map new
  tells_reordered bigblocks map tells block pool = record {
    entry = (tells block pool).entry;
    free = subst (λ (n : ℕ). (entry_of map block).bytes_free +ℤ pos n ≡ pos BIGBLOCK_BYTES) (sym (live_same block)) (tells block pool).free;
  }

  pub few_reordered : AreFew old → AreFew new
  few_reordered few = All-weaker (IsIn old) (λ r. count_by (is_there r) new ≤ MOST_REFERENCES)
      (λ r there.
      let found = find r (λ s. count_by (is_there s) old ≤ MOST_REFERENCES) old there few in
      let count : count_by (is_there r) old ≡ count_by (is_there found.s) old = ap (λ (at : ℕ). count_by (λ t. nat_eq at t.at) old) found.same.place in
      let same = sum_same (λ t. bit (is_there r t)) (λ s t one. ap (λ (at : ℕ). bit (nat_eq r.at at)) one.place) old new many in
      omega (arith, count, same, found.holds))
      new all_in

-- each of the three lists in another order
pub stands_reordered : (bigblocks : ℕ) (append : List ℕ) (maps : Maps) (old new : References) → StandBy bigblocks append maps old
    → IsReordered old.committed new.committed → IsReordered old.frozen new.frozen → IsReordered old.current new.current → StandBy bigblocks append maps new
stands_reordered bigblocks append maps old new stand committed frozen current = record {
  committed = tells_reordered old.committed new.committed committed bigblocks maps.committed stand.committed;
  frozen = tells_reordered old.frozen new.frozen frozen bigblocks maps.frozen stand.frozen;
  current = tells_reordered old.current new.current current bigblocks maps.current stand.current;
  appended = stand.appended;
  placed = all_both (IsIn all) (λ r. 1 ≤ r.len) (IsPlaced bigblocks) (all_of new)
      (λ r there some. let found = find r (IsPlaced bigblocks) all there stand.placed in placed_same bigblocks r found.s some found.same found.holds)
      each sized;
  below = All-weaker (IsIn all) (IsBelow maps.current)
      (λ r there. let found = find r (IsBelow maps.current) all there stand.below in below_same maps.current r found.s found.same found.holds)
      (all_of new) each;
  apart = apart_in all stand.apart (all_of new) each;
  few = (
    few_reordered old.committed new.committed committed stand.few.0,
    few_reordered old.frozen new.frozen frozen stand.few.1,
    few_reordered old.current new.current current stand.few.2,
  );
} where
  all : List Reference
  all = all_of old

  rest : List Reference
  rest = old.frozen ++ old.committed

  each : All (IsIn (all_of old)) (all_of new)
  each =
      All-append (IsIn (all_of old)) new.current (new.frozen ++ new.committed)
      (All-weaker (IsIn old.current) (IsIn (all_of old)) (λ r is. in_left (is_extent r) old.current (old.frozen ++ old.committed) is)
      new.current (all_in old.current new.current current))
      (All-append (IsIn (all_of old)) new.frozen new.committed
      (All-weaker (IsIn old.frozen) (IsIn (all_of old))
      (λ r is. in_right (is_extent r) old.current (old.frozen ++ old.committed) (in_left (is_extent r) old.frozen old.committed is))
      new.frozen (all_in old.frozen new.frozen frozen))
      (All-weaker (IsIn old.committed) (IsIn (all_of old))
      (λ r is. in_right (is_extent r) old.current (old.frozen ++ old.committed) (in_right (is_extent r) old.frozen old.committed is))
      new.committed (all_in old.committed new.committed committed)))

  sized : All (λ r. 1 ≤ r.len) (all_of new)
  sized = All-append (λ r. 1 ≤ r.len) new.current (new.frozen ++ new.committed) current.some
      (All-append (λ r. 1 ≤ r.len) new.frozen new.committed frozen.some committed.some)

-- the current list alone
pub current_reordered : (bigblocks : ℕ) (append : List ℕ) (maps : Maps) (states : References) → StandBy bigblocks append maps states
    → (other : List Reference) → IsReordered states.current other → StandBy bigblocks append maps (record states { current = other })
current_reordered bigblocks append maps states stand other current =
    stands_reordered bigblocks append maps states (record states { current = other }) stand
    (as_it_is states.committed second) (as_it_is states.frozen first) current where
      sized : All (λ r. 1 ≤ r.len) (all_of states)
      sized = All-weaker (IsPlaced bigblocks) (λ r. 1 ≤ r.len) (λ r placed. placed.some) (all_of states) stand.placed

      both : All (λ r. 1 ≤ r.len) (states.frozen ++ states.committed)
      both = all_right (λ r. 1 ≤ r.len) states.current (states.frozen ++ states.committed) sized

      first : All (λ r. 1 ≤ r.len) states.frozen
      first = all_left (λ r. 1 ≤ r.len) states.frozen states.committed both

      second : All (λ r. 1 ≤ r.len) states.committed
      second = all_right (λ r. 1 ≤ r.len) states.frozen states.committed both

      as_it_is : (xs : List Reference) → All (λ r. 1 ≤ r.len) xs → IsReordered xs xs
      as_it_is xs some = record { some = some; counts = λ at len. refl }

-- The books of a space, as an open call takes, shares and gives back.
use Rattle.std.proofs.Common.{◌≡◌, ◌≢◌, Bool, true, false, true≢false, ℕ, ◌+◌, ◌≤◌, ⊎_elim, List, [], ◌∷◌, Option, Some, None, refl, sym, ap, subst}
use Rattle.std.proofs.Common.{◌∙◌, arith, cond, nat_eq, eqb-true, eq-eqb, is_some}
use Rattle.std.specs.Prelude.{All, count_by, ◌&&◌, ◌||◌}
use Rattle.std.specs.List.{Contains, list_any}
use Rattle.std.proofs.lemmas.Bool.{cases_eq, ne_eqb, eqb-false}
use Rattle.std.proofs.lemmas.List.Elements.{All-contains, All-contains_itself, All-head, All-tail, All-nil, All-cons, All-weaker}
use Rattle.hm_types.specs.Offset.{zone_of}
use Rattle.hm_types.specs.References.{Reference, DoNotOverlap, IsOneExtent, NoneOverlap, begin_of, end_of, is_there}
use Rattle.hm_types.specs.Space.{rounded}
use Rattle.hm_types.specs.declared.zone.TheConstants.{FREEMAP_ZONE, TREE_ZONE}
use Rattle.hm_fields.specs.Pages.{PageMap}
use Rattle.hm_key.specs.Extents.{Extent, extent_at}
use Rattle.hm_freemap.specs.Extents.{is_extent, reference}
use Rattle.hm_freemap.specs.Stand.{EntryChanged, IsBelow, entry_of, home_of}
use Rattle.hm_freemap.specs.declared.entry.Entry.{Entry}
use Rattle.hm_freemap.proofs.CountLemmas.{bit, count-cons}
use Rattle.hm_image.specs.Referred.{references_of}
use Rattle.hm_stored.specs.Basis.{nodes}
use Rattle.hm_stored.specs.Held.{expected}
use Rattle.hm_stored.proofs.UseLemmas.{is_one}

-- A call leaves pages outside of the freemap.
abbrev pub SamePages : PageMap → PageMap → Type 0
SamePages old now = (other : ℕ) → zone_of other ≢ FREEMAP_ZONE → now other ≡ old other

-- so it leaves the nodes
pub nodes_kept : (old now : PageMap) → SamePages old now → (x : ℕ) → nodes now x ≡ nodes old x
nodes_kept old now same x = by_test (nat_eq (zone_of x) TREE_ZONE) refl where
  by_test : (b : Bool) → nat_eq (zone_of x) TREE_ZONE ≡ b → cond b (now x) None ≡ cond b (old x) None
  by_test true is = same x (λ zone. let tree : zone_of x ≡ TREE_ZONE = eqb-true (zone_of x) TREE_ZONE is in omega (arith, zone, tree))
  by_test false is = refl

-- 1 where a node stands at an offset, and so many bytes are those of a page
abbrev pub node_uses : Option (List ℕ) → ℕ → ℕ
node_uses page l = cond (nat_eq (rounded l) 4096 && is_some page) 1 0

pub eq_either : (a b : ℕ) → nat_eq a b ≡ nat_eq b a
eq_either a b = by_test (nat_eq b a) refl where
  by_test : (t : Bool) → nat_eq b a ≡ t → nat_eq a b ≡ t
  by_test true is = eq-eqb a b (sym (eqb-true b a is))
  by_test false is = ne_eqb a b (λ same. eqb-false b a is (sym same))

module _ (at x l : ℕ) where
  node_there : at ≡ x → (page : List ℕ) → node_uses (Some page) l ≡ is_one x l at 4096 + node_uses None l
  node_there there page =
      rw (eq-eqb at x there, eq_either 4096 (rounded l)) (by_test (nat_eq (rounded l) 4096)) where
        by_test : (b : Bool) → cond (b && true) 1 0 ≡ bit (true && b) + cond (b && false) 1 0
        by_test true = omega arith
        by_test false = omega arith

  node_away : nat_eq at x ≡ false → is_one x l at 4096 ≡ 0
  node_away apart = rw apart refl

  -- a node more, and one less
  pub expected_more : (page : List ℕ) (old new : PageMap) (xs : List Extent) → old at ≡ None → new at ≡ Some page
      → ((other : ℕ) → nat_eq at other ≡ false → new other ≡ old other) → expected new xs x l ≡ is_one x l at 4096 + expected old xs x l
  expected_more page old new xs none some others = by_test (nat_eq at x) refl where
    by_test : (b : Bool) → nat_eq at x ≡ b → expected new xs x l ≡ is_one x l at 4096 + expected old xs x l
    by_test true is =
        let there = eqb-true at x is in
        let was : old x ≡ None = subst (λ (n : ℕ). old n ≡ None) there none in
        let now : new x ≡ Some page = subst (λ (n : ℕ). new n ≡ Some page) there some in
        let step : node_uses (new x) l ≡ is_one x l at 4096 + node_uses (old x) l = rw (was, now) (node_there there page) in
        omega (arith, step)
    by_test false is =
        let same : node_uses (new x) l ≡ node_uses (old x) l = ap (λ (o : Option (List ℕ)). node_uses o l) (others x is) in
        omega (arith, same, node_away is)

-- the tests that a map has a page say all that matters of nodes
pub expected_same : (old new : PageMap) (xs : List Extent) (x l : ℕ) → is_some (new x) ≡ is_some (old x) → expected new xs x l ≡ expected old xs x l
expected_same old new xs x l same = ap (λ (b : Bool). cond (nat_eq (rounded l) 4096 && b) 1 0 + references_of l (extent_at x xs)) same

-- A big-block keeps its zone, and is filled as far at least.
pub record Grows (old new : PageMap) (block : ℕ) : Type 0 where
  pub zone : (entry_of new block).zone ≡ (entry_of old block).zone
  pub filled : (entry_of old block).append_off ≤ (entry_of new block).append_off

pub grows_put : (old new : PageMap) (block : ℕ) (next : Entry → Entry) → EntryChanged block next old new
    → (next (entry_of old block)).zone ≡ (entry_of old block).zone → (entry_of old block).append_off ≤ (next (entry_of old block)).append_off
    → (other : ℕ) → Grows old new other
grows_put old new block next put zone filled other =
    ⊎_elim
    (λ (here : other ≡ block). subst (λ (n : ℕ). Grows old new n) (sym here) (record {
      zone = ap (λ (e : Entry). e.zone) put.put ∙ zone;
      filled = subst (λ (e : Entry). (entry_of old block).append_off ≤ e.append_off) (sym put.put) filled;
    }))
    (λ away. record {
      zone = ap (λ (e : Entry). e.zone) (put.others other away);
      filled = subst (λ (e : Entry). (entry_of old other).append_off ≤ e.append_off) (sym (put.others other away)) (omega arith);
    })
    (cases_eq other block)

-- what lay below what is appended next lies there still
pub below_grows : (old new : PageMap) (refs : List Reference) → ((block : ℕ) → Grows old new block) → All (IsBelow old) refs → All (IsBelow new) refs
below_grows old new refs grows below =
    All-weaker (IsBelow old) (IsBelow new)
    (λ r b. let g = grows (home_of r) in record { zone = g.zone ∙ b.zone; end = omega (arith, b.end, g.filled) }) refs below

-- two references that begin at one byte are to one extent
abbrev pub Agrees : Reference → Reference → Type 0
Agrees r s = r.at ≡ s.at → rounded r.len ≡ rounded s.len

abbrev pub IsLong : Reference → Type 0
IsLong r = 1 ≤ r.len

pub agree_one : (r s : Reference) → IsLong r → IsLong s → DoNotOverlap r s → Agrees r s
agree_one r s long long' none there = by_way none where
  by_way : DoNotOverlap r s → rounded r.len ≡ rounded s.len
  by_way none = ⊎_elim (λ (one : IsOneExtent r s). one.size)
      (λ apart. let same : begin_of r ≡ begin_of s = ap (λ (n : ℕ). begin_of (reference n 0)) there in
      ⊎_elim (λ (low : end_of r ≤ begin_of s). absurd (omega (arith, low, same, long)))
      (λ (high : end_of s ≤ begin_of r). absurd (omega (arith, high, same, long'))) apart) none

-- an extent that is referred to
module _ (r : Reference) (long : IsLong r) where
  extent_parts : (s : Reference) → is_extent r s ≡ true → (s.at ≡ r.at) × (rounded s.len ≡ rounded r.len)
  extent_parts s is = by_parts (nat_eq s.at r.at) (nat_eq (rounded s.len) (rounded r.len)) refl refl is where
    by_parts : (a b : Bool) → nat_eq s.at r.at ≡ a → nat_eq (rounded s.len) (rounded r.len) ≡ b → (a && b) ≡ true
        → (s.at ≡ r.at) × (rounded s.len ≡ rounded r.len)
    by_parts true true place size both = (eqb-true s.at r.at place, eqb-true (rounded s.len) (rounded r.len) size)
    by_parts true false place size both = absurd (true≢false (sym both))
    by_parts false b place size both = absurd (true≢false (sym both))

  -- one before it agrees with it
  before_agrees : (y : Reference) (refs : List Reference) → IsLong y → All IsLong refs → All (DoNotOverlap y) refs → list_any (is_extent r) refs ≡ true
      → Agrees r y
  before_agrees y [] longs each none there = absurd (true≢false (sym there))
  before_agrees y (s ∷ refs) longs each none there =
      by_test (is_extent r s) refl there (All-head (DoNotOverlap y) s refs none) (All-head IsLong s refs each)
      (λ more. before_agrees y refs longs (All-tail IsLong s refs each) (All-tail (DoNotOverlap y) s refs none) more) where
        by_test : (b : Bool) → is_extent r s ≡ b → (b || list_any (is_extent r) refs) ≡ true → DoNotOverlap y s → IsLong s
            → (list_any (is_extent r) refs ≡ true → Agrees r y) → Agrees r y
        by_test true is there apart long' rest = λ same.
            let parts = extent_parts s is in
            let size = agree_one y s longs long' apart (sym same ∙ sym parts.0) in
            sym parts.1 ∙ sym size
        by_test false is there apart long' rest = rest there

  pub all_agree : (refs : List Reference) → All IsLong refs → NoneOverlap refs → list_any (is_extent r) refs ≡ true → All (Agrees r) refs
  all_agree [] each none there = All-nil (Agrees r)
  all_agree (y ∷ refs) each none there =
      by_test (is_extent r y) refl there (λ more. all_agree refs (All-tail IsLong y refs each) none.1 more) where
        longs : IsLong y
        longs = All-head IsLong y refs each

        by_test : (b : Bool) → is_extent r y ≡ b → (b || list_any (is_extent r) refs) ≡ true → (list_any (is_extent r) refs ≡ true → All (Agrees r) refs)
            → All (Agrees r) (y ∷ refs)
        by_test true is there rest =
            let parts = extent_parts y is in
            All-cons (Agrees r) y refs (λ _. sym parts.1)
            (All-weaker (λ s. DoNotOverlap y s × IsLong s) (Agrees r) (λ s both same. sym parts.1 ∙ agree_one y s longs both.1 both.0 (parts.0 ∙ same)) refs
            (All-weaker (Contains refs) (λ s. DoNotOverlap y s × IsLong s)
            (λ s here. (All-contains (DoNotOverlap y) refs s none.0 here, All-contains IsLong refs s (All-tail IsLong y refs each) here)) refs
            (All-contains_itself refs)))
        by_test false is there rest =
            All-cons (Agrees r) y refs (before_agrees y refs longs (All-tail IsLong y refs each) none.0 there) (rest there)

  -- where all agree, as many refer to its first byte as to it
  pub there_counts : (refs : List Reference) → All (Agrees r) refs → count_by (is_there r) refs ≡ count_by (is_extent r) refs
  there_counts [] each = refl
  there_counts (s ∷ refs) each =
      let rest = there_counts refs (All-tail (Agrees r) s refs each) in
      let one : is_there r s ≡ is_extent r s = by_test (nat_eq r.at s.at) refl (All-head (Agrees r) s refs each) in
      omega (arith, count-cons (is_there r) s refs, count-cons (is_extent r) s refs, ap bit one, rest) where
        by_test : (b : Bool) → nat_eq r.at s.at ≡ b → Agrees r s → b ≡ is_extent r s
        by_test true is agrees =
            let there = eqb-true r.at s.at is in
            let place : nat_eq s.at r.at ≡ true = eq-eqb s.at r.at (sym there) in
            let size : nat_eq (rounded s.len) (rounded r.len) ≡ true = eq-eqb (rounded s.len) (rounded r.len) (sym (agrees there)) in
            sym (ap (λ (x : Bool). x && nat_eq (rounded s.len) (rounded r.len)) place ∙ size)
        by_test false is agrees =
            let place : nat_eq s.at r.at ≡ false = ne_eqb s.at r.at (λ same. eqb-false r.at s.at is (sym same)) in
            sym (ap (λ (x : Bool). x && nat_eq (rounded s.len) (rounded r.len)) place)

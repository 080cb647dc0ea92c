-- An extent that is taken stands apart from all that is live.
use Rattle.std.proofs.Common.{◌≡◌, Bool, true, false, true≢false, ℕ, ◌+◌, ◌<◌, ◌≤◌, ◌⊎◌, inl, inr, ⊎_elim, List, [], ◌∷◌, map, Some, refl, sym, ap}
use Rattle.std.proofs.Common.{subst, ◌∙◌, arith, cond, nat_eq, nat_lt, eqb-true, eq-eqb}
use Rattle.std.specs.Prelude.{All, ◌&&◌}
use Rattle.std.specs.List.{AllByRecursion, Contains}
use Rattle.std.proofs.lemmas.Bool.{cases_eq, eqb-false, ne_eqb, ltb-true, ltb-false}
use Rattle.std.proofs.lemmas.List.Elements.{All-contains, All-contains_itself, All-head, All-tail, All-weaker, All-from_recursion, recursion_from_All}
use Rattle.hm_types.specs.Layout.{start_of}
use Rattle.hm_types.specs.Offset.{byte_of}
use Rattle.hm_types.specs.References.{Reference, IsPlaced, begin_of, end_of}
use Rattle.hm_types.specs.Space.{rounded}
use Rattle.hm_types.specs.declared.limits.TheConstants.{BIGBLOCK_BYTES}
use Rattle.hm_fields.specs.Pages.{PageMap}
use Rattle.hm_disk.specs.Crash.{MayLeave}
use Rattle.hm_key.specs.Extents.{AreApart, AreExtents, Extent, IsExtent, extent_at, with_extent}
use Rattle.hm_key.proofs.BalanceLemmas.{all_elsewhere}
use Rattle.hm_header.proofs.SliceLemmas.{slice-kept}
use Rattle.hm_freemap.specs.Extents.{IsApart, is_extent, reference}
use Rattle.hm_freemap.specs.Stand.{IsBelow, entry_of, home_of}
use Rattle.hm_freemap.proofs.BoundLemmas.{placed_high, placed_low, placed_size}
use Rattle.hm_freemap.proofs.CountLemmas.{bit, count-cons}
use Rattle.hm_image.specs.Image.{bytes_at}
use Rattle.hm_stored.specs.Log.{filled}
use Rattle.hm_stored.proofs.ReferLemmas.{times}

-- what lies below the end of its big-block's filled part is apart from what is appended there, and from what is
-- appended elsewhere
pub apart_below : (bigblocks block : ℕ) (pages : PageMap) (at len : ℕ) (r : Reference) → 1 ≤ len
    → byte_of at ≡ start_of block + (entry_of pages block).append_off → (entry_of pages block).append_off + rounded len ≤ BIGBLOCK_BYTES
    → IsPlaced bigblocks r → IsBelow pages r → IsApart (reference at len) r
apart_below bigblocks block pages at len r some begin room placed below =
    let lower = placed_low bigblocks r placed in
    let upper = placed_high bigblocks r placed in
    let size = placed_size len some in
    ⊎_elim
    (λ (same : home_of r ≡ block).
    let end : end_of r ≤ start_of block + (entry_of pages block).append_off = subst (λ (b : ℕ). end_of r ≤ start_of b +
    (entry_of pages b).append_off) same below.end in
    inr (omega (arith, end, begin)))
    (λ other.
    ⊎_elim
    (λ (low : block < home_of r). inl (omega (arith, low, lower, begin, room)))
    (λ (high : home_of r < block). inr (omega (arith, high, upper, begin)))
    (either (home_of r) block other))
    (cases_eq (home_of r) block) where
      either : (a b : ℕ) → (a ≡ b → ⊥) → (b < a) ⊎ (a < b)
      either a b other = by_test (nat_lt a b) refl where
        by_test : (t : Bool) → nat_lt a b ≡ t → (b < a) ⊎ (a < b)
        by_test true is = inr (ltb-true a b is)
        by_test false is = inl (let le = ltb-false a b is in omega (arith, le, other))

pub all_apart : (bigblocks block : ℕ) (pages : PageMap) (at len : ℕ) (refs : List Reference) → 1 ≤ len
    → byte_of at ≡ start_of block + (entry_of pages block).append_off → (entry_of pages block).append_off + rounded len ≤ BIGBLOCK_BYTES
    → All (IsPlaced bigblocks) refs → All (IsBelow pages) refs → All (IsApart (reference at len)) refs
all_apart bigblocks block pages at len refs some begin room placed below =
    All-weaker (Contains refs) (IsApart (reference at len))
    (λ r there. apart_below bigblocks block pages at len r some begin room
    (All-contains (IsPlaced bigblocks) refs r placed there) (All-contains (IsBelow pages) refs r below there))
    refs (All-contains_itself refs)

-- an extent that is referred to is apart from another one where all references are
pub apart_times : (r : Reference) (x l : ℕ) (refs : List Reference) → 1 ≤ times x l refs → All (IsApart r) refs → IsApart r (reference x l)
apart_times r x l [] some apart = absurd (omega (arith, some))
apart_times r x l (s ∷ refs) some apart =
    by_test (is_extent (reference x l) s) refl (All-head (IsApart r) s refs apart)
    (λ more. apart_times r x l refs more (All-tail (IsApart r) s refs apart)) where
      by_test : (b : Bool) → is_extent (reference x l) s ≡ b → IsApart r s → (1 ≤ times x l refs → IsApart r (reference x l)) → IsApart r (reference x l)
      by_test true is apart rest = by_parts (nat_eq s.at x) (nat_eq (rounded s.len) (rounded l)) refl refl is where
        by_parts : (a b : Bool) → nat_eq s.at x ≡ a → nat_eq (rounded s.len) (rounded l) ≡ b → (a && b) ≡ true → IsApart r (reference x l)
        by_parts true true place size both =
            let there : byte_of s.at ≡ byte_of x = ap byte_of (eqb-true s.at x place) in
            let long : rounded s.len ≡ rounded l = eqb-true (rounded s.len) (rounded l) size in
            ⊎_elim (λ (low : end_of r ≤ begin_of s). inl (omega (arith, low, there)))
            (λ (high : end_of s ≤ begin_of r). inr (omega (arith, high, there, long))) apart
        by_parts true false place size both = absurd (true≢false (sym both))
        by_parts false b place size both = absurd (true≢false (sym both))
      by_test false is apart rest = rest (omega (arith, some, count-cons (is_extent (reference x l)) s refs, ap bit is))

-- extents stand apart from one
abbrev pub IsBeside : Extent → Extent → Type 0
IsBeside new x = (byte_of new.at + new.len ≤ byte_of x.at) ⊎ (byte_of x.at + x.len ≤ byte_of new.at)

-- with one that stands apart from each they stand apart still
with_apart : (low : ℕ) (new : Extent) (xs : List Extent) → 1 ≤ new.len → low ≤ byte_of new.at → AllByRecursion IsExtent xs → AllByRecursion (IsBeside new) xs
    → AreApart low xs → AreApart low (with_extent new xs)
with_apart low new [] long begin each beside apart = (begin, tt)
with_apart low new (x ∷ xs) long begin each beside apart =
    by_test (nat_lt (byte_of x.at) (byte_of new.at)) refl (λ after. with_apart (byte_of x.at + x.len) new xs long after each.1 beside.1 apart.1) where
      by_test : (b : Bool) → nat_lt (byte_of x.at) (byte_of new.at) ≡ b
          → (byte_of x.at + x.len ≤ byte_of new.at → AreApart (byte_of x.at + x.len) (with_extent new xs))
          → AreApart low (cond b (x ∷ with_extent new xs) (new ∷ x ∷ xs))
      by_test true is rest =
          let less = ltb-true (byte_of x.at) (byte_of new.at) is in
          let after : byte_of x.at + x.len ≤ byte_of new.at = ⊎_elim (λ (before : byte_of new.at + new.len ≤ byte_of x.at). absurd
          (omega (arith, before, less))) (λ is. is) beside.0 in
          (apart.0, rest after)
      by_test false is rest =
          let le = ltb-false (byte_of x.at) (byte_of new.at) is in
          let before : byte_of new.at + new.len ≤ byte_of x.at =
          ⊎_elim (λ is. is) (λ (after : byte_of x.at + x.len ≤ byte_of new.at). absurd (omega (arith, after, le, each.0.some))) beside.0 in
          (begin, (before, apart.1))

each_with : (P : Extent → Type 0) (new : Extent) (xs : List Extent) → P new → AllByRecursion P xs → AllByRecursion P (with_extent new xs)
each_with P new [] fact each = (fact, tt)
each_with P new (x ∷ xs) fact each = by_test (nat_lt (byte_of x.at) (byte_of new.at)) (each_with P new xs fact each.1) where
  by_test : (b : Bool) → AllByRecursion P (with_extent new xs) → AllByRecursion P (cond b (x ∷ with_extent new xs) (new ∷ x ∷ xs))
  by_test true rest = (each.0, rest)
  by_test false rest = (fact, each)

pub extents_with : (new : Extent) (xs : List Extent) → IsExtent new → AllByRecursion (IsBeside new) xs → AreExtents xs → AreExtents (with_extent new xs)
extents_with new xs is beside are =
    let each = recursion_from_All IsExtent xs are.each in
    record {
      apart = with_apart 0 new xs is.some (omega arith) each beside are.apart;
      each = All-from_recursion IsExtent (with_extent new xs) (each_with IsExtent new xs is each);
    }

-- each of some extents is the one at its offset
pub each_at : (low : ℕ) (xs : List Extent) → AreApart low xs → AllByRecursion IsExtent xs → AllByRecursion (λ x. extent_at x.at xs ≡ Some x) xs
each_at low [] apart each = tt
each_at low (x ∷ xs) apart each = (rw (eq-eqb x.at x.at refl) refl, later xs others (each_at (byte_of x.at + x.len) xs apart.1 each.1)) where
  others : AllByRecursion (λ y. nat_eq y.at x.at ≡ false) xs
  others = all_elsewhere (byte_of x.at + x.len) x.at xs apart.1 (omega (arith, each.0.some))

  later : (ys : List Extent) → AllByRecursion (λ y. nat_eq y.at x.at ≡ false) ys → AllByRecursion (λ y. extent_at y.at xs ≡ Some y) ys
      → AllByRecursion (λ y. extent_at y.at (x ∷ xs) ≡ Some y) ys
  later [] apart found = tt
  later (y ∷ ys) apart found =
      (rw (ne_eqb x.at y.at (λ same. eqb-false y.at x.at apart.0 (sym same))) found.0, later ys apart.1 found.1)

-- the bytes of what is apart from a range that changed stay
pub bytes_kept : (old new : List ℕ) (at len : ℕ) (r : Reference) (l : ℕ) → l ≤ rounded r.len → MayLeave old ((byte_of at, rounded len) ∷ []) new
    → IsApart (reference at len) r → bytes_at new r.at l ≡ bytes_at old r.at l
bytes_kept old new at len r l short change apart =
    slice-kept old new (byte_of at) (rounded len) (byte_of r.at) (byte_of r.at + l)
    (⊎_elim (λ (low : end_of (reference at len) ≤ begin_of r). inr (omega (arith, low)))
    (λ (high : end_of r ≤ begin_of (reference at len)). inl (omega (arith, high, short))) apart)
    change

-- so extents that are apart from it are read as before
pub filled_kept : (old new : List ℕ) (at len : ℕ) (xs : List Extent) → MayLeave old ((byte_of at, rounded len) ∷ []) new
    → AllByRecursion (λ (x : Extent). IsApart (reference at len) (reference x.at x.len) × (x.len ≤ rounded x.len)) xs → map (filled new) xs ≡ map
    (filled old) xs
filled_kept old new at len [] change apart = refl
filled_kept old new at len (x ∷ xs) change apart =
    let bytes = bytes_kept old new at len (reference x.at x.len) x.len apart.0.1 change apart.0.0 in
    ap (λ (b : List ℕ). record x { bytes = b } ∷ map (filled new) xs) bytes ∙ ap (λ (l : List Extent). filled old x ∷ l)
    (filled_kept old new at len xs change apart.1)

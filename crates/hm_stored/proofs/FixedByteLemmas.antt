-- Fixed bytes of a disk stay, and are settled where they were, as bytes are put into a new extent of the pool.
use Rattle.std.proofs.Common.{◌≡◌, Bool, true, false, true≢false, ℕ, ◌+◌, ◌<◌, ◌≤◌, inl, inr, ⊎_elim, List, [], ◌∷◌, Option, Some, None, refl, sym, ap}
use Rattle.std.proofs.Common.{◌∙◌, arith, cond, length, nat_le, nat_lt, slice_index}
use Rattle.std.specs.Prelude.{All, ◌&&◌, ◌||◌}
use Rattle.std.specs.List.{list_any}
use Rattle.std.proofs.lemmas.Bool.{cases_lt, leb-true, ltb-true}
use Rattle.std.proofs.lemmas.List.{get_or_past}
use Rattle.std.proofs.lemmas.List.Elements.{All-head, All-tail}
use Rattle.hm_types.specs.Layout.{first_pool, start_of}
use Rattle.hm_types.specs.Offset.{byte_of}
use Rattle.hm_types.specs.References.{Reference, begin_of, end_of}
use Rattle.hm_types.specs.Space.{rounded}
use Rattle.hm_disk.specs.Crash.{MayLeave, Outside, Told, is_outside}
use Rattle.hm_disk.proofs.CrashLemmas.{is_outside-from}
use Rattle.hm_freemap.specs.Extents.{IsApart, reference}
use Rattle.hm_stored.specs.Calls.{Alters, AltersAt}
use Rattle.hm_stored.specs.Fixed.{does_name, fixed_with, is_fixed}

-- a byte that a reference names is none of what stands apart from it
named_outside : (at len byte : ℕ) (r : Reference) → does_name byte r ≡ true → IsApart (reference at len) r → Outside ((byte_of at, rounded len) ∷ []) byte
named_outside at len byte r named apart = by_parts (nat_le (begin_of r) byte) (nat_lt byte (begin_of r + r.len)) refl refl named where
  by_parts : (a b : Bool) → nat_le (begin_of r) byte ≡ a → nat_lt byte (begin_of r + r.len) ≡ b → (a && b) ≡ true
      → Outside ((byte_of at, rounded len) ∷ []) byte
  by_parts true true from to both =
      let low = leb-true (begin_of r) byte from in
      let high = ltb-true byte (begin_of r + r.len) to in (
        ⊎_elim (λ (before : end_of (reference at len) ≤ begin_of r). inr (omega (arith, before, low)))
            (λ (after : end_of r ≤ begin_of (reference at len)). inl (omega (arith, after, high))) apart,
        tt,
      )
  by_parts true false from to both = absurd (true≢false (sym both))
  by_parts false b from to both = absurd (true≢false (sym both))

any_outside : (at len byte : ℕ) (refs : List Reference) → list_any (does_name byte) refs ≡ true → All (IsApart (reference at len)) refs
    → Outside ((byte_of at, rounded len) ∷ []) byte
any_outside at len byte [] named apart = absurd (true≢false (sym named))
any_outside at len byte (r ∷ refs) named apart =
    by_test (does_name byte r) refl (All-head (IsApart (reference at len)) r refs apart)
    (λ more. any_outside at len byte refs more (All-tail (IsApart (reference at len)) r refs apart)) named where
      by_test : (t : Bool) → does_name byte r ≡ t → IsApart (reference at len) r
          → (list_any (does_name byte) refs ≡ true → Outside ((byte_of at, rounded len) ∷ []) byte) → (t || list_any (does_name byte) refs) ≡ true
          → Outside ((byte_of at, rounded len) ∷ []) byte
      by_test true is apart rest named = named_outside at len byte r is apart
      by_test false is apart rest named = rest named

-- a range of ranges is left out where a byte lies outside it
pub outside_added : (place count byte : ℕ) (unsettled : List (ℕ × ℕ)) → Outside ((place, count) ∷ []) byte
    → is_outside ((place, count) ∷ unsettled) byte ≡ is_outside unsettled byte
outside_added place count byte unsettled outside =
    by_test (nat_lt byte place || nat_le (place + count) byte) (is_outside-from ((place, count) ∷ []) byte outside) where
      by_test : (t : Bool) → (t && true) ≡ true → (t && is_outside unsettled byte) ≡ is_outside unsettled byte
      by_test true is = refl
      by_test false is = absurd (true≢false (sym is))

-- what a disk has in a byte, and whether that is settled
abbrev byte_in : Told → ℕ → ℕ × Bool
byte_in t byte = (slice_index t.bytes byte, is_outside t.unsettled byte)

-- What was taken stands in the pool, and apart from each reference where they count.
module _ (bigblocks : ℕ) (known : Bool) (refs : List Reference) (at len : ℕ) (pool : start_of (first_pool bigblocks) ≤ byte_of at)
    (apart : known ≡ true → All (IsApart (reference at len)) refs) where
  fixed_outside : (byte : ℕ) → is_fixed bigblocks known refs byte ≡ true → Outside ((byte_of at, rounded len) ∷ []) byte
  fixed_outside byte fixed =
      by_parts (nat_lt byte (start_of (first_pool bigblocks))) known (list_any (does_name byte) refs) refl refl refl fixed where
        by_parts : (low k any : Bool) → nat_lt byte (start_of (first_pool bigblocks)) ≡ low → known ≡ k → list_any (does_name byte) refs ≡ any
            → (low || (k && any)) ≡ true → Outside ((byte_of at, rounded len) ∷ []) byte
        by_parts true k any below is named fixed = (inl (let less = ltb-true byte (start_of (first_pool bigblocks)) below in omega (arith, less, pool)), tt)
        by_parts false true true below is named fixed = any_outside at len byte refs named (apart is)
        by_parts false true false below is named fixed = absurd (true≢false (sym fixed))
        by_parts false false any below is named fixed = absurd (true≢false (sym fixed))

  byte_stays : (old new : List ℕ) (byte : ℕ) → MayLeave old ((byte_of at, rounded len) ∷ []) new → is_fixed bigblocks known refs byte ≡ true
      → slice_index new byte ≡ slice_index old byte
  byte_stays old new byte change fixed =
      ⊎_elim (λ (within : byte < length old). change.same byte within (fixed_outside byte fixed))
      (λ (past : length old ≤ byte). get_or_past new byte 0 (let size = change.size in omega (arith, size, past)) ∙ sym (get_or_past old byte 0 past))
      (cases_lt byte (length old))

  value_stays : (t u : Told) (byte : ℕ) → AltersAt (byte_of at) (rounded len) t u → is_fixed bigblocks known refs byte ≡ true
      → byte_in u byte ≡ byte_in t byte
  value_stays t u byte alters fixed =
      ap (λ (b : ℕ). (b, is_outside u.unsettled byte)) (byte_stays t.bytes u.bytes byte alters.bytes fixed)
      ∙ ap (λ (s : Bool). (slice_index t.bytes byte, s)) (alters.settled byte (fixed_outside byte fixed))

  pub fixed_altered : (was is : Option Told) → Alters (byte_of at) (rounded len) was is
      → fixed_with bigblocks known refs is ≡ fixed_with bigblocks known refs was
  unfolding fixed_with
  fixed_altered None None both = refl
  fixed_altered None (Some u) both = absurd both
  fixed_altered (Some t) None both = absurd both
  fixed_altered (Some t) (Some u) both =
      ap Some (λ i byte. by_test byte (is_fixed bigblocks known refs byte) refl i) where
        by_test : (byte : ℕ) (f : Bool) → is_fixed bigblocks known refs byte ≡ f → cond f (Some (byte_in u byte)) None ≡ cond f (Some (byte_in t byte)) None
        by_test byte true fixed = ap Some (value_stays t u byte both fixed)
        by_test byte false fixed = refl

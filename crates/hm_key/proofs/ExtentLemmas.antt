-- Lists of extents that stay apart and live when one comes, goes or is shared.
use Rattle.std.proofs.Common.{◌≡◌, ℕ, ◌+◌, ◌-◌, ◌^◌, ◌<◌, ◌≤◌, List, [], ◌∷◌, ◌++◌, true, false, Bool, Some, refl, ap, sym, arith, nat_eq, length, take}
use Rattle.std.proofs.Common.{replicate}
use Rattle.std.specs.Prelude.{if◌then◌else◌, IsSomeAnd}
use Rattle.std.specs.List.{AllByRecursion}
use Rattle.std.proofs.lemmas.Bool.{lt-ltb, eqb-false}
use Rattle.std.proofs.lemmas.List.Elements.{All-from_recursion, recursion_from_All, All-nil}
use Rattle.std.proofs.lemmas.Grind.{common_steps}
use Rattle.hm_types.specs.Offset.{zone_of, volume_of, byte_of, raw_of}
use Rattle.hm_types.specs.Space.{IsPayloadZone, rounded}
use Rattle.hm_key.specs.Extents.{Extent, IsExtent, AreApart, AreExtents, PlacesAt, extent_at, with_extent, shared_at, given_back_at}
use Rattle.hm_key.specs.Memory.{EndBy}

-- no extents are live ones
pub extents_none : AreExtents []
extents_none = record { apart = tt; each = All-nil IsExtent }

-- extents begin at a lower byte or later
apart_lower : (low high : ℕ) (xs : List Extent) → low ≤ high → AreApart high xs → AreApart low xs
apart_lower low high [] le apart = tt
apart_lower low high (x ∷ xs) le apart = (omega (arith, apart.0), apart.1)

-- extents end by a later byte
pub EndBy-later : (next later : ℕ) (xs : List Extent) → next ≤ later → EndBy next xs → EndBy later xs
EndBy-later next later [] le by = tt
EndBy-later next later (x ∷ xs) le by = (omega (arith, by.0), EndBy-later next later xs le by.1)

pub EndBy-push : (next : ℕ) (new : Extent) (xs : List Extent) → EndBy next xs → byte_of new.at + new.len ≤ next → EndBy next (xs ++ new ∷ [])
EndBy-push next new [] by end = (end, tt)
EndBy-push next new (x ∷ xs) by end = (by.0, EndBy-push next new xs by.1 end)

apart_push : (low next : ℕ) (new : Extent) (xs : List Extent) → low ≤ next → byte_of new.at ≡ next → AreApart low xs → EndBy next xs
    → AreApart low (xs ++ new ∷ [])
apart_push low next new [] le at apart by = (omega arith, tt)
apart_push low next new (x ∷ xs) le at apart by = (apart.0, apart_push (byte_of x.at + x.len) next new xs by.0 at apart.1 by.1)

each_push : (new : Extent) (xs : List Extent) → IsExtent new → AllByRecursion IsExtent xs → AllByRecursion IsExtent (xs ++ new ∷ [])
each_push new [] is each = (is, tt)
each_push new (x ∷ xs) is each = (each.0, each_push new xs is each.1)

-- a new extent comes after the others
pub extents_push : (next : ℕ) (new : Extent) (xs : List Extent) → byte_of new.at ≡ next → IsExtent new → AreExtents xs → EndBy next xs
    → AreExtents (xs ++ new ∷ [])
extents_push next new xs at is live by = record {
  apart = apart_push 0 next new xs (omega arith) at live.apart by;
  each = All-from_recursion IsExtent (xs ++ new ∷ []) (each_push new xs is (recursion_from_All IsExtent xs live.each));
}

push_last : (next : ℕ) (new : Extent) (xs : List Extent) → byte_of new.at ≡ next → AllByRecursion IsExtent xs → EndBy next xs
    → with_extent new xs ≡ xs ++ new ∷ []
push_last next new [] at each by = refl
push_last next new (x ∷ xs) at each by =
    rw (lt-ltb (byte_of x.at) (byte_of new.at) (omega (arith, each.0.some, by.0))) (ap (λ (l : List Extent). x ∷ l) (push_last next new xs at each.1 by.1))

-- an extent after the others is the last one
pub with_extent-last : (next : ℕ) (new : Extent) (xs : List Extent) → byte_of new.at ≡ next → AreExtents xs → EndBy next xs
    → with_extent new xs ≡ xs ++ new ∷ []
with_extent-last next new xs at live by = push_last next new xs at (recursion_from_All IsExtent xs live.each) by

-- one extent changes its number of references
counted : (x : Extent) (refs : ℕ) → IsExtent x → 1 ≤ refs → refs ≤ 64 → IsExtent (record x { refs = refs })
counted x refs is some few = record { volume = is.volume; zone = is.zone; some = is.some; whole = is.whole; bytes = is.bytes; shared = (some, few) }

shared_apart : (low at : ℕ) (xs : List Extent) → AreApart low xs → AreApart low (shared_at at xs)
shared_apart low at [] apart = tt
shared_apart low at (x ∷ xs) apart = by_test (nat_eq x.at at) (shared_apart (byte_of x.at + x.len) at xs apart.1) where
  by_test : (b : Bool) → AreApart (byte_of x.at + x.len) (shared_at at xs)
      → AreApart low (if b then record x { refs = x.refs + 1 } ∷ xs else x ∷ shared_at at xs)
  by_test true more = apart
  by_test false more = (apart.0, more)

shared_each : (at : ℕ) (xs : List Extent) → IsSomeAnd (extent_at at xs) (λ x. x.refs < 64) → AllByRecursion IsExtent xs
    → AllByRecursion IsExtent (shared_at at xs)
shared_each at [] few each = tt
shared_each at (x ∷ xs) few each = by_test (nat_eq x.at at) few (λ less. shared_each at xs less each.1) where
  by_test : (b : Bool) → IsSomeAnd (if b then Some x else extent_at at xs) (λ y. y.refs < 64)
      → (IsSomeAnd (extent_at at xs) (λ y. y.refs < 64) → AllByRecursion IsExtent (shared_at at xs))
      → AllByRecursion IsExtent (if b then record x { refs = x.refs + 1 } ∷ xs else x ∷ shared_at at xs)
  by_test true few more = (counted x (x.refs + 1) each.0 (omega arith) (omega arith), each.1)
  by_test false few more = (each.0, more few)

-- an extent with fewer than 64 references is shared
pub extents_shared : (at : ℕ) (xs : List Extent) → IsSomeAnd (extent_at at xs) (λ x. x.refs < 64) → AreExtents xs → AreExtents (shared_at at xs)
extents_shared at xs few live = record {
  apart = shared_apart 0 at xs live.apart;
  each = All-from_recursion IsExtent (shared_at at xs) (shared_each at xs few (recursion_from_All IsExtent xs live.each));
}

pub EndBy-shared : (next at : ℕ) (xs : List Extent) → EndBy next xs → EndBy next (shared_at at xs)
EndBy-shared next at [] by = tt
EndBy-shared next at (x ∷ xs) by = by_test (nat_eq x.at at) (EndBy-shared next at xs by.1) where
  by_test : (b : Bool) → EndBy next (shared_at at xs) → EndBy next (if b then record x { refs = x.refs + 1 } ∷ xs else x ∷ shared_at at xs)
  by_test true more = by
  by_test false more = (by.0, more)

-- the first extent loses a reference
abbrev less_first : Extent → List Extent → List Extent
less_first x xs = if nat_eq x.refs 1 then xs else record x { refs = x.refs - 1 } ∷ xs

given_apart : (low at : ℕ) (xs : List Extent) → AreApart low xs → AreApart low (given_back_at at xs)
given_apart low at [] apart = tt
given_apart low at (x ∷ xs) apart = by_test (nat_eq x.at at) (nat_eq x.refs 1) (given_apart (byte_of x.at + x.len) at xs apart.1) where
  by_test : (b last : Bool) → AreApart (byte_of x.at + x.len) (given_back_at at xs)
      → AreApart low (if b then (if last then xs else record x { refs = x.refs - 1 } ∷ xs) else x ∷ given_back_at at xs)
  by_test true true more = apart_lower low (byte_of x.at + x.len) xs (omega (arith, apart.0)) apart.1
  by_test true false more = apart
  by_test false last more = (apart.0, more)

given_each : (at : ℕ) (xs : List Extent) → AllByRecursion IsExtent xs → AllByRecursion IsExtent (given_back_at at xs)
given_each at [] each = tt
given_each at (x ∷ xs) each = by_test (nat_eq x.at at) (nat_eq x.refs 1) refl (given_each at xs each.1) where
  by_test : (b last : Bool) → nat_eq x.refs 1 ≡ last → AllByRecursion IsExtent (given_back_at at xs)
      → AllByRecursion IsExtent (if b then (if last then xs else record x { refs = x.refs - 1 } ∷ xs) else x ∷ given_back_at at xs)
  by_test true true is more = each.1
  by_test true false is more = (counted x (x.refs - 1) each.0 (omega (arith, eqb-false x.refs 1 is, each.0.shared)) (omega (arith, each.0.shared)), each.1)
  by_test false last is more = (each.0, more)

-- a reference is given back
pub extents_given : (at : ℕ) (xs : List Extent) → AreExtents xs → AreExtents (given_back_at at xs)
extents_given at xs live = record {
  apart = given_apart 0 at xs live.apart;
  each = All-from_recursion IsExtent (given_back_at at xs) (given_each at xs (recursion_from_All IsExtent xs live.each));
}

pub EndBy-given : (next at : ℕ) (xs : List Extent) → EndBy next xs → EndBy next (given_back_at at xs)
EndBy-given next at [] by = tt
EndBy-given next at (x ∷ xs) by = by_test (nat_eq x.at at) (nat_eq x.refs 1) (EndBy-given next at xs by.1) where
  by_test : (b last : Bool) → EndBy next (given_back_at at xs)
      → EndBy next (if b then (if last then xs else record x { refs = x.refs - 1 } ∷ xs) else x ∷ given_back_at at xs)
  by_test true true more = by.1
  by_test true false more = by
  by_test false last more = (by.0, more)

-- the volume of an offset is 0
volume_none : (zone byte at : ℕ) → IsPayloadZone zone → byte < 2 ^ 52 → at ≡ raw_of zone byte → volume_of at ≡ 0
volume_none zone byte at is below made = rw made (omega arith)

-- bytes that are filled up to a length begin with themselves
pub filled_begin : (given all : List ℕ) (len : ℕ) → length given ≤ len → all ≡ take len given ++ replicate (len - length given) 0
    → take (length given) all ≡ given
filled_begin given all len fits is = rw is (grind (arith, common_steps))

pub filled_length : (given all : List ℕ) (len : ℕ) → length given ≤ len → all ≡ take len given ++ replicate (len - length given) 0 → length all ≡ len
filled_length given all len fits is = rw is (grind (arith, common_steps))

-- bytes that were put at a place, filled up to a length of 16 bytes times a number
pub record IsFilled (zone next at : ℕ) (given all : List ℕ) : Type 0 where
  pub payload : IsPayloadZone zone
  pub some : 1 ≤ length given
  pub below : next < 2 ^ 52
  pub offset : at ≡ raw_of zone next
  pub parts : (zone_of at ≡ zone) × (byte_of at ≡ next)
  pub fill : all ≡ take (rounded (length given)) given ++ replicate (rounded (length given) - length given) 0

-- they make an extent
abbrev pub new_extent : ℕ → List ℕ → Extent
new_extent at all = record { at = at; len = length all; bytes = all; refs = 1 }

module _ (zone next at : ℕ) (given all : List ℕ) (filled : IsFilled zone next at given all) where
  pub new_length : length all ≡ rounded (length given)
  new_length = filled_length given all (rounded (length given)) (omega arith) filled.fill

  pub new_live : IsExtent (new_extent at all)
  new_live = record {
    volume = volume_none zone next at filled.payload filled.below filled.offset;
    zone = rw filled.parts.0 filled.payload;
    some = let some : 1 ≤ length given = filled.some in omega (arith, new_length);
    whole = rw new_length (omega arith);
    bytes = refl;
    shared = (omega arith, omega arith);
  }

  -- it comes after the others
  pub new_places : (xs : List Extent) → AreExtents xs → EndBy next xs → PlacesAt at given xs (xs ++ new_extent at all ∷ [])
  new_places xs live by = record {
    extent = new_extent at all;
    place = refl;
    size = new_length;
    begin = filled_begin given all (rounded (length given)) (omega arith) filled.fill;
    one = refl;
    list = sym (with_extent-last next (new_extent at all) xs filled.parts.1 live by);
  }

  -- the list stays one of live extents that end by the next place
  pub new_extents : (xs : List Extent) → AreExtents xs → EndBy next xs → AreExtents (xs ++ new_extent at all ∷ [])
  new_extents xs live by = extents_push next (new_extent at all) xs filled.parts.1 new_live live by

  pub new_end : (xs : List Extent) → EndBy next xs → EndBy (next + rounded (length given)) (xs ++ new_extent at all ∷ [])
  new_end xs by =
      EndBy-push (next + rounded (length given)) (new_extent at all) xs (EndBy-later next (next + rounded (length given)) xs (omega arith) by)
      (omega (arith, new_length, filled.parts.1))

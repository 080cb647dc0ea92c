-- Extents in memory: what stands at a place, and what a list becomes there.
use Rattle.std.proofs.Common.{◌≡◌, ℕ, zero, suc, ◌+◌, ◌-◌, ◌<◌, ◌≤◌, List, [], ◌∷◌, ◌++◌, true, false, true≢false, Bool, Some, None, refl, ap, sym, ◌∙◌, arith}
use Rattle.std.proofs.Common.{nat_eq, length, get_or, set, remove, subst, not, add-one, Vec, Global, take, replicate, ◌^◌}
use Rattle.std.specs.Prelude.{if◌then◌else◌, IsSome, option_map}
use Rattle.std.proofs.lemmas.Bool.{eq-eqb, eqb-true}
use Rattle.std.proofs.lemmas.List.{get_or_default, get_or-map, length-map, map-append}
use Rattle.hm_types.specs.Offset.{zone_of, byte_of, raw_of}
use Rattle.hm_types.specs.Space.{IsPayloadZone, rounded}
use Rattle.hm_key.specs.Extents.{Extent, IsExtent, AreExtents, extent_at, shared_at, given_back_at}
use Rattle.hm_key.specs.Memory.{extent_of_held, extents_of, length_and_references, EndBy, NoneAt, IsAt}
use Rattle.hm_key.specs.declared.held.Held.{Held}
use Rattle.hm_key.proofs.ExtentLemmas.{IsFilled, new_extent, new_extents, new_end, EndBy-later}

-- one more extent does not stand at the offset
pub NoneAt-more : (at : ℕ) (d : Held) (hs : List Held) (place : ℕ) → NoneAt at hs place → place < length hs → nat_eq (get_or hs place d).at at ≡ false
    → NoneAt at hs (suc place)
NoneAt-more at d [] place none within not = absurd (omega arith)
NoneAt-more at d (h ∷ hs) zero none within not = (not, tt)
NoneAt-more at d (h ∷ hs) (suc place) none within not = (none.0, NoneAt-more at d hs place none.1 (omega arith) not)

-- an extent at the offset with none before it
pub IsAt-found : (at : ℕ) (d : Held) (hs : List Held) (place : ℕ) → NoneAt at hs place → place < length hs → nat_eq (get_or hs place d).at at ≡ true
    → IsAt at hs place
IsAt-found at d [] place none within is = absurd (omega arith)
IsAt-found at d (h ∷ hs) zero none within is = is
IsAt-found at d (h ∷ hs) (suc place) none within is = (none.0, IsAt-found at d hs place none.1 (omega arith) is)

-- where none of the extents before a place stands at the offset, the one that does comes later
pub NoneAt-left : (at : ℕ) (hs : List Held) (place : ℕ) → NoneAt at hs place → IsSome (extent_at at (extents_of hs)) → place < length hs
NoneAt-left at [] place none there = absurd (true≢false (sym there))
NoneAt-left at (h ∷ hs) zero none there = omega arith
NoneAt-left at (h ∷ hs) (suc place) none there = omega (arith, NoneAt-left at hs place none.1 (rw none.0 at there))

-- whether an extent stands at an offset, as the code tests it
pub held_read : (at : ℕ) (h : Held) (hs : List Held) (place : ℕ) (test b : Bool) → h ≡ get_or hs place h → test ≡ not (nat_eq h.at at) → test ≡ b
    → nat_eq (get_or hs place h).at at ≡ not b
held_read at h hs place test b read is same = subst (λ (x : Held). nat_eq x.at at ≡ not b) read (unturned (nat_eq h.at at) test b is same) where
  unturned : (a test b : Bool) → test ≡ not a → test ≡ b → a ≡ not b
  unturned true test b is same = ap not (sym is ∙ same)
  unturned false test b is same = ap not (sym is ∙ same)

-- a place is within the list
pub IsAt-within : (at : ℕ) (hs : List Held) (place : ℕ) → IsAt at hs place → place < length hs
IsAt-within at [] place is = absurd is
IsAt-within at (h ∷ hs) zero is = omega arith
IsAt-within at (h ∷ hs) (suc place) is = omega (arith, IsAt-within at hs place is.1)

-- the extent at the offset is the one at its place
pub extent_at-place : (at : ℕ) (d : Held) (hs : List Held) (place : ℕ) → IsAt at hs place
    → extent_at at (extents_of hs) ≡ Some (extent_of_held (get_or hs place d))
extent_at-place at d [] place is = absurd is
extent_at-place at d (h ∷ hs) zero is = rw is refl
extent_at-place at d (h ∷ hs) (suc place) is = rw is.0 (extent_at-place at d hs place is.1)

-- the extent at its place is shared
pub shared_at-place : (at : ℕ) (d : Held) (hs : List Held) (place : ℕ) → IsAt at hs place
    → extents_of (set hs place (record (get_or hs place d) { refs = (get_or hs place d).refs + 1 })) ≡ shared_at at (extents_of hs)
shared_at-place at d [] place is = absurd is
shared_at-place at d (h ∷ hs) zero is = rw is refl
shared_at-place at d (h ∷ hs) (suc place) is = rw is.0 (ap (λ (l : List Extent). extent_of_held h ∷ l) (shared_at-place at d hs place is.1))

-- the extent at its place loses a reference that is not its last
pub given_at-place : (at : ℕ) (d : Held) (hs : List Held) (place : ℕ) → IsAt at hs place → nat_eq (get_or hs place d).refs 1 ≡ false
    → extents_of (set hs place (record (get_or hs place d) { refs = (get_or hs place d).refs - 1 })) ≡ given_back_at at (extents_of hs)
given_at-place at d [] place is more = absurd is
given_at-place at d (h ∷ hs) zero is more = rw (is, more) refl
given_at-place at d (h ∷ hs) (suc place) is more = rw is.0 (ap (λ (l : List Extent). extent_of_held h ∷ l) (given_at-place at d hs place is.1 more))

-- the extent at its place goes with its last reference
pub gone_at-place : (at : ℕ) (d : Held) (hs : List Held) (place : ℕ) → IsAt at hs place → nat_eq (get_or hs place d).refs 1 ≡ true
    → extents_of (remove hs place) ≡ given_back_at at (extents_of hs)
gone_at-place at d [] place is last = absurd is
gone_at-place at d (h ∷ hs) zero is last = rw (is, last) refl
gone_at-place at d (h ∷ hs) (suc place) is last = rw is.0 (ap (λ (l : List Extent). extent_of_held h ∷ l) (gone_at-place at d hs place is.1 last))

-- the extent at its place is live
pub live_at : (d : Held) (hs : List Held) (place : ℕ) → place < length hs → AreExtents (extents_of hs) → IsExtent (extent_of_held (get_or hs place d))
live_at d hs place within live =
    subst IsExtent (get_or-map extent_of_held hs place d (extent_of_held d) within)
    (live.each place (extent_of_held d) (omega (arith, length-map hs extent_of_held)))

-- what was read twice is the same
pub read_twice : (h k : Held) (hs : List Held) (place : ℕ) → place < length hs → h ≡ get_or hs place h → k ≡ get_or hs place k → h ≡ k
read_twice h k hs place within first second = first ∙ get_or_default hs place h k within ∙ sym second

-- the extent that was read at its place is shared
pub shared_here : (at : ℕ) (h : Held) (hs : List Held) (place : ℕ) → IsAt at hs place → h ≡ get_or hs place h
    → extents_of (set hs place (record h { refs = h.refs + 1 })) ≡ shared_at at (extents_of hs)
shared_here at h hs place is read = ap (λ (x : Held). extents_of (set hs place (record x { refs = x.refs + 1 }))) read ∙ shared_at-place at h hs place is

-- a number above 1 is not 1
not_one : (n : ℕ) → 1 < n → nat_eq n 1 ≡ false
not_one n more = by_test (nat_eq n 1) refl where
  by_test : (b : Bool) → nat_eq n 1 ≡ b → nat_eq n 1 ≡ false
  by_test true is = absurd (omega (arith, eqb-true n 1 is))
  by_test false is = is

-- the extent that was read at its place loses one of its references
pub given_here : (at : ℕ) (h : Held) (hs : List Held) (place : ℕ) → IsAt at hs place → h ≡ get_or hs place h → 1 < h.refs
    → extents_of (set hs place (record h { refs = h.refs - 1 })) ≡ given_back_at at (extents_of hs)
given_here at h hs place is read more =
    let several : nat_eq (get_or hs place h).refs 1 ≡ false = ap (λ (x : Held). nat_eq x.refs 1) (sym read) ∙ not_one h.refs more in
    ap (λ (x : Held). extents_of (set hs place (record x { refs = x.refs - 1 }))) read ∙ given_at-place at h hs place is several

-- the extent that was read at its place loses its last reference
pub gone_here : (at : ℕ) (h : Held) (hs : List Held) (place : ℕ) → IsAt at hs place → h ≡ get_or hs place h → h.refs ≤ 1 → AreExtents (extents_of hs)
    → extents_of (remove hs place) ≡ given_back_at at (extents_of hs)
gone_here at h hs place is read few live =
    let some : 1 ≤ h.refs = subst (λ (x : Held). 1 ≤ x.refs) (sym read) (live_at h hs place (IsAt-within at hs place is) live).shared.0 in
    let last : nat_eq (get_or hs place h).refs 1 ≡ true = ap (λ (x : Held). nat_eq x.refs 1) (sym read) ∙ eq-eqb h.refs 1 (omega arith) in
    gone_at-place at h hs place is last

-- the list with a new extent
pub placed_list : (at : ℕ) (bytes : Vec ℕ Global) (hs fs : List Held) → fs ≡ hs ++ record { at = at; bytes = bytes; refs = 1 } ∷ []
    → extents_of fs ≡ extents_of hs ++ new_extent at bytes.items ∷ []
placed_list at bytes hs fs items = ap extents_of items ∙ map-append extent_of_held hs (record { at = at; bytes = bytes; refs = 1 } ∷ [])

-- a new extent comes last, or the list stays
pub placed_if : (b : Bool) (zone next at : ℕ) (given : List ℕ) (bytes : Vec ℕ Global) (hs fs : List Held) → IsFilled zone next at given bytes.items
    → AreExtents (extents_of hs) → EndBy next (extents_of hs) → fs ≡ (if b then hs ++ record { at = at; bytes = bytes; refs = 1 } ∷ [] else hs)
    → AreExtents (extents_of fs) × EndBy (next + rounded (length given)) (extents_of fs)
placed_if true zone next at given bytes hs fs filled live by items =
    rw (placed_list at bytes hs fs items) (
      new_extents zone next at given bytes.items filled
          (extents_of hs) live by,
      new_end zone next at given bytes.items filled (extents_of hs) by,
    )
placed_if false zone next at given bytes hs fs filled live by items =
    rw items (live, EndBy-later next (next + rounded (length given)) (extents_of hs) (omega arith) by)

-- how the bytes of a new extent were made
pub filled_by : (zone next at : ℕ) (given copy all : List ℕ) (len : ℕ) → IsPayloadZone zone → 1 ≤ length given → next < 2 ^ 52 → at ≡ raw_of zone next
    → (zone_of at ≡ zone) × (byte_of at ≡ next) → copy ≡ given → len ≡ length given
    → all ≡ take (rounded (length given)) copy ++ replicate (rounded (length given) - len) 0 → IsFilled zone next at given all
filled_by zone next at given copy all len payload some below offset parts same is fill = record {
  payload = payload;
  some = some;
  below = below;
  offset = offset;
  parts = parts;
  fill = fill ∙ rw (same, is) refl;
}

-- the extent that was read at its place is live
pub live_here : (at : ℕ) (h : Held) (hs : List Held) (place : ℕ) → IsAt at hs place → h ≡ get_or hs place h → AreExtents (extents_of hs)
    → IsExtent (extent_of_held h)
live_here at h hs place is read live = subst (λ (x : Held). IsExtent (extent_of_held x)) (sym read) (live_at h hs place (IsAt-within at hs place is) live)

-- the extent at the offset is the one that was read at its place
pub extent_at-here : (at : ℕ) (h : Held) (hs : List Held) (place : ℕ) → IsAt at hs place → h ≡ get_or hs place h
    → extent_at at (extents_of hs) ≡ Some (extent_of_held h)
extent_at-here at h hs place is read = extent_at-place at h hs place is ∙ ap (λ (x : Held). Some (extent_of_held x)) (sym read)

-- an extent that was read twice has one number of references
pub more_twice : (at : ℕ) (h k : Held) (hs : List Held) (place : ℕ) → IsAt at hs place → h ≡ get_or hs place h → k ≡ get_or hs place k → 1 < h.refs → 1 < k.refs
more_twice at h k hs place is first second more = subst (λ (x : Held). 1 < x.refs) (read_twice h k hs place (IsAt-within at hs place is) first second) more

-- what is told of the extent at an offset, which was found
pub told_found : (at : ℕ) (h : Held) (hs read : List Held) (i : ℕ) → read ≡ hs → NoneAt at hs i → i < length hs → nat_eq h.at at ≡ true → h ≡ get_or read i h
    → Some (length_and_references (extent_of_held h)) ≡ option_map length_and_references (extent_at at (extents_of hs))
told_found at h hs read i is none within same found =
    let there : h ≡ get_or hs i h = found ∙ ap (λ (l : List Held). get_or l i h) is in
    let here : IsAt at hs i = IsAt-found at h hs i none within (subst (λ (x : Held). nat_eq x.at at ≡ true) there same) in
    rw (extent_at-here at h hs i here there) refl

-- the extents that were looked at, and one more
pub told_more : (at : ℕ) (h : Held) (hs read : List Held) (i : ℕ) → read ≡ hs → NoneAt at hs i → i < length hs → nat_eq h.at at ≡ false → h ≡ get_or read i h
    → NoneAt at hs (i + 1)
told_more at h hs read i is none within other found =
    let there : h ≡ get_or hs i h = found ∙ ap (λ (l : List Held). get_or l i h) is in
    rw add-one (NoneAt-more at h hs i none within (subst (λ (x : Held). nat_eq x.at at ≡ false) there other))

-- none stands at an offset, when all were looked at
pub told_none : (at : ℕ) (hs : List Held) (i : ℕ) → NoneAt at hs i → length hs ≤ i → None ≡ option_map length_and_references (extent_at at (extents_of hs))
told_none at [] i none all = refl
told_none at (h ∷ hs) zero none all = absurd (omega arith)
told_none at (h ∷ hs) (suc i) none all = rw none.0 (told_none at hs i none.1 (omega arith))

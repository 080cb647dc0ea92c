-- The space that a name takes, and a new object with a target of the most bytes.
use Rattle.std.proofs.Common.{◌≡◌, ℕ, zero, suc, ◌+◌, ◌-◌, ◌/◌, ◌%◌, ◌≤◌, Bool, true, false, List, [], ◌∷◌, ◌++◌, length, if◌then◌else◌, ap, ◌∙◌, arith}
use Rattle.std.specs.Prelude.{◌==◌, nat_eq, replicate}
use Rattle.std.specs.Fmt.{char_count, digit_glyph, digits, digits_onto, padded_integral}
use Rattle.std.proofs.lemmas.List.{length-append, length-replicate}
use Rattle.hm_types.specs.Id.{hex16}
use Rattle.hm_types.specs.Name.{IsName}
use Rattle.hm_types.specs.Space.{Spends, in_zone, rounded}
use Rattle.hm_types.specs.declared.id.Obj.{Obj}
use Rattle.hm_types.specs.declared.zone.TheConstants.{META_ZONE}
use Rattle.hm_model.specs.Change.{snapshot_target}
use Rattle.hm_records.specs.Entry.{entry_bytes}
use Rattle.hm_records.proofs.EntryLemmas.{length-entry}
use Rattle.hm_cursor.specs.Write.{HasRoomFor, taken}
use Rattle.hm_objects.specs.Objects.{HasRooms, spent}

-- ---- names

entry_size : (obj : Obj) (name : List ℕ) → IsName name → rounded (length (entry_bytes (record { obj = obj; name = name }))) ≤ 272
entry_size obj name is = omega (arith, length-entry (record { obj = obj; name = name }), is.size.1)

pub entry_room : (room : ℕ → ℕ) (obj : Obj) (name : List ℕ) → IsName name → HasRooms room 1 272
    → HasRoomFor room META_ZONE (entry_bytes (record { obj = obj; name = name }))
entry_room room obj name is has = record { tree = omega (arith, has.tree); payload = omega (arith, entry_size obj name is, has.meta) }

if_more : (t : Bool) (a b : ℕ) → a ≤ b → (if t then a else 0) ≤ (if t then b else 0)
if_more true a b less = less
if_more false a b less = omega arith

zone_more : (one a b zone : ℕ) → a ≤ b → in_zone one a zone ≤ in_zone one b zone
zone_more one a b zone less = if_more (nat_eq zone one) a b less

pub entry_spends : {S : Type 0} (room_of : S → ℕ → ℕ) (free_of : S → ℕ) (obj : Obj) (name : List ℕ) (old new : S) → IsName name
    → Spends room_of free_of (taken META_ZONE (entry_bytes (record { obj = obj; name = name }))) old new → Spends room_of free_of (spent 1 272) old new
entry_spends room_of free_of obj name old new is spends = record {
  room = λ zone. omega (
    arith,
    spends.room zone,
    zone_more META_ZONE (rounded (length (entry_bytes (record { obj = obj; name = name })))) 272 zone (entry_size obj name is),
  );
  free = spends.free;
}

-- ---- targets

pub target_room : (room : ℕ → ℕ) (size : ℕ) → size ≤ 1023 → HasRooms room 2 1056 → HasRooms room 2 (32 + rounded size)
target_room room size few has = record { tree = has.tree; meta = omega (arith, few, has.meta) }

pub target_spends : {S : Type 0} (room_of : S → ℕ → ℕ) (free_of : S → ℕ) (size : ℕ) (old new : S) → size ≤ 1023
    → Spends room_of free_of (spent 2 (32 + rounded size)) old new → Spends room_of free_of (spent 2 1056) old new
target_spends room_of free_of size old new few spends = record {
  room = λ zone. omega (arith, spends.room zone, zone_more META_ZONE (32 + rounded size) 1056 zone (omega (arith, few)));
  free = spends.free;
}

-- ---- the target of a snapshot

if_size : (t : Bool) (a b : List ℕ) (most : ℕ) → length a ≤ most → length b ≤ most → length (if t then a else b) ≤ most
if_size true a b most first second = first
if_size false a b most first second = second

few_digits : (k n : ℕ) (acc : List ℕ) → length (digits_onto k 16 false n acc) ≤ k + length acc
few_digits zero n acc = omega arith
few_digits (suc k) n acc =
    let rest : length (digits_onto k 16 false (n / 16) (digit_glyph false (n % 16) ∷ acc)) ≤ k + suc (length acc) =
    few_digits k (n / 16) (digit_glyph false (n % 16) ∷ acc) in
    if_size (n / 16 == 0) (digit_glyph false (n % 16) ∷ acc) (digits_onto k 16 false (n / 16) (digit_glyph false (n % 16) ∷ acc)) (suc k + length acc)
    (omega arith) (omega (arith, rest))

digits_few : (n : ℕ) → length (digits 16 false n) ≤ 64
unfolding digits
digits_few n = few_digits 64 n []

append-none : (xs : List ℕ) → xs ++ [] ≡ xs
append-none [] = λ i. []
append-none (x ∷ xs) = ap (λ ys. x ∷ ys) (append-none xs)

hex16_is : (n : ℕ) → hex16 n ≡ replicate (16 - length (digits 16 false n)) 48 ++ digits 16 false n
unfolding padded_integral char_count
hex16_is n =
    let len : ℕ = length (digits 16 false n) in
    let width : 16 - len - 0 - 0 ≡ 16 - len = omega arith in
    ap (λ z. replicate z 48 ++ (digits 16 false n ++ [])) width ∙ ap (λ xs. replicate (16 - len) 48 ++ xs) (append-none (digits 16 false n))

hex16_few : (n : ℕ) → length (hex16 n) ≤ 80
hex16_few n =
    let zeros : List ℕ = replicate (16 - length (digits 16 false n)) 48 in
    omega (arith, ap length (hex16_is n), length-append zeros (digits 16 false n), length-replicate {A = ℕ} (16 - length (digits 16 false n)) 48, digits_few n)

-- it has 1 to 1,023 bytes
pub snapshot_size : (i : ℕ) (text : List ℕ) → text ≡ snapshot_target i → (1 ≤ length text) × (length text ≤ 1023)
snapshot_size i text is =
    let size : length text ≡ suc (suc (suc (suc (length (hex16 (i - 1)))))) = ap length is in
    (omega (arith, size), omega (arith, size, hex16_few (i - 1)))

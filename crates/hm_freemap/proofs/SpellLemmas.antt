-- The bytes of an entry of either layer, and the fields that they make.
use Rattle.std.proofs.Common.{◌≡◌, inl, inr, ℕ, zero, suc, ◌+◌, ◌-◌, ◌/◌, ◌%◌, ◌^◌, ◌<◌, ◌≤◌, List, [], ◌++◌, length, take, drop, replicate}
use Rattle.std.proofs.Common.{slice_index, refl, sym, ap, ◌∙◌, arith, length-take, length-drop, append-nil}
use Rattle.std.specs.Prelude.{slice_range, FitsSigned}
use Rattle.std.specs.Int.{w32, cast_signed, cast_unsigned, bytes_low_first}
use Rattle.std.proofs.lemmas.Bool.{cases_lt}
use Rattle.std.proofs.lemmas.Int.{of_z-to_z, to_z-of_z}
use Rattle.std.proofs.lemmas.List.{drop-drop, get_or-take, get_or-drop, get_or_past, length-take-le}
use Rattle.std.proofs.Math.Seq.{take-add}
use Rattle.std.proofs.Math.Facts.{sfits_to_z, Fits-of_z}
use Rattle.byteorder.specs.Endian.{little_bytes, little_from}
use Rattle.byteorder.specs.Numbers.{little_from-lt, little_from-take, little_number-reads_back, length-bytes_low_first}
use Rattle.hm_fields.specs.Fields.{get, AreBytes}
use Rattle.hm_fields.proofs.ByteLemmas.{same_bytes, same_page}
use Rattle.hm_freemap.specs.Entry.{entry_bytes, entry_in, HoldsEntry, IsEntry, IsReservedZone, SpellsEntry}
use Rattle.hm_freemap.specs.Layer1.{layer1_bytes, HoldsLayer1, IsLayer1}
use Rattle.hm_freemap.specs.declared.entry.Entry.{Entry}

little_from-drop : (at i n : ℕ) (xs : List ℕ) → little_from i n (drop at xs) ≡ little_from (at + i) n xs
little_from-drop at i zero xs = refl
little_from-drop at i (suc n) xs =
    let byte : slice_index (drop at xs) i ≡ slice_index xs (at + i) = get_or-drop at xs i 0 in
    let rest : little_from (suc i) n (drop at xs) ≡ little_from (suc (at + i)) n xs =
    little_from-drop at (suc i) n xs ∙ ap (λ (j : ℕ). little_from j n xs) (omega arith) in
    rw (byte, rest) refl

-- a field that lies in a part of a page
pub get_part : (page part : List ℕ) (at size i n : ℕ) → slice_range page at (at + size) ≡ part → i + n ≤ size
    → get page (at + i) n ≡ get part i n
unfolding get
get_part page part at size i n is fits =
    sym (little_from-take i n (at + size - at) (drop at page) (omega arith) ∙ little_from-drop at i n page)
    ∙ ap (λ (xs : List ℕ). little_from i n xs) is

small_bytes : (i n value k : ℕ) → slice_index (bytes_low_first i n value) k < 256
small_bytes i zero value k = omega arith
small_bytes zero (suc n) value zero = omega arith
small_bytes (suc i) (suc n) value zero = omega arith
small_bytes i (suc n) value (suc k) = small_bytes (suc i) n value k

-- the number in a field of a page
get_small : (page : List ℕ) (at size : ℕ) → AreBytes page → get page at size < 256 ^ size
unfolding get
get_small page at size small = little_from-lt at size page (λ k. let byte = small k in omega arith)

part_small : (page : List ℕ) (from to : ℕ) → AreBytes page → AreBytes (slice_range page from to)
unfolding get
part_small page from to small k =
    let far = small (from + k) in
    let there = get_or-drop from page k 0 in
    elim (cases_lt k (to - from)) [
      | inl low ↦ let near = get_or-take (to - from) (drop from page) k 0 low in omega (arith, far, there, near)
      | inr past ↦
          let none = get_or_past (slice_range page from to) k 0 (omega (arith, length-take (to - from) (drop from page))) in
          omega (arith, none)
    ]

-- the bytes of a field are those of its number
field_bytes : (page : List ℕ) (at size : ℕ) → AreBytes page → at + size ≤ length page
    → take size (drop at page) ≡ little_bytes size (get page at size)
unfolding get
field_bytes page at size small fits =
    let part = slice_range page at (at + size) in
    let value = little_from at size page in
    let bytes = little_bytes size value in
    let exact : part ≡ take size (drop at page) = ap (λ (n : ℕ). take n (drop at page)) (omega arith) in
    let here : little_from 0 size part ≡ value =
    sym (get_part page part at size 0 size refl (omega arith)) ∙ ap (λ (i : ℕ). little_from i size page) (omega arith) in
    let back : little_from 0 size bytes ≡ value =
    ap (little_from 0 size) (sym (append-nil bytes)) ∙ little_number-reads_back size value [] (get_small page at size small) in
    let room : size ≤ length (drop at page) = omega (arith, length-drop at page) in
    let sized : length part ≡ length bytes =
    ap length exact ∙ length-take-le size (drop at page) room ∙ sym (length-bytes_low_first 0 size value) in
    let long : length part ≡ size = sized ∙ length-bytes_low_first 0 size value in
    let each = same_bytes part bytes 0 size (part_small page at (at + size) small)
    (λ k. let byte = small_bytes 0 size value k in omega arith) (here ∙ sym back) in
    sym exact ∙ same_page part bytes sized (λ k low. each k (omega arith) (omega (arith, long)))

-- the fields that the bytes of an entry make
zone_back : (e : Entry) → e.zone < 256 → get (entry_bytes e) 0 4 ≡ e.zone
unfolding get entry_bytes
zone_back e small = omega arith

append_back : (e : Entry) → e.append_off < 2 ^ 32 → get (entry_bytes e) 4 4 ≡ e.append_off
unfolding get entry_bytes
append_back e small = omega arith

free_back : (e : Entry) → FitsSigned w32 e.bytes_free → cast_signed w32 (get (entry_bytes e) 8 4) ≡ e.bytes_free
unfolding get entry_bytes
free_back e fits =
    let small : cast_unsigned w32 e.bytes_free < 2 ^ 32 = (Fits-of_z fits).fits in
    let read : little_from 8 4 (entry_bytes e) ≡ cast_unsigned w32 e.bytes_free = omega arith in
    ap (cast_signed w32) read ∙ to_z-of_z w32 e.bytes_free fits

zero_back : (e : Entry) → get (entry_bytes e) 12 4 ≡ 0
unfolding get entry_bytes
zero_back e = refl

reserved_small : (zone : ℕ) → IsReservedZone zone → zone < 256
reserved_small zone (inl one) = omega (arith, one)
reserved_small zone (inr (inl one)) = omega (arith, one)
reserved_small zone (inr (inr (inl one))) = omega (arith, one)
reserved_small zone (inr (inr (inr one))) = omega (arith, one)

-- what is in range of an entry in range
entry_small : (e : Entry) → IsEntry e → (e.zone < 256) × (e.append_off < 2 ^ 32)
entry_small e (inl (inl owned)) = (omega (arith, owned.zone), omega (arith, owned.append))
entry_small e (inl (inr unused)) = (omega (arith, unused.zone), omega (arith, unused.append))
entry_small e (inr reserved) = (reserved_small e.zone reserved.zone, omega (arith, reserved.append))

-- the bytes of an entry in range are read as it
pub entry_back : (page : List ℕ) (at : ℕ) (e : Entry) → IsEntry e → FitsSigned w32 e.bytes_free → SpellsEntry page at e
    → entry_in page at ≡ e
unfolding entry_in
entry_back page at e is fits spelled =
    let small = entry_small e is in
    let zone : get page at 4 ≡ e.zone =
    ap (λ (i : ℕ). get page i 4) (omega arith) ∙ get_part page (entry_bytes e) at 16 0 4 spelled (omega arith) ∙ zone_back e small.0 in
    let append = get_part page (entry_bytes e) at 16 4 4 spelled (omega arith) ∙ append_back e small.1 in
    let free = ap (cast_signed w32) (get_part page (entry_bytes e) at 16 8 4 spelled (omega arith)) ∙ free_back e fits in
    rw (zone, append, free) refl

-- and the page holds it
pub entry_held : (page : List ℕ) (at : ℕ) (e : Entry) → IsEntry e → FitsSigned w32 e.bytes_free → SpellsEntry page at e
    → HoldsEntry page at
entry_held page at e is fits spelled = record {
  entry = rw (entry_back page at e is fits spelled) is;
  zero = get_part page (entry_bytes e) at 16 12 4 spelled (omega arith) ∙ zero_back e;
}

-- the bytes of two fields that stand one after the other
two_fields : (page : List ℕ) (at m n : ℕ)
    → take (m + n) (drop at page) ≡ take m (drop at page) ++ take n (drop (at + m) page)
two_fields page at m n =
    take-add m n (drop at page) ∙ ap (λ (xs : List ℕ). take m (drop at page) ++ take n xs) (drop-drop m at page)

-- a zone, and the zeros after it
zone_bytes : (zone : ℕ) → zone < 256 → little_bytes 4 zone ≡ little_bytes 1 zone ++ little_bytes 3 0
zone_bytes zone small =
    let one : zone / 256 ^ 1 % 256 ≡ 0 = omega arith in
    let two : zone / 256 ^ 2 % 256 ≡ 0 = omega arith in
    let three : zone / 256 ^ 3 % 256 ≡ 0 = omega arith in
    rw (one, two, three) refl

-- a page that holds an entry has its bytes
pub entry_spelled : (page : List ℕ) (at : ℕ) → AreBytes page → at + 16 ≤ length page → HoldsEntry page at
    → SpellsEntry page at (entry_in page at)
unfolding entry_in entry_bytes
entry_spelled page at small fits held =
    let zone : take 4 (drop at page) ≡ little_bytes 1 (get page at 4) ++ little_bytes 3 0 =
    field_bytes page at 4 small (omega arith) ∙ zone_bytes (get page at 4) (entry_small (entry_in page at) held.entry).0 in
    let append = field_bytes page (at + 4) 4 small (omega arith) in
    let number = get page (at + 8) 4 in
    let same : cast_unsigned w32 (cast_signed w32 number) ≡ number = of_z-to_z w32 number (get_small page (at + 8) 4 small) in
    let free : take 4 (drop (at + 8) page) ≡ little_bytes 4 (cast_unsigned w32 (cast_signed w32 number)) =
    field_bytes page (at + 8) 4 small (omega arith) ∙ ap (little_bytes 4) (sym same) in
    let zero : take 4 (drop (at + 12) page) ≡ little_bytes 4 0 =
    field_bytes page (at + 12) 4 small (omega arith) ∙ ap (little_bytes 4) held.zero in
    let exact : at + 16 - at ≡ 16 = omega arith in
    let third : take 8 (drop (at + 8) page) ≡ take 4 (drop (at + 8) page) ++ take 4 (drop (at + 12) page) =
    two_fields page (at + 8) 4 4 ∙ ap (λ (i : ℕ). take 4 (drop (at + 8) page) ++ take 4 (drop i page)) (omega arith) in
    let second : take 12 (drop (at + 4) page) ≡ take 4 (drop (at + 4) page) ++ take 8 (drop (at + 8) page) =
    two_fields page (at + 4) 4 8 ∙ ap (λ (i : ℕ). take 4 (drop (at + 4) page) ++ take 8 (drop i page)) (omega arith) in
    let first : take 16 (drop at page) ≡ take 4 (drop at page) ++ take 12 (drop (at + 4) page) = two_fields page at 4 12 in
    let all : take 16 (drop at page)
    ≡ (little_bytes 1 (get page at 4) ++ little_bytes 3 0) ++ (little_bytes 4 (get page (at + 4) 4)
    ++ (little_bytes 4 (cast_unsigned w32 (cast_signed w32 number)) ++ little_bytes 4 0)) =
    rw (first, second, third, zone, append, free, zero) refl in
    ap (λ (n : ℕ). take n (drop at page)) exact ∙ all

-- the free bytes of an entry fit their field
pub entry_fits : (page : List ℕ) (at : ℕ) → AreBytes page → FitsSigned w32 (entry_in page at).bytes_free
unfolding entry_in
entry_fits page at small = sfits_to_z (record { fits = get_small page (at + 8) 4 small })

-- bytes are those of one entry
pub entry_alone : (page : List ℕ) (at : ℕ) (e f : Entry) → IsEntry e → IsEntry f
    → FitsSigned w32 e.bytes_free → FitsSigned w32 f.bytes_free → SpellsEntry page at e → SpellsEntry page at f → e ≡ f
entry_alone page at e f is is' fits fits' one other =
    sym (entry_back page at e is fits one) ∙ entry_back page at f is' fits' other

layer1_small : (raw : ℕ) → IsLayer1 raw → raw < 256 ^ 8
layer1_small raw (inl offset) = omega (arith, offset.zone)
layer1_small raw (inr none) = omega (arith, none)

-- the bytes of an offset in range are read as it
pub layer1_back : (page : List ℕ) (at raw : ℕ) → IsLayer1 raw → slice_range page at (at + 32) ≡ layer1_bytes raw
    → get page at 8 ≡ raw
unfolding get layer1_bytes
layer1_back page at raw is spelled =
    ap (λ (i : ℕ). get page i 8) (omega arith) ∙ get_part page (layer1_bytes raw) at 32 0 8 spelled (omega arith)
    ∙ little_number-reads_back 8 raw (replicate 24 0) (layer1_small raw is)

layer1_zero : (raw : ℕ) → (get (layer1_bytes raw) 8 8 ≡ 0) × (get (layer1_bytes raw) 16 8 ≡ 0) × (get (layer1_bytes raw) 24 8 ≡ 0)
unfolding get layer1_bytes
layer1_zero raw = (refl, refl, refl)

-- and the page holds it
pub layer1_held : (page : List ℕ) (at raw : ℕ) → IsLayer1 raw → slice_range page at (at + 32) ≡ layer1_bytes raw
    → HoldsLayer1 page at
layer1_held page at raw is spelled =
    let none = layer1_zero raw in record {
      offset = rw (layer1_back page at raw is spelled) is;
      zero = (
        get_part page (layer1_bytes raw) at 32 8 8 spelled (omega arith) ∙ none.0,
        get_part page (layer1_bytes raw) at 32 16 8 spelled (omega arith) ∙ none.1,
        get_part page (layer1_bytes raw) at 32 24 8 spelled (omega arith) ∙ none.2,
      );
    }

zeros_there : (page : List ℕ) (at : ℕ) → AreBytes page → at + 8 ≤ length page → get page at 8 ≡ 0
    → take 8 (drop at page) ≡ replicate 8 0
zeros_there page at small fits none = field_bytes page at 8 small fits ∙ ap (little_bytes 8) none

-- a page that holds an offset has its bytes
pub layer1_spelled : (page : List ℕ) (at : ℕ) → AreBytes page → at + 32 ≤ length page → HoldsLayer1 page at
    → slice_range page at (at + 32) ≡ layer1_bytes (get page at 8)
unfolding layer1_bytes
layer1_spelled page at small fits held =
    let raw = field_bytes page at 8 small (omega arith) in
    let one = zeros_there page (at + 8) small (omega arith) held.zero.0 in
    let two = zeros_there page (at + 16) small (omega arith) held.zero.1 in
    let three = zeros_there page (at + 24) small (omega arith) held.zero.2 in
    let exact : at + 32 - at ≡ 32 = omega arith in
    let third : take 16 (drop (at + 16) page) ≡ take 8 (drop (at + 16) page) ++ take 8 (drop (at + 24) page) =
    two_fields page (at + 16) 8 8 ∙ ap (λ (i : ℕ). take 8 (drop (at + 16) page) ++ take 8 (drop i page)) (omega arith) in
    let second : take 24 (drop (at + 8) page) ≡ take 8 (drop (at + 8) page) ++ take 16 (drop (at + 16) page) =
    two_fields page (at + 8) 8 16 ∙ ap (λ (i : ℕ). take 8 (drop (at + 8) page) ++ take 16 (drop i page)) (omega arith) in
    let all : take 32 (drop at page) ≡ little_bytes 8 (get page at 8) ++ replicate 24 0 =
    two_fields page at 8 24 ∙ rw (raw, second, third, one, two, three) refl in
    ap (λ (n : ℕ). take n (drop at page)) exact ∙ all

-- bytes are those of one offset
pub layer1_alone : (page : List ℕ) (at raw other : ℕ) → IsLayer1 raw → IsLayer1 other
    → slice_range page at (at + 32) ≡ layer1_bytes raw → slice_range page at (at + 32) ≡ layer1_bytes other → raw ≡ other
layer1_alone page at raw other is is' one two = sym (layer1_back page at raw is one) ∙ layer1_back page at other is' two

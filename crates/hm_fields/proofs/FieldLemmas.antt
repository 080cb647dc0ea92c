-- What a number put into a field changes, and what it leaves.
use Rattle.std.proofs.Common.{◌≡◌, ℕ, zero, suc, ◌+◌, ◌-◌, ◌^◌, ◌<◌, ◌≤◌, inl, inr, List, [], ◌∷◌, ◌++◌, length, take, drop, replicate, slice_index}
use Rattle.std.proofs.Common.{slice_set, refl, sym, ap, ◌∙◌, arith, length-append, length-drop, length-take, append-nil, add-suc, add-zero}
use Rattle.std.proofs.lemmas.List.{drop_at, drop_all, take-append-drop, take-set, drop-set, drop-drop, length-take-le, length-replicate, get_or-take}
use Rattle.std.proofs.lemmas.List.{get_or-drop, get_or_append_left, get_or-append_right, take-append-le}
use Rattle.std.specs.List.{between}
use borrow.Rule.Slice.PartMut.{put_mid, mid_of}
use Rattle.std.specs.Int.{byte_at as low_byte}
use Rattle.byteorder.specs.Numbers.{little_from-take, little_number-reads_back, length-bytes_low_first}
use Rattle.byteorder.specs.Endian.{little_bytes, little_from, little_number}
use Rattle.hm_types.specs.declared.limits.TheConstants.{PAGE_BYTES}
use Rattle.hm_fields.specs.Fields.{Apart, before, get, put, zero_page}

-- a number reads its own bytes alone
little_from-same : (i n : ℕ) (xs ys : List ℕ)
    → ((k : ℕ) → i ≤ k → k < i + n → slice_index xs k ≡ slice_index ys k) → little_from i n xs ≡ little_from i n ys
little_from-same i zero xs ys same = refl
little_from-same i (suc n) xs ys same =
    let byte = same i (omega arith) (omega arith) in
    let rest = little_from-same (suc i) n xs ys (λ k low high. same k (omega arith) (omega arith)) in
    rw (byte, rest) refl

-- a number that stands in what is left from a place on
little_from-drop : (at i n : ℕ) (xs : List ℕ) → little_from i n (drop at xs) ≡ little_from (at + i) n xs
little_from-drop at i zero xs = refl
little_from-drop at i (suc n) xs =
    let byte : slice_index (drop at xs) i ≡ slice_index xs (at + i) = get_or-drop at xs i 0 in
    let rest = little_from-drop at (suc i) n xs in
    rw (byte, rest, add-suc at i) refl

-- a number that begins what is left from a place on
little_number-drop : (at n : ℕ) (xs : List ℕ) → little_number n (drop at xs) ≡ little_from at n xs
little_number-drop at n xs = rw (little_from-drop at 0 n xs, add-zero at) refl

-- the number in a field is that of its bytes
pub get_bytes : (page : List ℕ) (at size : ℕ) → get page at size ≡ little_number size (between at (at + size) page)
unfolding get
get_bytes page at size =
    sym (little_from-take 0 size (at + size - at) (drop at page) (omega arith) ∙ little_number-drop at size page)

-- the same for what is read, where the bytes are those of the page
pub get_is : (bytes page : List ℕ) (at size : ℕ) → bytes ≡ page
    → little_number size (between at (at + size) bytes) ≡ get page at size
get_is bytes page at size same = rw same (sym (get_bytes page at size))

length-before : (page : List ℕ) (at : ℕ) → length (before page at) ≡ at
length-before page at =
    length-take-le at (page ++ replicate at 0)
    (omega (arith, length-append page (replicate at 0), length-replicate {A = ℕ} at 0))

-- a put within a page changes the bytes of the field alone
pub put_bytes : (page : List ℕ) (at size value : ℕ) → at + size ≤ length page
    → put page at size value ≡ take at page ++ (little_bytes size value ++ drop (at + size) page)
unfolding put
put_bytes page at size value room =
    ap (λ (front : List ℕ). front ++ (little_bytes size value ++ drop (at + size) page))
    (take-append-le at page (replicate at 0) (omega arith))

-- what a write to the part of a slice that is a field makes of the page
pub put_is : (bytes page part : List ℕ) (at size value : ℕ) → bytes ≡ page → at + size ≤ length bytes
    → part ≡ little_bytes size value ++ drop size (mid_of at (at + size - at) bytes)
    → put_mid at (at + size - at) bytes part ≡ put page at size value
put_is bytes page part at size value same room written =
    let size_is : at + size - at ≡ size = omega arith in
    let none : drop size (take size (drop at bytes)) ≡ [] =
    drop_all size (take size (drop at bytes)) (omega (arith, length-take size (drop at bytes))) in
    let here = put_bytes page at size value (omega (arith, ap length same)) in
    rw (here, written, size_is, none, same, drop-drop size at page, append-nil (little_bytes size value)) refl

-- the field of one byte
byte_at : (page : List ℕ) (at : ℕ) → get page at 1 ≡ slice_index page at
unfolding get
byte_at page at = omega arith

-- the same for what is read, where the bytes are those of the page
pub byte_is : (bytes page : List ℕ) (at : ℕ) → bytes ≡ page → slice_index bytes at ≡ get page at 1
byte_is bytes page at same = rw same (sym (byte_at page at))

-- what a write to one byte makes of the page
pub byte_put_is : (bytes page : List ℕ) (at value : ℕ) → bytes ≡ page → at < length bytes → value < 256
    → slice_set bytes at value ≡ put page at 1 value
byte_put_is bytes page at value same room fits =
    let here = put_bytes page at 1 value (omega (arith, ap length same)) in
    let byte : low_byte 0 value ≡ value = omega arith in
    let split = take-append-drop at (slice_set bytes at value) in
    sym split ∙ rw (take-set bytes at value, drop-set bytes at value room, same) (sym (here ∙ rw byte refl))

-- a field holds what was put into it
pub get_put : (page : List ℕ) (at size value : ℕ) → value < 256 ^ size → get (put page at size value) at size ≡ value
unfolding get put
get_put page at size value fits =
    let bytes = little_bytes size value ++ drop (at + size) page in
    let rest : drop at (before page at ++ bytes) ≡ bytes = drop_at (before page at) bytes at (length-before page at) in
    sym (little_number-drop at size (before page at ++ bytes))
    ∙ ap (little_number size) rest
    ∙ little_number-reads_back size value (drop (at + size) page) fits

pub index_zeros : (n k : ℕ) → slice_index (replicate n 0) k ≡ 0
index_zeros zero k = refl
index_zeros (suc n) zero = refl
index_zeros (suc n) (suc k) = index_zeros n k

index_filled : (page : List ℕ) (n k : ℕ) → slice_index (page ++ replicate n 0) k ≡ slice_index page k
index_filled [] n k = index_zeros n k
index_filled (x ∷ xs) n zero = refl
index_filled (x ∷ xs) n (suc k) = index_filled xs n k

index-before : (page : List ℕ) (at k : ℕ) → k < at → slice_index (before page at) k ≡ slice_index page k
index-before page at k low = get_or-take at (page ++ replicate at 0) k 0 low ∙ index_filled page at k

-- a byte before a field is as it was when the field is put
index-put_below : (page : List ℕ) (at size value k : ℕ) → k < at
    → slice_index (put page at size value) k ≡ slice_index page k
unfolding put
index-put_below page at size value k low =
    let bytes = little_bytes size value ++ drop (at + size) page in
    get_or_append_left (before page at) bytes 0 k (omega (arith, length-before page at)) ∙ index-before page at k low

-- a byte after a field is as it was when the field is put
index-put_above : (page : List ℕ) (at size value k : ℕ) → at + size ≤ k
    → slice_index (put page at size value) k ≡ slice_index page k
unfolding put
index-put_above page at size value k high =
    let bytes = little_bytes size value in
    let rest = drop (at + size) page in
    get_or-append_right (before page at) (bytes ++ rest) at k 0 (length-before page at) (omega arith)
    ∙ get_or-append_right bytes rest size (k - at) 0 (length-bytes_low_first 0 size value) (omega arith)
    ∙ get_or-drop (at + size) page (k - at - size) 0
    ∙ ap (λ (j : ℕ). slice_index page j) (omega arith)

-- a field keeps its number when one that lies apart from it is put
pub get_put_apart : (page : List ℕ) (at size value at' size' : ℕ) → Apart at size at' size'
    → get (put page at size value) at' size' ≡ get page at' size'
unfolding get
get_put_apart page at size value at' size' (inl above) =
    little_from-same at' size' (put page at size value) page
    (λ k low high. index-put_above page at size value k (omega arith))
get_put_apart page at size value at' size' (inr below) =
    little_from-same at' size' (put page at size value) page
    (λ k low high. index-put_below page at size value k (omega arith))

-- the same of two puts, and of four: a chain of as many takes `grind` one step in place of two or four
pub get_put_apart_two : (page : List ℕ) (a m x b n y at size : ℕ) → Apart a m at size → Apart b n at size
    → get (put (put page a m x) b n y) at size ≡ get page at size
get_put_apart_two page a m x b n y at size first second =
    get_put_apart (put page a m x) b n y at size second ∙ get_put_apart page a m x at size first

pub get_put_apart_four : (page : List ℕ) (a m x b n y c o z d p w at size : ℕ)
    → Apart a m at size → Apart b n at size → Apart c o at size → Apart d p at size
    → get (put (put (put (put page a m x) b n y) c o z) d p w) at size ≡ get page at size
get_put_apart_four page a m x b n y c o z d p w at size first second third fourth =
    get_put_apart_two (put (put page a m x) b n y) c o z d p w at size third fourth
    ∙ get_put_apart_two page a m x b n y at size first second

pub little_from-zeros : (at size n : ℕ) → little_from at size (replicate n 0) ≡ 0
little_from-zeros at zero n = refl
little_from-zeros at (suc size) n = rw (index_zeros n at, little_from-zeros (suc at) size n) refl

-- a field of a page of zeros is zero
pub get_zero : (at size : ℕ) → get zero_page at size ≡ 0
unfolding get zero_page
get_zero at size = little_from-zeros at size PAGE_BYTES

-- a put into a field that lies in the page keeps its length
pub put_length : (page : List ℕ) (at size value : ℕ) → at + size ≤ length page
    → length (put page at size value) ≡ length page
unfolding put
put_length page at size value room =
    let bytes = little_bytes size value in
    let rest = drop (at + size) page in
    let all = length-append (before page at) (bytes ++ rest) in
    let back = length-append bytes rest in
    omega (arith, all, back, length-before page at, length-bytes_low_first 0 size value, length-drop (at + size) page)

-- what callers of several puts and gets need
pub ruleset fields = (get_put, get_put_apart, get_put_apart_two, get_put_apart_four, get_zero)

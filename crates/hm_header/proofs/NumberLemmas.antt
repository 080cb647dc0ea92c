-- Numbers in lists of bytes, and zeros.
use Rattle.std.proofs.Common.{◌≡◌, ℕ, zero, suc, ◌+◌, ◌/◌, ◌%◌, ◌^◌, ◌<◌, ◌≤◌, ◌&&◌, Bool, true, List, [], ◌∷◌, ◌++◌, length, take, drop, slice_index}
use Rattle.std.proofs.Common.{subst, refl, sym, ap, ◌∙◌, arith, length-append, append_assoc, length-take, length-drop}
use Rattle.std.specs.Bool.{◌==◌}
use Rattle.std.specs.Int.{bytes_low_first, byte_at}
use Rattle.std.specs.List.{list_all}
use Rattle.std.proofs.lemmas.List.{length-replicate, replicate-append-replicate, take_at, drop_at}
use Rattle.std.proofs.Math.Seq.{take-add, drop-cons}
use Rattle.std.proofs.Math.Dec.{eqb-suc-zero}
use Rattle.std.proofs.lemmas.Bool.{false≢true}
use Rattle.std.proofs.Math.Nat.{div-div-eq-div-mul, div-one, pow-suc}
use Rattle.byteorder.specs.Endian.{little_from}
use Rattle.byteorder.specs.Numbers.{little_from-take}
use Rattle.hm_types.specs.declared.limits.TheConstants.{PAGE_BYTES}
use Rattle.hm_fields.specs.Fields.{get, put, zero_page}
use Rattle.hm_fields.proofs.FieldLemmas.{put_bytes}
use Rattle.hm_header.specs.Layout.{zeros}

-- a number in the first page
pub get_head : (bytes page : List ℕ) (at size : ℕ) → page ≡ take PAGE_BYTES bytes → at + size ≤ PAGE_BYTES
    → get page at size ≡ get bytes at size
unfolding get
get_head bytes page at size head fits = rw head (little_from-take at size PAGE_BYTES bytes fits)

-- a number in a list with others after it
pub get_front : (front rest : List ℕ) (at size : ℕ) → at + size ≤ length front
    → get (front ++ rest) at size ≡ get front at size
unfolding get
get_front front rest at size fits =
    sym (little_from-take at size (length front) (front ++ rest) fits)
    ∙ ap (λ (xs : List ℕ). little_from at size xs) (take_at front rest (length front) refl)

-- zeros after zeros
pub zeros-append : (m n : ℕ) → zeros m ++ zeros n ≡ zeros (m + n)
unfolding zeros
zeros-append m n = replicate-append-replicate m n 0

pub length-zeros : (n : ℕ) → length (zeros n) ≡ n
unfolding zeros
length-zeros n = length-replicate {A = ℕ} n 0

pub zero_page_is : zero_page ≡ zeros 4096
unfolding zero_page zeros
zero_page_is = refl

-- a number that is put where zeros begin
pub put_next : (page new front : List ℕ) (at size value n : ℕ) → new ≡ put page at size value
    → page ≡ front ++ zeros (size + n) → length front ≡ at
    → new ≡ (front ++ bytes_low_first 0 size value) ++ zeros n
put_next page new front at size value n change here long =
    let all : page ≡ (front ++ zeros size) ++ zeros n =
    here ∙ ap (λ (xs : List ℕ). front ++ xs) (sym (zeros-append size n)) ∙ sym (append_assoc front (zeros size)
    (zeros n)) in
    let seam : length (front ++ zeros size) ≡ at + size = omega (
      arith,
      length-append front (zeros size),
      length-zeros size,
    ) in
    let rest : drop (at + size) page ≡ zeros n = rw all (drop_at (front ++ zeros size) (zeros n) (at + size)
    seam) in
    let start : take at page ≡ front = rw here (take_at front (zeros (size + n)) at long) in
    let room : at + size ≤ length page = omega (
      arith,
      ap length all,
      length-append (front ++ zeros size)
          (zeros n),
    ) in
    change ∙ put_bytes page at size value room
    ∙ rw (start, rest) (sym (append_assoc front (bytes_low_first 0 size value) (zeros n)))

-- a byte of a number, by its place
byte_at-pow : (j number : ℕ) → byte_at j number ≡ number / 256 ^ j % 256
byte_at-pow zero number = ap (λ (n : ℕ). n % 256) (sym (div-one number))
byte_at-pow (suc j) number = refl

-- a number is made of bytes from its byte j on
bytes_made : (j size number at : ℕ) (xs : List ℕ) → ((k : ℕ) → slice_index xs k < 256)
    → number / 256 ^ j ≡ little_from at size xs → at + size ≤ length xs
    → bytes_low_first j size number ≡ take size (drop at xs)
bytes_made j zero number at xs small is fits = refl
bytes_made j (suc size) number at xs small is fits =
    let low : slice_index xs at < 256 = small at in
    let byte : byte_at j number ≡ slice_index xs at = byte_at-pow j number ∙ omega (arith, is) in
    let high : number / 256 ^ suc j ≡ little_from (suc at) size xs =
    ap (λ (n : ℕ). number / n) (pow-suc 256 j) ∙ sym (div-div-eq-div-mul number (256 ^ j) 256) ∙ omega (
      arith,
      is,
    ) in
    let rest = bytes_made (suc j) size number (suc at) xs small high (omega arith) in
    let here : drop at xs ≡ slice_index xs at ∷ drop (suc at) xs = drop-cons xs at 0 (omega arith) in
    rw (byte, rest, here) refl

-- bytes that are read as a number and written again
pub bytes_back : (at size : ℕ) (xs : List ℕ) → ((k : ℕ) → slice_index xs k < 256) → at + size ≤ length xs
    → bytes_low_first 0 size (get xs at size) ≡ take size (drop at xs)
unfolding get
bytes_back at size xs small fits = bytes_made 0 size (little_from at size xs) at xs small (div-one (little_from
    at size xs)) fits

-- one more number of a list
pub take_next : (xs front : List ℕ) (at size : ℕ) → ((k : ℕ) → slice_index xs k < 256) → at + size ≤ length xs
    → take at xs ≡ front → take (at + size) xs ≡ front ++ bytes_low_first 0 size (get xs at size)
take_next xs front at size small fits here =
    take-add at size xs ∙ ap (λ (ys : List ℕ). ys ++ take size (drop at xs)) here
    ∙ ap (λ (ys : List ℕ). front ++ ys) (sym (bytes_back at size xs small fits))

-- a list of zeros
all_zero : (xs : List ℕ) → list_all (λ (x : ℕ). x == 0) xs ≡ true → xs ≡ zeros (length xs)
unfolding zeros
all_zero [] all = refl
all_zero (zero ∷ xs) all = ap (λ (ys : List ℕ). 0 ∷ ys) (all_zero xs all)
all_zero (suc x ∷ xs) all =
    let P : Bool → Type 0 = λ b. (b && list_all (λ (y : ℕ). y == 0) xs) ≡ true in
    absurd (false≢true (subst P (eqb-suc-zero x) all))

zeros_pass : (n : ℕ) → list_all (λ (x : ℕ). x == 0) (zeros n) ≡ true
unfolding zeros
zeros_pass zero = refl
zeros_pass (suc n) = zeros_pass n

-- what a test of each byte of a list says
zero_run : (xs : List ℕ) (n : ℕ) (all : Bool) → length xs ≡ n → all ≡ list_all (λ (x : ℕ). x == 0) xs
    → (all ≡ true → xs ≡ zeros n) × (xs ≡ zeros n → all ≡ true)
zero_run xs n all long told = (
  (λ yes. all_zero xs (sym told ∙ yes) ∙ ap zeros long),
  (λ same. told ∙ ap (λ (ys : List ℕ). list_all (λ (x : ℕ). x == 0) ys) same ∙ zeros_pass n),
)

-- the same of a part of a list
pub zero_part : (bytes slot : List ℕ) (k n : ℕ) (all : Bool) → bytes ≡ slot → k + n ≤ length bytes
    → all ≡ list_all (λ (x : ℕ). x == 0) (take n (drop k bytes))
    → (all ≡ true → take n (drop k slot) ≡ zeros n) × (take n (drop k slot) ≡ zeros n → all ≡ true)
zero_part bytes slot k n all same long told =
    let P : List ℕ → Type 0 = λ s. (all ≡ true → take n (drop k s) ≡ zeros n) × (take n (drop k s) ≡ zeros n →
    all ≡ true) in
    let size : length (take n (drop k bytes)) ≡ n = omega (
      arith,
      length-take n (drop k bytes),
      length-drop k
          bytes,
    ) in
    subst P same (zero_run (take n (drop k bytes)) n all size told)

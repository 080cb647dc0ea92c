-- The first page of a body, as numbers are put into a page of zeros one after the other.
use Rattle.std.proofs.Common.{◌≡◌, ℕ, ◌+◌, List, [], ◌++◌, length, slice_index, refl, sym, ap, ◌∙◌, append_assoc, length-append, length-drop}
use Rattle.std.proofs.Common.{length-take, append-nil, take, drop, replicate, arith}
use Rattle.std.proofs.lemmas.List.{take_at, drop_at, drop_all}
use borrow.Rule.Slice.PartMut.{put_mid, mid_of, post_of}
use Rattle.std.specs.Int.{bytes_low_first}
use Rattle.byteorder.specs.Numbers.{length-bytes_low_first}
use Rattle.hm_fields.specs.Fields.{put, zero_page}
use Rattle.hm_header.specs.declared.header.Header.{Header}
use Rattle.hm_header.specs.Layout.{zeros, fields_of, body_of, signature}
use Rattle.hm_header.proofs.NumberLemmas.{put_next, zero_page_is, zeros-append}

-- the fields up to the root
abbrev pub state_of : Header → List ℕ
state_of header =
    signature
    ++ bytes_low_first 0 4 header.version
    ++ bytes_low_first 0 4 header.bigblocks
    ++ bytes_low_first 0 8 header.generation
    ++ bytes_low_first 0 8 header.last.0
    ++ bytes_low_first 0 8 header.root

-- the fields up to the four zeros
abbrev pub undo_of : Header → List ℕ
undo_of header =
    state_of header
    ++ bytes_low_first 0 4 header.undo_first
    ++ bytes_low_first 0 4 header.undo_count
    ++ bytes_low_first 0 4 header.undo_next
    ++ zeros 4

-- the signature is put at the start
pub put_signature : (zero page : List ℕ) (sign : ℕ) → zero ≡ zero_page → page ≡ put zero 0 8 sign
    → bytes_low_first 0 8 sign ≡ signature → page ≡ signature ++ zeros 4088
put_signature zero page sign begin change signed =
    put_next zero page [] 0 8 sign 4088 change (begin ∙ zero_page_is) refl
    ∙ ap (λ (xs : List ℕ). xs ++ zeros 4088) signed

-- the numbers up to the root follow
pub put_state : (header : Header) (p0 p1 p2 p3 p4 p5 : List ℕ) → p0 ≡ signature ++ zeros 4088
    → p1 ≡ put p0 8 4 header.version → p2 ≡ put p1 12 4 header.bigblocks → p3 ≡ put p2 16 8 header.generation
    → p4 ≡ put p3 24 8 header.last.0 → p5 ≡ put p4 32 8 header.root → p5 ≡ state_of header ++ zeros 4056
put_state header p0 p1 p2 p3 p4 p5 signed version bigblocks generation last root =
    let f1 = signature ++ bytes_low_first 0 4 header.version in
    let f2 = f1 ++ bytes_low_first 0 4 header.bigblocks in
    let f3 = f2 ++ bytes_low_first 0 8 header.generation in
    let f4 = f3 ++ bytes_low_first 0 8 header.last.0 in
    let s1 = put_next p0 p1 signature 8 4 header.version 4084 version signed refl in
    let s2 = put_next p1 p2 f1 12 4 header.bigblocks 4080 bigblocks s1 refl in
    let s3 = put_next p2 p3 f2 16 8 header.generation 4072 generation s2 refl in
    let s4 = put_next p3 p4 f3 24 8 header.last.0 4064 last s3 refl in
    put_next p4 p5 f4 32 8 header.root 4056 root s4 refl

-- the numbers of the UNDO log follow, and four zeros that stand there already
pub put_undo : (header : Header) (p5 p6 p7 p8 : List ℕ) → p5 ≡ state_of header ++ zeros 4056
    → p6 ≡ put p5 40 4 header.undo_first → p7 ≡ put p6 44 4 header.undo_count → p8 ≡ put p7 48 4 header.undo_next
    → p8 ≡ undo_of header ++ zeros 4040
put_undo header p5 p6 p7 p8 state first count next =
    let f6 = state_of header ++ bytes_low_first 0 4 header.undo_first in
    let f7 = f6 ++ bytes_low_first 0 4 header.undo_count in
    let f8 = f7 ++ bytes_low_first 0 4 header.undo_next in
    let s6 = put_next p5 p6 (state_of header) 40 4 header.undo_first 4052 first state refl in
    let s7 = put_next p6 p7 f6 44 4 header.undo_count 4048 count s6 refl in
    let s8 = put_next p7 p8 f7 48 4 header.undo_next 4044 next s7 refl in
    s8 ∙ ap (λ (xs : List ℕ). f8 ++ xs) (sym (zeros-append 4 4040)) ∙ sym (append_assoc f8 (zeros 4) (zeros 4040))

length-undo : (header : Header) → length (undo_of header) ≡ 56
unfolding zeros
length-undo header = refl

length_next : (front : List ℕ) (at size value : ℕ) → length front ≡ at → length (front ++ bytes_low_first 0
    size value) ≡ at + size
length_next front at size value long =
    omega (arith, length-append front (bytes_low_first 0 size value), length-bytes_low_first 0 size value)

-- the append big-blocks follow
pub put_append : (header : Header) (p8 p9 p10 p11 p12 : List ℕ) → p8 ≡ undo_of header ++ zeros 4040
    → p9 ≡ put p8 56 4 (slice_index header.append 0) → p10 ≡ put p9 60 4 (slice_index header.append 1)
    → p11 ≡ put p10 64 4 (slice_index header.append 2) → p12 ≡ put p11 68 4 (slice_index header.append 3)
    → p12 ≡ fields_of header ++ zeros 4024
unfolding fields_of
put_append header p8 p9 p10 p11 p12 undo tree meta large small =
    let x = slice_index header.append 0 in
    let y = slice_index header.append 1 in
    let z = slice_index header.append 2 in
    let w = slice_index header.append 3 in
    let f8 = undo_of header in
    let f9 = f8 ++ bytes_low_first 0 4 x in
    let f10 = f9 ++ bytes_low_first 0 4 y in
    let f11 = f10 ++ bytes_low_first 0 4 z in
    let l8 : length f8 ≡ 56 = length-undo header in
    let l9 : length f9 ≡ 60 = length_next f8 56 4 x l8 in
    let l10 : length f10 ≡ 64 = length_next f9 60 4 y l9 in
    let l11 : length f11 ≡ 68 = length_next f10 64 4 z l10 in
    let s9 = put_next p8 p9 f8 56 4 x 4036 tree undo l8 in
    let s10 = put_next p9 p10 f9 60 4 y 4032 meta s9 l9 in
    let s11 = put_next p10 p11 f10 64 4 z 4028 large s10 l10 in
    put_next p11 p12 f11 68 4 w 4024 small s11 l11

-- the page and more zeros are the body
pub page_and_rest : (header : Header) (page : List ℕ) → page ≡ fields_of header ++ zeros 4024
    → page ++ zeros 12287 ≡ body_of header
unfolding body_of
page_and_rest header page is =
    ap (λ (xs : List ℕ). xs ++ zeros 12287) is ∙ append_assoc (fields_of header) (zeros 4024) (zeros 12287)
    ∙ ap (λ (xs : List ℕ). fields_of header ++ xs) (zeros-append 4024 12287)

-- a list of which the first m bytes were written, and then the others with zeros
pub two_parts : (old part rest : List ℕ) (m n : ℕ) → length old ≡ m + n → length part ≡ m
    → rest ≡ replicate (length (mid_of m n (part ++ post_of 0 m old))) 0
    → put_mid m n (part ++ post_of 0 m old) rest ≡ part ++ zeros n
unfolding zeros
two_parts old part rest m n all long written =
    let here : take m (part ++ drop m old) ≡ part = take_at part (drop m old) m long in
    let past : drop m (part ++ drop m old) ≡ drop m old = drop_at part (drop m old) m long in
    let left : length (drop m old) ≡ n = omega (arith, length-drop m old) in
    let none : drop n (drop m old) ≡ [] = drop_all n (drop m old) (omega (arith, left)) in
    let size : length (take n (drop m old)) ≡ n = omega (arith, left, length-take n (drop m old)) in
    let rest_is : rest ≡ replicate n 0 = written ∙ rw (past, size) refl in
    rw (here, past, none, append-nil rest, rest_is) refl

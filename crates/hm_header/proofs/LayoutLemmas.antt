-- Headers and their bodies.
use Rattle.std.proofs.Common.{◌≡◌, ℕ, ◌+◌, ◌^◌, ◌<◌, ◌≤◌, List, [], ◌∷◌, ◌++◌, length, take, drop, slice_index, refl, sym, ap, ◌∙◌, arith, lit<, lit≤}
use Rattle.std.proofs.Common.{append_assoc}
use Rattle.std.proofs.Math.Seq.{take-add}
use Rattle.std.specs.Int.{bytes_low_first}
use Rattle.std.proofs.lemmas.List.{take_at, drop_at, take-append-drop}
use Rattle.byteorder.specs.Numbers.{little_from-lt, little_number-reads_back}
use Rattle.hm_types.specs.declared.id.Id.{Id}
use Rattle.hm_fields.specs.Fields.{get}
use Rattle.hm_header.specs.declared.header.Header.{Header}
use Rattle.hm_header.specs.Layout.{zeros, fields_of, body_of, header_in, signature}
use Rattle.hm_header.specs.Range.{IsHeader, IsRoot}
use Rattle.hm_header.proofs.NumberLemmas.{get_front, length-zeros, take_next}

pub length-fields : (header : Header) → length (fields_of header) ≡ 72
unfolding fields_of zeros
length-fields header = refl

-- a number that fits its field is read from the fields of a header
record Reads (header : Header) : Type 0 where
  version : header.version < 2 ^ 32 → get (fields_of header) 8 4 ≡ header.version
  bigblocks : header.bigblocks < 2 ^ 32 → get (fields_of header) 12 4 ≡ header.bigblocks
  generation : header.generation < 2 ^ 64 → get (fields_of header) 16 8 ≡ header.generation
  last : header.last.0 < 2 ^ 64 → get (fields_of header) 24 8 ≡ header.last.0
  root : header.root < 2 ^ 64 → get (fields_of header) 32 8 ≡ header.root
  undo_first : header.undo_first < 2 ^ 32 → get (fields_of header) 40 4 ≡ header.undo_first
  undo_count : header.undo_count < 2 ^ 32 → get (fields_of header) 44 4 ≡ header.undo_count
  undo_next : header.undo_next < 2 ^ 32 → get (fields_of header) 48 4 ≡ header.undo_next
  gap : get (fields_of header) 52 4 ≡ 0
  tree : slice_index header.append 0 < 2 ^ 32 → get (fields_of header) 56 4 ≡ slice_index header.append 0
  meta : slice_index header.append 1 < 2 ^ 32 → get (fields_of header) 60 4 ≡ slice_index header.append 1
  large : slice_index header.append 2 < 2 ^ 32 → get (fields_of header) 64 4 ≡ slice_index header.append 2
  small : slice_index header.append 3 < 2 ^ 32 → get (fields_of header) 68 4 ≡ slice_index header.append 3

reads : (header : Header) → Reads header
unfolding get fields_of zeros
reads header =
    record {
      version = λ fits. little_number-reads_back 4 header.version [] fits;
      bigblocks = λ fits. little_number-reads_back 4 header.bigblocks [] fits;
      generation = λ fits. little_number-reads_back 8 header.generation [] fits;
      last = λ fits. little_number-reads_back 8 header.last.0 [] fits;
      root = λ fits. little_number-reads_back 8 header.root [] fits;
      undo_first = λ fits. little_number-reads_back 4 header.undo_first [] fits;
      undo_count = λ fits. little_number-reads_back 4 header.undo_count [] fits;
      undo_next = λ fits. little_number-reads_back 4 header.undo_next [] fits;
      gap = refl;
      tree = λ fits. little_number-reads_back 4 (slice_index header.append 0) [] fits;
      meta = λ fits. little_number-reads_back 4 (slice_index header.append 1) [] fits;
      large = λ fits. little_number-reads_back 4 (slice_index header.append 2) [] fits;
      small = λ fits. little_number-reads_back 4 (slice_index header.append 3) [] fits;
    }

-- a list of four
four_items : (xs : List ℕ) → length xs ≡ 4
    → slice_index xs 0 ∷ slice_index xs 1 ∷ slice_index xs 2 ∷ slice_index xs 3 ∷ [] ≡ xs
four_items [] long = absurd (omega (arith, long))
four_items (a ∷ []) long = absurd (omega (arith, long))
four_items (a ∷ b ∷ []) long = absurd (omega (arith, long))
four_items (a ∷ b ∷ c ∷ []) long = absurd (omega (arith, long))
four_items (a ∷ b ∷ c ∷ d ∷ []) long = refl
four_items (a ∷ b ∷ c ∷ d ∷ e ∷ xs) long = absurd (omega (arith, long))

-- two headers with the same fields
same_header : (a b : Header) → a.version ≡ b.version → a.bigblocks ≡ b.bigblocks → a.generation ≡ b.generation
    → a.last.0 ≡ b.last.0 → a.root ≡ b.root → a.undo_first ≡ b.undo_first → a.undo_count ≡ b.undo_count
    → a.undo_next ≡ b.undo_next → a.append ≡ b.append → a ≡ b
same_header a b version bigblocks generation last root first count next append =
    let make : ℕ → Id = λ n. record { 0 = n } in
    let id : a.last ≡ b.last = ap make last in
    let make_header : ℕ → ℕ → ℕ → Id → ℕ → ℕ → ℕ → ℕ → List ℕ → Header =
    λ v n g i r x y z l. record {
      version = v;
      bigblocks = n;
      generation = g;
      last = i;
      root = r;
      undo_first =
          x;
      undo_count = y;
      undo_next = z;
      append = l;
    } in
    let all : make_header a.version a.bigblocks a.generation a.last a.root a.undo_first a.undo_count
    a.undo_next a.append
    ≡ make_header b.version b.bigblocks b.generation b.last b.root b.undo_first b.undo_count b.undo_next b.append =
    rw (version, bigblocks, generation, id, root, first, count, next, append) refl in
    all

root_fits : (bigblocks raw : ℕ) → IsRoot bigblocks raw → raw < 2 ^ 64
root_fits bigblocks raw root = omega (arith, root.zone)

-- the number in a field of a header, with more after it
in_front : (header : Header) (rest : List ℕ) (at size value : ℕ) → at + size ≤ 72
    → get (fields_of header) at size ≡ value → get (fields_of header ++ rest) at size ≡ value
in_front header rest at size value fits here =
    get_front (fields_of header) rest at size (omega (arith, length-fields header)) ∙ here

-- the header that is read from a body is the one that was written
pub header_back : (header : Header) (rest : List ℕ) → IsHeader header → header_in (fields_of header ++ rest) ≡
    header
header_back header rest is =
    let r = reads header in
    let list = fields_of header ++ rest in
    let b = is.bigblocks in
    let tree = in_front header rest 56 4 (slice_index header.append 0) (lit≤ tt) (r.tree (omega (
      arith,
      is.append 0 (lit< tt),
    ))) in
    let meta = in_front header rest 60 4 (slice_index header.append 1) (lit≤ tt) (r.meta (omega (
      arith,
      is.append 1 (lit< tt),
    ))) in
    let large = in_front header rest 64 4 (slice_index header.append 2) (lit≤ tt) (r.large (omega (
      arith,
      is.append 2 (lit< tt),
    ))) in
    let small = in_front header rest 68 4 (slice_index header.append 3) (lit≤ tt) (r.small (omega (
      arith,
      is.append 3 (lit< tt),
    ))) in
    same_header (header_in list) header
    (in_front header rest 8 4 header.version (lit≤ tt) (r.version (omega (arith, is.version))))
    (in_front header rest 12 4 header.bigblocks (lit≤ tt) (r.bigblocks (omega (arith, b))))
    (in_front header rest 16 8 header.generation (lit≤ tt) (r.generation is.generation))
    (in_front header rest 24 8 header.last.0 (lit≤ tt) (r.last (omega (arith, is.last))))
    (in_front header rest 32 8 header.root (lit≤ tt) (r.root (root_fits header.bigblocks header.root is.root)))
    (in_front header rest 40 4 header.undo_first (lit≤ tt) (r.undo_first (omega (arith, is.undo_first))))
    (in_front header rest 44 4 header.undo_count (lit≤ tt) (r.undo_count (omega (arith, is.undo_count))))
    (in_front header rest 48 4 header.undo_next (lit≤ tt) (r.undo_next (omega (arith, is.undo_next))))
    (rw (tree, meta, large, small) (four_items header.append is.four))

-- four zeros follow the number of the next entry
pub gap_back : (header : Header) (rest : List ℕ) → get (fields_of header ++ rest) 52 4 ≡ 0
gap_back header rest = in_front header rest 52 4 0 (lit≤ tt) (reads header).gap

-- a body has one header
pub body_is_one : (a b : Header) → IsHeader a → IsHeader b → body_of a ≡ body_of b → a ≡ b
unfolding body_of
body_is_one a b is is' same =
    sym (header_back a (zeros 16311) is) ∙ ap header_in same ∙ header_back b (zeros 16311) is'

four_zeros : bytes_low_first 0 4 0 ≡ zeros 4
unfolding zeros
four_zeros = refl

-- the fields of a slot are those of the header that is read from it
fields_read : (xs : List ℕ) → ((k : ℕ) → slice_index xs k < 256) → 72 ≤ length xs → take 8 xs ≡ signature
    → get xs 52 4 ≡ 0 → take 72 xs ≡ fields_of (header_in xs)
unfolding fields_of
fields_read xs small long signed gap =
    let f1 = signature ++ bytes_low_first 0 4 (get xs 8 4) in
    let f2 = f1 ++ bytes_low_first 0 4 (get xs 12 4) in
    let f3 = f2 ++ bytes_low_first 0 8 (get xs 16 8) in
    let f4 = f3 ++ bytes_low_first 0 8 (get xs 24 8) in
    let f5 = f4 ++ bytes_low_first 0 8 (get xs 32 8) in
    let f6 = f5 ++ bytes_low_first 0 4 (get xs 40 4) in
    let f7 = f6 ++ bytes_low_first 0 4 (get xs 44 4) in
    let f8 = f7 ++ bytes_low_first 0 4 (get xs 48 4) in
    let f9 = f8 ++ zeros 4 in
    let f10 = f9 ++ bytes_low_first 0 4 (get xs 56 4) in
    let f11 = f10 ++ bytes_low_first 0 4 (get xs 60 4) in
    let f12 = f11 ++ bytes_low_first 0 4 (get xs 64 4) in
    let t1 = take_next xs signature 8 4 small (omega arith) signed in
    let t2 = take_next xs f1 12 4 small (omega arith) t1 in
    let t3 = take_next xs f2 16 8 small (omega arith) t2 in
    let t4 = take_next xs f3 24 8 small (omega arith) t3 in
    let t5 = take_next xs f4 32 8 small (omega arith) t4 in
    let t6 = take_next xs f5 40 4 small (omega arith) t5 in
    let t7 = take_next xs f6 44 4 small (omega arith) t6 in
    let t8 = take_next xs f7 48 4 small (omega arith) t7 in
    let read = take_next xs f8 52 4 small (omega arith) t8 in
    let t9 = read ∙ ap (λ (n : ℕ). f8 ++ bytes_low_first 0 4 n) gap ∙ ap (λ (ys : List ℕ). f8 ++ ys) four_zeros in
    let t10 = take_next xs f9 56 4 small (omega arith) t9 in
    let t11 = take_next xs f10 60 4 small (omega arith) t10 in
    let t12 = take_next xs f11 64 4 small (omega arith) t11 in
    take_next xs f12 68 4 small (omega arith) t12

-- the body of a slot is that of the header that is read from it
pub body_read : (xs : List ℕ) → ((k : ℕ) → slice_index xs k < 256) → 72 ≤ length xs → take 8 xs ≡ signature
    → get xs 52 4 ≡ 0 → take 16311 (drop 72 xs) ≡ zeros 16311 → take 16383 xs ≡ body_of (header_in xs)
unfolding body_of
body_read xs small long signed gap rest =
    take-add 72 16311 xs ∙ ap (λ (ys : List ℕ). ys ++ take 16311 (drop 72 xs)) (fields_read xs small long
    signed gap)
    ∙ ap (λ (ys : List ℕ). fields_of (header_in xs) ++ ys) rest

-- a slot with the body of a header begins with its fields
pub begins : (slot : List ℕ) (header : Header) → take 16383 slot ≡ body_of header
    → slot ≡ fields_of header ++ (zeros 16311 ++ drop 16383 slot)
unfolding body_of
begins slot header spelled =
    sym (take-append-drop 16383 slot) ∙ ap (λ (ys : List ℕ). ys ++ drop 16383 slot) spelled
    ∙ append_assoc (fields_of header) (zeros 16311) (drop 16383 slot)

-- zeros follow the fields
pub rest_back : (header : Header) (more : List ℕ) → take 16311 (drop 72 (fields_of header ++ (zeros 16311 ++
    more))) ≡ zeros 16311
rest_back header more =
    let here = drop_at (fields_of header) (zeros 16311 ++ more) 72 (length-fields header) in
    rw here (take_at (zeros 16311) more 16311 (length-zeros 16311))

-- a number of eight bytes
pub get_fits : (xs : List ℕ) (at size : ℕ) → ((k : ℕ) → slice_index xs k < 256) → get xs at size < 256 ^ size
unfolding get
get_fits xs at size small = little_from-lt at size xs small

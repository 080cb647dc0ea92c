-- Entries and their bytes.
use Rattle.std.proofs.Common.{◌≡◌, inl, inr, ⊎_elim, ℕ, ◌+◌, ◌^◌, ◌<◌, ◌≤◌, List, [], ◌++◌, length, take}
use Rattle.std.proofs.Common.{drop, replicate, slice_index, slice_range, refl, sym, ap, subst, ◌∙◌, arith, append-nil, length-append, length-drop, length-take}
use Rattle.std.specs.Int.{bytes_low_first}
use Rattle.std.proofs.lemmas.List.{take-append-drop, drop_at, take_at, drop_all, take_all}
use borrow.Rule.Slice.PartMut.{put_mid, post_of, mid_of}
use Rattle.byteorder.specs.Numbers.{little_number-reads_back}
use Rattle.byteorder.specs.Endian.{little_number}
use Rattle.hm_fields.specs.Fields.{get}
use Rattle.hm_fields.proofs.FieldLemmas.{get_bytes}
use Rattle.hm_header.specs.Layout.{zeros}
use Rattle.hm_header.proofs.NumberLemmas.{get_front, take_next}
use Rattle.hm_undo.specs.Entry.{IsBrokenEntry, IsUndoPage, SpellsUndoEntry, undo_entry_of, head_of, entry_signature}

pub length-head : (at generation : ℕ) → length (head_of at generation) ≡ 32
unfolding head_of zeros
length-head at generation = refl

pub length-entry : (at generation : ℕ) (page : List ℕ) → length (undo_entry_of at generation page) ≡ 32 + length page
unfolding undo_entry_of
length-entry at generation page = omega (arith, length-append (head_of at generation) page, length-head at generation)

-- the numbers of a head
head-at : (at generation : ℕ) → at < 2 ^ 64 → get (head_of at generation) 8 8 ≡ at
unfolding get head_of zeros
head-at at generation fits = little_number-reads_back 8 at [] fits

head-generation : (at generation : ℕ) → generation < 2 ^ 64 → get (head_of at generation) 16 8 ≡ generation
unfolding get head_of zeros
head-generation at generation fits = little_number-reads_back 8 generation [] fits

-- and those of an entry, and its other parts
entry-at : (at generation : ℕ) (page : List ℕ) → at < 2 ^ 64 → get (undo_entry_of at generation page) 8 8 ≡ at
unfolding undo_entry_of
entry-at at generation page fits =
    get_front (head_of at generation) page 8 8 (omega (arith, length-head at generation)) ∙ head-at at generation fits

entry-generation : (at generation : ℕ) (page : List ℕ) → generation < 2 ^ 64 → get (undo_entry_of at generation page) 16 8 ≡ generation
unfolding undo_entry_of
entry-generation at generation page fits =
    get_front (head_of at generation) page 16 8 (omega (arith, length-head at generation)) ∙ head-generation at generation fits

entry-page : (at generation : ℕ) (page : List ℕ) → drop 32 (undo_entry_of at generation page) ≡ page
unfolding undo_entry_of
entry-page at generation page = drop_at (head_of at generation) page 32 (length-head at generation)

entry-signature : (at generation : ℕ) (page : List ℕ) → take 8 (undo_entry_of at generation page) ≡ entry_signature
unfolding undo_entry_of head_of zeros
entry-signature at generation page = refl

entry-zeros : (at generation : ℕ) (page : List ℕ) → slice_range (undo_entry_of at generation page) 24 32 ≡ zeros 8
unfolding undo_entry_of head_of zeros
entry-zeros at generation page = refl

-- the offset of a page has 64 bits
page-fits : (at : ℕ) → IsUndoPage at → at < 2 ^ 64
page-fits at page = ⊎_elim (λ tree. omega (arith, tree)) (λ map. omega (arith, map.0)) page.zone

spelled-at : (bytes : List ℕ) (at generation : ℕ) (page : List ℕ) → SpellsUndoEntry bytes at generation page → get bytes 8 8 ≡ at
spelled-at bytes at generation page is =
    ap (λ (xs : List ℕ). get xs 8 8) is.spelled ∙ entry-at at generation page (page-fits at is.offset)

-- bytes are one entry at most
pub entry-is-one : (bytes : List ℕ) (at generation : ℕ) (page : List ℕ) (at' generation' : ℕ) (page' : List ℕ)
    → SpellsUndoEntry bytes at generation page → SpellsUndoEntry bytes at' generation' page'
    → (at ≡ at') × (generation ≡ generation') × (page ≡ page')
entry-is-one bytes at generation page at' generation' page' is is' = (
  sym (spelled-at bytes at generation page is) ∙ spelled-at bytes at' generation' page' is',
  sym (entry-generation at generation page is.fits) ∙ (ap (λ (xs : List ℕ). get xs 16 8) same ∙ entry-generation at' generation' page' is'.fits),
  sym (entry-page at generation page) ∙ (ap (λ (xs : List ℕ). drop 32 xs) same ∙ entry-page at' generation' page'),
)
  where
    same : undo_entry_of at generation page ≡ undo_entry_of at' generation' page'
    same = sym is.spelled ∙ is'.spelled

-- broken bytes are none
pub broken-is-none : (bytes : List ℕ) (at generation : ℕ) (page : List ℕ) → IsBrokenEntry bytes → SpellsUndoEntry bytes at generation page → ⊥
broken-is-none bytes at generation page (inl unsigned) is =
    unsigned (ap (λ (xs : List ℕ). take 8 xs) is.spelled ∙ entry-signature at generation page)
broken-is-none bytes at generation page (inr (inl none)) is =
    none (subst IsUndoPage (sym (spelled-at bytes at generation page is)) is.offset)
broken-is-none bytes at generation page (inr (inr other)) is =
    other (ap (λ (xs : List ℕ). slice_range xs 24 32) is.spelled ∙ entry-zeros at generation page)

-- the parts of an entry, written one after the other
pub head-built : (sign first second : List ℕ) (at raw generation : ℕ) → sign ≡ entry_signature → raw ≡ at
    → first ≡ bytes_low_first 0 8 raw ++ drop 8 (mid_of 8 8 (sign ++ replicate 24 0))
    → second ≡ bytes_low_first 0 8 generation ++ drop 8 (mid_of 16 8 (put_mid 8 8 (sign ++ replicate 24 0) first))
    → put_mid 16 8 (put_mid 8 8 (sign ++ replicate 24 0) first) second ≡ head_of at generation
unfolding head_of zeros
head-built sign first second at raw generation signed same is is' = rw (is', is, same, signed) refl

pub entry-built : (old head page : List ℕ) (at generation : ℕ) → length old ≡ 4128 → head ≡ head_of at generation → length page ≡ 4096
    → take 32 (head ++ post_of 0 32 old) ++ (page ++ post_of 32 4096 (head ++ post_of 0 32 old)) ≡ undo_entry_of at generation page
unfolding undo_entry_of
entry-built old head page at generation all is long =
    let sized : length head ≡ 32 = ap length is ∙ length-head at generation in
    let here : take 32 (head ++ drop 32 old) ≡ head = take_at head (drop 32 old) 32 sized in
    let past : drop 32 (head ++ drop 32 old) ≡ drop 32 old = drop_at head (drop 32 old) 32 sized in
    let none : drop 4096 (drop 32 old) ≡ [] = drop_all 4096 (drop 32 old) (omega (arith, all, length-drop 32 old)) in
    rw (here, past, none, append-nil page, is) refl

-- an entry that is read
zero-part : bytes_low_first 0 8 0 ≡ zeros 8
unfolding zeros
zero-part = refl

pub zeros-are-zero : little_number 8 (zeros 8) ≡ 0
unfolding zeros
zeros-are-zero = refl

head-read : (xs : List ℕ) → ((k : ℕ) → slice_index xs k < 256) → 32 ≤ length xs → take 8 xs ≡ entry_signature → get xs 24 8 ≡ 0
    → take 32 xs ≡ head_of (get xs 8 8) (get xs 16 8)
unfolding head_of
head-read xs small long signed none =
    let f1 = entry_signature ++ bytes_low_first 0 8 (get xs 8 8) in
    let f2 = f1 ++ bytes_low_first 0 8 (get xs 16 8) in
    let t1 = take_next xs entry_signature 8 8 small (omega arith) signed in
    let t2 = take_next xs f1 16 8 small (omega arith) t1 in
    let read = take_next xs f2 24 8 small (omega arith) t2 in
    read ∙ (ap (λ (n : ℕ). f2 ++ bytes_low_first 0 8 n) none ∙ ap (λ (ys : List ℕ). f2 ++ ys) zero-part)

pub entry-read : (xs : List ℕ) → ((k : ℕ) → slice_index xs k < 256) → 32 ≤ length xs → take 8 xs ≡ entry_signature → get xs 24 8 ≡ 0
    → xs ≡ undo_entry_of (get xs 8 8) (get xs 16 8) (drop 32 xs)
unfolding undo_entry_of
entry-read xs small long signed none =
    sym (take-append-drop 32 xs) ∙ ap (λ (ys : List ℕ). ys ++ drop 32 xs) (head-read xs small long signed none)

-- what is read as one
pub spelled-read : (bytes page : List ℕ) (at raw generation rest : ℕ) → ((k : ℕ) → slice_index bytes k < 256) → length bytes ≡ 4128
    → IsUndoPage raw → at ≡ raw → raw ≡ little_number 8 (mid_of 8 8 bytes) → generation ≡ little_number 8 (mid_of 16 8 bytes) → generation < 2 ^ 64
    → take 8 bytes ≡ entry_signature → rest ≡ little_number 8 (mid_of 24 8 bytes) → rest ≡ 0 → page ≡ mid_of 32 4096 bytes
    → SpellsUndoEntry bytes at generation page
spelled-read bytes page at raw generation rest small all is same raw_is generation_is fits signed rest_is none page_is = record {
  offset = subst IsUndoPage (sym same) is;
  fits = fits;
  sized = ap length page_is ∙ omega (arith, length-take 4096 (drop 32 bytes), length-drop 32 bytes, all);
  spelled = entry-read bytes small (omega (arith, all)) signed (get_bytes bytes 24 8 ∙ (sym rest_is ∙ none)) ∙ rw (at_is, number_is, whole) refl;
}
  where
    at_is : get bytes 8 8 ≡ at
    at_is = get_bytes bytes 8 8 ∙ (sym raw_is ∙ sym same)

    number_is : get bytes 16 8 ≡ generation
    number_is = get_bytes bytes 16 8 ∙ sym generation_is

    whole : drop 32 bytes ≡ page
    whole = sym (page_is ∙ take_all 4096 (drop 32 bytes) (omega (arith, length-drop 32 bytes, all)))

-- what is read as none
pub broken-place : (bytes : List ℕ) (raw : ℕ) → raw ≡ little_number 8 (mid_of 8 8 bytes) → (IsUndoPage raw → ⊥) → IsBrokenEntry bytes
broken-place bytes raw raw_is none = inr (inl (λ page. none (subst IsUndoPage (get_bytes bytes 8 8 ∙ sym raw_is) page)))

pub broken-rest : (bytes : List ℕ) (rest : ℕ) → rest ≡ little_number 8 (mid_of 24 8 bytes) → (rest ≡ 0 → ⊥) → IsBrokenEntry bytes
broken-rest bytes rest rest_is some =
    inr (inr (λ none. some (rest_is ∙ (ap (λ (xs : List ℕ). little_number 8 xs) none ∙ zeros-are-zero))))

-- bytes that are written as one
pub spelled-written : (at generation : ℕ) (page : List ℕ) → IsUndoPage at → generation < 2 ^ 64 → length page ≡ 4096
    → SpellsUndoEntry (undo_entry_of at generation page) at generation page
spelled-written at generation page is fits sized = record { offset = is; fits = fits; sized = sized; spelled = refl }

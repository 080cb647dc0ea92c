-- Pages that follow one another, in bytes that change.
use Rattle.std.proofs.Common.{◌≡◌, ◌⊎◌, inl, inr, ⊎_elim, ℕ, ◌+◌, ◌-◌, ◌*◌, ◌<◌, ◌≤◌, List, [], ◌∷◌, ◌++◌}
use Rattle.std.proofs.Common.{sym, ap, subst, ◌∙◌, arith, length, take, drop, get_or, slice_range}
use Rattle.std.proofs.lemmas.List.{places, drop-drop, ext_get_or, take_all}
use Rattle.std.proofs.lemmas.Bool.{cases_lt}
use Rattle.hm_disk.specs.Crash.{MayLeave}
use Rattle.hm_disk.specs.Disk.{overwritten}
use Rattle.hm_disk.proofs.OverwriteLemmas.{MayLeave-overwritten, length-overwritten}
use borrow.Rule.Slice.PartMut.{put_mid}
use Rattle.hm_header.proofs.SliceLemmas.{slice-byte, slice-kept, slice-overwritten}
use Rattle.hm_newfs.specs.Layers.{HasPages}

-- a part of a part
pub slice-slice : (xs : List ℕ) (a n b m : ℕ) → b + m ≤ n → slice_range (slice_range xs a (a + n)) b (b + m) ≡ slice_range xs (a + b) (a + b + m)
slice-slice xs a n b m within =
    ext_get_or 0 (slice_range (slice_range xs a (a + n)) b (b + m)) (slice_range xs (a + b) (a + b + m)) sizes each
  where
    sizes : length (slice_range (slice_range xs a (a + n)) b (b + m)) ≡ length (slice_range xs (a + b) (a + b + m))
    sizes = grind (arith, places)

    short : (i : ℕ) → i < length (slice_range (slice_range xs a (a + n)) b (b + m)) → i < m
    short i below = grind (arith, places)

    each : (i : ℕ) → i < length (slice_range (slice_range xs a (a + n)) b (b + m))
        → get_or (slice_range (slice_range xs a (a + n)) b (b + m)) i 0 ≡ get_or (slice_range xs (a + b) (a + b + m)) i 0
    each i below =
        let few = short i below in
        slice-byte (slice_range xs a (a + n)) b (b + m) i (omega arith)
        ∙ (slice-byte xs a (a + n) (b + i) (omega arith)
        ∙ (ap (λ k. get_or xs k 0) (omega arith) ∙ sym (slice-byte xs (a + b) (a + b + m) i (omega arith))))

-- pages outside the range that changed
pub pages-kept : (Has : ℕ → List ℕ → Type 0) (from count place size : ℕ) (old new : List ℕ)
    → (from + count * 4096 ≤ place) ⊎ (place + size ≤ from) → MayLeave old ((place, size) ∷ []) new
    → HasPages Has from count old → HasPages Has from count new
pages-kept Has from count place size old new apart change pages k few =
    subst (Has k) (sym (slice-kept old new place size (from + k * 4096) (from + k * 4096 + 4096) (outside apart) change)) (pages k few)
  where
    outside : (from + count * 4096 ≤ place) ⊎ (place + size ≤ from) → (from + k * 4096 + 4096 ≤ place) ⊎ (place + size ≤ from + k * 4096)
    outside (inl before) = inl (omega arith)
    outside (inr after) = inr (omega arith)

-- some pages more
pub pages-more : (Has : ℕ → List ℕ → Type 0) (from done many place : ℕ) (old bytes : List ℕ) → length bytes ≡ many * 4096
    → place ≡ from + done * 4096 → place + length bytes ≤ length old → HasPages Has from done old
    → HasPages (λ k. Has (done + k)) 0 many bytes → HasPages Has from (done + many) (overwritten old place bytes)
pages-more Has from done many place old bytes long is fits pages more k few =
    ⊎_elim early late (cases_lt k done)
  where
    new : List ℕ
    new = overwritten old place bytes

    early : k < done → Has k (slice_range new (from + k * 4096) (from + k * 4096 + 4096))
    early before =
        subst (Has k)
        (sym (slice-kept old new place (length bytes) (from + k * 4096) (from + k * 4096 + 4096) (inl (omega arith))
        (MayLeave-overwritten old place (length bytes) bytes (omega arith) fits)))
        (pages k before)

    late : done ≤ k → Has k (slice_range new (from + k * 4096) (from + k * 4096 + 4096))
    late after =
        let j = k - done in
        let number : done + j ≡ k = omega arith in
        let here : place + (0 + j * 4096) ≡ from + k * 4096 = omega arith in
        let part : slice_range bytes (0 + j * 4096) (0 + j * 4096 + 4096) ≡ slice_range new (place + (0 + j * 4096)) (place + (0 + j * 4096) + 4096) =
        ap (λ (bs : List ℕ). slice_range bs (0 + j * 4096) (0 + j * 4096 + 4096)) (sym (slice-overwritten old place bytes fits))
        ∙ slice-slice new place (length bytes) (0 + j * 4096) 4096 (omega arith) in
        subst (λ (at : ℕ). Has k (slice_range new at (at + 4096))) here
        (subst (λ (n : ℕ). Has n (slice_range new (place + (0 + j * 4096)) (place + (0 + j * 4096) + 4096))) number
        (subst (Has (done + j)) part (more j (omega arith))))

-- a page more of a piece
pub page-more : (Has : ℕ → List ℕ → Type 0) (k : ℕ) (bytes page : List ℕ) → length page ≡ 4096 → k < 32 → length bytes ≡ 131072
    → HasPages Has 0 k bytes → Has k page
    → (length (put_mid (k * 4096) (k * 4096 + 4096 - k * 4096) bytes page) ≡ 131072)
    × HasPages Has 0 (k + 1) (put_mid (k * 4096) (k * 4096 + 4096 - k * 4096) bytes page)
page-more Has k bytes page long few sized pages has = (
  ap length is ∙ (length-overwritten bytes at page fits ∙ sized),
  subst (HasPages Has 0 (k + 1)) (sym is) (pages-more Has 0 k 1 at bytes page (long ∙ omega arith) (omega arith) fits pages one),
)
  where
    at : ℕ
    at = k * 4096

    fits : at + length page ≤ length bytes
    fits = omega (arith, long, sized)

    is : put_mid at (at + 4096 - at) bytes page ≡ overwritten bytes at page
    is =
        ap (λ (rest : List ℕ). take at bytes ++ (page ++ rest))
        (drop-drop (at + 4096 - at) at bytes ∙ ap (λ (n : ℕ). drop n bytes) (omega (arith, long)))

    whole : slice_range page 0 4096 ≡ page
    whole = take_all 4096 page (omega (arith, long))

    one : HasPages (λ j. Has (k + j)) 0 1 page
    one j below =
        let none : 0 ≡ j = omega arith in
        let here : k ≡ k + 0 = omega arith in
        subst (λ (i : ℕ). Has (k + i) (slice_range page (0 + i * 4096) (0 + i * 4096 + 4096))) none
        (subst (λ (n : ℕ). Has n (slice_range page 0 4096)) here (subst (Has k) (sym whole) has))

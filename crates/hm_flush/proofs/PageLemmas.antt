-- Pages of a volume: they share no byte, and hang on their own bytes.
use Rattle.std.proofs.Common.{◌≡◌, ◌≢◌, ◌⊎◌, inl, inr, ⊎_elim, ℕ, suc, ◌+◌, ◌*◌, ◌%◌, ◌<◌, ◌≤◌, true, false, List, [], ◌∷◌, length, get_or, refl, sym}
use Rattle.std.proofs.Common.{◌∙◌, ap, subst, arith, nat_eq, slice_index, slice_range, Option, Some, unwrap_or}
use Rattle.std.specs.List.{AllByRecursion}
use Rattle.std.specs.Set.{is_member}
use Rattle.std.proofs.lemmas.Bool.{cases_lt}
use Rattle.std.proofs.lemmas.List.{get_or_default}
use Rattle.std.proofs.lemmas.Bool.Decides.{Decides-eqb}
use Rattle.std.proofs.lemmas.Map.Made.{is_member-Decides}
use Rattle.hm_types.specs.declared.limits.TheConstants.{PAGE_BYTES, UNDO_ENTRY_BYTES}
use Rattle.hm_types.specs.Layout.{IsLayer2, IsPool, block_of}
use Rattle.hm_types.specs.Offset.{byte_of, volume_of, zone_of}
use Rattle.hm_types.specs.declared.zone.TheConstants.{FREEMAP_ZONE, TREE_ZONE}
use Rattle.hm_disk.proofs.OverwriteLemmas.{get_or-overwritten_out}
use Rattle.hm_disk.specs.Disk.{overwritten}
use Rattle.hm_fields.specs.Fields.{Apart}
use Rattle.hm_fields.specs.Pages.{PageMap}
use Rattle.hm_header.proofs.SliceLemmas.{slice-overwritten, slice-same}
use Rattle.hm_undo.specs.Entry.{IsUndoPageOf}
use Rattle.hm_flush.specs.Recoverable.{HoldsPage, IsInPage}

-- raw offsets of volume 0 with one zone and one byte are one
one-raw : (a b : ℕ) → zone_of a ≡ zone_of b → volume_of a ≡ 0 → volume_of b ≡ 0 → byte_of a ≡ byte_of b → a ≡ b
one-raw a b zone first second byte = omega (arith, zone, first, second, byte)

-- two offsets of one byte
one-place : (bigblocks a b : ℕ) → IsUndoPageOf bigblocks a → IsUndoPageOf bigblocks b → byte_of a ≡ byte_of b → a ≡ b
one-place bigblocks a b is is' byte = step is.zone is'.zone
  where
    step : ((zone_of a ≡ TREE_ZONE) × IsPool bigblocks (block_of (byte_of a))) ⊎ ((zone_of a ≡ FREEMAP_ZONE) × IsLayer2 bigblocks (block_of (byte_of a)))
        → ((zone_of b ≡ TREE_ZONE) × IsPool bigblocks (block_of (byte_of b))) ⊎ ((zone_of b ≡ FREEMAP_ZONE) × IsLayer2 bigblocks (block_of (byte_of b)))
        → a ≡ b
    step (inl pool) (inl pool') = one-raw a b (pool.0 ∙ sym pool'.0) is.volume is'.volume byte
    step (inr layer) (inr layer') = one-raw a b (layer.0 ∙ sym layer'.0) is.volume is'.volume byte
    step (inl pool) (inr layer) = absurd (omega (arith, pool.1.0, layer.1.1, byte))
    step (inr layer) (inl pool) = absurd (omega (arith, pool.1.0, layer.1.1, byte))

-- places that are multiples of a page are apart, or one
multiples-apart : (x y : ℕ) → x % PAGE_BYTES ≡ 0 → y % PAGE_BYTES ≡ 0 → x ≢ y → Apart x PAGE_BYTES y PAGE_BYTES
multiples-apart x y first second differ =
    ⊎_elim (λ less. inl (omega (arith, first, second, less)))
    (λ from. ⊎_elim (λ more. inr (omega (arith, first, second, more))) (λ to. absurd (differ (omega (arith, from, to)))) (cases_lt y x))
    (cases_lt x y)

-- two pages of a volume share no byte
pub pages-apart : (bigblocks a b : ℕ) → IsUndoPageOf bigblocks a → IsUndoPageOf bigblocks b → a ≢ b → Apart (byte_of a) PAGE_BYTES (byte_of b) PAGE_BYTES
pages-apart bigblocks a b is is' differ =
    multiples-apart (byte_of a) (byte_of b) is.page is'.page (λ same. differ (one-place bigblocks a b is is' same))

-- a page stands still where its bytes are the same
pub page-same : (old new : List ℕ) (at : ℕ) (page : List ℕ) → length new ≡ length old
    → ((byte : ℕ) → IsInPage at byte → byte < length old → get_or new byte 0 ≡ get_or old byte 0) → HoldsPage old at page → HoldsPage new at page
page-same old new at page size same was =
    slice-same old new (byte_of at) (byte_of at + PAGE_BYTES) size (λ i below inside. same (byte_of at + i) (omega arith, omega (arith, below)) inside) ∙ was

-- a page that was written stands
pub page-written : (old : List ℕ) (at : ℕ) (page : List ℕ) → length page ≡ PAGE_BYTES → byte_of at + PAGE_BYTES ≤ length old
    → HoldsPage (overwritten old (byte_of at) page) at page
page-written old at page sized inside =
    ap (λ (n : ℕ). slice_range (overwritten old (byte_of at) page) (byte_of at) (byte_of at + n)) (sym sized)
    ∙ slice-overwritten old (byte_of at) page (omega (arith, sized, inside))

-- one that is apart from it stands still
pub page-beside : (old : List ℕ) (place at : ℕ) (bytes page : List ℕ) → length bytes ≡ PAGE_BYTES → place + PAGE_BYTES ≤ length old
    → length (overwritten old place bytes) ≡ length old
    → Apart place PAGE_BYTES (byte_of at) PAGE_BYTES → HoldsPage old at page → HoldsPage (overwritten old place bytes) at page
page-beside old place at bytes page sized inside size apart was =
    page-same old (overwritten old place bytes) at page size
    (λ byte within below. get_or-overwritten_out old place bytes byte (omega (arith, sized, inside)) below (outside byte within apart)) was
  where
    outside : (byte : ℕ) → IsInPage at byte → Apart place PAGE_BYTES (byte_of at) PAGE_BYTES → (byte < place) ⊎ (place + length bytes ≤ byte)
    outside byte within (inl low) = inr (omega (arith, within, low, sized))
    outside byte within (inr high) = inl (omega (arith, within, high))

-- a page of a map is one
pub page-is-one : (map : PageMap) (at other : ℕ) (page same : List ℕ) → at ≡ other → map at ≡ Some page → map other ≡ Some same → page ≡ same
page-is-one map at other page same is here there =
    let both : Some page ≡ Some same = sym here ∙ (ap (λ (k : ℕ). map k) is ∙ there) in
    ap (λ (o : Option (List ℕ)). unwrap_or o []) both

-- equal or not
pub either : (a b : ℕ) → (a ≡ b) ⊎ (a ≢ b)
either a b = ⊎_elim (λ less. inr (λ same. omega (arith, less, same)))
    (λ from. ⊎_elim (λ more. inr (λ same. omega (arith, more, same))) (λ to. inl (omega (arith, from, to))) (cases_lt b a)) (cases_lt a b)

-- the number of a member
pub member-at : (places : List ℕ) (at : ℕ) → is_member nat_eq places at ≡ true → (i : ℕ) × (i < length places) × (slice_index places i ≡ at)
member-at places at is =
    let found = (is_member-Decides Decides-eqb places at).0 is in
    (found.0, found.1, sym (get_or_default places found.0 at 0 found.1) ∙ found.2)

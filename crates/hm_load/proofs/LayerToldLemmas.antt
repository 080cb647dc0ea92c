-- The pages of layer 2, piece by piece, where the disk tells its bytes.
use Rattle.std.proofs.Common.{◌≡◌, ℕ, ◌+◌, ◌-◌, ◌*◌, ◌^◌, ◌<◌, ◌≤◌, List, inl, inr, refl, ap, sym, subst, ◌∙◌, arith, slice_range}
use Rattle.std.proofs.lemmas.Bool.{cases_lt}
use Rattle.hm_types.specs.Layout.{layer2_blocks, start_of}
use Rattle.hm_types.specs.Offset.{byte_of}
use Rattle.hm_types.specs.declared.fault.Fault.{Fault}
use Rattle.hm_types.specs.declared.fault.Fault.TheVariants.{Media, Damaged, NoMemory}
use Rattle.hm_fields.specs.Pages.{PageMap}
use Rattle.hm_freemap.specs.Places.{page_of}
use Rattle.hm_header.specs.declared.header.Header.{Header}
use Rattle.hm_pages.specs.Store.{Store}
use Rattle.hm_load.specs.Faults.{Tells}
use Rattle.hm_load.specs.Freemap.{HoldsEntries, HoldsLayer2, IsLayer2Damage, IsPieceDamage, layer2_bytes, layer2_page, piece_page}
use Rattle.hm_load.specs.Held.{HasFirstPages, IsRead}
use Rattle.hm_load.specs.Loaded.{LoadsPages}
use Rattle.hm_load.specs.Reading.{volume_bytes}
use Rattle.hm_load.proofs.RangeLemmas.{all_inside, part_read}

-- no page is there yet
pub no_first : (image : List ℕ) (header : Header) (map : PageMap) → HoldsLayer2 header 0 map → HasFirstPages image header 0 map
no_first image header map layer = record {
  right = λ n low. absurd (omega arith);
  pages = λ at page is. let (n, low, small, here) = layer.only at (rw is refl) in absurd (omega (arith, low));
}

-- where a page of layer 2 is, in bytes from the start of the volume
layer_byte : (n : ℕ) → n < 2 ^ 20 → byte_of (layer2_page n) ≡ 16777216 + n * 4096
unfolding page_of
layer_byte n low = omega arith

-- the page that stands there
pub layer_read : (image : List ℕ) (bigblocks n : ℕ) → 24 ≤ bigblocks → n < 4096 → IsRead image bigblocks (layer2_page n) (layer2_bytes image n)
layer_read image bigblocks n size low =
    let at : byte_of (layer2_page n) ≡ 16777216 + n * 4096 = layer_byte n (omega arith) in
    let within : byte_of (layer2_page n) + 4096 ≤ start_of bigblocks = omega arith in
    record {
      within = within;
      same = sym (all_inside image bigblocks (byte_of (layer2_page n)) 4096 within ∙ ap (λ (i : ℕ). slice_range image i (i + 4096)) at);
    }

-- a piece that was read
module _ (image bytes : List ℕ) (header : Header) (piece place len : ℕ) (size : 24 ≤ header.bigblocks) (most : header.bigblocks ≤ 1048576)
    (low : piece < layer2_blocks header.bigblocks * 64) (begins : place ≡ 16777216 + piece * 131072) (long : len ≡ 131072)
    (same : bytes ≡ volume_bytes image header.bigblocks place len) where
  few : piece < 128
  few = omega arith

  page_read : (k : ℕ) → k < 32 → piece_page bytes k ≡ layer2_bytes image (piece * 32 + k)
  page_read k less =
      let at = 16777216 + (piece * 32 + k) * 4096 in
      let from : place + k * 4096 ≡ at = omega arith in
      let to : place + (k * 4096 + 4096) ≡ at + 4096 = omega arith in
      part_read image bytes header.bigblocks place len (k * 4096) (k * 4096 + 4096) same (omega (arith, few)) (omega arith) (omega arith)
      ∙ (ap (λ (i : ℕ). slice_range image i (place + (k * 4096 + 4096))) from ∙ ap (λ (i : ℕ). slice_range image at i) to)

  to_image : (k : ℕ) → k < 32 → HoldsEntries header (piece * 32 + k) (piece_page bytes k)
      → HoldsEntries header (piece * 32 + k) (layer2_bytes image (piece * 32 + k))
  to_image k less holds = subst (λ (p : List ℕ). HoldsEntries header (piece * 32 + k) p) (page_read k less) holds

  pub first_pages_more : (old new : Store) → HasFirstPages image header (piece * 32) old.current → LoadsPages header (piece * 32) 32 bytes old new
      → HasFirstPages image header ((piece + 1) * 32) new.current
  first_pages_more old new first loads = record {
    right = λ n below. elim (cases_lt n (piece * 32)) [
      | inl earlier ↦ first.right n earlier
      | inr from ↦
          let less : n - piece * 32 < 32 = omega arith in
          let sum : piece * 32 + (n - piece * 32) ≡ n = omega arith in
          subst (λ (m : ℕ). HoldsEntries header m (layer2_bytes image m)) sum (to_image (n - piece * 32) less (loads.holds (n - piece * 32) less))
    ];
    pages = λ at page is. elim (loads.pages at page is) [
      | inl was ↦ first.pages at page was
      | inr (k, less, here, mine) ↦
          let one : page ≡ layer2_bytes image (piece * 32 + k) = mine ∙ page_read k less in
          let small : piece * 32 + k < 4096 = omega (arith, few, less) in
          subst (λ (a : ℕ). IsRead image header.bigblocks a page) (sym here)
          (subst (λ (p : List ℕ). IsRead image header.bigblocks (layer2_page (piece * 32 + k)) p) (sym one)
          (layer_read image header.bigblocks (piece * 32 + k) size small))
    ];
  }

  pub piece_damage : (map : PageMap) (fault : Fault) → HasFirstPages image header (piece * 32) map → Tells (IsPieceDamage header (piece * 32) bytes) fault
      → Tells (IsLayer2Damage image header) fault
  piece_damage map (Media before after) first tells = tt
  piece_damage map NoMemory first tells = tt
  piece_damage map (Damaged at kind) first tells =
      record {
        number = piece * 32 + tells.k;
        low = let less = tells.low in omega arith;
        first = record {
          before = λ n below. elim (cases_lt n (piece * 32)) [
            | inl earlier ↦ first.right n earlier
            | inr from ↦
                let less : n - piece * 32 < tells.k = omega arith in
                let sum : piece * 32 + (n - piece * 32) ≡ n = omega arith in
                subst (λ (m : ℕ). HoldsEntries header m (layer2_bytes image m)) sum (to_image (n - piece * 32) (omega (arith, less, tells.low))
                (tells.first.before (n - piece * 32) less))
          ];
          bad = λ good. tells.first.bad (subst (λ (p : List ℕ). HoldsEntries header (piece * 32 + tells.k) p) (sym (page_read tells.k tells.low)) good);
        };
        place = tells.place;
        told = tells.told;
      }

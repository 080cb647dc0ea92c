-- What an image has of a disk that it agrees with outside some ranges: payloads, and what of the freemap no page of a map has.
use Rattle.std.proofs.Common.{◌≡◌, inl, inr, ℕ, ◌+◌, ◌*◌, ◌%◌, ◌<◌, ◌≤◌, List, None, Some, ap, sym, ◌∙◌, refl, arith}
use Rattle.std.specs.Prelude.{slice_range}
use Rattle.std.specs.List.{All}
use Rattle.std.proofs.lemmas.List.Elements.{All-weaker}
use Rattle.hm_types.specs.Layout.{blocks_per_layer2, first_layer2, first_undo, layer2_blocks, start_of}
use Rattle.hm_types.specs.Offset.{byte_of, volume_of}
use Rattle.hm_types.specs.References.{Reference, begin_of}
use Rattle.hm_types.specs.declared.limits.TheConstants.{PAGE_BYTES}
use Rattle.hm_disk.specs.Crash.{MayLeave, Outside}
use Rattle.hm_fields.specs.Fields.{Apart}
use Rattle.hm_fields.specs.Pages.{PageMap}
use Rattle.hm_freemap.specs.Places.{page_of}
use Rattle.hm_freemap.specs.declared.entry.Entry.{Entry}
use Rattle.hm_freemap.proofs.PlaceLemmas.{page_zone}
use Rattle.hm_header.specs.Range.{IsSize}
use Rattle.hm_header.proofs.SliceLemmas.{slice-same}
use Rattle.hm_undo.specs.Entry.{IsUndoPageOf}
use Rattle.hm_flush.specs.Guard.{ArePlaced}
use Rattle.hm_flush.specs.Recoverable.{IsInPages}
use Rattle.hm_flush.proofs.PageLemmas.{either, pages-apart}
use Rattle.hm_image.specs.Image.{bytes_at, pages_of}
use Rattle.hm_image.specs.Same.{HasSameBytes}
use Rattle.hm_image.specs.Sound.{HasEntry, HasLayer1}
use Rattle.hm_image.proofs.NamedLemmas.{page_byte}

-- no byte that a reference names lies in one of some ranges
abbrev pub IsOutsideAll : List (ℕ × ℕ) → Reference → Type 0
IsOutsideAll ranges r = (byte : ℕ) → begin_of r ≤ byte → byte < begin_of r + r.len → Outside ranges byte

entry_parts : (block : ℕ) → block < 1048576 → (volume_of (page_of block) ≡ 0) × (byte_of (page_of block) % PAGE_BYTES ≡ 0)
unfolding page_of
entry_parts block few = (omega (arith, few), omega (arith, few))

-- the page with the entry of a big-block is one of layer 2
pub entry_placed : (bigblocks block : ℕ) → IsSize bigblocks → block < layer2_blocks bigblocks * blocks_per_layer2 → IsUndoPageOf bigblocks (page_of block)
entry_placed bigblocks block size few =
    let place = page_byte bigblocks block size few in
    let parts = entry_parts block (omega (arith, few, size.1)) in
    record {
      volume = parts.0;
      page = parts.1;
      zone = inr (page_zone block (omega (arith, few, size.1)), (omega (arith, place.0), omega (arith, place.1)));
    }

module _ (bytes image : List ℕ) (ranges : List (ℕ × ℕ)) (left : MayLeave bytes ranges image) where
  range_left : (from to : ℕ) → ((byte : ℕ) → from ≤ byte → byte < to → Outside ranges byte) → slice_range image from to ≡ slice_range bytes from to
  range_left from to out =
      slice-same bytes image from to left.size (λ i few inside. left.same (from + i) inside (out (from + i) (omega arith) (omega (arith, few))))

  pub named_left : (rs : List Reference) → All (IsOutsideAll ranges) rs → All (HasSameBytes bytes image) rs
  named_left rs out = All-weaker (IsOutsideAll ranges) (HasSameBytes bytes image) (λ r is. range_left (begin_of r) (begin_of r + r.len) is) rs out

  module _ (bigblocks : ℕ) (size : IsSize bigblocks) (pages : PageMap) (placed : ArePlaced bigblocks pages)
      (out : (byte : ℕ) → start_of 1 ≤ byte → byte < start_of (first_undo bigblocks) → ¬ IsInPages pages byte → Outside ranges byte) where
    before_layer2 : (byte : ℕ) → byte < start_of first_layer2 → IsInPages pages byte → ⊥
    before_layer2 byte low (at, page, is, inside) = by_zone (placed at page is) where
      by_zone : IsUndoPageOf bigblocks at → ⊥
      by_zone one = elim one.zone [
        | inl pool ↦ omega (arith, pool.1.0, low, inside.0)
        | inr layer ↦ omega (arith, layer.1.0, low, inside.0)
      ]

    pub layer1_left : HasLayer1 bytes bigblocks → HasLayer1 image bigblocks
    layer1_left was i few =
        range_left (start_of 1 + 32 * i) (start_of 1 + 32 * i + 32)
        (λ byte from to. out byte (omega (arith, from)) (omega (arith, to, few)) (before_layer2 byte (omega (arith, to, few)))) ∙ was i few

    -- no page of the map has a byte of one that it lacks
    none_of : (block : ℕ) → block < layer2_blocks bigblocks * blocks_per_layer2 → pages (page_of block) ≡ None → (byte : ℕ)
        → byte_of (page_of block) ≤ byte → byte < byte_of (page_of block) + PAGE_BYTES → IsInPages pages byte → ⊥
    none_of block few none byte from to (at, page, is, inside) =
        elim (either at (page_of block)) [
          | inl same ↦
              let both : Some page ≡ None = sym is ∙ (ap pages same ∙ none) in
              absurd cc
          | inr differ ↦ apart (pages-apart bigblocks at (page_of block) (placed at page is) (entry_placed bigblocks block size few) differ)
        ] where
          apart : Apart (byte_of at) PAGE_BYTES (byte_of (page_of block)) PAGE_BYTES → ⊥
          apart (inl before) = omega (arith, before, inside.1, from)
          apart (inr after) = omega (arith, after, inside.0, to)

    pub past_left : (block : ℕ) (e : Entry) → block < layer2_blocks bigblocks * blocks_per_layer2 → pages (page_of block) ≡ None
        → HasEntry bytes block e → HasEntry image block e
    past_left block e few none was =
        let place = page_byte bigblocks block size few in
        let same : bytes_at image (page_of block) PAGE_BYTES ≡ bytes_at bytes (page_of block) PAGE_BYTES =
        range_left (byte_of (page_of block)) (byte_of (page_of block) + PAGE_BYTES)
        (λ byte from to. out byte (omega (arith, place.0, from)) (omega (arith, place.1, to)) (none_of block few none byte from to)) in
        let whole : pages_of image (page_of block) ≡ pages_of bytes (page_of block) = rw (left.size, same) refl in
        record { page = was.page; there = whole ∙ was.there; spelled = was.spelled }

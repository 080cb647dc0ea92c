-- A fresh volume is sound.
use Rattle.std.proofs.Common.{◌≡◌, ℕ, zero, suc, ◌+◌, ◌<◌, List, sym, ap, subst, ◌∙◌, arith}
use Rattle.std.specs.Prelude.{◌-ℤ◌, pos, slice_index}
use Rattle.std.specs.List.{All}
use Rattle.hm_types.specs.Hash.{name_hash}
use Rattle.hm_types.specs.Layout.{first_pool}
use Rattle.hm_types.specs.References.{AreFew, IsPlaced, NoneOverlap, Reference, live_bytes}
use Rattle.hm_types.specs.declared.limits.TheConstants.{BIGBLOCK_BYTES}
use Rattle.hm_types.specs.declared.zone.TheConstants.{TREE_ZONE}
use Rattle.hm_freemap.specs.declared.entry.Entry.{Entry}
use Rattle.hm_header.specs.Range.{IsSize}
use Rattle.hm_records.specs.KeysFit.{KeysFit}
use Rattle.hm_records.specs.Payload.{IsPayload}
use Rattle.hm_image.specs.Fresh.{IsFresh, fresh_entry, fresh_header, pool_entry}
use Rattle.hm_image.specs.Sound.{HasExtents, HasFreeBytes, HasLayer2, HasPayloads, IsFilled, IsSoundBy}
use Rattle.hm_image.proofs.FreshExtentLemmas.{fresh_apart, fresh_entry_at, fresh_few, fresh_filled, fresh_placed, fresh_references_are, fresh_zones}
use Rattle.hm_image.proofs.FreshFreeLemmas.{fresh_free}
use Rattle.hm_image.proofs.FreshHeaderLemmas.{fresh_counts}
use Rattle.hm_image.proofs.FreshPayloadLemmas.{fresh_full, full_keys, full_payloads}
use Rattle.hm_image.proofs.FreshSpaceLemmas.{fresh_entry_is}
use Rattle.hm_image.proofs.FreshTreeLemmas.{fresh_tree}

module _ (bigblocks : ℕ) (image : List ℕ) (size : IsSize bigblocks) (fresh : IsFresh bigblocks image) where
  zone_at : (k : ℕ) → k < 4 → (fresh_entry bigblocks (first_pool bigblocks + k)).zone ≡ (pool_entry k).zone
  zone_at k few = ap (λ (e : Entry). e.zone) (fresh_entry_at bigblocks k size few)

  -- the big-blocks that zones append to are theirs
  appended : (k : ℕ) → k < 4 → (fresh_entry bigblocks (slice_index (fresh_header bigblocks).append k)).zone ≡ TREE_ZONE + k
  appended zero few =
      let here : first_pool bigblocks ≡ first_pool bigblocks + 0 = omega arith in
      ap (λ (block : ℕ). (fresh_entry bigblocks block).zone) here ∙ zone_at 0 few
  appended (suc zero) few = zone_at 1 few
  appended (suc (suc zero)) few = zone_at 2 few
  appended (suc (suc (suc zero))) few = zone_at 3 few
  appended (suc (suc (suc (suc k)))) few = absurd (omega arith)

  layer2 : HasLayer2 image (fresh_header bigblocks) (fresh_entry bigblocks)
  layer2 = record {
    each = λ block below. (fresh.layer2 block below, fresh_entry_is bigblocks block size);
    appended = appended;
  }

  payloads : HasPayloads image (fresh_header bigblocks)
  payloads =
      let full = sym (fresh_full bigblocks image fresh) in
      record {
        each = subst (All IsPayload) full full_payloads;
        keys = subst (KeysFit name_hash) full full_keys;
      }

  extents : HasExtents image (fresh_header bigblocks) (fresh_entry bigblocks)
  extents =
      let here = sym (fresh_references_are bigblocks image fresh) in
      record {
        zones = fresh_zones bigblocks image size fresh;
        placed = subst (All (IsPlaced bigblocks)) here (fresh_placed bigblocks size);
        filled = subst (All (IsFilled (fresh_entry bigblocks))) here (fresh_filled bigblocks size);
        apart = subst NoneOverlap here (fresh_apart bigblocks size);
        few = subst AreFew here (fresh_few bigblocks size);
      }

  free_bytes : HasFreeBytes image (fresh_header bigblocks) (fresh_entry bigblocks)
  free_bytes block pool =
      fresh_free bigblocks size block pool
      ∙ ap (λ (rs : List Reference). pos BIGBLOCK_BYTES -ℤ pos (live_bytes rs block)) (sym (fresh_references_are bigblocks image fresh))

  pub fresh_is_sound : IsSoundBy image (fresh_header bigblocks)
  fresh_is_sound = record {
    slot = 0;
    entries = fresh_entry bigblocks;
    counts = fresh_counts bigblocks image size fresh;
    layer1 = fresh.layer1;
    layer2 = layer2;
    tree = fresh_tree bigblocks image size fresh;
    payloads = payloads;
    extents = extents;
    free_bytes = free_bytes;
  }

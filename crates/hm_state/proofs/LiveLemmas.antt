-- No step of a space writes over a byte that is live, but for a page where it is placed.
use Rattle.std.proofs.Common.{◌≡◌, inl, inr, ℕ, ◌+◌, ◌<◌, ◌≤◌, true, List, ◌∷◌, [], Option, None, Some, IsSome}
use Rattle.std.proofs.Common.{refl, sym, ap, subst, ◌∙◌, arith, length, slice_index}
use Rattle.std.specs.Prelude.{Result, option_map}
use Rattle.std.specs.List.{Contains}
use Rattle.std.proofs.lemmas.Bool.{cases_lt}
use Rattle.std.proofs.lemmas.List.{get_or_past}
use Rattle.std.proofs.lemmas.List.Elements.{All-contains}
use Rattle.hm_types.specs.Layout.{first_pool, start_of}
use Rattle.hm_types.specs.Offset.{byte_of}
use Rattle.hm_types.specs.References.{IsPlaced, Reference}
use Rattle.hm_types.specs.Told.{BothTell}
use Rattle.hm_types.specs.declared.fault.Fault.{Fault}
use Rattle.hm_types.specs.declared.limits.TheConstants.{PAGE_BYTES}
use Rattle.hm_disk.specs.Crash.{MayLeave, Outside, Told}
use Rattle.hm_disk.proofs.CrashLemmas.{is_outside-from, is_outside-is}
use Rattle.hm_fields.specs.Pages.{PageMap}
use Rattle.hm_freemap.specs.Stand.{all_of}
use Rattle.hm_freemap.proofs.BoundLemmas.{placed_low}
use Rattle.hm_flush.specs.declared.flush.Flush.{Flush}
use Rattle.hm_flush.specs.declared.flush.Position.{Position}
use Rattle.hm_flush.specs.declared.flush.Position.TheVariants.{Placing}
use Rattle.hm_flush.specs.declared.stage.Stage.{Stage}
use Rattle.hm_flush.specs.Calls.{IsFlushReady}
use Rattle.hm_flush.specs.Ends.{StageDoes}
use Rattle.hm_flush.specs.Group.{group_of}
use Rattle.hm_flush.specs.Stages.{range_of}
use Rattle.hm_model.specs.Volume.{Volume}
use Rattle.hm_stored.specs.Basis.{states_of}
use Rattle.hm_stored.specs.Fixed.{is_fixed, refs_with}
use Rattle.hm_stored.specs.Heap.{Heap, basis_with, begun_content, frame_of}
use Rattle.hm_stored.specs.Standing.{basis_now}
use Rattle.hm_stored.specs.Turn.{IsOpened}
use Rattle.hm_state.specs.Live.{IsInPlace, IsLiveByte, KeepsLiveBut, NoByte}
use Rattle.hm_state.specs.Volume.{HoldsVolume}
use Rattle.hm_state.proofs.CommittedLemmas.{byte_same, known, named_fixed, refs, settled_same}
use Rattle.hm_state.proofs.SameLemmas.{held_firm}
use Rattle.hm_state.proofs.StageHeldLemmas.{stage_touches}
use Rattle.hm_state.proofs.StageRangeLemmas.{Kind, kind_at}

-- a disk that was left writes nothing
pub live_same : (Excepted : ℕ → Type 0) (h : Heap) (root : ℕ) (disk : Option Told) → disk ≡ h.disk → BothTell h.disk disk (KeepsLiveBut Excepted h root)
live_same Excepted h root disk same = subst (λ (o : Option Told). BothTell h.disk o (KeepsLiveBut Excepted h root)) (sym same) (by h.disk) where
  by : (o : Option Told) → BothTell o o (KeepsLiveBut Excepted h root)
  by None = tt
  by (Some t) = λ byte live none. record { value = refl; settled = λ out. out }

-- ---- calls

-- a call was opened over a space, and its changes leave the frame
module _ (h old new : Heap) (root last : ℕ) (opens : IsOpened root last h old) (same : frame_of new ≡ frame_of old) where
  -- what the three trees referred to as it began they referred to before
  begun_refs : refs old new same ≡ all_of (states_of (basis_now h root))
  begun_refs =
      let roots : old.roots ≡ record h.roots { current = root } = ap (λ (x : Heap). x.roots) opens.rest in
      ap (λ (o : Option PageMap). refs_with (option_map (basis_with old) o)) opens.pages.begin
      ∙ (λ i. all_of (states_of (record {
        bigblocks = old.bigblocks;
        append = old.begun;
        maps = record { committed = opens.pages.flush.committed i; frozen = opens.pages.flush.frozen i; current = h.pages.current };
        roots = roots i;
      })))

  pub calls_keep_live : (s t : Told) → old.disk ≡ Some s → new.disk ≡ Some t → IsSome (begun_content old) → KeepsLiveBut NoByte h root s t
  calls_keep_live s t was is told byte (r, there, from, to) none = record {
    value = byte_same old new same s t was is byte fixed;
    settled = λ out. is_outside-is t.unsettled byte (settled_same old new same s t was is byte fixed ∙ is_outside-from s.unsettled byte out);
  } where
    fixed : is_fixed old.bigblocks (known old new same) (refs old new same) byte ≡ true
    fixed =
        named_fixed old.bigblocks (known old new same) (refs old new same) r byte told
        (subst (λ (rs : List Reference). Contains rs r) (sym begun_refs) there) from to

-- ---- stages

-- a byte outside some ranges is the same in what agrees outside these, also past the end
outside_same : (bytes image : List ℕ) (ranges : List (ℕ × ℕ)) → MayLeave bytes ranges image → (byte : ℕ) → Outside ranges byte
    → slice_index image byte ≡ slice_index bytes byte
outside_same bytes image ranges left byte out = elim (cases_lt byte (length bytes)) [
  | inl below ↦ left.same byte below out
  | inr past ↦ get_or_past image byte 0 (omega (arith, past, left.size)) ∙ sym (get_or_past bytes byte 0 past)
]

module _ (f : Flush) (h : Heap) (ready : IsFlushReady f h.pages) (size : f.header.bigblocks ≡ h.bigblocks) (root last : ℕ) (volume : Volume)
    (held : HoldsVolume h root last volume) where
  abbrev range : ℕ × ℕ
  range = range_of f (group_of h.pages)

  -- what is live stands in the pool
  live_low : (byte : ℕ) → IsLiveByte h root byte → start_of (first_pool h.bigblocks) ≤ byte
  live_low byte (r, there, from, to) =
      let firm = held_firm h root held.elements.0 held.elements.1 in
      let is = All-contains (IsPlaced h.bigblocks) (all_of (states_of (basis_now h root))) r firm.stand.placed there in
      let first = placed_low h.bigblocks r is in
      omega (arith, first, is.pool.0, from)

  -- so a stage writes it only where it places a page there
  live_beside : (byte : ℕ) → IsLiveByte h root byte → ¬ IsInPlace f.at h.pages byte → Outside (range ∷ []) byte
  live_beside byte live none = by_kind (kind_at f h.pages f.at ready.group) where
    low : start_of (first_pool h.bigblocks) ≤ byte
    low = live_low byte live

    beside_page : (i : ℕ) → f.at ≡ Placing i → i < length h.pages.frozen_group
        → Outside ((byte_of (slice_index h.pages.frozen_group i), PAGE_BYTES) ∷ []) byte
    beside_page i placing below =
        let at = byte_of (slice_index h.pages.frozen_group i) in
        elim (cases_lt byte at) [
          | inl before ↦ (inl before, tt)
          | inr from ↦ elim (cases_lt byte (at + PAGE_BYTES)) [
            | inl inside ↦ absurd (none (subst (λ (p : Position). IsInPlace p h.pages byte) (sym placing) (below, (from, inside))))
            | inr after ↦ (inr after, tt)
          ]
        ]

    by_kind : Kind f h.pages f.at range → Outside (range ∷ []) byte
    by_kind (inl slots) = (inr (omega (arith, slots, low)), tt)
    by_kind (inr (inl log)) = (inr (omega (arith, log.1, low, size)), tt)
    by_kind (inr (inr (i, placing, below, is))) = subst (λ (x : ℕ × ℕ). Outside (x ∷ []) byte) (sym is) (beside_page i placing below)

  pub stage_keeps_live : (result : Result Stage Fault) (s t : Told) → StageDoes f (group_of h.pages) result s t
      → KeepsLiveBut (IsInPlace f.at h.pages) h root s t
  stage_keeps_live result s t does byte live none =
      let touches = stage_touches f (group_of h.pages) result s t does in
      let out = live_beside byte live none in
      record {
        value = outside_same s.bytes t.bytes (range ∷ []) touches.bytes byte out;
        settled = λ was. touches.unsettled byte (out.0, was);
      }

-- What an idle flush holds of a volume that was mounted.
use Rattle.std.proofs.Common.{◌≡◌, inl, inr, ℕ, ◌+◌, List, [], Option, None, Some, IsSome}
use Rattle.std.proofs.Common.{refl, sym, ap, subst, ◌∙◌, arith, eq-eqb, is_some, length, nat_eq, nat_le}
use Rattle.std.proofs.lemmas.Bool.{cond-true}
use Rattle.std.proofs.lemmas.List.Elements.{All-contains}
use Rattle.std.proofs.lemmas.Option.{cond_some}
use Rattle.hm_types.specs.Offset.{byte_of, zone_of}
use Rattle.hm_types.specs.References.{IsPlaced}
use Rattle.hm_types.specs.declared.limits.TheConstants.{PAGE_BYTES}
use Rattle.hm_types.specs.declared.zone.TheConstants.{TREE_ZONE}
use Rattle.hm_disk.specs.Crash.{Outside, Told}
use Rattle.hm_fields.specs.Pages.{PageMap}
use Rattle.hm_freemap.proofs.ListLemmas.{all_left}
use Rattle.hm_header.specs.OnDisk.{HasHeader}
use Rattle.hm_header.specs.Range.{IsSize}
use Rattle.hm_header.specs.declared.header.Header.{Header}
use Rattle.hm_undo.specs.Entry.{IsUndoPageOf}
use Rattle.hm_flush.specs.Flush.{idle_flush}
use Rattle.hm_flush.specs.Guard.{ArePlaced, Guards}
use Rattle.hm_flush.specs.Recoverable.{HoldsPages}
use Rattle.hm_flush.proofs.MadeUpLemmas.{settled-guarded}
use Rattle.hm_pages.specs.Store.{Store}
use Rattle.hm_image.specs.Image.{bytes_at, to_node}
use Rattle.hm_image.specs.Stands.{StandsFor}
use Rattle.hm_load.specs.Held.{HoldsImage}
use Rattle.hm_load.specs.Loaded.{IsLoaded}
use Rattle.hm_model.specs.Volume.{Volume}
use Rattle.hm_stored.specs.Basis.{IsFirm, nodes, refers}
use Rattle.hm_stored.specs.Flushed.{ArePages}
use Rattle.hm_stored.specs.Heap.{Heap, heap_of}
use Rattle.hm_stored.specs.Held.{AreOfVolume}
use Rattle.hm_stored.specs.Mounted.{IsBooksOf}
use Rattle.hm_stored.specs.Standing.{basis_now}
use Rattle.hm_stored.specs.declared.books.Books.{Books}
use Rattle.hm_state.specs.AtRest.{HoldsAtRest, at_rest}
use Rattle.hm_state.specs.Flushing.{ArePayloadsSettled, HoldsFlush, HoldsOutside, IsWholeState}
use Rattle.hm_state.specs.Written.{IsWritten}
use Rattle.hm_state.proofs.AtRestLemmas.{rest_held}
use Rattle.hm_state.proofs.BesideLemmas.{entry_placed}
use Rattle.hm_state.proofs.KeptLemmas.{page_referred}
use Rattle.hm_state.proofs.MountedLemmas.{mounted, mounted_header, mounted_written}
use Rattle.hm_state.proofs.StageHeldLemmas.{all_settled, payloads}

-- each page of a space stands where an entry of the log may name it
pub space_placed : (h : Heap) (root : ℕ) → IsFirm (basis_now h root) → AreOfVolume h → IsSize h.bigblocks → (at : ℕ) → IsSome (h.pages.current at)
    → IsUndoPageOf h.bigblocks at
space_placed h root firm only size at there =
    elim (only at there) [
      | inl zone ↦
          let node : nodes h.pages.current at ≡ h.pages.current at =
          cond-true (nat_eq (zone_of at) TREE_ZONE) (h.pages.current at) None (eq-eqb (zone_of at) TREE_ZONE zone) in
          let spot = (firm.tree.spots at (ap (λ (o : Option (List ℕ)). is_some o) node ∙ there)).node in
          let rs = refers h.pages.current root in
          let placed = All-contains (IsPlaced h.bigblocks) rs (to_node at) (all_left (IsPlaced h.bigblocks) rs _ firm.stand.placed)
          (page_referred h.pages.current root at firm.tree zone there) in
          record { volume = spot.offset.1; page = spot.aligned; zone = inl (zone, placed.pool) }
      | inr (block, low, here) ↦
          subst (IsUndoPageOf h.bigblocks) (sym here) (entry_placed h.bigblocks block size (omega (arith, low)))
    ]

module _ (t : Told) (told : Option Told) (header : Header) (slot : ℕ) (s : Store) (books : Books) (volume : Volume) (stands : StandsFor t.bytes volume)
    (counts : HasHeader t.bytes header slot) (unarmed : header.undo_count ≡ 0) (settled : t.unsettled ≡ []) (loaded : IsLoaded header s)
    (holds : HoldsImage t.bytes header s) (is : IsBooksOf header books) (bytes : ArePages s.current) where
  rest : HoldsAtRest t header s.current volume
  unfolding heap_of
  rest = rest_held (heap_of s (Some t) books) header.root header.last.0 volume header
      (mounted t header slot s books volume stands counts loaded holds is) (mounted_header (Some t) header s books is)

  written : IsWritten (heap_of s (Some t) books) header.root t.bytes
  written = mounted_written t header slot s books volume stands counts loaded holds is bytes

  outside_at : (byte : ℕ) → Outside t.unsettled byte
  outside_at byte = subst (λ (ranges : List (ℕ × ℕ)). Outside ranges byte) (sym settled) tt

  placed : ArePlaced header.bigblocks s.current
  placed at page there =
      space_placed (at_rest (Some t) header s.current) header.root rest.elements.1.firm loaded.only counts.in_range.bigblocks at
      (ap (λ (o : Option (List ℕ)). is_some o) there)

  pages_held : HoldsPages s.current t.bytes
  pages_held at page there =
      (cond_some (nat_le (byte_of at + PAGE_BYTES) (length t.bytes)) (bytes_at t.bytes at PAGE_BYTES) page (holds.pages at page there)).1

  -- the three maps are one
  on_committed : (P : PageMap → Type 0) → P s.current → P s.committed
  on_committed P = subst P loaded.plain.current

  on_frozen : (P : PageMap → Type 0) → P s.current → P s.frozen
  on_frozen P here = subst P (sym loaded.plain.frozen) (on_committed P here)

  guards : Guards (idle_flush header slot) s t
  guards = settled-guarded header slot s t counts unarmed (on_committed (ArePlaced header.bigblocks) placed)
      (on_frozen (ArePlaced header.bigblocks) placed) (on_committed (λ m. HoldsPages m t.bytes) pages_held) settled

  whole : IsWholeState t header s.current volume
  whole = record { holds = rest; only = loaded.only; bytes = bytes }

  payloads_settled : ArePayloadsSettled t s.committed header.root
  payloads_settled = all_settled t (payloads s.committed header.root) settled

  outside : HoldsOutside t books.bigblocks s.current
  unfolding heap_of
  outside = record {
    size = omega (arith, counts.room, is.bigblocks);
    layer1 = written.layer1;
    past = written.past;
    settled = λ byte from to none. outside_at byte;
  }

  pub mounted_committed : HoldsFlush (idle_flush header slot) (heap_of s told books) t volume volume
  unfolding heap_of
  mounted_committed = record {
    bigblocks = is.bigblocks;
    guarded = guards;
    committed_is = on_committed (λ m. IsWholeState t header m volume) whole;
    committed_root = is.roots.0;
    committed_settled = payloads_settled;
    frozen_is = λ moving. absurd (moving refl);
    frozen_root = λ moving. absurd (moving refl);
    frozen_settled = λ logged. absurd logged;
    outside = on_committed (λ m. HoldsOutside t books.bigblocks m) outside;
  }

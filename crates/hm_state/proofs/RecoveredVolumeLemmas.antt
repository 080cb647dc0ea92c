-- Which volume an image of what a flush holds stands for, once it was recovered.
use Rattle.std.proofs.Common.{◌≡◌, ◌≢◌, ◌⊎◌, inl, inr, ℕ, ◌*◌, ◌/◌, ◌<◌, ◌≤◌, true, true≢false, List, ◌∷◌, Option, None, Some, IsSome}
use Rattle.std.proofs.Common.{refl, sym, ap, subst, ◌∙◌, arith, is_some, map}
use Rattle.std.specs.Prelude.{Result}
use Rattle.std.specs.List.{All, Contains}
use Rattle.std.proofs.lemmas.Bool.{cases_lt}
use Rattle.std.proofs.lemmas.List.Elements.{All-contains, All-contains_itself, All-weaker}
use Rattle.hm_types.specs.Layout.{IsPool, blocks_per_layer2, first_pool, first_undo, layer2_blocks, start_of}
use Rattle.hm_types.specs.References.{Reference}
use Rattle.hm_types.specs.declared.fault.Fault.{Fault}
use Rattle.hm_disk.specs.Crash.{MayLeave, Outside, Told}
use Rattle.hm_disk.specs.Moments.{Each, Elapses, LeftSince}
use Rattle.hm_disk.proofs.CrashLemmas.{MayLeave-same}
use Rattle.hm_fields.specs.Pages.{PageMap, page_in}
use Rattle.hm_freemap.specs.Entry.{IsPoolEntry, entry_in}
use Rattle.hm_freemap.specs.Places.{entries_per_page, page_of, place_of}
use Rattle.hm_freemap.proofs.PlaceLemmas.{page_zone}
use Rattle.hm_header.specs.Change.{StageLeaves}
use Rattle.hm_header.specs.Range.{IsSize}
use Rattle.hm_header.specs.declared.header.Header.{Header}
use Rattle.hm_flush.specs.declared.change.Change.TheVariants.{Open}
use Rattle.hm_flush.specs.declared.flush.Flush.{Flush}
use Rattle.hm_flush.specs.declared.flush.Position.{Position}
use Rattle.hm_flush.specs.declared.flush.Position.TheVariants.{Idle, Committing}
use Rattle.hm_flush.specs.declared.stage.Stage.{Stage}
use Rattle.hm_flush.specs.Ends.{StageTells}
use Rattle.hm_flush.specs.Flush.{IsFlush, tried, tried_at}
use Rattle.hm_flush.specs.Group.{group_of}
use Rattle.hm_flush.specs.Guard.{ArePlaced, IsUnarmedAt, guarded_at}
use Rattle.hm_flush.specs.Recoverable.{IsInPages, Recoverable}
use Rattle.hm_flush.specs.Stages.{asks, range_of}
use Rattle.hm_flush.proofs.GuardLemmas.{guarded-recovers}
use Rattle.hm_search.specs.Tree.{elements_of}
use Rattle.hm_image.specs.Image.{to_payload}
use Rattle.hm_image.specs.Sound.{HasEntry, HasLayer1}
use Rattle.hm_image.specs.Stands.{StandsFor}
use Rattle.hm_image.proofs.OffsetLemmas.{pool_is}
use Rattle.hm_model.specs.Volume.{Volume}
use Rattle.hm_stored.specs.Basis.{entry_outside, nodes}
use Rattle.hm_stored.specs.Flushed.{FlushesSpace}
use Rattle.hm_stored.specs.Heap.{Heap}
use Rattle.hm_state.specs.AtRest.{HasBeside}
use Rattle.hm_state.specs.Flushing.{HoldsFlush, IsLogged, IsSettledAt, IsWholeState, RecoversToVolume}
use Rattle.hm_state.specs.Volume.{HoldsVolume}
use Rattle.hm_state.proofs.BesideLemmas.{IsOutsideAll, layer1_left, named_left, past_left}
use Rattle.hm_state.proofs.CourseLemmas.{logged_flies, logged_tried, same_state}
use Rattle.hm_state.proofs.OutsideLemmas.{no_zero_entry}
use Rattle.hm_state.proofs.RecoveredLemmas.{recovered_stands}
use Rattle.hm_state.proofs.StageRangeLemmas.{IsBesideRange, committed_beside, freemap_beside, frozen_beside}

-- the entries of the first big-blocks stand in one page
one_page : (a b : ℕ) → a < 256 → b < 256 → page_of a ≡ page_of b
unfolding page_of
one_page a b low less = let same : a / entries_per_page ≡ b / entries_per_page = omega arith in rw same refl

-- a whole state has each page of layer 2
module _ (t : Told) (header : Header) (pages : PageMap) (volume : Volume) (whole : IsWholeState t header pages volume) (size : IsSize header.bigblocks) where
  pool_there : (block : ℕ) → IsPool header.bigblocks block → IsSome (pages (page_of block))
  pool_there block pool = by_page (pages (page_of block)) (whole.holds.elements.1.firm.stand.current block pool).entry.entry where
    by_page : (o : Option (List ℕ)) → IsPoolEntry (entry_in (page_in o) (place_of block)) → is_some o ≡ true
    by_page None entry = absurd (no_zero_entry (place_of block) entry)
    by_page (Some page) entry = refl

  pub entries_there : (block : ℕ) → block < header.bigblocks → IsSome (pages (page_of block))
  entries_there block below =
      let first = pool_is header.bigblocks size in
      elim (cases_lt block (first_pool header.bigblocks)) [
        | inl low ↦
            subst (λ (x : ℕ). IsSome (pages x)) (one_page (first_pool header.bigblocks) block (omega (arith, first)) (omega (arith, first, low)))
            (pool_there (first_pool header.bigblocks) (omega arith, omega (arith, first)))
        | inr from ↦ pool_there block (from, below)
      ]

module _ (f : Flush) (flush : IsFlush f) (h : Heap) (t : Told) (committed frozen : Volume) (holds : HoldsFlush f h t committed frozen) where
  abbrev committed_payloads : List Reference
  committed_payloads = map to_payload (elements_of (nodes h.pages.committed) f.header.root)

  abbrev frozen_payloads : List Reference
  frozen_payloads = map to_payload (elements_of (nodes h.pages.frozen) f.target.root)

  size : IsSize h.bigblocks
  size = subst IsSize (sym holds.bigblocks) flush.header.bigblocks

  placed : ArePlaced h.bigblocks h.pages.committed
  placed = subst (λ (n : ℕ). ArePlaced n h.pages.committed) (sym holds.bigblocks) holds.guarded.committed

  target_size : f.target.bigblocks ≡ h.bigblocks
  target_size = flush.bigblocks ∙ sym holds.bigblocks

  -- a page of layer 2 that was not frozen was not committed
  frozen_before : f.at ≢ Idle → (block : ℕ) → block < layer2_blocks f.target.bigblocks * blocks_per_layer2 → h.pages.frozen (page_of block) ≡ None
      → h.pages.committed (page_of block) ≡ None
  frozen_before moving block few none = by_page (h.pages.committed (page_of block)) refl where
    by_page : (o : Option (List ℕ)) → h.pages.committed (page_of block) ≡ o → o ≡ None
    by_page None is = refl
    by_page (Some page) is =
        elim (holds.committed_is.only (page_of block) (ap (λ (o : Option (List ℕ)). is_some o) is)) [
          | inl zone ↦ absurd (omega (arith, zone, page_zone block (omega (arith, few, flush.target.bigblocks.1))))
          | inr (other, low, here) ↦
              let there = entries_there t f.target h.pages.frozen frozen (holds.frozen_is moving) flush.target.bigblocks other
              (omega (arith, low, flush.bigblocks)) in
              absurd (true≢false (sym (subst (λ (x : ℕ). IsSome (h.pages.frozen x)) (sym here) there) ∙ ap (λ (o : Option (List ℕ)). is_some o) none))
        ]

  -- an image that agrees with the disk outside some ranges
  module _ (ranges : List (ℕ × ℕ)) (image : List ℕ) (left : MayLeave t.bytes ranges image)
      (out : (byte : ℕ) → start_of 1 ≤ byte → byte < start_of (first_undo h.bigblocks) → ¬ IsInPages h.pages.committed byte → Outside ranges byte) where
    beside : (header : Header) (pages : PageMap) → header.bigblocks ≡ h.bigblocks
        → ((block : ℕ) → block < layer2_blocks header.bigblocks * blocks_per_layer2 → pages (page_of block) ≡ None → h.pages.committed (page_of block) ≡ None)
        → All (IsOutsideAll ranges) (map to_payload (elements_of (nodes pages) header.root)) → HasBeside t header pages image
    beside header pages same before payloads = record {
      size = omega (arith, same, left.size, holds.outside.size);
      layer1 = subst (HasLayer1 image) (sym same) (layer1_left t.bytes image ranges left h.bigblocks size h.pages.committed placed out holds.outside.layer1);
      past = λ block few none.
          let low = subst (λ (n : ℕ). block < layer2_blocks n * blocks_per_layer2) same few in
          let missing = before block few none in
          subst (λ (n : ℕ). HasEntry image block (entry_outside n block)) (sym same)
          (past_left t.bytes image ranges left h.bigblocks size h.pages.committed placed out block (entry_outside h.bigblocks block) low missing
          (holds.outside.past block low missing));
      payloads = named_left t.bytes image ranges left (map to_payload (elements_of (nodes pages) header.root)) payloads;
    }

    committed_left : All (IsOutsideAll ranges) committed_payloads → HasBeside t f.header h.pages.committed image
    committed_left payloads = beside f.header h.pages.committed (sym holds.bigblocks) (λ block few none. none) payloads

    frozen_left : f.at ≢ Idle → All (IsOutsideAll ranges) frozen_payloads → HasBeside t f.target h.pages.frozen image
    frozen_left moving payloads = beside f.target h.pages.frozen target_size (frozen_before moving) payloads

    to_volume : (at : Position) → All (IsOutsideAll ranges) committed_payloads
        → (at ≡ Committing (Open true) → (f.at ≢ Idle) × All (IsOutsideAll ranges) frozen_payloads)
        → Recoverable (record f { at = at }) h.pages image → RecoversToVolume (record f { at = at }) committed frozen image
    to_volume at mine theirs (inl state) = record {
      result = state.result;
      recovers = state.recovers;
      stands = inl (recovered_stands t f.header h.pages.committed committed image state.result holds.committed_is.holds holds.committed_is.only
          holds.committed_is.bytes (committed_left mine) state.has);
    }
    to_volume at mine theirs (inr (opened, state)) =
        let both = theirs opened in
        let whole = holds.frozen_is both.0 in
        record {
          result = state.result;
          recovers = state.recovers;
          stands = inr (
            opened,
            recovered_stands t f.target h.pages.frozen frozen image state.result whole.holds whole.only whole.bytes
                (frozen_left both.0 both.1) state.has,
          );
        }

  pub left_recovers : Each (MayLeave t.bytes t.unsettled) (RecoversToVolume f committed frozen)
  left_recovers image left =
      to_volume t.unsettled image left holds.outside.settled f.at holds.committed_settled
      (λ opened. let logged = subst IsLogged (sym opened) tt in (logged_flies f.at logged, holds.frozen_settled logged))
      (guarded-recovers f h.pages t flush.bigblocks holds.guarded image left)

  -- with no flush in flight the disk itself stands for the committed volume
  pub idle_stands : f.at ≡ Idle → StandsFor t.bytes committed
  idle_stands idle =
      let left = MayLeave-same t.bytes t.unsettled in
      let guard = subst (λ (p : Position). guarded_at p f h.pages t.bytes) idle (holds.guarded.crash t.bytes left) in
      recovered_stands t f.header h.pages.committed committed t.bytes t.bytes holds.committed_is.holds holds.committed_is.only holds.committed_is.bytes
      (committed_left t.unsettled t.bytes left holds.outside.settled holds.committed_settled) (record {
        own = f.header;
        slot = f.slot;
        counts = guard.0;
        state = same_state f.header;
        unarmed = subst (λ (p : Position). IsUnarmedAt p f.header) idle holds.guarded.unarmed;
        pages = guard.1;
        size = refl;
        others = λ byte past inside none. refl;
      })

-- ---- within a stage

module _ (now : Header) (f after : Flush) (old new : Heap) (result : Result Stage Fault) (s t : Told) (past since : LeftSince) (root last : ℕ)
    (volume committed frozen : Volume) (flushes : FlushesSpace now f after old new result)
    (tells : StageTells f after old.pages new.pages result past since s t) (held : HoldsVolume old root last volume)
    (holds : HoldsFlush f old s committed frozen) where
  abbrev range : ℕ × ℕ
  range = range_of f (group_of old.pages)

  abbrev own : List Reference
  own = map to_payload (elements_of (nodes old.pages.committed) f.header.root)

  abbrev other : List Reference
  other = map to_payload (elements_of (nodes old.pages.frozen) f.target.root)

  -- what is settled, and beside the range
  both_outside : (rs : List Reference) → All (IsSettledAt s) rs → All (IsBesideRange range) rs → All (IsOutsideAll (range ∷ s.unsettled)) rs
  both_outside rs settled beside =
      All-weaker (Contains rs) (IsOutsideAll (range ∷ s.unsettled))
      (λ r there byte from to.
      ((All-contains (IsBesideRange range) rs r beside there byte from to).0, All-contains (IsSettledAt s) rs r settled there byte from to))
      rs (All-contains_itself rs)

  stage_recovers : (image : List ℕ) → StageLeaves (asks f) range.0 range.1 s image → Recoverable (tried f) old.pages image
      → RecoversToVolume (tried f) committed frozen image
  stage_recovers image leaves state =
      to_volume f flushes.flush old s committed frozen holds (range ∷ s.unsettled) image leaves.others
      (λ byte from to none. (
        (freemap_beside f old flushes.flush flushes.ready flushes.before s committed frozen holds root last volume held byte from to none).0,
        holds.outside.settled byte from to none,
      ))
      (tried_at f.at)
      (both_outside own holds.committed_settled
      (committed_beside f old flushes.flush flushes.ready flushes.before s committed frozen holds root last volume held))
      (λ opened.
      let logged = logged_tried f.at (subst IsLogged (sym opened) tt) in (
        logged_flies f.at logged,
        both_outside other (holds.frozen_settled logged)
            (frozen_beside f old flushes.flush flushes.ready flushes.before s committed frozen holds root last volume held (logged_flies f.at logged)),
      ))
      state

  pub within_recovers : Elapses (RecoversToVolume (tried f) committed frozen) past since s t
  within_recovers =
      let guarded = tells.recoverable holds.guarded in
      record {
        later = tells.any_moment.later;
        size = tells.any_moment.size;
        only = λ moment image before left. by_parts moment image (tells.any_moment.only moment image before left) (guarded.only moment image before left);
        keeps = tells.any_moment.keeps;
      } where
        by_parts : (moment : ℕ) (image : List ℕ) → past moment image ⊎ StageLeaves (asks f) range.0 range.1 s image
            → past moment image ⊎ Recoverable (tried f) old.pages image → past moment image ⊎ RecoversToVolume (tried f) committed frozen image
        by_parts moment image (inl was) state = inl was
        by_parts moment image (inr leaves) (inl was) = inl was
        by_parts moment image (inr leaves) (inr state) = inr (stage_recovers image leaves state)

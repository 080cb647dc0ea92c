-- A look at a space leaves what it holds, and each history that was legal.
use Rattle.std.proofs.Common.{◌≡◌, ℕ, ◌^◌, Bool, List, Option, None, Some, refl, sym, ap, subst, ◌∙◌}
use Rattle.std.specs.Prelude.{IsSomeAnd, if◌then◌else◌}
use Rattle.hm_types.specs.Elements.{FullElement}
use Rattle.hm_types.specs.declared.limits.TheConstants.{BIGBLOCK_BYTES}
use Rattle.hm_disk.specs.Crash.{Told}
use Rattle.hm_fields.specs.Pages.{PageMap}
use Rattle.hm_flush.specs.declared.flush.Flush.{Flush}
use Rattle.hm_pages.specs.Store.{Frame as PagesFrame}
use Rattle.hm_freemap.specs.Stand.{Maps, free_by, is_handed_out, room_in}
use Rattle.hm_model.specs.After.{Event}
use Rattle.hm_model.specs.Caused.{Counts}
use Rattle.hm_model.specs.Foreign.{Foreigners}
use Rattle.hm_model.specs.Legal.{state_after}
use Rattle.hm_model.specs.Volume.{Volume}
use Rattle.hm_model.specs.declared.entry.Entry.{Entry}
use Rattle.hm_stored.specs.Basis.{Basis, IsFirm, fulls_in}
use Rattle.hm_stored.specs.Heap.{Heap, free_of, maps_of, room_of}
use Rattle.hm_stored.specs.Standing.{Holds, HoldsBy, basis_now}
use Rattle.hm_stored.specs.Turn.{IsClosed, LooksSame}
use Rattle.hm_stored.specs.declared.roots.Roots.{Roots}
use Rattle.hm_state.specs.Flushing.{HoldsFlush}
use Rattle.hm_state.specs.Volume.{HoldsVolume}
use Rattle.hm_state.proofs.FlushKeptLemmas.{holds_same_flush}
use Rattle.hm_core.specs.History.{IsLegalOver, setting_of}
use Rattle.hm_core.specs.State.{OpenJob}
use Rattle.hm_core.proofs.KeptLemmas.{IsSameBeside}

module _ (old new : Heap) (looks : LooksSame old new) where
  bigblocks_same : new.bigblocks ≡ old.bigblocks
  bigblocks_same = ap (λ (h : Heap). h.bigblocks) looks.rest

  append_same : new.append ≡ old.append
  append_same = ap (λ (h : Heap). h.append) looks.rest

  disk_same : new.disk ≡ old.disk
  disk_same = ap (λ (h : Heap). h.disk) looks.rest

  maps_same : maps_of new ≡ maps_of old
  maps_same = by new.pages.committed new.pages.frozen new.pages.current (ap (λ (f : PagesFrame). f.committed) looks.pages)
      (ap (λ (f : PagesFrame). f.frozen) looks.pages) looks.current where
        by : (c f u : PageMap) → c ≡ old.pages.committed → f ≡ old.pages.frozen → u ≡ old.pages.current
            → record { committed = c; frozen = f; current = u } ≡ maps_of old
        by c f u first second third = rw (first, second, third) refl

  basis_same : (root : ℕ) → basis_now new root ≡ basis_now old root
  basis_same root = by new.bigblocks new.append (maps_of new) new.roots bigblocks_same append_same maps_same (ap (λ (h : Heap). h.roots) looks.rest) where
    by : (n : ℕ) (a : List ℕ) (m : Maps) (r : Roots) → n ≡ old.bigblocks → a ≡ old.append → m ≡ maps_of old → r ≡ old.roots
        → record { bigblocks = n; append = a; maps = m; roots = record r { current = root } } ≡ basis_now old root
    by n a m r first second third fourth = rw (first, second, third, fourth) refl

  held_same : (root : ℕ) (es : List FullElement) → Holds old root es → Holds new root es
  held_same root es holds = subst (λ (d : Option Told). IsSomeAnd d (λ t. HoldsBy new root t.bytes es)) (sym disk_same) (by old.disk holds) where
    by : (d : Option Told) → IsSomeAnd d (λ t. HoldsBy old root t.bytes es) → IsSomeAnd d (λ t. HoldsBy new root t.bytes es)
    by None holds = holds
    by (Some t) holds = record {
      firm = subst IsFirm (sym (basis_same root)) holds.firm;
      elements = ap (λ (b : Basis). fulls_in b t.bytes) (basis_same root) ∙ holds.elements;
    }

  pub looked_held : (root last : ℕ) (volume : Volume) → HoldsVolume old root last volume → HoldsVolume new root last volume
  looked_held root last volume is = record {
    bigblocks = bigblocks_same ∙ is.bigblocks;
    last_is = is.last_is;
    elements = (is.elements.0, held_same root is.elements.0 is.elements.1, is.elements.2);
  }

  pub looked_legal : (free : ℕ) (start faults : Counts) (history : List Entry) (root last : ℕ) (running : List OpenJob) (opening : Volume)
      (foreigners : Foreigners)
      (events : List Event) → IsLegalOver free start faults history old root last running opening foreigners events
      → IsLegalOver free start faults history new root last running opening foreigners events
  looked_legal free start faults history root last running opening foreigners events is = record {
    entries = is.entries;
    legal = is.legal;
    counted = is.counted;
    held = record {
      holds = looked_held root last (state_after (setting_of free start faults opening foreigners) events).volume is.held.holds;
      opened = is.held.opened;
    };
  }

  pub looked_beside : IsSameBeside old new
  looked_beside = record {
    bigblocks = bigblocks_same;
    disk = disk_same;
    pages = record {
      committed = ap (λ (f : PagesFrame). f.committed) looks.pages;
      frozen = ap (λ (f : PagesFrame). f.frozen) looks.pages;
      frozen_group = ap (λ (f : PagesFrame). f.frozen_group) looks.pages;
      boundary = ap (λ (f : PagesFrame). f.boundary) looks.pages;
    };
    committed = ap (λ (h : Heap). h.roots.committed) looks.rest;
    frozen = ap (λ (h : Heap). h.roots.frozen) looks.rest;
  }

  -- what a flush holds is still there
  pub looked_flush : (f : Flush) (t : Told) (committed frozen : Volume) → HoldsFlush f old t committed frozen → HoldsFlush f new t committed frozen
  looked_flush f t committed frozen =
      let same = looked_beside in
      holds_same_flush f old new t committed frozen same.pages same.bigblocks same.committed same.frozen

  pub looked_closed : IsClosed old → IsClosed new
  looked_closed closed = record {
    begin = ap (λ (f : PagesFrame). f.begin) looks.pages ∙ closed.begin;
    whole = ap (λ (h : Heap). h.whole) looks.rest ∙ closed.whole;
  }

  pub looked_free : free_of new ≡ free_of old
  looked_free = by new.whole new.bigblocks new.append (maps_of new) (ap (λ (h : Heap). h.whole) looks.rest) bigblocks_same append_same maps_same where
    by : (w : Bool) (n : ℕ) (a : List ℕ) (m : Maps) → w ≡ old.whole → n ≡ old.bigblocks → a ≡ old.append → m ≡ maps_of old
        → (if w then free_by n a m else 2 ^ 32) ≡ free_of old
    by w n a m first second third fourth = rw (first, second, third, fourth) refl

  pub looked_room : room_of new ≡ room_of old
  looked_room = by new.whole new.append new.pages.current (ap (λ (h : Heap). h.whole) looks.rest) append_same looks.current where
    by : (w : Bool) (a : List ℕ) (c : PageMap) → w ≡ old.whole → a ≡ old.append → c ≡ old.pages.current
        → (λ zone. if w then room_in a c zone else (if is_handed_out zone then BIGBLOCK_BYTES else 0)) ≡ room_of old
    by w a c first second third = rw (first, second, third) refl

-- What the calls of a space of nodes answer, where they succeed and where they fail.
use Rattle.std.proofs.Common.{◌≡◌, Bool, true, false, true≢false, ℕ, ◌+◌, ◌*◌, ◌≤◌, List, Option, Some, None, Result, Ok, Err, refl, sym, ap, subst}
use Rattle.std.proofs.Common.{◌∙◌, arith, cond, length}
use Rattle.std.specs.Prelude.{IfOk, IfSome, IsSome, OnOk, is_ok}
use Rattle.std.proofs.Math.Logic.{∥∥₁_elim}
use Rattle.hm_types.specs.Faults.{HasStoreCause}
use Rattle.hm_types.specs.Layout.{block_of}
use Rattle.hm_types.specs.Offset.{byte_of, zone_of}
use Rattle.hm_types.specs.Space.{Spends, in_zone, nothing}
use Rattle.hm_types.specs.Told.{BothTell}
use Rattle.hm_types.specs.declared.fault.Fault.{Fault}
use Rattle.hm_types.specs.declared.limits.TheConstants.{BIGBLOCK_BYTES}
use Rattle.hm_types.specs.declared.zone.TheConstants.{TREE_ZONE}
use Rattle.hm_disk.specs.Crash.{Told}
use Rattle.hm_fields.specs.Pages.{PageMap}
use Rattle.hm_node.specs.Shape.{HoldsNode}
use Rattle.hm_btree.specs.Space.{HasLost, HasNew, IsSpot}
use Rattle.hm_freemap.specs.Faults.{HasExtentCause, HasFreemapCause}
use Rattle.hm_freemap.specs.Stand.{append_of}
use Rattle.hm_pages.specs.Store.{Store, frame_of as pages_frame}
use Rattle.hm_types.specs.Faults.{IsUndamaged}
use Rattle.hm_types.specs.References.{Reference}
use Rattle.hm_stored.specs.Basis.{Basis, nodes}
use Rattle.hm_stored.specs.Calls.{SameBooks}
use Rattle.hm_stored.specs.Heap.{Heap, extents_in, free_of, heap_of, pages_of, room_of}
use Rattle.hm_stored.specs.Held.{AreNodes, HeldBy, IsKept}
use Rattle.hm_stored.specs.Nodes.{AddsNode, DropsNode}
use Rattle.hm_stored.specs.declared.books.Books.{Books}
use Rattle.hm_stored.proofs.BasisLemmas.{SameBasis, begin_same}
use Rattle.hm_stored.proofs.CauseLemmas.{extent_undamaged, held_of, memory_caused, take_undamaged, tells_parts, told_pages}
use Rattle.hm_stored.proofs.NewNodeLemmas.{SamePlaces, kept_gone, kept_new, room_new, spent_gone, spent_new, spot_new, told_gone, told_new, extents_stay}
use Rattle.hm_stored.proofs.NodeStepLemmas.{node_referred}
use Rattle.hm_stored.proofs.PageLemmas.{pages_told}
use Rattle.hm_stored.proofs.RoomLemmas.{spends_broken}
use Rattle.hm_stored.proofs.SafeLemmas.{holds_whole}

module _ (old new : Store) (disk disk' : Option Told) (books books' : Books) (frame : pages_frame new ≡ pages_frame old) (same : SameBooks books books') where
  abbrev h : Heap
  h = heap_of old disk books

  abbrev h' : Heap
  h' = heap_of new disk' books'

  pub basis : SameBasis h h'
  unfolding heap_of
  basis = record { pages = frame; bigblocks = same.bigblocks; begun = same.begun; roots = same.roots; last = ap (λ i. i.0) same.last }

  -- a call that failed half-way keeps what always holds
  pub kept_broken : books'.whole ≡ false → (IfSome disk (λ (t : Told). books.bigblocks * BIGBLOCK_BYTES ≤ length t.bytes)
      → IfSome disk' (λ (t : Told). books.bigblocks * BIGBLOCK_BYTES ≤ length t.bytes))
      → ∥ IsKept h ∥₁ → ∥ IsKept h' ∥₁
  unfolding heap_of
  kept_broken broken sized kept = ∥∥₁_elim kept squash₁ (λ k. ∣ record {
    nodes = λ whole. absurd (true≢false (sym whole ∙ broken));
    begun = subst (λ (o : Option PageMap). IfSome o AreNodes) (sym (begin_same h h' basis)) k.begun;
    size = subst (λ (n : ℕ). IfSome disk' (λ (t : Told). n * BIGBLOCK_BYTES ≤ length t.bytes)) (sym same.bigblocks) (sized k.size);
    safe = λ holds. absurd (true≢false (sym (holds_whole h' holds) ∙ broken));
    held = λ told. absurd (true≢false (sym ((tells_parts h' told).0) ∙ broken));
  } ∣₁)

  pub spends_half : (most : ℕ → ℕ) → books'.whole ≡ false → Spends room_of free_of most h h'
  unfolding heap_of
  spends_half most broken = spends_broken h h' most books.most broken

-- a fact of what a call gave
pub ok_map : {A E : Type 0} (P Q : A → Type 0) (r : Result A E) → ((x : A) → P x → Q x) → IfOk r P → IfOk r Q
ok_map P Q (Ok x) step is = step x is
ok_map P Q (Err e) step is = tt

pub on_map : {A E : Type 0} (P Q : Type 0) (r : Result A E) → (P → Q) → OnOk r P → OnOk r Q
on_map P Q (Ok x) step is = step is
on_map P Q (Err e) step is = tt

-- the pages of a node that was added, with its page
module _ (old new : Store) (disk : Option Told) (books books' : Books) (page : List ℕ) (frame : pages_frame new ≡ pages_frame old)
    (same : SameBooks books books')
    (append : books'.append ≡ books.append) (log : books'.log ≡ books.log) (gave : books'.gave ≡ books.gave) (was : books.whole ≡ true)
    (kept : ∥ IsKept (heap_of old disk books) ∥₁) where
  abbrev h0 : Heap
  h0 = heap_of old disk books

  abbrev h1 : Heap
  h1 = heap_of new disk books'

  together : books'.whole ≡ true → SamePlaces h0 h1
  unfolding heap_of
  together whole = record {
    basis = basis old new disk disk books books' frame same;
    disk = refl;
    append = append;
    log = ap (λ l. l.items) log;
    whole = was;
    whole' = whole;
  }

  pub new_ok : (result : Result ℕ Fault) → books'.whole ≡ is_ok result → 4096 ≤ room_of h0 TREE_ZONE
      → IfOk result (λ at. AddsNode books.bigblocks books.append page at old new)
      → IfOk result (λ at. BothTell (pages_of h0) (pages_of h1) (HasNew at page) × IsSpot at ×
      ((zone : ℕ) → room_of h1 zone + in_zone TREE_ZONE 4096 zone ≡ room_of h0 zone)
      × (extents_in h1 ≡ extents_in h0))
  unfolding heap_of
  new_ok (Ok at) whole room adds =
      let one = together whole in (
        told_new h0 h1 at page adds.now books.most books.below books.distinct one gave adds.spot adds.takes adds.put kept,
        spot_new h0 h1 at page adds.now books.most books.below books.distinct one gave adds.spot adds.takes adds.put kept room,
        room_new h0 h1 at page adds.now books.most books.below books.distinct one gave adds.spot adds.takes adds.put kept,
        extents_stay h0 h1 at (Some page) adds.now books.most books.below one adds.takes.place adds.put,
      )
  new_ok (Err fault) whole room adds = tt

  pub new_spent : (result : Result ℕ Fault) → books'.whole ≡ is_ok result → IfOk result (λ at. AddsNode books.bigblocks books.append page at old new)
      → Spends room_of free_of (in_zone TREE_ZONE 4096) h0 h1
  unfolding heap_of
  new_spent (Ok at) whole adds =
      spent_new h0 h1 at page adds.now books.most books.below books.distinct (together whole) gave adds.spot adds.takes adds.put kept
  new_spent (Err fault) whole adds = spends_half old new disk disk books books' frame same (in_zone TREE_ZONE 4096) whole

  pub new_kept : (result : Result ℕ Fault) → books'.whole ≡ is_ok result → HoldsNode page
      → IfOk result (λ at. AddsNode books.bigblocks books.append page at old new) → ∥ IsKept h1 ∥₁
  unfolding heap_of
  new_kept (Ok at) whole holds adds =
      kept_new h0 h1 at page adds.now books.most books.below books.distinct (together whole) gave adds.spot adds.takes adds.put kept
      (omega (arith, adds.spot.zone)) holds
  new_kept (Err fault) whole holds adds = kept_broken old new disk disk books books' frame same whole (λ is. is) kept

-- The same of one that was taken out.
module _ (old new : Store) (disk : Option Told) (books books' : Books) (at : ℕ) (frame : pages_frame new ≡ pages_frame old) (same : SameBooks books books')
    (append : books'.append ≡ books.append) (log : books'.log ≡ books.log) (gave : books'.gave ≡ true) (was : books.whole ≡ true)
    (tree : zone_of at ≡ TREE_ZONE) (kept : ∥ IsKept (heap_of old disk books) ∥₁) (there : IfSome (pages_of (heap_of old disk books))
    (λ map. IsSome (map at))) where
  abbrev k0 : Heap
  k0 = heap_of old disk books

  abbrev k1 : Heap
  k1 = heap_of new disk books'

  joined : books'.whole ≡ true → SamePlaces k0 k1
  unfolding heap_of
  joined whole = record {
    basis = basis old new disk disk books books' frame same;
    disk = refl;
    append = append;
    log = ap (λ l. l.items) log;
    whole = was;
    whole' = whole;
  }

  pub gone_ok : (result : Result (Unit {0}) Fault) → books'.whole ≡ is_ok result → OnOk result (DropsNode books.bigblocks books.append at old new)
      → OnOk result (BothTell (pages_of k0) (pages_of k1) (HasLost at)) × OnOk result (extents_in k1 ≡ extents_in k0)
  unfolding heap_of
  gone_ok (Ok done) whole drops =
      let one = joined whole in (
        told_gone k0 k1 at drops.now books.most books.below one gave tree drops.gives drops.put there kept,
        extents_stay k0 k1 at None drops.now books.most books.below one tree drops.put,
      )
  gone_ok (Err fault) whole drops = (tt, tt)

  pub gone_spent : (result : Result (Unit {0}) Fault) → books'.whole ≡ is_ok result → OnOk result (DropsNode books.bigblocks books.append at old new)
      → Spends room_of free_of nothing k0 k1
  unfolding heap_of
  gone_spent (Ok done) whole drops = spent_gone k0 k1 at drops.now books.most books.below (joined whole) gave tree drops.gives drops.put there kept
  gone_spent (Err fault) whole drops = spends_half old new disk disk books books' frame same nothing whole

  pub gone_kept : (result : Result (Unit {0}) Fault) → books'.whole ≡ is_ok result → OnOk result (DropsNode books.bigblocks books.append at old new)
      → ∥ IsKept k1 ∥₁
  unfolding heap_of
  gone_kept (Ok done) whole drops = kept_gone k0 k1 at drops.now books.most books.below (joined whole) gave tree drops.gives drops.put there kept
  gone_kept (Err fault) whole drops = kept_broken old new disk disk books books' frame same whole (λ is. is) kept

-- a fault of the freemap over pages in memory, in a space
module _ (old : Store) (disk : Option Told) (books : Books) (faults : ℕ) (kept : ∥ IsKept (heap_of old disk books) ∥₁) where
  abbrev space : Heap
  space = heap_of old disk books

  pub new_cause : (result : Result ℕ Fault)
      → HasFreemapCause books.bigblocks books.append (λ one. one ≡ append_of books.append TREE_ZONE) (Some old.committed) (Some old.frozen)
      (Some old.current) 0 0 result
      → HasStoreCause (pages_of space) faults faults result
  unfolding heap_of
  new_cause (Ok at) cause = record { counted = record { never_falls = omega arith; caused = tt }; undamaged = pages_told space (λ _. Unit {0}) tt }
  new_cause (Err fault) cause = record {
    counted = record { never_falls = omega arith; caused = memory_caused faults fault cause.counted.caused };
    undamaged = told_pages space fault (held_of space kept) (λ told b refs held. take_undamaged space b refs TREE_ZONE fault (omega arith)
        (omega arith) held cause.damage);
  }

  pub gone_cause : (at : ℕ) (result : Result (Unit {0}) Fault) → IfSome (pages_of space) (λ map. IsSome (map at))
      → HasExtentCause books.bigblocks books.append (block_of (byte_of at)) 4096 (Some old.committed) (Some old.frozen) (Some old.current) 0 0 result
      → HasStoreCause (pages_of space) faults faults result
  unfolding heap_of
  gone_cause at (Ok done) there cause = record {
    counted = record { never_falls = omega arith; caused = tt };
    undamaged = pages_told space
        (λ _. Unit {0}) tt;
  }
  gone_cause at (Err fault) there cause = record {
    counted = record { never_falls = omega arith; caused = memory_caused faults fault cause.counted.caused };
    undamaged = told_pages space fault (held_of space kept)
        (λ told b refs held. by_node (nodes old.current at) refl
        (subst (λ (t : Bool). IfSome (cond t (Some (nodes old.current)) None) (λ map. IsSome (map at))) told there) b refs held);
  } where
    by_node : (o : Option (List ℕ)) → nodes old.current at ≡ o → IsSome o → (b : Basis) (refs : List Reference) → HeldBy space b refs → IsUndamaged fault
    by_node None none some b refs held = absurd (true≢false (sym some))
    by_node (Some page) node some b refs held = extent_undamaged space b refs at 4096 fault held (node_referred space b refs at page held node) cause.damage

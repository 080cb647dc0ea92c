-- A look at a space leaves what it holds.
use Rattle.std.proofs.Common.{◌≡◌, true, ℕ, ℤ, ◌^◌, Option, Some, Result, Ok, Err, refl, sym, ap, ◌∙◌, cond}
use Rattle.std.specs.Prelude.{IfOk}
use Rattle.hm_types.specs.declared.fault.Fault.{Fault}
use Rattle.hm_disk.specs.Crash.{Told}
use Rattle.hm_fields.specs.Pages.{PageMap}
use Rattle.hm_freemap.specs.Calls.{CountsFree, IsLive}
use Rattle.hm_freemap.specs.Places.{HasLayer2}
use Rattle.hm_freemap.specs.Stand.{free_by}
use Rattle.hm_pages.specs.Store.{Store, Frame as PagesFrame, frame_of as pages_frame, layer2}
use Rattle.hm_stored.specs.Heap.{free_of, heap_of, maps_of}
use Rattle.hm_stored.specs.Held.{IsKept}
use Rattle.hm_stored.specs.Turn.{LooksSame}
use Rattle.hm_stored.specs.declared.books.Books.{Books}
use Rattle.hm_stored.proofs.AdmitLemmas.{kept_still}
use Rattle.hm_stored.proofs.BasisLemmas.{SameBasis}
use Rattle.hm_stored.proofs.TurnLemmas.{layer2_kept}

-- a look that left the pages in each state
module _ (old new : Store) (disk : Option Told) (books : Books) (frame : pages_frame new ≡ pages_frame old)
    (pages : Some new.current ≡ Some old.current) where
  current : new.current ≡ old.current
  current = by_some new.current old.current pages where
    by_some : (m n : PageMap) → Some m ≡ Some n → m ≡ n
    by_some m n same = cc

  basis : SameBasis (heap_of old disk books) (heap_of new disk books)
  unfolding heap_of
  basis = record { pages = frame; bigblocks = refl; begun = refl; roots = refl; last = refl }

  pub looks_same : LooksSame (heap_of old disk books) (heap_of new disk books)
  unfolding heap_of
  looks_same = record { pages = frame; current = current; rest = refl }

  pub look_kept : ∥ IsKept (heap_of old disk books) ∥₁ → ∥ IsKept (heap_of new disk books) ∥₁
  unfolding heap_of
  look_kept = kept_still (heap_of old disk books) (heap_of new disk books) books.most books.below basis refl refl refl refl refl current

  pub look_layer2 : HasLayer2 books.bigblocks (layer2 old) → HasLayer2 books.bigblocks (layer2 new)
  look_layer2 = layer2_kept old new books.bigblocks (ap (λ (f : PagesFrame). f.committed) frame)

-- what is counted is the number of a space that is whole
pub free_counted : (store : Store) (disk : Option Told) (books : Books) (result : Result ℕ Fault) → books.whole ≡ true
    → IfOk result (CountsFree books.bigblocks books.append (record { committed = store.committed; frozen = store.frozen; current = store.current }))
    → IfOk result (λ free. free ≡ free_of (heap_of store disk books))
unfolding heap_of
free_counted store disk books (Ok free) whole counts =
    let h = heap_of store disk books in
    counts.by_maps ∙ sym (ap (λ t. cond t (free_by h.bigblocks h.append (maps_of h)) (2 ^ 32)) whole)
free_counted store disk books (Err fault) whole counts = tt

-- and what is counted of a big-block is so by the maps of a space
pub live_counted : (store : Store) (disk : Option Told) (books : Books) (block : ℕ) (result : Result ℤ Fault)
    → IfOk result (IsLive books.bigblocks books.append (record { committed = store.committed; frozen = store.frozen; current = store.current }) block)
    → IfOk result (IsLive books.bigblocks books.append (maps_of (heap_of store disk books)) block)
unfolding heap_of
live_counted store disk books block result is = is

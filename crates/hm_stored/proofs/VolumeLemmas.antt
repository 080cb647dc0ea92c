-- The pages of a space stay those of its volume.
use Rattle.std.proofs.Common.{◌≡◌, ◌⊎◌, Bool, true, false, true≢false, ℕ, zero, suc, inl, inr, ⊎_elim, List, Option, Some, None, Result, Ok, Err}
use Rattle.std.proofs.Common.{refl, sym, ap, subst, ◌∙◌, arith}
use Rattle.std.specs.Prelude.{◌||◌, IfSome, IsSome, OnErr, OnOk, slice_index}
use Rattle.std.proofs.Math.Logic.{∥∥₁_elim, ∥∥₁_map}
use Rattle.std.proofs.Props.{props}
use Rattle.std.proofs.lemmas.Bool.{cases_eq}
use native.Mathlib.Decide.{ℕ_discrete}
use Rattle.hm_types.specs.Offset.{zone_of}
use Rattle.hm_types.specs.declared.fault.Fault.{Fault}
use Rattle.hm_types.specs.declared.zone.TheConstants.{TREE_ZONE}
use Rattle.hm_disk.specs.Crash.{Told}
use Rattle.hm_fields.specs.Pages.{PageMap}
use Rattle.hm_header.specs.Range.{IsRoot}
use Rattle.hm_undo.specs.Entry.{IsUndoPageOf}
use Rattle.hm_freemap.specs.Places.{IsPageOf, page_of}
use Rattle.hm_pages.specs.Calls.{IsBegun, IsChanged, IsKept as IsPagesKept, IsUndone}
use Rattle.hm_pages.specs.Sets.{ChangeSet, no_set}
use Rattle.hm_pages.specs.Store.{Store, Frame as PagesFrame, frame_of as pages_frame}
use Rattle.hm_stored.specs.Calls.{SameBooks}
use Rattle.hm_stored.specs.Decide.{dec_or}
use Rattle.hm_stored.specs.Heap.{Heap, heap_of}
use Rattle.hm_stored.specs.Held.{AreOfVolume, AreOnlyOf, ArePlaced, IsOfVolume}
use Rattle.hm_stored.specs.Nodes.{MovesNodes, spots}
use Rattle.hm_stored.specs.Turn.{IsClosed}
use Rattle.hm_stored.specs.declared.books.Books.{Books}
use Rattle.hm_stored.proofs.BasisLemmas.{begin_same, changed_frame}
use Rattle.hm_stored.proofs.NodeCallLemmas.{basis}
use Rattle.hm_stored.proofs.SpotLemmas.{dec_place, frozen_kept, node_moves, none_changed, none_moves, placed_kept}

-- where the same pages stand beside the nodes, all are of the volume still
only_kept : (bigblocks : ℕ) (old new : Store) → MovesNodes bigblocks (spots old) (spots new) → AreOnlyOf bigblocks old.current
    → AreOnlyOf bigblocks new.current
only_kept bigblocks old new moves only at there =
    ⊎_elim (λ (tree : zone_of at ≡ TREE_ZONE). inl tree) (λ beside. only at (sym (moves.there at beside) ∙ there)) (cases_eq (zone_of at) TREE_ZONE)

pub volume_kept : (old new : Store) (was is : Option Told) (books books' : Books) → pages_frame new ≡ pages_frame old → SameBooks books books'
    → MovesNodes books.bigblocks (spots old) (spots new) → ∥ IsOfVolume (heap_of old was books) ∥₁ → ∥ IsOfVolume (heap_of new is books') ∥₁
unfolding heap_of
volume_kept old new was is books books' frame same moves kept = ∥∥₁_map kept (λ (k : IsOfVolume (heap_of old was books)). record {
  only = subst (λ (n : ℕ). AreOnlyOf n new.current) (sym same.bigblocks) (only_kept books.bigblocks old new moves k.only);
  begun = subst (λ (o : Option PageMap). IfSome o (AreOnlyOf books'.bigblocks))
      (sym (begin_same (heap_of old was books) (heap_of new is books') (basis old new was is books books' frame same)))
      (subst (λ (n : ℕ). IfSome old.begin (AreOnlyOf n)) (sym same.bigblocks) k.begun);
  placed = subst (λ (n : ℕ). ArePlaced n new) (sym same.bigblocks)
      (placed_kept books.bigblocks books.most old new k.only moves (ap (λ (f : PagesFrame). f.frozen_group) frame) k.placed);
})

-- as the same pages stand anywhere, and were changed
pub volume_still : (old new : Store) (was is : Option Told) (books books' : Books) → pages_frame new ≡ pages_frame old → SameBooks books books'
    → spots new ≡ spots old → ∥ IsOfVolume (heap_of old was books) ∥₁ → ∥ IsOfVolume (heap_of new is books') ∥₁
volume_still old new was is books books' frame same spot = volume_kept old new was is books books' frame same
    (none_moves books.bigblocks (spots old) (spots new) spot)

-- as a page is put in place of a node, or is not
pub volume_tried : (at : ℕ) (page : Option (List ℕ)) (old new : Store) (disk : Option Told) (books : Books) (result : Result (Unit {0}) Fault)
    → IsRoot books.bigblocks at → OnOk result (IsChanged at page old new) → OnErr result (new ≡ old)
    → ∥ IsOfVolume (heap_of old disk books) ∥₁ → ∥ IsOfVolume (heap_of new disk books) ∥₁
volume_tried at page old new disk books (Ok done) place ok err = volume_kept old new disk disk books books (changed_frame at page old new ok)
    (record { bigblocks = refl; begun = refl; roots = refl; last = refl }) (node_moves books.bigblocks at page old new place ok)
volume_tried at page old new disk books (Err fault) place ok err = subst (λ (s : Store). ∥ IsOfVolume (heap_of s disk books) ∥₁) (sym err)

-- They are as a space is made, and as calls are opened and closed.
pub volume_over : (store : Store) (disk : Option Told) (books : Books) → IsClosed (heap_of store disk books) → AreOfVolume (heap_of store disk books)
    → ArePlaced books.bigblocks store → IsOfVolume (heap_of store disk books)
unfolding heap_of
volume_over store disk books closed only placed = record {
  only = only;
  begun = subst (λ (o : Option PageMap). IfSome o (AreOnlyOf books.bigblocks)) (sym closed.begin) tt;
  placed = placed;
}

module _ (old new : Store) (disk : Option Told) (books books' : Books) (size : books'.bigblocks ≡ books.bigblocks)
    (kept : IsOfVolume (heap_of old disk books)) where
  with_size : (pages : PageMap) → AreOnlyOf books.bigblocks pages → AreOnlyOf books'.bigblocks pages
  with_size pages = subst (λ (n : ℕ). AreOnlyOf n pages) (sym size)

  -- what changed does, where no call has changed anything, and the same is frozen
  placed_now : new.frozen_group ≡ old.frozen_group → new.call ≡ no_set → ((at : ℕ) → new.group.changed at ≡ true → IsUndoPageOf books.bigblocks at)
      → ArePlaced books'.bigblocks new
  unfolding heap_of
  placed_now frozen none group = subst (λ (n : ℕ). ArePlaced n new) (sym size) (record {
    call = none_changed books.bigblocks new.call none;
    group = group;
    frozen = frozen_kept books.bigblocks old.frozen_group new.frozen_group frozen kept.placed.frozen;
  })

  pub volume_begun : IsBegun old new → IsOfVolume (heap_of new disk books')
  unfolding heap_of
  volume_begun begins = record {
    only = subst (AreOnlyOf books'.bigblocks) (sym begins.current) (with_size old.current kept.only);
    begun = subst (λ (o : Option PageMap). IfSome o (AreOnlyOf books'.bigblocks)) (sym begins.begin) (with_size old.current kept.only);
    placed = placed_now begins.flush.frozen_group begins.call (λ at changed. kept.placed.group at
        (ap (λ (s : ChangeSet). s.changed at) (sym begins.group) ∙ changed));
  }

  pub volume_closed : IsPagesKept old new → IsOfVolume (heap_of new disk books')
  unfolding heap_of
  volume_closed keeps = record {
    only = subst (AreOnlyOf books'.bigblocks) (sym keeps.current) (with_size old.current kept.only);
    begun = subst (λ (o : Option PageMap). IfSome o (AreOnlyOf books'.bigblocks)) (sym keeps.begin) tt;
    placed = placed_now keeps.flush.frozen_group keeps.call (λ at changed. either at (old.call.changed at) (old.group.changed at)
        (kept.placed.call at) (kept.placed.group at) (ap (λ (f : ℕ → Bool). f at) (sym keeps.group) ∙ changed));
  } where
    either : (at : ℕ) (a b : Bool) → (a ≡ true → IsUndoPageOf books.bigblocks at) → (b ≡ true → IsUndoPageOf books.bigblocks at)
        → (a || b) ≡ true → IsUndoPageOf books.bigblocks at
    either at true b first second is = first refl
    either at false b first second is = second is

  pub volume_dropped : IsUndone old new → IsSome (heap_of old disk books).pages.begin → IsOfVolume (heap_of new disk books')
  unfolding heap_of
  volume_dropped drops opened = record {
    only = with_size new.current (by_begin old.begin drops.current kept.begun opened);
    begun = subst (λ (o : Option PageMap). IfSome o (AreOnlyOf books'.bigblocks)) (sym drops.begin) tt;
    placed = placed_now drops.flush.frozen_group drops.call (λ at changed. kept.placed.group at
        (ap (λ (s : ChangeSet). s.changed at) (sym drops.group) ∙ changed));
  } where
    by_begin : (o : Option PageMap) → Some new.current ≡ o → IfSome o (AreOnlyOf books.bigblocks) → IsSome o → AreOnlyOf books.bigblocks new.current
    by_begin None is begun none = absurd (true≢false (sym none))
    by_begin (Some begin) is begun some = subst (λ (o : Option PageMap). IfSome o (AreOnlyOf books.bigblocks)) (sym is) begun

-- Whether a page is one of layer 2 can be decided, so that what is known of the pages is known of each.
dec_page : (at n : ℕ) → Dec (IsPageOf n at)
dec_page at zero = no (λ h. let low = h.1 in absurd (omega (arith, low)))
dec_page at (suc n) = more (dec_or (ℕ_discrete at (page_of n)) (dec_page at n)) where
  more : Dec ((at ≡ page_of n) ⊎ IsPageOf n at) → Dec (IsPageOf (suc n) at)
  more (yes (inl here)) = yes (n, omega arith, here)
  more (yes (inr below)) = yes (below.0, (let low = below.1 in omega (arith, low)), below.2)
  more (no not) = no (λ h. ⊎_elim
      (λ (last : h.0 ≡ n). not (inl (h.2 ∙ ap page_of last)))
      (λ other. not (inr (h.0, (let low = h.1 in omega (arith, low, other)), h.2)))
      (cases_eq h.0 n))

stable : {P : Type 0} → Dec P → ∥ P ∥₁ → P
stable (yes p) known = p
stable (no not) known = absurd (∥∥₁_elim known (hlevel props) not)

pub volume_only : (h : Heap) → ∥ IsOfVolume h ∥₁ → AreOfVolume h
volume_only h kept at there =
    stable (dec_or (ℕ_discrete (zone_of at) TREE_ZONE) (dec_page at h.bigblocks)) (∥∥₁_map kept (λ (k : IsOfVolume h). k.only at there))

pub volume_placed : (h : Heap) → ∥ IsOfVolume h ∥₁ → ArePlaced h.bigblocks h.pages
volume_placed h kept = record {
  call = λ at changed. stable (dec_place h.bigblocks at) (∥∥₁_map kept (λ (k : IsOfVolume h). k.placed.call at changed));
  group = λ at changed. stable (dec_place h.bigblocks at) (∥∥₁_map kept (λ (k : IsOfVolume h). k.placed.group at changed));
  frozen = λ i low. stable (dec_place h.bigblocks (slice_index h.pages.frozen_group i)) (∥∥₁_map kept (λ (k : IsOfVolume h). k.placed.frozen i low));
}

-- A stage of a flush over a space between two calls.
use Rattle.std.proofs.Common.{◌≡◌, Bool, true, false, true≢false, ℕ, ◌*◌, ◌≤◌, Option, Result, Ok, Err, sym, ap, subst, ◌∙◌, is_some, length}
use Rattle.std.specs.Prelude.{◌&&◌, IfSome, IsTrue, slice_index}
use Rattle.hm_types.specs.Told.{BothTell}
use Rattle.hm_types.specs.declared.fault.Fault.{Fault}
use Rattle.hm_types.specs.declared.limits.TheConstants.{BIGBLOCK_BYTES}
use Rattle.hm_disk.specs.Crash.{Told}
use Rattle.hm_disk.specs.Moments.{LeftSince}
use Rattle.hm_disk.proofs.DiskLemmas.{IfSome-then}
use Rattle.hm_fields.specs.Pages.{PageMap}
use Rattle.hm_header.specs.declared.header.Header.{Header}
use Rattle.hm_undo.specs.Entry.{IsUndoPageOf}
use Rattle.hm_freemap.specs.Places.{HasLayer2, page_of}
use Rattle.hm_pages.specs.Sets.{ChangeSet, in_freemap}
use Rattle.hm_pages.specs.Sound.{IsSound}
use Rattle.hm_pages.specs.Store.{Store, layer2}
use Rattle.hm_flush.specs.declared.change.Change.TheVariants.{Close, Write, Open}
use Rattle.hm_flush.specs.declared.flush.Flush.{Flush}
use Rattle.hm_flush.specs.declared.flush.Position.{Position}
use Rattle.hm_flush.specs.declared.flush.Position.TheVariants.{Idle, Undoing, Arming, Placing, Committing}
use Rattle.hm_flush.specs.declared.stage.Stage.{Stage}
use Rattle.hm_flush.specs.Calls.{FlushStands, IsFlushReady, PagesMove}
use Rattle.hm_flush.specs.Ends.{StageEnds, StageTells}
use Rattle.hm_stored.specs.Flushed.{IsFlushedBy}
use Rattle.hm_stored.specs.Heap.{Heap, heap_of}
use Rattle.hm_stored.specs.Held.{AreNodes, AreOnlyOf, ArePlaced, IsKept, IsOfVolume}
use Rattle.hm_stored.specs.declared.books.Books.{Books}
use Rattle.hm_stored.specs.declared.roots.Roots.{Roots}
use Rattle.hm_stored.proofs.SpotLemmas.{none_changed}
use Rattle.hm_stored.proofs.TurnLemmas.{kept_closed, layer2_kept}
use Rattle.hm_stored.proofs.VolumeLemmas.{volume_placed}

-- ---- the pages

-- what calls see of the pages stays, and the group has no more of them
record SeesSame (s s' : Store) : Type 0 where
  current : s'.current ≡ s.current
  call : s'.call ≡ s.call
  group : (at : ℕ) → s'.group.changed at ≡ true → s.group.changed at ≡ true

sees_same : (s s' : Store) → s' ≡ s → SeesSame s s'
sees_same s s' same = record {
  current = ap (λ (x : Store). x.current) same;
  call = ap (λ (x : Store). x.call) same;
  group = λ at changed. ap (λ (x : Store). x.group.changed at) (sym same) ∙ changed;
}

sees_moved : (p : Position) (now : Header) (s s' : Store) → PagesMove p now s s' → SeesSame s s'
sees_moved Idle now s s' move = record {
  current = move.current;
  call = move.call.0;
  group = λ at changed. absurd (true≢false (sym changed ∙ ap (λ (set : ChangeSet). set.changed at) move.group));
}
sees_moved (Undoing from) now s s' move = sees_same s s' move
sees_moved (Arming change) now s s' move = sees_same s s' move
sees_moved (Placing i) now s s' move = sees_same s s' move
sees_moved (Committing Close) now s s' move = sees_same s s' move
sees_moved (Committing Write) now s s' move = sees_same s s' move
sees_moved (Committing (Open tried)) now s s' move = record {
  current = move.current;
  call = move.call.0;
  group = λ at changed. ap (λ (set : ChangeSet). set.changed at) (sym move.group) ∙ changed;
}

layer2_same : (bigblocks : ℕ) (s s' : Store) → s' ≡ s → HasLayer2 bigblocks (layer2 s) → HasLayer2 bigblocks (layer2 s')
layer2_same bigblocks s s' same there = layer2_kept s s' bigblocks (ap (λ (x : Store). x.committed) same) there

-- a page of layer 2 is frozen too
layer2_frozen : (s : Store) (at : ℕ) → IsSound s → layer2 s at ≡ true → (in_freemap at && is_some (s.frozen at)) ≡ true
layer2_frozen s at sound there = both (in_freemap at) (is_some (s.committed at)) (is_some (s.frozen at)) there (sound.layer2 at there).0 where
  both : (a b c : Bool) → (a && b) ≡ true → c ≡ true → (a && c) ≡ true
  both true b c first second = second
  both false b c first second = first

layer2_moved : (p : Position) (now : Header) (bigblocks : ℕ) (s s' : Store) → IsSound s → PagesMove p now s s' → HasLayer2 bigblocks (layer2 s)
    → HasLayer2 bigblocks (layer2 s')
layer2_moved Idle now bigblocks s s' sound move there = layer2_kept s s' bigblocks move.committed there
layer2_moved (Undoing from) now bigblocks s s' sound move there = layer2_same bigblocks s s' move there
layer2_moved (Arming change) now bigblocks s s' sound move there = layer2_same bigblocks s s' move there
layer2_moved (Placing i) now bigblocks s s' sound move there = layer2_same bigblocks s s' move there
layer2_moved (Committing Close) now bigblocks s s' sound move there = layer2_same bigblocks s s' move there
layer2_moved (Committing Write) now bigblocks s s' sound move there = layer2_same bigblocks s s' move there
layer2_moved (Committing (Open tried)) now bigblocks s s' sound move there = λ block low.
    subst (λ (m : PageMap). IsTrue (in_freemap (page_of block) && is_some (m (page_of block)))) (sym move.committed)
    (layer2_frozen s (page_of block) sound (there block low))

-- ---- a stage, which may have failed

module _ (now : Header) (f f' : Flush) (s s' : Store) where
  ready_then : (result : Result Stage Fault) → StageEnds now f f' s s' result → IsFlushReady f' s'
  ready_then (Ok stage) ends = ends.ready
  ready_then (Err fault) ends = ends.ready

  size_then : (result : Result Stage Fault) → StageEnds now f f' s s' result → f'.header.bigblocks ≡ f.header.bigblocks
  size_then (Ok stage) ends = ends.volume
  size_then (Err fault) ends = ends.volume

  sees_then : (result : Result Stage Fault) → StageEnds now f f' s s' result → SeesSame s s'
  sees_then (Ok stage) ends = sees_moved f.at now s s' ends.store
  sees_then (Err fault) ends = sees_same s s' ends.store

  pub current_then : (result : Result Stage Fault) → StageEnds now f f' s s' result → s'.current ≡ s.current
  current_then result ends = (sees_then result ends).current

  pub layer2_then : (result : Result Stage Fault) → StageEnds now f f' s s' result → (bigblocks : ℕ) → IsSound s → HasLayer2 bigblocks (layer2 s)
      → HasLayer2 bigblocks (layer2 s')
  layer2_then (Ok stage) ends bigblocks sound there = layer2_moved f.at now bigblocks s s' sound ends.store there
  layer2_then (Err fault) ends bigblocks sound there = layer2_same bigblocks s s' ends.store there

-- the disk keeps its length
sized : (n : ℕ) (f f' : Flush) (s s' : Store) (result : Result Stage Fault) (past since : LeftSince) (disk disk' : Option Told)
    → IfSome disk (λ (t : Told). n ≤ length t.bytes) → BothTell disk disk' (StageTells f f' s s' result past since)
    → IfSome disk' (λ (t : Told). n ≤ length t.bytes)
sized n f f' s s' result past since disk disk' was tells =
    IfSome-then disk disk' (λ (t : Told). n ≤ length t.bytes) (λ (t : Told). n ≤ length t.bytes) (StageTells f f' s s' result past since)
    (λ a b here told. subst (λ (size : ℕ). n ≤ size) (sym told.any_moment.size) here) was tells

-- what a stage asks for
ready_placed : (f : Flush) (h : Heap) → IsFlushedBy f h → ArePlaced h.bigblocks h.pages → IsFlushReady f h.pages
ready_placed f h by placed = record {
  closed = by.closed.begin;
  group = by.group;
  placed = record {
    current = λ at changed there. subst (λ (n : ℕ). IsUndoPageOf n at) (sym by.bigblocks) (placed.group at changed);
    frozen = λ i low. subst (λ (n : ℕ). IsUndoPageOf n (slice_index h.pages.frozen_group i)) (sym by.bigblocks) (placed.frozen i low);
  };
}

pub ready_for : (f : Flush) (h : Heap) → IsFlushedBy f h → ∥ IsOfVolume h ∥₁ → IsFlushReady f h.pages
ready_for f h by kept = ready_placed f h by (volume_placed h kept)

-- what the next one asks for
pub flushed_by : (now : Header) (f f' : Flush) (h : Heap) (pages : Store) (disk : Option Told) (roots : Roots) (result : Result Stage Fault)
    → StageEnds now f f' h.pages pages result → IsFlushedBy f h → IfSome disk (FlushStands f')
    → IsFlushedBy f' (record h { pages = pages; disk = disk; roots = roots })
flushed_by now f f' h pages disk roots result ends by stands =
    let ready = ready_then now f f' h.pages pages result ends in
    record {
      closed = record { begin = ready.closed; whole = by.closed.whole };
      bigblocks = size_then now f f' h.pages pages result ends ∙ by.bigblocks;
      group = ready.group;
      stands = stands;
    }

-- what it leaves, of a space of these books, of which the roots alone may have moved
module _ (now : Header) (f f' : Flush) (s s' : Store) (disk disk' : Option Told) (books books' : Books) (result : Result Stage Fault)
    (ends : StageEnds now f f' s s' result) (by : IsFlushedBy f (heap_of s disk books)) (sound : IsSound s) (size : books'.bigblocks ≡ books.bigblocks) where
  ready : IsFlushReady f' s'
  ready = ready_then now f f' s s' result ends

  sees : SeesSame s s'
  sees = sees_then now f f' s s' result ends

  bigblocks_are : f'.header.bigblocks ≡ books.bigblocks
  unfolding heap_of
  bigblocks_are = size_then now f f' s s' result ends ∙ by.bigblocks

  pub flushed_kept : (past since : LeftSince) → BothTell disk disk' (StageTells f f' s s' result past since) → IsKept (heap_of s disk books)
      → IsKept (heap_of s' disk' books')
  unfolding heap_of
  flushed_kept past since tells kept =
      kept_closed (heap_of s' disk' books') ready.closed
      (subst AreNodes (sym sees.current) (kept.nodes by.closed.whole))
      (subst (λ (n : ℕ). IfSome disk' (λ (t : Told). n * BIGBLOCK_BYTES ≤ length t.bytes)) (sym size)
      (sized (books.bigblocks * BIGBLOCK_BYTES) f f' s s' result past since disk disk' kept.size tells))

  placed_then : ArePlaced books.bigblocks s → ArePlaced books.bigblocks s'
  unfolding heap_of
  placed_then placed = record {
    call = none_changed books.bigblocks s'.call (sees.call ∙ (sound.closed by.closed.begin).0);
    group = λ at changed. placed.group at (sees.group at changed);
    frozen = λ i low. subst (λ (n : ℕ). IsUndoPageOf n (slice_index s'.frozen_group i)) bigblocks_are (ready.placed.frozen i low);
  }

  pub flushed_volume : IsOfVolume (heap_of s disk books) → IsOfVolume (heap_of s' disk' books')
  unfolding heap_of
  flushed_volume kept = record {
    only = subst (λ (n : ℕ). AreOnlyOf n s'.current) (sym size) (subst (AreOnlyOf books.bigblocks) (sym sees.current) kept.only);
    begun = subst (λ (o : Option PageMap). IfSome o (AreOnlyOf books'.bigblocks)) (sym ready.closed) tt;
    placed = subst (λ (n : ℕ). ArePlaced n s') (sym size) (placed_then kept.placed);
  }

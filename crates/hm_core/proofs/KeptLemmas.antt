-- A call leaves what a flush holds, as reads give it and as a crash may leave it.
use Rattle.std.proofs.Common.{◌≡◌, Option, None, Some, length, refl, sym, ap, subst, ◌∙◌}
use Rattle.std.specs.Prelude.{IfSome, IsSome, option_map}
use Rattle.hm_types.specs.Told.{BothTell}
use Rattle.hm_disk.specs.Crash.{Told}
use Rattle.hm_flush.specs.declared.flush.Flush.{Flush}
use Rattle.hm_flush.specs.Calls.{FlushStands}
use Rattle.hm_flush.specs.Ends.{as_read}
use Rattle.hm_flush.proofs.KeptLemmas.{stands-still-there}
use Rattle.hm_model.specs.Volume.{Volume}
use Rattle.hm_pages.specs.Calls.{IsSameFlush}
use Rattle.hm_stored.specs.Heap.{Frame, Heap, begun_content, frame_of}
use Rattle.hm_state.specs.Flushing.{HoldsFlush}
use Rattle.hm_state.proofs.CommittedLemmas.{slots_same}
use Rattle.hm_state.proofs.FlushKeptLemmas.{holds_same_flush, read_kept, told_kept}
use Rattle.hm_core.specs.Answer.{KeepsFlush}

-- a fact of what is told, where it follows from another one
pub if_told : {P Q : Told → Type 0} (o : Option Told) → ((t : Told) → P t → Q t) → IfSome o P → IfSome o Q
if_told None step is = tt
if_told (Some t) step is = step t is

-- two spaces on one disk, with the same state committed and frozen
pub record IsSameBeside (h h' : Heap) : Type 0 where
  pub bigblocks : h'.bigblocks ≡ h.bigblocks
  pub disk : h'.disk ≡ h.disk
  pub pages : IsSameFlush h.pages h'.pages
  pub committed : h'.roots.committed ≡ h.roots.committed
  pub frozen : h'.roots.frozen ≡ h.roots.frozen

module _ (h h' : Heap) (same : IsSameBeside h h') where
  pub held_same : (f : Flush) (committed frozen : Volume) (view : Told → Told) → IfSome h.disk (λ t. HoldsFlush f h (view t) committed frozen)
      → IfSome h'.disk (λ t. HoldsFlush f h' (view t) committed frozen)
  held_same f committed frozen view held =
      subst (λ (d : Option Told). IfSome d (λ t. HoldsFlush f h' (view t) committed frozen)) (sym same.disk)
      (if_told h.disk (λ t. holds_same_flush f h h' (view t) committed frozen same.pages same.bigblocks same.committed same.frozen) held)

  pub kept_same : {Known : Type 0} → KeepsFlush Known h h'
  kept_same = record {
    bigblocks = same.bigblocks;
    pages = same.pages;
    stands = λ f on. subst (λ (d : Option Told). IfSome d (FlushStands f)) (sym same.disk) on;
    read = λ known f committed frozen. held_same f committed frozen as_read;
    guarded = λ known f committed frozen. held_same f committed frozen (λ t. t);
  }

-- the changes of a call leave it, since it is in the frame
module _ (a b : Heap) (frame : frame_of b ≡ frame_of a) where
  -- what holds of what is told before holds of what is told after
  framed_told : (P Q : Told → Type 0) → ((s t : Told) → a.disk ≡ Some s → b.disk ≡ Some t → P s → Q t) → IfSome a.disk P → IfSome b.disk Q
  framed_told P Q step = by a.disk b.disk refl refl (ap (λ (f : Frame). f.size) frame) where
    by : (o n : Option Told) → a.disk ≡ o → b.disk ≡ n
        → option_map (λ (t : Told). length t.bytes) n ≡ option_map (λ (t : Told). length t.bytes) o → IfSome o P → IfSome n Q
    by o None was is size on = tt
    by None (Some t) was is size on = absurd cc
    by (Some s) (Some t) was is size on = step s t was is on

  -- both tell, or neither does
  pub framed_both : (R : Told → Told → Type 0) → ((s t : Told) → a.disk ≡ Some s → b.disk ≡ Some t → R s t) → BothTell a.disk b.disk R
  framed_both R step = by a.disk b.disk refl refl (ap (λ (f : Frame). f.size) frame) where
    by : (o n : Option Told) → a.disk ≡ o → b.disk ≡ n
        → option_map (λ (t : Told). length t.bytes) n ≡ option_map (λ (t : Told). length t.bytes) o → BothTell o n R
    by None None was is size = tt
    by None (Some t) was is size = absurd cc
    by (Some s) None was is size = absurd cc
    by (Some s) (Some t) was is size = step s t was is

  pub kept_framed : KeepsFlush (IsSome (begun_content a)) a b
  kept_framed = record {
    bigblocks = ap (λ (f : Frame). f.bigblocks) frame;
    pages = record {
      committed = ap (λ (f : Frame). f.pages.committed) frame;
      frozen = ap (λ (f : Frame). f.pages.frozen) frame;
      frozen_group = ap (λ (f : Frame). f.pages.frozen_group) frame;
      boundary = ap (λ (f : Frame). f.pages.boundary) frame;
    };
    stands = λ f. framed_told (FlushStands f) (FlushStands f)
        (λ s t was is. stands-still-there f s t (slots_same a b frame s t was is));
    read = λ known f committed frozen.
        framed_told (λ s. HoldsFlush f a (as_read s) committed frozen) (λ t. HoldsFlush f b (as_read t) committed frozen)
        (λ s t was is. read_kept f a b s t committed frozen frame was is known);
    guarded = λ known f committed frozen.
        framed_told (λ s. HoldsFlush f a s committed frozen) (λ t. HoldsFlush f b t committed frozen)
        (λ s t was is. told_kept f a b s t committed frozen frame was is known);
  }

-- one after the other
pub kept_then : {K L : Type 0} (a b c : Heap) → (K → L) → KeepsFlush K a b → KeepsFlush L b c → KeepsFlush K a c
kept_then a b c more first second = record {
  bigblocks = second.bigblocks ∙ first.bigblocks;
  pages = record {
    committed = second.pages.committed ∙ first.pages.committed;
    frozen = second.pages.frozen ∙ first.pages.frozen;
    frozen_group = second.pages.frozen_group ∙ first.pages.frozen_group;
    boundary = second.pages.boundary ∙ first.pages.boundary;
  };
  stands = λ f on. second.stands f (first.stands f on);
  read = λ known f committed frozen held. second.read (more known) f committed frozen (first.read known f committed frozen held);
  guarded = λ known f committed frozen held. second.guarded (more known) f committed frozen (first.guarded known f committed frozen held);
}

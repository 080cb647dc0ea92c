-- The root of a store stands where the next header may name it.
use Rattle.std.proofs.Common.{◌≡◌, Bool, true, false, true≢false, ℕ, Option, None, sym, ap, subst, ◌∙◌, is_some}
use Rattle.std.specs.Prelude.{IsSome}
use Rattle.hm_fields.specs.Pages.{PageMap}
use Rattle.hm_header.specs.Range.{IsRoot}
use Rattle.hm_pages.specs.Store.{Frame as PagesFrame}
use Rattle.hm_stored.specs.Heap.{Frame, Heap, frame_of}
use Rattle.hm_stored.specs.Held.{IsRooted}
use Rattle.hm_stored.specs.Turn.{IsClosed, IsDropped, IsEnded, IsKeepable, IsKeptOf, IsOpened, LooksSame}

-- ---- as no call is opened or closed

module _ (opened : Bool) (old new : Heap) (root : ℕ) (begin : new.pages.begin ≡ old.pages.begin) (size : new.bigblocks ≡ old.bigblocks)
    (roots : new.roots ≡ old.roots) (rooted : IsRooted opened old root) where
  stays_open : is_some new.pages.begin ≡ opened
  stays_open = ap (λ (o : Option PageMap). is_some o) begin ∙ rooted.opened_is

  stays_begun : opened ≡ true → IsRoot new.bigblocks new.roots.current
  stays_begun is = subst (λ (n : ℕ). IsRoot n new.roots.current) (sym size)
      (subst (λ r. IsRoot old.bigblocks r.current) (sym roots) (rooted.begun is))

  same_root : IsRooted opened new root
  same_root = record { opened_is = stays_open; root_is = λ is. subst (λ (n : ℕ). IsRoot n root) (sym size) (rooted.root_is is); begun = stays_begun }

  any_root : (next : ℕ) → opened ≡ true → IsRooted opened new next
  any_root next is = record { opened_is = stays_open; root_is = λ not. absurd (true≢false (sym is ∙ not)); begun = stays_begun }

-- where the frame stays, and the root does, or a call is open
pub rooted_frame : (opened : Bool) (old new : Heap) (root : ℕ) → frame_of new ≡ frame_of old → IsRooted opened old root → IsRooted opened new root
rooted_frame opened old new root same = same_root opened old new root (ap (λ (f : Frame). f.pages.begin) same) (ap (λ (f : Frame). f.bigblocks) same)
    (ap (λ (f : Frame). f.roots) same)

-- where it stayed over a change, which then ended
pub rooted_ended : (opened : Bool) (old mid new : Heap) (root : ℕ) (done : Bool) → frame_of mid ≡ frame_of old → IsEnded done mid new
    → IsRooted opened old root → IsRooted opened new root
rooted_ended opened old mid new root done same ends = rooted_frame opened old new root (ap frame_of ends ∙ same)

pub rooted_moved : (opened : Bool) (old new : Heap) (root next : ℕ) → frame_of new ≡ frame_of old → opened ≡ true → IsRooted opened old root
    → IsRooted opened new next
rooted_moved opened old new root next same is rooted = any_root opened old new root (ap (λ (f : Frame). f.pages.begin) same)
    (ap (λ (f : Frame). f.bigblocks) same) (ap (λ (f : Frame). f.roots) same) rooted next is

pub rooted_look : (opened : Bool) (old new : Heap) (root : ℕ) → LooksSame old new → IsRooted opened old root → IsRooted opened new root
rooted_look opened old new root looks = same_root opened old new root (ap (λ (f : PagesFrame). f.begin) looks.pages)
    (ap (λ (h : Heap). h.bigblocks) looks.rest) (ap (λ (h : Heap). h.roots) looks.rest)

-- ---- as one is

none_open : (o : Option PageMap) → o ≡ None → is_some o ≡ false
none_open o none = ap (λ (p : Option PageMap). is_some p) none

pub rooted_over : (h : Heap) (root : ℕ) → IsClosed h → IsRoot h.bigblocks root → IsRooted false h root
rooted_over h root closed is = record {
  opened_is = none_open h.pages.begin closed.begin;
  root_is = λ _. is;
  begun = λ is. absurd (true≢false (sym is));
}

-- what the type of a store tells where no call is open
pub closed_root : (opened : Bool) (h : Heap) (root : ℕ) → IsRooted opened h root → h.pages.begin ≡ None → IsRoot h.bigblocks root
closed_root opened h root rooted none = rooted.root_is (sym rooted.opened_is ∙ none_open h.pages.begin none)

pub rooted_begun : (was : Bool) (old new : Heap) (root last : ℕ) → IsClosed old → IsOpened root last old new → IsRooted was old root
    → IsRooted true new root
rooted_begun was old new root last closed opens rooted =
    let is = closed_root was old root rooted closed.begin in
    let size : new.bigblocks ≡ old.bigblocks = ap (λ (h : Heap). h.bigblocks) opens.rest in
    let current : new.roots.current ≡ root = ap (λ (h : Heap). h.roots.current) opens.rest in
    record {
      opened_is = ap (λ (o : Option PageMap). is_some o) opens.pages.begin;
      root_is = λ not. absurd (true≢false not);
      begun = λ _. subst (λ (n : ℕ). IsRoot n new.roots.current) (sym size) (subst (IsRoot old.bigblocks) (sym current) is);
    }

pub rooted_kept : (old new : Heap) (root : ℕ) → IsKeptOf old new → IsKeepable old root → IsRooted false new root
rooted_kept old new root keeps keepable = record {
  opened_is = none_open new.pages.begin keeps.pages.begin;
  root_is = λ _. subst (λ (n : ℕ). IsRoot n root) (sym (ap (λ (h : Heap). h.bigblocks) keeps.rest)) keepable.root_is;
  begun = λ is. absurd (true≢false (sym is));
}

pub rooted_dropped : (was : Bool) (old new : Heap) (root : ℕ) → IsSome old.pages.begin → IsDropped old new → IsRooted was old root
    → IsRooted false new new.roots.current
rooted_dropped was old new root some drops rooted = record {
  opened_is = none_open new.pages.begin drops.pages.begin;
  root_is = λ _. subst (λ (n : ℕ). IsRoot n new.roots.current) (sym (ap (λ (h : Heap). h.bigblocks) drops.rest))
      (subst (IsRoot old.bigblocks) (sym (ap (λ (h : Heap). h.roots.current) drops.rest)) (rooted.begun (sym rooted.opened_is ∙ some)));
  begun = λ is. absurd (true≢false (sym is));
}

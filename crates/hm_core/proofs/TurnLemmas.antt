-- A call that is opened over a space, and closed: what it tells as it begins, and what stays however it ends.
use Rattle.std.proofs.Common.{◌≡◌, inl, inr, ⊎_elim, ℕ, ◌+◌, ◌*◌, ◌/◌, ◌≤◌, Bool, true, List, Option, None, Some}
use Rattle.std.proofs.Common.{IsTrue, false, refl, sym, ap, subst, ◌∙◌, arith, cond, map}
use Rattle.std.specs.Prelude.{IfSome, IsSome}
use Rattle.hm_types.specs.Elements.{FullElement}
use Rattle.hm_types.specs.Space.{reserve_of}
use Rattle.hm_types.specs.Told.{BothTell}
use Rattle.hm_disk.specs.Crash.{Told}
use Rattle.hm_btree.specs.Tree.{told_elements}
use Rattle.hm_fields.specs.Pages.{PageMap}
use Rattle.hm_key.specs.Balance.{Balanced, IsBalanced, content_of}
use Rattle.hm_calls.specs.Known.{AreKnown, AreOlderOrSlaves}
use Rattle.hm_cursor.specs.Told.{Lists, fulls}
use Rattle.hm_model.specs.Volume.{Volume}
use Rattle.hm_state.specs.Live.{KeepsLiveBut, NoByte}
use Rattle.hm_state.specs.Volume.{HoldsVolume}
use Rattle.hm_state.proofs.LiveLemmas.{calls_keep_live}
use Rattle.hm_stored.specs.Content.{HaveContent, OpensContent}
use Rattle.hm_stored.specs.Basis.{nodes}
use Rattle.hm_stored.specs.Heap.{Frame, Heap, bytes_of, begun_content, does_tell, extents_in, frame_of, free_of, pages_of, places_in, room_of}
use Rattle.hm_stored.specs.Log.{filled}
use Rattle.hm_stored.specs.Held.{IsKept}
use Rattle.hm_stored.specs.Known.{is_known}
use Rattle.hm_stored.specs.Standing.{Holds}
use Rattle.hm_stored.specs.Turn.{IsClosed, IsDropped, IsKeptOf, IsOpened}
use Rattle.hm_stored.proofs.KnownLemmas.{known_each}
use Rattle.hm_stored.proofs.OpenedLemmas.{opens_content, told_held}
use Rattle.hm_core.specs.Answer.{KeepsFlush}
use Rattle.hm_core.specs.Ledger.{IsPaid, calls_in}
use Rattle.hm_core.specs.Live.{KeepsLiveOver}
use Rattle.hm_core.specs.Told.{HoldsSame, TellsHeld}
use Rattle.hm_core.proofs.KeptLemmas.{IsSameBeside, framed_both, kept_framed, kept_same, kept_then}
use Rattle.hm_core.proofs.OpenLemmas.{dropped_holds, held_known, opened_tells}

-- the free big-blocks and the room of two spaces with the same maps
pub free_same : (a b : Heap) → b.whole ≡ a.whole → b.bigblocks ≡ a.bigblocks → b.append ≡ a.append → b.pages.committed ≡ a.pages.committed
    → b.pages.frozen ≡ a.pages.frozen → b.pages.current ≡ a.pages.current → free_of b ≡ free_of a
free_same a b = by b.whole b.bigblocks b.append b.pages.committed b.pages.frozen b.pages.current where
  by : (w : Bool) (n : ℕ) (l : List ℕ) (c f u : PageMap) → w ≡ a.whole → n ≡ a.bigblocks → l ≡ a.append → c ≡ a.pages.committed
      → f ≡ a.pages.frozen → u ≡ a.pages.current
      → free_of (record b { whole = w; bigblocks = n; append = l; pages = record b.pages { committed = c; frozen = f; current = u } }) ≡ free_of a
  by w n l c f u first second third fourth fifth sixth = rw (first, second, third, fourth, fifth, sixth) refl

pub room_same : (a b : Heap) → b.whole ≡ a.whole → b.append ≡ a.append → b.pages.current ≡ a.pages.current → (zone : ℕ) → room_of b zone ≡ room_of a zone
room_same a b first second third zone = by b.whole b.append b.pages.current first second third where
  by : (w : Bool) (l : List ℕ) (u : PageMap) → w ≡ a.whole → l ≡ a.append → u ≡ a.pages.current
      → room_of (record b { whole = w; append = l; pages = record b.pages { current = u } }) zone ≡ room_of a zone
  by w l u first second third = rw (first, second, third) refl

if_some : {A : Type 0} {P Q : A → Type 0} (o : Option A) → ((x : A) → P x → Q x) → IfSome o P → IfSome o Q
if_some None step is = tt
if_some (Some x) step is = step x is

-- ids that are known are so to the calls
older : (last : ℕ) (es : List FullElement) → IsTrue (is_known last es) → AreOlderOrSlaves (last + 1) es
older last es known pfs = ⊎_elim (λ slave. inl slave) (λ drawn. inr (λ x there of_pfs. let is = drawn x there of_pfs in record {
  made = is.0;
  closed = is.1;
})) (known_each last es known pfs)

-- a call was opened over a space, by the tree from a root on
module _ (h h1 : Heap) (root root1 last : ℕ) (closed : IsClosed h) (kept : ∥ IsKept h ∥₁) (opens : IsOpened root last h h1) (same : root1 ≡ root) where
  content : OpensContent root last h h1
  content = opens_content h h1 root last closed kept opens

  -- what it tells was held
  each_told : (P : Lists → Type 0)
      → ((es : List FullElement) → IsTrue (is_known last es) → (lists : Lists) → HaveContent es lists.0 lists.1 → P lists)
      → IfSome (content_of (told_elements true (pages_of h1) root1) (extents_in h1)) P
  each_told P shows = subst (λ (n : ℕ). IfSome (content_of (told_elements true (pages_of h1) n) (extents_in h1)) P) (sym same)
      (of_told h1 root P (λ told.
      let held = told_held h h1 root last closed kept opens told in
      if_some (content_of (told_elements true (pages_of h1) root) (extents_in h1)) (shows held.0 held.2) (content held.0 held.1 held.2).lists)) where
        of_told : (h : Heap) (root : ℕ) (P : Lists → Type 0)
            → (IsTrue (does_tell h) → IfSome (content_of (told_elements true (pages_of h) root) (extents_in h)) P)
            → IfSome (content_of (told_elements true (pages_of h) root) (extents_in h)) P
        of_told h root P told = by (does_tell h) refl told where
          by : (t : Bool) → does_tell h ≡ t → (IsTrue t → IfSome (content_of (told_elements true (pages_of h) root) (extents_in h)) P)
              → IfSome (content_of (told_elements true (pages_of h) root) (extents_in h)) P
          by true is told = told refl
          by false is told = subst (λ (t : Bool). IfSome (content_of (told_elements true (cond t (Some (nodes h.pages.current)) None) root)
              (cond t (Some (map (filled (bytes_of h.disk)) (places_in h))) None)) P) (sym is) tt

  pub balanced_begun : Balanced (told_elements true (pages_of h1) root1) (extents_in h1)
  balanced_begun = each_told (λ lists. IsBalanced lists.0 lists.1) (λ es known lists have. have.balanced)

  pub known_begun : AreKnown (told_elements true (pages_of h1) root1) (extents_in h1) (last + 1)
  known_begun = each_told (λ lists. AreOlderOrSlaves (last + 1) (fulls lists))
      (λ es known lists have. subst (AreOlderOrSlaves (last + 1)) (sym have.fulls) (older last es known))

  pub tells_begun : (volume : Volume) → HoldsVolume h root last volume → TellsHeld (told_elements true (pages_of h1) root1) (extents_in h1) h root
  tells_begun volume holds = subst (λ (n : ℕ). TellsHeld (told_elements true (pages_of h1) n) (extents_in h1) h root) (sym same)
      (opened_tells h root last volume holds h1 content)

  pub free_begun : free_of h1 ≡ free_of h
  free_begun = free_same h h1 (ap (λ (x : Heap). x.whole) opens.rest) (ap (λ (x : Heap). x.bigblocks) opens.rest) (ap (λ (x : Heap). x.append) opens.rest)
      opens.pages.flush.committed opens.pages.flush.frozen opens.pages.current

  pub room_begun : (zone : ℕ) → room_of h1 zone ≡ room_of h zone
  room_begun = room_same h h1 (ap (λ (x : Heap). x.whole) opens.rest) (ap (λ (x : Heap). x.append) opens.rest) opens.pages.current

-- the free big-blocks and the room of one space are paid for where those of another one are, which are the same
pub paid_as : (a b : Heap) (first calls : ℕ) → free_of b ≡ free_of a → ((zone : ℕ) → room_of b zone ≡ room_of a zone)
    → IsPaid first (free_of a) calls (room_of a) → IsPaid first (free_of b) calls (room_of b)
paid_as a b first calls free room paid = record {
  begun = paid.begun;
  filled = λ zone. subst (λ (n : ℕ). paid.begun zone * calls_in zone ≤ calls + n / reserve_of zone) (sym (room zone)) (paid.filled zone);
  paid = subst (λ (n : ℕ). first ≤ n + (paid.begun 8 + paid.begun 9 + paid.begun 10 + paid.begun 11)) (sym free) paid.paid;
}

-- and so they are after a call more
pub paid_later : (first free calls : ℕ) (room : ℕ → ℕ) → IsPaid first free calls room → IsPaid first free (calls + 1) room
paid_later first free calls room paid = record {
  begun = paid.begun;
  filled = λ zone. more (paid.begun zone * calls_in zone) (room zone / reserve_of zone) (paid.filled zone);
  paid = paid.paid;
} where
  more : (a b : ℕ) → a ≤ calls + b → a ≤ calls + 1 + b
  more a b is = omega (arith, is)

-- the open call has begun with the pages that there were
pub begun_there : (h h1 h2 : Heap) (root last : ℕ) → IsOpened root last h h1 → frame_of h2 ≡ frame_of h1 → h2.pages.begin ≡ Some h.pages.current
begun_there h h1 h2 root last opens frame = ap (λ (f : Frame). f.pages.begin) frame ∙ opens.pages.begin

pub begun_some : (h h1 h2 : Heap) (root last : ℕ) → IsOpened root last h h1 → frame_of h2 ≡ frame_of h1 → IsSome h2.pages.begin
begun_some h h1 h2 root last opens frame = subst (λ (o : Option PageMap). IsSome o) (sym (begun_there h h1 h2 root last opens frame)) refl

-- The changes of a call kept the frame of its store, and the call was closed.
module _ (h h1 h2 h' : Heap) (root last : ℕ) (closed : IsClosed h) (kept : ∥ IsKept h ∥₁) (opens : IsOpened root last h h1)
    (frame : frame_of h2 ≡ frame_of h1) where
  begun_beside : IsSameBeside h h1
  begun_beside = record {
    bigblocks = ap (λ (x : Heap). x.bigblocks) opens.rest;
    disk = ap (λ (x : Heap). x.disk) opens.rest;
    pages = opens.pages.flush;
    committed = ap (λ (x : Heap). x.roots.committed) opens.rest;
    frozen = ap (λ (x : Heap). x.roots.frozen) opens.rest;
  }

  -- a space that held a volume tells its content once a call is opened
  content_told : (volume : Volume) × HoldsVolume h root last volume → IsSome (begun_content h1)
  content_told (volume, holds) =
      let known = held_known h root last volume holds holds.elements.0 holds.elements.1 in
      let told = opens_content h h1 root last closed kept opens holds.elements.0 holds.elements.1 known in
      subst (λ (o : Option (List FullElement)). IsSome o) (sym told.content) refl

  -- what a flush holds stays, until the call is closed and as it is
  flush_end : IsSameBeside h2 h' → KeepsFlush ((volume : Volume) × HoldsVolume h root last volume) h h'
  flush_end same =
      kept_then h h1 h' content_told (kept_same h h1 begun_beside)
      (kept_then h1 h2 h' (λ known. known) (kept_framed h1 h2 frame) (kept_same h2 h' same))

  -- no byte that was live is written: those are in the frame
  live_end : h'.disk ≡ h2.disk → KeepsLiveOver NoByte root last h h'
  live_end ends volume holds =
      subst (λ (o : Option Told). BothTell h.disk o (KeepsLiveBut NoByte h root)) (sym ends)
      (subst (λ (o : Option Told). BothTell o h2.disk (KeepsLiveBut NoByte h root)) (ap (λ (x : Heap). x.disk) opens.rest)
      (framed_both h1 h2 frame (KeepsLiveBut NoByte h root)
      (λ s t was is. calls_keep_live h h1 h2 root last opens frame s t was is (content_told (volume, holds)))))

  pub bigblocks_end : h2.bigblocks ≡ h.bigblocks
  bigblocks_end = ap (λ (f : Frame). f.bigblocks) frame ∙ ap (λ (x : Heap). x.bigblocks) opens.rest

  -- it was kept
  module _ (whole : h2.whole ≡ true) (keeps : IsKeptOf h2 h') where
    pub kept_closed : IsClosed h'
    kept_closed = record { begin = keeps.pages.begin; whole = ap (λ (x : Heap). x.whole) keeps.rest ∙ whole }

    pub kept_flush : KeepsFlush ((volume : Volume) × HoldsVolume h root last volume) h h'
    kept_flush = flush_end (record {
      bigblocks = ap (λ (x : Heap). x.bigblocks) keeps.rest;
      disk = ap (λ (x : Heap). x.disk) keeps.rest;
      pages = keeps.pages.flush;
      committed = ap (λ (x : Heap). x.roots.committed) keeps.rest;
      frozen = ap (λ (x : Heap). x.roots.frozen) keeps.rest;
    })

    pub kept_live : KeepsLiveOver NoByte root last h h'
    kept_live = live_end (ap (λ (x : Heap). x.disk) keeps.rest)

    pub kept_size : h'.bigblocks ≡ h.bigblocks
    kept_size = ap (λ (x : Heap). x.bigblocks) keeps.rest ∙ bigblocks_end

    pub kept_paid : (first calls : ℕ) → IsPaid first (free_of h2) calls (room_of h2) → IsPaid first (free_of h') calls (room_of h')
    kept_paid first calls =
        paid_as h2 h' first calls
        (free_same h2 h' (ap (λ (x : Heap). x.whole) keeps.rest) (ap (λ (x : Heap). x.bigblocks) keeps.rest)
        (ap (λ (x : Heap). x.append) keeps.rest) keeps.pages.flush.committed keeps.pages.flush.frozen keeps.pages.current)
        (room_same h2 h' (ap (λ (x : Heap). x.whole) keeps.rest) (ap (λ (x : Heap). x.append) keeps.rest) keeps.pages.current)

  -- it was dropped
  module _ (drops : IsDropped h2 h') where
    current : h2.roots.current ≡ root
    current = ap (λ (f : Frame). f.roots.current) frame ∙ ap (λ (x : Heap). x.roots.current) opens.rest

    append : h'.append ≡ h.append
    append = ap (λ (x : Heap). x.append) drops.rest ∙ (ap (λ (f : Frame). f.begun) frame ∙ ap (λ (x : Heap). x.begun) opens.rest)

    whole_is : h'.whole ≡ h.whole
    whole_is = ap (λ (x : Heap). x.whole) drops.rest ∙ sym closed.whole

    pages_are : h'.pages.current ≡ h.pages.current
    pages_are = by_some h'.pages.current h.pages.current (drops.pages.current ∙ begun_there h h1 h2 root last opens frame) where
      by_some : (m n : PageMap) → Some m ≡ Some n → m ≡ n
      by_some m n same = cc

    pub dropped_size : h'.bigblocks ≡ h.bigblocks
    dropped_size = ap (λ (x : Heap). x.bigblocks) drops.rest ∙ bigblocks_end

    pub dropped_closed : IsClosed h'
    dropped_closed = record { begin = drops.pages.begin; whole = ap (λ (x : Heap). x.whole) drops.rest }

    pub dropped_flush : KeepsFlush ((volume : Volume) × HoldsVolume h root last volume) h h'
    dropped_flush = flush_end (record {
      bigblocks = ap (λ (x : Heap). x.bigblocks) drops.rest;
      disk = ap (λ (x : Heap). x.disk) drops.rest;
      pages = drops.pages.flush;
      committed = ap (λ (x : Heap). x.roots.committed) drops.rest;
      frozen = ap (λ (x : Heap). x.roots.frozen) drops.rest;
    })

    pub dropped_live : KeepsLiveOver NoByte root last h h'
    dropped_live = live_end (ap (λ (x : Heap). x.disk) drops.rest)

    pub dropped_paid : (first calls : ℕ) → IsPaid first (free_of h) calls (room_of h) → IsPaid first (free_of h') calls (room_of h')
    dropped_paid first calls =
        paid_as h h' first calls
        (free_same h h' whole_is dropped_size append
        (drops.pages.flush.committed ∙ (ap (λ (f : Frame). f.pages.committed) frame ∙ opens.pages.flush.committed))
        (drops.pages.flush.frozen ∙ (ap (λ (f : Frame). f.pages.frozen) frame ∙ opens.pages.flush.frozen)) pages_are)
        (room_same h h' whole_is append pages_are)

    -- it holds what it held
    pub dropped_held : (root' : ℕ) → root' ≡ h2.roots.current → IfSome (begun_content h2) (Holds h' root') → (volume : Volume)
        → HoldsVolume h root last volume → HoldsSame h root h' root'
    dropped_held root' is held volume holds =
        subst (λ (n : ℕ). HoldsSame h root h' n) (sym (is ∙ current))
        (dropped_holds h root last volume holds h1 (opens_content h h1 root last closed kept opens) h2 h'
        (ap (λ (f : Frame). f.content) frame) current (subst (λ (n : ℕ). IfSome (begun_content h2) (Holds h' n)) is held))

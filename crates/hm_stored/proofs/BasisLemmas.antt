-- What a space tells stays where the state as its open call began does.
use Rattle.std.proofs.Common.{◌≡◌, Bool, true, false, ℕ, List, Option, Some, None, refl, sym, ap, subst, ◌∙◌, cond, is_some, length, map}
use Rattle.std.specs.Prelude.{IfSome, IsTrue, option_map, ◌&&◌}
use Rattle.hm_types.specs.Elements.{FullElement}
use Rattle.hm_types.specs.References.{Reference}
use Rattle.hm_types.specs.Told.{BothTell}
use Rattle.hm_disk.specs.Crash.{Told}
use Rattle.hm_disk.specs.Disk.{moment_of}
use Rattle.hm_fields.specs.Pages.{PageMap}
use Rattle.hm_key.specs.Extents.{Extent}
use Rattle.std.specs.Option.{MatchOption}
use Rattle.hm_types.specs.declared.id.Id.{Id}
use Rattle.hm_pages.specs.Calls.{IsChanged}
use Rattle.hm_pages.specs.Sets.{ChangeSet, HasChanged}
use Rattle.hm_pages.specs.Store.{Store, Frame as PagesFrame, frame_of as pages_frame}
use Rattle.hm_stored.specs.Basis.{Basis, nodes}
use Rattle.hm_stored.specs.Heap.{Heap, basis_with, bytes_of, begun_content, content_with, does_tell, elements_with, extents_in}
use Rattle.hm_stored.specs.Heap.{fixed_of, frame_of, pages_of, places_in, refs_begun}
use Rattle.hm_stored.specs.Fixed.{fixed_with, refs_with}
use Rattle.hm_stored.specs.Held.{Held, HeldBy}
use Rattle.hm_stored.specs.Log.{after_changes, filled, places_of}
use Rattle.hm_stored.specs.declared.change.Change.{Change}
use Rattle.hm_stored.specs.declared.roots.Roots.{Roots}
use Rattle.hm_stored.proofs.HeldLemmas.{StaysBeside}

-- two heaps with one state as their open call began
pub record SameBasis (h h' : Heap) : Type 0 where
  pub pages : pages_frame h'.pages ≡ pages_frame h.pages
  pub bigblocks : h'.bigblocks ≡ h.bigblocks
  pub begun : h'.begun ≡ h.begun
  pub roots : h'.roots ≡ h.roots
  pub last : h'.last ≡ h.last

module _ (h h' : Heap) (same : SameBasis h h') where
  pub committed_same : h'.pages.committed ≡ h.pages.committed
  committed_same = ap (λ (f : PagesFrame). f.committed) same.pages

  pub frozen_same : h'.pages.frozen ≡ h.pages.frozen
  frozen_same = ap (λ (f : PagesFrame). f.frozen) same.pages

  pub begin_same : h'.pages.begin ≡ h.pages.begin
  begin_same = ap (λ (f : PagesFrame). f.begin) same.pages

  pub basis_same : (begin : PageMap) → basis_with h' begin ≡ basis_with h begin
  basis_same begin = by_parts h'.bigblocks h'.begun h'.pages.committed h'.pages.frozen h'.roots same.bigblocks same.begun committed_same frozen_same
      same.roots where
        by_parts : (n : ℕ) (a : List ℕ) (c f : PageMap) (r : Roots) → n ≡ h.bigblocks → a ≡ h.begun → c ≡ h.pages.committed → f ≡ h.pages.frozen → r ≡ h.roots
            → record { bigblocks = n; append = a; maps = record { committed = c; frozen = f; current = begin }; roots = r } ≡ basis_with h begin
        by_parts n a c f r first second third fourth fifth = rw (first, second, third, fourth, fifth) refl

  pub bases_same : option_map (basis_with h') h'.pages.begin ≡ option_map (basis_with h) h.pages.begin
  bases_same = ap (option_map (basis_with h')) begin_same ∙ by_begin h.pages.begin where
    by_begin : (o : Option PageMap) → option_map (basis_with h') o ≡ option_map (basis_with h) o
    by_begin None = refl
    by_begin (Some begin) = ap Some (basis_same begin)

  pub content_same : h'.disk ≡ h.disk → begun_content h' ≡ begun_content h
  content_same disk =
      ap (λ (n : ℕ). content_with n (option_map (basis_with h') h'.pages.begin) h'.disk) same.last
      ∙ (ap (λ (o : Option Basis). content_with h.last o h'.disk) bases_same ∙ ap (content_with h.last (option_map (basis_with h) h.pages.begin)) disk)

  -- the same bytes are fixed, where as much is told
  pub fixed_told : begun_content h' ≡ begun_content h
      → fixed_of h' ≡ fixed_with h.bigblocks (is_some (begun_content h)) (refs_begun h) h'.disk
  fixed_told content = by_parts h'.bigblocks (begun_content h') (option_map (basis_with h') h'.pages.begin) same.bigblocks content bases_same where
    by_parts : (n : ℕ) (es : Option (List FullElement)) (o : Option Basis) → n ≡ h.bigblocks → es ≡ begun_content h
        → o ≡ option_map (basis_with h) h.pages.begin
        → fixed_with n (is_some es) (refs_with o) h'.disk ≡ fixed_with h.bigblocks (is_some (begun_content h)) (refs_begun h) h'.disk
    by_parts n es o first second third = rw (first, second, third) refl

  pub places_same : h'.log ≡ h.log → places_in h' ≡ places_in h
  places_same log =
      ap (λ (l : List Change). after_changes l (places_of (elements_with (option_map (basis_with h') h'.pages.begin)))) log
      ∙ ap (λ (o : Option Basis). after_changes h.log (places_of (elements_with o))) bases_same

  pub beside : h'.append ≡ h.append → StaysBeside h h'
  beside append = record { committed = committed_same; frozen = frozen_same; bigblocks = same.bigblocks; append = append }

  -- the books stay in order, where each step keeps them so
  pub held_map : (IsTrue (does_tell h') → IsTrue (does_tell h))
      → ((b : Basis) (refs : List Reference) → IsTrue (does_tell h') → HeldBy h b refs → (refs' : List Reference) × HeldBy h' b refs') → Held h → Held h'
  held_map tell step held told = subst (λ (o : Option PageMap). IfSome o (λ begin. (refs : List Reference) × HeldBy h' (basis_with h' begin) refs))
      (sym begin_same)
      (by_begin h.pages.begin (held (tell told))) where
        by_begin : (o : Option PageMap) → IfSome o (λ begin. (refs : List Reference) × HeldBy h (basis_with h begin) refs)
            → IfSome o (λ begin. (refs : List Reference) × HeldBy h' (basis_with h' begin) refs)
        by_begin None is = tt
        by_begin (Some begin) is =
            let next = step (basis_with h begin) is.0 told is.1 in
            (next.0, subst (λ (b : Basis). HeldBy h' b next.0) (sym (basis_same begin)) next.1)

-- whether a space tells depends on its content, and on whether it is whole
pub tell_same : (h h' : Heap) → begun_content h' ≡ begun_content h → h'.whole ≡ h.whole → does_tell h' ≡ does_tell h
tell_same h h' content whole = ap (λ (o : Option (List FullElement)). h'.whole && is_some o) content ∙ ap (λ (t : Bool). t && is_some (begun_content h)) whole

-- what both tell of their nodes
pub both_nodes : (h h' : Heap) (R : PageMap → PageMap → Type 0) → does_tell h' ≡ does_tell h → R (nodes h.pages.current) (nodes h'.pages.current)
    → BothTell (pages_of h) (pages_of h') R
both_nodes h h' R tell is = subst (λ (t : Bool). BothTell (pages_of h) (cond t (Some (nodes h'.pages.current)) None) R) (sym tell)
    (by_test (does_tell h)) where
      by_test : (t : Bool) → BothTell (cond t (Some (nodes h.pages.current)) None) (cond t (Some (nodes h'.pages.current)) None) R
      by_test true = is
      by_test false = tt

-- the extents are the same, where their places and the disk are
pub extents_same : (h h' : Heap) → does_tell h' ≡ does_tell h → bytes_of h'.disk ≡ bytes_of h.disk → places_in h' ≡ places_in h → extents_in h' ≡ extents_in h
extents_same h h' tell bytes places =
    ap (λ (t : Bool). cond t (Some (map (filled (bytes_of h'.disk)) (places_in h'))) None) tell
    ∙ (ap (λ (b : List ℕ). cond (does_tell h) (Some (map (filled b) (places_in h'))) None) bytes
    ∙ ap (λ (xs : List Extent). cond (does_tell h) (Some (map (filled (bytes_of h.disk)) xs)) None) places)

-- the frame is the same, where the disk tells as much, at the same moment, and the same fixed bytes
pub frame_told : (h h' : Heap) → SameBasis h h' → option_map (λ (t : Told). length t.bytes) h'.disk ≡ option_map (λ (t : Told). length t.bytes) h.disk
    → moment_of h'.disk ≡ moment_of h.disk → begun_content h' ≡ begun_content h → fixed_of h' ≡ fixed_of h → frame_of h' ≡ frame_of h
frame_told h h' same size moment content fixed =
    by_parts (pages_frame h'.pages) h'.bigblocks h'.begun h'.roots h'.last (option_map (λ (t : Told). length t.bytes) h'.disk) (moment_of h'.disk)
    (begun_content h') (fixed_of h') same.pages same.bigblocks same.begun same.roots same.last size moment content fixed where
      by_parts : (p : PagesFrame) (n : ℕ) (a : List ℕ) (r : Roots) (l : ℕ) (s m : Option ℕ) (c : Option (List FullElement)) (x : Option (ℕ → Option (ℕ × Bool)))
          → p ≡ pages_frame h.pages → n ≡ h.bigblocks → a ≡ h.begun → r ≡ h.roots → l ≡ h.last → s ≡ option_map (λ (t : Told). length t.bytes) h.disk
          → m ≡ moment_of h.disk → c ≡ begun_content h → x ≡ fixed_of h
          → record { pages = p; bigblocks = n; begun = a; roots = r; last = l; size = s; moment = m; content = c; fixed = x } ≡ frame_of h
      by_parts p n a r l s m c x first second third fourth fifth sixth seventh eighth ninth =
          rw (first, second, third, fourth, fifth, sixth, seventh, eighth, ninth) refl

-- as it is where the disk is the same
pub frame_same : (h h' : Heap) → SameBasis h h' → h'.disk ≡ h.disk → frame_of h' ≡ frame_of h
frame_same h h' same disk =
    frame_told h h' same (ap (option_map (λ (t : Told). length t.bytes)) disk) (ap moment_of disk) (content_same h h' same disk)
    (fixed_told h h' same (content_same h h' same disk)
    ∙ ap (fixed_with h.bigblocks (is_some (begun_content h)) (refs_begun h)) disk)

-- a change of a store of pages leaves its frame
pub changed_frame : (at : ℕ) (page : Option (List ℕ)) (old new : Store) → IsChanged at page old new → pages_frame new ≡ pages_frame old
changed_frame at page old new change =
    by_parts new.committed new.frozen new.frozen_group new.boundary new.begin
    (group_of new) change.flush.committed change.flush.frozen change.flush.frozen_group
    change.flush.boundary change.begin (ap (λ (o : Option PageMap). cond (is_some o)
    (Some new.group) None) change.begin ∙ by_begin old.begin change.sets) where
      group_of : Store → Option ChangeSet
      group_of s = cond (is_some s.begin) (Some s.group) None

      by_begin : (o : Option PageMap)
          → MatchOption o (HasChanged at (old.current at) page old.group new.group × (new.call ≡ old.call))
          (λ _. HasChanged at (old.current at) page old.call new.call × (new.group ≡ old.group))
          → cond (is_some o) (Some new.group) None ≡ cond (is_some o) (Some old.group) None
      by_begin None sets = refl
      by_begin (Some begin) sets = ap Some sets.1

      by_parts : (c f : PageMap) (l : List ℕ) (b : Option Id) (m : Option PageMap) (s : Option ChangeSet)
          → c ≡ old.committed → f ≡ old.frozen → l ≡ old.frozen_group → b ≡ old.boundary → m ≡ old.begin → s ≡ cond (is_some old.begin) (Some old.group) None
          → record { committed = c; frozen = f; frozen_group = l; boundary = b; begin = m; begin_group = s } ≡ pages_frame old
      by_parts c f l b m s first second third fourth fifth sixth = rw (first, second, third, fourth, fifth, sixth) refl

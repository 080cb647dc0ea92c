-- What a unit of a job that was handed in leaves of a store, and what that tells as a call opens over it again.
use Rattle.std.proofs.Common.{◌≡◌, ℕ, ◌+◌, ◌≤◌, Bool, true, false, List, [], ◌∷◌, Option, None, Some, refl, sym, ap, subst, ◌∙◌, arith, cond, map}
use Rattle.std.proofs.Common.{◌%◌, is_some, nat_eq, true≢false}
use Rattle.std.specs.Prelude.{◌&&◌, Err, IfErr, IfSome, IsSome, IsSomeAnd, IsTrue, Ok, OnSome, Result, count_by}
use Rattle.std.specs.List.{AllByRecursion}
use Rattle.std.proofs.Math.Logic.{∥∥₁_elim}
use Rattle.std.proofs.Props.{props}
use Rattle.std.proofs.lemmas.Bool.{eqb-true}
use Rattle.std.proofs.lemmas.List.Elements.{recursion_from_All}
use Rattle.hm_types.specs.Elements.{FullElement}
use Rattle.hm_types.specs.Faults.{IsCaused, IsUndamaged}
use Rattle.hm_types.specs.Offset.{byte_of, zone_of}
use Rattle.hm_types.specs.References.{IsPlaced, Reference, unit_of}
use Rattle.hm_types.specs.Space.{rounded}
use Rattle.hm_types.specs.declared.fault.Fault.{Fault}
use Rattle.hm_types.specs.declared.limits.TheConstants.{PAGE_BYTES}
use Rattle.hm_types.specs.declared.zone.TheConstants.{TREE_ZONE}
use Rattle.hm_fields.specs.Pages.{PageMap}
use Rattle.hm_header.specs.Range.{IsRoot}
use Rattle.hm_btree.specs.Tree.{HoldsTree, IsTreeSpace, told_elements, told_mark}
use Rattle.hm_freemap.specs.Extents.{is_extent, reference}
use Rattle.hm_freemap.proofs.CountLemmas.{bit, count-cons}
use Rattle.hm_freemap.proofs.ListLemmas.{all_left}
use Rattle.hm_image.specs.Image.{bytes_at}
use Rattle.hm_key.specs.Balance.{IsBalanced, LosesDead, Works, content_of, full_elements, keep, lose, none}
use Rattle.hm_key.specs.Extents.{AreExtents, Extent, extent_at}
use Rattle.hm_key.specs.Job.{IfProgress}
use Rattle.hm_key.specs.Marks.{MarksStay}
use Rattle.hm_key.specs.declared.element.Element.{Element}
use Rattle.hm_key.specs.declared.job.Progress.{Progress}
use Rattle.hm_key.specs.declared.job.Progress.TheVariants.{Done, More}
use Rattle.hm_cursor.specs.Told.{Lists}
use Rattle.hm_model.specs.Volume.{Volume}
use Rattle.hm_search.specs.Tree.{elements_of}
use Rattle.hm_image.specs.Referred.{references_of}
use Rattle.hm_stored.specs.Basis.{nodes}
use Rattle.hm_stored.specs.Content.{HaveContent, KeepsContent, TellsContent}
use Rattle.hm_stored.specs.Heap.{Frame, Heap, basis_with, begun_content, bytes_of, does_tell, extents_in, frame_of, pages_of, places_in, room_of}
use Rattle.hm_stored.specs.Held.{HeldBy, IsKept}
use Rattle.hm_stored.specs.Known.{AreKnown}
use Rattle.hm_stored.specs.Log.{filled}
use Rattle.hm_stored.specs.Standing.{Holds}
use Rattle.hm_stored.specs.Turn.{IsClosed, IsDropped, IsKeepable, IsKeptOf, IsOpened}
use Rattle.hm_stored.specs.declared.roots.Roots.{Roots}
use Rattle.hm_stored.proofs.KnownLemmas.{known_each, known_from_each}
use Rattle.hm_stored.proofs.OpenedLemmas.{opens_content, told_held}
use Rattle.hm_stored.proofs.SpotLemmas.{and_left}
use Rattle.hm_state.specs.Volume.{HoldsVolume}
use Rattle.hm_core.specs.Handed.{HasKnown, IsAsBefore, KeepsKnown}
use Rattle.hm_core.specs.Jobs.{FailsWith}
use Rattle.hm_core.specs.State.{CoreState}
use Rattle.hm_core.proofs.ExtentLemmas.{only_extents}
use Rattle.hm_core.proofs.TurnLemmas.{begun_there, kept_closed, room_same}
use Rattle.hm_core.proofs.UnitLemmas.{does_tell_lists, tells_still}

-- what a space tells, where it does: the elements of its tree, and its extents
abbrev elements_at : Heap → ℕ → List Element
elements_at h root = elements_of (nodes h.pages.current) root

abbrev live_in : Heap → List Extent
live_in h = map (filled (bytes_of h.disk)) (places_in h)

abbrev lists : Heap → ℕ → Option Lists
lists h root = content_of (told_elements true (pages_of h) root) (extents_in h)

lists_told : (h : Heap) (root : ℕ) → does_tell h ≡ true → lists h root ≡ Some (elements_at h root, live_in h)
lists_told h root told = ap (λ (t : Bool). content_of (told_elements true (cond t (Some (nodes h.pages.current)) None) root)
    (cond t (Some (live_in h)) None)) told

extents_told : (h : Heap) → does_tell h ≡ true → extents_in h ≡ Some (live_in h)
extents_told h told = ap (λ (t : Bool). cond t (Some (live_in h)) None) told

extents_untold : (h : Heap) → does_tell h ≡ false → extents_in h ≡ None
extents_untold h told = ap (λ (t : Bool). cond t (Some (live_in h)) None) told

-- no element goes where none may
none_lost : {es fs : List FullElement} → LosesDead (λ _. None) es fs → fs ≡ es
none_lost none = refl
none_lost (keep {e = e} rest) = ap (λ (l : List FullElement). e ∷ l) (none_lost rest)
none_lost (lose may rest) = absurd may

on_some : {A P : Type 0} (o : Option A) → P → OnSome o P
on_some None is = tt
on_some (Some x) is = is

some_same : {A : Type 0} (x y : A) → Some x ≡ Some y → x ≡ y
some_same x y same = cc

-- its extents have the bytes that stand at their places
all_filled : (bytes : List ℕ) (xs : List Extent) → AllByRecursion (λ x. x.bytes ≡ bytes_at bytes x.at x.len) (map (filled bytes) xs)
all_filled bytes [] = tt
all_filled bytes (x ∷ xs) = (refl, all_filled bytes xs)

-- two stores tell the same: the one over the first space, by its root, and the one over the second
pub record TellAlike (a b : Heap) (root root' : ℕ) : Type 0 where
  pub elements : told_elements true (pages_of b) root' ≡ told_elements true (pages_of a) root
  pub marks : OnSome (told_elements true (pages_of a) root) (MarksStay (told_mark (pages_of a) root) (told_mark (pages_of b) root'))
  pub extents : extents_in b ≡ extents_in a
  pub room : (zone : ℕ) → room_of b zone ≡ room_of a zone

module _ (a b : Heap) (root root' : ℕ) (same : root' ≡ root) (current : b.pages.current ≡ a.pages.current) (append : b.append ≡ a.append)
    (whole : b.whole ≡ a.whole) (disk : b.disk ≡ a.disk) (tells : does_tell b ≡ does_tell a) where
  pages_same : pages_of b ≡ pages_of a
  pages_same = λ i. cond (tells i) (Some (nodes (current i))) None

  extents_same : (does_tell a ≡ true → live_in b ≡ live_in a) → (t : Bool) → does_tell a ≡ t → extents_in b ≡ extents_in a
  extents_same alike true told = extents_told b (tells ∙ told) ∙ (ap Some (alike told) ∙ sym (extents_told a told))
  extents_same alike false told = extents_untold b (tells ∙ told) ∙ sym (extents_untold a told)

  tell_alike : (does_tell a ≡ true → live_in b ≡ live_in a) → TellAlike a b root root'
  tell_alike alike = record {
    elements = λ i. told_elements true (pages_same i) (same i);
    marks = on_some (told_elements true (pages_of a) root) (λ key i. told_mark (pages_same i) (same i) key);
    extents = extents_same alike (does_tell a) refl;
    room = room_same a b whole append current;
  }

  -- where the elements of both are balanced with their extents, these are one list
  live_alike : (does_tell a ≡ true → IfSome (extents_in a) AreExtents) → (does_tell a ≡ true → IfSome (extents_in b) AreExtents)
      → (does_tell a ≡ true → IsBalanced (elements_at a root) (live_in a)) → (does_tell a ≡ true → IsBalanced (elements_at b root') (live_in b))
      → does_tell a ≡ true → live_in b ≡ live_in a
  live_alike live live' balanced balanced' told =
      only_extents (elements_at a root) (bytes_at (bytes_of a.disk)) (live_in b) (live_in a)
      (record {
        live = subst (λ (o : Option (List Extent)). IfSome o AreExtents) (extents_told b (tells ∙ told)) (live' told);
        balanced = subst (λ (es : List Element). IsBalanced es (live_in b)) (λ i. elements_of (nodes (current i)) (same i)) (balanced' told);
        filled = subst (λ (bytes : List ℕ). AllByRecursion (λ x. x.bytes ≡ bytes_at bytes x.at x.len) (live_in b)) (ap bytes_of disk)
            (all_filled (bytes_of b.disk) (places_in b));
      })
      (record {
        live = subst (λ (o : Option (List Extent)). IfSome o AreExtents) (extents_told a told) (live told);
        balanced = balanced told;
        filled = all_filled (bytes_of a.disk) (places_in a);
      })

-- ---- the root of a tree that is told

-- where one of some references to an extent is counted, what holds of each holds of one of them
one_counted : (P : Reference → Type 0) (r : Reference) (rs : List Reference) → 1 ≤ count_by (is_extent r) rs → AllByRecursion P rs
    → (s : Reference) × (s.at ≡ r.at) × P s
one_counted P r [] some each = absurd (omega (arith, some))
one_counted P r (s ∷ rs) some each = by (nat_eq s.at r.at) (nat_eq (rounded s.len) (rounded r.len)) refl refl
    (λ more. one_counted P r rs more each.1) where
      by : (here long : Bool) → nat_eq s.at r.at ≡ here → nat_eq (rounded s.len) (rounded r.len) ≡ long
          → (1 ≤ count_by (is_extent r) rs → (s : Reference) × (s.at ≡ r.at) × P s) → (s : Reference) × (s.at ≡ r.at) × P s
      by true long is is' rest = (s, eqb-true s.at r.at is, each.0)
      by false long is is' rest =
          let other : bit (is_extent r s) ≡ 0 = ap (λ (b : Bool). bit (b && nat_eq (rounded s.len) (rounded r.len))) is in
          rest (omega (arith, some, other, count-cons (is_extent r) s rs))

node_zone : (pages : PageMap) (at : ℕ) → IsSome (nodes pages at) → zone_of at ≡ TREE_ZONE
node_zone pages at there = by (nat_eq (zone_of at) TREE_ZONE) refl there where
  by : (t : Bool) → nat_eq (zone_of at) TREE_ZONE ≡ t → IsSome (cond t (pages at) None) → zone_of at ≡ TREE_ZONE
  by true is there = eqb-true (zone_of at) TREE_ZONE is
  by false is there = absurd (true≢false (sym there))

placed_root : (bigblocks at : ℕ) (r : Reference) → r.at ≡ at → zone_of at ≡ TREE_ZONE → IsPlaced bigblocks r → IsRoot bigblocks at
placed_root bigblocks at r is zone placed = subst (λ (n : ℕ). IsRoot bigblocks n) is (record {
  zone = here;
  volume = placed.volume;
  pool = placed.pool;
  page = subst (λ (z : ℕ). byte_of r.at % unit_of z ≡ 0) here placed.unit;
}) where
  here : zone_of r.at ≡ TREE_ZONE
  here = ap zone_of is ∙ zone

-- it stands where a header may name it
pub told_root : (h : Heap) (begin : PageMap) (root : ℕ) → h.pages.begin ≡ Some begin → does_tell h ≡ true → ∥ IsKept h ∥₁
    → HoldsTree (pages_of h) root → IsRoot h.bigblocks root
told_root h begin root begins told kept tree =
    ∥∥₁_elim kept (hlevel props) (λ k. ∥∥₁_elim tree (hlevel props) (λ t.
    by (subst (λ (o : Option PageMap). IfSome o (λ b. (refs : List Reference) × HeldBy h (basis_with h b) refs)) begins (k.held told))
    (subst (λ (u : Bool). IfSome (cond u (Some (nodes h.pages.current)) None) (λ pages. IsTreeSpace pages root)) told t))) where
      by : (refs : List Reference) × HeldBy h (basis_with h begin) refs → IsTreeSpace (nodes h.pages.current) root → IsRoot h.bigblocks root
      by (refs, held) space =
          let there = space.sound.there in
          let counted : count_by (is_extent (reference root PAGE_BYTES)) refs ≡ 1 + references_of PAGE_BYTES (extent_at root (places_in h)) =
          held.counted root PAGE_BYTES
          ∙ ap (λ (b : Bool). cond b 1 0 + references_of PAGE_BYTES (extent_at root (places_in h))) there in
          let one = one_counted (IsPlaced h.bigblocks) (reference root PAGE_BYTES) refs (omega (arith, counted))
          (recursion_from_All (IsPlaced h.bigblocks) refs (all_left (IsPlaced h.bigblocks) refs _ held.stand.placed)) in
          placed_root h.bigblocks root one.0 one.1 (node_zone h.pages.current root there) one.2

-- ---- a unit

-- a call was opened over a space, and its changes kept the frame of the store
module _ (h h1 h2 h' : Heap) (root root1 root2 root' last : ℕ) (closed : IsClosed h) (kept : ∥ IsKept h ∥₁) (opens : IsOpened root last h h1)
    (same : root1 ≡ root) (frame : frame_of h2 ≡ frame_of h1) where
  begun_same : begun_content h2 ≡ begun_content h1
  begun_same = ap (λ (f : Frame). f.content) frame

  -- what it told as it was opened was held
  pub known_told : does_tell h2 ≡ true → HasKnown last h root
  known_told told =
      let begun = tells_still h2 h1 (ap (λ (x : Heap). x.whole) opens.rest ∙ closed.whole) (sym begun_same) told in
      let held = told_held h h1 root last closed kept opens begun in
      (held.0, held.1, known_each last held.0 held.2)

  -- it was dropped
  module _ (drops : IsDropped h2 h') where
    -- what was held is held
    pub dropped_known : IfSome (begun_content h2) (Holds h' root') → KeepsKnown last h h' root root'
    dropped_known held es known holds =
        let told = opens_content h h1 root last closed kept opens es holds (known_from_each last es known) in
        subst (λ (o : Option (List FullElement)). IfSome o (Holds h' root')) (begun_same ∙ told.content) held

    roots_are : h2.roots ≡ record h.roots { current = root }
    roots_are = ap (λ (f : Frame). f.roots) frame ∙ ap (λ (x : Heap). x.roots) opens.rest

    append_was : h2.begun ≡ h.append
    append_was = ap (λ (f : Frame). f.begun) frame ∙ ap (λ (x : Heap). x.begun) opens.rest

    group_was : h2.pages.group ≡ h.pages.group
    group_was =
        let begin = begun_there h h1 h2 root last opens frame in
        let now : Some h2.pages.group ≡ cond (is_some h2.pages.begin) (Some h2.pages.group) None =
        sym (ap (λ (o : Option PageMap). cond (is_some o) (Some h2.pages.group) None) begin) in
        let was : cond (is_some h1.pages.begin) (Some h1.pages.group) None ≡ Some h1.pages.group =
        ap (λ (o : Option PageMap). cond (is_some o) (Some h1.pages.group) None) opens.pages.begin in
        some_same h2.pages.group h1.pages.group (now ∙ (ap (λ (f : Frame). f.pages.begin_group) frame ∙ was)) ∙ opens.pages.group

    current_was : h'.pages.current ≡ h.pages.current
    current_was = some_same h'.pages.current h.pages.current (drops.pages.current ∙ begun_there h h1 h2 root last opens frame)

    pages_were : h'.pages ≡ record h.pages { call = h'.pages.call }
    pages_were = by
        (drops.pages.flush.committed ∙ (ap (λ (f : Frame). f.pages.committed) frame ∙ opens.pages.flush.committed))
        (drops.pages.flush.frozen ∙ (ap (λ (f : Frame). f.pages.frozen) frame ∙ opens.pages.flush.frozen))
        (drops.pages.begin ∙ sym closed.begin) (drops.pages.group ∙ group_was)
        (drops.pages.flush.frozen_group ∙ (ap (λ (f : Frame). f.pages.frozen_group) frame ∙ opens.pages.flush.frozen_group))
        (drops.pages.flush.boundary ∙ (ap (λ (f : Frame). f.pages.boundary) frame ∙ opens.pages.flush.boundary)) where
          by : h'.pages.committed ≡ h.pages.committed → h'.pages.frozen ≡ h.pages.frozen → h'.pages.begin ≡ h.pages.begin
              → h'.pages.group ≡ h.pages.group → h'.pages.frozen_group ≡ h.pages.frozen_group → h'.pages.boundary ≡ h.pages.boundary
              → h'.pages ≡ record h.pages { call = h'.pages.call }
          by committed frozen begin group places boundary = λ i. record {
            committed = committed i;
            frozen = frozen i;
            current = current_was i;
            begin = begin i;
            call = h'.pages.call;
            group = group i;
            frozen_group = places i;
            boundary = boundary i;
          }

    pub as_before : root' ≡ h2.roots.current → IsAsBefore last h h' root root'
    as_before root_is = record {
      root_is = root_is ∙ ap (λ (r : Roots). r.current) roots_are;
      pages = pages_were;
      rest =
          by (ap (λ (x : Heap). x.bigblocks) drops.rest ∙ (ap (λ (f : Frame). f.bigblocks) frame ∙ ap (λ (x : Heap). x.bigblocks) opens.rest))
          (ap (λ (x : Heap). x.begun) drops.rest ∙ append_was) (ap (λ (x : Heap). x.append) drops.rest ∙ append_was)
          (ap (λ (x : Heap). x.roots) drops.rest ∙ roots_are)
          (ap (λ (x : Heap). x.last) drops.rest ∙ (ap (λ (f : Frame). f.last) frame ∙ ap (λ (x : Heap). x.last) opens.rest))
          (ap (λ (x : Heap). x.whole) drops.rest ∙ sym closed.whole);
    } where
      by : h'.bigblocks ≡ h.bigblocks → h'.begun ≡ h.append → h'.append ≡ h.append → h'.roots ≡ record h.roots { current = root } → h'.last ≡ last
          → h'.whole ≡ h.whole → h' ≡ record h {
            pages = h'.pages;
            disk = h'.disk;
            begun = h.append;
            roots = record h.roots { current = root };
            last = last;
            log = h'.log;
            gave = h'.gave;
          }
      by bigblocks begun append roots last_is whole = λ i. record {
        pages = h'.pages;
        disk = h'.disk;
        bigblocks = bigblocks i;
        begun = begun i;
        append = append i;
        roots = roots i;
        last = last_is i;
        log = h'.log;
        gave = h'.gave;
        whole = whole i;
      }

  -- the unit was done
  module _ (works : IfSome (lists h1 root1) (λ was. IsBalanced was.0 was.1 → IsSomeAnd (lists h2 root2) (Works (λ _. None) was))) where
    -- what is told after it, where these elements were held
    record IsTold (es : List FullElement) : Type 0 where
      pub tells : does_tell h2 ≡ true
      pub balanced : IsBalanced (elements_at h2 root2) (live_in h2)
      pub full : full_elements (elements_at h2 root2) (live_in h2) ≡ es

    after_unit : (es : List FullElement) → AreKnown last es → Holds h root es → IsTold es
    after_unit es known holds =
        let begun = opens_content h h1 root last closed kept opens es holds (known_from_each last es known) in
        let had : HaveContent es (elements_at h1 root) (live_in h1) =
        subst (λ (o : Option Lists). IfSome o (λ l. HaveContent es l.0 l.1)) (lists_told h1 root begun.tells) begun.lists in
        let worked : IfSome (lists h1 root) (λ was. IsBalanced was.0 was.1 → IsSomeAnd (lists h2 root2) (Works (λ _. None) was)) =
        subst (λ (n : ℕ). IfSome (lists h1 n) (λ was. IsBalanced was.0 was.1 → IsSomeAnd (lists h2 root2) (Works (λ _. None) was))) same works in
        let did : IsSomeAnd (lists h2 root2) (Works (λ _. None) (elements_at h1 root, live_in h1)) =
        subst (λ (o : Option Lists). IfSome o (λ was. IsBalanced was.0 was.1 → IsSomeAnd (lists h2 root2) (Works (λ _. None) was)))
        (lists_told h1 root begun.tells) worked had.balanced in
        let told = does_tell_lists h2 root2 (Works (λ _. None) (elements_at h1 root, live_in h1)) did in
        let now : Works (λ _. None) (elements_at h1 root, live_in h1) (elements_at h2 root2, live_in h2) =
        subst (λ (o : Option Lists). IsSomeAnd o (Works (λ _. None) (elements_at h1 root, live_in h1))) (lists_told h2 root2 told) did in
        record { tells = told; balanced = now.balanced; full = none_lost now.elements ∙ had.fulls }

    -- where it told its content, it may be kept
    pub done_keepable : ∥ IsKept h2 ∥₁ → HoldsTree (pages_of h2) root2 → HasKnown last h root → IsKeepable h2 root2
    done_keepable kept' tree had =
        let told = (after_unit had.0 had.2 had.1).tells in
        record {
          whole = and_left h2.whole (is_some (begun_content h2)) told;
          root_is = told_root h2 h.pages.current root2 (begun_there h h1 h2 root last opens frame) told kept' tree;
        }

    -- it was kept
    module _ (whole : h2.whole ≡ true) (keeps : IsKeptOf h2 h') (content : KeepsContent h2 h') (root_is : root' ≡ root2)
        (tree : HoldsTree (pages_of h2) root2) where
      held_after : (es : List FullElement) → AreKnown last es → Holds h root es → Holds h' root' es
      held_after es known holds =
          let now = after_unit es known holds in
          let there : Holds h' root2 (full_elements (elements_at h2 root2) (live_in h2)) =
          subst (λ (o : Option Lists). IfSome o (λ l. IsBalanced l.0 l.1 → Holds h' root2 (full_elements l.0 l.1))) (lists_told h2 root2 now.tells)
          (content root2 tree) now.balanced in
          subst (λ (x : ℕ × List FullElement). Holds h' x.0 x.1) (λ i. (sym root_is i, now.full i)) there

      pub kept_known : KeepsKnown last h h' root root'
      kept_known = held_after

      -- another call was opened over it
      module _ (h4 : Heap) (root4 : ℕ) (kept' : ∥ IsKept h' ∥₁) (again : IsOpened root' last h' h4) (same' : root4 ≡ root')
          (live : IfSome (extents_in h2) AreExtents) (live' : IfSome (extents_in h4) AreExtents)
          (knew : IsTrue (does_tell h4) → HasKnown last h root) where
        closed_after : IsClosed h'
        closed_after = kept_closed h h1 h2 h' root last closed kept opens frame whole keeps

        told_again : (es : List FullElement) → AreKnown last es → Holds h root es → TellsContent h4 root' es
        told_again es known holds =
            opens_content h' h4 root' last closed_after kept' again es (held_after es known holds) (known_from_each last es known)

        tells_alike : (t u : Bool) → does_tell h2 ≡ t → does_tell h4 ≡ u → does_tell h4 ≡ does_tell h2
        tells_alike true u told told' = (let had = known_told told in (told_again had.0 had.2 had.1).tells ∙ sym told)
        tells_alike false true told told' = (let had = knew told' in absurd (true≢false (sym (after_unit had.0 had.2 had.1).tells ∙ told)))
        tells_alike false false told told' = told' ∙ sym told

        balanced_then : does_tell h2 ≡ true → IsBalanced (elements_at h2 root2) (live_in h2)
        balanced_then told = (let had = known_told told in (after_unit had.0 had.2 had.1).balanced)

        balanced_again : does_tell h2 ≡ true → IsBalanced (elements_at h4 root4) (live_in h4)
        balanced_again told =
            let had = known_told told in
            let now = told_again had.0 had.2 had.1 in
            let have : HaveContent had.0 (elements_at h4 root') (live_in h4) =
            subst (λ (o : Option Lists). IfSome o (λ l. HaveContent had.0 l.0 l.1)) (lists_told h4 root' now.tells) now.lists in
            subst (λ (n : ℕ). IsBalanced (elements_at h4 n) (live_in h4)) (sym same') have.balanced

        -- it tells what the unit left
        pub opened_alike : TellAlike h2 h4 root2 root4
        opened_alike =
            let root_same = same' ∙ root_is in
            let current = again.pages.current ∙ keeps.pages.current in
            let append = ap (λ (x : Heap). x.append) again.rest ∙ ap (λ (x : Heap). x.append) keeps.rest in
            let wholes = ap (λ (x : Heap). x.whole) again.rest ∙ ap (λ (x : Heap). x.whole) keeps.rest in
            let disk = ap (λ (x : Heap). x.disk) again.rest ∙ ap (λ (x : Heap). x.disk) keeps.rest in
            let tells = tells_alike (does_tell h2) (does_tell h4) refl refl in
            tell_alike h2 h4 root2 root4 root_same current append wholes disk tells
            (live_alike h2 h4 root2 root4 root_same current append wholes disk tells (λ told. live) (λ told. live') balanced_then balanced_again)

-- the same of a job that tells no intervals
pub works_none : (ids : ℕ → Option (List (ℕ × ℕ))) (h1 h2 : Heap) (root1 root2 : ℕ) → ((pfs : ℕ) → ids pfs ≡ None)
    → IfSome (lists h1 root1) (λ was. IsBalanced was.0 was.1 → IsSomeAnd (lists h2 root2) (Works ids was))
    → IfSome (lists h1 root1) (λ was. IsBalanced was.0 was.1 → IsSomeAnd (lists h2 root2) (Works (λ _. None) was))
works_none ids h1 h2 root1 root2 untold =
    subst (λ (kept : ℕ → Option (List (ℕ × ℕ))). IfSome (lists h1 root1) (λ was. IsBalanced was.0 was.1 → IsSomeAnd (lists h2 root2) (Works kept was)))
    (λ i pfs. untold pfs i)

-- what follows after More and after Done
pub progress_as : (Goes Ends Goes' Ends' : Type 0) (progress : Progress) → (Goes → Goes') → (Ends → Ends') → IfProgress Goes Ends progress
    → IfProgress Goes' Ends' progress
progress_as Goes Ends Goes' Ends' More goes ends is = goes is
progress_as Goes Ends Goes' Ends' Done goes ends is = ends is

-- why a unit failed over a core, by what it says of the store
pub fails_with : {A : Type 0} (old new : CoreState) (result : Result A Fault) → IfErr result (IsCaused old.counts.disk new.counts.disk)
    → ((volume : Volume) → HoldsVolume old.heap old.root old.last volume → IfErr result IsUndamaged) → IfErr result (FailsWith old new)
fails_with old new (Ok x) caused undamaged = tt
fails_with old new (Err fault) caused undamaged = record { caused = caused; undamaged = undamaged }

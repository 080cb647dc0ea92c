-- A node is put in place of one.
use Rattle.std.proofs.Common.{◌≡◌, Bool, true, false, true≢false, ℕ, ◌*◌, ◌^◌, ◌<◌, ◌≤◌, List, Option, Some, None, Result, Ok, Err, refl, sym, ap}
use Rattle.std.proofs.Common.{subst, ◌∙◌, arith, cond, nat_eq, eqb-true, eq-eqb, is_some, length, map}
use Rattle.std.specs.Prelude.{IfSome, IsTrue, OnErr, OnOk, option_map, ◌&&◌}
use Rattle.std.proofs.Math.Logic.{∥∥₁_elim}
use Rattle.hm_types.specs.Offset.{zone_of}
use Rattle.hm_types.specs.Told.{BothTell}
use Rattle.hm_types.specs.declared.limits.TheConstants.{BIGBLOCK_BYTES, MOST_BIGBLOCKS}
use Rattle.hm_types.specs.declared.zone.TheConstants.{TREE_ZONE}
use Rattle.hm_disk.specs.Crash.{Told}
use Rattle.hm_fields.specs.Pages.{HasPut, PageMap}
use Rattle.hm_types.specs.declared.fault.Fault.{Fault}
use Rattle.hm_freemap.specs.Places.{HasLayer2, page_of}
use Rattle.hm_pages.specs.Calls.{IsChanged}
use Rattle.hm_pages.specs.Maps.{set_at}
use Rattle.hm_pages.specs.Sets.{in_freemap}
use Rattle.hm_pages.specs.Store.{Store, Frame as PagesFrame, frame_of as pages_frame, layer2}
use Rattle.hm_stored.specs.declared.books.Books.{Books}
use Rattle.hm_key.specs.Extents.{AreExtents, Extent}
use Rattle.hm_freemap.specs.Stand.{AreBelow}
use Rattle.hm_stored.specs.Basis.{nodes}
use Rattle.hm_stored.specs.Heap.{Heap, heap_of, bytes_of, does_tell, frame_of, pages_of, places_in, rest_of}
use Rattle.hm_stored.specs.Held.{AreNodes, Held, IsKept, Safe, expected}
use Rattle.hm_stored.specs.Log.{filled}
use Rattle.hm_stored.specs.Nodes.{KeepsNodes}
use Rattle.hm_stored.proofs.BasisLemmas.{SameBasis, begin_same, beside, both_nodes, changed_frame, content_same, extents_same, frame_same, held_map}
use Rattle.hm_stored.proofs.BasisLemmas.{places_same, tell_same, committed_same, frozen_same}
use Rattle.hm_stored.proofs.BookLemmas.{expected_same}
use Rattle.hm_stored.proofs.HeldLemmas.{held_after}
use Rattle.hm_stored.proofs.NodeStepLemmas.{freemap_set}
use Rattle.hm_stored.proofs.PageLemmas.{nodes_more}
use Rattle.hm_stored.proofs.RoomLemmas.{rest_stays}
use Rattle.hm_stored.proofs.MapLemmas.{SameFreemap}
use Rattle.hm_stored.proofs.SafeLemmas.{holds_same, safe_after, safe_map}

-- one page of a node is put in place of another
pub record PutsNode (at : ℕ) (page : List ℕ) (h h' : Heap) : Type 0 where
  pub basis : SameBasis h h'
  pub disk : h'.disk ≡ h.disk
  pub append : h'.append ≡ h.append
  pub log : h'.log ≡ h.log
  pub gave : h'.gave ≡ h.gave
  pub whole : h'.whole ≡ h.whole
  pub there : is_some (h.pages.current at) ≡ true
  pub tree : zone_of at ≡ TREE_ZONE
  pub put : h'.pages.current ≡ set_at at (Some page) h.pages.current

module _ (h h' : Heap) (at : ℕ) (page : List ℕ) (few : h.bigblocks ≤ MOST_BIGBLOCKS) (puts : PutsNode at page h h') where
  tells : does_tell h' ≡ does_tell h
  tells = tell_same h h' (content_same h h' puts.basis puts.disk) puts.whole

  places : places_in h' ≡ places_in h
  places = places_same h h' puts.basis puts.log

  bytes : bytes_of h'.disk ≡ bytes_of h.disk
  bytes = ap bytes_of puts.disk

  freemap : SameFreemap h.pages.current h'.pages.current
  freemap other zone = ap (λ (m : PageMap). m other) puts.put ∙ freemap_set at (Some page) h.pages.current puts.tree other zone

  presence : (x : ℕ) → is_some (nodes h'.pages.current x) ≡ is_some (nodes h.pages.current x)
  presence x = ap (λ (m : PageMap). is_some (nodes m x)) puts.put ∙ by_test (nat_eq x at) refl (nat_eq (zone_of x) TREE_ZONE) where
    by_test : (t : Bool) → nat_eq x at ≡ t → (z : Bool)
        → is_some (cond z (cond t (Some page) (h.pages.current x)) None) ≡ is_some (cond z (h.pages.current x) None)
    by_test true is true = sym (ap (λ (n : ℕ). is_some (h.pages.current n)) (eqb-true x at is) ∙ puts.there)
    by_test true is false = refl
    by_test false is z = refl

  pub told_put : BothTell (pages_of h) (pages_of h') (HasPut at page)
  told_put = both_nodes h h' (HasPut at page) tells (λ other. ap (λ (m : PageMap). nodes m other) puts.put ∙ by_test other
      (nat_eq (zone_of other) TREE_ZONE) refl (nat_eq other at) refl) where
        by_test : (other : ℕ) (z : Bool) → nat_eq (zone_of other) TREE_ZONE ≡ z → (t : Bool) → nat_eq other at ≡ t
            → cond z (cond t (Some page) (h.pages.current other)) None ≡ cond t (Some page) (cond z (h.pages.current other) None)
        by_test other true zone t is = refl
        by_test other false zone true is =
            let same : zone_of other ≡ zone_of at = ap zone_of (eqb-true other at is) in
            absurd (true≢false (sym (eq-eqb (zone_of other) TREE_ZONE (same ∙ puts.tree)) ∙ zone))
        by_test other false zone false is = refl

  pub frame_put : frame_of h' ≡ frame_of h
  frame_put = frame_same h h' puts.basis puts.disk

  pub rest_put : AreBelow h.bigblocks h.append → rest_of h' ≡ rest_of h
  rest_put below =
      rest_stays h h' few below puts.basis.bigblocks puts.append puts.whole (committed_same h h' puts.basis) (frozen_same h h' puts.basis) freemap
      (extents_same h h' tells bytes places)

  held_put : Held h → Held h'
  held_put = held_map h h' puts.basis (λ told. sym tells ∙ told)
      (λ b refs told held. (
        refs,
        held_after h h' b refs refs h.pages.current few (beside h h' puts.basis puts.append) held freemap held.stand held.fixed
            (λ x l. held.counted x l ∙ sym (expected_same (nodes h.pages.current) (nodes h'.pages.current) (places_in h') x l (presence x)
            ∙ ap (λ (xs : List Extent). expected (nodes h.pages.current) xs x l) places))
            (subst (λ (xs : List Extent). AreExtents (map (filled (bytes_of h'.disk)) xs)) (sym places)
            (subst (λ (bs : List ℕ). AreExtents (map (filled bs) (places_in h))) (sym bytes) held.extents)),
      ))

  safe_put : Safe h → Safe h'
  safe_put = safe_map h h' puts.basis (holds_same h h' puts.basis puts.disk puts.whole)
      (λ b safe. safe_after h h' b h.pages.current few puts.basis.bigblocks safe freemap
      (λ block. record { zone = refl; filled = omega arith })
      (λ none. (sym puts.gave ∙ none, λ block used. used)))

  pub kept_put : at < 2 ^ 64 → KeepsNodes at page → ∥ IsKept h ∥₁ → ∥ IsKept h' ∥₁
  kept_put low keeps kept = ∥∥₁_elim kept squash₁ (λ k. ∣ record {
    nodes = λ whole. nodes_more h.pages.current h'.pages.current at page (k.nodes (sym puts.whole ∙ whole)) puts.put low keeps.node;
    begun = subst (λ (o : Option PageMap). IfSome o AreNodes) (sym (begin_same h h' puts.basis)) k.begun;
    size = subst (λ (n : ℕ). IfSome h'.disk (λ (t : Told). n * BIGBLOCK_BYTES ≤ length t.bytes)) (sym puts.basis.bigblocks)
        (subst (λ (o : Option Told). IfSome o (λ (t : Told). h.bigblocks * BIGBLOCK_BYTES ≤ length t.bytes)) (sym puts.disk) k.size);
    safe = safe_put k.safe;
    held = held_put k.held;
  } ∣₁)

-- what a change of a store of pages makes of a space
pub puts_by : (old new : Store) (disk : Option Told) (books : Books) (at : ℕ) (page : List ℕ) → IsChanged at (Some page) old new
    → is_some (old.current at) ≡ true → zone_of at ≡ TREE_ZONE → PutsNode at page (heap_of old disk books) (heap_of new disk books)
unfolding heap_of
puts_by old new disk books at page change there tree = record {
  basis = record { pages = changed_frame at (Some page) old new change; bigblocks = refl; begun = refl; roots = refl; last = refl };
  disk = refl;
  append = refl;
  log = refl;
  gave = refl;
  whole = refl;
  there = there;
  tree = tree;
  put = change.current;
}

-- the pages of layer 2 follow from the frame
pub layer2_same : (bigblocks : ℕ) (old new : Store) → pages_frame new ≡ pages_frame old → HasLayer2 bigblocks (layer2 old) → HasLayer2 bigblocks (layer2 new)
layer2_same bigblocks old new same there block low =
    subst (λ (c : PageMap). IsTrue (in_freemap (page_of block) && is_some (c (page_of block)))) (sym (ap (λ (f : PagesFrame). f.committed) same))
    (there block low)

-- a change that may have failed keeps what always holds of a space
pub kept_by : (old new : Store) (disk : Option Told) (books : Books) (at : ℕ) (page : List ℕ) (result : Result (Unit {0}) Fault)
    → OnOk result (IsChanged at (Some page) old new) → OnErr result (new ≡ old) → is_some (old.current at) ≡ true → zone_of at ≡ TREE_ZONE
    → at < 2 ^ 64 → KeepsNodes at page → HasLayer2 books.bigblocks (layer2 old) → ∥ IsKept (heap_of old disk books) ∥₁
    → HasLayer2 books.bigblocks (layer2 new) × ∥ IsKept (heap_of new disk books) ∥₁
unfolding heap_of
kept_by old new disk books at page (Ok done) ok err there tree low keeps pages kept = (
  layer2_same books.bigblocks old new (changed_frame at (Some page) old new ok) pages,
  kept_put (heap_of old disk books) (heap_of new disk books) at page books.most (puts_by old new disk books at page ok there tree) low keeps kept,
)
kept_by old new disk books at page (Err fault) ok err there tree low keeps pages kept = (
  subst (λ (s : Store). HasLayer2 books.bigblocks (layer2 s)) (sym err) pages,
  subst (λ (s : Store). ∥ IsKept (heap_of s disk books) ∥₁) (sym err) kept,
)

-- a page that was looked up is there
pub some_map : {A B : Type 0} (f : A → B) (o : Option A) → is_some (option_map f o) ≡ is_some o
some_map f None = refl
some_map f (Some x) = refl

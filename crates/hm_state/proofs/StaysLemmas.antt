-- What was written of a space stays where the freemap and all that its tree refers to does.
use Rattle.std.proofs.Common.{◌≡◌, inl, inr, ℕ, ◌<◌, List, ◌∷◌, Option, Some, None, IsSome, sym, ap, subst, ◌∙◌, arith, is_some}
use Rattle.std.proofs.Common.{map}
use Rattle.std.specs.Prelude.{IfSome}
use Rattle.std.specs.List.{All, Contains}
use Rattle.std.proofs.lemmas.List.Elements.{All-contains, All-contains_itself, All-weaker}
use Rattle.hm_types.specs.Offset.{zone_of}
use Rattle.hm_types.specs.declared.zone.TheConstants.{TREE_ZONE}
use Rattle.hm_disk.specs.Crash.{Told}
use Rattle.hm_fields.specs.Pages.{PageMap}
use Rattle.hm_freemap.specs.Places.{page_of}
use Rattle.hm_search.specs.Tree.{elements_of, height_of, node_at}
use Rattle.hm_btree.specs.Tree.{IsTreeSpace}
use Rattle.hm_image.specs.Image.{nodes_below, pages_of, to_node, to_payload}
use Rattle.hm_image.specs.Same.{HasSameBytes, HasSameFreemap, HasSameTree}
use Rattle.hm_image.proofs.ReferenceLemmas.{All-right}
use Rattle.hm_image.proofs.SameLemmas.{page_same}
use Rattle.hm_stored.specs.Basis.{nodes, refers}
use Rattle.hm_stored.specs.Heap.{Heap}
use Rattle.hm_stored.specs.Held.{AreOfVolume}
use Rattle.hm_state.specs.Written.{HasSamePayloads, IsWritten}
use Rattle.hm_state.proofs.KeptLemmas.{nodes_keep, page_referred, references_kept}

module _ (h : Heap) (root : ℕ) (tree : IsTreeSpace (nodes h.pages.current) root) (only : AreOfVolume h) (old new : List ℕ)
    (freemap : HasSameFreemap old new h.bigblocks) (same : HasSameTree old new root) (written : IsWritten h root old) where
  abbrev current : PageMap
  current = h.pages.current

  -- all that the tree of the space refers to is the same
  refs_same : All (HasSameBytes old new) (refers current root)
  refs_same = subst (All (HasSameBytes old new))
      (references_kept (nodes current) (pages_of old) root (nodes_keep current (pages_of old) written.pages) tree.sound) same.bytes

  node_same : (at : ℕ) → zone_of at ≡ TREE_ZONE → IsSome (current at) → pages_of new at ≡ pages_of old at
  node_same at zone there =
      page_same old new at same.size
      (All-contains (HasSameBytes old new) (refers current root) (to_node at) refs_same (page_referred current root at tree zone there))

  entry_page_same : (block : ℕ) → block < h.bigblocks → pages_of new (page_of block) ≡ pages_of old (page_of block)
  entry_page_same block low = freemap.layer2 block (omega arith)

  pages_stay : (at : ℕ) (page : List ℕ) → current at ≡ Some page → pages_of new at ≡ Some page
  pages_stay at page is =
      let there : IsSome (current at) = ap (λ (o : Option (List ℕ)). is_some o) is in
      elim (only at there) [
        | inl zone ↦ node_same at zone there ∙ written.pages at page is
        | inr (block, low, here) ↦
            subst (λ (x : ℕ). pages_of new x ≡ pages_of old x) (sym here) (entry_page_same block low) ∙ written.pages at page is
      ]

  payloads_stay : (was : List ℕ) → HasSamePayloads h root was old → HasSamePayloads h root was new
  payloads_stay was before =
      let es = elements_of (nodes current) root in
      let rs = map to_payload es in
      let node = node_at (nodes current) root in
      let after = All-right (HasSameBytes old new) (to_node root ∷ nodes_below (nodes current) (height_of node) node) rs refs_same in
      All-weaker (Contains rs) (HasSameBytes was new)
      (λ r at. All-contains (HasSameBytes old new) rs r after at ∙ All-contains (HasSameBytes was old) rs r before at) rs (All-contains_itself rs)

  pub written_stays : IsWritten h root new
  written_stays = record {
    layer1 = λ i few. freemap.layer1 i few ∙ written.layer1 i few;
    pages = pages_stay;
    bytes = written.bytes;
    past = λ block low none.
        let has = written.past block low none in
        record { page = has.page; there = freemap.layer2 block low ∙ has.there; spelled = has.spelled };
    payloads = by_disk h.disk written.payloads;
  } where
    by_disk : (o : Option Told) → IfSome o (λ t. HasSamePayloads h root t.bytes old) → IfSome o (λ t. HasSamePayloads h root t.bytes new)
    by_disk None before = tt
    by_disk (Some t) before = payloads_stay t.bytes before

-- What a space held is what a call over it begins with, and what stays where the call is dropped.
use Rattle.std.proofs.Common.{◌≡◌, Bool, true, false, ℕ, List, Option, None, Some, refl, sym, ap, subst, ◌∙◌}
use Rattle.std.specs.Prelude.{IfSome, IsSomeAnd, IsTrue, if◌then◌else◌, map}
use Rattle.hm_types.specs.Elements.{FullElement}
use Rattle.hm_disk.specs.Crash.{Told}
use Rattle.hm_btree.specs.Tree.{HoldsTree, told_elements}
use Rattle.hm_key.specs.Balance.{IsBalanced, content_of}
use Rattle.hm_cursor.specs.Told.{Lists, fulls}
use Rattle.hm_model.specs.Volume.{Volume}
use Rattle.hm_state.specs.Volume.{HoldsVolume}
use Rattle.hm_stored.specs.Basis.{nodes}
use Rattle.hm_stored.specs.Content.{DropsContent, HaveContent, KeepsContent, OpensContent, TellsContent}
use Rattle.hm_stored.specs.Heap.{Heap, bytes_of, begun_content, does_tell, extents_in, pages_of, places_in}
use Rattle.hm_stored.specs.Known.{AreKnown, is_known}
use Rattle.hm_stored.specs.Log.{filled}
use Rattle.hm_stored.specs.Standing.{Holds, HoldsBy}
use Rattle.hm_stored.specs.Told.{Tells as TellsAll, elements_told}
use Rattle.hm_core.specs.Told.{ArePages, HoldsSame, HoldsTold, OpensStore, Tells, TellsHeld}
use Rattle.hm_core.proofs.FitLemmas.{held_fit}
use Rattle.hm_core.proofs.KnownLemmas.{volume_each, volume_known}

-- a space holds one list of elements
pub held_once : (h : Heap) (root : ℕ) (es es' : List FullElement) → Holds h root es → Holds h root es' → es ≡ es'
held_once h root es es' = by h.disk where
  by : (o : Option Told) → IsSomeAnd o (λ t. HoldsBy h root t.bytes es) → IsSomeAnd o (λ t. HoldsBy h root t.bytes es') → es ≡ es'
  by None first second = absurd first
  by (Some t) first second = sym first.elements ∙ second.elements

module _ (h : Heap) (root last : ℕ) (volume : Volume) (holds : HoldsVolume h root last volume) where
  pub held_known : (es : List FullElement) → Holds h root es → IsTrue (is_known last es)
  held_known es there =
      subst (λ (l : List FullElement). is_known last l ≡ true) (held_once h root holds.elements.0 es holds.elements.1 there)
      (ap (λ (n : ℕ). is_known n holds.elements.0) holds.last_is ∙ volume_known holds.elements.0 volume holds.elements.2)

  -- a call was opened over the space
  module _ (h' : Heap) (opens : OpensContent root last h h') where
    opened : (es : List FullElement) → Holds h root es → TellsContent h' root es
    opened es there = opens es there (held_known es there)

    lists_told : (es : List FullElement) (t : Bool) → does_tell h' ≡ t → IsTrue t
        → IfSome (content_of (told_elements true (if t then Some (nodes h'.pages.current) else None) root)
        (if t then Some (map (filled (bytes_of h'.disk)) (places_in h')) else None)) (λ l. HaveContent es l.0 l.1)
        → Tells (told_elements true (if t then Some (nodes h'.pages.current) else None) root)
        (if t then Some (map (filled (bytes_of h'.disk)) (places_in h')) else None) es
    lists_told es true is test have = (have.balanced, have.fulls)
    lists_told es false is test have = absurd (cc)

    pub opened_tells : TellsHeld (told_elements true (pages_of h') root) (extents_in h') h root
    opened_tells es there = (let tells = opened es there in lists_told es (does_tell h') refl tells.tells tells.lists)

    -- it was dropped
    pub dropped_holds : (old new : Heap) → begun_content old ≡ begun_content h' → old.roots.current ≡ root → DropsContent old new
        → HoldsSame h root new root
    dropped_holds old new same current drops es there =
        let told : begun_content old ≡ Some es = same ∙ (opened es there).content in
        subst (λ (n : ℕ). Holds new n es) current
        (subst (λ (o : Option (List FullElement)). IfSome o (λ l. Holds new old.roots.current l)) told drops)

  -- a store was opened over the space
  module _ (h' : Heap) (root' : ℕ) (opens : OpensStore last h root h' root') where
    store_opened : (es : List FullElement) → Holds h root es → TellsAll h' root' es
    store_opened es there = opens es there (subst (AreKnown last) (held_once h root holds.elements.0 es holds.elements.1 there)
        (subst (λ (n : ℕ). AreKnown n holds.elements.0) (sym holds.last_is) (volume_each holds.elements.0 volume holds.elements.2)))

    pub store_tells : TellsHeld (elements_told h' root') (extents_in h') h root
    store_tells es there = (store_opened es there).lists

    -- its call was dropped
    pub store_dropped : (old new : Heap) (back : ℕ) → begun_content old ≡ begun_content h' → IfSome (begun_content old) (Holds new back)
        → HoldsSame h root new back
    store_dropped old new back same held es there =
        subst (λ (o : Option (List FullElement)). IfSome o (Holds new back)) (same ∙ (store_opened es there).begun) held

-- a call was kept
module _ (old new : Heap) (root : ℕ) (pages : ArePages new) (keeps : KeepsContent old new) (tree : HoldsTree (pages_of old) root) where
  pub kept_holds : HoldsTold (told_elements true (pages_of old) root) (extents_in old) new root
  kept_holds now told balanced = record { holds = there; fit = held_fit new root pages (fulls now) there } where
    there : Holds new root (fulls now)
    there = subst (λ (o : Option Lists). IfSome o (λ l. IsBalanced l.0 l.1 → Holds new root (fulls l))) told (keeps root tree) balanced

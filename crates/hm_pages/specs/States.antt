-- That the states of a store of pages are told together: what its frame fixes, and which pages are in all three.
use Rattle.std.proofs.Common.{◌≡◌, ◌&&◌, ℕ, Bool, true, false, List, Option, Some, None, unwrap_or, is_some, IsTrue, refl, ap, arith}
use Rattle.hm_fields.specs.States.{HaveAll}
use Rattle.hm_pages.specs.Maps.{over}
use Rattle.hm_pages.specs.Sets.{in_freemap, takes_out}
use Rattle.hm_pages.specs.Changes.{change_at}
use Rattle.hm_pages.specs.Table.{page_at}
use Rattle.hm_pages.specs.Store.{Frame, contents, frame_of, layer2}
use Rattle.hm_pages.specs.declared.store.PageStore.{PageStore}

-- the committed and the frozen pages, and those of layer 2, follow from the frame
pub framed : (s t : PageStore) → frame_of (contents s) ≡ frame_of (contents t) →
    (Some (contents s).committed ≡ Some (contents t).committed) × (Some (contents s).frozen ≡ Some (contents t).frozen) ×
    (layer2 (contents s) ≡ layer2 (contents t))
framed s t same = (
  ap (λ (f : Frame). Some f.committed) same,
  ap (λ (f : Frame). Some f.frozen) same,
  ap {B = ℕ → Bool} (λ (f : Frame) (at : ℕ). in_freemap at && is_some (f.committed at)) same,
)

-- both of two tests that hold together
both : (a b : Bool) → IsTrue (a && b) → (a ≡ true) × (b ≡ true)
both true true holds = (refl, refl)
both true false holds = absurd (grind (arith, holds))
both false b holds = absurd (grind (arith, holds))

-- a page that is not taken out is there
stays : (change : Option (Option (List ℕ))) (below : Option (List ℕ)) → takes_out change ≡ false → is_some below ≡ true →
    is_some (unwrap_or change below) ≡ true
stays None below kept there = there
stays (Some None) below kept there = absurd (grind (arith, kept))
stays (Some (Some bytes)) below kept there = refl

-- the pages of layer 2 stand in all three states
pub there : (s : PageStore) → HaveAll (layer2 (contents s)) (Some (contents s).committed) (Some (contents s).frozen) (Some (contents s).current)
unfolding contents
there s =
    let committed = page_at s.committed in
    let frozen : (at : ℕ) → IsTrue (in_freemap at && is_some (committed at)) → is_some (over (change_at s.frozen) committed at) ≡ true =
    λ at holds. let b = both (in_freemap at) (is_some (committed at)) holds in stays (change_at s.frozen at) (committed at) (s.frozen_keeps at b.0) b.1 in
    record {
      in_committed = λ at holds. (both (in_freemap at) (is_some (committed at)) holds).1;
      in_frozen = frozen;
      in_current = λ at holds.
          let b = both (in_freemap at) (is_some (committed at)) holds in
          stays (change_at s.call at) (over (change_at s.group) (over (change_at s.frozen) committed) at) (s.call_keeps at b.0)
          (stays (change_at s.group at) (over (change_at s.frozen) committed at) (s.group_keeps at b.0) (frozen at holds));
      together = (refl, refl);
    }

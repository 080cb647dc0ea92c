-- A stage of a flush leaves the volume that calls see.
use Rattle.std.proofs.Common.{◌≡◌, ◌∙◌, ℕ, List, Option, Some, ap, subst, sym, map}
use Rattle.std.specs.Prelude.{IsSomeAnd, Result}
use Rattle.std.specs.List.{All}
use Rattle.hm_types.specs.Elements.{FullElement}
use Rattle.hm_types.specs.declared.fault.Fault.{Fault}
use Rattle.hm_disk.specs.Crash.{Told}
use Rattle.hm_fields.specs.Pages.{PageMap}
use Rattle.hm_header.specs.declared.header.Header.{Header}
use Rattle.hm_flush.specs.declared.flush.Flush.{Flush}
use Rattle.hm_flush.specs.declared.stage.Stage.{Stage}
use Rattle.hm_flush.specs.Group.{group_of}
use Rattle.hm_search.specs.Tree.{elements_of}
use Rattle.hm_image.specs.Image.{full_of}
use Rattle.hm_image.specs.Same.{HasSameBytes}
use Rattle.hm_model.specs.Volume.{Volume}
use Rattle.hm_stored.specs.Basis.{fulls_in, nodes}
use Rattle.hm_stored.specs.Flushed.{FlushesSpace}
use Rattle.hm_stored.specs.Heap.{Heap}
use Rattle.hm_stored.specs.Standing.{Holds, HoldsBy, basis_now}
use Rattle.hm_state.specs.Flushing.{HoldsFlush}
use Rattle.hm_state.specs.Volume.{HoldsVolume}
use Rattle.hm_state.specs.Written.{IsHeaderOf}
use Rattle.hm_state.proofs.MovedLemmas.{bigblocks_same, current_same, firm_after}
use Rattle.hm_state.proofs.SameLemmas.{fulls_same}
use Rattle.hm_state.proofs.StageHeldLemmas.{Touches, payloads, same_beside}
use Rattle.hm_state.proofs.StageRangeLemmas.{current_beside}

module _ (now : Header) (f f' : Flush) (old new : Heap) (result : Result Stage Fault) (flushes : FlushesSpace now f f' old new result)
    (root last : ℕ) (volume : Volume) (is_header : IsHeaderOf old root last now) (held : HoldsVolume old root last volume)
    (s t : Told) (disk : old.disk ≡ Some s) (is : new.disk ≡ Some t) (touches : Touches f (group_of old.pages) result s t)
    (seen : Told) (committed frozen : Volume) (holds : HoldsFlush f old seen committed frozen) where
  abbrev es : List FullElement
  es = held.elements.0

  same : All (HasSameBytes s.bytes t.bytes) (payloads old.pages.current root)
  same =
      same_beside f (group_of old.pages) result s t touches (payloads old.pages.current root)
      (current_beside f old flushes.flush flushes.ready flushes.before seen committed frozen holds root last volume held)

  was_held : HoldsBy old root s.bytes es
  was_held = subst (λ (o : Option Told). IsSomeAnd o (λ d. HoldsBy old root d.bytes es)) disk held.elements.1

  fulls_kept : fulls_in (basis_now new root) t.bytes ≡ fulls_in (basis_now old root) t.bytes
  fulls_kept = ap (λ (m : PageMap). map (full_of t.bytes) (elements_of (nodes m) root)) (current_same now f f' old new result flushes)

  is_held : HoldsBy new root t.bytes es
  is_held = record {
    firm = firm_after now f f' old new result flushes root last is_header was_held.firm;
    elements = fulls_kept ∙ fulls_same old root s.bytes t.bytes same ∙ was_held.elements;
  }

  pub current_elements : Holds new root held.elements.0
  current_elements = subst (λ (o : Option Told). IsSomeAnd o (λ d. HoldsBy new root d.bytes es)) (sym is) is_held

  pub current_held : HoldsVolume new root last volume
  current_held = record {
    bigblocks = bigblocks_same now f f' old new result flushes ∙ held.bigblocks;
    last_is = held.last_is;
    elements = (es, current_elements, held.elements.2);
  }

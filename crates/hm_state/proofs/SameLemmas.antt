-- Of the bytes of its disk a space holds the payloads of its elements, and nothing else.
use Rattle.std.proofs.Common.{◌≡◌, ℕ, List, None, Option, Some, ◌∙◌, subst}
use Rattle.std.specs.Prelude.{IsSomeAnd}
use Rattle.hm_types.specs.Elements.{FullElement}
use Rattle.hm_disk.specs.Crash.{Told}
use Rattle.hm_image.proofs.SameLemmas.{full_same}
use Rattle.hm_stored.specs.Basis.{IsFirm, elements_in, fulls_in}
use Rattle.hm_stored.specs.Heap.{Heap}
use Rattle.hm_stored.specs.Standing.{Holds, HoldsBy, basis_now}
use Rattle.hm_state.specs.Written.{HasSamePayloads}

-- a space that holds something has its books in order
pub held_firm : (h : Heap) (root : ℕ) (es : List FullElement) → Holds h root es → IsFirm (basis_now h root)
held_firm h root es holds = by h.disk holds where
  by : (d : Option Told) → IsSomeAnd d (λ t. HoldsBy h root t.bytes es) → IsFirm (basis_now h root)
  by None holds = absurd holds
  by (Some t) holds = holds.firm

pub fulls_same : (h : Heap) (root : ℕ) (old new : List ℕ) → HasSamePayloads h root old new
    → fulls_in (basis_now h root) new ≡ fulls_in (basis_now h root) old
fulls_same h root old new same = full_same old new (elements_in (basis_now h root)) same

pub holds_same : (h : Heap) (root : ℕ) (es : List FullElement) (old new : Told) → h.disk ≡ Some old → HasSamePayloads h root old.bytes new.bytes
    → Holds h root es → Holds (record h { disk = Some new }) root es
holds_same h root es old new is same holds =
    let held : HoldsBy h root old.bytes es = subst (λ (o : Option Told). IsSomeAnd o (λ t. HoldsBy h root t.bytes es)) is holds in
    record { firm = held.firm; elements = fulls_same h root old.bytes new.bytes same ∙ held.elements }

-- The current state of a space, as one by itself.
use Rattle.std.proofs.Common.{◌≡◌, ◌∙◌, ℕ, List, None, Option, Some, refl, subst, sym}
use Rattle.std.specs.Prelude.{IsSomeAnd}
use Rattle.hm_types.specs.Elements.{FullElement}
use Rattle.hm_types.specs.References.{IsPlaced, Reference}
use Rattle.hm_disk.specs.Crash.{Told}
use Rattle.hm_freemap.specs.Stand.{IsBelow}
use Rattle.hm_freemap.proofs.ListLemmas.{all_left, apart_left}
use Rattle.hm_header.specs.declared.header.Header.{Header}
use Rattle.hm_model.specs.Volume.{Volume}
use Rattle.hm_stored.specs.Basis.{Basis, IsFirm, fulls_in, refers}
use Rattle.hm_stored.specs.Heap.{Heap}
use Rattle.hm_stored.specs.Standing.{HoldsBy, basis_now}
use Rattle.hm_state.specs.AtRest.{at_rest}
use Rattle.hm_state.specs.Volume.{HoldsVolume}
use Rattle.hm_state.specs.Written.{IsHeaderOf}
use Rattle.hm_state.proofs.ListLemmas.{all_thrice, apart_thrice}

-- the current state of a volume in each of its three
abbrev alone : Basis → Basis
alone b = record {
  bigblocks = b.bigblocks;
  append = b.append;
  maps = record { committed = b.maps.current; frozen = b.maps.current; current = b.maps.current };
  roots = record { committed = b.roots.current; frozen = b.roots.current; current = b.roots.current };
}

-- its books are in order where those of all three are
firm_alone : (b : Basis) → IsFirm b → IsFirm (alone b)
firm_alone b firm =
    let refs : List Reference = refers b.maps.current b.roots.current in
    let stand = firm.stand in
    record {
      tree = firm.tree;
      stand = record {
        committed = stand.current;
        frozen = stand.current;
        current = stand.current;
        appended = stand.appended;
        placed = all_thrice (IsPlaced b.bigblocks) refs (all_left (IsPlaced b.bigblocks) refs _ stand.placed);
        below = all_thrice (IsBelow b.maps.current) refs (all_left (IsBelow b.maps.current) refs _ stand.below);
        apart = apart_thrice refs (apart_left refs _ stand.apart);
        few = (stand.few.2, stand.few.2, stand.few.2);
      };
      zones = firm.zones;
      fixed = firm.fixed;
    }

module _ (h : Heap) (root last : ℕ) (volume : Volume) (header : Header) (holds : HoldsVolume h root last volume) (is : IsHeaderOf h root last header) where
  abbrev rest : Option Told → Heap
  rest disk = at_rest disk header h.pages.current

  -- such a state of so many big-blocks, with these append big-blocks and this root
  abbrev made : ℕ → List ℕ → ℕ → Basis
  made n append r = record {
    bigblocks = n;
    append = append;
    maps = record { committed = h.pages.current; frozen = h.pages.current; current = h.pages.current };
    roots = record { committed = r; frozen = r; current = r };
  }

  basis_same : (disk : Option Told) → basis_now (rest disk) header.root ≡ alone (basis_now h root)
  basis_same disk = by_parts header.bigblocks header.append header.root is.bigblocks is.append is.root_is where
    by_parts : (n : ℕ) (append : List ℕ) (r : ℕ) → n ≡ h.bigblocks → append ≡ h.append → r ≡ root → made n append r ≡ made h.bigblocks h.append root
    by_parts n append r first second third = rw (first, second, third) refl

  held_alone : (t : Told) (es : List FullElement) → HoldsBy h root t.bytes es → HoldsBy (rest (Some t)) header.root t.bytes es
  held_alone t es held =
      let same = basis_same (Some t) in
      record {
        firm = subst IsFirm (sym same) (firm_alone (basis_now h root) held.firm);
        elements = subst (λ (b : Basis). fulls_in b t.bytes ≡ es) (sym same) held.elements;
      }

  pub rest_held : HoldsVolume (rest h.disk) header.root header.last.0 volume
  rest_held = record {
    bigblocks = is.bigblocks ∙ holds.bigblocks;
    last_is = is.last_is ∙ holds.last_is;
    elements = (holds.elements.0, by_disk h.disk holds.elements.1, holds.elements.2);
  } where
    by_disk : (o : Option Told) → IsSomeAnd o (λ t. HoldsBy h root t.bytes holds.elements.0)
        → IsSomeAnd o (λ t. HoldsBy (rest o) header.root t.bytes holds.elements.0)
    by_disk None held = absurd held
    by_disk (Some t) held = held_alone t holds.elements.0 held

-- A look through a whole pseudo file system for a dead element.
use Rattle.std.proofs.Common.{◌≡◌, ℕ, ◌<◌, List, Option, Some, None, sym, subst, arith, inl, inr}
use Rattle.std.specs.List.{Contains}
use Rattle.hm_types.specs.Elements.{Key}
use Rattle.hm_key.specs.Element.{pfs_of}
use Rattle.hm_key.specs.Elements.{element_key, first_from}
use Rattle.hm_key.specs.Key.{IsBoundary, IsFrom, IsWide, key_of}
use Rattle.hm_key.specs.declared.base.Base.{Base}
use Rattle.hm_key.specs.declared.element.Element.{Element}
use Rattle.hm_key.proofs.KeyLemmas.{key_from_fields}
use Rattle.hm_key.proofs.RiseLemmas.{from_rises}
use Rattle.hm_cursor.specs.Shown.{IsAfter, IsToCome}
use Rattle.hm_cursor.proofs.SearchLemmas.{IsFirstFrom, found_none}
use Rattle.hm_cursor.proofs.VersionLemmas.{first_before}
use Rattle.hm_prune.specs.Dead.{IsDeadIn, NoneDead, first_key_of}

-- each dead element is still to come
abbrev pub NonePassed : ℕ → List (ℕ × ℕ) → List Element → Option Base → Type 0
NonePassed pfs kept es from =
    (e : Element) → Contains es e → IsWide (element_key e) → IsDeadIn pfs kept e.base → IsToCome from (element_key e)

-- a look begins before each element of the pseudo file system
pub begins : (pfs : ℕ) (kept : List (ℕ × ℕ)) (es : List Element) (first : Base) → IsBoundary first (first_key_of pfs) → NonePassed pfs kept es (Some first)
begins pfs kept es first boundary e has wide dead =
    subst (λ (k : Key). IsFrom k (element_key e)) (sym boundary.key)
    (key_from_fields (first_key_of pfs) (element_key e) (omega (arith, dead.here)) (omega arith) (omega arith) (omega arith) (omega arith))

-- nothing is dead where a search from there finds nothing
pub none_found : (pfs : ℕ) (kept : List (ℕ × ℕ)) (es : List Element) (at : Base) → first_from (key_of at) es ≡ None → NonePassed pfs kept es (Some at)
    → NoneDead pfs kept es
none_found pfs kept es at found passed e has wide dead = passed e has wide dead (found_none (key_of at) es found e has)

-- nor at the end of the walk
pub none_left : (pfs : ℕ) (kept : List (ℕ × ℕ)) (es : List Element) (from : Option Base) → from ≡ None → NonePassed pfs kept es from → NoneDead pfs kept es
none_left pfs kept es from end passed e has wide dead = subst (λ (o : Option Base). IsToCome o (element_key e)) end (passed e has wide dead)

module _ (pfs : ℕ) (kept : List (ℕ × ℕ)) (es : List Element) (at : Base) (e : Element) (search : IsFirstFrom es (key_of at) e)
    (passed : NonePassed pfs kept es (Some at)) where
  -- what is dead does not stand before what a search finds
  dead_from : (other : Element) → Contains es other → IsWide (element_key other) → IsDeadIn pfs kept other.base → IsFrom (element_key e) (element_key other)
  dead_from other has wide dead = first_before es (key_of at) e other search has (passed other has wide dead)

  -- nothing is dead where a search finds an element of a later pseudo file system
  pub none_beyond : pfs < pfs_of e.base.localization → NoneDead pfs kept es
  none_beyond beyond other has wide dead =
      let up = from_rises (element_key e) (element_key other) (dead_from other has wide dead) in
      let here = dead.here in absurd (omega arith)

  -- where what a search finds is not dead, the look goes on after it
  pub passed_after : (from : Option Base) → IsAfter e.base from → (IsDeadIn pfs kept e.base → ⊥) → NonePassed pfs kept es from
  passed_after from after alive other has wide dead = elim (search.rest other has (passed other has wide dead)) [
    | inl same ↦ absurd (alive (subst (λ (x : Element). IsDeadIn pfs kept x.base) (sym same) dead))
    | inr before ↦ (after (element_key other) wide).1 before
  ]

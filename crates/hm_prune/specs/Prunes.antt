-- What a prune begins with, and what it makes of a store.
use Rattle.std.specs.Prelude.{◌≡◌, ℕ, ◌+◌, ◌≤◌, List, length, Option, IfSome, IsSomeAnd, OnSome, is_some, option_map}
use Rattle.hm_types.specs.Elements.{Key}
use Rattle.hm_key.specs.Balance.{Balanced, IsBalanced, Works, content_of}
use Rattle.hm_key.specs.Elements.{element_key, removed}
use Rattle.hm_key.specs.Extents.{Extent}
use Rattle.hm_key.specs.Key.{IsBoundary}
use Rattle.hm_key.specs.Marks.{NoneFall}
use Rattle.hm_key.specs.declared.element.Element.{Element}
use Rattle.hm_prune.specs.Dead.{NoneDead, first_key_of}
use Rattle.hm_prune.specs.declared.prune.Prune.{Prune}

-- a prune of this pseudo file system for these ids, whose walk begins before the first element
pub record BeginsFor (pfs : ℕ) (kept : List (ℕ × ℕ)) (prune : Prune) : Type 0 where
  pub number : prune.pfs.0 ≡ pfs
  pub ids : prune.kept ≡ kept
  pub first : IsSomeAnd prune.from (λ at. IsBoundary at (first_key_of pfs))

-- the element went, where elements are told
abbrev pub Removes : Element → Option (List Element) → Option (List Element) → Type 0
Removes e old new = new ≡ option_map (removed (element_key e)) old

-- at most so many elements went, where elements are told
abbrev pub LosesAtMost : ℕ → Option (List Element) → Option (List Element) → Type 0
LosesAtMost count old new = IfSome old (λ es. IsSomeAnd new (λ fs. length es ≤ length fs + count))

-- Of a balanced store elements went that may go, with their references, and the rest stayed with its payloads. No mark
-- fell.
pub record Prunes {S : Type 0} (elements_of : S → Option (List Element)) (mark_of : S → Key → ℕ) (extents_of : S → Option (List Extent))
    (kept : ℕ → Option (List (ℕ × ℕ))) (old new : S) : Type 0 where
  pub content : IfSome (content_of (elements_of old) (extents_of old)) (λ was. IsBalanced was.0 was.1
      → IsSomeAnd (content_of (elements_of new) (extents_of new)) (Works kept was))
  pub elements : is_some (elements_of new) ≡ is_some (elements_of old)
  pub extents : is_some (extents_of new) ≡ is_some (extents_of old)
  pub marks : OnSome (elements_of old) (NoneFall (mark_of old) (mark_of new))

-- what a prune says of a store goes by what that tells
pub carried : (pfs : ℕ) (kept : List (ℕ × ℕ)) (es fs : Option (List Element)) (xs ys : Option (List Extent)) → fs ≡ es → ys ≡ xs
    → (Balanced es xs → Balanced fs ys) × (Balanced es xs → Balanced fs ys)
    × (Balanced es xs × IfSome es (NoneDead pfs kept) → Balanced fs ys × IfSome fs (NoneDead pfs kept))
carried pfs kept es fs xs ys elements extents = rw (elements, extents) (λ held. held, λ held. held, λ ends. ends)

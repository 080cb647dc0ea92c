-- The elements of a pseudo file system that are dead for the ids that it keeps.
use Rattle.std.specs.Prelude.{◌≡◌, ℕ, ◌*◌, ◌^◌, if◌then◌else◌, nat_eq, List, Option, None, Some}
use Rattle.std.specs.List.{Contains}
use Rattle.hm_types.specs.Elements.{Key, IsDead}
use Rattle.hm_key.specs.Element.{pfs_of}
use Rattle.hm_key.specs.Elements.{element_at, element_key}
use Rattle.hm_key.specs.Key.{IsWide}
use Rattle.hm_key.specs.declared.base.Base.{Base}
use Rattle.hm_key.specs.declared.element.Element.{Element}

-- these ids are kept in one pseudo file system, and of no other one anything is told
abbrev pub keeps_in : ℕ → List (ℕ × ℕ) → ℕ → Option (List (ℕ × ℕ))
keeps_in pfs kept number = if nat_eq number pfs then Some kept else None

-- a base in the pseudo file system that is dead for these ids
pub record IsDeadIn (pfs : ℕ) (kept : List (ℕ × ℕ)) (base : Base) : Type 0 where
  pub here : pfs_of base.localization ≡ pfs
  pub dead : IsDead kept base.create base.delete

-- no element of the pseudo file system is dead for these ids, whose key is as wide as that of a base
abbrev pub NoneDead : ℕ → List (ℕ × ℕ) → List Element → Type 0
NoneDead pfs kept es = (e : Element) → Contains es e → IsWide (element_key e) → IsDeadIn pfs kept e.base → ⊥

-- what a look through the whole pseudo file system finds: an element that stands in it, and none exactly where none is dead
abbrev pub IsFirstDead : ℕ → List (ℕ × ℕ) → List Element → Option Element → Type 0
IsFirstDead pfs kept es None = NoneDead pfs kept es
IsFirstDead pfs kept es (Some e) = element_at (element_key e) es ≡ Some e

-- the key from which on the elements of a pseudo file system stand
abbrev pub first_key_of : ℕ → Key
first_key_of pfs = record { localization = pfs * 2 ^ 16; obj = 0; rec_type = 0; key = 0; create = 0 }

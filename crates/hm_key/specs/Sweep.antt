-- What a plain job of the tests removes.
use Rattle.std.specs.Prelude.{◌≡◌, ◌≢◌, ℕ, ◌≤◌, if◌then◌else◌, nat_eq, List, [], ◌∷◌, Option, None, Some, IfSome, OnSome, option_map, Bool}
use Rattle.hm_types.specs.Elements.{Key}
use Rattle.hm_key.specs.Balance.{Balanced}
use Rattle.hm_key.specs.Element.{pfs_of}
use Rattle.hm_key.specs.Elements.{element_key, first_from, removed}
use Rattle.hm_key.specs.Extents.{Extent, given_back_at}
use Rattle.hm_key.specs.Job.{Place}
use Rattle.hm_key.specs.Key.{key_of, least_key}
use Rattle.hm_key.specs.declared.base.Base.{Base}
use Rattle.hm_key.specs.declared.element.Element.{Element}

-- how far a walk came that goes on from a key, or has come to its end
abbrev pub place_from : Option Base → Place
place_from None = record { walk = 1; at = least_key }
place_from (Some at) = record { walk = 0; at = key_of at }

-- no element stands from there on
abbrev pub NoneFrom : Option Base → List Element → Type 0
NoneFrom from es = IfSome from (λ at. first_from (key_of at) es ≡ None)

-- one id is kept in one pseudo file system
abbrev pub keeps_one : ℕ → ℕ → ℕ → Option (List (ℕ × ℕ))
keeps_one pfs id number = if nat_eq number pfs then Some ((id, id) ∷ []) else None

-- an element of the pseudo file system that was closed by the id
pub record IsOver (pfs id : ℕ) (base : Base) : Type 0 where
  pub here : pfs_of base.localization ≡ pfs
  pub closed : base.delete ≢ 0
  pub before : base.delete ≤ id

-- an element went with its reference, if it was over; no mark fell
pub record Clears {S : Type 0} (elements_of : S → Option (List Element)) (mark_of : S → Key → ℕ) (extents_of : S → Option (List Extent)) (is_over : Bool)
    (e : Element) (old new : S) : Type 0 where
  pub elements : elements_of new ≡ option_map (λ es. if is_over then removed (element_key e) es else es) (elements_of old)
  pub extents : extents_of new ≡ option_map (λ xs. if is_over then given_back_at e.payload xs else xs) (extents_of old)
  pub marks : OnSome (elements_of old) ((key : Key) → mark_of old key ≤ mark_of new key)

-- what the job says goes by what stores tell
pub carried : (from : Option Base) (es fs : Option (List Element)) (xs ys : Option (List Extent)) → fs ≡ es → ys ≡ xs
    → (Balanced es xs → Balanced fs ys) × (Balanced es xs → Balanced fs ys) × (IfSome es (NoneFrom from) → IfSome fs (NoneFrom from))
carried from es fs xs ys elements extents = rw (elements, extents) (λ held. held, λ held. held, λ none. none)

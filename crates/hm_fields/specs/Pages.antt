-- Pages by their offsets, as a store of pages tells them.
use Rattle.std.specs.Prelude.{◌≡◌, ℕ, ◌==◌, List, Option, Some, None, Result, IfSome, IfErr, if◌then◌else◌}
use Rattle.hm_types.specs.Faults.{HasFaultCause, IsDamageOnlyAt, IsUndamaged}
use Rattle.hm_types.specs.declared.fault.Fault.{Fault}
use Rattle.hm_fields.specs.Fields.{zero_page}

-- the bytes of the page at each offset, and None where there is none
abbrev pub PageMap : Type 0
PageMap = ℕ → Option (List ℕ)

-- the bytes of a page, and zeros where there is none, of which no read tells anything
abbrev pub page_in : Option (List ℕ) → List ℕ
page_in None = zero_page
page_in (Some bytes) = bytes

-- one map has this page at the offset, and is the other one elsewhere
abbrev pub HasPut : ℕ → List ℕ → PageMap → PageMap → Type 0
HasPut at bytes old new = (other : ℕ) → new other ≡ (if other == at then Some bytes else old other)

-- any two maps
abbrev pub AnyMaps : PageMap → PageMap → Type 0
AnyMaps old new = Unit {0}

-- Each fault of a read has its cause in it. Damage is told of the page alone that was asked for, and where the
-- pages are told, of none that is there.
pub record HasReadCause {T : Type 0} (told : Option PageMap) (at old new : ℕ) (result : Result T Fault) : Type 0 where
  pub counted : HasFaultCause old new result
  pub here : IfErr result (IsDamageOnlyAt at)
  pub undamaged : IfSome told (λ map. IfSome (map at) (λ _. IfErr result IsUndamaged))

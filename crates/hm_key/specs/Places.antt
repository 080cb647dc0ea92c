-- Where an element stands in a list.
use Rattle.std.specs.Prelude.{◌≡◌, ℕ, zero, suc, true, false, if◌then◌else◌, List, [], ◌∷◌, ⊤}
use Rattle.hm_types.specs.Elements.{Key}
use Rattle.hm_key.specs.Elements.{stands_at, stands_before}
use Rattle.hm_key.specs.declared.element.Element.{Element}

-- the number of elements before the first one that does not stand before the key
abbrev pub leading : Key → List Element → ℕ
leading at [] = 0
leading at (e ∷ es) = if stands_before at e then suc (leading at es) else 0

-- the first element at the key has this place
abbrev pub IsPlace : Key → List Element → ℕ → Type 0
IsPlace at [] place = ⊥
IsPlace at (e ∷ es) zero = stands_at at e ≡ true
IsPlace at (e ∷ es) (suc place) = (stands_at at e ≡ false) × IsPlace at es place

-- none of the elements before a place stands at the key
abbrev pub NoneBefore : Key → List Element → ℕ → Type 0
NoneBefore at es zero = ⊤
NoneBefore at [] (suc place) = ⊤
NoneBefore at (e ∷ es) (suc place) = (stands_at at e ≡ false) × NoneBefore at es place

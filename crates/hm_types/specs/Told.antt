-- Content that is told, or not.
use Rattle.std.specs.Prelude.{Option, None, Some}

-- both tell, and what they tell is so related, or neither does
abbrev pub BothTell : {A : Type 0} → Option A → Option A → (A → A → Type 0) → Type 0
BothTell None None Relation = Unit {0}
BothTell (Some old) (Some new) Relation = Relation old new
BothTell None (Some new) Relation = ⊥
BothTell (Some old) None Relation = ⊥

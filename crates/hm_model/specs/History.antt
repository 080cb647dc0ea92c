-- Histories.
use Rattle.std.specs.Prelude.{ℕ, List, map}
use Rattle.std.specs.List.Sorted.{IsStrictlyIncreasing}
use Rattle.hm_model.specs.declared.entry.Entry.{Entry}

-- the ids of the entries, in their order
abbrev pub ids_of : List Entry → List ℕ
ids_of history = map (λ e. e.id.0) history

-- a history is a list of entries whose ids rise strictly
abbrev pub IsHistory : List Entry → Type 0
IsHistory history = IsStrictlyIncreasing (ids_of history)

-- What the calls of the tree do to the marks of keys.
use Rattle.std.specs.Prelude.{ℕ}
use Rattle.hm_types.specs.Elements.{Key}
use Rattle.hm_key.specs.declared.base.Base.{Base}
use Rattle.hm_search.specs.Place.{IsInside}
use Rattle.hm_key.specs.Marks.{Marks, MarksJoin, MarksStay}

-- An id is written at a key; or what stands there is taken out, and keys round it may come together; or each mark stays.
pub data Marking : Type 0 where
  Writes : ℕ → Marking
  TakesOut : Marking
  Leaves : Marking

-- the marks of all keys changed so, at this key
abbrev pub MarksBy : Marking → Key → (Key → ℕ) → (Key → ℕ) → Type 0
MarksBy (Writes id) key old new = Marks key id old new
MarksBy TakesOut key old new = MarksJoin key old new
MarksBy Leaves key old new = MarksStay old new

-- Keys came together with those round a key between two boundaries.
pub record JoinsWithin (left right : Base) (key : Key) (old new : Key → ℕ) : Type 0 where
  pub joins : MarksJoin key old new
  pub inside : IsInside left right joins.other

-- the marks below a node between two boundaries changed so: it had to do with keys between these alone
abbrev pub MarksWithin : Marking → Key → Base → Base → (Key → ℕ) → (Key → ℕ) → Type 0
MarksWithin (Writes id) key left right old new = Marks key id old new
MarksWithin TakesOut key left right old new = JoinsWithin left right key old new
MarksWithin Leaves key left right old new = MarksStay old new

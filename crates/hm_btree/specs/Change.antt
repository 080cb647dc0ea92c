-- Changes of an element that stays at its key.
use Rattle.std.specs.Prelude.{◌≡◌, ◌⊎◌, ℕ, ◌<◌, List}
use Rattle.hm_types.specs.Elements.{Key}
use Rattle.hm_types.specs.Offset.{IsOffset}
use Rattle.hm_key.specs.Elements.{changed, closed_at, moved_to}
use Rattle.hm_key.specs.declared.element.Element.{Element}
use Rattle.hm_btree.specs.Marking.{Marking, Writes, Leaves}
use Rattle.hm_btree.specs.declared.change.Change.{Change}
use Rattle.hm_btree.specs.declared.change.Change.TheVariants.{Close, Move}

-- what becomes of the element
abbrev pub change_of : Change → Element → Element
change_of (Close delete) = closed_at delete
change_of (Move to) = moved_to to

-- the id that is written with it
abbrev pub id_of : Change → ℕ
id_of (Close delete) = delete
id_of (Move to) = 0

-- and what that does to the marks
abbrev pub marking_of : Change → Marking
marking_of (Close delete) = Writes delete
marking_of (Move to) = Leaves

-- what an element may become that stands at this key
abbrev pub MayChange : Key → Change → Type 0
MayChange key (Close delete) = (delete ≡ 0) ⊎ (key.create < delete)
MayChange key (Move to) = IsOffset to

-- the list of elements afterwards
abbrev pub with_change : Key → Change → List Element → List Element
with_change key change = changed key (change_of change)

-- What edits make of one node or of two neighbours, as lists of their places.
use Rattle.std.specs.Prelude.{◌≡◌, ℕ, ◌+◌, ◌-◌, ◌/◌, ◌≤◌, Bool, if◌then◌else◌, min, max, List, [], ◌∷◌, length, take, drop, slice_set, slice_index_or}
use Rattle.std.specs.Prelude.{Option, Some, None}
use Rattle.hm_key.specs.declared.base.Base.{Base}
use Rattle.hm_key.specs.declared.element.Element.{Element}
use Rattle.hm_node.specs.declared.leaf.Leaf.{Leaf}
use Rattle.hm_node.specs.declared.inner.Child.{Child}
use Rattle.hm_node.specs.declared.inner.Inner.{Inner}

-- a leaf with these elements
abbrev pub leaf_of : ℕ → List Element → Leaf
leaf_of mirror es = record { mirror = mirror; places = record { items = es } }

-- an inner node with these children
abbrev pub inner_of : ℕ → ℕ → List Child → Base → Inner
inner_of level mirror cs right = record { level = level; mirror = mirror; places = record { items = cs }; right = right }

-- the left boundary of some children, or what comes after them where there are none
abbrev pub left_of : List Child → Base → Base
left_of [] right = right
left_of (c ∷ cs) right = c.left

-- Of a full node with so many places that gets one more at a place: how many the lower one of its two parts keeps. Where
-- that one ends a range whose keys rise, the lower part is cut behind it, as far as each part keeps the least that a node
-- below the root may have; and else it gets a half.
abbrev pub lower_count : ℕ → ℕ → Bool → ℕ
lower_count count at ends = if ends then min (count - 15) (max (at + 1) 16) else count / 2 + 1

-- of so many places in all, the lower part has so many, and each part has as many as a node below the root must have
abbrev pub LeavesBoth : ℕ → ℕ → Type 0
LeavesBoth all lower = (16 ≤ lower) × (lower + 16 ≤ all)

-- A leaf that shall have these elements has them, or has so many of them where they are too many for
-- one; a new leaf then has the others. Both have one `mirror`.
abbrev pub LeafGrown : ℕ → ℕ → List Element → Leaf → Option Leaf → Type 0
LeafGrown lower mirror es leaf None = (leaf ≡ leaf_of mirror es) × (length es ≤ 63)
LeafGrown lower mirror es leaf (Some upper) =
    (leaf ≡ leaf_of mirror (take lower es)) × (upper ≡ leaf_of mirror (drop lower es)) × (length es ≡ 64)

-- The same for an inner node. The boundary between the parts is that of the first child of the new one.
abbrev pub InnerGrown : ℕ → ℕ → ℕ → List Child → Base → Inner → Option Inner → Type 0
InnerGrown lower level mirror cs right inner None = (inner ≡ inner_of level mirror cs right) × (length cs ≤ 62)
InnerGrown lower level mirror cs right inner (Some upper) =
    (inner ≡ inner_of level mirror (take lower cs) (left_of (drop lower cs) right))
    × (upper ≡ inner_of level mirror (drop lower cs) right) × (length cs ≡ 63)

-- the element at a place changed, and no other
abbrev pub ElementChange : (Element → Element) → List Element → ℕ → List Element → Type 0
ElementChange change old at new = (d : Element) → new ≡ slice_set old at (change (slice_index_or old at d))

-- the child at a place changed, and no other
abbrev pub ChildChange : (Child → Child) → List Child → ℕ → List Child → Type 0
ChildChange change old at new = (d : Child) → new ≡ slice_set old at (change (slice_index_or old at d))

-- a child with another `mirror`
abbrev pub with_mirror : ℕ → Child → Child
with_mirror mirror c = record c { mirror = mirror }

-- a child with another left boundary
abbrev pub with_left : Base → Child → Child
with_left left c = record c { left = left }

-- a child that stands elsewhere
abbrev pub with_child : ℕ → Child → Child
with_child at c = record c { child = at }

-- Where a search comes to that looks beside its way down as well, and the neighbours at which it looks.
use Rattle.std.specs.Prelude.{◌≡◌, ◌≢◌, Option, Some, None}
use Rattle.hm_types.specs.Elements.{Key}
use Rattle.hm_key.specs.Key.{key_of, IsFrom}
use Rattle.hm_key.specs.declared.element.Element.{Element}
use Rattle.hm_search.specs.declared.reached.Reached.{Reached}
use Rattle.hm_search.specs.declared.reached.Reached.TheVariants.{Found, Missed, Nothing}
use Rattle.hm_search.specs.declared.subtree.Subtree.{Subtree}

-- the element that was found
abbrev pub element_of : Reached → Option Element
element_of (Found e) = Some e
element_of Missed = None
element_of Nothing = None

-- by what the leaf of the key has
abbrev pub reached_here : Option Element → Reached
reached_here (Some e) = Found e
reached_here None = Missed

-- by what the neighbour of the way down has
abbrev pub reached_beside : Option Element → Reached
reached_beside (Some e) = Found e
reached_beside None = Nothing

-- what is to be found was found, or missed where there is none
abbrev pub IsReached : Option Element → Reached → Type 0
IsReached wanted (Found e) = wanted ≡ Some e
IsReached wanted Missed = wanted ≡ None
IsReached wanted Nothing = ⊥

-- a place below the root, of which nothing is before the key
pub record StartsFrom (key : Key) (s : Subtree) : Type 0 where
  pub child : s.parent ≢ None
  pub from : IsFrom key (key_of s.left)

-- a place below the root, of which nothing is at the key or after it
pub record EndsBy (key : Key) (s : Subtree) : Type 0 where
  pub child : s.parent ≢ None
  pub by : IsFrom (key_of s.right) key

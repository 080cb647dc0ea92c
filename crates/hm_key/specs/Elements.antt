-- Lists of elements in the order of their keys: what stands at a key, and what a call makes of a list.
use Rattle.std.specs.Prelude.{ℕ, max, Bool, if◌then◌else◌, List, [], ◌∷◌, Option, None, Some, All}
use Rattle.std.specs.declared.cmp.Ordering.{Ordering}
use Rattle.std.specs.Option.{option_or}
use Rattle.std.specs.Ordering.{is_lt, is_eq, on}
use Rattle.std.specs.List.Sorted.{IsStrictlySortedBy}
use Rattle.hm_types.specs.Elements.{Key, key_cmp}
use Rattle.hm_key.specs.Key.{key_of}
use Rattle.hm_key.specs.Element.{IsElement}
use Rattle.hm_key.specs.declared.element.Element.{Element}

-- the key at which an element stands
abbrev pub element_key : Element → Key
element_key e = key_of e.base

-- the element stands at the key
abbrev pub stands_at : Key → Element → Bool
stands_at at e = is_eq (key_cmp (element_key e) at)

-- the element stands before the key
abbrev pub stands_before : Key → Element → Bool
stands_before at e = is_lt (key_cmp (element_key e) at)

-- the element stands after the key
abbrev pub stands_after : Key → Element → Bool
stands_after at e = is_lt (key_cmp at (element_key e))

-- how one element stands to another
abbrev pub element_cmp : Element → Element → Ordering
element_cmp = on element_key key_cmp

-- what a store that tells its elements tells
pub record IsContent (es : List Element) : Type 0 where
  pub rising : IsStrictlySortedBy element_cmp es
  pub each : All IsElement es

-- the element that stands at the key, if there is one
abbrev pub element_at : Key → List Element → Option Element
element_at at [] = None
element_at at (e ∷ es) = if stands_at at e then Some e else element_at at es

-- the first element that does not stand before the key, if there is one
abbrev pub first_from : Key → List Element → Option Element
first_from at [] = None
first_from at (e ∷ es) = if stands_before at e then first_from at es else Some e

-- the last element that does not stand after the key, if there is one
abbrev pub last_to : Key → List Element → Option Element
last_to at [] = None
last_to at (e ∷ es) = option_or (last_to at es) (if stands_after at e then None else Some e)

-- with a new element, after all that stand before it
abbrev pub inserted : Element → List Element → List Element
inserted new [] = new ∷ []
inserted new (e ∷ es) = if stands_before (element_key new) e then e ∷ inserted new es else new ∷ e ∷ es

-- without the element at the key
abbrev pub removed : Key → List Element → List Element
removed at [] = []
removed at (e ∷ es) = if stands_at at e then es else e ∷ removed at es

-- with the element at the key changed
abbrev pub changed : Key → (Element → Element) → List Element → List Element
changed at change [] = []
changed at change (e ∷ es) = if stands_at at e then change e ∷ es else e ∷ changed at change es

-- an element with another delete id
abbrev pub closed_at : ℕ → Element → Element
closed_at delete e = record e { base = record e.base { delete = delete } }

-- an element whose payload stands elsewhere
abbrev pub moved_to : ℕ → Element → Element
moved_to payload e = record e { payload = payload }

-- the element at the key gets another delete id
abbrev pub with_delete : Key → ℕ → List Element → List Element
with_delete at delete = changed at (closed_at delete)

-- the payload of the element at the key stands elsewhere
abbrev pub with_payload : Key → ℕ → List Element → List Element
with_payload at payload = changed at (moved_to payload)

-- the greater of an element's two ids
abbrev pub last_id : Element → ℕ
last_id e = max e.base.create e.base.delete

-- Elements with their extents: balance, payloads, and what a unit of a job leaves.
use Rattle.std.specs.Prelude.{◌≡◌, ℕ, nat_eq, List, [], ◌∷◌, map, take, Option, None, Some, IsSomeAnd, IfSome, All, count_by}
use Rattle.hm_types.specs.Elements.{FullElement, IsDead}
use Rattle.hm_key.specs.Element.{pfs_of}
use Rattle.hm_key.specs.Elements.{element_key}
use Rattle.hm_types.specs.Space.{rounded}
use Rattle.hm_key.specs.Extents.{Extent, extent_at}
use Rattle.hm_key.specs.declared.element.Element.{Element}

-- an element's payload begins a live extent of its rounded length
abbrev pub IsHeld : List Extent → Element → Type 0
IsHeld xs e = IsSomeAnd (extent_at e.payload xs) (λ x. x.len ≡ rounded e.len)

-- the number of elements that refer to an extent
abbrev pub references : List Element → Extent → ℕ
references es x = count_by (λ e. nat_eq e.payload x.at) es

-- each element's payload stands in a live extent of its length, and each live extent has as many
-- references as elements refer to it
pub record IsBalanced (es : List Element) (xs : List Extent) : Type 0 where
  pub held : All (IsHeld xs) es
  pub counted : All (λ x. x.refs ≡ references es x) xs

-- the first bytes of an extent, as many as `len`
abbrev pub first_bytes : ℕ → Option Extent → List ℕ
first_bytes len None = []
first_bytes len (Some x) = take len x.bytes

-- an element's payload: the first bytes of the extent at its place, as many as its length
abbrev pub payload_of : List Extent → Element → List ℕ
payload_of xs e = first_bytes e.len (extent_at e.payload xs)

-- an element with its payload, wherever that stands
abbrev pub full_of : List Extent → Element → FullElement
full_of xs e = record {
  key = element_key e;
  delete = e.base.delete;
  obj_type = e.base.obj_type;
  bytes = payload_of xs e;
}

-- all elements with their payloads
abbrev pub full_elements : List Element → List Extent → List FullElement
full_elements es xs = map (full_of xs) es

-- an element is dead for the intervals that are told for its pseudo file system
abbrev pub MayGo : (ℕ → Option (List (ℕ × ℕ))) → FullElement → Type 0
MayGo kept e = IsSomeAnd (kept (pfs_of e.key.localization)) (λ intervals. IsDead intervals e.key.create e.delete)

-- the second list is the first one without some elements, each of which may go
pub data LosesDead (kept : ℕ → Option (List (ℕ × ℕ))) : List FullElement → List FullElement → Type 0 where
  none : LosesDead kept [] []
  keep : {e : FullElement} {es fs : List FullElement} → LosesDead kept es fs → LosesDead kept (e ∷ es) (e ∷ fs)
  lose : {e : FullElement} {es fs : List FullElement} → MayGo kept e → LosesDead kept es fs → LosesDead kept (e ∷ es) fs

-- both lists, where both are told
abbrev pub content_of : Option (List Element) → Option (List Extent) → Option (List Element × List Extent)
content_of None xs = None
content_of (Some es) None = None
content_of (Some es) (Some xs) = Some (es, xs)

-- a store that tells both lists is balanced
abbrev pub Balanced : Option (List Element) → Option (List Extent) → Type 0
Balanced es xs = IfSome (content_of es xs) (λ content. IsBalanced content.0 content.1)

-- what a unit of a job did of a balanced store: it is balanced still, and has the same elements with their
-- payloads, but for some that may go
pub record Works (kept : ℕ → Option (List (ℕ × ℕ))) (old new : List Element × List Extent) : Type 0 where
  pub balanced : IsBalanced new.0 new.1
  pub elements : LosesDead kept (full_elements old.0 old.1) (full_elements new.0 new.1)

-- Which elements have their payload in the big-blocks of a choice.
use Rattle.std.specs.Prelude.{◌≡◌, ◌⊎◌, ℕ, ◌≤◌, ◌==◌, not, List, ◌++◌, Option, None, Some, IfSome}
use Rattle.std.specs.List.{Contains, filter}
use Rattle.hm_types.specs.Layout.{block_of}
use Rattle.hm_types.specs.Offset.{byte_of, zone_of}
use Rattle.hm_types.specs.Space.{IsPayloadZone}
use Rattle.hm_types.specs.Elements.{Key}
use Rattle.hm_key.specs.Elements.{element_at, element_key}
use Rattle.hm_key.specs.Key.{IsFrom, IsWide}
use Rattle.hm_key.specs.Job.{IfProgress}
use Rattle.hm_key.specs.declared.base.Base.{Base}
use Rattle.hm_key.specs.declared.element.Element.{Element}
use Rattle.hm_key.specs.declared.job.Progress.{Progress}
use Rattle.hm_cursor.specs.Shown.{IsToCome}

-- an offset is one of payloads, and lies in one of these big-blocks
pub record LiesThere (choice : List ℕ) (at : ℕ) : Type 0 where
  pub zone : IsPayloadZone (zone_of at)
  pub block : Contains choice (block_of (byte_of at))

-- the payload of an element is an extent that begins there
pub record IsInChoice (choice : List ℕ) (e : Element) : Type 0 where
  pub some : 1 ≤ e.len
  pub lies : LiesThere choice e.payload

-- no element has its payload there, whose key is as wide as that of a base
abbrev pub NoneChosen : List ℕ → List Element → Type 0
NoneChosen choice es = (e : Element) → Contains es e → IsWide (element_key e) → IsInChoice choice e → ⊥

-- an element has
pub record SomeChosen (choice : List ℕ) (es : List Element) : Type 0 where
  pub element : Element
  pub there : Contains es element
  pub chosen : IsInChoice choice element

-- there is more to do exactly where an element has
abbrev pub TellsLeft : List ℕ → List Element → Progress → Type 0
TellsLeft choice es = IfProgress (SomeChosen choice es) (NoneChosen choice es)

-- an element has, in this zone
pub record SomeChosenIn (zone : ℕ) (choice : List ℕ) (es : List Element) : Type 0 where
  pub element : Element
  pub there : Contains es element
  pub chosen : IsInChoice choice element
  pub zone_is : zone_of element.payload ≡ zone

-- the zone of a payload that lies there, and none exactly where none does
abbrev pub IsZoneChosen : List ℕ → List Element → Option ℕ → Type 0
IsZoneChosen choice es None = NoneChosen choice es
IsZoneChosen choice es (Some zone) = SomeChosenIn zone choice es

-- what a look from a key on finds: an element that stands in the list, and none exactly where no payload of an element from
-- there on lies in the choice
abbrev pub IsFirstInChoice : List ℕ → List Element → Key → Option Element → Type 0
IsFirstInChoice choice es from None = (e : Element) → Contains es e → IsWide (element_key e) → IsInChoice choice e → IsFrom from (element_key e) → ⊥
IsFirstInChoice choice es from (Some e) = element_at (element_key e) es ≡ Some e

-- an element has the key of one that was found earlier, and the same extent, which lies in the choice
pub record IsStill (choice : List ℕ) (known e : Element) : Type 0 where
  pub key : element_key e ≡ element_key known
  pub payload : e.payload ≡ known.payload
  pub chosen : IsInChoice choice e

-- whether such an element stands in the list
abbrev pub StandsStill : List ℕ → List Element → Element → Option Element → Type 0
StandsStill choice es known None = IfSome (element_at (element_key known) es) (λ e. IsStill choice known e → ⊥)
StandsStill choice es known (Some e) = element_at (element_key e) es ≡ Some e

-- a choice without one of its big-blocks
abbrev pub without_block : ℕ → List ℕ → List ℕ
without_block block choice = filter (λ b. not (b == block)) choice

-- a list is the front of another one
abbrev pub IsFront : List Element → List Element → Type 0
IsFront front whole = (rest : List Element) × (whole ≡ front ++ rest)

-- each element from a key on whose payload lies in the choice was noted, or is still to come
abbrev pub AllNoted : List ℕ → List Element → Key → Option Base → List Element → Type 0
AllNoted choice es from next known =
    (e : Element) → Contains es e → IsWide (element_key e) → IsInChoice choice e → IsFrom from (element_key e)
    → Contains known e ⊎ IsToCome next (element_key e)

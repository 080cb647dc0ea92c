-- Which element is found of those in a span.
use Rattle.std.specs.Prelude.{ℕ, ◌+◌, List, Option, None, Some}
use Rattle.hm_types.specs.Elements.{Key}
use Rattle.hm_key.specs.declared.element.Element.{Element}
use Rattle.hm_cursor.specs.Version.{IsFirst, IsFirstIn, IsLast, IsLastIn, numbered}

-- Of the elements in a span that count this is the last one up to a number, and only where none counts up to it the first one
-- past it.
pub data IsNearest (es : List Element) (at : Key) (near last t : ℕ) (e : Element) : Type 0 where
  up_to : IsLastIn es at near t e → IsNearest es at near last t e
  past : IsLast es at near t None → IsFirstIn es (numbered at (near + 1)) last t e → IsNearest es at near last t e

-- it is found, and none exactly where none counts in the span
abbrev pub FindsNearest : List Element → Key → ℕ → ℕ → ℕ → Option Element → Type 0
FindsNearest es at near last t None = IsFirst es at last t None
FindsNearest es at near last t (Some e) = IsNearest es at near last t e

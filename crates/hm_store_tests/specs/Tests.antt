-- What the tests keep of a store.
use Rattle.std.specs.Prelude.{ℕ, List, Option, IfSome}
use Rattle.hm_key.specs.Balance.{Balanced, content_of}
use Rattle.hm_key.specs.Extents.{Extent}
use Rattle.hm_key.specs.Versions.{IsBelow}
use Rattle.hm_key.specs.declared.element.Element.{Element}
use Rattle.hm_cursor.specs.Told.{fulls}

-- a store is balanced, and all its ids are below the next one
pub record IsReady (es : Option (List Element)) (xs : Option (List Extent)) (next : ℕ) : Type 0 where
  pub balanced : Balanced es xs
  pub below : IfSome (content_of es xs) (λ lists. IsBelow next (fulls lists))

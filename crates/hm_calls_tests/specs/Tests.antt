-- What the tests keep of a store.
use Rattle.std.specs.Prelude.{ℕ, ◌<◌, ◌^◌, Bool, true, false, List, length, nat_eq, Option, IfSome, if◌then◌else◌}
use Rattle.std.proofs.Common.{lit<}
use Rattle.hm_key.specs.Balance.{Balanced, content_of}
use Rattle.hm_key.specs.Extents.{Extent}
use Rattle.hm_key.specs.Versions.{IsBelow}
use Rattle.hm_key.specs.declared.element.Element.{Element}
use Rattle.hm_cursor.specs.Names.{IsHash}
use Rattle.hm_cursor.specs.Told.{fulls}
use Rattle.hm_calls.specs.Known.{AreKnown}

-- a store is balanced, and its next call has this id
pub record IsReady (es : Option (List Element)) (xs : Option (List Extent)) (next : ℕ) : Type 0 where
  pub balanced : Balanced es xs
  pub known : AreKnown es xs next

-- a store is balanced, and all its ids are below the next one
pub record IsMade (es : Option (List Element)) (xs : Option (List Extent)) (next : ℕ) : Type 0 where
  pub balanced : Balanced es xs
  pub below : IfSome (content_of es xs) (λ lists. IsBelow next (fulls lists))

-- a hash of two values, by the length of a name
abbrev pub length_hash : List ℕ → ℕ
length_hash name = if nat_eq (length name) 1 then 0 else 1099511627776

-- each of the two has 8 bytes
one_of_two_few : (short : Bool) → (if short then 0 else 1099511627776) < 2 ^ 64
one_of_two_few true = lit< tt
one_of_two_few false = lit< tt

pub length_hash_few : IsHash length_hash
length_hash_few name = one_of_two_few (nat_eq (length name) 1)

-- The keys of a name, and what a look under them tells of the name.
use Rattle.std.proofs.Common.{◌≡◌, ℕ, ◌+◌, ◌/◌, ◌^◌, ◌<◌, ◌≤◌, List, Option, None, Some, arith}
use Rattle.hm_types.specs.Elements.{FullElement}
use Rattle.hm_types.specs.declared.id.Obj.{Obj}
use Rattle.hm_key.specs.Counts.{Counts}
use Rattle.hm_key.specs.Extents.{Extent}
use Rattle.hm_key.specs.declared.element.Element.{Element}
use Rattle.hm_records.specs.Changes.{LacksName}
use Rattle.hm_records.specs.KeysFit.{KeysFit}
use Rattle.hm_records.specs.View.{HasEntry}
use Rattle.hm_cursor.specs.Names.{IsNameIn, LacksNameIn}
use Rattle.hm_cursor.specs.Told.{Lists, OnBalanced, fulls}
use Rattle.hm_cursor.proofs.NameLemmas.{entry_fits}
use Rattle.hm_dirs.specs.Names.{IsLookedUp, OnNamed, first_key}

-- a key that fits a hash is one of 65,536 keys
pub in_keys : (key hash : ℕ) → key / 2 ^ 16 ≡ hash / 2 / 2 ^ 16 → (first_key hash ≤ key) × (key < first_key hash + 65536)
in_keys key hash same = (omega arith, omega arith)

pub entry_keys : (hash : List ℕ → ℕ) (es : List FullElement) (t pfs : ℕ) (directory : Obj) (key : ℕ) (name : List ℕ) (object : Obj) → KeysFit hash es
    → HasEntry (Counts es t) pfs directory key name object → (first_key (hash name) ≤ key) × (key < first_key (hash name) + 65536)
entry_keys hash es t pfs directory key name object fit has = in_keys key (hash name) (entry_fits hash es t pfs directory key name object fit has)

-- a name that is under none of its keys is not there
pub lacks_all : (hash : List ℕ → ℕ) (es : List FullElement) (t pfs : ℕ) (directory : Obj) (name : List ℕ) (first end : ℕ) → first ≡ first_key (hash name)
    → end ≡ first + 65536 → LacksNameIn (Counts es t) pfs directory name first end → KeysFit hash es → LacksName (Counts es t) pfs directory name
lacks_all hash es t pfs directory name first end is size lacks fit key object has =
    let keys = entry_keys hash es t pfs directory key name object fit has in
    lacks key object (omega (arith, is, keys.0)) (omega (arith, is, size, keys.1)) has

-- a look under all keys of a name tells where the name leads
module _ (hash : List ℕ → ℕ) (t pfs : ℕ) (directory : Obj) (name : List ℕ) (first last : ℕ) (is : first ≡ first_key (hash name))
    (size : last ≡ first + 65535) where
  looked_up : (lists : Lists) (found : Option (ℕ × Obj)) → IsNameIn (Counts (fulls lists) t) pfs directory first last name found → KeysFit hash (fulls lists)
      → IsLookedUp t pfs directory name found lists
  looked_up lists None none fit =
      lacks_all hash (fulls lists) t pfs directory name first (last + 1) is (omega (arith, size))
      (λ key object from below has. none key object from (omega arith) has) fit
  looked_up lists (Some found) in_span fit = record {
    there = in_span.there;
    first = λ other object has.
        let keys = entry_keys hash (fulls lists) t pfs directory other name object fit has in
        in_span.least other object (omega (arith, is, keys.0)) (omega (arith, is, size, keys.1)) has;
  }

  pub told_name : (es : Option (List Element)) (xs : Option (List Extent)) (found : Option (ℕ × Obj))
      → OnBalanced es xs (λ lists. IsNameIn (Counts (fulls lists) t) pfs directory first last name found)
      → OnNamed hash es xs (IsLookedUp t pfs directory name found)
  told_name None xs found told = tt
  told_name (Some es) None found told = tt
  told_name (Some es) (Some xs) found told = λ balanced fit. looked_up (es, xs) found (told balanced) fit

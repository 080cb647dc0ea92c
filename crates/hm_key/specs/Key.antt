-- The keys of bases, and the boundaries of the whole tree.
use Rattle.std.specs.Prelude.{◌≡◌, ◌≢◌, ◌^◌, ◌-◌, ◌<◌, Option, None, Some}
use Rattle.std.specs.declared.cmp.Ordering.TheVariants.{Less}
use Rattle.hm_types.specs.Elements.{Key, key_cmp}
use Rattle.hm_key.specs.declared.base.Base.{Base}
use Rattle.hm_key.specs.declared.base.TheConstants.{BOUNDARY}

-- the key of a base: all of it but the id that closed it, the kind of its object and its `btype`
abbrev pub key_of : Base → Key
key_of base = record {
  localization = base.localization;
  obj = base.obj.0;
  rec_type = base.rec_type;
  key = base.key;
  create = base.create;
}

-- the key of the left boundary of the whole tree
abbrev pub least_key : Key
least_key = record { localization = 0; obj = 0; rec_type = 0; key = 0; create = 0 }

-- the key of the right boundary of the whole tree: the greatest number of each field
abbrev pub greatest_key : Key
greatest_key = record {
  localization = 2 ^ 32 - 1;
  obj = 2 ^ 64 - 1;
  rec_type = 2 ^ 16 - 1;
  key = 2 ^ 64 - 1;
  create = 2 ^ 64 - 1;
}

-- one key is before another
abbrev pub IsBefore : Key → Key → Type 0
IsBefore a b = key_cmp a b ≡ Less

-- one key is another, or after it
abbrev pub IsFrom : Key → Key → Type 0
IsFrom a b = key_cmp b a ≢ Less

-- a key whose fields are as wide as those of a base
pub record IsWide (key : Key) : Type 0 where
  pub localization : key.localization < 2 ^ 32
  pub obj : key.obj < 2 ^ 64
  pub rec_type : key.rec_type < 2 ^ 16
  pub number : key.key < 2 ^ 64
  pub create : key.create < 2 ^ 64

-- a boundary with this key
pub record IsBoundary (base : Base) (at : Key) : Type 0 where
  pub key : key_of base ≡ at
  pub not_closed : base.delete ≡ 0
  pub no_kind : base.obj_type ≡ 0
  pub btype : base.btype ≡ BOUNDARY

-- the key that comes next after another one: no base has a key between them
pub record IsNextKey (at next : Key) : Type 0 where
  pub wide : IsWide next
  pub after : IsBefore at next
  pub first : (key : Key) → IsWide key → IsBefore at key → IsFrom next key

-- the boundary at the key that comes next, and none exactly after the greatest key
abbrev pub IsKeyAfter : Key → Option Base → Type 0
IsKeyAfter at None = at ≡ greatest_key
IsKeyAfter at (Some next) = IsBoundary next (key_of next) × IsNextKey at (key_of next)

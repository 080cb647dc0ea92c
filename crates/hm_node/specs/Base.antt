-- How a base stands in a page.
use Rattle.std.specs.Prelude.{ℕ, ◌+◌, List}
use Rattle.std.specs.declared.cmp.Ordering.{Ordering}
use Rattle.std.specs.Ordering.{on}
use Rattle.hm_types.specs.Elements.{key_cmp}
use Rattle.hm_fields.specs.Fields.{get}
use Rattle.hm_key.specs.Key.{key_of}
use Rattle.hm_key.specs.declared.base.Base.{Base}

-- the base in the 40 bytes from `at` on
unfoldable pub base_in : List ℕ → ℕ → Base
base_in page at = record {
  obj = record { 0 = get page at 8 };
  key = get page (at + 8) 8;
  create = get page (at + 16) 8;
  delete = get page (at + 24) 8;
  rec_type = get page (at + 32) 2;
  obj_type = get page (at + 34) 1;
  btype = get page (at + 35) 1;
  localization = get page (at + 36) 4;
}

-- the order of bases is that of their keys
abbrev pub base_cmp : Base → Base → Ordering
base_cmp = on key_of key_cmp

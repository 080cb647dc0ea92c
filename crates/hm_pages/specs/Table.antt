-- The committed pages.
use Rattle.std.specs.Prelude.{option_map, nat_eq}
use Rattle.std.specs.HashMap as hash
use Rattle.hm_fields.specs.Pages.{PageMap}
use Rattle.hm_pages.specs.Counts.{bytes_of}
use Rattle.hm_pages.specs.declared.table.Table.{Table}

-- the page at an offset
abbrev pub page_at : Table → PageMap
page_at table at = option_map bytes_of (hash.get nat_eq table.pages at)

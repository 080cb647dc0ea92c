-- What a table of changed pages holds.
use Rattle.std.specs.Prelude.{option_map, nat_eq}
use Rattle.std.specs.HashMap as hash
use Rattle.hm_pages.specs.Counts.{bytes_of}
use Rattle.hm_pages.specs.Maps.{ChangeMap}
use Rattle.hm_pages.specs.declared.changes.Changes.{Changes}

-- what was changed at an offset
abbrev pub change_at : Changes → ChangeMap
change_at changes at = option_map (option_map bytes_of) (hash.get nat_eq changes.places at)

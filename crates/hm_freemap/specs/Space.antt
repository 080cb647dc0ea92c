-- The space of a freemap, by its maps alone: what zones have left, and how many big-blocks are free.
use Rattle.std.specs.Prelude.{ℕ, List}
use Rattle.hm_freemap.specs.Stand.{Maps, free_by, room_in}

-- the append big-blocks and the maps of a freemap
pub record Space : Type 0 where
  pub append : List ℕ
  pub maps : Maps

abbrev pub space_of : List ℕ → Maps → Space
space_of append maps = record { append = append; maps = maps }

abbrev pub room_at : Space → ℕ → ℕ
room_at space = room_in space.append space.maps.current

abbrev pub free_at : ℕ → Space → ℕ
free_at bigblocks space = free_by bigblocks space.append space.maps

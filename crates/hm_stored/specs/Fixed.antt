-- What of a disk no call touches: what lies before the pool, and what the trees of the three states refer to.
use Rattle.std.specs.Prelude.{ℕ, ◌+◌, Bool, ◌&&◌, ◌||◌, nat_le, nat_lt, List, [], Option, None, Some, if◌then◌else◌, option_map, slice_index}
use Rattle.std.specs.List.{list_any}
use Rattle.hm_types.specs.Layout.{first_pool, start_of}
use Rattle.hm_types.specs.References.{Reference, begin_of}
use Rattle.hm_disk.specs.Crash.{Told, is_outside}
use Rattle.hm_freemap.specs.Stand.{all_of}
use Rattle.hm_stored.specs.Basis.{Basis, states_of}

-- whether a reference names a byte
abbrev pub does_name : ℕ → Reference → Bool
does_name byte r = nat_le (begin_of r) byte && nat_lt byte (begin_of r + r.len)

-- Whether a byte of a volume of so many big-blocks is fixed: it lies before the pool, or it is known what the trees
-- refer to and one of these references names it.
abbrev pub is_fixed : ℕ → Bool → List Reference → ℕ → Bool
is_fixed bigblocks known refs byte = nat_lt byte (start_of (first_pool bigblocks)) || (known && list_any (does_name byte) refs)

-- what the three trees of a state refer to, where there is one
abbrev pub refs_with : Option Basis → List Reference
refs_with None = []
refs_with (Some b) = all_of (states_of b)

-- For each fixed byte what a disk has there, and whether that is settled, where the disk tells.
unfoldable pub fixed_with : ℕ → Bool → List Reference → Option Told → Option (ℕ → Option (ℕ × Bool))
fixed_with bigblocks known refs disk =
    option_map (λ t byte. if is_fixed bigblocks known refs byte then Some (slice_index t.bytes byte, is_outside t.unsettled byte) else None) disk

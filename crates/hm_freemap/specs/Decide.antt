-- A test whether a freemap stands for references. It is made of a test for each fact that `StandBy` is made of.
use Rattle.std.specs.Prelude.{ℕ, zero, suc, ◌+◌, ◌-◌, ◌%◌, Bool, true, ◌&&◌, ◌||◌, nat_eq, nat_lt, nat_le, List, [], ◌∷◌, length, slice_index, pos}
use Rattle.std.specs.Prelude.{◌+ℤ◌, count_by}
use Rattle.std.specs.List.{list_all}
use Rattle.std.specs.Ordering.{int_eq}
use Rattle.hm_types.specs.Layout.{block_of, first_pool, start_of}
use Rattle.hm_types.specs.Offset.{volume_of, zone_of}
use Rattle.hm_types.specs.References.{Reference, References, begin_of, end_of, is_there, live_bytes, unit_of}
use Rattle.hm_types.specs.Space.{rounded}
use Rattle.hm_types.specs.declared.limits.TheConstants.{BIGBLOCK_BYTES}
use Rattle.hm_types.specs.declared.space.TheConstants.{MOST_REFERENCES}
use Rattle.hm_types.specs.declared.zone.TheConstants.{TREE_ZONE, SMALL_ZONE}
use Rattle.hm_fields.specs.Fields.{get}
use Rattle.hm_fields.specs.Pages.{PageMap}
use Rattle.hm_freemap.specs.Entry.{entry_in}
use Rattle.hm_freemap.specs.Places.{place_of}
use Rattle.hm_freemap.specs.Stand.{Maps, all_of, entry_of, entry_page, home_of}
use Rattle.hm_freemap.specs.declared.entry.Entry.{Entry}
use Rattle.hm_freemap.specs.declared.entry.TheConstants.{UNUSED}

-- whether each number below a bound passes a test
abbrev pub is_each_below : (ℕ → Bool) → ℕ → Bool
is_each_below test zero = true
is_each_below test (suc n) = test n && is_each_below test n

-- whether a big-block is of the pool
abbrev pub is_in_pool : ℕ → ℕ → Bool
is_in_pool bigblocks block = nat_le (first_pool bigblocks) block && nat_lt block bigblocks

-- whether an entry is that of one that belongs to a zone
abbrev pub is_owned : Entry → Bool
is_owned e =
    (nat_le TREE_ZONE e.zone && nat_le e.zone SMALL_ZONE) && (nat_le e.append_off BIGBLOCK_BYTES && nat_eq (e.append_off % unit_of e.zone) 0)

-- and of one that was never begun
abbrev pub is_never_begun : Entry → Bool
is_never_begun e = nat_eq e.zone UNUSED && (nat_eq e.append_off 0 && int_eq e.bytes_free (pos BIGBLOCK_BYTES))

-- whether a page has an entry for a big-block of the pool, and zeros after it
abbrev pub holds_pool_entry : List ℕ → ℕ → Bool
holds_pool_entry page block =
    (is_owned (entry_in page (place_of block)) || is_never_begun (entry_in page (place_of block))) && nat_eq (get page (place_of block + 12) 4) 0

-- whether it tells the space that these references leave free
abbrev pub tells_block : PageMap → List Reference → ℕ → Bool
tells_block map refs block =
    holds_pool_entry (entry_page map block) block && int_eq ((entry_of map block).bytes_free +ℤ pos (live_bytes refs block)) (pos BIGBLOCK_BYTES)

-- whether each of the pool does
abbrev pub tells : ℕ → PageMap → List Reference → Bool
tells bigblocks map refs = is_each_below (λ block. nat_lt block (first_pool bigblocks) || tells_block map refs block) bigblocks

-- whether the append big-blocks are four of the pool, each of its own zone
abbrev pub are_appended : ℕ → List ℕ → PageMap → Bool
are_appended bigblocks append current =
    nat_eq (length append) 4 && (is_each_below (λ k. is_in_pool bigblocks (slice_index append k)) 4
    && is_each_below (λ k. nat_eq (entry_of current (slice_index append k)).zone (TREE_ZONE + k)) 4)

-- whether an extent may stand where it does
abbrev pub is_placed : ℕ → Reference → Bool
is_placed bigblocks r =
    nat_le 1 r.len && (nat_eq (volume_of r.at) 0 && ((nat_le TREE_ZONE (zone_of r.at) && nat_le (zone_of r.at) SMALL_ZONE)
    && (nat_eq (begin_of r % unit_of (zone_of r.at)) 0
    && (is_in_pool bigblocks (block_of (begin_of r)) && nat_eq (block_of (end_of r - 1)) (block_of (begin_of r))))))

-- whether its big-block belongs to its zone, and is filled beyond its end
abbrev pub is_below : PageMap → Reference → Bool
is_below current r =
    nat_eq (entry_of current (home_of r)).zone (zone_of r.at) && nat_le (end_of r) (start_of (home_of r) + (entry_of current (home_of r)).append_off)

-- whether two extents are one, or share no byte
abbrev pub do_not_overlap : Reference → Reference → Bool
do_not_overlap r s =
    (nat_eq r.at s.at && nat_eq (rounded r.len) (rounded s.len)) || (nat_le (end_of r) (begin_of s) || nat_le (end_of s) (begin_of r))

-- whether that is so of each two
abbrev pub none_overlap : List Reference → Bool
none_overlap [] = true
none_overlap (r ∷ rs) = list_all (do_not_overlap r) rs && none_overlap rs

-- whether no extent has more references than one may have
abbrev pub are_few : List Reference → Bool
are_few rs = list_all (λ r. nat_le (count_by (is_there r) rs) MOST_REFERENCES) rs

-- whether the freemap stands for what three states refer to
unfoldable pub is_standing : ℕ → List ℕ → Maps → References → Bool
is_standing bigblocks append maps states =
    (tells bigblocks maps.committed states.committed && (tells bigblocks maps.frozen states.frozen && tells bigblocks maps.current states.current))
    && (are_appended bigblocks append maps.current
    && ((list_all (is_placed bigblocks) (all_of states) && list_all (is_below maps.current) (all_of states))
    && (none_overlap (all_of states) && (are_few states.committed && (are_few states.frozen && are_few states.current)))))

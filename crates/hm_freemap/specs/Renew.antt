-- How zones begin new big-blocks, one after the other.
use Rattle.std.specs.Prelude.{◌≡◌, ◌≢◌, ◌⊎◌, ℕ, ◌+◌, ◌<◌, ◌≤◌, Bool, true, false, List, length, take, slice_index, slice_set, get_or, count_by}
use Rattle.hm_types.specs.Offset.{zone_of}
use Rattle.hm_types.specs.References.{References, is_append}
use Rattle.hm_types.specs.declared.limits.TheConstants.{BIGBLOCK_BYTES}
use Rattle.hm_types.specs.declared.zone.TheConstants.{TREE_ZONE, FREEMAP_ZONE}
use Rattle.hm_fields.specs.Pages.{PageMap}
use Rattle.hm_freemap.specs.Admit.{IsFreeAt, entry_begun}
use Rattle.hm_freemap.specs.Places.{page_of}
use Rattle.hm_freemap.specs.Stand.{Maps, StandBy, AreDistinct, AreOfPool, EntryPut, entry_of, entry_part, room_in, is_free_by, free_by}

-- how many zones lack room
abbrev pub lacking_count : List Bool → ℕ
lacking_count lack = count_by (λ lacks. lacks) lack

-- how many of the first k do
abbrev pub count_first : List Bool → ℕ → ℕ
count_first lack k = lacking_count (take k lack)

-- whether the zone with this place among the four lacks room
abbrev pub lacks_at : List Bool → ℕ → Bool
lacks_at lack k = get_or lack k false

-- a zone began a big-block, where it lacks room
abbrev pub Begins : Bool → ℕ → ℕ → List ℕ → List ℕ → PageMap → PageMap → Type 0
Begins true k block append append' old new = (append' ≡ slice_set append k block) × EntryPut block (entry_begun (TREE_ZONE + k)) old new
Begins false k block append append' old new = (append' ≡ append) × (new ≡ old)

-- the first of some big-blocks, as many as are needed, are the lowest free ones in their order
pub record AreFresh (bigblocks : ℕ) (test : ℕ → Bool) (fresh : List ℕ) (needed : ℕ) : Type 0 where
  pub each : (i : ℕ) → i < needed → IsFreeAt bigblocks test i (slice_index fresh i)

-- what is then known, where these were free by the maps
pub record Renewed (bigblocks : ℕ) (lack : List Bool) (fresh : List ℕ) (k next : ℕ) (append append' : List ℕ) (maps maps' : Maps) : Type 0 where
  pub stand : (states : References) → StandBy bigblocks append maps states → StandBy bigblocks append' maps' states
  pub pool : AreOfPool bigblocks append → AreOfPool bigblocks append'
  pub distinct : AreDistinct append → AreDistinct append'
  pub no_more : free_by bigblocks append' maps' ≤ free_by bigblocks append maps
  pub paid : free_by bigblocks append maps ≤ free_by bigblocks append' maps' + next
  pub left : (i : ℕ) → next ≤ i → i < lacking_count lack → is_append append' (slice_index fresh i) ≡ false
  pub kept : (i : ℕ) → next ≤ i → i < lacking_count lack → entry_of maps'.current (slice_index fresh i) ≡ entry_of maps.current (slice_index fresh i)
  pub begun : (j : ℕ) → j < 4 → j < k → lacks_at lack j ≡ true → slice_index append' j ≡ slice_index fresh (count_first lack j)
  pub others : (j : ℕ) → j < 4 → (k ≤ j) ⊎ (lacks_at lack j ≡ false) → slice_index append' j ≡ slice_index append j
  pub done : (j : ℕ) → j < 4 → j < k → lacks_at lack j ≡ true → room_in append' maps'.current (TREE_ZONE + j) ≡ BIGBLOCK_BYTES
  pub undone : (j : ℕ) → j < 4 → (k ≤ j) ⊎ (lacks_at lack j ≡ false) → room_in append' maps'.current (TREE_ZONE + j) ≡ room_in append maps.current (TREE_ZONE + j)

-- the maps of three states
abbrev pub maps_of_states : PageMap → PageMap → PageMap → Maps
maps_of_states committed frozen current = record { committed = committed; frozen = frozen; current = current }

-- the first k zones have begun a new big-block each, where they lack room
pub record Renewing (lack : List Bool) (fresh : List ℕ) (k next : ℕ) (append append' : List ℕ) (old now : PageMap) : Type 0 where
  pub four : length append' ≡ 4
  pub pages : (at : ℕ) → zone_of at ≢ FREEMAP_ZONE → now at ≡ old at
  pub entries : (block : ℕ) → ((j : ℕ) → j < 4 → j < k → lacks_at lack j ≡ true → slice_index fresh (count_first lack j) ≢ block)
      → (entry_of now block ≡ entry_of old block) × (entry_part now block ≡ entry_part old block)
  pub elsewhere : (at : ℕ) → ((j : ℕ) → j < 4 → j < k → lacks_at lack j ≡ true → page_of (slice_index fresh (count_first lack j)) ≢ at) → now at ≡ old at
  pub each : (bigblocks : ℕ) (c f : PageMap) → AreFresh bigblocks (is_free_by append (maps_of_states c f old)) fresh (lacking_count lack)
      → Renewed bigblocks lack fresh k next append append' (maps_of_states c f old) (maps_of_states c f now)

-- What the calls on extents do to the freemap, and to the states for which it stands.
use Rattle.std.specs.Prelude.{◌≡◌, ◌≢◌, ◌⊎◌, ℕ, ◌+◌, ◌%◌, ◌<◌, ◌≤◌, Bool, ◌&&◌, nat_eq, if◌then◌else◌, List, [], ◌∷◌, Option, IsTrue, IsSomeAnd, All, count_by}
use Rattle.std.specs.List.{list_any}
use Rattle.hm_types.specs.Layout.{start_of}
use Rattle.hm_types.specs.Offset.{zone_of, byte_of}
use Rattle.hm_types.specs.References.{Reference, References, is_there, unit_of, begin_of, end_of}
use Rattle.hm_types.specs.Space.{Spends, rounded, in_zone, nothing}
use Rattle.hm_types.specs.declared.space.TheConstants.{MOST_REFERENCES}
use Rattle.hm_types.specs.declared.zone.TheConstants.{FREEMAP_ZONE}
use Rattle.hm_fields.specs.Pages.{PageMap}
use Rattle.hm_freemap.specs.Change.{MayHold, appended}
use Rattle.hm_freemap.specs.Space.{free_at, room_at, space_of}
use Rattle.hm_freemap.specs.Stand.{Maps, WhereTold, StandBy, AreDistinct, EntryChanged, append_of, all_of, entry_of, home_of, room_in}
use Rattle.hm_freemap.specs.declared.entry.Entry.{Entry}

-- a reference to so many bytes at an offset
abbrev pub reference : ℕ → ℕ → Reference
reference at len = record { at = at; len = len }

-- the current map is another one
abbrev pub with_current : PageMap → Maps → Maps
with_current now maps = record maps { current = now }

-- one reference more in the current state, and one less
abbrev pub referred : Reference → References → References
referred r states = record states { current = r ∷ states.current }

-- whether a reference is to the extent that so many bytes at an offset take
abbrev pub is_extent : Reference → Reference → Bool
is_extent r s = nat_eq s.at r.at && nat_eq (rounded s.len) (rounded r.len)

-- the list without the first reference to an extent
abbrev pub without_one : Reference → List Reference → List Reference
without_one r [] = []
without_one r (s ∷ rs) = if is_extent r s then rs else s ∷ without_one r rs

abbrev pub unreferred : Reference → References → References
unreferred r states = record states { current = without_one r states.current }

-- the current state refers to the extent
abbrev pub IsReferred : Reference → References → Type 0
IsReferred r states = IsTrue (list_any (is_extent r) states.current)

-- and has room for one reference more to it
pub record IsShareable (r : Reference) (states : References) : Type 0 where
  pub live : IsReferred r states
  pub few : count_by (is_there r) states.current < MOST_REFERENCES

-- an extent of so many bytes leaves the next one of its zone where one may begin: nodes fill whole pages
abbrev pub IsUnit : ℕ → ℕ → Type 0
IsUnit zone len = rounded len % unit_of zone ≡ 0

-- they share no byte
abbrev pub IsApart : Reference → Reference → Type 0
IsApart r s = (end_of r ≤ begin_of s) ⊎ (end_of s ≤ begin_of r)

-- a fact of three maps, where they are told, and of the current one afterwards, which is then told too
abbrev pub Moves : Option PageMap → Option PageMap → Option PageMap → Option PageMap → (Maps → PageMap → Type 0) → Type 0
Moves committed frozen old new Relation = WhereTold committed frozen old (λ maps. IsSomeAnd new (λ now. Relation maps now))

-- An extent was taken in a zone: it begins where the append big-block of the zone was filled up to, and the entry of this
-- big-block alone changed. The room of the zone fell by its length, and no other, where no two zones append to one
-- big-block; the free big-blocks are as many. Where the freemap stood for states, the current one may refer to the extent,
-- and no state refers to any of its bytes yet.
pub record Takes (bigblocks : ℕ) (append : List ℕ) (zone len at : ℕ) (maps : Maps) (now : PageMap) : Type 0 where
  pub place : zone_of at ≡ zone
  pub begin : byte_of at ≡ start_of (append_of append zone) + (entry_of maps.current (append_of append zone)).append_off
  pub put : EntryChanged (append_of append zone) (appended (rounded len)) maps.current now
  pub pages : (other : ℕ) → zone_of other ≢ FREEMAP_ZONE → now other ≡ maps.current other
  pub room : AreDistinct append → (other : ℕ) → room_in append now other + in_zone zone (rounded len) other ≡ room_in append maps.current other
  pub spends : AreDistinct append
      → Spends room_at (free_at bigblocks) (in_zone zone (rounded len)) (space_of append maps) (space_of append (with_current now maps))
  pub stand : (states : References) → StandBy bigblocks append maps states → IsUnit zone len
      → StandBy bigblocks append (with_current now maps) (referred (reference at len) states)
  pub dead : (states : References) → StandBy bigblocks append maps states → All (IsApart (reference at len)) (all_of states)

-- The references of the current state to an extent changed, where there were such as were needed, and so did the entry of
-- its big-block alone. No room fell, and no free big-block went away, whatever refers to what.
pub record Changes (bigblocks : ℕ) (append : List ℕ) (r : Reference) (Needs : References → Type 0) (change : References → References)
    (next : Entry → Entry) (maps : Maps) (now : PageMap) : Type 0 where
  pub held : MayHold (rounded r.len) (entry_of maps.current (home_of r))
  pub put : EntryChanged (home_of r) next maps.current now
  pub pages : (at : ℕ) → zone_of at ≢ FREEMAP_ZONE → now at ≡ maps.current at
  pub room : (zone : ℕ) → room_in append now zone ≡ room_in append maps.current zone
  pub spends : Spends room_at (free_at bigblocks) nothing (space_of append maps) (space_of append (with_current now maps))
  pub stand : (states : References) → StandBy bigblocks append maps states → Needs states
      → StandBy bigblocks append (with_current now maps) (change states)

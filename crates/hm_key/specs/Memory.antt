-- What the parts of a store in memory stand for.
use Rattle.std.specs.Prelude.{◌≡◌, ℕ, zero, suc, ◌+◌, ◌<◌, ◌≤◌, Bool, true, false, if◌then◌else◌, nat_eq, nat_le, ◌&&◌, List, [], ◌∷◌, All, length, map, ⊤}
use Rattle.std.specs.Ordering.{is_eq}
use Rattle.hm_types.specs.Elements.{Key, key_cmp}
use Rattle.hm_key.specs.Key.{key_of, IsBefore, IsFrom}
use Rattle.hm_types.specs.Offset.{byte_of}
use Rattle.hm_types.specs.declared.limits.TheConstants.{BIGBLOCK_BYTES}
use Rattle.hm_key.specs.Extents.{Extent}
use Rattle.hm_key.specs.Marks.{IsMarked}
use Rattle.hm_key.specs.declared.element.Element.{Element}
use Rattle.hm_key.specs.declared.held.Held.{Held}
use Rattle.hm_key.specs.declared.mark_list.Mark.{Mark}
use Rattle.hm_types.specs.declared.zone.TheConstants.{TREE_ZONE, META_ZONE, LARGE_ZONE, SMALL_ZONE}
use Rattle.hm_key.specs.declared.rooms.Rooms.{Rooms}

-- the key that a mark is for
abbrev pub mark_key : Mark → Key
mark_key m = key_of m.at

-- the mark is for this key
abbrev pub marks_key : Key → Mark → Bool
marks_key at m = is_eq (key_cmp (mark_key m) at)

-- the mark of a key, which is 0 where none was written
abbrev pub mark_of : List Mark → Key → ℕ
mark_of [] at = 0
mark_of (m ∷ ms) at = if marks_key at m then m.id else mark_of ms at

-- the mark of each element's key is at least its ids
abbrev pub AreMarked : List Mark → List Element → Type 0
AreMarked marks es = All (IsMarked (mark_of marks)) es

-- the place of the mark of a key, or the number of marks where it has none
abbrev pub mark_place : Key → List Mark → ℕ
mark_place at [] = 0
mark_place at (m ∷ ms) = if marks_key at m then 0 else suc (mark_place at ms)

-- a mark above `since` of a key after `at` is not for a key before `end`
abbrev pub IsPassed : Key → ℕ → Key → Mark → Type 0
IsPassed at since end m = since < m.id → IsBefore at (mark_key m) → IsFrom end (mark_key m)

-- an extent that is kept in memory
abbrev pub extent_of_held : Held → Extent
extent_of_held h = record { at = h.at; len = length h.bytes.items; bytes = h.bytes.items; refs = h.refs }

-- what a store in memory tells of an extent: its length and its number of references
abbrev pub length_and_references : Extent → ℕ × ℕ
length_and_references x = (x.len, x.refs)

-- the extents that are kept in memory
abbrev pub extents_of : List Held → List Extent
extents_of = map extent_of_held

-- the extents end by byte `next` of the volume
abbrev pub EndBy : ℕ → List Extent → Type 0
EndBy next [] = ⊤
EndBy next (x ∷ xs) = (byte_of x.at + x.len ≤ next) × EndBy next xs

-- none of the extents before a place stands at the offset
abbrev pub NoneAt : ℕ → List Held → ℕ → Type 0
NoneAt at hs zero = ⊤
NoneAt at [] (suc place) = ⊤
NoneAt at (h ∷ hs) (suc place) = (nat_eq h.at at ≡ false) × NoneAt at hs place

-- the first extent at the offset has this place
abbrev pub IsAt : ℕ → List Held → ℕ → Type 0
IsAt at [] place = ⊥
IsAt at (h ∷ hs) zero = nat_eq h.at at ≡ true
IsAt at (h ∷ hs) (suc place) = (nat_eq h.at at ≡ false) × IsAt at hs place

-- how many bytes of room each zone has
abbrev pub room_of : Rooms → ℕ → ℕ
room_of rooms zone =
    if nat_eq zone TREE_ZONE then rooms.tree else (if nat_eq zone META_ZONE then rooms.meta else
    (if nat_eq zone LARGE_ZONE then rooms.large else (if nat_eq zone SMALL_ZONE then rooms.small else 0)))

-- a whole big-block of room in each of the zones 8 to 11
abbrev pub fresh_room : ℕ → ℕ
fresh_room zone = if nat_le TREE_ZONE zone && nat_le zone SMALL_ZONE then BIGBLOCK_BYTES else 0

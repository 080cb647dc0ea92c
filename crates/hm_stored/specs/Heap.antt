-- What a space of a volume holds, and what it tells of that.
use Rattle.std.specs.Prelude.{ℕ, ◌^◌, Bool, false, ◌&&◌, List, [], Option, None, Some, if◌then◌else◌, is_some, length, map, option_map}
use Rattle.hm_types.specs.Elements.{FullElement}
use Rattle.hm_types.specs.References.{Reference}
use Rattle.hm_types.specs.declared.limits.TheConstants.{BIGBLOCK_BYTES}
use Rattle.hm_fields.specs.Pages.{PageMap}
use Rattle.hm_disk.specs.Crash.{Told}
use Rattle.hm_disk.specs.Disk.{moment_of}
use Rattle.hm_key.specs.Extents.{Extent}
use Rattle.hm_key.specs.declared.element.Element.{Element}
use Rattle.hm_freemap.specs.Stand.{Maps, free_by, is_handed_out, room_in}
use Rattle.hm_pages.specs.Store.{Store, Frame as PagesFrame, frame_of as pages_frame}
use Rattle.hm_stored.specs.Basis.{Basis, elements_in, fulls_in, nodes}
use Rattle.hm_stored.specs.DecideFirm.{is_firm}
use Rattle.hm_stored.specs.Fixed.{fixed_with, refs_with}
use Rattle.hm_stored.specs.Known.{is_known}
use Rattle.hm_stored.specs.Log.{after_changes, places_of, filled}
use Rattle.hm_stored.specs.declared.books.Books.{Books}
use Rattle.hm_stored.specs.declared.change.Change.{Change}
use Rattle.hm_stored.specs.declared.roots.Roots.{Roots}

-- The parts of a space: its pages in three states, what its disk tells, how many big-blocks it has, the append
-- big-blocks as the open call began and now, where the trees begin, the last id that was drawn, what the open call did
-- with extents, whether it gave any back, and whether none of its changes failed half-way.
pub record Heap : Type 0 where
  pub pages : Store
  pub disk : Option Told
  pub bigblocks : ℕ
  pub begun : List ℕ
  pub append : List ℕ
  pub roots : Roots
  pub last : ℕ
  pub log : List Change
  pub gave : Bool
  pub whole : Bool

-- its maps as they are now
abbrev pub maps_of : Heap → Maps
maps_of h = record { committed = h.pages.committed; frozen = h.pages.frozen; current = h.pages.current }

-- its state as the open call began, with this map of pages
abbrev pub basis_with : Heap → PageMap → Basis
basis_with h begin = record {
  bigblocks = h.bigblocks;
  append = h.begun;
  maps = record { committed = h.pages.committed; frozen = h.pages.frozen; current = begin };
  roots = h.roots;
}

-- the elements of such a state with their payloads, where its books are in order and its ids are known
unfoldable pub content_by : ℕ → Basis → List ℕ → Option (List FullElement)
content_by last b bytes = if is_firm b && is_known last (fulls_in b bytes) then Some (fulls_in b bytes) else None

-- the same of a state and a disk, where there are both
abbrev pub content_with : ℕ → Option Basis → Option Told → Option (List FullElement)
content_with last None disk = None
content_with last (Some b) None = None
content_with last (Some b) (Some t) = content_by last b t.bytes

-- The elements as the open call began, with their payloads: where a call is open, the disk tells what it holds, and the
-- books were in order then.
abbrev pub begun_content : Heap → Option (List FullElement)
begun_content h = content_with h.last (option_map (basis_with h) h.pages.begin) h.disk

-- whether the books of a state are in order, where a call is open and the disk tells
abbrev pub is_firm_with : Option Basis → Option Told → Bool
is_firm_with None disk = false
is_firm_with (Some b) None = false
is_firm_with (Some b) (Some t) = is_firm b

-- whether they were as the open call began, and none of its changes failed half-way
abbrev pub does_hold : Heap → Bool
does_hold h = h.whole && is_firm_with (option_map (basis_with h) h.pages.begin) h.disk

-- whether it tells its content
abbrev pub does_tell : Heap → Bool
does_tell h = h.whole && is_some (begun_content h)

-- its nodes
abbrev pub pages_of : Heap → Option PageMap
pages_of h = if does_tell h then Some (nodes h.pages.current) else None

-- the bytes that a disk tells
abbrev pub bytes_of : Option Told → List ℕ
bytes_of None = []
bytes_of (Some t) = t.bytes

-- the elements of a state, where there is one
abbrev pub elements_with : Option Basis → List Element
elements_with None = []
elements_with (Some b) = elements_in b

-- the extents of payloads, without their bytes
abbrev pub places_in : Heap → List Extent
places_in h = after_changes h.log (places_of (elements_with (option_map (basis_with h) h.pages.begin)))

-- its live extents
abbrev pub extents_in : Heap → Option (List Extent)
extents_in h = if does_tell h then Some (map (filled (bytes_of h.disk)) (places_in h)) else None

-- The room of each zone, and the number of free big-blocks. Once a change has failed half-way each call is refused,
-- and nothing is known of either.
abbrev pub room_of : Heap → ℕ → ℕ
room_of h zone = if h.whole then room_in h.append h.pages.current zone else (if is_handed_out zone then BIGBLOCK_BYTES else 0)

abbrev pub free_of : Heap → ℕ
free_of h = if h.whole then free_by h.bigblocks h.append (maps_of h) else 2 ^ 32

-- what the trees of the three states referred to as the open call began
abbrev pub refs_begun : Heap → List Reference
refs_begun h = refs_with (option_map (basis_with h) h.pages.begin)

-- For each fixed byte what the disk has there, and whether that is settled, where it tells. Fixed is what lies before the
-- pool, and what the committed tree, the frozen one, or the current one as the call began refers to, where a call is open
-- over books that are in order and its ids are known.
abbrev pub fixed_of : Heap → Option (ℕ → Option (ℕ × Bool))
fixed_of h = fixed_with h.bigblocks (is_some (begun_content h)) (refs_begun h) h.disk

-- What no change of a call alters: the pages but for those of the open call, its state as that began, how much the
-- disk holds, its moment, what the elements were, and the bytes of the disk that are fixed, settled where they were.
pub record Frame : Type 0 where
  pub pages : PagesFrame
  pub bigblocks : ℕ
  pub begun : List ℕ
  pub roots : Roots
  pub last : ℕ
  pub size : Option ℕ
  pub moment : Option ℕ
  pub content : Option (List FullElement)
  pub fixed : Option (ℕ → Option (ℕ × Bool))

abbrev pub frame_of : Heap → Frame
frame_of h = record {
  pages = pages_frame h.pages;
  bigblocks = h.bigblocks;
  begun = h.begun;
  roots = h.roots;
  last = h.last;
  size = option_map (λ t. length t.bytes) h.disk;
  moment = moment_of h.disk;
  content = begun_content h;
  fixed = fixed_of h;
}

-- what no call on its pages alters
pub record Rest : Type 0 where
  pub room : ℕ → ℕ
  pub free : ℕ
  pub extents : Option (List Extent)

abbrev pub rest_of : Heap → Rest
rest_of h = record { room = room_of h; free = free_of h; extents = extents_in h }

-- the parts of a space as one
unfoldable pub heap_of : Store → Option Told → Books → Heap
heap_of pages disk books = record {
  pages = pages;
  disk = disk;
  bigblocks = books.bigblocks;
  begun = books.begun;
  append = books.append;
  roots = books.roots;
  last = books.last.0;
  log = books.log.items;
  gave = books.gave;
  whole = books.whole;
}

-- Which bytes of a disk are live over a space, and what it is that none of them is written.
use Rattle.std.specs.Prelude.{◌≡◌, ◌⊎◌, ℕ, ◌+◌, ◌<◌, ◌≤◌, true, List, length, map, nat_eq, slice_index}
use Rattle.std.specs.List.{Contains}
use Rattle.std.specs.Set.{is_member}
use Rattle.hm_types.specs.References.{Reference, begin_of}
use Rattle.hm_disk.specs.Crash.{Outside, Told}
use Rattle.hm_fields.specs.Pages.{PageMap}
use Rattle.hm_freemap.specs.Stand.{all_of}
use Rattle.hm_pages.specs.Store.{Store}
use Rattle.hm_flush.specs.declared.flush.Position.{Position}
use Rattle.hm_flush.specs.declared.flush.Position.TheVariants.{Idle, Undoing, Arming, Placing, Committing}
use Rattle.hm_flush.specs.Recoverable.{IsInPage, IsInPages}
use Rattle.hm_search.specs.Tree.{elements_of}
use Rattle.hm_image.specs.Image.{to_payload}
use Rattle.hm_stored.specs.Basis.{nodes, refers, states_of}
use Rattle.hm_stored.specs.Heap.{Heap}
use Rattle.hm_stored.specs.Standing.{basis_now}
use Rattle.hm_state.specs.Flushing.{IsLogged}

-- one of these references names a byte
abbrev pub IsNamedBy : List Reference → ℕ → Type 0
IsNamedBy refs byte = (r : Reference) × Contains refs r × (begin_of r ≤ byte) × (byte < begin_of r + r.len)

-- a byte of a payload of the tree that begins in these pages at a root
abbrev pub IsPayloadByte : PageMap → ℕ → ℕ → Type 0
IsPayloadByte pages root byte = IsNamedBy (map to_payload (elements_of (nodes pages) root)) byte

-- A byte of a node or of a payload to which the current tree refers, which begins at a root, or the frozen or the committed one.
abbrev pub IsLiveByte : Heap → ℕ → ℕ → Type 0
IsLiveByte h root byte = IsNamedBy (all_of (states_of (basis_now h root))) byte

-- a byte of the frozen page that a stage places which is due at a position
abbrev pub IsInPlace : Position → Store → ℕ → Type 0
IsInPlace Idle s byte = ⊥
IsInPlace (Undoing from) s byte = ⊥
IsInPlace (Arming change) s byte = ⊥
IsInPlace (Placing i) s byte = (i < length s.frozen_group) × IsInPage (slice_index s.frozen_group i) byte
IsInPlace (Committing change) s byte = ⊥

-- none at all
abbrev pub NoByte : ℕ → Type 0
NoByte byte = ⊥

-- That a byte was not written, as far as a disk tells: it has the value that it had, and is settled where it was.
pub record IsNotWritten (byte : ℕ) (old new : Told) : Type 0 where
  pub value : slice_index new.bytes byte ≡ slice_index old.bytes byte
  pub settled : Outside old.unsettled byte → Outside new.unsettled byte

-- no byte is written that was live over a space, but for some
abbrev pub KeepsLiveBut : (ℕ → Type 0) → Heap → ℕ → Told → Told → Type 0
KeepsLiveBut Excepted h root old new = (byte : ℕ) → IsLiveByte h root byte → ¬ Excepted byte → IsNotWritten byte old new

-- a byte to which the tree refers that begins in these pages at a root, as that of a node or of a payload, or of one of the pages
abbrev pub IsHeldByte : PageMap → ℕ → ℕ → Type 0
IsHeldByte pages root byte = IsNamedBy (refers pages root) byte ⊎ IsInPages pages byte

-- a byte of a page of the frozen group, while these are placed: until PlaceSync has succeeded they are written
abbrev pub IsInGroup : Position → Store → ℕ → Type 0
IsInGroup Idle s byte = ⊥
IsInGroup (Undoing from) s byte = ⊥
IsInGroup (Arming change) s byte = ⊥
IsInGroup (Placing i) s byte = (at : ℕ) × (is_member nat_eq s.frozen_group at ≡ true) × IsInPage at byte
IsInGroup (Committing change) s byte = ⊥

-- No unsettled range meets the committed state, but for pages that are being placed; and from the success of UndoSync on none meets a
-- payload of the frozen state.
pub record AreLiveSettled (at : Position) (h : Heap) (t : Told) : Type 0 where
  pub committed : (byte : ℕ) → IsHeldByte h.pages.committed h.roots.committed byte → ¬ IsInGroup at h.pages byte → Outside t.unsettled byte
  pub frozen : IsLogged at → (byte : ℕ) → IsPayloadByte h.pages.frozen h.roots.frozen byte → Outside t.unsettled byte

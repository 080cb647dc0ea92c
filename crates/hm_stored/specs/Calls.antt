-- What the calls on extents make of the pages and the books of a space.
use Rattle.std.specs.Prelude.{IfErr, OnOk, ◌≡◌, ◌⊎◌, ℕ, ◌+◌, ◌≤◌, true, false, List, [], ◌∷◌, ◌++◌, Option, Result, is_ok, length}
use Rattle.hm_types.specs.Offset.{byte_of, zone_of}
use Rattle.hm_types.specs.Space.{Admits, IfNoSpace, LacksSpace, Spends, rounded}
use Rattle.hm_types.specs.declared.fault.SpaceFault.{SpaceFault}
use Rattle.hm_types.specs.declared.fault.SpaceFault.TheVariants.{NoSpace, Fault as of_store}
use Rattle.hm_types.specs.Told.{BothTell}
use Rattle.hm_disk.specs.Crash.{MayLeave, Outside, Told, is_outside}
use Rattle.hm_disk.specs.Disk.{MayBeTorn, Written}
use Rattle.hm_key.specs.Calls.{GetWhole}
use Rattle.hm_key.specs.Extents.{Extent, PlacesAt}
use Rattle.hm_stored.specs.Heap.{Heap, extents_in, frame_of, free_of, pages_of, rest_of, room_of}
use Rattle.hm_types.specs.declared.fault.Fault.{Fault}
use Rattle.hm_types.specs.declared.zones.Zones.{Zones}
use Rattle.hm_freemap.specs.Admit.{IsAdmitted, IsRefused}
use Rattle.hm_freemap.specs.Change.{given, shared}
use Rattle.hm_freemap.specs.Extents.{Changes, IsReferred, IsShareable, Takes, reference, referred, unreferred}
use Rattle.hm_pages.specs.Store.{Store}
use Rattle.hm_stored.specs.Nodes.{maps_in}
use Rattle.hm_stored.specs.declared.books.Books.{Books}
use Rattle.hm_stored.specs.declared.change.Change.{Change}
use Rattle.hm_stored.specs.declared.change.Change.TheVariants.{GivenBack, Placed, Shared}

-- what no call on nodes or extents changes of the books
pub record SameBooks (old new : Books) : Type 0 where
  pub bigblocks : new.bigblocks ≡ old.bigblocks
  pub begun : new.begun ≡ old.begun
  pub roots : new.roots ≡ old.roots
  pub last : new.last ≡ old.last

-- a call on extents leaves these, and the append big-blocks, and is whole where it succeeded
pub record LeavesBooks {A : Type 0} (old new : Books) (result : Result A Fault) : Type 0 where
  pub same : SameBooks old new
  pub append : new.append ≡ old.append
  pub whole : new.whole ≡ is_ok result

-- one change more was noted
abbrev pub HasNoted : Change → Books → Books → Type 0
HasNoted change old new = new.log.items ≡ old.log.items ++ change ∷ []

-- an extent was taken
pub record TakesExtent (zone len at : ℕ) (old new : Store) (before after : Books) : Type 0 where
  pub takes : Takes before.bigblocks before.append zone len at (maps_in old) new.current
  pub noted : HasNoted (Placed at len) before after
  pub gave : after.gave ≡ before.gave

-- a reference was added to one
pub record SharesExtent (at len : ℕ) (old new : Store) (before after : Books) : Type 0 where
  pub shares : Changes before.bigblocks before.append (reference at len) (IsShareable (reference at len)) (referred (reference at len))
      (shared (rounded len)) (maps_in old) new.current
  pub noted : HasNoted (Shared at) before after
  pub gave : after.gave ≡ before.gave

-- one was taken off
pub record GivesExtent (at len : ℕ) (old new : Store) (before after : Books) : Type 0 where
  pub gives : Changes before.bigblocks before.append (reference at len) (IsReferred (reference at len)) (unreferred (reference at len))
      (given (rounded len)) (maps_in old) new.current
  pub noted : HasNoted (GivenBack at) before after
  pub gave : after.gave ≡ true

-- only so many bytes from a place on may differ, and each other one is settled where it was
pub record AltersAt (place count : ℕ) (old new : Told) : Type 0 where
  pub bytes : MayLeave old.bytes ((place, count) ∷ []) new.bytes
  pub settled : (byte : ℕ) → Outside ((place, count) ∷ []) byte → is_outside new.unsettled byte ≡ is_outside old.unsettled byte

-- the same of a disk, which told its content before and after
abbrev pub Alters : ℕ → ℕ → Option Told → Option Told → Type 0
Alters place count old new = BothTell old new (AltersAt place count)

-- An extent was taken for bytes, and they were written there.
pub record PutsBytes (zone : ℕ) (bytes : List ℕ) (at : ℕ) (old new : Store) (was is : Option Told) (before after : Books) : Type 0 where
  pub taken : TakesExtent zone (length bytes) at old new before after
  pub wrote : BothTell was is (Written (byte_of at) bytes)

-- An extent was taken, and the write there failed: what stands there may be any bytes.
pub record Tears (zone len : ℕ) (old new : Store) (was is : Option Told) (before : Books) : Type 0 where
  pub at : ℕ
  pub takes : Takes before.bigblocks before.append zone len at (maps_in old) new.current
  pub torn : BothTell was is (MayBeTorn (byte_of at) len)

-- A disk tells what it told, or was torn where an extent was taken.
abbrev pub MayTear : ℕ → ℕ → Store → Store → Option Told → Option Told → Books → Type 0
MayTear zone len old new was is before = (is ≡ was) ⊎ Tears zone len old new was is before

-- the nodes are the same after a call, and the list of extents changed in this way
pub record ChangesExtents (Change : List Extent → List Extent → Type 0) (old new : Heap) : Type 0 where
  pub tree : pages_of new ≡ pages_of old
  pub extents : BothTell (extents_in old) (extents_in new) Change

-- the frame is the same after a call, which spent so much at most
pub record Stays (most : ℕ → ℕ) (old new : Heap) : Type 0 where
  pub frame : frame_of new ≡ frame_of old
  pub spent : Spends room_of free_of most old new

-- bytes were put into a new extent of a zone, of which they took their rounded length
pub record Places (zone : ℕ) (bytes : List ℕ) (old new : Heap) (at : ℕ) : Type 0 where
  pub changes : ChangesExtents (PlacesAt at bytes) old new
  pub zone_is : zone_of at ≡ zone
  pub spent : room_of new zone + rounded (length bytes) ≡ room_of old zone

-- zones have the room that they need, and nothing else of the books changed
pub record Renews (zones : Zones) (held : ℕ) (old new : Store) (before after : Books) : Type 0 where
  pub admitted : IsAdmitted before.bigblocks zones held before.append after.append (maps_in old) new.current
  pub log : after.log ≡ before.log
  pub gave : after.gave ≡ before.gave
  pub whole : after.whole ≡ before.whole

-- too few big-blocks are free, and nothing changed
pub record RefusesRoom (zones : Zones) (held : ℕ) (old new : Store) (before after : Books) (free needed : ℕ) : Type 0 where
  pub refused : IsRefused before.bigblocks zones held before.append (maps_in old) new.current free needed
  pub books : after ≡ before

-- zones were not given room: for want of space, or the call failed half-way
abbrev pub IsNotRenewed : Zones → ℕ → Store → Store → Books → Books → SpaceFault → Type 0
IsNotRenewed zones held old new before after (NoSpace free needed) = RefusesRoom zones held old new before after free needed
IsNotRenewed zones held old new before after (of_store fault) = after.whole ≡ false

-- what a call on the room of zones makes of a space
pub record AnswersRoom (zones : Zones) (held : ℕ) (old new : Heap) (result : Result (Unit {0}) SpaceFault) : Type 0 where
  pub ok : OnOk result (Admits room_of free_of zones held old new)
  pub whole : OnOk result (GetWhole zones (room_of old) (room_of new))
  pub content : OnOk result ((pages_of new ≡ pages_of old) × (extents_in new ≡ extents_in old))
  pub no_space : IfErr result (IfNoSpace (LacksSpace zones held (room_of old) (free_of old)))
  pub unchanged : IfErr result (IfNoSpace (λ _ _. (pages_of new ≡ pages_of old) × (extents_in new ≡ extents_in old) × (rest_of new ≡ rest_of old)))
  pub room : (zone : ℕ) → room_of old zone ≤ room_of new zone
  pub frame : frame_of new ≡ frame_of old

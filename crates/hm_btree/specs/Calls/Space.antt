-- What the calls on a space of nodes have in common.
use Rattle.std.specs.Prelude.{◌≡◌, ℕ, Err, List, Option, is_some}
use Rattle.hm_types.specs.Faults.{HasStoreCause}
use Rattle.hm_types.specs.Space.{Spends}
use Rattle.hm_types.specs.declared.counted.Counted.{Ghosts as Counts}
use Rattle.hm_types.specs.declared.fault.Fault.{Fault}
use Rattle.hm_fields.specs.Pages.{PageMap}
use Rattle.hm_key.specs.Extents.{Extent}

-- what an object with room for nodes tells of itself: the members of `Counted` and of `HasRoom`
abbrev pub Rooms : Type 0 → Type 1
Rooms S = record {
  faults : S → ℕ;
  name : S → ℕ;
  Frame : Type 0;
  frame : S → Frame;
  room : S → ℕ → ℕ;
  free : S → ℕ;
  extents : S → Option (List Extent);
}

-- it is the same space after a call, with the same frame
pub record Stays {S : Type 0} (g : Counts S) (old new : S) : Type 0 where
  pub name : g.name new ≡ g.name old
  pub frame : g.frame new ≡ g.frame old

-- it is the same space after a call, with the same frame, and the call took so much of the room of each zone at most,
-- and no free big-block
pub record HasSpent {S F : Type 0} (name_of : S → ℕ) (frame_of : S → F) (room_of : S → ℕ → ℕ) (free_of : S → ℕ)
    (most : ℕ → ℕ) (old new : S) : Type 0 where
  pub name : name_of new ≡ name_of old
  pub frame : frame_of new ≡ frame_of old
  pub space : Spends room_of free_of most old new

-- the same of a space with room
abbrev pub StaysWithin : {S : Type 0} → Rooms S → (ℕ → ℕ) → S → S → Type 0
StaysWithin g most old new = HasSpent g.name g.frame g.room g.free most old new

-- what an object with pages tells of itself: the members of `Counted` and of `Pages`
abbrev pub Tells : Type 0 → Type 1
Tells S = record {
  faults : S → ℕ;
  name : S → ℕ;
  Frame : Type 0;
  frame : S → Frame;
  pages : S → Option PageMap;
  kept : ℕ → List ℕ → Type 0;
  Rest : Type 0;
  rest : S → Rest;
}

-- the same space is handed back with a fault, which has its cause in the call
pub record IsHandedBack {S F : Type 0} (name_of : S → ℕ) (frame_of : S → F) (faults_of : S → ℕ) (pages_of : S → Option PageMap)
    (old new : S) (fault : Fault) : Type 0 where
  pub name : name_of new ≡ name_of old
  pub frame : frame_of new ≡ frame_of old
  pub cause : HasStoreCause {T = ℕ} (pages_of old) (faults_of old) (faults_of new) (Err fault)

abbrev pub HandsBack : {S : Type 0} → Tells S → S → S → Fault → Type 0
HandsBack p old new fault = IsHandedBack p.name p.frame p.faults p.pages old new fault

-- pages are told after a call where they were before it, and the extents are the same
pub record HasKept {S : Type 0} (pages_of : S → Option PageMap) (extents_of : S → Option (List Extent)) (old new : S)
    : Type 0 where
  pub told : is_some (pages_of new) ≡ is_some (pages_of old)
  pub extents : extents_of new ≡ extents_of old

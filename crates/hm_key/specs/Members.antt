-- The members of a store as one record, as the name of its trait gives them in a clause, and what contracts say of them.
use Rattle.std.specs.Prelude.{◌≡◌, ℕ, List, Option, Result}
use Rattle.hm_types.specs.Elements.{Key}
use Rattle.hm_types.specs.Faults.{HasStoreCause}
use Rattle.hm_types.specs.Space.{Spends}
use Rattle.hm_types.specs.declared.counted.Counted.{Ghosts}
use Rattle.hm_types.specs.declared.fault.Fault.{Fault}
use Rattle.hm_key.specs.Balance.{Balanced, content_of}
use Rattle.hm_key.specs.Extents.{Extent}
use Rattle.hm_key.specs.Stores.{Keeps, Same, SameContent}
use Rattle.hm_key.specs.declared.element.Element.{Element}

-- what a store tells: the members of `HasElements` and of the traits below it
abbrev pub StoreMembers : Type 0 → Type 1
StoreMembers S = record {
  faults : S → ℕ;
  name : S → ℕ;
  Frame : Type 0;
  frame : S → Frame;
  room : S → ℕ → ℕ;
  free : S → ℕ;
  extents : S → Option (List Extent);
  elements : S → Option (List Element);
  mark : S → Key → ℕ;
}

-- a call leaves a store as it was
abbrev pub IsSame : {S : Type 0} → StoreMembers S → S → S → Type 0
IsSame g old new = Same g.elements g.mark g.extents g.room g.free old new

-- a call leaves all that a store tells of its content
abbrev pub HasSameContent : {S : Type 0} → StoreMembers S → S → S → Type 0
HasSameContent g old new = SameContent g.elements g.mark g.extents old new

-- a call that succeeds leaves whether a store tells its elements and its extents
abbrev pub KeepsTold : {S A E : Type 0} → StoreMembers S → S → S → Result A E → Type 0
KeepsTold g old new result = Keeps g.elements g.extents old new result

-- a call took at most so much of the room of each zone, and no free big-block
abbrev pub SpendsAtMost : {S : Type 0} → StoreMembers S → (ℕ → ℕ) → S → S → Type 0
SpendsAtMost g most old new = Spends g.room g.free most old new

-- each fault of a call has its cause, and none tells of damage where elements were told
abbrev pub HasElementsCause : {S T : Type 0} → StoreMembers S → S → S → Result T Fault → Type 0
HasElementsCause g old new result = HasStoreCause (g.elements old) (g.faults old) (g.faults new) result

-- each fault of a call has its cause, and none tells of damage where elements and extents were told
abbrev pub HasContentCause : {S T : Type 0} → StoreMembers S → S → S → Result T Fault → Type 0
HasContentCause g old new result = HasStoreCause (content_of (g.elements old) (g.extents old)) (g.faults old) (g.faults new) result

-- what a store tells is balanced
abbrev pub InBalance : {S : Type 0} → StoreMembers S → S → Type 0
InBalance g s = Balanced (g.elements s) (g.extents s)

-- it is the same object after a call, with the same frame
abbrev pub KeepsFrame : {S : Type 0} → Ghosts S → S → S → Type 0
KeepsFrame g old new = (g.name new ≡ g.name old) × (g.frame new ≡ g.frame old)

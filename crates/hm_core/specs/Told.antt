-- What a store of elements tells in a call over a space, and what the call answers where it fails.
use Rattle.std.specs.Prelude.{◌≡◌, ◌⊎◌, ℕ, ◌-◌, ◌^◌, ◌≤◌, List, Option, None, Some, IsSomeAnd}
use Rattle.hm_types.specs.Elements.{FullElement}
use Rattle.hm_types.specs.Faults.{IsMedia}
use Rattle.hm_types.specs.Layout.{first_pool}
use Rattle.hm_types.specs.declared.fault.Fault.{Fault}
use Rattle.hm_types.specs.declared.fault.Fault.TheVariants.{Damaged as damage, Media as device, NoMemory as no_memory}
use Rattle.hm_types.specs.declared.fault.SpaceFault.{SpaceFault}
use Rattle.hm_types.specs.declared.fault.SpaceFault.TheVariants.{Fault as of_store, NoSpace as no_space}
use Rattle.hm_fields.specs.Fields.{AreBytes}
use Rattle.hm_key.specs.Balance.{IsBalanced, content_of}
use Rattle.hm_key.specs.Extents.{Extent}
use Rattle.hm_key.specs.Versions.{IsBelow}
use Rattle.hm_key.specs.declared.element.Element.{Element}
use Rattle.hm_cursor.specs.Told.{Lists, fulls}
use Rattle.hm_model.specs.Needs.{floor}
use Rattle.hm_model.specs.declared.entry.Entry.{Entry}
use Rattle.hm_model.specs.declared.reply.Reply.{Reply}
use Rattle.hm_model.specs.declared.reply.Reply.TheVariants.{Damaged, Media, NoMemory, NoSpace, Space}
use Rattle.hm_calls.specs.declared.answered.Beside.{Beside}
use Rattle.hm_stored.specs.Heap.{Heap}
use Rattle.hm_stored.specs.Known.{AreKnown}
use Rattle.hm_stored.specs.Standing.{Holds}
use Rattle.hm_stored.specs.Told.{Tells as TellsAll}

-- a store tells a balanced content with these elements
abbrev pub Tells : Option (List Element) → Option (List Extent) → List FullElement → Type 0
Tells es xs held = IsSomeAnd (content_of es xs) (λ was. IsBalanced was.0 was.1 × (fulls was ≡ held))

-- it tells the elements that a space holds
abbrev pub TellsHeld : Option (List Element) → Option (List Extent) → Heap → ℕ → Type 0
TellsHeld es xs h root = (held : List FullElement) → Holds h root held → Tells es xs held

-- a store that was opened over a space tells, by another space and root, what that one holds, where the ids are known
abbrev pub OpensStore : ℕ → Heap → ℕ → Heap → ℕ → Type 0
OpensStore last h root h' root' = (es : List FullElement) → Holds h root es → AreKnown last es → TellsAll h' root' es

-- a space holds the elements that a store tells, with ids that fit 8 bytes
pub record HoldsFitting (h : Heap) (root : ℕ) (es : List FullElement) : Type 0 where
  pub holds : Holds h root es
  pub fit : IsBelow (2 ^ 64) es

abbrev pub HoldsTold : Option (List Element) → Option (List Extent) → Heap → ℕ → Type 0
HoldsTold es xs h root = (now : Lists) → content_of es xs ≡ Some now → IsBalanced now.0 now.1 → HoldsFitting h root (fulls now)

-- each page of a space is bytes
abbrev pub ArePages : Heap → Type 0
ArePages h = (at : ℕ) (page : List ℕ) → h.pages.current at ≡ Some page → AreBytes page

-- a space holds all that another one holds, by a root each
abbrev pub HoldsSame : Heap → ℕ → Heap → ℕ → Type 0
HoldsSame old root new root' = (es : List FullElement) → Holds old root es → Holds new root' es

-- what a core tells its calls beside the store: no mirror or upgrade call is open, and all numbers of pseudo file systems below this one
-- are used
abbrev pub told_beside : ℕ → Beside
told_beside numbers = record { busy = None; numbers = numbers }

-- the reply that tells a fault
abbrev pub reply_to : Fault → Reply
reply_to (device before after) = Media before after
reply_to (damage at kind) = Damaged at kind
reply_to no_memory = NoMemory

-- the reply that tells why a unit stopped
abbrev pub reply_to_stop : SpaceFault → Reply
reply_to_stop (of_store fault) = reply_to fault
reply_to_stop (no_space free needed) = NoSpace free needed

-- A reply tells that the device failed within a call, over which the count of its faults went from one to another; or that
-- memory was refused.
abbrev pub TellsFailure : ℕ → ℕ → Reply → Type 0
TellsFailure old new reply =
    ((before : ℕ) × (after : ℕ) × (reply ≡ Media before after) × IsMedia old new before after) ⊎ (reply ≡ NoMemory)

-- a reply tells the pool of a space, and a number of free big-blocks in it that is not below the least
abbrev pub TellsSpace : ℕ → List Entry → Heap → Reply → Type 0
TellsSpace free history h reply =
    (pool : ℕ) × (spare : ℕ) × (reply ≡ Space pool spare) × (pool ≡ h.bigblocks - first_pool h.bigblocks)
    × (floor free history ≤ spare) × (spare ≤ pool)

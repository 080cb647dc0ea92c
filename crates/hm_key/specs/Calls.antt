-- What the calls do that have more to say than a line: the whole of it under one word each.
use Rattle.std.specs.Prelude.{◌≡◌, ℕ, ◌+◌, ◌<◌, ◌≤◌, Bool, List, Option, Result, IfErr, IfSome, IsSomeAnd, IsFalse, IsTrue, OnErr, OnOk, OnSome, length}
use Rattle.hm_types.specs.Elements.{Key}
use Rattle.hm_types.specs.Offset.{zone_of}
use Rattle.hm_types.specs.Space.{Admits, IfNoSpace, LacksSpace, names_zone, reserve_of, rounded}
use Rattle.hm_types.specs.declared.limits.TheConstants.{BIGBLOCK_BYTES}
use Rattle.hm_types.specs.declared.fault.Fault.{Fault}
use Rattle.hm_types.specs.declared.fault.SpaceFault.{SpaceFault}
use Rattle.hm_types.specs.declared.zones.Zones.{Zones}
use Rattle.hm_key.specs.Balance.{IsBalanced, Works, content_of}
use Rattle.hm_key.specs.Extents.{Extent, PlacesAt}
use Rattle.hm_key.specs.Job.{Place}
use Rattle.hm_key.specs.Marks.{NoneFall}
use Rattle.hm_key.specs.Stores.{ExtentsChange, Keeps, Same, SameContent}
use Rattle.hm_key.specs.declared.element.Element.{Element}

-- a zone that is named and had less room than its reserve has that of a whole big-block
abbrev pub GetWhole : Zones → (ℕ → ℕ) → (ℕ → ℕ) → Type 0
GetWhole zones old new =
    (zone : ℕ) → IsTrue (names_zone zones zone) → old zone < reserve_of zone → new zone ≡ BIGBLOCK_BYTES

-- Zones ask for room, while so many free big-blocks are held back. They get it, each that lacked it a whole big-block,
-- and the content stays; or space is refused exactly where too few are free, and all stays. The room of no zone falls.
pub record Admission {S : Type 0} (elements_of : S → Option (List Element)) (mark_of : S → Key → ℕ) (extents_of : S → Option (List Extent))
    (room_of : S → ℕ → ℕ) (free_of : S → ℕ) (zones : Zones) (held : ℕ) (old new : S) (result : Result (Unit {0}) SpaceFault) : Type 0 where
  pub ok : OnOk result (Admits room_of free_of zones held old new)
  pub whole : OnOk result (GetWhole zones (room_of old) (room_of new))
  pub content : OnOk result (SameContent elements_of mark_of extents_of old new)
  pub no_space : IfErr result (IfNoSpace (LacksSpace zones held (room_of old) (free_of old)))
  pub unchanged : IfErr result (IfNoSpace (λ _ _. Same elements_of mark_of extents_of room_of free_of old new))
  pub room : (zone : ℕ) → room_of old zone ≤ room_of new zone

-- Bytes were put into a new extent of a zone, of which they took their rounded length.
pub record Placement {S : Type 0} (elements_of : S → Option (List Element)) (mark_of : S → Key → ℕ) (extents_of : S → Option (List Extent))
    (room_of : S → ℕ → ℕ) (zone : ℕ) (bytes : List ℕ) (old new : S) (at : ℕ) : Type 0 where
  pub extents : ExtentsChange elements_of mark_of extents_of (PlacesAt at bytes) old new
  pub zone_is : zone_of at ≡ zone
  pub spent : room_of new zone + rounded (length bytes) ≡ room_of old zone

-- What a unit of a job leaves of a store: where it told a balanced content, this is worked on as the job may; no mark
-- falls, no free big-block goes, and no room where the job places nothing.
pub record UnitDone {S : Type 0} (elements_of : S → Option (List Element)) (mark_of : S → Key → ℕ) (extents_of : S → Option (List Extent)) (room_of : S → ℕ → ℕ)
    (free_of : S → ℕ) (kept : ℕ → Option (List (ℕ × ℕ))) (places : Bool) (old new : S) {A : Type 0} (result : Result A Fault) : Type 0 where
  pub content : OnOk result (IfSome (content_of (elements_of old) (extents_of old)) (λ was. IsBalanced was.0 was.1
      → IsSomeAnd (content_of (elements_of new) (extents_of new)) (Works kept was)))
  pub keeps : Keeps elements_of extents_of old new result
  pub marks : OnOk result (OnSome (elements_of old) (NoneFall (mark_of old) (mark_of new)))
  pub free : free_of old ≤ free_of new
  pub room : IsFalse places → (zone : ℕ) → room_of old zone ≤ room_of new zone

-- A unit leaves what a job tells of itself. After an error the job is at the start of that unit: it fits each store that
-- it fitted, and came no further.
pub record KeepsJob {J S : Type 0} (Fits : J → S → Type 0) (kept_of : J → ℕ → Option (List (ℕ × ℕ))) (places_of : J → Bool)
    (place_of : J → Place) (old new : J) {A : Type 0} (result : Result A Fault) : Type 0 where
  pub err : OnErr result ((store : S) → Fits old store → Fits new store)
  pub place : OnErr result (place_of new ≡ place_of old)
  pub kept : kept_of new ≡ kept_of old
  pub places : places_of new ≡ places_of old

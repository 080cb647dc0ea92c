-- What a store tells of its elements with their payloads, and what reading calls answer of it.
use Rattle.std.specs.Prelude.{◌≡◌, ℕ, List, Option, Result, None, Some, take, IfSome, IfErr}
use Rattle.std.specs.List.{Contains}
use Rattle.hm_types.specs.Elements.{FullElement}
use Rattle.hm_types.specs.Faults.{HasFaultCause}
use Rattle.hm_types.specs.declared.damage.TheConstants.{BAD_PAYLOAD}
use Rattle.hm_types.specs.declared.fault.Fault.{Fault}
use Rattle.hm_types.specs.declared.fault.Fault.TheVariants.{Media, Damaged, NoMemory}
use Rattle.hm_key.specs.Balance.{IsBalanced, content_of, full_elements, full_of}
use Rattle.hm_key.specs.Counts.{Counts, Subject, inode_subject, record_subject, subject_of}
use Rattle.hm_key.specs.Elements.{element_key}
use Rattle.hm_key.specs.Extents.{Extent}
use Rattle.hm_key.specs.Members.{StoreMembers}
use Rattle.hm_key.specs.declared.element.Element.{Element}
use Rattle.hm_records.specs.Changes.{CountsNothing, HasInode}
use Rattle.hm_records.specs.Payload.{IsPayload}
use Rattle.hm_records.specs.PfsRecord.{IsPfsRecord, pfs_bytes}
use Rattle.hm_types.specs.Intervals.{open_end}
use Rattle.hm_records.specs.declared.inode.Inode.{Inode}
use Rattle.hm_records.specs.declared.pfs_record.PfsRecord.{PfsRecord}
use Rattle.hm_cursor.specs.Read.{IsTooLong}
use Rattle.hm_cursor.specs.Version.{IsNewestOf}

-- both lists of a store
abbrev pub Lists : Type 0
Lists = List Element × List Extent

-- its elements with their payloads
abbrev pub fulls : Lists → List FullElement
fulls lists = full_elements lists.0 lists.1

-- a fact of a store that tells a balanced content
abbrev pub OnBalanced : Option (List Element) → Option (List Extent) → (Lists → Type 0) → Type 0
OnBalanced es xs P = IfSome (content_of es xs) (λ lists. IsBalanced lists.0 lists.1 → P lists)

-- a fault tells damage
abbrev pub IsDamage : Fault → Type 0
IsDamage (Damaged at kind) = Unit {0}
IsDamage (Media before after) = ⊥
IsDamage NoMemory = ⊥

-- an element of a store has this place as its payload's, and the payload breaks the grammar of the element's type
pub record IsBroken (lists : Lists) (at : ℕ) : Type 0 where
  pub element : Element
  pub there : Contains lists.0 element
  pub place : element.payload ≡ at
  pub broken : IsPayload (full_of lists.1 element) → ⊥

-- a fault that tells damage tells it of a payload that breaks its grammar
abbrev pub IsPayloadDamage : Lists → Fault → Type 0
IsPayloadDamage lists (Damaged at kind) = (kind ≡ BAD_PAYLOAD) × IsBroken lists at
IsPayloadDamage lists (Media before after) = Unit {0}
IsPayloadDamage lists NoMemory = Unit {0}

-- Each fault of a call that reads payloads has its cause: the count of faults rose, memory was refused, or a payload is
-- broken.
pub record HasReadingCause {T : Type 0} (es : Option (List Element)) (xs : Option (List Extent)) (old new : ℕ) (result : Result T Fault) : Type 0 where
  pub counted : HasFaultCause old new result
  pub damage : OnBalanced es xs (λ lists. IfErr result (IsPayloadDamage lists))

-- the same of a call of a store
abbrev pub ReadsWithCause : {S T : Type 0} → StoreMembers S → S → S → Result T Fault → Type 0
ReadsWithCause g old new result = HasReadingCause (g.elements old) (g.extents old) (g.faults old) (g.faults new) result

-- a fault that tells damage tells it of the payload of an element about a subject, which is longer than a buffer
abbrev pub IsLongPayload : Lists → Subject → ℕ → Fault → Type 0
IsLongPayload lists s most fault =
    (e : Element) × Contains lists.0 e × (subject_of (element_key e) ≡ s) × IsTooLong e most fault

-- each fault of a call that looks for the payload of what counts about a subject has its cause
pub record HasSearchingCause {T : Type 0} (es : Option (List Element)) (xs : Option (List Extent)) (s : Subject) (most old new : ℕ) (result : Result T Fault) : Type 0 where
  pub counted : HasFaultCause old new result
  pub damage : OnBalanced es xs (λ lists. IfErr result (λ fault. IsDamage fault → IsLongPayload lists s most fault))

-- what counts for a subject as of `t`, where something does: the payload of an element, which stands at the front of a
-- buffer
abbrev pub CountsBytes : Lists → ℕ → Subject → List ℕ → Option (Element × ℕ) → Type 0
CountsBytes lists t s buffer None = CountsNothing (Counts (fulls lists) t) s
CountsBytes lists t s buffer (Some found) =
    IsNewestOf lists.0 s t found.0 × Counts (fulls lists) t s (take found.1 buffer)

-- the inode of an object as of an id: it counts, or none does
abbrev pub IsInodeThen : Lists → ℕ → ℕ → ℕ → Option Inode → Type 0
IsInodeThen lists t pfs obj None = CountsNothing (Counts (fulls lists) t) (inode_subject pfs obj)
IsInodeThen lists t pfs obj (Some inode) = HasInode (Counts (fulls lists) t) pfs obj inode

-- The record of a pseudo file system, if there is one: what counts for it as of the greatest id, as of which open
-- elements are seen and no others. Where no id in the list is above that one, this is `IsRecordOf`.
abbrev pub IsRecordNow : Lists → ℕ → Option PfsRecord → Type 0
IsRecordNow lists pfs None = CountsNothing (Counts (fulls lists) open_end) (record_subject pfs)
IsRecordNow lists pfs (Some r) = IsPfsRecord r × Counts (fulls lists) open_end (record_subject pfs) (pfs_bytes r)

-- What is known of the ids in a store.
use Rattle.std.specs.Prelude.{◌≡◌, ◌⊎◌, ℕ, ◌<◌, List, Option, IfSome, IsFalse}
use Rattle.std.specs.List.{Contains}
use Rattle.hm_types.specs.Elements.{FullElement}
use Rattle.hm_key.specs.Balance.{content_of}
use Rattle.hm_key.specs.Counts.{Counts, record_subject}
use Rattle.hm_key.specs.Element.{pfs_of}
use Rattle.hm_key.specs.Extents.{Extent}
use Rattle.hm_key.specs.declared.element.Element.{Element}
use Rattle.hm_cursor.specs.Told.{fulls}
use Rattle.hm_records.specs.PfsRecord.{IsPfsRecord, pfs_bytes}
use Rattle.hm_types.specs.Intervals.{open_end}
use Rattle.hm_records.specs.declared.pfs_record.PfsRecord.{PfsRecord}

-- an element was made before `i`, and not closed from then on
pub record IsOlderThan (i : ℕ) (x : FullElement) : Type 0 where
  pub made : x.key.create < i
  pub closed : x.delete < i

-- the elements of a pseudo file system are older than `i`
abbrev pub AreBelow : ℕ → ℕ → List FullElement → Type 0
AreBelow pfs i es = (x : FullElement) → Contains es x → pfs_of x.key.localization ≡ pfs → IsOlderThan i x

-- a pseudo file system is a slave, by its record of now
abbrev pub IsSlaves : List FullElement → ℕ → Type 0
IsSlaves es pfs =
    (r : PfsRecord) × IsPfsRecord r × Counts es open_end (record_subject pfs) (pfs_bytes r) × IsFalse r.master

-- each pseudo file system is a slave, or all its elements are older than `i`: a slave may hold ids of the volume that it is
-- fed from
abbrev pub AreOlderOrSlaves : ℕ → List FullElement → Type 0
AreOlderOrSlaves i es = (pfs : ℕ) → IsSlaves es pfs ⊎ AreBelow pfs i es

-- the same of a store that tells its content
abbrev pub AreKnown : Option (List Element) → Option (List Extent) → ℕ → Type 0
AreKnown es xs i = IfSome (content_of es xs) (λ lists. AreOlderOrSlaves i (fulls lists))

-- the elements of a pseudo file system in such a store are older than `i`
abbrev pub AreBelowIn : Option (List Element) → Option (List Extent) → ℕ → ℕ → Type 0
AreBelowIn es xs pfs i = IfSome (content_of es xs) (λ lists. AreBelow pfs i (fulls lists))

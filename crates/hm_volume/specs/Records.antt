-- What the records among elements say of the pseudo file systems of a volume.
use Rattle.std.specs.Prelude.{◌≡◌, ℕ, Bool, true, false, List, Some}
use Rattle.std.specs.List.{All}
use Rattle.hm_types.specs.Elements.{FullElement}
use Rattle.hm_key.specs.Counts.{IsRecordOf}
use Rattle.hm_key.specs.Element.{pfs_of}
use Rattle.hm_model.specs.Volume.{PseudoFileSystem, Role, Volume, Master, Slave, system_of}
use Rattle.hm_records.specs.PfsRecord.{IsPfsRecord, pfs_bytes}
use Rattle.hm_records.specs.declared.pfs_record.PfsRecord.{PfsRecord}

-- whether a PFS is a master
abbrev pub is_master : Role → Bool
is_master Master = true
is_master Slave = false

-- the record that a volume has for a PFS
abbrev pub IsRecordFor : PseudoFileSystem → PfsRecord → Type 0
IsRecordFor s r =
    (r.master ≡ is_master s.role) × (r.shared ≡ s.shared) × (r.sync_end.0 ≡ s.sync_end) × (r.retention ≡ s.retention)

-- this record is that of the PFS with this number
pub record HasRecord (es : List FullElement) (pfs : ℕ) (r : PfsRecord) : Type 0 where
  pub ranges : IsPfsRecord r
  pub there : IsRecordOf es pfs (pfs_bytes r)

-- the records of PFS are those of the volume: each PFS has one, and there is no other
pub record HaveRecords (es : List FullElement) (volume : Volume) : Type 0 where
  pub each : All (λ s. (r : PfsRecord) × HasRecord es s.number r × IsRecordFor s r) volume.systems
  pub no_other : (pfs : ℕ) (r : PfsRecord) → HasRecord es pfs r → (s : PseudoFileSystem) × (system_of volume pfs ≡ Some s)

-- each element is of a PFS that has a record
abbrev pub AreOfSystems : List FullElement → Volume → Type 0
AreOfSystems es volume = All (λ e. (s : PseudoFileSystem) × (system_of volume (pfs_of e.key.localization) ≡ Some s)) es

-- What a cut of a retention makes of a PFS and of its record.
use Rattle.std.specs.Prelude.{◌≡◌, ℕ, ◌<◌, ◌≤◌, List, Some}
use Rattle.hm_types.specs.Elements.{FullElement}
use Rattle.hm_types.specs.Intervals.{Keeps, open_end}
use Rattle.hm_key.specs.Counts.{Counts, record_subject}
use Rattle.hm_retain.specs.Retention.{IsRetention}
use Rattle.hm_model.specs.Volume.{Master, PseudoFileSystem, Slave, Volume, system_of}
use Rattle.hm_records.specs.PfsRecord.{IsPfsRecord, pfs_bytes}
use Rattle.hm_records.specs.declared.pfs_record.PfsRecord.{PfsRecord}
use Rattle.hm_pfs.specs.Records.{SetsRecord}

-- To what a retention may be cut: to ids that it has, among them each one as of which the PFS is shown from now on. A
-- master is shown as of the last id and as of those that are still to be drawn, a slave as of its sync end.
pub record IsCutTo (last : ℕ) (s : PseudoFileSystem) (kept : List (ℕ × ℕ)) : Type 0 where
  pub retention : IsRetention kept
  pub fewer : (t : ℕ) → Keeps kept t → Keeps s.retention t
  pub master : s.role ≡ Master → (t : ℕ) → last ≤ t → t ≤ open_end → Keeps kept t
  pub slave : s.role ≡ Slave → 0 < s.sync_end → Keeps kept s.sync_end

-- The record of a PFS of a volume is replaced by one that tells of the retention that a change makes of the PFS's, and of
-- all else the same.
pub record SetsRecordBy (volume : Volume) (pfs : ℕ) (s : PseudoFileSystem) (change : PseudoFileSystem → PseudoFileSystem) (es es' : List FullElement) : Type 0 where
  pub there : system_of volume pfs ≡ Some s
  pub was : PfsRecord
  pub ranges : IsPfsRecord was
  pub counts : Counts es open_end (record_subject pfs) (pfs_bytes was)
  pub sets : SetsRecord pfs (pfs_bytes (record was { retention = (change s).retention })) es es'

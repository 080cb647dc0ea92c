-- Which volume a list of elements stands for.
use Rattle.std.specs.Prelude.{◌≡◌, ℕ, ◌^◌, ◌<◌, ◌≤◌, eqb, true, List, Some, map}
use Rattle.std.specs.List.{All, Contains, IsDistinct}
use Rattle.hm_types.specs.Elements.{FullElement}
use Rattle.hm_types.specs.Hash.{name_hash}
use Rattle.hm_types.specs.Intervals.{Keeps, open_end}
use Rattle.hm_types.specs.Tree.{FileTree}
use Rattle.hm_types.specs.declared.limits.TheConstants.{GREATEST_ID, MOST_PFS}
use Rattle.hm_types.specs.declared.object.Object.{Object}
use Rattle.hm_key.specs.Counts.{record_subject, subject_of}
use Rattle.hm_key.specs.Element.{pfs_of}
use Rattle.hm_key.specs.Versions.{HaveOwnKeys, IsBelow}
use Rattle.hm_model.specs.Volume.{PseudoFileSystem, Volume, Master, Nowhere, Slave, at, shown_id, system_of}
use Rattle.hm_records.specs.Follows.{Follows}
use Rattle.hm_records.specs.KeysFit.{KeysFit}
use Rattle.hm_records.specs.Payload.{IsPayload}
use Rattle.hm_records.specs.View.{IsViewOf}
use Rattle.hm_volume.specs.Records.{AreOfSystems, HaveRecords}

-- a fact of each PFS of a volume, by its number
abbrev pub OnEach : Volume → (ℕ → PseudoFileSystem → Type 0) → Type 0
OnEach volume P = (pfs : ℕ) (s : PseudoFileSystem) → system_of volume pfs ≡ Some s → P pfs s

-- no id of an element of this PFS is above the last one
pub record AreUpTo (last pfs : ℕ) (es : List FullElement) : Type 0 where
  pub made : (e : FullElement) → Contains es e → pfs_of e.key.localization ≡ pfs → e.key.create ≤ last
  pub closed : (e : FullElement) → Contains es e → pfs_of e.key.localization ≡ pfs → e.delete ≤ last

-- the ids of a master: those of its elements and of its versions are drawn, and it keeps the last one and all that are
-- still to be drawn
pub record HasMasterIds (es : List FullElement) (last pfs : ℕ) (s : PseudoFileSystem) : Type 0 where
  pub elements : AreUpTo last pfs es
  pub versions : All (λ v. v.0 ≤ last) s.versions
  pub keeps : (t : ℕ) → last ≤ t → t ≤ open_end → Keeps s.retention t

-- the ids of a slave: its sync end is drawn, it keeps that where there is one, and it keeps no id above it
pub record HasSlaveIds (last : ℕ) (s : PseudoFileSystem) : Type 0 where
  pub drawn : s.sync_end ≤ last
  pub keeps : 0 < s.sync_end → Keeps s.retention s.sync_end
  pub no_later : (t : ℕ) → Keeps s.retention t → t ≤ s.sync_end

-- the ids of a PFS, by its role
pub record HasIds (es : List FullElement) (last pfs : ℕ) (s : PseudoFileSystem) : Type 0 where
  pub master : s.role ≡ Master → HasMasterIds es last pfs s
  pub slave : s.role ≡ Slave → HasSlaveIds last s

-- its versions begin at ids that calls drew
abbrev pub AreBegun : PseudoFileSystem → Type 0
AreBegun s = All (λ v. 1 ≤ v.0) s.versions

-- no object of a tree has a number above this one
abbrev pub AreAtMost : ℕ → FileTree → Type 0
AreAtMost most tree = (o : Object) → Contains tree.objects o → o.number.0 ≤ most

-- A PFS whose trees are certain: its views are the volume's, at every id that it keeps up to the last one; no object of a
-- version has a number above the version's first id; and its elements follow one another up to the id as of which it is
-- shown. Of any other PFS none of this is asked: a stream may have brought what no master wrote.
pub record HasViews (es : List FullElement) (volume : Volume) (pfs : ℕ) (s : PseudoFileSystem) : Type 0 where
  pub numbered : All (λ v. AreAtMost v.0 v.1) s.versions
  pub views : (t : ℕ) → t ≤ volume.last → Keeps s.retention t → IsViewOf es pfs t (at volume pfs t)
  pub follows : Follows pfs (shown_id volume.last s) es

-- a slave into which nothing came: it has no sync end, and no element but its record
pub record IsSourceless (es : List FullElement) (pfs : ℕ) (s : PseudoFileSystem) : Type 0 where
  pub unsynced : s.sync_end ≡ 0
  pub alone : (e : FullElement) → Contains es e → pfs_of e.key.localization ≡ pfs → subject_of e.key ≡ record_subject pfs

-- no two of these PFS have one number, and each number is one that there may be
pub record HaveNumbers (systems : List PseudoFileSystem) : Type 0 where
  pub apart : IsDistinct eqb (map (λ (s : PseudoFileSystem). s.number) systems)
  pub few : All (λ (s : PseudoFileSystem). s.number < MOST_PFS) systems

-- Elements stand for a volume: those that its tree holds, with their payloads.
pub record StandFor (es : List FullElement) (volume : Volume) : Type 0 where
  pub keys : HaveOwnKeys es
  pub fit : IsBelow (2 ^ 64) es
  pub payloads : All IsPayload es
  pub names : KeysFit name_hash es
  pub records : HaveRecords es volume
  pub drawn : volume.last ≤ GREATEST_ID
  pub own : All (λ s. system_of volume s.number ≡ Some s) volume.systems
  pub numbers : HaveNumbers volume.systems
  pub of_systems : AreOfSystems es volume
  pub ids : OnEach volume (HasIds es volume.last)
  pub begun : OnEach volume (λ pfs s. AreBegun s)
  pub views : OnEach volume (λ pfs s. s.clear ≡ true → HasViews es volume pfs s)
  pub sourceless : OnEach volume (λ pfs s. s.role ≡ Slave → s.origin ≡ Nowhere → IsSourceless es pfs s)

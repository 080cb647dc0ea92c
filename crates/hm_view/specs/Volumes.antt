-- What is told of the volume that the elements of a store show.
use Rattle.std.specs.Prelude.{◌≡◌, ℕ, ◌++◌, List, Option, None, Some, codes, if◌then◌else◌}
use Rattle.hm_types.specs.Id.{id_text}
use Rattle.hm_types.specs.declared.id.Obj.{Obj}
use Rattle.hm_types.specs.declared.object.Object.{Object}
use Rattle.hm_key.specs.Counts.{Counts}
use Rattle.hm_key.specs.Extents.{Extent}
use Rattle.hm_key.specs.declared.element.Element.{Element}
use Rattle.hm_model.specs.Answer.{target_of}
use Rattle.hm_model.specs.Reply.{five_digits}
use Rattle.hm_model.specs.View.{View}
use Rattle.hm_model.specs.Volume.{Volume}
use Rattle.hm_records.specs.declared.inode.Inode.{Inode}
use Rattle.hm_records.specs.declared.pfs_record.PfsRecord.{PfsRecord}
use Rattle.hm_volume.specs.Found.{IsMadeBy}
use Rattle.hm_volume.specs.Shown.{ShowsAs}
use Rattle.hm_cursor.specs.Told.{Lists, OnBalanced, fulls}

-- a fact of each volume that the elements of a store show
abbrev pub OnVolumes : Option (List Element) → Option (List Extent) → (Lists → Volume → Type 0) → Type 0
OnVolumes es xs P =
    OnBalanced es xs (λ lists. (volume : Volume) (view : View) → ShowsAs (fulls lists) volume view → P lists volume)

-- an object of this number that the inode makes has this target
abbrev pub IsTargetTold : ℕ → ℕ → Obj → Inode → List ℕ → Lists → Volume → Type 0
IsTargetTold t pfs number inode text lists volume =
    (o : Object) → o.number ≡ number → IsMadeBy (Counts (fulls lists) t) pfs inode o → text ≡ target_of volume o.content

-- the id that the text of a link begins with, by the record of the PFS: a slave's is its sync end
abbrev pub id_by : Option PfsRecord → List ℕ
id_by None = codes "-1"
id_by (Some r) = if r.master then codes "-1" else id_text r.sync_end

-- the text of a link to a PFS with this record
abbrev pub text_by : Option PfsRecord → ℕ → List ℕ
text_by found pfs = codes "@@" ++ (id_by found ++ (codes ":" ++ five_digits pfs))

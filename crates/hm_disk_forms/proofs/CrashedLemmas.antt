-- What a crash leaves of the writes since the last sync.
use Rattle.std.proofs.Common.{◌≡◌, ℕ, ◌+◌, ◌<◌, ◌≤◌, true, List, [], ◌∷◌, ◌++◌, sym, ◌∙◌, ap, subst, arith, length, take, get_or}
use Rattle.std.proofs.lemmas.List.{take_more}
use Rattle.hm_disk.specs.Crash.{Told, MayLeave}
use Rattle.hm_disk.specs.Disk.{overwritten}
use Rattle.hm_disk.specs.WriteLaws.{MayLeave-added}
use Rattle.hm_disk.proofs.CrashLemmas.{MayLeave-through}
use Rattle.hm_disk.proofs.OverwriteLemmas.{MayLeave-overwritten}
use Rattle.hm_disk_forms.specs.MemDisk.{DiskState, FitsIn, KeepsLeft, changed, fits, told_after, told_of, with_change}
use Rattle.hm_disk_forms.specs.MemLaws.{changed-write, fits-within}
use Rattle.hm_disk_forms.specs.declared.change.Change.{Change}
use Rattle.hm_disk_forms.specs.declared.change.Change.TheVariants.{Write, Sync}
use Rattle.hm_disk_forms.proofs.MemLemmas.{told-more, told_written}

-- a write of which only a front is on the disk
pub keeps-write : (old : List ℕ) (place count : ℕ) (bytes front : List ℕ) → fits (length old) place count bytes ≡ true → length front ≤ length bytes
    → KeepsLeft (Write place count bytes) old (overwritten old place front)
keeps-write old place count bytes front fit short told left =
    let sure = fits-within (length old) place count bytes fit in
    let within : place + count ≤ length told.bytes = omega (arith, sure.0, left.size) in
    let then = overwritten told.bytes place bytes in
    subst (λ (t : Told). MayLeave t.bytes t.unsettled (overwritten old place front)) (sym (changed-write told place count bytes within sure.1))
    (MayLeave-through then old (overwritten old place front) ((place, count) ∷ told.unsettled) ((place, count) ∷ [])
    (MayLeave-added told.bytes then old (place, count) told.unsettled (MayLeave-overwritten told.bytes place count bytes sure.1 within) left)
    (λ byte outside. (outside.0, tt)) (MayLeave-overwritten old place count front (omega (arith, short, sure.1)) sure.0))

-- so a disk keeps to what a crash may leave where it puts such a front
pub keeps-put : (old new : DiskState) (change : Change) (place count : ℕ) (bytes front : List ℕ) → change ≡ Write place count bytes
    → FitsIn (length (told_of old).bytes) change → length front ≤ length bytes → new ≡ with_change old (Write place count front)
    → KeepsLeft change (told_of old).bytes (told_of new).bytes
keeps-put old new change place count bytes front write fit short is =
    subst (λ (one : Change). KeepsLeft one (told_of old).bytes (told_of new).bytes) (sym write)
    (subst (λ (then : List ℕ). KeepsLeft (Write place count bytes) (told_of old).bytes then) (sym then)
    (keeps-write (told_of old).bytes place count bytes front fits_in short))
  where
    fits_in : fits (length (told_of old).bytes) place count bytes ≡ true
    fits_in = subst (FitsIn (length (told_of old).bytes)) write fit

    then : (told_of new).bytes ≡ overwritten (told_of old).bytes place front
    then =
        let sure = fits-within (length (told_of old).bytes) place count bytes fits_in in
        ap (λ (told : Told). told.bytes) (told_written old new (ap (λ (d : DiskState). d.size) is) place count front (ap (λ (d : DiskState). d.changes) is)
        (omega (arith, short, sure.1)) sure.0)

-- and where it settles all of it
pub told-settled : (old new : DiskState) → new ≡ with_change old Sync → told_of new ≡ changed Sync (told_of old)
told-settled old new is = ap told_of is ∙ told-more old.size old.changes Sync

-- one change more
pub crashed-more : (size : ℕ) (changes : List Change) (index : ℕ) (change : Change) (old new : List ℕ) → index < length changes
    → get_or changes index change ≡ change → KeepsLeft change old new
    → MayLeave (told_after size (take index changes)).bytes (told_after size (take index changes)).unsettled old
    → MayLeave (told_after size (take (index + 1) changes)).bytes (told_after size (take (index + 1) changes)).unsettled new
crashed-more size changes index change old new below is keeps left =
    subst (λ (told : Told). MayLeave told.bytes told.unsettled new) (sym then) (keeps (told_after size (take index changes)) left)
  where
    then : told_after size (take (index + 1) changes) ≡ changed change (told_after size (take index changes))
    then = ap (told_after size) (take_more changes index change below ∙ ap (λ (one : Change). take index changes ++ one ∷ []) is)
        ∙ told-more size (take index changes) change

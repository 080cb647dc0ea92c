-- The laws of a disk in memory: what its record says of each moment.
use Rattle.std.specs.Prelude.{◌≡◌, ℕ, ◌+◌, ◌≤◌, Bool, true, false, if◌then◌else◌, List, [], ◌∷◌, ◌++◌, length, take, drop}
use Rattle.std.proofs.Common.{ap, refl, sym, ◌∙◌, subst, arith}
use Rattle.std.proofs.lemmas.Bool.{and_from, and_parts, le-leb, leb-true}
use Rattle.std.proofs.lemmas.List.{take_all, take-append-drop}
use Rattle.hm_disk.specs.Crash.{Told, MayLeave}
use Rattle.hm_disk_forms.specs.MemDisk.{DiskState, changed, fits, may_be_left, replayed, told_after, told_of, written, zeros}
use Rattle.hm_disk.specs.WriteLaws.{MayLeave-added, MayLeave-overwritten}
use Rattle.hm_disk_forms.specs.declared.change.Change.{Change}
use Rattle.hm_disk_forms.specs.declared.change.Change.TheVariants.{Write, Sync}

-- where a write fits
pub fits-from : (size place count : ℕ) (bytes : List ℕ) → place + count ≤ size → length bytes ≤ count → fits size place count bytes ≡ true
fits-from size place count bytes within front = and_from _ _ (le-leb _ _ within) (le-leb _ _ front)

pub fits-within : (size place count : ℕ) (bytes : List ℕ) → fits size place count bytes ≡ true → (place + count ≤ size) × (length bytes ≤ count)
fits-within size place count bytes fit = let both = and_parts _ _ fit in (leb-true _ _ both.0, leb-true _ _ both.1)

-- a write that fits is made
pub changed-write : (told : Told) (place count : ℕ) (bytes : List ℕ) → place + count ≤ length told.bytes → length bytes ≤ count
    → changed (Write place count bytes) told ≡ written place count bytes told
changed-write told place count bytes within front =
    ap (λ (b : Bool). if b then written place count bytes told else told) (fits-from (length told.bytes) place count bytes within front)

-- some changes after others
pub replayed-append : (changes more : List Change) (told : Told) → replayed (changes ++ more) told ≡ replayed more (replayed changes told)
replayed-append [] more told = refl
replayed-append (first ∷ changes) more told = replayed-append changes more (changed first told)

-- A write stays in its moment, and what a crash might have left it still may.
moment_if : (b : Bool) (place count : ℕ) (bytes : List ℕ) (told : Told) → (if b then written place count bytes told else told).moment ≡ told.moment
moment_if true place count bytes told = refl
moment_if false place count bytes told = refl

stays_if : (b : Bool) (place count : ℕ) (bytes : List ℕ) (told : Told) (image : List ℕ)
    → (b ≡ true → (place + count ≤ length told.bytes) × (length bytes ≤ count)) → MayLeave told.bytes told.unsettled image
    → MayLeave (if b then written place count bytes told else told).bytes (if b then written place count bytes told else told).unsettled image
stays_if true place count bytes told image fit left =
    let sure = fit refl in
    MayLeave-added told.bytes _ image (place, count) told.unsettled (MayLeave-overwritten told.bytes place count bytes sure.1 sure.0) left
stays_if false place count bytes told image fit left = left

pub moment-write : (place count : ℕ) (bytes : List ℕ) (told : Told) → (changed (Write place count bytes) told).moment ≡ told.moment
moment-write place count bytes told = moment_if (fits (length told.bytes) place count bytes) place count bytes told

-- the moment never falls
pub moment-replayed : (changes : List Change) (told : Told) → told.moment ≤ (replayed changes told).moment
moment-replayed [] told = omega arith
moment-replayed (Write place count bytes ∷ changes) told =
    omega (arith, moment-write place count bytes told, moment-replayed changes (changed (Write place count bytes) told))
moment-replayed (Sync ∷ changes) told = omega (arith, moment-replayed changes (changed Sync told))

-- What a crash might have left since the present moment, it still may after changes within this moment.
pub left-stays : (changes : List Change) (told : Told) (image : List ℕ) → (replayed changes told).moment ≤ told.moment
    → MayLeave told.bytes told.unsettled image → MayLeave (replayed changes told).bytes (replayed changes told).unsettled image
left-stays [] told image same left = left
left-stays (Write place count bytes ∷ changes) told image same left =
    left-stays changes (changed (Write place count bytes) told) image (omega (arith, moment-write place count bytes told, same))
    (stays_if (fits (length told.bytes) place count bytes) place count bytes told image (fits-within (length told.bytes) place count bytes) left)
left-stays (Sync ∷ changes) told image same left = absurd (omega (arith, moment-replayed changes (changed Sync told), same))

-- after all changes the disk tells what it tells now
pub told-all : (d : DiskState) (k : ℕ) → length d.changes ≤ k → told_after d.size (take k d.changes) ≡ told_of d
told-all d k all = ap (told_after d.size) (take_all k d.changes all)

-- and after the rest of them
pub told-rest : (d : DiskState) (k : ℕ) → replayed (drop k d.changes) (told_after d.size (take k d.changes)) ≡ told_of d
told-rest d k =
    sym (replayed-append (take k d.changes) (drop k d.changes) (record { bytes = zeros d.size; unsettled = []; moment = 0 }))
    ∙ ap (told_after d.size) (take-append-drop k d.changes)

pub counts : (d : DiskState) (moment : ℕ) (image : List ℕ) → moment ≤ (told_of d).moment
    → MayLeave (told_of d).bytes (told_of d).unsettled image → may_be_left d moment image
counts d moment image early left =
    let here = told-all d (length d.changes) (omega arith) in (
      length d.changes,
      omega arith,
      subst (λ (told : Told). moment ≤ told.moment) (sym here) early,
      subst (λ (told : Told). MayLeave told.bytes told.unsettled image) (sym here) left,
    )

pub only : (d : DiskState) (image : List ℕ) → may_be_left d (told_of d).moment image
    → MayLeave (told_of d).bytes (told_of d).unsettled image
only d image left =
    let rest = told-rest d left.0 in
    subst (λ (told : Told). MayLeave told.bytes told.unsettled image) rest
    (left-stays (drop left.0 d.changes) (told_after d.size (take left.0 d.changes)) image
    (subst (λ (told : Told). told.moment ≤ (told_after d.size (take left.0 d.changes)).moment) (sym rest) left.2) left.3)

pub earlier : (d : DiskState) (first moment : ℕ) (image : List ℕ) → first ≤ moment
    → may_be_left d moment image → may_be_left d first image
earlier d first moment image before left = (left.0, left.1, omega (arith, before, left.2), left.3)

-- How the pages of a disk in memory keep up with its record.
use Rattle.std.proofs.Common.{◌≡◌, refl, Bool, true, false, if◌then◌else◌, ◌⊎◌, inl, inr, ⊎_elim, ℕ, ◌+◌, ◌-◌, ◌<◌, ◌≤◌, List, [], ◌∷◌, ◌++◌, sym}
use Rattle.std.proofs.Common.{◌∙◌, ap, arith, length, get_or, slice_range}
use Rattle.std.proofs.lemmas.List.{places, length-replicate, get_or-replicate, ext_get_or}
use Rattle.std.proofs.lemmas.Bool.{cases_lt}
use Rattle.hm_disk.specs.Crash.{Told, MayLeave}
use Rattle.hm_disk.specs.Disk.{overwritten}
use Rattle.hm_disk_forms.specs.Pages.{Overwrites}
use Rattle.hm_disk_forms.specs.MemDisk.{changed, fits, replayed, told_after, written, zeros}
use Rattle.hm_disk_forms.specs.MemLaws.{changed-write, fits-within}
use Rattle.hm_disk_forms.specs.declared.change.Change.{Change}
use Rattle.hm_disk_forms.specs.declared.change.Change.TheVariants.{Write, Sync}
use Rattle.hm_disk_forms.proofs.MemLemmas.{told-more}
use Rattle.hm_disk.proofs.OverwriteLemmas.{MayLeave-overwritten, get_or-overwritten_in}

pub length-zeros : (size : ℕ) → length (zeros size) ≡ size
unfolding zeros
length-zeros size = length-replicate size 0

pub get_or-zeros : (size byte : ℕ) → byte < size → get_or (zeros size) byte 0 ≡ 0
unfolding zeros
get_or-zeros size byte below = get_or-replicate size byte 0 0 below

-- what a record tells has the disk's size
length-changed : (change : Change) (told : Told) → length (changed change told).bytes ≡ length told.bytes
length-changed (Write place count bytes) told =
    length_if (fits (length told.bytes) place count bytes) (fits-within (length told.bytes) place count bytes)
  where
    length_if : (b : Bool) → (b ≡ true → (place + count ≤ length told.bytes) × (length bytes ≤ count))
        → length (if b then written place count bytes told else told).bytes ≡ length told.bytes
    length_if true fit = let sure = fit refl in (MayLeave-overwritten told.bytes place count bytes sure.1 sure.0).size
    length_if false fit = refl
length-changed Sync told = refl

length-replayed : (changes : List Change) (told : Told) → length (replayed changes told).bytes ≡ length told.bytes
length-replayed [] told = refl
length-replayed (change ∷ changes) told = length-replayed changes (changed change told) ∙ length-changed change told

pub length-told : (size : ℕ) (changes : List Change) → length (told_after size changes).bytes ≡ size
length-told size changes = length-replayed changes (record { bytes = zeros size; unsettled = []; moment = 0 }) ∙ length-zeros size

-- Pages that read as a list of bytes read as that list overwritten, where the same is put into both.
pub reads-overwritten : (before after : ℕ → ℕ) (old : List ℕ) (place : ℕ) (bytes : List ℕ) → place + length bytes ≤ length old
    → ((byte : ℕ) → byte < length old → before byte ≡ get_or old byte 0) → Overwrites before after place bytes
    → (byte : ℕ) → byte < length old → after byte ≡ get_or (overwritten old place bytes) byte 0
reads-overwritten before after old place bytes within reads put byte below = ⊎_elim low from (cases_lt byte place)
  where
    over : MayLeave old ((place, length bytes) ∷ []) (overwritten old place bytes)
    over = MayLeave-overwritten old place (length bytes) bytes (omega arith) within

    outside : (byte < place) ⊎ (place + length bytes ≤ byte) → after byte ≡ get_or (overwritten old place bytes) byte 0
    outside out = put.outside byte (out, tt) ∙ (reads byte below ∙ sym (over.same byte below (out, tt)))

    inside : byte < place + length bytes → place ≤ byte → after byte ≡ get_or (overwritten old place bytes) byte 0
    inside short long =
        let at : byte ≡ place + (byte - place) = omega arith in
        ap after at ∙ (put.inside (byte - place) (omega arith) ∙ sym (get_or-overwritten_in old place bytes byte within long short))

    low : byte < place → after byte ≡ get_or (overwritten old place bytes) byte 0
    low short = outside (inl short)

    from : place ≤ byte → after byte ≡ get_or (overwritten old place bytes) byte 0
    from long = ⊎_elim (λ short. inside short long) (λ past. outside (inr past)) (cases_lt byte (place + length bytes))

told-write : (size : ℕ) (changes : List Change) (place count : ℕ) (bytes : List ℕ) → length bytes ≤ count → place + count ≤ size
    → told_after size (changes ++ Write place count bytes ∷ []) ≡ written place count bytes (told_after size changes)
told-write size changes place count bytes front within =
    told-more size changes (Write place count bytes)
    ∙ changed-write (told_after size changes) place count bytes (omega (arith, length-told size changes)) front

-- the pages read as the record after a write
pub reads-write : (before after : ℕ → ℕ) (size : ℕ) (changes : List Change) (place count : ℕ) (bytes : List ℕ)
    → length bytes ≤ count → place + count ≤ size
    → ((byte : ℕ) → byte < size → before byte ≡ get_or (told_after size changes).bytes byte 0) → Overwrites before after place bytes
    → (byte : ℕ) → byte < size → after byte ≡ get_or (told_after size (changes ++ Write place count bytes ∷ [])).bytes byte 0
reads-write before after size changes place count bytes front within reads put byte below =
    let sized = length-told size changes in
    reads-overwritten before after (told_after size changes).bytes place bytes (omega (arith, sized))
    (λ b short. reads b (omega (arith, sized))) put byte (omega (arith, sized))
    ∙ sym (ap (λ (told : Told). get_or told.bytes byte 0) (told-write size changes place count bytes front within))

-- after a sync it tells the same bytes
pub bytes-sync : (size : ℕ) (changes : List Change) → (told_after size (changes ++ Sync ∷ [])).bytes ≡ (told_after size changes).bytes
bytes-sync size changes = ap (λ (told : Told). told.bytes) (told-more size changes Sync)

-- a buffer that was filled byte by byte is the range
pub range_read : (bytes buf : List ℕ) (place : ℕ) (read : ℕ → ℕ) → place + length buf ≤ length bytes
    → ((i : ℕ) → i < length buf → get_or buf i 0 ≡ read (place + i)) → ((byte : ℕ) → byte < length bytes → read byte ≡ get_or bytes byte 0)
    → buf ≡ slice_range bytes place (place + length buf)
range_read bytes buf place read within filled reads =
    ext_get_or 0 buf (slice_range bytes place (place + length buf)) (grind (arith, places))
    (λ i below. filled i below ∙ (reads (place + i) (omega arith) ∙ grind (arith, places)))

-- A volume that was made, and bytes that have none.
use Rattle.std.proofs.Common.{◌≡◌, ℕ, ◌*◌, ◌≤◌, List, Option, Some, None, length, refl, sym, subst, arith}
use Rattle.std.specs.Prelude.{IfSome}
use Rattle.hm_types.specs.Faults.{IsUndamaged}
use Rattle.hm_types.specs.Told.{BothTell}
use Rattle.hm_types.specs.declared.fault.Fault.{Fault}
use Rattle.hm_types.specs.declared.fault.Fault.TheVariants.{NoMemory}
use Rattle.hm_types.specs.declared.limits.TheConstants.{BIGBLOCK_BYTES}
use Rattle.hm_disk.specs.Crash.{Told}
use Rattle.hm_header.specs.OnDisk.{HasHeader}
use Rattle.hm_header.specs.Range.{IsSize}
use Rattle.hm_header.specs.declared.header.Header.{Header}
use Rattle.hm_model.specs.Volume.{Volume}
use Rattle.hm_image.specs.Fresh.{IsFresh, fresh_header}
use Rattle.hm_image.specs.Sound.{IsSoundBy}
use Rattle.hm_image.specs.Stands.{StandsFor}
use Rattle.hm_image.proofs.FreshLemmas.{fresh_is_sound}
use Rattle.hm_image.proofs.FreshStandsLemmas.{fresh_stands}
use Rattle.hm_newfs.specs.Volume.{MakesVolume}
use Rattle.hm_load.specs.Damage.{IsDamage}
use Rattle.hm_load.specs.Faults.{Tells}
use Rattle.hm_recover.proofs.DamageLemmas.{same-header}
use Rattle.hm_core.specs.Mounting.{IsHeaderOn, IsNotRead}
use Rattle.hm_core.specs.Opened.{IsMade, IsTooSmall, IsUnarmed}

-- the header of a fresh volume names no entries
fresh_unarmed : (bigblocks : ℕ) (bytes : List ℕ) → IsSize bigblocks → IsFresh bigblocks bytes → IsUnarmed bytes
fresh_unarmed bigblocks bytes size is =
    let sound = fresh_is_sound bigblocks bytes size is in
    record { header = fresh_header bigblocks; slot = sound.slot; counts = sound.counts; none = refl }

-- a volume was made where there was room for it
pub made : (bigblocks : ℕ) (old new : Option Told) → IsSize bigblocks → IfSome old (λ t. IsTooSmall bigblocks t → ⊥)
    → BothTell old new (MakesVolume bigblocks) → BothTell old new (IsMade bigblocks)
made bigblocks None None size room makes = tt
made bigblocks None (Some t) size room makes = makes
made bigblocks (Some s) None size room makes = makes
made bigblocks (Some s) (Some t) size room makes = record {
  stands = record { stands = fresh_stands bigblocks t.bytes size makes.made; settled = makes.settled };
  room = room;
  unarmed = fresh_unarmed bigblocks t.bytes size makes.made;
}

-- a disk of so many bytes has room for them
pub has_room : (told : Option Told) (size bigblocks : ℕ) → bigblocks * BIGBLOCK_BYTES ≤ size → IfSome told (λ t. size ≡ length t.bytes)
    → IfSome told (λ t. IsTooSmall bigblocks t → ⊥)
has_room None size bigblocks room is = tt
has_room (Some t) size bigblocks room is = λ small. absurd (omega (arith, room, is, small))

-- bytes that stand for a volume are sound by the header that counts
sound_by : (bytes : List ℕ) (header : Header) (slot : ℕ) (volume : Volume) → HasHeader bytes header slot → StandsFor bytes volume
    → IsSoundBy bytes header
sound_by bytes header slot volume counts stands =
    subst (IsSoundBy bytes) (same-header bytes stands.header header stands.sound.slot slot stands.sound.counts counts) stands.sound

-- why no space was read of the volume that was not loaded by the header that counts
pub not_loaded : (old new : Option Told) (header : Header) (fault : Fault) → new ≡ old → IfSome old (IsHeaderOn header)
    → IfSome old (λ t. IsSoundBy t.bytes header → IsUndamaged fault) → IfSome old (λ t. Tells (IsDamage t.bytes header) fault)
    → IsNotRead header fault old new
not_loaded None new header fault same counts sound damage = record { told = same; damage = tt; whole = tt }
not_loaded (Some t) new header fault same counts sound damage = record {
  told = same;
  damage = damage;
  whole = λ volume stands. sound (sound_by t.bytes header counts.0 volume counts.1 stands);
}

-- nor where memory was refused
pub refused_memory : (old new : Option Told) (header : Header) → new ≡ old → IsNotRead header NoMemory old new
refused_memory None new header same = record { told = same; damage = tt; whole = tt }
refused_memory (Some t) new header same = record { told = same; damage = tt; whole = λ volume stands. tt }

-- a disk on which a header counts has room for its volume
pub room_on : (told : Option Told) (header : Header) (bigblocks : ℕ) → bigblocks ≡ header.bigblocks → IfSome told (IsHeaderOn header)
    → IfSome told (λ t. bigblocks * BIGBLOCK_BYTES ≤ length t.bytes)
room_on None header bigblocks same counts = tt
room_on (Some t) header bigblocks same counts = subst (λ (n : ℕ). n * BIGBLOCK_BYTES ≤ length t.bytes) (sym same) counts.1.room

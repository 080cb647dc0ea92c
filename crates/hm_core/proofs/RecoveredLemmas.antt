-- A disk that was recovered and then read, as a volume is mounted; and why none is.
use Rattle.std.proofs.Common.{◌≡◌, ◌⊎◌, inl, inr, ⊎_elim, ℕ, List, [], Option, None, Some, sym, ap, subst}
use Rattle.std.specs.Prelude.{IfSome}
use Rattle.hm_types.specs.Told.{BothTell}
use Rattle.hm_types.specs.declared.fault.Fault.{Fault}
use Rattle.hm_types.specs.declared.fault.Fault.TheVariants.{Damaged, Media, NoMemory}
use Rattle.hm_types.specs.declared.id.Id.{Id}
use Rattle.hm_disk.specs.Crash.{MayLeave, Told}
use Rattle.hm_disk.specs.Moments.{Each, LeftSince}
use Rattle.hm_disk.proofs.CrashLemmas.{MayLeave-settled}
use Rattle.hm_header.specs.OnDisk.{HasHeader}
use Rattle.hm_header.specs.declared.fault.HeaderFault.TheVariants.{BadField as bad_field, NotVolume as no_volume}
use Rattle.hm_header.specs.declared.header.Header.{Header}
use Rattle.hm_undo.specs.Recovered.{RecoversTo}
use Rattle.hm_undo.proofs.RecoveredLemmas.{recovery-is-one}
use Rattle.hm_image.specs.Stands.{StandsFor}
use Rattle.hm_load.specs.Damage.{IsDamage}
use Rattle.hm_load.specs.Faults.{Tells}
use Rattle.hm_model.specs.Foreign.{Foreigners}
use Rattle.hm_model.specs.Volume.{Volume}
use Rattle.hm_recover.specs.Recovery.{HasWholeRange, IsRecovered, IsRecoveryRefused, IsUntouched, KeepsRecovery}
use Rattle.hm_recover.specs.declared.fault.OpenFault.{OpenFault}
use Rattle.hm_recover.specs.declared.fault.OpenFault.TheVariants.{BadField, Fault as of_disk, NotVolume}
use Rattle.hm_recover.specs.declared.opened.Opened.{Opened}
use Rattle.hm_recover.proofs.BoundaryLemmas.{boundary-kept}
use Rattle.hm_recover.proofs.DamageLemmas.{recovers-faultless, recovers-whole}
use Rattle.hm_core.specs.Crash.{LeavesNow, LeavesPrefixes, RecoversToPrefix}
use Rattle.hm_core.specs.History.{up_to}
use Rattle.hm_core.specs.Mounting.{IsHeaderOn, IsNotRead}
use Rattle.hm_core.specs.Opened.{IsNotMounted, IsOpenFault}
use Rattle.hm_core.proofs.CrashLemmas.{all_moments}
use Rattle.hm_core.proofs.ReadLemmas.{IsLeft, left_same, read_keeps, read_now}

-- What a disk tells once it was recovered and read, and what a crash within may have left: each such image recovers to its bytes.
pub record AfterReads (header : Header) (slot : ℕ) (past since : LeftSince) (old new : Told) : Type 0 where
  pub recovers : RecoversTo old.bytes new.bytes
  pub counts : HasHeader new.bytes header slot
  pub written : (new ≡ old) ⊎ (HasWholeRange old.bytes × (new.unsettled ≡ []))
  pub untouched : ¬ HasWholeRange old.bytes → (new ≡ old) × LeavesNow past since (Some new)
  pub recovery : KeepsRecovery past since old new
  pub crashed : old.unsettled ≡ [] → (opening : Volume) (foreigners : Foreigners) → StandsFor new.bytes opening
      → LeavesPrefixes past since (λ boundary. boundary ≡ header.last.0) opening foreigners []

-- nothing was written, and then the disk was only read
untouched_then : (past middle since : LeftSince) (s t : Told) → IsUntouched past middle s t → LeavesNow middle since (Some t)
    → (t ≡ s) × LeavesNow past since (Some t)
untouched_then past middle since s t same now =
    (same.told, λ moment image left. ⊎_elim (λ was. inl ((same.left moment image).1 was)) (λ here. inr here) (now moment image left))

module _ (opened : Opened) (far over past middle since : LeftSince) (s t : Told) (at : IsLeft far past (Some s)) (before : IsLeft over middle (Some t))
    (after : IsLeft over since (Some t)) (is : IsRecovered opened past middle s t) (keeps : KeepsRecovery past middle s t) where
  recovery_read : KeepsRecovery past since s t
  recovery_read = read_keeps over past middle since s t before after keeps

  -- what recovers to these bytes recovers to the volume for which they stand, up to its boundary
  prefix : (opening : Volume) (foreigners : Foreigners) → StandsFor t.bytes opening → (image : List ℕ) → RecoversTo image t.bytes
      → RecoversToPrefix (λ boundary. boundary ≡ opened.header.last.0) opening foreigners [] image
  unfolding up_to
  prefix opening foreigners stands image recovers = record {
    result = t.bytes;
    recovers = recovers;
    boundary = sym (ap (λ (id : Id). id.0)
        (boundary-kept image t.bytes recovers.header opened.header recovers.slot opened.slot recovers recovers.counts is.counts));
    stands = stands;
  }

  start : s.unsettled ≡ [] → Each (MayLeave s.bytes s.unsettled) (λ image. RecoversTo image t.bytes)
  start none image left =
      subst (λ (bytes : List ℕ). RecoversTo bytes t.bytes)
      (sym (MayLeave-settled s.bytes image (subst (λ (ranges : List (ℕ × ℕ)). MayLeave s.bytes ranges image) none left))) is.recovers

  crashed_read : s.unsettled ≡ [] → (opening : Volume) (foreigners : Foreigners) → StandsFor t.bytes opening
      → LeavesPrefixes past since (λ boundary. boundary ≡ opened.header.last.0) opening foreigners []
  crashed_read none opening foreigners stands moment image left =
      ⊎_elim (λ was. inl was) (λ recovers. inr (prefix opening foreigners stands image recovers))
      (all_moments (λ other. RecoversTo other t.bytes) past since s t after.earlier at.only (start none)
      ((recovery_read t.bytes is.recovers).time none) moment image left)

  after_reads : AfterReads opened.header opened.slot past since s t
  after_reads = record {
    recovers = is.recovers;
    counts = is.counts;
    written = ⊎_elim (λ same. inl same.1.told) (λ range. inr range) is.how;
    untouched = λ none. ⊎_elim
        (λ same. untouched_then past middle since s t same.1 (read_now over middle since (Some t) (Some t) before after))
        (λ range. absurd (none range.0)) is.how;
    recovery = recovery_read;
    crashed = crashed_read;
  }

over_told : (opened : Opened) (far over past middle since : LeftSince) (old told : Option Told) → IsLeft far past old → IsLeft over middle told
    → IsLeft over since told → BothTell old told (IsRecovered opened past middle) → BothTell old told (KeepsRecovery past middle)
    → BothTell old told (AfterReads opened.header opened.slot past since)
over_told opened far over past middle since None None at before after is keeps = tt
over_told opened far over past middle since None (Some t) at before after is keeps = absurd is
over_told opened far over past middle since (Some s) None at before after is keeps = absurd is
over_told opened far over past middle since (Some s) (Some t) at before after is keeps =
    after_reads opened far over past middle since s t at before after is keeps

-- The same by what is over of three disks: as it was, as it was recovered, and as it was read.
pub recovered_read : {P : Type 0} (opened : Opened) (before : P → LeftSince) (one two three : P) (past middle since : LeftSince)
    (old told new : Option Told) → IsLeft (before one) past old → IsLeft (before two) middle told → IsLeft (before three) since new → three ≡ two
    → new ≡ told → BothTell old told (IsRecovered opened past middle) → BothTell old told (KeepsRecovery past middle)
    → BothTell old told (AfterReads opened.header opened.slot past since)
recovered_read opened before one two three past middle since old told new first second third over same is keeps =
    over_told opened (before one) (before two) past middle since old told first second (left_same before three two since new told over same third) is keeps

-- the header counts there
pub recovered_header_on : (opened : Opened) (past since : LeftSince) (old new : Option Told) → BothTell old new (IsRecovered opened past since)
    → IfSome new (λ t. HasHeader t.bytes opened.header opened.slot)
recovered_header_on opened past since old None is = tt
recovered_header_on opened past since None (Some t) is = absurd is
recovered_header_on opened past since (Some s) (Some t) is = is.counts

pub header_on : (header : Header) (slot : ℕ) (told : Option Told) → IfSome told (λ t. HasHeader t.bytes header slot) → IfSome told (IsHeaderOn header)
header_on header slot None counts = tt
header_on header slot (Some t) counts = (slot, counts)

-- no volume is mounted that is not recovered
module _ (past since : LeftSince) (s t : Told) (keeps : KeepsRecovery past since s t) where
  refused_untouched : IsUntouched past since s t → (t ≡ s) × LeavesNow past since (Some t)
  refused_untouched same = (same.told, λ moment image left. inl ((same.left moment image).1 left))

  refused : (fault : OpenFault) → IsRecoveryRefused fault past since s t → IsNotMounted fault past since s t
  refused NotVolume is = record {
    why = is.1;
    whole = λ volume stands. recovers-faultless s.bytes stands.result no_volume stands.recovers is.1;
    untouched = λ none. refused_untouched is.0;
    recovery = keeps;
  }
  refused (BadField place) is = record {
    why = is.1;
    whole = λ volume stands. recovers-faultless s.bytes stands.result (bad_field place) stands.recovers is.1;
    untouched = λ none. refused_untouched is.0;
    recovery = keeps;
  }
  refused (of_disk (Media before after)) is = record {
    why = tt;
    whole = λ volume stands. tt;
    untouched = λ none. ⊎_elim refused_untouched (λ range. absurd (none range)) is;
    recovery = keeps;
  }
  refused (of_disk (Damaged at kind)) is = record {
    why = inl is.1;
    whole = λ volume stands. recovers-whole s.bytes stands.result at kind stands.recovers is.1;
    untouched = λ none. refused_untouched is.0;
    recovery = keeps;
  }
  refused (of_disk NoMemory) is = absurd is

pub not_recovered : (past since : LeftSince) (old new : Option Told) (fault : OpenFault) → BothTell old new (IsRecoveryRefused fault past since)
    → BothTell old new (KeepsRecovery past since) → BothTell old new (IsNotMounted fault past since)
not_recovered past since None None fault is keeps = tt
not_recovered past since None (Some t) fault is keeps = absurd keeps
not_recovered past since (Some s) None fault is keeps = absurd keeps
not_recovered past since (Some s) (Some t) fault is keeps = refused past since s t keeps fault is

-- nor one that was recovered, and of which no space was read
module _ (header : Header) (slot : ℕ) (past since : LeftSince) (s t : Told) (after : AfterReads header slot past since s t) where
  why_damaged : (fault : Fault) → Tells (IsDamage t.bytes header) fault → IsOpenFault s.bytes (of_disk fault)
  why_damaged (Media before after) tells = tt
  why_damaged (Damaged at kind) tells = inr (record {
    result = t.bytes;
    recovers = after.recovers;
    header = header;
    slot = slot;
    counts = after.counts;
    damage = tells;
  })
  why_damaged NoMemory tells = tt

  unread : (fault : Fault) (new : Option Told) → IsNotRead header fault (Some t) new → IsNotMounted (of_disk fault) past since s t
  unread fault new not = record {
    why = why_damaged fault not.damage;
    whole = λ volume stands. not.whole volume
        (subst (λ (bytes : List ℕ). StandsFor bytes volume) (recovery-is-one s.bytes stands.result t.bytes stands.recovers after.recovers) stands.stands);
    untouched = after.untouched;
    recovery = after.recovery;
  }

pub not_read : (header : Header) (slot : ℕ) (past since : LeftSince) (old told new : Option Told) (fault : Fault)
    → BothTell old told (AfterReads header slot past since) → IsNotRead header fault told new → BothTell old new (IsNotMounted (of_disk fault) past since)
not_read header slot past since old told new fault after not =
    subst (λ (o : Option Told). BothTell old o (IsNotMounted (of_disk fault) past since)) (sym not.told) (by old told after not) where
      by : (o n : Option Told) → BothTell o n (AfterReads header slot past since) → IsNotRead header fault n new
          → BothTell o n (IsNotMounted (of_disk fault) past since)
      by None None after not = tt
      by None (Some t) after not = absurd after
      by (Some s) None after not = absurd after
      by (Some s) (Some t) after not = unread header slot past since s t after fault new not

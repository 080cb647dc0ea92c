-- The volume, as the gate over it is opened.
use Rattle.std.proofs.Common.{inl, inr, ⊎_elim, ℕ, ◌≤◌, List, [], ◌∷◌, sym, ap, subst, ◌∙◌, arith, slice_index, Option, Some, None, IfSome}
use Rattle.hm_types.specs.Told.{BothTell}
use Rattle.hm_disk.specs.Crash.{Told, MayLeave}
use Rattle.hm_disk.specs.Moments.{LeftSince, WriteElapses}
use Rattle.hm_disk.specs.Transfer.{WrittenSynced}
use Rattle.hm_disk.proofs.DiskLemmas.{BothTell-and, BothTell-then}
use Rattle.hm_disk.proofs.CrashLemmas.{MayLeave-fewer, MayLeave-same}
use Rattle.hm_disk.proofs.MomentLemmas.{Elapses-more}
use Rattle.hm_disk.proofs.OverwriteLemmas.{MayLeave-overwritten}
use Rattle.hm_header.specs.OnDisk.{HasSlots, gate_place}
use Rattle.hm_header.specs.Range.{IsSize}
use Rattle.hm_header.specs.declared.header.TheConstants.{GATE_OPEN}
use Rattle.hm_header.proofs.GateLemmas.{gate-overwritten}
use Rattle.hm_header.proofs.StageLemmas.{Elapses-within}
use Rattle.hm_newfs.specs.Steps.{ClosesGates, ClosingElapses, ContentsElapse, HasSpace, AreGatesClosed, WritesContents}
use Rattle.hm_newfs.specs.Volume.{FailsToMake, MakesVolume, MayBeMade, VolumeElapses}
use Rattle.hm_newfs.proofs.ClosingLemmas.{no-volume}
use Rattle.hm_newfs.proofs.FreshLemmas.{opened, opened-or-not}

-- what a crash leaves within the first step, and within the second
pub closing-time : (bigblocks : ℕ) (past since : LeftSince) (s t : Told) → ClosingElapses past since s t → VolumeElapses bigblocks past since s t
closing-time bigblocks past since s t closing = Elapses-within _ (MayBeMade bigblocks s) past since s t (λ image old. inl old) closing

pub contents-time : (bigblocks : ℕ) (past middle since : LeftSince) (s t u : Told) → ClosingElapses past middle s t → ContentsElapse middle since t u
    → VolumeElapses bigblocks past since s u
contents-time bigblocks past middle since s t u closing writing =
    Elapses-more (MayBeMade bigblocks s) AreGatesClosed past middle since s t u (closing-time bigblocks past middle s t closing) writing
    (λ image closed. inr (inl (no-volume image closed)))

-- all but the gate of the first slot is written, and settled
pub record IsReady (bigblocks : ℕ) (past since : LeftSince) (s u : Told) : Type 0 where
  pub wrote : WritesContents bigblocks s u
  pub room : HasSpace bigblocks u
  pub time : VolumeElapses bigblocks past since s u

pub ready : (bigblocks : ℕ) (past middle since : LeftSince) (s t u : Told) → HasSpace bigblocks s → ClosesGates s t → ClosingElapses past middle s t
    → WritesContents bigblocks t u → ContentsElapse middle since t u → IsReady bigblocks past since s u
ready bigblocks past middle since s t u room closes closing wrote writing = record {
  wrote = record { contents = wrote.contents; closed = wrote.closed; settled = wrote.settled; size = wrote.size ∙ closes.size };
  room = omega (arith, room, wrote.size, closes.size);
  time = contents-time bigblocks past middle since s t u closing writing;
}

-- the same where the disk tells
pub ready-told : (bigblocks : ℕ) (past middle since : LeftSince) (old told new : Option Told) → IfSome old (HasSpace bigblocks)
    → BothTell old told ClosesGates → BothTell old told (ClosingElapses past middle)
    → BothTell told new (WritesContents bigblocks) → BothTell told new (ContentsElapse middle since) → BothTell old new (IsReady bigblocks past since)
ready-told bigblocks past middle since old told new room closes closing wrote writing =
    BothTell-then old told new (HasSpace bigblocks) _ _ _ (λ s t u room p q. ready bigblocks past middle since s t u room p.0 p.1 q.0 q.1) room
    (BothTell-and old told _ _ closes closing) (BothTell-and told new _ _ wrote writing)

module _ (bigblocks : ℕ) (size : IsSize bigblocks) (past middle since : LeftSince) (s u v : Told) (is : IsReady bigblocks past middle s u) where
  both : HasSlots u.bytes
  both = omega (arith, is.room, size.0)

  -- the gate opened
  pub volume-made : WrittenSynced (gate_place 0) (GATE_OPEN ∷ []) u v → MakesVolume bigblocks s v
  volume-made written = record {
    made = opened bigblocks size u.bytes v.bytes is.room is.wrote.contents is.wrote.closed change
        (ap (λ (bs : List ℕ). slice_index bs (gate_place 0)) written.bytes_are ∙ gate-overwritten 0 u.bytes GATE_OPEN (omega arith) both);
    settled = written.unsettled_are;
    size = change.size ∙ is.wrote.size;
  }
    where
      change : MayLeave u.bytes ((gate_place 0, 1) ∷ []) v.bytes
      change = subst (λ (bs : List ℕ). MayLeave u.bytes ((gate_place 0, 1) ∷ []) bs) (sym written.bytes_are)
          (MayLeave-overwritten u.bytes (gate_place 0) 1 (GATE_OPEN ∷ []) (omega arith) (omega (arith, both)))

  -- within that there is no volume, or the new one
  pub volume-elapses : WriteElapses (gate_place 0) 1 middle since u v → VolumeElapses bigblocks past since s v
  volume-elapses then =
      Elapses-more (MayBeMade bigblocks s) _ past middle since s u v is.time then
      (λ image left. inr (opened-or-not bigblocks size u.bytes image is.room is.wrote.contents is.wrote.closed
      (subst (λ (ranges : List (ℕ × ℕ)). MayLeave u.bytes ((gate_place 0, 1) ∷ ranges) image) is.wrote.settled left)))

-- ---- a call of the disk failed

-- What the disk reads as a crash may leave now, and so it is among what one may have left since the start.
pub failed : (bigblocks : ℕ) (past since : LeftSince) (old new : Option Told)
    → ((image : List ℕ) → IfSome old (λ t. past t.moment image → MayLeave t.bytes t.unsettled image))
    → ((moment : ℕ) (image : List ℕ) → IfSome new (λ t. moment ≤ t.moment → MayLeave t.bytes t.unsettled image → since moment image))
    → BothTell old new (VolumeElapses bigblocks past since) → BothTell old new (FailsToMake bigblocks)
failed bigblocks past since None None only counts time = tt
failed bigblocks past since (Some s) (Some t) only counts time = record {
  left = ⊎_elim
      (λ was. inl (MayLeave-fewer s.bytes t.bytes ((gate_place 0, 1) ∷ (gate_place 1, 1) ∷ s.unsettled) s.unsettled
      (λ byte outside. outside.1.1) (only t.bytes was)))
      (λ within. within)
      (time.only s.moment t.bytes (omega arith) (counts s.moment t.bytes time.later (MayLeave-same t.bytes t.unsettled)));
  size = time.size;
}
failed bigblocks past since None (Some t) only counts time = absurd time
failed bigblocks past since (Some s) None only counts time = absurd time

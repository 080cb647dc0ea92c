-- Gates that are closed, and stay so.
use Rattle.std.proofs.Common.{◌≡◌, ◌⊎◌, inl, ℕ, zero, suc, ◌+◌, ◌<◌, ◌≤◌, List, [], ◌∷◌, sym, ap, subst, ◌∙◌, arith, length, slice_index}
use Rattle.hm_disk.specs.Crash.{Told, MayLeave, Outside}
use Rattle.hm_disk.specs.Disk.{Synced, Written, overwritten}
use Rattle.hm_disk.specs.Moments.{Each, LeftSince, SyncElapses, WriteElapses}
use Rattle.hm_disk.proofs.CrashLemmas.{MayLeave-fewer, MayLeave-same, MayLeave-through}
use Rattle.hm_disk.proofs.MomentLemmas.{Elapses-more, Elapses-none}
use Rattle.hm_disk.proofs.OverwriteLemmas.{MayLeave-overwritten, get_or-overwritten_out, length-overwritten}
use Rattle.hm_header.specs.OnDisk.{HasFault, HasSlots, gate_place, slot_in}
use Rattle.hm_header.specs.declared.fault.HeaderFault.TheVariants.{NotVolume}
use Rattle.hm_header.specs.Slots.{IsClosed}
use Rattle.hm_header.proofs.GateLemmas.{closed-by-byte, gate-overwritten}
use Rattle.hm_header.proofs.OnDiskLemmas.{slot-byte}
use Rattle.hm_newfs.specs.Steps.{ClosesGates, ClosingElapses, HasOldButGates, AreGatesClosed}

-- a gate whose byte stays is closed still
closed-from : (number : ℕ) (old new : List ℕ) → number ≤ 1 → slice_index new (gate_place number) ≡ slice_index old (gate_place number)
    → IsClosed (slot_in old number) → IsClosed (slot_in new number)
closed-from number old new small same closed is_open =
    closed (slot-byte number old 16383 small (omega arith) ∙ (sym same ∙ (sym (slot-byte number new 16383 small (omega arith)) ∙ is_open)))

-- so both are where ranges change that have neither
pub lacks-kept : (old new : List ℕ) (ranges : List (ℕ × ℕ)) → HasSlots old → MayLeave old ranges new
    → ((number : ℕ) → number ≤ 1 → Outside ranges (gate_place number)) → AreGatesClosed old → AreGatesClosed new
lacks-kept old new ranges both change apart lacks = record {
  first = closed-from 0 old new (omega arith) (change.same (gate_place 0) (omega (arith, both)) (apart 0 (omega arith))) lacks.first;
  second = closed-from 1 old new (omega arith) (change.same (gate_place 1) (omega (arith, both)) (apart 1 (omega arith))) lacks.second;
}

-- where they are no slot takes part
pub no-volume : (bytes : List ℕ) → AreGatesClosed bytes → HasFault bytes NotVolume
no-volume bytes closed = (λ part. closed.first part.open_gate, λ part. closed.second part.open_gate)

-- ---- closing them

-- a gate reads closed where its byte is 0
shut : (number : ℕ) (bytes : List ℕ) → number ≤ 1 → slice_index bytes (gate_place number) ≡ 0 → IsClosed (slot_in bytes number)
shut number bytes small is = closed-by-byte number bytes small (λ is_open. absurd (omega (arith, is, is_open)))

-- both were written
pub record WroteGates (old new : Told) : Type 0 where
  pub told : Told
  pub first : Written (gate_place 0) (0 ∷ []) old told
  pub second : Written (gate_place 1) (0 ∷ []) told new

-- and settled
pub gates-closed : (s u v : Told) → HasSlots s.bytes → WroteGates s u → Synced u v → ClosesGates s v
gates-closed s u v both wrote synced = record {
  gates = record {
    closed = record { first = shut 0 v.bytes (omega arith) one; second = shut 1 v.bytes (omega arith) two };
    settled = λ number small. subst (λ (ranges : List (ℕ × ℕ)). Outside ranges (gate_place number)) (sym synced.unsettled_are) tt;
  };
  size = ap (λ (bs : List ℕ). length bs) end ∙ (length-overwritten t.bytes (gate_place 1) (0 ∷ []) (omega (arith, both, long)) ∙ long);
}
  where
    t : Told
    t = wrote.told

    long : length t.bytes ≡ length s.bytes
    long = ap (λ (bs : List ℕ). length bs) wrote.first.bytes_are ∙ length-overwritten s.bytes (gate_place 0) (0 ∷ []) (omega (arith, both))

    end : v.bytes ≡ overwritten t.bytes (gate_place 1) (0 ∷ [])
    end = synced.bytes_are ∙ wrote.second.bytes_are

    one : slice_index v.bytes (gate_place 0) ≡ 0
    one =
        ap (λ (bs : List ℕ). slice_index bs (gate_place 0)) end
        ∙ (get_or-overwritten_out t.bytes (gate_place 1) (0 ∷ []) (gate_place 0) (omega (arith, both, long)) (omega (arith, both, long)) (inl (omega arith))
        ∙ (ap (λ (bs : List ℕ). slice_index bs (gate_place 0)) wrote.first.bytes_are ∙ gate-overwritten 0 s.bytes 0 (omega arith) both))

    two : slice_index v.bytes (gate_place 1) ≡ 0
    two = ap (λ (bs : List ℕ). slice_index bs (gate_place 1)) end ∙ gate-overwritten 1 t.bytes 0 (omega arith) (omega (arith, both, long))

-- ---- what a crash within that leaves

abbrev gate-ranges : Told → List (ℕ × ℕ)
gate-ranges s = (gate_place 0, 1) ∷ (gate_place 1, 1) ∷ s.unsettled

-- a byte that is in none of them is no gate
gate-apart : (s : Told) (number : ℕ) → number ≤ 1 → (byte : ℕ) → Outside (gate-ranges s) byte
    → (byte < gate_place number) ⊎ (gate_place number + 1 ≤ byte)
gate-apart s zero small byte outside = outside.0
gate-apart s (suc zero) small byte outside = outside.1.0
gate-apart s (suc (suc n)) small byte outside = absurd (omega arith)

-- nothing but the gates was written since
pub record OnlyGates (past since : LeftSince) (s t : Told) : Type 0 where
  pub bytes : MayLeave s.bytes (gate-ranges s) t.bytes
  pub unsettled : (byte : ℕ) → Outside (gate-ranges s) byte → Outside t.unsettled byte
  pub time : ClosingElapses past since s t

-- where a gate is written, what a crash leaves is what one might have left before, but for the gates
gate-leaves : (number : ℕ) → number ≤ 1 → (past since : LeftSince) (s t : Told) → OnlyGates past since s t
    → Each (MayLeave t.bytes ((gate_place number, 1) ∷ t.unsettled)) (HasOldButGates s)
gate-leaves number small past since s t only image left =
    MayLeave-through s.bytes t.bytes image (gate-ranges s) ((gate_place number, 1) ∷ t.unsettled) only.bytes
    (λ byte outside. (gate-apart s number small byte outside, only.unsettled byte outside)) left

-- before the first call
pub only-none : (past : LeftSince) (s : Told) → OnlyGates past past s s
only-none past s = record {
  bytes = MayLeave-same s.bytes (gate-ranges s);
  unsettled = λ byte outside. outside.1.1;
  time = Elapses-none (HasOldButGates s) past s;
}

-- a gate more, whether its write succeeds or not
pub gate-elapses : (number : ℕ) → number ≤ 1 → (past middle since : LeftSince) (s t u : Told) → OnlyGates past middle s t
    → WriteElapses (gate_place number) 1 middle since t u → ClosingElapses past since s u
gate-elapses number small past middle since s t u only then =
    Elapses-more (HasOldButGates s) _ past middle since s t u only.time then (gate-leaves number small past middle s t only)

pub gate-more : (number : ℕ) → number ≤ 1 → (past middle since : LeftSince) (s t u : Told) → HasSlots t.bytes → OnlyGates past middle s t
    → Written (gate_place number) (0 ∷ []) t u → WriteElapses (gate_place number) 1 middle since t u → OnlyGates past since s u
gate-more number small past middle since s t u both only written then = record {
  bytes = gate-leaves number small past middle s t only u.bytes
      (MayLeave-fewer t.bytes u.bytes ((gate_place number, 1) ∷ t.unsettled) ((gate_place number, 1) ∷ []) (λ byte outside. (outside.0, tt))
      (subst (λ (bs : List ℕ). MayLeave t.bytes ((gate_place number, 1) ∷ []) bs) (sym written.bytes_are)
      (MayLeave-overwritten t.bytes (gate_place number) 1 (0 ∷ []) (omega arith) (omega (arith, both)))));
  unsettled = λ byte outside. subst (λ (ranges : List (ℕ × ℕ)). Outside ranges byte) (sym written.unsettled_are)
      (gate-apart s number small byte outside, only.unsettled byte outside);
  time = gate-elapses number small past middle since s t u only then;
}

-- and the sync
pub closing-synced : (past middle since : LeftSince) (s t u : Told) → OnlyGates past middle s t → SyncElapses middle since t u
    → ClosingElapses past since s u
closing-synced past middle since s t u only then =
    Elapses-more (HasOldButGates s) _ past middle since s t u only.time then
    (λ image left. MayLeave-through s.bytes t.bytes image (gate-ranges s) t.unsettled only.bytes only.unsettled left)

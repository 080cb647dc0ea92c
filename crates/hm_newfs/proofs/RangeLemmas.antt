-- Writes within one range, one after another.
use Rattle.std.proofs.Common.{◌⊎◌, inl, inr, ℕ, ◌+◌, ◌<◌, ◌≤◌, List, [], ◌∷◌, refl, sym, subst, ◌∙◌, arith, length}
use Rattle.hm_disk.specs.Crash.{Told, MayLeave, Outside}
use Rattle.hm_disk.specs.Disk.{Written}
use Rattle.hm_disk.specs.Moments.{LeftSince, WriteElapses}
use Rattle.hm_disk.specs.Transfer.{TornAll}
use Rattle.hm_disk.proofs.CrashLemmas.{MayLeave-fewer, MayLeave-same, MayLeave-through}
use Rattle.hm_disk.proofs.MomentLemmas.{Elapses-more}
use Rattle.hm_disk.proofs.OverwriteLemmas.{MayLeave-overwritten}

-- before the first one
pub torn-none : (place count : ℕ) (t : Told) → TornAll place count t t
torn-none place count t =
    record { bytes_are = MayLeave-same t.bytes ((place, count) ∷ []); unsettled_are = λ byte outside. outside.1; moment_is = refl }

-- a write of the whole range
pub torn-written : (place : ℕ) (bytes : List ℕ) (s t : Told) → place + length bytes ≤ length s.bytes → Written place bytes s t
    → TornAll place (length bytes) s t
torn-written place bytes s t fits written = record {
  bytes_are = subst (λ (bs : List ℕ). MayLeave s.bytes ((place, length bytes) ∷ []) bs) (sym written.bytes_are)
      (MayLeave-overwritten s.bytes place (length bytes) bytes (omega arith) fits);
  unsettled_are = λ byte outside. subst (λ (ranges : List (ℕ × ℕ)). Outside ranges byte) (sym written.unsettled_are) outside;
  moment_is = written.moment_is;
}

-- one write more, within the range
module _ (place count at size : ℕ) (from : place ≤ at) (to : at + size ≤ place + count) where
  apart : (byte : ℕ) → (byte < place) ⊎ (place + count ≤ byte) → (byte < at) ⊎ (at + size ≤ byte)
  apart byte (inl low) = inl (omega arith)
  apart byte (inr high) = inr (omega arith)

  pub torn-more : (s t u : Told) → TornAll place count s t → TornAll at size t u → TornAll place count s u
  torn-more s t u first then = record {
    bytes_are = MayLeave-through s.bytes t.bytes u.bytes ((place, count) ∷ []) ((at, size) ∷ []) first.bytes_are
        (λ byte outside. (apart byte outside.0, tt)) then.bytes_are;
    unsettled_are = λ byte outside. then.unsettled_are byte (apart byte outside.0, first.unsettled_are byte outside);
    moment_is = then.moment_is ∙ first.moment_is;
  }

  pub elapses-more : (past middle since : LeftSince) (s t u : Told) → TornAll place count s t → WriteElapses place count past middle s t
      → WriteElapses at size middle since t u → WriteElapses place count past since s u
  elapses-more past middle since s t u first time then =
      Elapses-more _ _ past middle since s t u time then
      (λ image left. MayLeave-through s.bytes t.bytes image ((place, count) ∷ s.unsettled) ((at, size) ∷ t.unsettled)
      (MayLeave-fewer s.bytes t.bytes ((place, count) ∷ s.unsettled) ((place, count) ∷ []) (λ byte outside. (outside.0, tt)) first.bytes_are)
      (λ byte outside. (apart byte outside.0, first.unsettled_are byte outside)) left)

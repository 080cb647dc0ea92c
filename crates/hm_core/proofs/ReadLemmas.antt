-- Reads leave what a crash may have left.
use Rattle.std.proofs.Common.{◌≡◌, ◌⊎◌, inl, inr, ⊎_elim, ℕ, ◌≤◌, List, Option, Some, subst, arith}
use Rattle.std.specs.Prelude.{IfSome}
use Rattle.hm_disk.specs.Crash.{MayLeave, Told}
use Rattle.hm_disk.specs.Moments.{Elapses, LeftSince}
use Rattle.hm_recover.specs.Recovery.{KeepsRecovery}
use Rattle.hm_undo.specs.Recovered.{RecoversTo}
use Rattle.hm_core.specs.Crash.{LeavesNow}

-- What may have been left of a disk that tells this: over is what was left by the start of the present moment.
pub record IsLeft (over since : LeftSince) (told : Option Told) : Type 0 where
  pub counts : (moment : ℕ) (image : List ℕ) → IfSome told (λ t. moment ≤ t.moment → MayLeave t.bytes t.unsettled image → since moment image)
  pub only : (image : List ℕ) → IfSome told (λ t. since t.moment image → MayLeave t.bytes t.unsettled image)
  pub earlier : (first moment : ℕ) (image : List ℕ) → IfSome told (λ t. first ≤ moment → since moment image → since first image)
  pub splits : (moment : ℕ) (image : List ℕ) → since moment image → over moment image ⊎ IfSome told (λ t. MayLeave t.bytes t.unsettled image)
  pub joins : (moment : ℕ) (image : List ℕ) → over moment image → since moment image

-- what is over, and what is told, as reads leave it
pub left_same : {P : Type 0} (before : P → LeftSince) (one other : P) (since : LeftSince) (told kept : Option Told) → one ≡ other → told ≡ kept
    → IsLeft (before one) since told → IsLeft (before other) since kept
left_same {P = P} before one other since told kept past same left =
    subst (λ (p : P). IsLeft (before p) since kept) past (subst (λ (o : Option Told). IsLeft (before one) since o) same left)

-- what may have been left after reads was so before, or a crash now may leave it
pub read_now : (over past since : LeftSince) (old new : Option Told) → IsLeft over past old → IsLeft over since new → LeavesNow past since new
read_now over past since old new before after moment image left =
    ⊎_elim (λ earlier. inl (before.joins moment image earlier)) (λ now. inr now) (after.splits moment image left)

-- what is known of some calls is so of them and reads
module _ (over past middle since : LeftSince) (s t : Told) (before : IsLeft over middle (Some t)) (after : IsLeft over since (Some t)) where
  read_elapses : (Within : List ℕ → Type 0) → Elapses Within past middle s t → Elapses Within past since s t
  read_elapses Within first = record {
    later = first.later;
    size = first.size;
    only = λ moment image early left. first.only moment image early
        (⊎_elim (before.joins moment image) (before.counts moment image (omega (arith, early, first.later))) (after.splits moment image left));
    keeps = λ moment image early left. ⊎_elim (after.joins moment image) (after.counts moment image (omega (arith, early, first.later)))
        (before.splits moment image (first.keeps moment image early left));
  }

  pub read_keeps : KeepsRecovery past middle s t → KeepsRecovery past since s t
  read_keeps keeps result recovers =
      let still = keeps result recovers in
      record { now = still.now; time = λ none. read_elapses (λ image. RecoversTo image result) (still.time none) }

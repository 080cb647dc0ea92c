-- How the moments of several calls come together.
use Rattle.std.proofs.Common.{inl, inr, ⊎_elim, ◌↔◌, ℕ, ◌≤◌, List, refl, ◌∙◌, arith, Option, Some, None, IfSome}
use Rattle.hm_disk.specs.Crash.{Told, MayLeave}
use Rattle.hm_disk.specs.Moments.{LeftSince, Elapses, SameLeft, Each}

-- What may have been left since a moment has a property, where it had it before the call and a crash
-- within the call leaves nothing without it.
pub Each-over : (Within Has : List ℕ → Type 0) (past since : LeftSince) (old new : Told) (moment : ℕ)
    → moment ≤ old.moment → Elapses Within past since old new → Each (past moment) Has
    → Each Within Has → Each (since moment) Has
Each-over Within Has past since old new moment early time before within =
    λ image left. ⊎_elim (before image) (within image) (time.only moment image early left)

-- a read leaves it as it was
pub Each-same : (Has : List ℕ → Type 0) (past since : LeftSince) (moment : ℕ) → SameLeft past since
    → Each (past moment) Has → Each (since moment) Has
Each-same Has past since moment same before = λ image left. before image ((same moment image).1 left)

-- before the first call
pub Elapses-none : (Within : List ℕ → Type 0) (past : LeftSince) (told : Told)
    → Elapses Within past past told told
Elapses-none Within past told = record {
  later = omega arith;
  size = refl;
  only = λ moment image early left. inl left;
  keeps = λ moment image early left. left;
}

-- One call more: a crash within the calls leaves only what a crash within one of them may leave.
pub Elapses-more : (All Within : List ℕ → Type 0) (past middle since : LeftSince) (old told new : Told)
    → Elapses All past middle old told → Elapses Within middle since told new → Each Within All
    → Elapses All past since old new
Elapses-more All Within past middle since old told new first then within = record {
  later = omega (arith, first.later, then.later);
  size = then.size ∙ first.size;
  only = λ moment image early left. ⊎_elim (first.only moment image early) (λ new. inr (within image new))
      (then.only moment image (omega (arith, early, first.later)) left);
  keeps = λ moment image early left.
      then.keeps moment image (omega (arith, early, first.later)) (first.keeps moment image early left);
}

-- a read more
pub Elapses-read : (Within : List ℕ → Type 0) (past middle since : LeftSince) (old told : Told)
    → Elapses Within past middle old told → SameLeft middle since → Elapses Within past since old told
Elapses-read Within past middle since old told first same = record {
  later = first.later;
  size = first.size;
  only = λ moment image early left. first.only moment image early ((same moment image).1 left);
  keeps = λ moment image early left. (same moment image).0 (first.keeps moment image early left);
}

-- one read after another
pub SameLeft-then : (past middle since : LeftSince) → SameLeft past middle → SameLeft middle since → SameLeft past since
SameLeft-then past middle since first then = λ moment image. (
  (λ left. (then moment image).0 ((first moment image).0 left)),
  (λ left. (first moment image).1 ((then moment image).1 left)),
)

-- What may have been left since the present moment is what a crash now may leave.
pub Each-now : (told : Option Told) (Has : List ℕ → Type 0) (since : LeftSince)
    → ((image : List ℕ) → IfSome told (λ t. since t.moment image → MayLeave t.bytes t.unsettled image))
    → IfSome told (λ t. Each (MayLeave t.bytes t.unsettled) Has → Each (since t.moment) Has)
Each-now None Has since only = tt
Each-now (Some t) Has since only = λ now image left. now image (only image left)

pub left-now : (told : Option Told) (since : LeftSince) (image : List ℕ)
    → ((moment : ℕ) → IfSome told (λ t. moment ≤ t.moment → MayLeave t.bytes t.unsettled image → since moment image))
    → IfSome told (λ t. since t.moment image → MayLeave t.bytes t.unsettled image)
    → IfSome told (λ t. since t.moment image ↔ MayLeave t.bytes t.unsettled image)
left-now None since image counts only = tt
left-now (Some t) since image counts only = (only, counts t.moment (omega arith))

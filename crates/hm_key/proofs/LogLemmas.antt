-- What an owner of a small store knows from a frame that was kept.
use Rattle.std.proofs.Common.{◌≡◌, ℕ, ◌<◌, List, Option, None, Some, refl, ap, sym, ◌∙◌, subst, arith, length}
use Rattle.std.specs.Prelude.{IfSome}
use Rattle.hm_types.specs.Told.{BothTell}
use Rattle.hm_key.specs.ToyDisk.{ToyTold, ToyLeftSince, ToyMayLeave, IsAtNone}
use Rattle.hm_key.specs.LogStore.{log_frame, HoldsCommitted, Recovers, StillSafe}

-- on a safe disk each image that a crash now may leave recovers to the committed bytes
pub crash_recovers : (committed : List ℕ) (size : ℕ) (t : ToyTold) → HoldsCommitted committed size t → (image : List ℕ) → ToyMayLeave t.bytes t.unsettled image
    → Recovers committed image
crash_recovers committed size t safe image left at below = left.same at (outside at below) ∙ safe.1 at below where
  outside : (at : ℕ) → at < length committed → IsAtNone t.unsettled at
  outside at below k d h = omega (arith, safe.2 k d h)

-- the frame stayed, and the disk is safe for what is committed now
pub still_safe : (old_committed committed : List ℕ) (old_size size : ℕ) (left : ToyLeftSince) (old new : Option ToyTold)
    → log_frame committed new ≡ log_frame old_committed old
    → IfSome old (HoldsCommitted old_committed old_size)
    → IfSome new (HoldsCommitted committed size)
    → ((image : List ℕ) → IfSome new (λ t. left t.moment image → ToyMayLeave t.bytes t.unsettled image))
    → BothTell old new (StillSafe old_committed left)
unfolding log_frame
still_safe old_committed committed old_size size left None None frame was is only = tt
still_safe old_committed committed old_size size left None (Some new) frame was is only =
    let e : Some new.moment ≡ None = ap (λ f. f.moment) frame in absurd (cc)
still_safe old_committed committed old_size size left (Some old) None frame was is only =
    let e : None ≡ Some old.moment = ap (λ f. f.moment) frame in absurd (cc)
still_safe old_committed committed old_size size left (Some old) (Some new) frame was is only =
    let same : committed ≡ old_committed = ap (λ f. f.committed) frame in
    let e : Some new.moment ≡ Some old.moment = ap (λ f. f.moment) frame in
    let moment : new.moment ≡ old.moment = cc in
    let recovers : (image : List ℕ) → ToyMayLeave new.bytes new.unsettled image → Recovers old_committed image =
    λ image left_now. subst (λ bytes. Recovers bytes image) same (crash_recovers committed size new is image left_now) in
    record {
      moment = moment;
      crash = λ image l. recovers image (only image (subst (λ m. left m image) (sym moment) l));
      front = λ at below. recovers new.bytes (record { size = refl; same = λ at outside. refl }) at below ∙ sym (was.1 at below);
    }

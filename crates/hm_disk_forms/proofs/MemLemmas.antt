-- What one more change makes of a disk in memory.
use Rattle.std.proofs.Common.{◌≡◌, ◌⊎◌, inl, inr, ℕ, ◌+◌, ◌≤◌, List, [], ◌∷◌, ◌++◌, refl, sym, ◌∙◌, ap, subst, arith, length, take, length-append}
use Rattle.std.proofs.Common.{Result, Ok, Err, OnOk, OnErr}
use Rattle.std.proofs.lemmas.List.{take_all, take-append-le}
use native.Mathlib.Decide.{dec_le}
use Rattle.hm_disk.specs.Crash.{Told, MayLeave}
use Rattle.hm_disk.specs.Disk.{overwritten, Written, Torn, Unchanged, Synced}
use Rattle.hm_disk.specs.Moments.{CallElapses, Elapses, WriteElapses, SyncElapses, Each, SameLeft}
use Rattle.hm_disk_forms.specs.MemDisk.{DiskState, MemPast, zeros, changed, told_after, told_of, left_after, may_be_left, past_of, up_to_sync, written}
use Rattle.hm_disk_forms.specs.MemLaws.{changed-write, moment-replayed, replayed-append}
use Rattle.hm_disk_forms.specs.PastLaws.{past-write}
use Rattle.hm_disk_forms.specs.declared.change.Change.{Change}
use Rattle.hm_disk_forms.specs.declared.change.Change.TheVariants.{Write, Sync}
use Rattle.hm_disk.proofs.OverwriteLemmas.{MayLeave-overwritten}
use Rattle.hm_disk.proofs.CrashLemmas.{MayLeave-through, MayLeave-fewer}

-- what it tells
pub told-more : (size : ℕ) (changes : List Change) (change : Change)
    → told_after size (changes ++ change ∷ []) ≡ changed change (told_after size changes)
told-more size changes change =
    replayed-append changes (change ∷ []) (record { bytes = zeros size; unsettled = []; moment = 0 })

-- How time goes on over it, where a crash after it leaves only what a crash within it may leave.
elapses_more : (size : ℕ) (changes : List Change) (change : Change) (Within : List ℕ → Type 0)
    → length (changed change (told_after size changes)).bytes ≡ length (told_after size changes).bytes
    → Each (MayLeave (changed change (told_after size changes)).bytes (changed change (told_after size changes)).unsettled) Within
    → Elapses Within (left_after size changes) (left_after size (changes ++ change ∷ [])) (told_after size changes) (told_after size (changes ++ change ∷ []))
elapses_more size changes change Within sized within = record {
  later = subst (λ (told : Told). (told_after size changes).moment ≤ told.moment) (sym more) (moment-replayed (change ∷ []) (told_after size changes));
  size = ap (λ (told : Told). length told.bytes) more ∙ sized;
  only = λ first image early left. split left (dec_le left.0 (length changes));
  keeps = λ first image early left. (
    left.0,
    omega (arith, left.1, length-append changes (change ∷ [])),
    subst (λ (told : Told). first ≤ told.moment) (sym (before left.0 left.1)) left.2,
    subst (λ (told : Told). MayLeave told.bytes told.unsettled image) (sym (before left.0 left.1)) left.3,
  );
}
  where
    more : told_after size (changes ++ change ∷ []) ≡ changed change (told_after size changes)
    more = told-more size changes change

    before : (k : ℕ) → k ≤ length changes → told_after size (take k (changes ++ change ∷ [])) ≡ told_after size (take k changes)
    before k le = ap (told_after size) (take-append-le k changes (change ∷ []) le)

    all : (k : ℕ) → length (changes ++ change ∷ []) ≤ k → told_after size (take k (changes ++ change ∷ [])) ≡ changed change (told_after size changes)
    all k le = ap (told_after size) (take_all k (changes ++ change ∷ []) le) ∙ more

    split : {first : ℕ} {image : List ℕ} (left : left_after size (changes ++ change ∷ []) first image) → Dec (left.0 ≤ length changes)
        → left_after size changes first image ⊎ Within image
    split {first} {image} left (yes le) =
        inl (
          left.0,
          le,
          subst (λ (told : Told). first ≤ told.moment) (before left.0 le) left.2,
          subst (λ (told : Told). MayLeave told.bytes told.unsettled image) (before left.0 le) left.3,
        )
    split {first} {image} left (no gt) =
        inr (within image (subst (λ (told : Told). MayLeave told.bytes told.unsettled image)
        (all left.0 (omega (arith, gt, length-append changes (change ∷ [])))) left.3))

past_is : (old new : DiskState) → new.size ≡ old.size → up_to_sync new.changes ≡ up_to_sync old.changes → past_of new ≡ past_of old
past_is old new sizes over = ap (λ (size : ℕ). with_size size (up_to_sync new.changes)) sizes ∙ ap (with_size old.size) over
  where
    with_size : ℕ → List Change → MemPast
    with_size size changes = record { size = size; changes = changes }

module _ (old new : DiskState) (sizes : new.size ≡ old.size) where
  -- the same changes
  pub told-same : new.changes ≡ old.changes → told_of new ≡ told_of old
  told-same changes = ap (λ n. told_after n new.changes) sizes ∙ ap (told_after old.size) changes

  -- the same is over
  pub past-same : new.changes ≡ old.changes → past_of new ≡ past_of old
  past-same changes = past_is old new sizes (ap up_to_sync changes)

  pub SameLeft-same : new.changes ≡ old.changes → SameLeft (may_be_left old) (may_be_left new)
  SameLeft-same changes =
      subst (λ (n : ℕ). SameLeft (may_be_left old) (left_after n new.changes)) (sym sizes)
      (subst (λ (cs : List Change). SameLeft (may_be_left old) (left_after old.size cs)) (sym changes) (λ moment image. ((λ left. left), (λ left. left))))

  pub Elapses-same : (Within : List ℕ → Type 0) → new.changes ≡ old.changes → Elapses Within (may_be_left old) (may_be_left new) (told_of old) (told_of new)
  Elapses-same Within changes =
      subst (λ (n : ℕ). Elapses Within (may_be_left old) (left_after n new.changes) (told_of old) (told_after n new.changes)) (sym sizes)
      (subst (λ (cs : List Change). Elapses Within (may_be_left old) (left_after old.size cs) (told_of old) (told_after old.size cs)) (sym changes)
      (record { later = omega arith; size = refl; only = λ moment image early left. inl left; keeps = λ moment image early left. left }))

  told-changed : (change : Change) → new.changes ≡ old.changes ++ change ∷ [] → told_of new ≡ changed change (told_of old)
  told-changed change changes = ap (λ n. told_after n new.changes) sizes ∙ (ap (told_after old.size) changes ∙ told-more old.size old.changes change)

  elapses_changed : (change : Change) (Within : List ℕ → Type 0) → new.changes ≡ old.changes ++ change ∷ []
      → length (changed change (told_of old)).bytes ≡ length (told_of old).bytes
      → Each (MayLeave (changed change (told_of old)).bytes (changed change (told_of old)).unsettled) Within
      → Elapses Within (may_be_left old) (may_be_left new) (told_of old) (told_of new)
  elapses_changed change Within changes sized within =
      subst (λ (n : ℕ). Elapses Within (may_be_left old) (left_after n new.changes) (told_of old) (told_after n new.changes)) (sym sizes)
      (subst (λ (cs : List Change). Elapses Within (may_be_left old) (left_after old.size cs) (told_of old) (told_after old.size cs)) (sym changes)
      (elapses_more old.size old.changes change Within sized within))

  -- a write that was recorded
  module _ (place count : ℕ) (bytes : List ℕ) (changes : new.changes ≡ old.changes ++ Write place count bytes ∷ [])
      (front : length bytes ≤ count) (within : place + count ≤ length (told_of old).bytes) where
    is_written : changed (Write place count bytes) (told_of old) ≡ written place count bytes (told_of old)
    is_written = changed-write (told_of old) place count bytes within front

    pub told_written : told_of new ≡ written place count bytes (told_of old)
    told_written = told-changed (Write place count bytes) changes ∙ is_written

    over : MayLeave (told_of old).bytes ((place, count) ∷ []) (overwritten (told_of old).bytes place bytes)
    over = MayLeave-overwritten (told_of old).bytes place count bytes front within

    pub Written-write : count ≡ length bytes → Written place bytes (told_of old) (told_of new)
    Written-write counts = subst (λ (told : Told). Written place bytes (told_of old) told) (sym told_written)
        (record { bytes_are = refl; unsettled_are = ap (λ n. (place, n) ∷ (told_of old).unsettled) counts; moment_is = refl })

    pub Torn-write : Torn place count (told_of old) (told_of new)
    Torn-write = subst (λ (told : Told). Torn place count (told_of old) told) (sym told_written)
        (record { bytes_are = over; unsettled_are = refl; moment_is = refl })

    pub moment-written : (told_of new).moment ≡ (told_of old).moment
    moment-written = Torn-write.moment_is

    pub past-written : past_of new ≡ past_of old
    past-written = past_is old new sizes (ap up_to_sync changes ∙ past-write old.changes place count bytes)

    elapses_write : WriteElapses place count (may_be_left old) (may_be_left new) (told_of old) (told_of new)
    elapses_write =
        let bytes_then = overwritten (told_of old).bytes place bytes in
        let ranges = (place, count) ∷ (told_of old).unsettled in
        elapses_changed (Write place count bytes) _ changes (ap (λ (told : Told). length told.bytes) is_written ∙ over.size)
        (λ image left. MayLeave-through (told_of old).bytes bytes_then image ranges ranges
        (MayLeave-fewer (told_of old).bytes bytes_then ranges ((place, count) ∷ []) (λ byte outside. (outside.0, tt)) over)
        (λ byte outside. outside) (subst (λ (told : Told). MayLeave told.bytes told.unsettled image) is_written left))

    -- its range is unsettled besides, so it was begun
    pub CallElapses-write : CallElapses place count (may_be_left old) (may_be_left new) (told_of old) (told_of new)
    CallElapses-write = record {
      begun = elapses_write;
      not_begun = λ same. absurd (omega (arith, ap length (sym Torn-write.unsettled_are ∙ same.unsettled_are)));
    }

  -- a sync that was recorded
  pub Synced-sync : new.changes ≡ old.changes ++ Sync ∷ [] → Synced (told_of old) (told_of new)
  Synced-sync changes = subst (λ (told : Told). Synced (told_of old) told) (sym (told-changed Sync changes))
      (record { bytes_are = refl; unsettled_are = refl; later = omega arith })

  pub SyncElapses-sync : new.changes ≡ old.changes ++ Sync ∷ [] → SyncElapses (may_be_left old) (may_be_left new) (told_of old) (told_of new)
  SyncElapses-sync changes = elapses_changed Sync _ changes refl
      (λ image left. MayLeave-fewer (told_of old).bytes image (told_of old).unsettled [] (λ byte outside. tt) left)

  -- nothing was recorded
  pub Unchanged-same : new.changes ≡ old.changes → Unchanged (told_of old) (told_of new)
  Unchanged-same changes = subst (λ (told : Told). Unchanged (told_of old) told) (sym (told-same changes))
      (record { bytes_are = refl; unsettled_are = refl; moment_is = refl })

  pub CallElapses-same : (place count : ℕ) → new.changes ≡ old.changes → CallElapses place count (may_be_left old) (may_be_left new) (told_of old) (told_of new)
  CallElapses-same place count changes = record { begun = Elapses-same _ changes; not_begun = λ same. SameLeft-same changes }

-- what a call came to
pub either : {T E A B : Type 0} (result : Result T E) → OnOk result A → OnErr result B → A ⊎ B
either (Ok value) ok err = inl ok
either (Err error) ok err = inr err

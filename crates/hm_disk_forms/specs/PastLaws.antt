-- The laws of what is over of a disk in memory.
use Rattle.std.specs.Prelude.{◌≡◌, ◌⊎◌, ℕ, zero, suc, ◌≤◌, List, [], ◌∷◌, ◌++◌, length, take, drop}
use Rattle.std.proofs.Common.{ap, refl, sym, ◌∙◌, subst, arith, inl, inr}
use Rattle.hm_disk.specs.Crash.{Told, MayLeave}
use Rattle.hm_disk_forms.specs.MemDisk.{DiskState, before_sync, changed, left_before, may_be_left, past_of, replayed, told_after, told_of, up_to_sync}
use Rattle.hm_disk_forms.specs.MemLaws.{moment-write, moment-replayed, left-stays, told-rest}
use Rattle.hm_disk_forms.specs.declared.change.Change.{Change}
use Rattle.hm_disk_forms.specs.declared.change.Change.TheVariants.{Write, Sync}

-- a write more changes nothing of what is over
pub past-write : (cs : List Change) (place count : ℕ) (bytes : List ℕ) → up_to_sync (cs ++ Write place count bytes ∷ []) ≡ up_to_sync cs
unfolding up_to_sync
past-write [] place count bytes = refl
past-write (Write p n b ∷ cs) place count bytes = ap (before_sync (Write p n b)) (past-write cs place count bytes)
past-write (Sync ∷ cs) place count bytes = ap (λ (l : List Change). Sync ∷ l) (past-write cs place count bytes)

-- what is over is a front
over-before : (c : Change) (ds cs : List Change) → length ds ≤ length cs → take (length ds) cs ≡ ds
    → (length (before_sync c ds) ≤ length (c ∷ cs)) × (take (length (before_sync c ds)) (c ∷ cs) ≡ before_sync c ds)
over-before c [] cs short front = (omega arith, refl)
over-before c (d ∷ ds) cs short front = (omega (arith, short), ap (λ (l : List Change). c ∷ l) front)

pub over-front : (cs : List Change) → (length (up_to_sync cs) ≤ length cs) × (take (length (up_to_sync cs)) cs ≡ up_to_sync cs)
unfolding up_to_sync
over-front [] = (omega arith, refl)
over-front (Write p n b ∷ cs) = let h = over-front cs in over-before (Write p n b) (up_to_sync cs) cs h.0 h.1
over-front (Sync ∷ cs) = let h = over-front cs in (omega (arith, h.0), ap (λ (l : List Change). Sync ∷ l) h.1)

-- the rest is in the present moment
no-sync : (cs : List Change) (told : Told) → up_to_sync cs ≡ [] → (replayed cs told).moment ≡ told.moment
unfolding up_to_sync
no-sync [] told none = refl
no-sync (Write p n b ∷ cs) told none = no-sync cs (changed (Write p n b) told) (rest (up_to_sync cs) none) ∙ moment-write p n b told
  where
    rest : (ds : List Change) → before_sync (Write p n b) ds ≡ [] → ds ≡ []
    rest [] e = refl
    rest (d ∷ ds) e = cc
no-sync (Sync ∷ cs) told none = cc

-- a moment up to the last sync, or the present one
split-write : (c : Change) (ds cs : List Change) (told : Told) (k : ℕ) → (ds ≡ [] → (replayed cs told).moment ≡ told.moment)
    → (k ≤ length ds) ⊎ ((replayed cs told).moment ≤ (replayed (take k cs) told).moment)
    → (suc k ≤ length (before_sync c ds)) ⊎ ((replayed cs told).moment ≤ (replayed (take k cs) told).moment)
split-write c [] cs told k none h = inr (omega (arith, none refl, moment-replayed (take k cs) told))
split-write c (d ∷ ds) cs told k none (inl h) = inl (omega (arith, h))
split-write c (d ∷ ds) cs told k none (inr h) = inr h

split-from : (cs : List Change) (told : Told) (k : ℕ) → k ≤ length cs
    → (k ≤ length (up_to_sync cs)) ⊎ ((replayed cs told).moment ≤ (replayed (take k cs) told).moment)
unfolding up_to_sync
split-from cs told zero below = inl (omega arith)
split-from [] told (suc k) below = inl (omega (arith, below))
split-from (Write p n b ∷ cs) told (suc k) below =
    split-write (Write p n b) (up_to_sync cs) cs (changed (Write p n b) told) k (λ none. no-sync cs (changed (Write p n b) told) none)
    (split-from cs (changed (Write p n b) told) k (omega (arith, below)))
split-from (Sync ∷ cs) told (suc k) below = sync (split-from cs (changed Sync told) k (omega (arith, below)))
  where
    sync : (k ≤ length (up_to_sync cs)) ⊎ ((replayed cs (changed Sync told)).moment ≤ (replayed (take k cs) (changed Sync told)).moment)
        → (suc k ≤ length (Sync ∷ up_to_sync cs)) ⊎ ((replayed cs (changed Sync told)).moment ≤ (replayed (take k cs) (changed Sync told)).moment)
    sync (inl h) = inl (omega (arith, h))
    sync (inr h) = inr h

take-twice : (n k : ℕ) (cs : List Change) → k ≤ n → take k (take n cs) ≡ take k cs
take-twice n zero cs below = refl
take-twice zero (suc k) cs below = absurd (omega (arith, below))
take-twice (suc n) (suc k) [] below = refl
take-twice (suc n) (suc k) (c ∷ cs) below = ap (λ (l : List Change). c ∷ l) (take-twice n k cs (omega (arith, below)))

front-take : (ds cs : List Change) (k : ℕ) → k ≤ length ds → length ds ≤ length cs → take (length ds) cs ≡ ds → take k ds ≡ take k cs
front-take ds cs k below short front = ap (λ (l : List Change). take k l) (sym front) ∙ take-twice (length ds) k cs below

abbrev start : ℕ → Told
start size = told_after size []

pub splits : (d : DiskState) (moment : ℕ) (image : List ℕ) → may_be_left d moment image
    → left_before (past_of d) moment image ⊎ MayLeave (told_of d).bytes (told_of d).unsettled image
splits d moment image left = cases (split-from d.changes (start d.size) left.0 left.1)
  where
    cases : (left.0 ≤ length (up_to_sync d.changes)) ⊎ ((replayed d.changes (start d.size)).moment ≤ (replayed (take left.0 d.changes) (start d.size)).moment)
        → left_before (past_of d) moment image ⊎ MayLeave (told_of d).bytes (told_of d).unsettled image
    cases (inl h) =
        let over = over-front d.changes in
        let same = front-take (up_to_sync d.changes) d.changes left.0 h over.0 over.1 in
        inl (
          left.0,
          h,
          subst (λ (cs : List Change). moment ≤ (told_after d.size cs).moment) (sym same) left.2,
          subst (λ (cs : List Change). MayLeave (told_after d.size cs).bytes (told_after d.size cs).unsettled image) (sym same) left.3,
        )
    cases (inr h) =
        let rest = told-rest d left.0 in
        inr (subst (λ (told : Told). MayLeave told.bytes told.unsettled image) rest
        (left-stays (drop left.0 d.changes) (told_after d.size (take left.0 d.changes)) image
        (subst (λ (told : Told). told.moment ≤ (told_after d.size (take left.0 d.changes)).moment) (sym rest) h) left.3))

pub joins : (d : DiskState) (moment : ℕ) (image : List ℕ) → left_before (past_of d) moment image → may_be_left d moment image
joins d moment image left =
    let over = over-front d.changes in
    let same = front-take (up_to_sync d.changes) d.changes left.0 left.1 over.0 over.1 in (
      left.0,
      omega (arith, left.1, over.0),
      subst (λ (cs : List Change). moment ≤ (told_after d.size cs).moment) same left.2,
      subst (λ (cs : List Change). MayLeave (told_after d.size cs).bytes (told_after d.size cs).unsettled image) same left.3,
    )

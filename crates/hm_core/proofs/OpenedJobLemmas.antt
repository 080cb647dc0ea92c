-- What a call opened stands beside those that were open.
use Rattle.std.proofs.Common.{◌≡◌, ℕ, ◌+◌, ◌<◌, ◌≤◌, Bool, true, false, List, [], ◌∷◌, ◌++◌, Some, length, refl, ap, ◌∙◌, arith, eqb, eqb-true}
use Rattle.std.specs.List.{AllByRecursion}
use Rattle.std.proofs.Math.Logic.{∥∥₁_elim}
use Rattle.std.proofs.Props.{props}
use Rattle.std.proofs.lemmas.Bool.{eq-eqb}
use Rattle.std.proofs.lemmas.List.{length-append, map-append}
use Rattle.hm_model.specs.Caused.{Counts, known_after, known_at}
use Rattle.hm_model.specs.declared.entry.Entry.{Entry}
use Rattle.hm_search.proofs.ListLemmas.{each_so}
use Rattle.hm_core.specs.Caused.{IsCausedWith}
use Rattle.hm_core.specs.Open.{IsKnownOpen}
use Rattle.hm_core.specs.Running.{open_job, open_jobs, told_of_job}
use Rattle.hm_core.specs.State.{OpenJob, job_with}
use Rattle.hm_core.specs.declared.running.Running.{Running}
use Rattle.hm_core.specs.declared.work.Work.{Work}

-- ---- the opening ids of open calls were drawn

abbrev pub AreOpenedBy : ℕ → List OpenJob → Type 0
AreOpenedBy last running = AllByRecursion (λ p. p.opening ≤ last) running

opened_prop : (last : ℕ) (running : List OpenJob) → IsProp (AreOpenedBy last running)
opened_prop last [] = hlevel props
opened_prop last (p ∷ ps) = hlevel (props, opened_prop last ps)

pub opened_before : (first : ℕ) (start counts : Counts) (last : ℕ) (running : List OpenJob) (history : List Entry)
    → ∥ IsCausedWith first start counts last running history ∥₁ → AreOpenedBy last running
opened_before first start counts last running history caused =
    ∥∥₁_elim caused (opened_prop last running) (λ so_far.
    each_so (IsKnownOpen (known_after (known_at first start) so_far.causes.events)) (λ p. p.opening ≤ last) running
    (λ p is. (let drawn = is.drawn in let same = so_far.causes.last_is in omega (arith, drawn, same))) so_far.opened)

below : (a b : ℕ) → a < b → eqb a b ≡ false
below a b less = by (eqb a b) refl where
  by : (test : Bool) → eqb a b ≡ test → test ≡ false
  by true is = absurd (let same = eqb-true a b is in omega (arith, same, less))
  by false is = refl

-- so the next id finds the one that it opened
pub found_last : (last : ℕ) (running : List OpenJob) (p : OpenJob) → AreOpenedBy last running → p.opening ≡ last + 1
    → job_with (last + 1) (running ++ p ∷ []) ≡ Some p
found_last last [] p opened own = rw (eq-eqb p.opening (last + 1) own) refl
found_last last (q ∷ qs) p opened own =
    rw (below q.opening (last + 1) (let first = opened.0 in omega (arith, first))) (found_last last qs p opened.1 own)

-- and what is told of its work is told of what it opened
pub told_last : {A : Type 0} (none : A) (tell : Work → A) (last : ℕ) (rs : List Running) (r : Running) → AreOpenedBy last (open_jobs rs)
    → r.opening.0 ≡ last + 1 → told_of_job none tell (last + 1) (rs ++ r ∷ []) ≡ tell r.work
told_last none tell last [] r opened own = rw (eq-eqb r.opening.0 (last + 1) own) refl
told_last none tell last (x ∷ xs) r opened own =
    rw (below x.opening.0 (last + 1) (let first = opened.0 in omega (arith, first))) (told_last none tell last xs r opened.1 own)

-- ---- as they are kept

pub opened_is : (old placed new : List Running) (r : Running) (p : OpenJob) → placed ≡ old → new ≡ placed ++ r ∷ [] → open_job r ≡ p
    → open_jobs new ≡ open_jobs old ++ p ∷ []
opened_is old placed new r p same is one =
    ap open_jobs (is ∙ ap (λ (rs : List Running). rs ++ r ∷ []) same)
    ∙ (map-append open_job old (r ∷ []) ∙ ap (λ (q : OpenJob). open_jobs old ++ q ∷ []) one)

pub one_more : (old placed new : List Running) (r : Running) → placed ≡ old → new ≡ placed ++ r ∷ [] → length new ≡ length old + 1
one_more old placed new r same is =
    ap length is ∙ (length-append placed (r ∷ []) ∙ ap (λ (rs : List Running). length rs + 1) same)

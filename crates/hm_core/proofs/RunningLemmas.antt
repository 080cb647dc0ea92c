-- Calls of housekeeping that are open: what is found among them, and what stays once one of them ended.
use Rattle.std.proofs.Common.{◌≡◌, ◌≢◌, ◌++◌, ℕ, zero, suc, ◌+◌, ◌<◌, ◌≤◌, Bool, true, false, List, [], ◌∷◌, filter, length, refl, sym, ap, subst, ◌∙◌, arith}
use Rattle.std.proofs.Common.{eqb, eqb-true}
use Rattle.std.specs.Prelude.{IsSome, Option, Some, None, find, if◌then◌else◌, slice_index_or, slice_set}
use Rattle.std.specs.List.{AllByRecursion}
use Rattle.std.proofs.lemmas.Bool.{eq-eqb}
use Rattle.std.proofs.lemmas.List.{length-map}
use Rattle.hm_model.specs.After.{OpenCall, State, after_events, busy_in, end_effect_of, opened_with, after_event}
use Rattle.hm_model.specs.Caused.{Known, at_any_point, known_after, known_after_entry, possible_at_end}
use Rattle.hm_model.specs.After.{Event}
use Rattle.hm_model.specs.Due.{is_pass}
use Rattle.hm_model.specs.Volume.{Volume}
use Rattle.hm_model.specs.declared.command.Command.{Command}
use Rattle.hm_model.specs.declared.command.Command.TheVariants.{Prune as prune_call, PruneAll, Reblock as reblock_call}
use Rattle.hm_model.specs.declared.reply.Reply.{Reply}
use Rattle.hm_model.proofs.EventLemmas.{IdsFollow}
use Rattle.hm_model.proofs.KnownLemmas.{Agrees, Agrees-event, pairs}
use Rattle.hm_core.specs.Open.{IsOpenedBy}
use Rattle.hm_core.specs.Running.{open_job, open_jobs, open_work, place_among, told_of_job}
use Rattle.hm_core.specs.State.{OpenJob, OpenWork, job_with, jobs_beside, pruning, reblocking}
use Rattle.hm_core.specs.declared.running.Running.{Running}
use Rattle.hm_core.specs.declared.work.Work.{Work}

-- ---- lists whose members have an id

module _ {A : Type 0} (id_of : A → ℕ) where
  abbrev with_id : ℕ → List A → Option A
  with_id id xs = find (λ (x : A). eqb (id_of x) id) xs

  abbrev beside : ℕ → List A → List A
  beside ended xs = filter (λ (x : A). if eqb (id_of x) ended then false else true) xs

  -- what is not ended is found as before
  pub found_still : (ended id : ℕ) → eqb id ended ≡ false → (xs : List A) → with_id id (beside ended xs) ≡ with_id id xs
  found_still ended id differ [] = refl
  found_still ended id differ (x ∷ xs) = by (eqb (id_of x) ended) (eqb (id_of x) id) refl refl (found_still ended id differ xs) where
    by : (gone here : Bool) → eqb (id_of x) ended ≡ gone → eqb (id_of x) id ≡ here → with_id id (beside ended xs) ≡ with_id id xs
        → with_id id (if (if gone then false else true) then x ∷ beside ended xs else beside ended xs) ≡ (if here then Some x else with_id id xs)
    by true true gone here rest =
        absurd (let both : eqb id ended ≡ true = eq-eqb id ended (sym (eqb-true (id_of x) id here) ∙ eqb-true (id_of x) ended gone) in cc)
    by true false gone here rest = rest
    by false true gone here rest = rw here refl
    by false false gone here rest = rw here rest

-- ---- the calls of a core

module _ (P Q : OpenJob → Type 0) (ended : ℕ) (stays : (p : OpenJob) → eqb p.opening ended ≡ false → P p → Q p) where
  pub all_beside : (ps : List OpenJob) → AllByRecursion P ps → AllByRecursion Q (jobs_beside ended ps)
  all_beside [] all = tt
  all_beside (p ∷ ps) all = by (eqb p.opening ended) refl (all_beside ps all.1) where
    by : (gone : Bool) → eqb p.opening ended ≡ gone → AllByRecursion Q (jobs_beside ended ps)
        → AllByRecursion Q (if (if gone then false else true) then p ∷ jobs_beside ended ps else jobs_beside ended ps)
    by true is rest = rest
    by false is rest = (stays p is all.0, rest)

pub record IsFoundWith (P : OpenJob → Type 0) (id : ℕ) (p : OpenJob) : Type 0 where
  pub id_is : p.opening ≡ id
  pub has : P p

pub found_has : (P : OpenJob → Type 0) (id : ℕ) (ps : List OpenJob) (p : OpenJob) → job_with id ps ≡ Some p → AllByRecursion P ps
    → IsFoundWith P id p
found_has P id [] p found all = absurd cc
found_has P id (q ∷ ps) p found all = by (eqb q.opening id) refl found (λ later. found_has P id ps p later all.1) where
  by : (here : Bool) → eqb q.opening id ≡ here → (if here then Some q else job_with id ps) ≡ Some p
      → (job_with id ps ≡ Some p → IsFoundWith P id p) → IsFoundWith P id p
  by true is found rest =
      let one : q ≡ p = cc in
      subst (IsFoundWith P id) one (record { id_is = eqb-true q.opening id is; has = all.0 })
  by false is found rest = rest found

-- the ending of one leaves at least one fewer
pub beside_most : (id : ℕ) (ps : List OpenJob) → length (jobs_beside id ps) ≤ length ps
beside_most id [] = omega arith
beside_most id (p ∷ ps) = by (eqb p.opening id) (beside_most id ps) where
  by : (gone : Bool) → length (jobs_beside id ps) ≤ length ps
      → length (if (if gone then false else true) then p ∷ jobs_beside id ps else jobs_beside id ps) ≤ length (p ∷ ps)
  by true rest = omega (arith, rest)
  by false rest = omega (arith, rest)

pub beside_fewer : (id : ℕ) (ps : List OpenJob) (p : OpenJob) → job_with id ps ≡ Some p → length (jobs_beside id ps) + 1 ≤ length ps
beside_fewer id [] p found = absurd cc
beside_fewer id (q ∷ ps) p found = by (eqb q.opening id) found (beside_most id ps) (beside_fewer id ps p) where
  by : (here : Bool) → (if here then Some q else job_with id ps) ≡ Some p → length (jobs_beside id ps) ≤ length ps
      → (job_with id ps ≡ Some p → length (jobs_beside id ps) + 1 ≤ length ps)
      → length (if (if here then false else true) then q ∷ jobs_beside id ps else jobs_beside id ps) + 1 ≤ length (q ∷ ps)
  by true found most rest = omega (arith, most)
  by false found most rest = (let fewer = rest found in omega (arith, fewer))

-- ---- as they are kept

-- what is beside one of them
pub beside_running : (id : ℕ) (rs : List Running)
    → open_jobs (filter (λ (r : Running). if eqb r.opening.0 id then false else true) rs) ≡ jobs_beside id (open_jobs rs)
beside_running id [] = refl
beside_running id (r ∷ rs) = by (eqb r.opening.0 id) (beside_running id rs) where
  by : (gone : Bool) → open_jobs (filter (λ (x : Running). if eqb x.opening.0 id then false else true) rs) ≡ jobs_beside id (open_jobs rs)
      → open_jobs (if (if gone then false else true) then r ∷ filter (λ (x : Running). if eqb x.opening.0 id then false else true) rs
      else filter (λ (x : Running). if eqb x.opening.0 id then false else true) rs)
      ≡ (if (if gone then false else true) then open_job r ∷ jobs_beside id (open_jobs rs) else jobs_beside id (open_jobs rs))
  by true rest = rest
  by false rest = ap (λ (ps : List OpenJob). open_job r ∷ ps) rest

-- one of them stands at its place
pub record StandsAt (rs : List Running) (at : ℕ) (p : OpenJob) : Type 0 where
  pub within : at < length rs
  pub is : (d : Running) → open_job (slice_index_or rs at d) ≡ p

pub place_has : (id : ℕ) (rs : List Running) (p : OpenJob) → job_with id (open_jobs rs) ≡ Some p → StandsAt rs (place_among id rs) p
place_has id [] p found = absurd cc
place_has id (r ∷ rs) p found = by (eqb r.opening.0 id) found (place_has id rs p) where
  by : (here : Bool) → (if here then Some (open_job r) else job_with id (open_jobs rs)) ≡ Some p
      → (job_with id (open_jobs rs) ≡ Some p → StandsAt rs (place_among id rs) p)
      → StandsAt (r ∷ rs) (if here then 0 else suc (place_among id rs)) p
  by true found rest = (let one : open_job r ≡ p = cc in record { within = omega arith; is = λ d. one })
  by false found rest = (let later = rest found in let within = later.within in record { within = omega (arith, within); is = later.is })

-- work on one of them, which tells the same of it, leaves them as a contract sees them
pub worked_same : (rs : List Running) (at : ℕ) (r d : Running) → open_job r ≡ open_job (slice_index_or rs at d)
    → open_jobs (slice_set rs at r) ≡ open_jobs rs
worked_same [] at r d same = refl
worked_same (x ∷ xs) zero r d same = ap (λ (p : OpenJob). p ∷ open_jobs xs) same
worked_same (x ∷ xs) (suc at) r d same = ap (λ (ps : List OpenJob). open_job x ∷ ps) (worked_same xs at r d same)

-- which one it is that is open
pub open_is : (id : ℕ) (ps : List OpenJob) → IsSome (job_with id ps) → (p : OpenJob) × (job_with id ps ≡ Some p)
open_is id ps = by (job_with id ps) where
  by : (o : Option OpenJob) → IsSome o → (p : OpenJob) × (o ≡ Some p)
  by None there = absurd (cc)
  by (Some p) there = (p, refl)

-- a unit of one leaves them as a contract sees them
pub unit_same : (rs : List Running) (at : ℕ) (r : Running) (w : Work) → r ≡ slice_index_or rs at r → open_work w ≡ open_work r.work
    → open_jobs (slice_set rs at (record r { work = w })) ≡ open_jobs rs
unit_same rs at r w read same =
    let told : open_job (record r { work = w }) ≡ open_job r = λ i. record (open_job r) { work = same i } in
    worked_same rs at (record r { work = w }) r (told ∙ ap open_job read)

-- and as many
pub as_many : (rs : List Running) (at : ℕ) (r : Running) → length (slice_set rs at r) ≡ length rs
as_many [] at r = refl
as_many (x ∷ xs) zero r = refl
as_many (x ∷ xs) (suc at) r = ap suc (as_many xs at r)

-- the one that is read at the place of an opening id is open by it
pub found_read : (id : ℕ) (rs : List Running) (at : ℕ) (r : Running) → at ≡ place_among id rs → r ≡ slice_index_or rs at r
    → IsSome (job_with id (open_jobs rs)) → job_with id (open_jobs rs) ≡ Some (open_job r)
found_read id rs at r place read there =
    let (p, found) = open_is id (open_jobs rs) there in
    let here : open_job (slice_index_or rs at r) ≡ p =
    subst (λ (n : ℕ). open_job (slice_index_or rs n r) ≡ p) (sym place) ((place_has id rs p found).is r) in
    found ∙ ap (λ (q : OpenJob). Some q) (sym (ap open_job read ∙ here))

pub differ_so : (a b : ℕ) → a ≢ b → eqb a b ≡ false
differ_so a b differs = by (eqb a b) refl where
  by : (test : Bool) → eqb a b ≡ test → test ≡ false
  by true is = absurd (differs (eqb-true a b is))
  by false is = refl

-- ---- what is told of their work

id_at : (id : ℕ) (rs : List Running) (d : Running) → place_among id rs < length rs → (slice_index_or rs (place_among id rs) d).opening.0 ≡ id
id_at id [] d within = absurd (omega (arith, within))
id_at id (x ∷ xs) d within = by (eqb x.opening.0 id) refl within (id_at id xs d) where
  by : (here : Bool) → eqb x.opening.0 id ≡ here → (if here then 0 else suc (place_among id xs)) < length (x ∷ xs)
      → (place_among id xs < length xs → (slice_index_or xs (place_among id xs) d).opening.0 ≡ id)
      → (slice_index_or (x ∷ xs) (if here then 0 else suc (place_among id xs)) d).opening.0 ≡ id
  by true is within rest = eqb-true x.opening.0 id is
  by false is within rest = rest (omega (arith, within))

module _ {A : Type 0} (none : A) (tell : Work → A) where
  told_at : (id : ℕ) (rs : List Running) (d : Running) → place_among id rs < length rs
      → told_of_job none tell id rs ≡ tell (slice_index_or rs (place_among id rs) d).work
  told_at id [] d within = absurd (omega (arith, within))
  told_at id (x ∷ xs) d within = by (eqb x.opening.0 id) within (told_at id xs d) where
    by : (here : Bool) → (if here then 0 else suc (place_among id xs)) < length (x ∷ xs)
        → (place_among id xs < length xs → told_of_job none tell id xs ≡ tell (slice_index_or xs (place_among id xs) d).work)
        → (if here then tell x.work else told_of_job none tell id xs)
        ≡ tell (slice_index_or (x ∷ xs) (if here then 0 else suc (place_among id xs)) d).work
    by true within rest = refl
    by false within rest = rest (omega (arith, within))

  told_put : (id : ℕ) (rs : List Running) (r : Running) → r.opening.0 ≡ id → place_among id rs < length rs
      → told_of_job none tell id (slice_set rs (place_among id rs) r) ≡ tell r.work
  told_put id [] r own within = absurd (omega (arith, within))
  told_put id (x ∷ xs) r own within = by (eqb x.opening.0 id) refl within (told_put id xs r own) where
    by : (here : Bool) → eqb x.opening.0 id ≡ here → (if here then 0 else suc (place_among id xs)) < length (x ∷ xs)
        → (place_among id xs < length xs → told_of_job none tell id (slice_set xs (place_among id xs) r) ≡ tell r.work)
        → told_of_job none tell id (slice_set (x ∷ xs) (if here then 0 else suc (place_among id xs)) r) ≡ tell r.work
    by true is within rest = rw (eq-eqb r.opening.0 id own) refl
    by false is within rest = rw is (rest (omega (arith, within)))

  -- another one that comes last is told of by its own id alone
  pub told_before : (id : ℕ) (rs : List Running) (r : Running) → IsSome (job_with id (open_jobs rs))
      → told_of_job none tell id (rs ++ r ∷ []) ≡ told_of_job none tell id rs
  told_before id [] r there = absurd (cc)
  told_before id (x ∷ xs) r there = by (eqb x.opening.0 id) there (told_before id xs r) where
    by : (here : Bool) → IsSome (if here then Some (open_job x) else job_with id (open_jobs xs))
        → (IsSome (job_with id (open_jobs xs)) → told_of_job none tell id (xs ++ r ∷ []) ≡ told_of_job none tell id xs)
        → (if here then tell x.work else told_of_job none tell id (xs ++ r ∷ [])) ≡ (if here then tell x.work else told_of_job none tell id xs)
    by true there rest = refl
    by false there rest = rest there

  -- each other one is told of as before, once one was worked on, and once it was taken out
  told_other : (id : ℕ) (rs : List Running) (at : ℕ) (r d : Running) → eqb r.opening.0 id ≡ false → r.opening.0 ≡ (slice_index_or rs at d).opening.0
      → told_of_job none tell id (slice_set rs at r) ≡ told_of_job none tell id rs
  told_other id [] at r d differs same = refl
  told_other id (x ∷ xs) zero r d differs same = rw (differs, sym (ap (λ (n : ℕ). eqb n id) same) ∙ differs) refl
  told_other id (x ∷ xs) (suc at) r d differs same =
      ap (λ (y : A). if eqb x.opening.0 id then tell x.work else y) (told_other id xs at r d differs same)

  pub told_beside : (id ended : ℕ) → eqb id ended ≡ false → (rs : List Running)
      → told_of_job none tell id (filter (λ (r : Running). if eqb r.opening.0 ended then false else true) rs) ≡ told_of_job none tell id rs
  told_beside id ended differ [] = refl
  told_beside id ended differ (x ∷ xs) = by (eqb x.opening.0 ended) (eqb x.opening.0 id) refl refl (told_beside id ended differ xs) where
    kept : List Running
    kept = filter (λ (r : Running). if eqb r.opening.0 ended then false else true) xs

    by : (gone here : Bool) → eqb x.opening.0 ended ≡ gone → eqb x.opening.0 id ≡ here → told_of_job none tell id kept ≡ told_of_job none tell id xs
        → told_of_job none tell id (if (if gone then false else true) then x ∷ kept else kept) ≡ (if here then tell x.work else told_of_job none tell id xs)
    by true true gone here rest =
        absurd (let both : eqb id ended ≡ true = eq-eqb id ended (sym (eqb-true x.opening.0 id here) ∙ eqb-true x.opening.0 ended gone) in cc)
    by true false gone here rest = rest
    by false true gone here rest = rw here refl
    by false false gone here rest = rw here rest

  -- of the one that is read at the place of an opening id, and of it once it was worked on
  module _ (id : ℕ) (rs : List Running) (at : ℕ) (r : Running) (place : at ≡ place_among id rs) (read : r ≡ slice_index_or rs at r)
      (there : IsSome (job_with id (open_jobs rs))) where
    within_them : place_among id rs < length rs
    within_them = (let (p, found) = open_is id (open_jobs rs) there in (place_has id rs p found).within)

    read_there : r ≡ slice_index_or rs (place_among id rs) r
    read_there = read ∙ ap (λ (n : ℕ). slice_index_or rs n r) place

    pub told_read : told_of_job none tell id rs ≡ tell r.work
    told_read = told_at id rs r within_them ∙ ap (λ (x : Running). tell x.work) (sym read_there)

    pub opening_read : r.opening.0 ≡ id
    opening_read = ap (λ (x : Running). x.opening.0) read_there ∙ id_at id rs r within_them

    pub told_worked : (w : Work) → told_of_job none tell id (slice_set rs at (record r { work = w })) ≡ tell w
    told_worked w =
        subst (λ (n : ℕ). told_of_job none tell id (slice_set rs n (record r { work = w })) ≡ tell w) (sym place)
        (told_put id rs (record r { work = w }) opening_read within_them)

    -- and each other one is told of as before
    pub told_others : (w : Work) (other : ℕ) → other ≢ id → told_of_job none tell other (slice_set rs at (record r { work = w }))
        ≡ told_of_job none tell other rs
    told_others w other differs =
        told_other other rs at (record r { work = w }) r (ap (λ (n : ℕ). eqb n other) opening_read ∙ differ_so id other (λ same. differs (sym same)))
        (ap (λ (x : Running). x.opening.0) read)

-- once it is taken out there is one fewer
pub fewer_open : (id : ℕ) (rs rs' : List Running) (p : OpenJob) → open_jobs rs' ≡ jobs_beside id (open_jobs rs)
    → job_with id (open_jobs rs) ≡ Some p → length rs' + 1 ≤ length rs
fewer_open id rs rs' p closed found =
    let left : length rs' ≡ length (jobs_beside id (open_jobs rs)) = sym (length-map rs' open_job) ∙ ap length closed in
    let fewer : length (jobs_beside id (open_jobs rs)) + 1 ≤ length (open_jobs rs) = beside_fewer id (open_jobs rs) p found in
    let all : length (open_jobs rs) ≡ length rs = length-map rs open_job in
    omega (arith, left, fewer, all)

-- ---- the open calls of the model

abbrev opened_beside : ℕ → List OpenCall → List OpenCall
opened_beside ended os = filter (λ (o : OpenCall). if eqb o.opening ended then false else true) os

-- where no mirror or upgrade call is open, none is once another one ended
pub idle_beside : (ended : ℕ) (os : List OpenCall) → busy_in os ≡ None → busy_in (opened_beside ended os) ≡ None
idle_beside ended [] none = refl
idle_beside ended (o ∷ os) none = by (is_pass o.command) (eqb o.opening ended) refl none (idle_beside ended os) where
  by : (pass gone : Bool) → is_pass o.command ≡ pass → (if pass then Some o.opening else busy_in os) ≡ None
      → (busy_in os ≡ None → busy_in (opened_beside ended os) ≡ None)
      → busy_in (if (if gone then false else true) then o ∷ opened_beside ended os else opened_beside ended os) ≡ None
  by true gone is none later = absurd cc
  by false true is none later = later none
  by false false is none later = rw is (later none)

-- what is found among them is found as it is known
pub found_known : (id : ℕ) (os : List OpenCall) (o : OpenCall) → opened_with id os ≡ Some o
    → find (λ (x : ℕ × Command). eqb x.0 id) (pairs os) ≡ Some (o.opening, o.command)
found_known id [] o found = absurd cc
found_known id (x ∷ xs) o found = by (eqb x.opening id) found (found_known id xs o) where
  by : (here : Bool) → (if here then Some x else opened_with id xs) ≡ Some o
      → (opened_with id xs ≡ Some o → find (λ (y : ℕ × Command). eqb y.0 id) (pairs xs) ≡ Some (o.opening, o.command))
      → (if here then Some (x.opening, x.command) else find (λ (y : ℕ × Command). eqb y.0 id) (pairs xs)) ≡ Some (o.opening, o.command)
  by true found rest = (let one : x ≡ o = cc in ap (λ (y : OpenCall). Some (y.opening, y.command)) one)
  by false found rest = rest found

-- the ending of one changes no volume
pub job_ends : (volume : Volume) (reply : Reply) (o : OpenCall) (command : Command) (work : OpenWork) → IsOpenedBy command work
    → end_effect_of volume reply o command ≡ volume
job_ends volume reply o (prune_call path) work is = refl
job_ends volume reply o (PruneAll path) work is = refl
job_ends volume reply o (reblock_call fill) work is = refl
job_ends volume reply o other (pruning pfs kept) is = absurd is
job_ends volume reply o other reblocking is = absurd is

-- what its ending may tell
abbrev pub told_at_end : OpenWork → List ℕ
told_at_end (pruning pfs kept) = 110 ∷ at_any_point
told_at_end reblocking = 110 ∷ 20 ∷ at_any_point

pub job_possible : (command : Command) (work : OpenWork) → IsOpenedBy command work → possible_at_end command ≡ told_at_end work
job_possible (prune_call path) (pruning pfs kept) is = refl
job_possible (PruneAll path) (pruning pfs kept) is = refl
job_possible other (pruning pfs kept) is = absurd is
job_possible (reblock_call fill) reblocking is = refl
job_possible other reblocking is = absurd is

-- what is known after events agrees with the state after them
pub agrees_after : (known : Known) (state : State) (events : List Event) → Agrees known state → IdsFollow known events
    → Agrees (known_after known events) (after_events state events)
agrees_after known state [] agrees follow = agrees
agrees_after known state (e ∷ es) agrees follow =
    agrees_after (known_after_entry known e.entry) (after_event state e) es (Agrees-event known state e agrees follow.0) follow.1

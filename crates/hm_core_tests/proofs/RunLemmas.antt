-- Calls that stay open over the steps of a core.
use Rattle.std.proofs.Common.{◌≡◌, ℕ, zero, suc, ◌+◌, arith, Bool, true, false, List, [], ◌∷◌, ◌++◌, drop}
use Rattle.std.proofs.Common.{filter, take, refl, sym, ap, subst, ◌∙◌, eqb, true≢false}
use Rattle.std.specs.Prelude.{All, IsSome, Option, Some, if◌then◌else◌, slice_index_or}
use Rattle.std.proofs.lemmas.List.Elements.{All-append, All-drop, All-filter, All-take, filter_passes}
use Rattle.hm_core.specs.State.{OpenJob, job_with, jobs_beside}
use Rattle.hm_core.specs.declared.ticket.Ticket.{Ticket}
use Rattle.hm_core.proofs.RunningLemmas.{found_still}
use Rattle.hm_core_tests.specs.Tests.{is_other}

found_before : (opening : ℕ) (ps qs : List OpenJob) → IsSome (job_with opening ps) → IsSome (job_with opening (ps ++ qs))
found_before opening [] qs found = absurd cc
found_before opening (p ∷ ps) qs found = by (eqb p.opening opening) found (found_before opening ps qs) where
  by : (here : Bool) → IsSome (if here then Some p else job_with opening ps)
      → (IsSome (job_with opening ps) → IsSome (job_with opening (ps ++ qs)))
      → IsSome (if here then Some p else job_with opening (ps ++ qs))
  by true found rest = found
  by false found rest = rest found

-- one more is open
pub one_more : (was mid now : List OpenJob) (p : OpenJob) → mid ≡ was → now ≡ mid ++ p ∷ [] → (opening : ℕ)
    → IsSome (job_with opening was) → IsSome (job_with opening now)
one_more was mid now p same more opening there =
    subst (λ (ps : List OpenJob). IsSome (job_with opening ps)) (sym more)
    (found_before opening mid (p ∷ []) (subst (λ (ps : List OpenJob). IsSome (job_with opening ps)) (sym same) there))

-- ---- tickets of calls that are open

-- each is among these
abbrev pub AreAmong : List OpenJob → List Ticket → Type 0
AreAmong ps ts = All (λ (t : Ticket). IsSome (job_with t.opening.0 ps)) ts

-- without one of them
pub all_without : (P : Ticket → Type 0) (ts rest : List Ticket) (at : ℕ) → rest ≡ take at ts ++ drop (at + 1) ts → All P ts → All P rest
all_without P ts rest at parts all =
    subst (All P) (sym parts) (All-append P (take at ts) (drop (at + 1) ts) (All-take P at ts all) (All-drop P (at + 1) ts all))

differs : (ended : ℕ) (ticket : Ticket) → is_other ended ticket ≡ true → eqb ticket.opening.0 ended ≡ false
differs ended ticket = by (eqb ticket.opening.0 ended) where
  by : (same : Bool) → (if same then false else true) ≡ true → same ≡ false
  by true is = absurd (true≢false (sym is))
  by false is = refl

-- once one call has ended, the others are open
pub others_open : (ended : ℕ) (was now : List OpenJob) → now ≡ jobs_beside ended was → (ts : List Ticket) → AreAmong was ts
    → AreAmong now (filter (is_other ended) ts)
others_open ended was now closed ts all k d less =
    let ticket = slice_index_or (filter (is_other ended) ts) k d in
    let there = All-filter (is_other ended) (λ (t : Ticket). IsSome (job_with t.opening.0 was)) ts all k d less in
    let other = differs ended ticket (filter_passes (is_other ended) ts k d less) in
    subst (λ (ps : List OpenJob). IsSome (job_with ticket.opening.0 ps)) (sym closed)
    (subst (λ (o : Option OpenJob). IsSome o) (sym (found_still (λ (p : OpenJob). p.opening) ended ticket.opening.0 other was)) there)

-- so they are where its ticket was taken out before
pub ended_tickets : (ended named : ℕ) → named ≡ ended → (was now : List OpenJob) → now ≡ jobs_beside ended was
    → (ts mid ts' : List Ticket) (at : ℕ) → mid ≡ take at ts ++ drop (at + 1) ts → ts' ≡ filter (is_other named) mid → AreAmong was ts
    → AreAmong now ts'
ended_tickets ended named same was now closed ts mid ts' at parts is all =
    subst (AreAmong now) (sym (is ∙ ap (λ (n : ℕ). filter (is_other n) mid) same))
    (others_open ended was now closed mid (all_without (λ (t : Ticket). IsSome (job_with t.opening.0 was)) ts mid at parts all))

-- where one was opened, whose ticket was pushed or not
pub opened_tickets : (was mid now : List OpenJob) (p : OpenJob) (ticket : Ticket) → mid ≡ was → now ≡ mid ++ p ∷ []
    → job_with ticket.opening.0 now ≡ Some p → (pushed : Bool) (ts ts' : List Ticket) → ts' ≡ (if pushed then ts ++ ticket ∷ [] else ts)
    → AreAmong was ts → AreAmong now ts'
opened_tickets was mid now p ticket same more found pushed ts ts' is all = by pushed is where
  before : AreAmong now ts
  before k d less = one_more was mid now p same more _ (all k d less)

  one : AreAmong now (ticket ∷ [])
  one zero d less = subst (λ (o : Option OpenJob). IsSome o) (sym found) refl
  one (suc k) d less = absurd (omega (arith, less))

  by : (pushed : Bool) → ts' ≡ (if pushed then ts ++ ticket ∷ [] else ts) → AreAmong now ts'
  by true is = subst (AreAmong now) (sym is) (All-append (λ (t : Ticket). IsSome (job_with t.opening.0 now)) ts (ticket ∷ []) before one)
  by false is = subst (AreAmong now) (sym is) before

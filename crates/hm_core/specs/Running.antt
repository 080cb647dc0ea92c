-- Open calls of housekeeping, as a contract sees them.
use Rattle.std.specs.Prelude.{ℕ, false, suc, List, [], ◌∷◌, None, ◌==◌, if◌then◌else◌, map}
use Rattle.hm_key.specs.Sweep.{place_from}
use Rattle.hm_relocate.specs.Unit.{Way}
use Rattle.hm_relocate.specs.Way.{way_of}
use Rattle.hm_core.specs.State.{OpenJob, OpenWork, pruning, reblocking}
use Rattle.hm_core.specs.declared.outcome.Outcome.{Outcome}
use Rattle.hm_core.specs.declared.outcome.Outcome.TheVariants.{Opened, Replied}
use Rattle.hm_core.specs.declared.running.Running.{Running}
use Rattle.hm_core.specs.declared.work.Work.{Work}
use Rattle.hm_core.specs.declared.work.Work.TheVariants.{Prune, Reblock}

abbrev pub open_work : Work → OpenWork
open_work (Prune j) = pruning j.pfs.0 j.kept
open_work (Reblock j) = reblocking

abbrev pub open_job : Running → OpenJob
open_job r = record { opening = r.opening.0; lane = r.lane; line = r.line; work = open_work r.work }

abbrev pub open_jobs : List Running → List OpenJob
open_jobs running = map open_job running

-- the place of the one with an opening id, or their number where it is none of them
abbrev pub place_among : ℕ → List Running → ℕ
place_among opening [] = 0
place_among opening (r ∷ rs) = if r.opening.0 == opening then 0 else suc (place_among opening rs)

-- how far work came: that of a prune through the elements, and that of a reblock through the payloads, and whether to the nodes
abbrev pub way_of_work : Work → Way
way_of_work (Prune j) = record { payloads = place_from j.from; nodes = false }
way_of_work (Reblock j) = way_of j

-- the big-blocks that work is to empty: none of a prune
abbrev pub choice_of_work : Work → List ℕ
choice_of_work (Prune j) = []
choice_of_work (Reblock j) = j.payloads.choice

-- what is told of the work with an opening id, and what where it is none of them
abbrev pub told_of_job : {A : Type 0} → A → (Work → A) → ℕ → List Running → A
told_of_job none tell opening [] = none
told_of_job none tell opening (r ∷ rs) = if r.opening.0 == opening then tell r.work else told_of_job none tell opening rs

-- how far it came, and what comes after all elements where it is none of them
abbrev pub way_among : ℕ → List Running → Way
way_among opening running = told_of_job (record { payloads = place_from None; nodes = false }) way_of_work opening running

-- its choice, and none where it is none of them
abbrev pub choice_among : ℕ → List Running → List ℕ
choice_among opening running = told_of_job [] choice_of_work opening running

-- a fact of a call that opened one, and of its work
abbrev pub IfOpened : Outcome → (Work → Type 0) → Type 0
IfOpened (Replied reply) P = Unit {0}
IfOpened (Opened work) P = P work

-- Which calls of housekeeping are open in a run: prunes and reblocks, as the model has them, and as they are known without trees.
use Rattle.std.specs.Prelude.{◌≡◌, ℕ, ◌==◌, ◌≤◌, Bool, true, List, [], Option, None, Some, IsSomeAnd, find}
use Rattle.std.specs.List.{AllByRecursion}
use Rattle.std.specs.Option.{option_map_or}
use Rattle.hm_model.specs.After.{OpenCall, State, busy_in, opened_with}
use Rattle.hm_model.specs.Caused.{Known}
use Rattle.hm_model.specs.Volume.{PseudoFileSystem, Volume, system_of}
use Rattle.hm_model.specs.declared.command.Command.{Command}
use Rattle.hm_model.specs.declared.command.Command.TheVariants.{Prune, PruneAll, Reblock}
use Rattle.hm_calls.specs.Answered.{is_prune}
use Rattle.hm_prune.specs.Dead.{keeps_in}
use Rattle.hm_step.specs.Pruned.{KeepsEnough}
use Rattle.hm_core.specs.State.{OpenJob, OpenWork, pruning, reblocking}

abbrev pub IsPrune : Command → Type 0
IsPrune (Prune path) = Unit {0}
IsPrune (PruneAll path) = Unit {0}
IsPrune other = ⊥

abbrev pub IsReblock : Command → Type 0
IsReblock (Reblock fill) = Unit {0}
IsReblock other = ⊥

-- whether a command opens a call of housekeeping that is served
abbrev pub opens_job : Command → Bool
opens_job (Reblock fill) = true
opens_job other = is_prune other

-- it opens such work
abbrev pub IsOpenedBy : Command → OpenWork → Type 0
IsOpenedBy command (pruning pfs kept) = IsPrune command
IsOpenedBy command reblocking = IsReblock command

-- the ids that an open call tells to keep
abbrev pub ids_kept_by : OpenWork → ℕ → Option (List (ℕ × ℕ))
ids_kept_by (pruning pfs kept) = keeps_in pfs kept
ids_kept_by reblocking = λ pfs. None

-- it works on this PFS, if on one
abbrev pub IsWorkOn : ℕ → OpenWork → Type 0
IsWorkOn there (pruning pfs kept) = there ≡ pfs
IsWorkOn there reblocking = Unit {0}

-- the ids that a volume keeps of a PFS, and none of one that it does not have
abbrev pub retention_in : ℕ → Volume → List (ℕ × ℕ)
retention_in pfs volume = option_map_or (λ (s : PseudoFileSystem). s.retention) (system_of volume pfs) []

-- it is open in a state: as the call with its opening id, which was drawn, of such a command, on the same PFS, and what it keeps is enough
-- for the volume
pub record IsOpenIn (state : State) (p : OpenJob) : Type 0 where
  pub call : OpenCall
  pub found : opened_with p.opening state.opened ≡ Some call
  pub opened : IsOpenedBy call.command p.work
  pub on : IsWorkOn call.pfs p.work
  pub enough : KeepsEnough (ids_kept_by p.work) state.volume
  pub drawn : p.opening ≤ state.volume.last

-- each of these is open in a state, and no mirror or upgrade call is
pub record AreOpen (running : List OpenJob) (state : State) : Type 0 where
  pub each : AllByRecursion (IsOpenIn state) running
  pub idle : busy_in state.opened ≡ None

-- a call is known to be open, with an opening id that was drawn
pub record IsKnownOpen (known : Known) (p : OpenJob) : Type 0 where
  pub drawn : p.opening ≤ known.last
  pub opened : IsSomeAnd (find (λ (o : ℕ × Command). o.0 == p.opening) known.opened) (λ o. IsOpenedBy o.1 p.work)

-- so is each of these
abbrev pub AreKnownOpen : Known → List OpenJob → Type 0
AreKnownOpen known running = AllByRecursion (IsKnownOpen known) running

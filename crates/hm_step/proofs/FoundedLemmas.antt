-- What a call that makes a PFS makes of the volume for which elements stand.
use Rattle.std.proofs.Common.{◌≡◌, ℕ, ◌^◌, ◌<◌, ◌≤◌, Bool, true, false, List, [], length, refl, sym, ap, subst, ◌∙◌, inl, inr, arith}
use Rattle.std.specs.Prelude.{None, option_map}
use Rattle.std.specs.Bool.{nat_le}
use Rattle.std.specs.List.{Contains}
use Rattle.std.proofs.lemmas.Bool.Decides.{nat_tests}
use Rattle.std.proofs.lemmas.List.{length-map}
use Rattle.hm_types.specs.Elements.{FullElement}
use Rattle.hm_types.specs.Hash.{name_hash}
use Rattle.hm_types.specs.declared.limits.TheConstants.{GREATEST_ID, MOST_PFS}
use Rattle.hm_model.specs.After.{of_pfs}
use Rattle.hm_model.specs.Call.{Call, first_site, own_id, second_site}
use Rattle.hm_model.specs.Change.{changed_pfs, with_system}
use Rattle.hm_model.specs.Due.{first_refusal, new_pfs, pfs_left, record_checks, record_checks_of, refuse_if}
use Rattle.hm_model.specs.Volume.{PseudoFileSystem, Volume, add_version, system_of}
use Rattle.hm_model.specs.declared.command.Command.{Command}
use Rattle.hm_model.specs.declared.reply.Reply.TheVariants.{PfsFull}
use Rattle.hm_model.proofs.CheckLemmas.{no_rest}
use Rattle.hm_model.proofs.GrowthLemmas.{KeepsNumber, same_or_not}
use Rattle.hm_model.proofs.NewPfsLemmas.{none-new}
use Rattle.hm_model.proofs.NumberLemmas.{least_unused-is, no_more_than, numbers_in}
use Rattle.hm_volume.specs.Shown.{ShowsAs}
use Rattle.hm_image.specs.StandFor.{StandFor}
use Rattle.hm_calls.specs.NewSystems.{AddsNew, MakesSystem, system_command}
use Rattle.hm_calls.specs.declared.new_systems.NewSystem.{NewSystem}
use Rattle.hm_calls.specs.declared.new_systems.NewSystem.TheVariants.{Master, Slave}
use Rattle.hm_step.specs.Pruned.{StillKeeps}
use Rattle.hm_step.specs.Step.{AreHeld, after_call, drawn}
use Rattle.hm_step.proofs.AddedLemmas.{master_stands, more_keeps, slave_stands}
use Rattle.hm_step.proofs.ChangedLemmas.{stand_newer}
use Rattle.hm_step.proofs.JobLemmas.{keeps_newer}
use Rattle.hm_step.proofs.LandLemmas.{HasMaster}
use Rattle.hm_step.proofs.SystemLemmas.{changed_two, found_beside, found_here, new_one, new_tree}

module _ (call : Call) (new : NewSystem) (path : List ℕ) (shared : ℕ) (is : call.command ≡ system_command new path shared) where
  abbrev volume : Volume
  volume = call.volume

  abbrev pfs : ℕ
  pfs = changed_pfs call

  abbrev number : ℕ
  number = new_pfs call.volume

  abbrev newer : PseudoFileSystem → PseudoFileSystem
  newer = add_version (own_id call) (new_tree call)

  newer_keeps : KeepsNumber newer
  newer_keeps s = refl

  -- the volume with the link alone
  abbrev between : Volume
  between = drawn (own_id call) (of_pfs volume pfs newer)

  -- a number was left
  number_fits : first_refusal (record_checks call) ≡ None → number < MOST_PFS
  number_fits none = by (nat_le MOST_PFS (length volume.systems)) refl (left new (subst Passes is none)) where
    Passes : Command → Type 0
    Passes command = first_refusal (record_checks_of call (first_site call) (second_site call) command) ≡ None

    left : (n : NewSystem) → Passes (system_command n path shared) → pfs_left call ≡ None
    left Master passes = (no_rest (pfs_left call) [] passes).0
    left Slave passes = (no_rest (pfs_left call) [] passes).0

    used : number ≤ length (numbers_in volume.systems)
    used = no_more_than number (numbers_in volume.systems) (least_unused-is (numbers_in volume.systems)).1

    as_many : length (numbers_in volume.systems) ≡ length volume.systems
    as_many = length-map volume.systems (λ (s : PseudoFileSystem). s.number)

    by : (test : Bool) → nat_le MOST_PFS (length volume.systems) ≡ test → refuse_if test PfsFull ≡ None → number < MOST_PFS
    by true full none = absurd (cc)
    by false some none =
        let fewer : length volume.systems < MOST_PFS = grind (arith, nat_tests, some) in
        omega (arith, used, as_many, fewer)

  -- the volume did not have it, nor has it with the link
  none_between : system_of between number ≡ None
  none_between = elim (same_or_not number pfs) [
    | inl same ↦
        subst (λ (n : ℕ). system_of between n ≡ None) (sym same)
        (found_here volume pfs newer newer_keeps
        ∙ ap (option_map newer) (subst (λ (n : ℕ). system_of volume n ≡ None) same (none-new volume)))
    | inr differ ↦ found_beside volume pfs newer newer_keeps number differ ∙ none-new volume
  ]

  abbrev one : PseudoFileSystem
  one = new_one new number shared (own_id call)

  after_is : after_call true call ≡ with_system between one
  after_is = ap (drawn (own_id call)) (changed_two call new path shared is)

  one_number : (n : NewSystem) → (new_one n number shared (own_id call)).number ≡ number
  one_number Master = refl
  one_number Slave = refl

  -- what jobs keep is enough still
  pub founded_keeps : StillKeeps volume (after_call true call)
  founded_keeps =
      subst (λ (v : Volume). StillKeeps volume v) (sym after_is)
      (λ kept enough. more_keeps between number one none_between (one_number new) kept (keeps_newer call kept enough))

  module _ (es es' : List FullElement) (stand : StandFor es volume) (shows : ShowsAs es volume call.view) (hash : call.hash ≡ name_hash)
      (left : volume.last < GREATEST_ID) (master : HasMaster call pfs) (records : first_refusal (record_checks call) ≡ None) (small : shared < 2 ^ 64)
      (makes : MakesSystem new shared call es es') (held : AreHeld es') where
    -- the elements before the new ones are among those after
    still : (n : NewSystem) → AddsNew n number shared (own_id call) makes.between es' → (x : FullElement) → Contains makes.between x → Contains es' x
    still Master adds x has = (adds.elements x).1 (inr has)
    still Slave adds x has = (adds.elements x).1 (inr has)

    stand_between : StandFor makes.between between
    stand_between =
        let kept = still new makes.system in
        stand_newer call es makes.between stand shows makes.tree master.0 master.1 master.2 left hash
        (λ x y has has' same. held.keys x y (kept x has) (kept y has') same)
        (record { made = λ x has. held.fit.made x (kept x has); closed = λ x has. held.fit.closed x (kept x has) })

    added : (n : NewSystem) → AddsNew n number shared (own_id call) makes.between es'
        → StandFor es' (with_system between (new_one n number shared (own_id call)))
    added Master adds =
        (master_stands makes.between es' between number shared (own_id call) stand_between none_between small (number_fits records) (omega arith)
        (omega arith) adds).stand
    added Slave adds =
        (slave_stands makes.between es' between number shared (own_id call) stand_between none_between small (number_fits records) (omega arith)
        adds).stand

    pub founded_stands : StandFor es' (after_call true call)
    founded_stands = subst (λ (v : Volume). StandFor es' v) (sym after_is) (added new makes.system)

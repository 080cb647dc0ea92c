-- What the opening of a prune makes of the volume for which elements stand.
use Rattle.std.proofs.Common.{◌≡◌, ℕ, ◌<◌, ◌≤◌, Bool, true, false, List, [], ◌∷◌, filter, length, refl, sym, ap, subst, ◌∙◌, arith}
use Rattle.std.specs.Prelude.{Option, None, Some, min, option_map, ◌-◌, ◌^◌}
use Rattle.std.specs.Bool.{nat_le, nat_lt}
use Rattle.std.specs.List.{All}
use Rattle.std.specs.Option.{option_map_or}
use Rattle.std.proofs.lemmas.Bool.Decides.{nat_tests}
use Rattle.std.proofs.lemmas.List.Elements.{All-cons, All-nil}
use Rattle.hm_types.specs.Elements.{FullElement}
use Rattle.hm_types.specs.declared.limits.TheConstants.{GREATEST_ID, MOST_INTERVALS}
use Rattle.hm_model.specs.After.{of_pfs}
use Rattle.hm_model.specs.Call.{Call, call_shown, first_site, own_id, site_tree}
use Rattle.hm_model.specs.Cut.{pruned, snapshot_ids}
use Rattle.hm_model.specs.Due.{Check, intervals_left, kept_ids, pruned_count, refuse_if}
use Rattle.hm_model.specs.Volume.{PseudoFileSystem, Volume, shown_id, system_of}
use Rattle.hm_model.specs.declared.command.Command.{Command}
use Rattle.hm_model.specs.declared.command.Command.TheVariants.{Prune}
use Rattle.hm_model.specs.declared.reply.Reply.TheVariants.{TooManyIntervals}
use Rattle.hm_model.proofs.GrowthLemmas.{KeepsNumber}
use Rattle.hm_records.specs.PfsRecord.{pfs_bytes}
use Rattle.hm_records.specs.declared.pfs_record.PfsRecord.{PfsRecord}
use Rattle.hm_pfs.specs.Records.{SetsRecord}
use Rattle.hm_image.specs.StandFor.{StandFor}
use Rattle.hm_calls.specs.Prunes.{Cuts, HasNoRecord, HasRecordAfter, IsRecordAfter, SetsTo, command_of, kept_by, system_after}
use Rattle.hm_calls.specs.declared.pruning.Led.{Led}
use Rattle.hm_calls.specs.declared.pruning.Pruning.{Pruning}
use Rattle.hm_calls.specs.declared.pruning.Pruning.TheVariants.{Present, Snapshots}
use Rattle.hm_step.specs.Cut.{SetsRecordBy}
use Rattle.hm_step.specs.Next.{IsLed}
use Rattle.hm_step.specs.Pruned.{StandAfter, StillKeeps}
use Rattle.hm_step.specs.Step.{drawn}
use Rattle.hm_step.proofs.CutLemmas.{present_number, present_stands, prune_stands}
use Rattle.hm_step.proofs.JobLemmas.{enough_kept, enough_nothing}
use Rattle.hm_step.proofs.NextLemmas.{after_next}
use Rattle.hm_step.proofs.SystemLemmas.{found_here, of_none}

-- ids that are filtered so are up to the shown one
low_ids : (most : ℕ) (ids : List ℕ) → All (λ id. id ≤ most) (filter (λ id. nat_le id most) ids)
low_ids most [] = All-nil (λ id. id ≤ most)
low_ids most (id ∷ ids) = by (nat_le id most) refl (low_ids most ids) where
  rest : List ℕ
  rest = filter (λ i. nat_le i most) ids

  by : (test : Bool) → nat_le id most ≡ test → All (λ i. i ≤ most) rest → All (λ i. i ≤ most) (filter (λ i. nat_le i most) (id ∷ ids))
  by true is all = let low : id ≤ most = grind (arith, nat_tests, is) in rw is (All-cons (λ i. i ≤ most) id rest low all)
  by false is all = rw is all

-- what a change by a prune leaves of a number
after_number : (pruning : Pruning) (call : Call) → KeepsNumber (system_after pruning call)
after_number Snapshots call s = refl
after_number Present call s = present_number (own_id call) s

-- the volume after an opening that was accepted
abbrev pub after_opening : Call → Pruning → Volume
after_opening call pruning = of_pfs (drawn (own_id call) call.volume) (first_site call).at.pfs (system_after pruning call)

module _ (call : Call) (es es' : List FullElement) (path : List ℕ) (stand : StandFor es call.volume) (left : call.volume.last < GREATEST_ID)
    (fits : intervals_left call ≡ None) where
  -- the volume with the call's id drawn, for which the elements stand still
  abbrev now : Volume
  now = drawn (own_id call) call.volume

  stands_now : StandAfter call.volume es now
  stands_now = after_next es call.volume stand left

  -- the check of intervals
  abbrev intervals_by : Command → Check
  intervals_by command = elim command as (λ c. Check) [
    | Prune path ↦ refuse_if (nat_lt MOST_INTERVALS (pruned_count call)) (TooManyIntervals (min (pruned_count call) (2 ^ 32 - 1)))
    | other ↦ None
  ]

  few : call.command ≡ Prune path → pruned_count call ≤ MOST_INTERVALS
  few is = by (nat_lt MOST_INTERVALS (pruned_count call)) refl (subst (λ (command : Command). intervals_by command ≡ None) is fits) where
    by : (test : Bool) → nat_lt MOST_INTERVALS (pruned_count call) ≡ test
        → refuse_if test (TooManyIntervals (min (pruned_count call) (2 ^ 32 - 1))) ≡ None → pruned_count call ≤ MOST_INTERVALS
    by true is none = absurd (cc)
    by false is none = grind (arith, nat_tests, is)

  module _ (one : PseudoFileSystem) (found : system_of call.volume (first_site call).at.pfs ≡ Some one) where
    ids_are : kept_ids call ≡ snapshot_ids (site_tree call (first_site call)) (first_site call).at.object (call_shown call one)
    ids_are = ap (λ (o : Option PseudoFileSystem). option_map_or
        (λ (s : PseudoFileSystem). snapshot_ids (site_tree call (first_site call)) (first_site call).at.object (call_shown call s)) o []) found

    early : All (λ id. id ≤ shown_id (own_id call) one) (kept_ids call)
    early = subst (All (λ id. id ≤ shown_id (own_id call) one)) (sym ids_are) (low_ids (call_shown call one) _)

    count_is : pruned_count call ≡ length (pruned one.retention (kept_ids call))
    count_is = ap (λ (o : Option PseudoFileSystem). option_map_or (λ (s : PseudoFileSystem). length (pruned s.retention (kept_ids call))) o 0) found

    cut_stands : (pruning : Pruning) → call.command ≡ command_of pruning path
        → SetsRecordBy now (first_site call).at.pfs one (system_after pruning call) es es'
        → StandAfter now es' (of_pfs now (first_site call).at.pfs (system_after pruning call))
    cut_stands Snapshots is sets =
        prune_stands es es' now (first_site call).at.pfs one stands_now.stand (kept_ids call) sets early
        (subst (λ (n : ℕ). n ≤ MOST_INTERVALS) count_is (few is))
    cut_stands Present is sets = present_stands es es' now (first_site call).at.pfs one stands_now.stand sets

  module _ (pruning : Pruning) (is : call.command ≡ command_of pruning path) (led : Led) (cuts : Cuts pruning call led es es') where
    abbrev pfs : ℕ
    pfs = (first_site call).at.pfs

    abbrev change : PseudoFileSystem → PseudoFileSystem
    change = system_after pruning call

    abbrev after : Volume
    after = after_opening call pruning

    -- its elements, what jobs keep, and what it led to
    pub record Opens (volume : Volume) : Type 0 where
      pub stands : StandFor es' volume
      pub jobs : StillKeeps call.volume volume
      pub led_to : IsLed volume led

    retention_at : (volume : Volume) (o : Option PseudoFileSystem) → system_of volume led.pfs.0 ≡ o
        → option_map_or (λ (s : PseudoFileSystem). s.retention) (system_of volume led.pfs.0) []
        ≡ option_map_or (λ (s : PseudoFileSystem). s.retention) o []
    retention_at volume o found = ap (λ (p : Option PseudoFileSystem). option_map_or (λ (s : PseudoFileSystem). s.retention) p []) found

    -- where there is no record nothing is kept
    none_opens : HasNoRecord call.volume pfs es → led.kept ≡ [] → es' ≡ es → Opens after
    none_opens none kept same = subst Opens (sym (of_none now pfs change none.none)) (record {
      stands = subst (λ (list : List FullElement). StandFor list now) (sym same) stands_now.stand;
      jobs = stands_now.jobs;
      led_to = record {
        kept = retention_at now None (ap (system_of now) cuts.pfs ∙ none.none) ∙ sym kept;
        enough = λ job job_is others. enough_nothing now led.pfs.0 job others (job_is ∙ ap Some kept);
      };
    })

    -- where there is one it was cut
    some_opens : (to : PfsRecord) → IsRecordAfter change call.volume pfs to es → led.kept ≡ to.retention → SetsRecord pfs (pfs_bytes to) es es'
        → Opens after
    some_opens to has kept sets = record {
      stands = cut.stand;
      jobs = λ job enough. cut.jobs job (stands_now.jobs job enough);
      led_to = record {
        kept = retention_at after (Some (change has.system)) found_there ∙ (sym has.kept ∙ sym kept);
        enough = λ job job_is others.
            enough_kept after led.pfs.0 job others (change has.system) found_there (job_is ∙ ap Some (kept ∙ has.kept));
      };
    } where
      with_retention : List (ℕ × ℕ) → PfsRecord
      with_retention retention = record has.retained.was { retention = retention }

      told : to ≡ with_retention (change has.system).retention
      told = has.retained.rest ∙ ap with_retention has.kept

      cut : StandAfter now es' after
      cut = cut_stands has.system has.found pruning is (record {
        there = has.found;
        was = has.retained.was;
        ranges = has.retained.ranges_before;
        counts = has.retained.counts;
        sets = subst (λ (r : PfsRecord). SetsRecord pfs (pfs_bytes r) es es') told sets;
      })

      found_there : system_of after led.pfs.0 ≡ Some (change has.system)
      found_there =
          ap (system_of after) cuts.pfs
          ∙ (found_here now pfs change (after_number pruning call) ∙ ap (option_map change) has.found)

    pub opens_to : Opens after
    opens_to = by cuts.to
        (subst (λ (n : ℕ). HasRecordAfter change call.volume n cuts.to es) cuts.pfs cuts.after) cuts.kept
        (subst (λ (n : ℕ). SetsTo n cuts.to es es') cuts.pfs cuts.sets)
      where
        by : (to : Option PfsRecord) → HasRecordAfter change call.volume pfs to es → led.kept ≡ kept_by to → SetsTo pfs to es es'
            → Opens after
        by None none kept same = none_opens none kept same
        by (Some to) has kept sets = some_opens to has kept sets

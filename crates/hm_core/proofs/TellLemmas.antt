-- A call that looks at the space, to tell it or to open a reblock, is the next one of each history.
use Rattle.std.proofs.Common.{◌≡◌, ◌⊎◌, None, Some, inl, inr, ℕ, ◌+◌, ◌-◌, ◌^◌, ◌≤◌, ◌<◌, Bool, List}
use Rattle.std.proofs.Common.{[], ◌∷◌, ◌++◌, refl, sym, ap, subst, ◌∙◌, cond, length, arith}
use Rattle.std.proofs.lemmas.Bool.{false≢true}
use Rattle.std.proofs.lemmas.List.FromFn.{length-range_with_len}
use Rattle.std.proofs.lemmas.List.Sums.{count_by-le-length}
use Rattle.hm_types.specs.Faults.{IsCaused}
use Rattle.hm_types.specs.Layout.{IsPool, first_pool}
use Rattle.hm_types.specs.References.{pool}
use Rattle.hm_types.specs.declared.fault.Fault.{Fault}
use Rattle.hm_types.specs.declared.fault.Fault.TheVariants.{Damaged as damage, Media as device, NoMemory as no_memory}
use Rattle.hm_types.specs.declared.limits.TheConstants.{GREATEST_ID}
use Rattle.hm_freemap.specs.Faults.{IsFreemapDamage}
use Rattle.hm_freemap.specs.Stand.{free_by, is_free_by}
use Rattle.hm_freemap.proofs.GoodLemmas.{good_block}
use Rattle.hm_model.specs.After.{Event}
use Rattle.hm_model.specs.Caused.{Counts}
use Rattle.hm_model.specs.Foreign.{Foreigners}
use Rattle.hm_model.specs.Volume.{Volume}
use Rattle.hm_model.specs.declared.command.Command.{Command}
use Rattle.hm_model.specs.declared.command.Command.TheVariants.{Df, Reblock}
use Rattle.hm_model.specs.declared.entry.Entry.{Entry}
use Rattle.hm_model.specs.declared.reply.Reply.TheVariants.{Done, NoMemory, Space}
use Rattle.hm_calls.specs.Answered.{IsAnswerable}
use Rattle.hm_stored.specs.Basis.{IsFirm, states_of}
use Rattle.hm_stored.specs.Heap.{Heap, free_of, maps_of, room_of}
use Rattle.hm_stored.specs.Standing.{basis_now}
use Rattle.hm_stored.specs.Turn.{IsClosed, LooksSame}
use Rattle.hm_state.specs.Live.{NoByte}
use Rattle.hm_state.proofs.LiveLemmas.{live_same}
use Rattle.hm_state.proofs.SameLemmas.{held_firm}
use Rattle.hm_core.specs.Answer.{AnswersOver, KeepsFlush, job_of}
use Rattle.hm_core.specs.Counts.{AreLater, with_disk}
use Rattle.hm_core.specs.History.{IsLegalBeyond, IsLegalOver}
use Rattle.hm_core.specs.Ledger.{IsPaid}
use Rattle.hm_core.specs.Live.{KeepsLiveOver}
use Rattle.hm_core.specs.Open.{IsReblock}
use Rattle.hm_core.specs.State.{OpenJob, reblocking}
use Rattle.hm_core.specs.Told.{reply_to}
use Rattle.hm_core.proofs.AnswerLemmas.{fault_silent, none_told}
use Rattle.hm_core.proofs.CausedLemmas.{fault_refuses, reblock_goes_on, refused_goes_on, space_goes_on}
use Rattle.hm_core.proofs.KeptLemmas.{kept_same}
use Rattle.hm_core.proofs.CountLemmas.{disk_later}
use Rattle.hm_core.proofs.LookedLemmas.{looked_beside, looked_closed, looked_free, looked_legal, looked_room}
use Rattle.hm_core.proofs.RepliedLemmas.{fault_media, free_counted}
use Rattle.hm_core.proofs.ReblockLemmas.{reblock_opened}
use Rattle.hm_core.proofs.RefusedLemmas.{refused_call}
use Rattle.hm_core.proofs.SpaceLemmas.{space_told}

module _ (old new : Heap) (root root' faults faults' : ℕ) (closed : IsClosed old) (looks : LooksSame old new) (stays : root' ≡ root)
    (same : faults' ≡ faults) where
  counted : faults ≤ faults'
  counted = omega (arith, same)

  later : (counts : Counts) → AreLater (with_disk counts faults) (with_disk counts faults')
  later counts = disk_later counts faults faults' counted

  paid_same : (first calls : ℕ) → IsPaid first (free_of old) calls (room_of old) → IsPaid first (free_of new) (calls + 1) (room_of new)
  paid_same first calls paid =
      let later : IsPaid first (free_of old) (calls + 1) (room_of old) = record {
        begun = paid.begun;
        filled = λ zone. (let filled = paid.filled zone in omega (arith, filled));
        paid = paid.paid;
      } in
      subst (λ (room : ℕ → ℕ). IsPaid first (free_of new) (calls + 1) room) (sym (looked_room old new looks))
      (subst (λ (n : ℕ). IsPaid first n (calls + 1) (room_of old)) (sym (looked_free old new looks)) later)

  -- no more big-blocks are free than the pool has
  free_most : free_of old ≤ old.bigblocks - first_pool old.bigblocks
  free_most =
      let whole : free_of old ≡ free_by old.bigblocks old.append (maps_of old) =
      ap (λ (w : Bool). cond w (free_by old.bigblocks old.append (maps_of old)) (2 ^ 32)) closed.whole in
      let most : free_by old.bigblocks old.append (maps_of old) ≤ length (pool old.bigblocks) =
      count_by-le-length (is_free_by old.append (maps_of old)) (pool old.bigblocks) in
      let long : length (pool old.bigblocks) ≡ old.bigblocks - first_pool old.bigblocks =
      length-range_with_len (first_pool old.bigblocks) (old.bigblocks - first_pool old.bigblocks) in
      omega (arith, whole, most, long)

  -- over a volume that stands the only fault is want of memory
  memory_alone : (fault : Fault) → IsFreemapDamage old.bigblocks old.append (IsPool old.bigblocks) (maps_of old) fault → IsCaused 0 0 fault
      → IsFirm (basis_now old root) → reply_to fault ≡ NoMemory
  memory_alone (device before after) bad caused firm =
      let rose = caused.rose in
      let end = caused.end in
      absurd (omega (arith, rose, end))
  memory_alone (damage at kind) bad caused firm =
      absurd (bad.bad (good_block old.bigblocks old.append (maps_of old) (states_of (basis_now old root)) firm.stand bad.block bad.looked))
  memory_alone no_memory bad caused firm = refl

  -- the device does not fail in it
  no_device : (fault : Fault) → IsCaused 0 0 fault → IsCaused faults faults' fault
  no_device (device before after) caused =
      let rose = caused.rose in
      let end = caused.end in
      absurd (omega (arith, rose, end))
  no_device (damage at kind) caused = tt
  no_device no_memory caused = tt

  kept : {Known : Type 0} → KeepsFlush Known old new
  kept = kept_same old new (looked_beside old new looks)

  -- a look writes nothing
  live_looked : (last : ℕ) → KeepsLiveOver NoByte root last old new
  live_looked last volume holds = live_same NoByte old root new.disk (looked_beside old new looks).disk

  module _ (last : ℕ) (left : last < GREATEST_ID) where
    -- what was legal before the look is so after it
    there : (first : ℕ) (start counts : Counts) (history : List Entry) (running : List OpenJob) (opening : Volume) (foreigners : Foreigners)
        (events : List Event)
        → IsLegalBeyond first start counts history old root (last + 1) running opening foreigners events
        → IsLegalBeyond first start counts history new root' (last + 1) running opening foreigners events
    there first start counts history running opening foreigners events (more, legal) = (
      more,
      subst (λ (r : ℕ). IsLegalOver first start counts history new r (last + 1) running opening foreigners (events ++ more)) (sym stays)
          (looked_legal old new looks first start counts history root (last + 1) running opening foreigners (events ++ more) legal),
    )

    pub told_answers : (numbers boundary space free : ℕ) → space ≡ old.bigblocks - first_pool old.bigblocks → free ≡ free_of old
        → AnswersOver numbers boundary faults faults' last Df old new root root' (Space space free) None
    told_answers numbers boundary space free pool_is is_free = record {
      form = λ opens. absurd (false≢true opens);
      closed = looked_closed old new looks closed;
      counted = counted;
      told = tt;
      replied = record {
        media = tt;
        due = λ answers. absurd answers;
        space = λ is volume held.
            inl (ap (λ (n : ℕ). Space n free) pool_is
            ∙ ap (Space (old.bigblocks - first_pool old.bigblocks)) (is_free ∙ free_counted old root held.elements.0 closed held.elements.1));
        reblock = λ fill is. absurd cc;
      };
      caused = λ first start counts history running entry of told before so_far.
          space_goes_on first start (with_disk counts faults) (with_disk counts faults') last running history so_far (later counts) entry left of.own
          of.call_is space free of.reply_is;
      flush = kept;
      live = live_looked last;
      paid = paid_same;
      legal = λ first start counts history running opening foreigners events entry enough of told before used so_far.
          there first start (with_disk counts faults') (history ++ entry ∷ []) running opening foreigners events
          (space_told first start (with_disk counts faults) (with_disk counts faults') history old root last running opening foreigners events so_far
          (later counts) left entry of.call_is of.own
          (space, free, of.reply_is, pool_is, omega (arith, is_free, enough), omega (arith, is_free, pool_is, free_most)));
      leads = λ first start counts history running opening foreigners events least used so_far volume holds. tt;
    }

    -- the look failed
    pub failed_answers : (numbers boundary : ℕ) (command : Command) → (command ≡ Df) ⊎ IsReblock command → (fault : Fault)
        → IsFreemapDamage old.bigblocks old.append (IsPool old.bigblocks) (maps_of old) fault → IsCaused 0 0 fault
        → AnswersOver numbers boundary faults faults' last command old new root root' (reply_to fault) None
    failed_answers numbers boundary command looks_at fault bad caused = record {
      form = λ opens. fault_refuses fault;
      closed = looked_closed old new looks closed;
      counted = counted;
      told = none_told boundary command (reply_to fault) (fault_silent fault);
      replied = record {
        media = fault_media faults faults' fault (no_device fault caused);
        due = λ answers. absurd (no_store command looks_at answers);
        space = λ is volume held. inr (inr (memory_alone fault bad caused (held_firm old root held.elements.0 held.elements.1)));
        reblock = λ fill is volume held. inr (inr (memory_alone fault bad caused (held_firm old root held.elements.0 held.elements.1)));
      };
      caused = λ first start counts history running entry of told before so_far.
          refused_goes_on first start (with_disk counts faults) (with_disk counts faults') last running history so_far (later counts) entry left of.own
          (inl (inr (subst (λ (c : Command). (c ≡ Df) ⊎ IsReblock c) (sym of.call_is) looks_at))) fault of.reply_is (no_device fault caused);
      flush = kept;
      live = live_looked last;
      paid = paid_same;
      legal = λ first start counts history running opening foreigners events entry enough of told before used so_far.
          let firm = held_firm old root so_far.held.holds.elements.0 so_far.held.holds.elements.1 in
          there first start (with_disk counts faults') (history ++ entry ∷ []) running opening foreigners events
          (refused_call first start (with_disk counts faults) (with_disk counts faults') history old root last running opening foreigners events so_far
          (later counts) left entry (inl (inr (subst (λ (c : Command). (c ≡ Df) ⊎ IsReblock c) (sym of.call_is) looks_at))) of.own old root
          (record { told = inr (of.reply_is ∙ memory_alone fault bad caused firm); holds = λ es holds. holds; size = refl }));
      leads = λ first start counts history running opening foreigners events least used so_far volume holds. tt;
    } where
      no_store : (command : Command) → (command ≡ Df) ⊎ IsReblock command → IsAnswerable command → ⊥
      no_store command (inl is) answers = subst IsAnswerable is answers
      no_store (Reblock fill) (inr is) answers = answers
      no_store other (inr is) answers = absurd is

    -- a reblock is opened
    pub chosen_answers : (numbers boundary fill : ℕ) → AnswersOver numbers boundary faults faults' last (Reblock fill) old new root root' Done (Some reblocking)
    chosen_answers numbers boundary fill = record {
      form = (tt, refl);
      closed = looked_closed old new looks closed;
      counted = counted;
      told = tt;
      replied = record {
        media = tt;
        due = λ answers. absurd answers;
        space = λ is. absurd cc;
        reblock = λ n is volume held. inl refl;
      };
      caused = λ first start counts history running entry of told before so_far.
          reblock_goes_on first start (with_disk counts faults) (with_disk counts faults') last running history so_far (later counts) entry left of.own
          (subst IsReblock (sym of.call_is) tt) of.reply_is;
      flush = kept;
      live = live_looked last;
      paid = paid_same;
      legal = λ first start counts history running opening foreigners events entry enough of told before used so_far.
          there first start (with_disk counts faults') (history ++ entry ∷ []) (running ++ job_of entry reblocking ∷ []) opening foreigners events
          (reblock_opened first start (with_disk counts faults) (with_disk counts faults') history old root last running opening foreigners events so_far
          (later counts) left fill entry of.call_is of.reply_is of.own);
      leads = λ first start counts history running opening foreigners events least used so_far volume holds. tt;
    }

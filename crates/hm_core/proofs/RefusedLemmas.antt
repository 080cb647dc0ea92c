-- A call that is asked and was refused for a fault of the device or for memory, as the next one of a history.
use Rattle.std.proofs.Common.{◌≡◌, ℕ, ◌+◌, ◌<◌, true, inl, inr, List, [], ◌∷◌, ◌++◌, ap}
use Rattle.hm_types.specs.declared.limits.TheConstants.{GREATEST_ID}
use Rattle.hm_model.specs.After.{Event}
use Rattle.hm_model.specs.Caused.{Counts}
use Rattle.hm_model.specs.Foreign.{Foreigners}
use Rattle.hm_model.specs.Reply.{is_refusal}
use Rattle.hm_model.specs.Volume.{Volume}
use Rattle.hm_model.specs.declared.entry.Entry.{Entry}
use Rattle.hm_model.specs.declared.reply.Reply.{Reply}
use Rattle.hm_stored.specs.Heap.{Heap}
use Rattle.hm_core.specs.Calls.{Fails}
use Rattle.hm_core.specs.Counts.{AreLater}
use Rattle.hm_core.specs.History.{IsLegalBeyond, IsLegalOver}
use Rattle.hm_core.specs.Served.{IsServed}
use Rattle.hm_core.specs.State.{OpenJob}
use Rattle.hm_core.specs.Told.{TellsFailure}
use Rattle.hm_core.proofs.CallLemmas.{failed_call}
use Rattle.hm_core.proofs.PathlessLemmas.{df_opens_nothing, sync_opens_nothing}
use Rattle.hm_core.proofs.SpaceLemmas.{pathless_refused}

-- a failure is a refusal
failure_refuses : (old new : ℕ) (reply : Reply) → TellsFailure old new reply → is_refusal reply ≡ true
failure_refuses old new reply (inl (before, after, is, media)) = ap is_refusal is
failure_refuses old new reply (inr is) = ap is_refusal is

module _ (free : ℕ) (start faults faults' : Counts) (history : List Entry) (h : Heap) (root last : ℕ) (running : List OpenJob) (opening : Volume)
    (foreigners : Foreigners) (events : List Event) (so_far : IsLegalOver free start faults history h root last running opening foreigners events)
    (counted : AreLater faults faults') (left : last < GREATEST_ID) where
  pub refused_call : (entry : Entry) → IsServed entry.call → entry.id.0 ≡ last + 1 → (h' : Heap) (root' : ℕ)
      → Fails faults.disk faults'.disk entry h h' root root'
      → IsLegalBeyond free start faults' (history ++ entry ∷ []) h' root' (last + 1) running opening foreigners events
  refused_call entry (inl (inl on_trees)) own h' root' fails =
      failed_call free start faults faults' history h root last running opening foreigners events so_far counted entry
      (record { served = on_trees; left = left; own = own }) h' root' fails
  refused_call entry (inl (inr (inl df))) own h' root' fails =
      pathless_refused free start faults faults' history h root last running opening foreigners events so_far counted left entry (inl df)
      (df_opens_nothing entry df) own h' root' fails
  refused_call entry (inl (inr (inr reblock))) own h' root' fails =
      pathless_refused free start faults faults' history h root last running opening foreigners events so_far counted left entry (inr (inr reblock))
      (λ opens. failure_refuses faults.disk faults'.disk entry.reply fails.told) own h' root' fails
  refused_call entry (inr sync) own h' root' fails =
      pathless_refused free start faults faults' history h root last running opening foreigners events so_far counted left entry (inr (inl sync))
      (sync_opens_nothing entry sync) own h' root' fails

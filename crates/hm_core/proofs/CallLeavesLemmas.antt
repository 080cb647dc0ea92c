-- A core follows itself over a call that was answered and entered, and what a crash within may leave.
use Rattle.std.proofs.Common.{◌≡◌, ◌≢◌, inl, ℕ, ◌+◌, ◌≤◌, List, [], ◌∷◌, ◌++◌}
use Rattle.std.proofs.Common.{refl, sym, subst, ◌∙◌, arith}
use Rattle.std.specs.Prelude.{IfSome, Option}
use Rattle.hm_disk.specs.Moments.{LeftSince}
use Rattle.hm_flush.specs.declared.flush.Flush.{Flush}
use Rattle.hm_flush.specs.declared.flush.Position.TheVariants.{Idle}
use Rattle.hm_flush.specs.Ends.{as_read}
use Rattle.hm_flush.specs.Flush.{tried}
use Rattle.hm_model.specs.After.{Event}
use Rattle.hm_model.specs.Caused.{Counts}
use Rattle.hm_model.specs.Foreign.{Foreigners}
use Rattle.hm_model.specs.Needs.{floor}
use Rattle.hm_model.specs.Volume.{Volume}
use Rattle.hm_model.specs.declared.command.Command.{Command}
use Rattle.hm_model.specs.declared.entry.Entry.{Entry}
use Rattle.hm_model.specs.declared.reply.Reply.{Reply}
use Rattle.hm_state.specs.Volume.{HoldsVolume}
use Rattle.hm_stored.specs.Heap.{free_of}
use Rattle.hm_step.specs.Next.{UsedBelow}
use Rattle.hm_core.specs.Answer.{AnswersOver, IsEntryOf, KeepsAs, running_after}
use Rattle.hm_core.specs.Core.{Follows, HoldsUpTo, IsGuarded, IsSoundCore, LeavesHeld, StandsOver}
use Rattle.hm_core.specs.Counts.{AreLater, with_disk}
use Rattle.hm_core.specs.Crash.{IsBetween, IsLeftBoundary, LeavesNow, LeavesPrefixes}
use Rattle.hm_core.specs.History.{IsLegalBeyond, IsLegalOver, setting_of, volume_of}
use Rattle.hm_core.specs.Numbers.{numbers_told}
use Rattle.hm_core.specs.State.{CoreState, OpenJob, OpenWork}
use Rattle.hm_core.proofs.CountLemmas.{disk_later}
use Rattle.hm_core.proofs.CrashLemmas.{leaves_weaker}
use Rattle.hm_core.proofs.EnterLemmas.{entered_by}
use Rattle.hm_core.proofs.HeldLemmas.{guarded_still, held_still, read_still}
use Rattle.hm_core.proofs.NumberLemmas.{used_told}
use Rattle.hm_core.proofs.UpToLemmas.{more_drawn, up_to_stays}

-- A core has entered the next id's entry, and all but what its space holds is as before, and what the entry opened.
pub record IsEntered (core new : CoreState) (entry : Entry) (opened : Option OpenWork) : Type 0 where
  pub history : new.history ≡ core.history ++ entry ∷ []
  pub last : new.last ≡ core.last + 1
  pub boundary : new.boundary ≡ core.boundary
  pub mounted : new.mounted ≡ core.mounted
  pub counts : new.counts ≡ with_disk core.counts new.counts.disk
  pub flush : new.flush ≡ core.flush
  pub running : new.running ≡ running_after entry opened core.running

module _ (past since : LeftSince) (core new : CoreState) (command : Command) (entry : Entry) (reply : Reply) (opened : Option OpenWork)
    (begun : IsSoundCore core) (ended : IsSoundCore new)
    (target : core.flush.at ≢ Idle → (core.flush.header.last.0 ≤ core.flush.target.last.0) × (core.flush.target.last.0 ≤ core.last))
    (least : floor core.mounted.free core.history ≤ free_of core.heap) (entered : IsEntered core new entry opened)
    (is : IsEntryOf core.last command reply entry)
    (answers : AnswersOver (numbers_told core.history) core.boundary core.counts.disk new.counts.disk core.last command core.heap new.heap core.root
    new.root reply opened)
    (leaves : LeavesNow past since new.heap.disk) where
  now_between : IsBetween core.boundary core.last core.flush.header.last.0
  now_between = begun.between core.flush.header.last.0 (inl refl)

  module _ (opening : Volume) (foreigners : Foreigners) (events : List Event) (stands : StandsOver core opening foreigners events) where
    -- the numbers that the history tells are used
    used : IsLegalOver core.mounted.free core.mounted.counts core.counts core.history core.heap core.root core.last core.running opening foreigners events
        → UsedBelow (numbers_told core.history) (volume_of opening foreigners events)
    used so_far = subst (λ (l : List Entry). UsedBelow (numbers_told l) (volume_of opening foreigners events)) so_far.entries
        (used_told (setting_of core.mounted.free core.mounted.counts core.counts opening foreigners) events so_far.legal)

    next : IsLegalBeyond core.mounted.free core.mounted.counts new.counts new.history new.heap new.root new.last new.running opening foreigners events
    next =
        let from = now_between.0 in
        let to = now_between.1 in
        subst (λ (x : Counts × List Entry × ℕ × List OpenJob).
        IsLegalBeyond core.mounted.free core.mounted.counts x.0 x.1 new.heap new.root x.2 x.3 opening foreigners events)
        (λ i. (sym entered.counts i, sym entered.history i, sym entered.last i, sym entered.running i))
        (answers.legal core.mounted.free core.mounted.counts core.counts core.history core.running opening foreigners events entry least is begun.told
        (omega (arith, from, to)) (used stands.legal) stands.legal)

    read : IfSome new.heap.disk (λ t. HoldsUpTo new opening foreigners events (as_read t))
    read = read_still past since core new ended entered.flush answers.flush leaves opening foreigners events stands

    guarded : IsGuarded core opening foreigners events → IsGuarded new opening foreigners events
    guarded = guarded_still past since core new ended entered.flush answers.flush leaves opening foreigners events stands

    held : IsGuarded core opening foreigners events → LeavesPrefixes past since (IsLeftBoundary (tried core.flush)) opening foreigners events
    held = held_still past since core new ended entered.flush answers.flush leaves opening foreigners events stands new.root new.last _
        next.1.held.holds

    -- and the events up to each boundary that it may leave stay, since that was drawn before the call
    crashed : IsGuarded core opening foreigners events
        → LeavesPrefixes past since (IsBetween core.boundary new.last) opening foreigners (events ++ next.0)
    crashed was =
        let gained = more_drawn core.history events next.0 entry stands.legal.entries (next.1.entries ∙ entered.history) in
        leaves_weaker (IsLeftBoundary (tried core.flush)) (IsBetween core.boundary new.last) past since opening foreigners events (events ++ next.0)
        (λ boundary mine.
        let between = begun.between boundary mine in let to = between.1 in let last = entered.last in (between.0, omega (arith, to, last)))
        (λ boundary mine. up_to_stays core.last boundary events next.0 entry gained is.own (begun.between boundary mine).1) (held was)

  pub call_follows : Follows past since core new
  call_follows = record {
    mounted = entered.mounted;
    history = (entry ∷ [], entered.history);
    last = (let last = entered.last in omega (arith, last));
    boundary = (let same = entered.boundary in omega (arith, same));
    never_falls = subst (AreLater core.counts) (sym entered.counts) (disk_later core.counts core.counts.disk new.counts.disk answers.counted);
    sound = ended;
    goes_on = λ opening foreigners events stands.
        entered_by past since core new entry entered.history is.own entered.mounted opening foreigners events stands
        (next opening foreigners events stands) (subst (λ (f : Flush). f.header.last.0 ≤ core.last) (sym entered.flush) now_between.1)
        (subst (λ (f : Flush). f.at ≢ Idle → f.target.last.0 ≤ core.last) (sym entered.flush) (λ flies. (target flies).1))
        (read opening foreigners events stands) (guarded opening foreigners events stands) (crashed opening foreigners events stands);
  }

  pub call_leaves_held : LeavesHeld past since core
  call_leaves_held = held

  -- a prune that it opened keeps what the volume that the space holds now keeps
  pub call_leads : (opening : Volume) (foreigners : Foreigners) (events : List Event) → StandsOver core opening foreigners events
      → (volume : Volume) → HoldsVolume new.heap new.root new.last volume → IfSome opened (KeepsAs volume)
  call_leads opening foreigners events stands volume holds =
      answers.leads core.mounted.free core.mounted.counts core.counts core.history core.running opening foreigners events least
      (used opening foreigners events stands stands.legal) stands.legal volume
      (subst (λ (n : ℕ). HoldsVolume new.heap new.root n volume) entered.last holds)

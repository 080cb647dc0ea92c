-- A core goes on with the entry of a call.
use Rattle.std.proofs.Common.{◌≡◌, ◌≢◌, ◌⊎◌, inl, inr, ℕ, ◌+◌, ◌≤◌, List, [], ◌∷◌, ◌++◌, Bool, true, false, refl, sym, ap, subst, ◌∙◌, arith, nat_lt}
use Rattle.std.specs.Prelude.{IfSome}
use Rattle.std.proofs.lemmas.Bool.Decides.{nat_tests}
use Rattle.hm_disk.specs.Crash.{Told}
use Rattle.hm_disk.specs.Moments.{LeftSince}
use Rattle.hm_flush.specs.declared.flush.Flush.{Flush}
use Rattle.hm_flush.specs.declared.flush.Position.{Position}
use Rattle.hm_flush.specs.declared.flush.Position.TheVariants.{Idle, Undoing, Arming, Placing, Committing}
use Rattle.hm_flush.specs.Ends.{as_read}
use Rattle.hm_model.specs.After.{Event}
use Rattle.hm_model.specs.Foreign.{Foreigners}
use Rattle.hm_model.specs.Legal.{entries_of}
use Rattle.hm_model.specs.Volume.{Volume}
use Rattle.hm_model.specs.declared.command.Command.{Command}
use Rattle.hm_model.specs.declared.entry.Entry.{Entry}
use Rattle.hm_stored.specs.Heap.{Heap}
use Rattle.hm_state.specs.Flushing.{HoldsFlush}
use Rattle.hm_core.specs.Core.{GoesOnBy, HoldsUpTo, IsGuarded, NeedsFlush, StandsOver}
use Rattle.hm_core.specs.Crash.{IsBetween, LeavesPrefixes}
use Rattle.hm_core.specs.Served.{IsSync}
use Rattle.hm_core.specs.History.{IsLegalBeyond, IsLegalOver, up_to, volume_of}
use Rattle.hm_core.specs.State.{CoreState}
use Rattle.hm_core.proofs.KeptLemmas.{if_told}
use Rattle.hm_core.proofs.StageLemmas.{idle_any}
use Rattle.hm_core.proofs.UpToLemmas.{more_drawn, up_to_stays}

-- whether no flush is in flight
is_idle : (at : Position) → (at ≡ Idle) ⊎ (at ≢ Idle)
is_idle Idle = inl refl
is_idle (Undoing from) = inr (λ same. absurd cc)
is_idle (Arming change) = inr (λ same. absurd cc)
is_idle (Placing i) = inr (λ same. absurd cc)
is_idle (Committing change) = inr (λ same. absurd cc)

-- a sync that waits for no flush is answered no earlier than it asks
pub waited_for : (core : CoreState) (since : ℕ) (command : Command) → ¬ NeedsFlush core since command → IsSync command → since ≤ core.boundary
waited_for core since command none sync = by (nat_lt core.boundary since) refl where
  by : (b : Bool) → nat_lt core.boundary since ≡ b → since ≤ core.boundary
  by true is = absurd (none (inr (sync, grind (arith, nat_tests, is))))
  by false is = grind (arith, nat_tests, is)

-- what a flush holds of a history is what it holds of one with an entry more, by the next id
module _ (f : Flush) (h : Heap) (last : ℕ) (history : List Entry) (entry : Entry) (opening : Volume) (foreigners : Foreigners) (events more : List Event)
    (entries : entries_of events ≡ history) (entered : entries_of (events ++ more) ≡ history ++ entry ∷ []) (own : entry.id.0 ≡ last + 1)
    (later : f.header.last.0 ≤ last) (target : f.at ≢ Idle → f.target.last.0 ≤ last) where
  abbrev pub up : ℕ → List Event → Volume
  up id es = volume_of opening foreigners (up_to id es)

  -- the events up to an id before it are the same
  pub events_stay : (id : ℕ) → id ≤ last → up_to id (events ++ more) ≡ up_to id events
  events_stay id before = up_to_stays last id events more entry (more_drawn history events more entry entries entered) own before

  stay : (id : ℕ) → id ≤ last → up id events ≡ up id (events ++ more)
  stay id before = ap (λ (es : List Event). volume_of opening foreigners es) (sym (events_stay id before))

  pub held_more : (t : Told) → HoldsFlush f h t (up f.header.last.0 events) (up f.target.last.0 events)
      → HoldsFlush f h t (up f.header.last.0 (events ++ more)) (up f.target.last.0 (events ++ more))
  held_more t held =
      subst (λ (c : Volume). HoldsFlush f h t c (up f.target.last.0 (events ++ more))) (stay f.header.last.0 later)
      (elim (is_idle f.at) [
        | inl idle ↦ idle_any f h t (up f.header.last.0 events) (up f.target.last.0 events) (up f.target.last.0 (events ++ more)) idle held
        | inr flies ↦
            subst (λ (z : Volume). HoldsFlush f h t (up f.header.last.0 events) z) (stay f.target.last.0 (target flies)) held
      ])

-- a core that enters the next id's entry
module _ (past since : LeftSince) (core new : CoreState) (entry : Entry) (entered : new.history ≡ core.history ++ entry ∷ [])
    (own : entry.id.0 ≡ core.last + 1) (mounted : new.mounted ≡ core.mounted) (opening : Volume) (foreigners : Foreigners) (events : List Event)
    (stands : StandsOver core opening foreigners events)
    (next : IsLegalBeyond core.mounted.free core.mounted.counts new.counts new.history new.heap new.root new.last new.running opening foreigners events) where
  pub entered_by : new.flush.header.last.0 ≤ core.last → (new.flush.at ≢ Idle → new.flush.target.last.0 ≤ core.last)
      → IfSome new.heap.disk (λ t. HoldsUpTo new opening foreigners events (as_read t))
      → (IsGuarded core opening foreigners events → IfSome new.heap.disk (HoldsUpTo new opening foreigners events))
      → (IsGuarded core opening foreigners events → LeavesPrefixes past since (IsBetween core.boundary new.last) opening foreigners (events ++ next.0))
      → GoesOnBy past since core new opening foreigners events
  entered_by later target read guarded crashed =
      let held = held_more new.flush new.heap core.last core.history entry opening foreigners events next.0 stands.legal.entries
      (next.1.entries ∙ entered) own later target in
      record {
        more = next.0;
        stay = events_stay new.flush new.heap core.last core.history entry opening foreigners events next.0 stands.legal.entries
            (next.1.entries ∙ entered) own later target;
        stands = record {
          legal = subst (λ m. IsLegalOver m.free m.counts new.counts new.history new.heap new.root new.last new.running opening foreigners (events ++ next.0))
              (sym mounted) next.1;
          read = if_told new.heap.disk (λ t. held (as_read t)) read;
        };
        guarded = λ was. if_told new.heap.disk held (guarded was);
        crashed = crashed;
      }

-- One call more keeps that a history is legal and that the space holds its volume, over every opening volume.
use Rattle.std.proofs.Common.{◌≡◌, ℕ, ◌+◌, ◌<◌, ◌≤◌, inl, inr, List, [], ◌∷◌, ◌++◌, Option, None, Some, refl, sym, ap, subst, ◌∙◌, arith}
use Rattle.std.specs.Prelude.{IfSome, IsSomeAnd}
use Rattle.std.proofs.lemmas.List.{map-append}
use Rattle.hm_types.specs.Elements.{FullElement}
use Rattle.hm_types.specs.declared.limits.TheConstants.{GREATEST_ID}
use Rattle.hm_key.specs.Balance.{IsBalanced, content_of}
use Rattle.hm_key.specs.Extents.{Extent}
use Rattle.hm_key.specs.declared.element.Element.{Element}
use Rattle.hm_cursor.specs.Told.{Lists, fulls}
use Rattle.hm_model.specs.After.{Event, State}
use Rattle.hm_model.specs.Call.{Call}
use Rattle.hm_model.specs.Caused.{Counts, HasNumbers, Known, known_after, known_at}
use Rattle.hm_model.specs.Foreign.{Foreigners}
use Rattle.hm_model.specs.Legal.{IsAllowed, IsLegal, MayFollow, Setting, call_after, floor_after, state_after}
use Rattle.hm_model.specs.Needs.{floor}
use Rattle.hm_model.specs.View.{Substitute}
use Rattle.hm_model.specs.Volume.{Volume}
use Rattle.hm_model.specs.declared.entry.Entry.{Entry}
use Rattle.hm_model.specs.declared.reply.Reply.{Reply}
use Rattle.hm_model.proofs.EventLemmas.{IsLegal-goes_on, known_after-push}
use Rattle.hm_calls.specs.Answered.{IsFormOf}
use Rattle.hm_calls.specs.declared.answered.Answered.{Answered}
use Rattle.hm_calls.specs.declared.answered.Answered.TheVariants.{Opened, Replied}
use Rattle.hm_image.specs.StandFor.{StandFor}
use Rattle.hm_stored.specs.Heap.{Heap}
use Rattle.hm_state.specs.Volume.{HoldsVolume}
use Rattle.hm_stored.specs.Standing.{Holds}
use Rattle.hm_step.specs.Next.{Asked, GoesOn, IsEventOf, IsLedIfOpened, StandIfFit, UsedBelow, opened_after}
use Rattle.hm_step.specs.Seen.{AreGiven}
use Rattle.hm_prune.specs.Dead.{keeps_in}
use Rattle.hm_step.specs.Step.{IsFailure, IsNext}
use Rattle.hm_step.proofs.HistoryLemmas.{allowed_failed, keeps_failed, opened_failed, stands_failed}
use Rattle.hm_step.proofs.LegalLemmas.{may_follow_failed}
use Rattle.hm_step.proofs.SubstituteLemmas.{trees_given}
use Rattle.hm_core.specs.Answer.{KeepsAs, led_work, running_after}
use Rattle.hm_core.specs.Calls.{Fails, IsNextCall, Serves}
use Rattle.hm_core.specs.Counts.{AreLater}
use Rattle.hm_core.specs.History.{HoldsState, IsLegalBeyond, IsLegalOver, setting_of}
use Rattle.hm_core.specs.Open.{AreOpen}
use Rattle.hm_core.specs.State.{OpenJob, pruning}
use Rattle.hm_core.specs.Told.{told_beside}
use Rattle.hm_core.proofs.CountLemmas.{NumbersOf, later_still, legal_later, told_most}
use Rattle.hm_core.proofs.RetentionLemmas.{held_retention}
use Rattle.hm_core.proofs.StateLemmas.{IsNextTo, holds_after, kept_elsewhere, kept_there, open_more, open_same, prune_is, served_next}
use Rattle.hm_core.proofs.WordLemmas.{words_are_read}

module _ (free : ℕ) (start faults faults' : Counts) (history : List Entry) (h : Heap) (root last : ℕ) (running : List OpenJob) (opening : Volume)
    (foreigners : Foreigners) (events : List Event) (so_far : IsLegalOver free start faults history h root last running opening foreigners events)
    (counted : AreLater faults faults') where
  -- the run with the count of now, and what it has come to
  abbrev pub run : Setting
  run = setting_of free start faults' opening foreigners

  abbrev pub state : State
  state = state_after run events

  abbrev pub known : Known
  known = known_after (known_at opening.last start) events

  legal : IsLegal run events
  legal = legal_later (setting_of free start faults opening foreigners) faults' events counted so_far.legal

  -- no more faults were told than are counted now
  told_now : AreLater known.counts faults'
  told_now = later_still known.counts faults faults' so_far.counted counted

  pub goes_on : (event : Event) (h' : Heap) (root' : ℕ) (running' : List OpenJob) → MayFollow run events event
      → HoldsState h' root' (last + 1) running' (state_after run (events ++ event ∷ []))
      → IsLegalOver free start faults' (history ++ event.entry ∷ []) h' root' (last + 1) running' opening foreigners (events ++ event ∷ [])
  goes_on event h' root' running' follows held = record {
    entries = map-append (λ (e : Event). e.entry) events (event ∷ []) ∙ ap (λ (es : List Entry). es ++ event.entry ∷ []) so_far.entries;
    legal = IsLegal-goes_on run events event legal follows;
    counted = subst (λ (k : Known). AreLater k.counts faults') (sym (known_after-push (known_at opening.last start) events event))
        (told_most run.now known event.entry told_now follows.caused.numbers);
    held = held;
  }

  -- the id that is drawn next
  pub drawn_next : (n : ℕ) → n ≡ last + 1 → n ≡ state.volume.last + 1
  drawn_next n drawn = drawn ∙ ap (λ (m : ℕ). m + 1) so_far.held.holds.last_is

  pub left_next : last < GREATEST_ID → state.volume.last < GREATEST_ID
  left_next left = subst (λ (n : ℕ). n < GREATEST_ID) so_far.held.holds.last_is left

  -- the floor of the events is that of their entries
  pub floor_next : (space : ℕ) → floor free history ≤ space → floor_after run events ≤ space
  floor_next space least = subst (λ (list : List Entry). floor free list ≤ space) (sym so_far.entries) least

  -- ---- a call that is served

  module _ (entry : Entry) (is : IsNextCall last entry) where
    abbrev es : List FullElement
    es = so_far.held.holds.elements.0

    -- the trees of each PFS whose own ones are not certain
    pub given_trees : (substitutes : List Substitute) × AreGiven es state.volume substitutes
    given_trees = trees_given es state.volume so_far.held.holds.elements.2

    -- the entry as an event
    abbrev pub event : Event
    event = record { entry = entry; paths = (words_are_read entry.call).0; substitutes = given_trees.0 }

    abbrev pub call : Call
    call = call_after run events event

    own : entry.id.0 ≡ state.volume.last + 1
    own = drawn_next entry.id.0 is.own

    next : (space : ℕ) → floor_after run events ≤ space → IsNext run events event space es
    next space enough = record {
      served = is.served;
      own = own;
      left = left_next is.left;
      reads = (words_are_read entry.call).1;
      stand = so_far.held.holds.elements.2;
      given = given_trees.1;
      least = enough;
    }

    -- the space that came of a call holds the state after it, with these calls open
    next_held : (h' : Heap) (root' : ℕ) (running' : List OpenJob) (now : List FullElement) → h'.bigblocks ≡ h.bigblocks → Holds h' root' now
        → StandFor now (state_after run (events ++ event ∷ [])).volume → IsAllowed run events event
        → AreOpen running' (state_after run (events ++ event ∷ [])) → HoldsState h' root' (last + 1) running' (state_after run (events ++ event ∷ []))
    next_held h' root' running' now same holds stand allowed opened =
        holds_after h h' root root' last running running' state (state_after run (events ++ event ∷ [])) call now so_far.held refl
        (served_next run events event is.served own allowed) same holds stand opened

    -- a store served it
    module _ {S : Type 0} (elements_of : S → Option (List Element)) (extents_of : S → Option (List Extent)) (free_of : S → ℕ)
        (numbers : ℕ) (used : UsedBelow numbers state.volume) (answered : Answered) (old new : S) (h' : Heap) (root' : ℕ)
        (serves : Serves elements_of extents_of free_of (floor free history) numbers last entry answered old new h h' root root')
        (form : IsFormOf entry.call answered) where
      abbrev asked : Asked
      asked = record { command = entry.call; last = last; beside = told_beside numbers }

      abbrev after : State
      after = state_after run (events ++ event ∷ [])

      of_event : IsEventOf asked answered run events event
      of_event = record {
        command_is = refl;
        reply_is = serves.reply_is;
        last_is = sym so_far.held.holds.last_is;
        busy_is = so_far.held.opened.idle;
        numbers = used;
      }

      stepped : GoesOn run events event answered (elements_of new) (extents_of new)
      stepped = by (content_of (elements_of old) (extents_of old)) (serves.told es so_far.held.holds.elements.1) serves.step where
        by : (o : Option Lists) → IsSomeAnd o (λ was. IsBalanced was.0 was.1 × (fulls was ≡ es))
            → IfSome o (λ was. IsBalanced was.0 was.1 → (r : Setting) (before : List Event) (e : Event)
            → IsEventOf asked answered r before e → IsNext r before e (free_of old) (fulls was)
            → GoesOn r before e answered (elements_of new) (extents_of new))
            → GoesOn run events event answered (elements_of new) (extents_of new)
        by None told each = absurd told
        by (Some was) told each =
            each told.0 run events event of_event
            (subst (λ (l : List FullElement). IsNext run events event (free_of old) l) (sym told.1)
            (next (free_of old) (floor_next (free_of old) serves.found)))

      comes : IsNextTo call after
      comes = served_next run events event is.served own stepped.allowed

      -- what is open afterwards
      are_open : AreOpen (running_after entry (led_work answered) running) after
      are_open = by answered stepped.opened stepped.leads form where
        by : (a : Answered) → after.opened ≡ opened_after state call a → IsLedIfOpened after.volume a → IsFormOf entry.call a
            → AreOpen (running_after entry (led_work a) running) after
        by (Replied reply) same leads form_is =
            open_same running state after same stepped.jobs (let last_is = comes.last in omega (arith, last_is)) so_far.held.opened
        by (Opened led) same leads form_is =
            open_more running state after call entry (pruning led.pfs.0 led.kept) led.pfs.0 (prune_is entry.call form_is) refl refl own comes.last same
            (leads.enough (keeps_in led.pfs.0 led.kept) (kept_there led.pfs.0 led.kept) (kept_elsewhere led.pfs.0 led.kept)) stepped.jobs so_far.held.opened

      held : HoldsState h' root' (last + 1) (running_after entry (led_work answered) running) after
      held = by (content_of (elements_of new) (extents_of new)) refl stepped.stands where
        by : (o : Option Lists) → content_of (elements_of new) (extents_of new) ≡ o
            → IsSomeAnd o (λ now. IsBalanced now.0 now.1 × StandIfFit now after.volume)
            → HoldsState h' root' (last + 1) (running_after entry (led_work answered) running) after
        by None told stands = absurd stands
        by (Some now) told stands =
            let there = serves.holds now told stands.0 in
            next_held h' root' (running_after entry (led_work answered) running) (fulls now) serves.size there.holds (stands.1 there.fit) stepped.allowed
            are_open

      pub served_call : IsLegalBeyond free start faults' (history ++ entry ∷ []) h' root' (last + 1) (running_after entry (led_work answered) running)
          opening foreigners events
      served_call = (event ∷ [], goes_on event h' root' (running_after entry (led_work answered) running) stepped.follows held)

      -- a prune that it opened keeps what the volume after it keeps
      pub served_leads : (volume : Volume) → HoldsVolume h' root' (last + 1) volume → IfSome (led_work answered) (KeepsAs volume)
      served_leads volume holds = by answered stepped.leads where
        by : (a : Answered) → IsLedIfOpened after.volume a → IfSome (led_work a) (KeepsAs volume)
        by (Replied reply) leads = tt
        by (Opened led) leads = sym leads.kept ∙ held_retention h' root' (last + 1) after.volume volume led.pfs.0 held.holds holds

    -- the device failed in it, or memory was refused
    module _ (h' : Heap) (root' : ℕ) (failed : Fails faults.disk faults'.disk entry h h' root root') where
      fails : IsFailure entry.reply
      fails = elim failed.told [
        | inl (before, after, told, media) ↦ inl (before, after, told)
        | inr told ↦ inr told
      ]

      numbers : HasNumbers run.now known entry
      numbers = elim failed.told [
        | inl (before, after, told, media) ↦
            subst (λ (r : Reply). NumbersOf run.now known entry r) (sym told)
            (let begin = media.begin in let least = so_far.counted.disk in
            record { begin = omega (arith, least, begin); rose = media.rose; end = media.end })
        | inr told ↦ subst (λ (r : Reply). NumbersOf run.now known entry r) (sym told) tt
      ]

      abbrev least : ℕ
      least = floor_after run events

      at_least : IsNext run events event least es
      at_least = next least (omega arith)

      failed_open : AreOpen running (state_after run (events ++ event ∷ []))
      failed_open =
          let next_is = served_next run events event is.served own (allowed_failed run events event least es at_least fails) in
          open_same running state (state_after run (events ++ event ∷ [])) (opened_failed run events event least es at_least fails)
          (keeps_failed run events event least es at_least fails) (let last_is = next_is.last in omega (arith, last_is)) so_far.held.opened

      pub failed_call : IsLegalBeyond free start faults' (history ++ entry ∷ []) h' root' (last + 1) running opening foreigners events
      failed_call = (
        event ∷ [],
        goes_on event h' root' running (may_follow_failed run events event least es at_least fails numbers)
            (next_held h' root' running es failed.size (failed.holds es so_far.held.holds.elements.1)
            (stands_failed run events event least es at_least fails) (allowed_failed run events event least es at_least fails) failed_open),
      )

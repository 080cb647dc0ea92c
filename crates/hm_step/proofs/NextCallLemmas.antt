-- A call that a store answered is the next step of each history for whose volume its elements stand.
use Rattle.std.proofs.Common.{◌≡◌, ℕ, ◌+◌, ◌-◌, Bool, true, false, List, [], ◌∷◌, ◌++◌, Option, Some, None, Result, Ok, Err, refl, sym, ap, subst, arith}
use Rattle.std.specs.Prelude.{IfOk, IfSome, IsSomeAnd, IsTrue, IsFalse}
use Rattle.hm_types.specs.Elements.{FullElement, Key}
use Rattle.hm_types.specs.Hash.{name_hash}
use Rattle.hm_types.specs.declared.fault.Fault.{Fault}
use Rattle.hm_key.specs.Balance.{IsBalanced, content_of}
use Rattle.hm_key.specs.Elements.{IsContent}
use Rattle.hm_key.specs.Extents.{Extent}
use Rattle.hm_key.specs.declared.element.Element.{Element}
use Rattle.hm_cursor.specs.Told.{Lists, OnBalanced, fulls}
use Rattle.hm_cursor.proofs.PayloadLemmas.{full_sorted}
use Rattle.hm_calls.specs.Answered.{AnswersCall, AreNumbers, AsksBeside, Does, EachDoes, IsFormOf, is_effect, reply_in}
use Rattle.hm_calls.specs.Call.{IsCall, OnCalls}
use Rattle.hm_calls.specs.Due.{due_over}
use Rattle.hm_calls.specs.NewSystems.{HasKnownNumbers}
use Rattle.hm_calls.specs.Possible.{MayReply}
use Rattle.hm_calls.specs.declared.answered.Answered.{Answered}
use Rattle.hm_model.specs.After.{Event}
use Rattle.hm_model.specs.Call.{Call}
use Rattle.hm_model.specs.Legal.{Setting, call_after, state_after}
use Rattle.hm_model.specs.Volume.{Volume}
use Rattle.hm_model.specs.declared.command.Command.{Command}
use Rattle.hm_model.specs.declared.command.Command.TheVariants.{PfsMaster, PfsSlave}
use Rattle.hm_records.proofs.CountsLemmas.{own_keys-sorted}
use Rattle.hm_step.specs.Next.{Asked, GoesOn, IsDueOver, IsEventOf, IsStep}
use Rattle.hm_step.specs.Served.{IsServed}
use Rattle.hm_step.specs.Step.{IsNext}
use Rattle.hm_step.proofs.HistoryLemmas.{allowed, left_so}
use Rattle.hm_step.proofs.LegalLemmas.{may_follow}
use Rattle.hm_step.proofs.SeenLemmas.{shows_as}
use Rattle.hm_step.proofs.StepLemmas.{Leaves}

-- what is told of numbers is so where all below one are used, and elements stand for the volume
pub numbers_so : (command : Command) (numbers : ℕ) (es : List FullElement) (volume : Volume) → HasKnownNumbers numbers es volume
    → AreNumbers command numbers es volume
numbers_so (PfsMaster path shared) numbers es volume known = known
numbers_so (PfsSlave path shared) numbers es volume known = known
numbers_so other numbers es volume known = tt

module _ (asked : Asked) (answered : Answered) (room : ℕ → ℕ) (free : ℕ) (run : Setting) (before : List Event) (event : Event) (was : Lists)
    (of_event : IsEventOf asked answered run before event) (next : IsNext run before event free (fulls was)) where
  abbrev call : Call
  call = call_after run before event

  -- the event's call is one that the elements may be asked
  pub is_call : IsCall name_hash (asked.last + 1) (fulls was) call
  is_call = record {
    own = ap (λ (n : ℕ). n + 1) of_event.last_is;
    hash_is = refl;
    shows = shows_as (fulls was) (state_after run before).volume event.substitutes next.stand next.given;
    keys = next.stand.names;
    words = next.reads;
  }

  pub asks : AsksBeside asked.command asked.beside (fulls was) call
  asks = record {
    asks = record { command_is = of_event.command_is; busy_is = of_event.busy_is };
    numbers = numbers_so asked.command asked.beside.numbers (fulls was) call.volume (record {
      used = of_event.numbers;
      apart = next.stand.numbers.apart;
      few = next.stand.numbers.few;
      of_systems = next.stand.of_systems;
    });
  }

  pub goes_on : (es : List Element) (xs : List Extent) → IsContent es → IsBalanced es xs → IsFormOf asked.command answered
      → reply_in answered ≡ due_over call room free
      → (IsFalse (is_effect asked.command (reply_in answered)) → fulls (es, xs) ≡ fulls was)
      → (IsTrue (is_effect asked.command (reply_in answered)) → Does asked.command call answered (fulls was) (fulls (es, xs)))
      → GoesOn run before event answered (Some es) (Some xs)
  goes_on es xs content balanced form due stays does = record {
    stands = (
      balanced,
      λ fit. left.stands (record {
        keys = own_keys-sorted (fulls (es, xs)) (full_sorted es xs content.rising);
        fit = fit;
      }),
    );
    jobs = left.jobs;
    opened = left.opened;
    leads = left.leads;
    follows = may_follow run before event free (fulls was) next room (fulls (es, xs)) answered of_event.reply_is served;
    allowed = allowed run before event room free (fulls was) (fulls (es, xs)) answered next of_event.reply_is served;
  } where
    same : asked.command ≡ event.entry.call
    same = sym of_event.command_is

    served : IsServed call room free (fulls was) (fulls (es, xs)) answered
    served = record {
      form = subst (λ (command : Command). IsFormOf command answered) same form;
      due = due;
      stays = subst (λ (command : Command). IsFalse (is_effect command (reply_in answered)) → fulls (es, xs) ≡ fulls was) same stays;
      does = subst (λ (command : Command). IsTrue (is_effect command (reply_in answered))
          → Does command call answered (fulls was) (fulls (es, xs))) same does;
    }

    left : Leaves (fulls (es, xs)) (state_after run before) (state_after run (before ++ event ∷ [])) call answered
    left = left_so run before event room free (fulls was) (fulls (es, xs)) answered next of_event.reply_is served

module _ {S : Type 0} (elements_of : S → Option (List Element)) (mark_of : S → Key → ℕ) (extents_of : S → Option (List Extent))
    (room_of : S → ℕ → ℕ) (free_of : S → ℕ) (asked : Asked) (old new : S) where
  module _ (answered : Answered) where
    abbrev id : ℕ
    id = asked.last + 1

    abbrev Answers : Type 0
    Answers = AnswersCall elements_of mark_of extents_of room_of free_of name_hash id asked.command asked.beside old new answered

    -- what the reply is due, and what was written, by what the store told before and tells now
    abbrev Due : Option (List Element) → Option (List Extent) → Type 0
    Due es xs = OnCalls name_hash id es xs
        (λ list call. AsksBeside asked.command asked.beside list call → reply_in answered ≡ due_over call (room_of old) (free_of old))

    abbrev Wrote : Option (List Element) → Option (List Extent) → Option (List Element) → Option (List Extent) → Type 0
    Wrote es xs es' xs' =
        IfSome (content_of es xs) (λ was. IsBalanced was.0 was.1 → IsSomeAnd (content_of es' xs')
        (λ now. IsBalanced now.0 now.1 × EachDoes name_hash id asked.command asked.beside answered (fulls was) (fulls now)))

    -- the same as a step
    abbrev Steps : Option (List Element) → Option (List Extent) → Option (List Element) → Option (List Extent) → Type 0
    Steps es xs es' xs' = OnBalanced es xs (λ was. (run : Setting) (before : List Event) (event : Event) → IsEventOf asked answered run before event
        → IsNext run before event (free_of old) (fulls was) → GoesOn run before event answered es' xs')

    abbrev changed : Bool
    changed = is_effect asked.command (reply_in answered)

    no_truth : {b : Bool} → b ≡ true → b ≡ false → ⊥
    no_truth is is_not = cc

    both_told : (es es' : List Element) (xs xs' : List Extent) → IsContent es' → IsFormOf asked.command answered → Due (Some es) (Some xs)
        → (IsFalse changed → (es' ≡ es) × (xs' ≡ xs)) → (IsTrue changed → Wrote (Some es) (Some xs) (Some es') (Some xs'))
        → Steps (Some es) (Some xs) (Some es') (Some xs')
    both_told es es' xs xs' content form due stays wrote balanced run before event of_event next = by changed refl where
      the_call : Call
      the_call = call_after run before event

      its_call : IsCall name_hash id (fulls (es, xs)) the_call
      its_call = is_call asked answered (room_of old) (free_of old) run before event (es, xs) of_event next

      its_asks : AsksBeside asked.command asked.beside (fulls (es, xs)) the_call
      its_asks = asks asked answered (room_of old) (free_of old) run before event (es, xs) of_event next

      is_due : reply_in answered ≡ due_over the_call (room_of old) (free_of old)
      is_due = due balanced the_call its_call its_asks

      by : (test : Bool) → changed ≡ test → GoesOn run before event answered (Some es') (Some xs')
      by true is =
          let (after, does) = wrote is balanced in
          goes_on asked answered (room_of old) (free_of old) run before event (es, xs) of_event next es' xs' content after form is_due
          (λ is_not. absurd (no_truth is is_not)) (λ _. does the_call its_call its_asks)
      by false is =
          let (same_es, same_xs) = stays is in
          let same : (es', xs') ≡ (es, xs) = rw (same_es, same_xs) refl in
          goes_on asked answered (room_of old) (free_of old) run before event (es, xs) of_event next es' xs' content
          (subst (λ (lists : Lists). IsBalanced lists.0 lists.1) (sym same) balanced) form is_due
          (λ _. ap fulls same) (λ is_so. absurd (no_truth is_so is))

    told : (es es' : Option (List Element)) (xs xs' : Option (List Extent)) → IfSome es' IsContent → IsFormOf asked.command answered → Due es xs
        → (IsFalse changed → (es' ≡ es) × (xs' ≡ xs)) → (IsTrue changed → Wrote es xs es' xs') → Steps es xs es' xs'
    told None es' xs xs' content form due stays wrote = tt
    told (Some es) es' None xs' content form due stays wrote = tt
    told (Some es) (Some es') (Some xs) (Some xs') content form due stays wrote =
        both_told es es' xs xs' content form due (λ is. let (same_es, same_xs) = stays is in (cc, cc)) wrote
    told (Some es) None (Some xs) xs' content form due stays wrote = λ balanced run before event of_event next. absurd (by changed refl balanced) where
      by : (test : Bool) → changed ≡ test → IsBalanced es xs → ⊥
      by true is balanced = wrote is balanced
      by false is balanced = let lost : None ≡ Some es = (stays is).0 in cc
    told (Some es) (Some es') (Some xs) None content form due stays wrote = λ balanced run before event of_event next.
        absurd (by changed refl balanced) where
          by : (test : Bool) → changed ≡ test → IsBalanced es xs → ⊥
          by true is balanced = wrote is balanced
          by false is balanced = let lost : None ≡ Some xs = (stays is).1 in cc

    pub is_step : IfSome (elements_of new) IsContent → Answers → IsStep elements_of extents_of free_of asked old new answered
    is_step content answers =
        told (elements_of old) (elements_of new) (extents_of old) (extents_of new) content answers.form answers.due
        (λ is. ((answers.stays is).elements, (answers.stays is).extents)) answers.does

  pub each_step : (result : Result Answered Fault) → IfSome (elements_of new) IsContent → IfOk result Answers
      → IfOk result (IsStep elements_of extents_of free_of asked old new)
  each_step (Ok answered) content answers = is_step answered content answers
  each_step (Err fault) content answers = tt

  pub each_due : (result : Result Answered Fault) → IfOk result Answers → IfOk result (IsDueOver elements_of extents_of room_of free_of asked old)
  each_due (Ok answered) answers = answers.due
  each_due (Err fault) answers = tt

  pub each_form : (result : Result Answered Fault) → IfOk result Answers → IfOk result (IsFormOf asked.command)
  each_form (Ok answered) answers = answers.form
  each_form (Err fault) answers = tt

-- the last id is the one before the call's own
pub each_possible : (last : ℕ) (busy : Option ℕ) (command : Command) (result : Result Answered Fault)
    → IfOk result (λ answered. MayReply (last + 1 - 1) busy command (reply_in answered))
    → IfOk result (λ answered. MayReply last busy command (reply_in answered))
each_possible last busy command result may =
    let back : last + 1 - 1 ≡ last = omega arith in
    subst (λ (n : ℕ). IfOk result (λ answered. MayReply n busy command (reply_in answered))) back may

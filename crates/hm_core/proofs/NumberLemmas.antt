-- The numbers of pseudo file systems that a history tells are used in each volume after it.
use Rattle.std.proofs.Common.{◌≡◌, ℕ, Bool, true, false, List, [], ◌∷◌, ◌++◌, append-nil, append_assoc, max, refl, sym, ap, subst, ◌∙◌, inl, inr, arith}
use Rattle.std.specs.Prelude.{if◌then◌else◌}
use Rattle.std.proofs.lemmas.Bool.{cases_lt}
use Rattle.hm_types.specs.declared.fault.Fault.{Fault}
use Rattle.hm_types.specs.declared.fault.Fault.TheVariants.{Damaged as damage, Media as device, NoMemory as no_memory}
use Rattle.hm_model.specs.After.{Event}
use Rattle.hm_model.specs.Laws.{adds_pfs}
use Rattle.hm_model.specs.Legal.{IsLegal, Setting, entries_of, state_after}
use Rattle.hm_model.specs.declared.command.Command.{Command}
use Rattle.hm_model.specs.declared.entry.Entry.{Entry}
use Rattle.hm_model.specs.declared.reply.Reply.{Reply}
use Rattle.hm_model.specs.declared.reply.Reply.TheVariants.{Done, MadePfs}
use Rattle.hm_model.proofs.EventLemmas.{IsLegal-beginning, MayFollow-last}
use Rattle.hm_step.specs.Next.{UsedBelow}
use Rattle.hm_step.proofs.UsedLemmas.{made_used, stay_used}
use Rattle.hm_core.specs.Numbers.{made_in, numbers_by, numbers_told}
use Rattle.hm_core.specs.Told.{reply_to}

-- ---- what a history tells once an entry more stands in it

pub told_more : (history : List Entry) (entry : Entry) → numbers_told (history ++ entry ∷ []) ≡ max (numbers_told history) (numbers_by entry.call entry.reply)
told_more [] entry = omega arith
told_more (e ∷ es) entry =
    let rest = told_more es entry in
    let by_last : ℕ = numbers_by entry.call entry.reply in
    let by_first : ℕ = numbers_by e.call e.reply in
    omega (arith, rest)

-- a fault tells none
fault_made : (fault : Fault) → made_in (reply_to fault) ≡ 0
fault_made (device before after) = refl
fault_made (damage at kind) = refl
fault_made no_memory = refl

pub fault_tells_none : (command : Command) (fault : Fault) (reply : Reply) → reply ≡ reply_to fault → numbers_by command reply ≡ 0
fault_tells_none command fault reply is = by (adds_pfs command) (made_in reply) (ap made_in is ∙ fault_made fault) where
  by : (adds : Bool) (made : ℕ) → made ≡ 0 → (if adds then made else 0) ≡ 0
  by true made none = none
  by false made none = refl

-- nor does an opening
pub done_tells_none : (command : Command) → numbers_by command Done ≡ 0
done_tells_none command = by (adds_pfs command) where
  by : (adds : Bool) → (if adds then made_in Done else 0) ≡ 0
  by true = refl
  by false = refl

pub told_same : (history : List Entry) (entry : Entry) (numbers : ℕ) → numbers_by entry.call entry.reply ≡ 0 → numbers ≡ numbers_told history
    → numbers ≡ numbers_told (history ++ entry ∷ [])
told_same history entry numbers none told = (let more = told_more history entry in omega (arith, none, told, more))

-- ---- they are used

used_both : (run : Setting) (events : List Event) (a b : ℕ) → UsedBelow a (state_after run events).volume → UsedBelow b (state_after run events).volume
    → UsedBelow (max a b) (state_after run events).volume
used_both run events a b one other n less = elim (cases_lt n a) [
  | inl below ↦ one n below
  | inr not ↦ other n (omega (arith, less, not))
]

module _ (run : Setting) (before : List Event) (event : Event) (legal : IsLegal run (before ++ event ∷ [])) where
  used_by : (reply : Reply) → event.entry.reply ≡ reply → (adds : Bool) → adds_pfs event.entry.call ≡ adds
      → UsedBelow (if adds then made_in reply else 0) (state_after run (before ++ event ∷ [])).volume
  used_by (MadePfs number) is true adds = made_used run before event number adds is (MayFollow-last run before event legal)
  used_by other is true adds = λ n less. absurd (omega (arith, less))
  used_by reply is false adds = λ n less. absurd (omega (arith, less))

used_on : (run : Setting) (before rest : List Event) (numbers : ℕ) → IsLegal run (before ++ rest) → UsedBelow numbers (state_after run before).volume
    → UsedBelow (max numbers (numbers_told (entries_of rest))) (state_after run (before ++ rest)).volume
used_on run before [] numbers legal used =
    let none : max numbers 0 ≡ numbers = omega arith in
    subst (λ (l : List Event). UsedBelow (max numbers 0) (state_after run l).volume) (sym (append-nil before))
    (subst (λ (n : ℕ). UsedBelow n (state_after run before).volume) (sym none) used)
used_on run before (e ∷ es) numbers legal used =
    let order : (before ++ e ∷ []) ++ es ≡ before ++ e ∷ es = append_assoc before (e ∷ []) es in
    let all : IsLegal run ((before ++ e ∷ []) ++ es) = subst (IsLegal run) (sym order) legal in
    let here : UsedBelow (numbers_by e.entry.call e.entry.reply) (state_after run (before ++ e ∷ [])).volume =
    used_by run before e (IsLegal-beginning run (before ++ e ∷ []) es all) e.entry.reply refl (adds_pfs e.entry.call) refl in
    let both = used_both run (before ++ e ∷ []) numbers (numbers_by e.entry.call e.entry.reply) (stay_used run before e numbers used) here in
    let later = used_on run (before ++ e ∷ []) es (max numbers (numbers_by e.entry.call e.entry.reply)) all both in
    let told : ℕ = numbers_told (entries_of es) in
    let made : ℕ = numbers_by e.entry.call e.entry.reply in
    let count : max (max numbers made) told ≡ max numbers (max made told) = omega arith in
    subst (λ (l : List Event). UsedBelow (max numbers (max made told)) (state_after run l).volume) order
    (subst (λ (n : ℕ). UsedBelow n (state_after run ((before ++ e ∷ []) ++ es)).volume) count later)

pub used_told : (run : Setting) (events : List Event) → IsLegal run events
    → UsedBelow (numbers_told (entries_of events)) (state_after run events).volume
used_told run events legal =
    let none : max 0 (numbers_told (entries_of events)) ≡ numbers_told (entries_of events) = omega arith in
    subst (λ (n : ℕ). UsedBelow n (state_after run events).volume) none
    (used_on run [] events 0 legal (λ n less. absurd (omega (arith, less))))

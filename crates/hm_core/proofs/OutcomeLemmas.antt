-- What a call over a store came to, by its command.
use Rattle.std.proofs.Common.{◌≡◌, ℕ, List, sym, subst, ◌∙◌}
use Rattle.hm_model.specs.declared.command.Command.{Command}
use Rattle.hm_model.specs.declared.command.Command.TheVariants.{Reblock}
use Rattle.hm_calls.specs.Answered.{IsAnswerable}
use Rattle.hm_relocate.specs.Chosen.{Chooses}
use Rattle.hm_stored.specs.Heap.{Heap, maps_of}
use Rattle.hm_core.specs.Answer.{AnswersOver, reply_of_outcome, work_of}
use Rattle.hm_core.specs.Chosen.{BeginsBy}
use Rattle.hm_core.specs.Running.{IfOpened, choice_of_work}
use Rattle.hm_core.specs.declared.outcome.Outcome.{Outcome}
use Rattle.hm_core.specs.declared.outcome.Outcome.TheVariants.{Opened, Replied}

-- what a store answers begins with no choice
pub no_choice : (command : Command) (h : Heap) (outcome : Outcome) → IsAnswerable command
    → IfOpened outcome (λ work. BeginsBy command h (choice_of_work work))
no_choice command h (Replied reply) answers = tt
no_choice command h (Opened work) answers = λ fill is. absurd (subst IsAnswerable is answers)

pub reblock_answers : (numbers boundary faults faults' last : ℕ) (command : Command) (fill : ℕ) (h h' : Heap) (root root' : ℕ) (outcome : Outcome)
    → command ≡ Reblock fill
    → AnswersOver numbers boundary faults faults' last (Reblock fill) h h' root root' (reply_of_outcome outcome) (work_of outcome)
    → AnswersOver numbers boundary faults faults' last command h h' root root' (reply_of_outcome outcome) (work_of outcome)
reblock_answers numbers boundary faults faults' last command fill h h' root root' outcome is =
    subst (λ (c : Command). AnswersOver numbers boundary faults faults' last c h h' root root' (reply_of_outcome outcome) (work_of outcome)) (sym is)

pub reblock_begins : (command : Command) (fill : ℕ) (h : Heap) (outcome : Outcome) → command ≡ Reblock fill
    → IfOpened outcome (λ work. BeginsBy (Reblock fill) h (choice_of_work work)) → IfOpened outcome (λ work. BeginsBy command h (choice_of_work work))
reblock_begins command fill h (Replied reply) is begins = tt
reblock_begins command fill h (Opened work) is begins = λ other same. begins other (sym is ∙ same)

-- a reblock with what was chosen begins by its command
pub begins_with : (fill : ℕ) (h : Heap) (chosen choice : List ℕ) → choice ≡ chosen → Chooses fill h.bigblocks h.append (maps_of h) chosen
    → BeginsBy (Reblock fill) h choice
begins_with fill h chosen choice is chooses other same =
    let filled : fill ≡ other = cc in
    subst (λ (x : ℕ × List ℕ). Chooses x.0 h.bigblocks h.append (maps_of h) x.1) (λ i. (filled i, sym is i)) chooses

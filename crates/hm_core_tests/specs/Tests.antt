-- What the tests keep of a core.
use Rattle.std.specs.Prelude.{ℕ, Bool, false, true, List, All, ◌==◌, if◌then◌else◌}
use Rattle.hm_core.specs.Jobs.{IsOpenJob}
use Rattle.hm_core.specs.State.{CoreState}
use Rattle.hm_core.specs.declared.ticket.Ticket.{Ticket}

-- each call that was open is so still
abbrev pub KeepsOpen : CoreState → CoreState → Type 0
KeepsOpen old new = (opening : ℕ) → IsOpenJob opening old → IsOpenJob opening new

-- the calls that these tickets name are open
abbrev pub NameOpenCalls : CoreState → List Ticket → Type 0
NameOpenCalls core tickets = All (λ (ticket : Ticket). IsOpenJob ticket.opening.0 core) tickets

-- a ticket names another call than the one that was opened by this id
abbrev pub is_other : ℕ → Ticket → Bool
is_other opening ticket = if ticket.opening.0 == opening then false else true

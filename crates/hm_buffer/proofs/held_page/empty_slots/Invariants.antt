use Rattle.hm_buffer.specs.Held.{HasNone}
use Rattle.hm_buffer.proofs.held_page.empty_slots.Given as goal

abbrev pub invariant-loop : goal.invariant-loop
invariant-loop l = HasNone l.slots.items

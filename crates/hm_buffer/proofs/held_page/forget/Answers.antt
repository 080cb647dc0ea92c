-- The pages of a range, one after another.
use Rattle.std.proofs.Common.{◌/◌, ℕ, subst}
use Rattle.hm_buffer.specs.Held.{Empties}
use Rattle.hm_buffer.proofs.HeldLemmas.{one_more}
use Rattle.hm_buffer.proofs.held_page.forget.Goals as goal

pub loop-k-preserved : goal.loop-k-preserved
loop-k-preserved c =
    one_more (c.args.place / 4096) c.loop-k.k c.args.slots.now.items c.loop-k.slots.items c.empty.new.slots.items c.requires.placed
    (subst (λ (s : ℕ). Empties s c.loop-k.slots.items c.empty.new.slots.items) c.slot_of.ensures c.empty.ensures) c.loop-k.invariant

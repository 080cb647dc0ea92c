-- Whether a call may be kept.
use Rattle.std.proofs.Common.{◌∙◌, sym, true≢false}
use Rattle.hm_stored.specs.Heap.{heap_of}
use Rattle.hm_stored.proofs.stored.Stored.can_keep.Goals as goal

pub returns-then-is_whole : goal.returns-then-is_whole
unfolding heap_of
returns-then-is_whole g c = (
  λ is. record { whole = sym c.is_whole.ensures ∙ c.if-is_whole.true; root_is = c.is_tree_place.ensures.0 is },
  λ keepable. c.is_tree_place.ensures.1 keepable.root_is,
)

pub returns-else-is_whole : goal.returns-else-is_whole
unfolding heap_of
returns-else-is_whole g c = (
  λ is. absurd (true≢false (sym is ∙ c.if-is_whole.false)),
  λ keepable. c.is_whole.ensures ∙ keepable.whole,
)

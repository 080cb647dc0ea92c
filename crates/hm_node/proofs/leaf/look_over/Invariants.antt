use Rattle.std.proofs.Common.{◌≡◌, ℕ, ◌-◌, ◌<◌, IsTrue, ◌↔◌}
use Rattle.std.specs.List.Sorted.{IsStrictlySortedBy}
use Rattle.hm_node.specs.Base.{base_in, base_cmp}
use Rattle.hm_node.specs.Places.{place, bases_in}
use Rattle.hm_node.specs.Leaf.{element_in, ArePlaces, IsUpTo}
use Rattle.hm_node.proofs.leaf.look_over.Given as goal

-- the places that were passed keep their order and fields, and `before` is the base of the last of them
abbrev pub invariant-loop-i : goal.invariant-loop-i
invariant-loop-i l = record {
  last : 0 < l.i → l.before ≡ base_in l.page (place (l.i - 1));
  rising : IsStrictlySortedBy base_cmp (bases_in l.page l.i);
  places : ArePlaces l.page l.i;
  within : IsTrue l.within ↔ ((k : ℕ) → k < l.i → IsUpTo l.mirror (element_in l.page (place k)));
}

use Rattle.std.proofs.Common.{◌≡◌, ℕ, ◌+◌, ◌<◌, ◌≤◌, IsTrue, ◌↔◌}
use Rattle.std.specs.List.Sorted.{IsStrictlySortedBy}
use Rattle.hm_node.specs.Base.{base_in, base_cmp}
use Rattle.hm_node.specs.Places.{place, bases_in}
use Rattle.hm_node.specs.Inner.{child_in, AreChildPlaces}
use Rattle.hm_node.proofs.inner.look_over.Given as goal

-- the places that were passed keep their order and fields, and `left` is the base of the next one
abbrev pub invariant-loop-i : goal.invariant-loop-i
invariant-loop-i l = record {
  next : l.left ≡ base_in l.page (place l.i);
  rising : IsStrictlySortedBy base_cmp (bases_in l.page (l.i + 1));
  places : AreChildPlaces l.page l.i;
  within : IsTrue l.within ↔ ((k : ℕ) → k < l.i → (child_in l.page (place k)).mirror ≤ l.mirror);
}

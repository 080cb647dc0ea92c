use Rattle.std.proofs.Common.{◌≡◌, ◌-◌, ◌<◌}
use Rattle.std.specs.List.Sorted.{IsStrictlySortedBy}
use Rattle.hm_node.specs.Base.{base_in, base_cmp}
use Rattle.hm_node.specs.Places.{place, bases_in}
use Rattle.hm_node.proofs.places.are_rising.Given as goal

-- the bases that were read are in order, and `before` is the last of them
abbrev pub invariant-loop-i : goal.invariant-loop-i
invariant-loop-i l = record {
  last : 0 < l.i → l.before ≡ base_in l.page (place (l.i - 1));
  rising : IsStrictlySortedBy base_cmp (bases_in l.page l.i);
}

use Rattle.std.proofs.Common.{◌≤◌}
use Rattle.hm_key.specs.Key.{key_of}
use Rattle.hm_node.specs.Inner.{inner_in}
use Rattle.hm_search.specs.Descent.{levels_below, Reads}
use Rattle.hm_btree.proofs.ChoiceLemmas.{NoneTold}
use Rattle.hm_btree.proofs.node_in.+first_in.Given as goal

abbrev pub decreases-first_in : goal.decreases-first_in
decreases-first_in g l = levels_below l.place.now

-- none of the nodes below the first children
abbrev pub invariant-loop-i : goal.invariant-loop-i
invariant-loop-i g l = record {
  same : Reads g.P.Counted.name g.P.Counted.frame g.P.Pages.rest g.P.Pages.pages l.fn.pages l.pages;
  counted : g.P.Counted.faults l.fn.pages ≤ g.P.Counted.faults l.pages;
  none : NoneTold l.chosen (key_of l.from) (g.P.Pages.pages l.fn.pages) l.place (inner_in l.page) l.i;
}

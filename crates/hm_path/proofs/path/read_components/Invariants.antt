use Rattle.std.proofs.Common.{◌≡◌, map}
use Rattle.hm_path.specs.Path.{SpellsParts, offset_after}
use Rattle.hm_path.proofs.path.read_components.Given as goal

abbrev pub invariant-loop-text : goal.invariant-loop-text
invariant-loop-text l = record {
  good : SpellsParts (map (λ t. t.now) l.yielded) l.parts.items;
  place_is : l.place ≡ offset_after (map (λ t. t.now) l.yielded);
}

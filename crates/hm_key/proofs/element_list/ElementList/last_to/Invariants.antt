use Rattle.std.proofs.Common.{◌≡◌, drop}
use Rattle.std.specs.Option.{option_or}
use Rattle.hm_key.specs.Key.{key_of}
use Rattle.hm_key.specs.Elements.{last_to}
use Rattle.hm_key.proofs.element_list.ElementList.last_to.Given as goal

-- what is left of the list decides, and else the last of those that were looked at
abbrev pub invariant-loop-element : goal.invariant-loop-element
invariant-loop-element l =
    last_to (key_of l.at) l.self.list.items ≡ option_or (last_to (key_of l.at) (drop l.element-index l.self.list.items)) l.last

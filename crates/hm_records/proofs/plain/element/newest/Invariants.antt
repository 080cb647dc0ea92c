use Rattle.std.proofs.Common.{take}
use Rattle.std.specs.Option.{option_copied}
use Rattle.hm_records.specs.PlainView.{IsNewestSince}
use Rattle.hm_records.proofs.plain.element.newest.Given as goal

-- it is the newest of those that were looked at
abbrev pub invariant-loop-element : goal.invariant-loop-element
invariant-loop-element l = IsNewestSince (take l.element-index l.elements) l.id l.subject (option_copied l.newest) l.since

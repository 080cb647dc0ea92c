use Rattle.std.proofs.Common.{◌≡◌, ◌-◌, ◌≤◌, length, take}
use Rattle.hm_model.specs.Lines.{texts_of}
use Rattle.hm_script.proofs.LineLemmas.{IsEnded}
use Rattle.hm_script.proofs.lines.first_lines.Given as goal

-- whole lines were passed, so many
abbrev pub invariant-lines : goal.invariant-lines
invariant-lines l = record {
  within : l.end ≤ length l.script;
  ended : IsEnded (take l.end l.script);
  fewer : l.left ≤ l.count;
  passed : length (texts_of (take l.end l.script)) ≡ l.count - l.left;
}

abbrev pub decreases-lines : goal.decreases-lines
decreases-lines l = l.left

use Rattle.std.proofs.Common.{◌≡◌, ◌≤◌, ◌+◌, ◌-◌, ◌<◌, length, vec_len}
use Rattle.hm_types.specs.declared.limits.TheConstants.{MOST_SCRIPT_BYTES}
use Rattle.hm_pipe.specs.Pipe.{Gives}
use Rattle.hm_model.specs.Lines.{texts_of}
use Rattle.hm_shell.specs.Reading.{feeds}
use Rattle.hm_shell.proofs.read.read_script.Given as goal

-- the script so far is what the source gave, and its lines were counted
abbrev pub invariant-reading : goal.invariant-reading
invariant-reading g l =
    Gives (g.S.Source.left l.fn.source) l.script.items (g.S.Source.left l.source)
    × (g.S.Source.faults l.fn.source ≤ g.S.Source.faults l.source)
    × (0 < vec_len l.piece)
    × (l.feeds ≡ feeds l.script.items)
    × (l.lines ≡ length (texts_of l.script.items))

abbrev pub decreases-reading : goal.decreases-reading
decreases-reading g l = MOST_SCRIPT_BYTES + 1 - vec_len l.script

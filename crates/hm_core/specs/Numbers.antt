-- Which numbers of pseudo file systems are used, as far as a history tells.
use Rattle.std.specs.Prelude.{ℕ, ◌+◌, List, [], ◌∷◌, max, if◌then◌else◌}
use Rattle.hm_model.specs.Laws.{adds_pfs}
use Rattle.hm_model.specs.declared.command.Command.{Command}
use Rattle.hm_model.specs.declared.entry.Entry.{Entry}
use Rattle.hm_model.specs.declared.reply.Reply.{Reply}
use Rattle.hm_model.specs.declared.reply.Reply.TheVariants.{MadePfs}

-- all numbers below this one are used, by a reply that tells the number of a new PFS
abbrev pub made_in : Reply → ℕ
made_in (MadePfs number) = number.0 + 1
made_in other = 0

-- by a call with such a reply
abbrev pub numbers_by : Command → Reply → ℕ
numbers_by command reply = if adds_pfs command then made_in reply else 0

-- by all entries of a history
abbrev pub numbers_told : List Entry → ℕ
numbers_told [] = 0
numbers_told (e ∷ es) = max (numbers_by e.call e.reply) (numbers_told es)

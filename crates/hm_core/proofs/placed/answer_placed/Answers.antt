-- Where no place is found for what a call may open, the call is refused.
use Rattle.hm_core.proofs.PlaceLemmas.{no_place}
use Rattle.hm_stored.specs.Space.{heap}
use Rattle.hm_core.proofs.placed.answer_placed.Goals as goal

pub returns-in-Err-clause-answers : goal.returns-in-Err-clause-answers
returns-in-Err-clause-answers g c =
    let s = c.args.stored.now in
    no_place c.args.numbers c.args.flusher.now.header.last.0 (g.D.Disk.faults s.space.disk) c.args.last.0 c.args.command.now (heap s.space) s.root
    c.requires.asked.served c.requires.closed c.requires.left

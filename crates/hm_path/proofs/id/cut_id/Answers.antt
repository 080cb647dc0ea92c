use Rattle.std.proofs.Common.{refl, arith}
use Rattle.hm_path.proofs.IdLemmas.{no_id_at_end}
use Rattle.hm_path.proofs.id.cut_id.Goals as goal

pub returns-in-None : goal.returns-in-None
returns-in-None c =
    (refl, no_id_at_end c.args.text.now c.in-Some.start (omega (arith, c.in-Some.ensures)) c.in-None.ensures)

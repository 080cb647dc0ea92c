use Rattle.std.proofs.Common.{length, rules}
use Rattle.hm_files.proofs.ByteLemmas.{part_fetched, part_of_fetched}
use Rattle.hm_files.proofs.read.read_payload_from.Goals as goal

pub returns-then-skip-eq0-clause-ok : goal.returns-then-skip-eq0-clause-ok
returns-then-skip-eq0-clause-ok g c =
    part_fetched (g.T.HasRoom.extents c.args.store.now) c.args.element.now c.args.skip (length c.args.buffer.now) c.fetch.result _
    c.requires.inside c.requires.held (rw c.if-skip-eq0.true c.fetch.ensures.ok)

pub returns-clause-ok : goal.returns-clause-ok
returns-clause-ok g c =
    part_of_fetched (g.T.HasRoom.extents c.args.store.now) c.args.element.now c.args.skip (length c.args.buffer.now) _ c.fetch-2.new.buf _
    c.requires.inside (search rules) c.copy_rest.ensures c.requires.held c.in_ok-fetch.ensures.ok

-- The first bytes of an extent are read.
use Rattle.std.proofs.Common.{arith}
use Rattle.hm_pages.specs.Store.{contents}
use Rattle.hm_stored.proofs.FetchLemmas.{fetch_answers, fetch_bad, fetch_within}
use Rattle.hm_stored.proofs.space.Space.fetch.Goals as goal

pub returns-then-byte-buf-clause-cause : goal.returns-then-byte-buf-clause-cause
returns-then-byte-buf-clause-cause g c =
    let s = c.args.self.now in
    fetch_bad (contents s.pages.store) (g.D.Disk.told s.disk) s.books c.args.at c.args.buf.now c.args.buf.now s.kept
    (g.D.Disk.faults s.disk) 6 c.requires.live
    (omega (arith, c.if-byte-buf.true, c.byte.ensures.value, c.from-size.ensures))

pub read-requires-clause-within : goal.read-requires-clause-within
read-requires-clause-within g c =
    let s = c.args.self.now in
    fetch_within (contents s.pages.store) (g.D.Disk.told s.disk) s.books _ s.kept
    (omega (arith, c.if-byte-buf.false, c.byte.ensures.value, c.byte-2.ensures.value, c.from-size.ensures))

pub returns-clause-ok : goal.returns-clause-ok
returns-clause-ok g c =
    let s = c.args.self.now in
    fetch_answers (contents s.pages.store) (g.D.Disk.told s.disk) s.books c.args.at c.args.buf.now c.read.new.buf s.kept
    c.byte-2.result c.byte-2.ensures.value c.read.result c.requires.live c.read.ensures.ok

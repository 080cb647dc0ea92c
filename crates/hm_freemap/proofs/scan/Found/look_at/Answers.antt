use Rattle.std.proofs.Common.{◌≡◌, false}
use Rattle.hm_freemap.proofs.ScanLemmas.{finds_none}
use Rattle.hm_freemap.proofs.scan.Found.look_at.Goals as goal

pub returns-in-Some-false-clause-ok : goal.returns-in-Some-false-clause-ok
returns-in-Some-false-clause-ok c free blocks is finds =
    let none : free c.args.block ≡ false = cc (is, c.in-Some-false.ensures.value) in
    finds_none free c.args.limit blocks c.args.block c.args.self.now none finds

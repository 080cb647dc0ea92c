use Rattle.hm_header.specs.OnDisk.{HasFault, HasHeader}
use Rattle.hm_header.proofs.AnswerLemmas.{IfErr-told, IfOk-told, IfSome-both}
use Rattle.hm_header.proofs.read.read_header.Goals as goal

pub returns-clause-chosen : goal.returns-clause-chosen
returns-clause-chosen g c =
    let told = g.D.Disk.told c.args.disk.now in
    let read = c.in_ok-size.ensures in
    IfOk-told told _ (λ answer t. HasHeader t.bytes answer.0 answer.1)
    (IfSome-both told _ _ _ (λ t is same. c.choose_header.ensures.chosen t.bytes is same) read.size read.ok)

pub returns-clause-none : goal.returns-clause-none
returns-clause-none g c =
    let told = g.D.Disk.told c.args.disk.now in
    let read = c.in_ok-size.ensures in
    IfErr-told told _ (λ fault t. HasFault t.bytes fault)
    (IfSome-both told _ _ _ (λ t is same. c.choose_header.ensures.err t.bytes is same) read.size read.ok)

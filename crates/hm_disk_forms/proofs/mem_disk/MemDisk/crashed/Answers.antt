use Rattle.std.proofs.Common.{◌≡◌, ◌<◌, ◌∙◌, ℕ, ap, sym, subst, arith, length, get_or, take}
use Rattle.std.proofs.lemmas.List.Elements.{All-get_or}
use Rattle.hm_disk.specs.Crash.{Told}
use Rattle.hm_disk_forms.specs.MemDisk.{DiskState, FitsIn, MayLeaveAfter, told_of}
use Rattle.hm_disk_forms.specs.declared.change.Change.{Change}
use Rattle.hm_disk_forms.proofs.CrashedLemmas.{crashed-more, told-settled}
use Rattle.hm_disk_forms.proofs.SoundLemmas.{length-told}
use Rattle.hm_disk_forms.proofs.mem_disk.MemDisk.crashed.Goals as goal

pub replay_write-requires-clause-fits : goal.replay_write-requires-clause-fits
replay_write-requires-clause-fits c =
    let old = c.args.self.now in
    let size = c.self.inside.size in
    let changes = c.self.inside.changes.items in
    let index = c.loop-index.index in
    let change = c.index.result.now in
    let below : index < length changes =
    omega (arith, c.requires, c.loop-index-test.true, ap (λ (d : DiskState). length d.changes) c.self.view_is) in
    let same : length (told_of c.loop-index.disk).bytes ≡ size =
    c.loop-index.invariant.size ∙ (length-told old.size (take index old.changes) ∙ sym (ap (λ (d : DiskState). d.size) c.self.view_is)) in
    subst (λ (n : ℕ). FitsIn n change) (sym same)
    (subst (λ (one : Change). FitsIn size one) (sym c.index.ensures) (All-get_or (FitsIn size) changes index change below c.self.invariant.fit))

pub loop-index-preserved : goal.loop-index-preserved
loop-index-preserved c =
    let old = c.args.self.now in
    let index = c.loop-index.index in
    let change = c.index.result.now in
    let below : index < length old.changes = omega (arith, c.requires, c.loop-index-test.true) in
    let is : get_or old.changes index change ≡ change =
    sym (c.index.ensures ∙ ap (λ (d : DiskState). get_or d.changes index change) c.self.view_is) in
    crashed-more old.size old.changes index change (told_of c.loop-index.disk).bytes (told_of c.replay_write.new.self).bytes below is
    c.in_ok-replay_write.ensures c.loop-index.invariant

pub returns-clause-sized : goal.returns-clause-sized
returns-clause-sized c =
    let old = c.args.self.now in
    ap (λ (told : Told). length told.bytes) (told-settled c.loop-index.disk c.settle.new.self c.in_ok-settle.ensures.ok)
    ∙ (c.loop-index.invariant.size ∙ (length-told old.size (take c.loop-index.index old.changes) ∙ sym (length-told old.size old.changes)))

pub returns-clause-settled : goal.returns-clause-settled
returns-clause-settled c = ap (λ (told : Told). told.unsettled) (told-settled c.loop-index.disk c.settle.new.self c.in_ok-settle.ensures.ok)

pub returns-clause-left_then : goal.returns-clause-left_then
returns-clause-left_then c =
    let end : c.loop-index.index ≡ c.args.count =
    omega (arith, c.loop-index-test.false, c.loop-index.auto.index, c.loop-index.auto.index-end, c.settled-settled.ensures.within) in
    subst (MayLeaveAfter c.args.count c.args.self.now)
    (sym (ap (λ (told : Told). told.bytes) (told-settled c.loop-index.disk c.settle.new.self c.in_ok-settle.ensures.ok)))
    (subst (λ (n : ℕ). MayLeaveAfter n c.args.self.now (told_of c.loop-index.disk).bytes) end c.loop-index.invariant)

pub returns-clause-left : goal.returns-clause-left
returns-clause-left c = λ moment early. (c.args.count, c.requires, early, returns-clause-left_then c)

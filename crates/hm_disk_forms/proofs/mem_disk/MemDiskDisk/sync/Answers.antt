use Rattle.std.proofs.Common.{◌∙◌, ap}
use Rattle.hm_disk_forms.specs.MemDisk.{DiskState, with_calls, with_change}
use Rattle.hm_disk_forms.specs.declared.change.Change.TheVariants.{Sync}
use Rattle.hm_disk_forms.proofs.MemLemmas.{Synced-sync, SyncElapses-sync}
use Rattle.hm_disk_forms.proofs.mem_disk.MemDiskDisk.sync.Goals as goal

pub returns-in-Ok-clause-ok : goal.returns-in-Ok-clause-ok
returns-in-Ok-clause-ok c =
    let is = c.in-Ok.ensures.ok ∙ ap (λ (d : DiskState). with_change (with_calls d c.begin.new.self) Sync) c.self.view_is in
    Synced-sync c.args.self.now c.settle.new.self (ap (λ (d : DiskState). d.size) is) (ap (λ (d : DiskState). d.changes) is)

pub returns-in-Ok-clause-any_moment : goal.returns-in-Ok-clause-any_moment
returns-in-Ok-clause-any_moment c =
    let is = c.in-Ok.ensures.ok ∙ ap (λ (d : DiskState). with_change (with_calls d c.begin.new.self) Sync) c.self.view_is in
    SyncElapses-sync c.args.self.now c.settle.new.self (ap (λ (d : DiskState). d.size) is) (ap (λ (d : DiskState). d.changes) is)

use Rattle.std.proofs.Common.{◌+◌, ◌≤◌, length}
use Rattle.hm_disk.specs.Crash.{Told}
use Rattle.hm_disk.specs.Moments.{WriteElapses}
use Rattle.hm_disk.specs.Transfer.{WrittenAll}
use Rattle.hm_disk.proofs.DiskLemmas.{BothTell-and, BothTell-then}
use Rattle.hm_disk.proofs.TransferLemmas.{WriteElapses-synced}
use Rattle.hm_disk.proofs.transfer.write_synced.Goals as goal

pub returns-clause-any_moment : goal.returns-clause-any_moment
returns-clause-any_moment g c =
    let place = c.args.place in
    let bytes = c.args.bytes.now in
    let old = g.D.Disk.told c.args.disk.now in
    let told = g.D.Disk.told c.write_all_at.new.disk in
    let past = g.D.Disk.left_since c.args.disk.now in
    let middle = g.D.Disk.left_since c.write_all_at.new.disk in
    let since = g.D.Disk.left_since c.sync.new.self in
    let written = c.in_ok-write_all_at.ensures in
    BothTell-then old told (g.D.Disk.told c.sync.new.self) (λ t. place + length bytes ≤ length t.bytes)
    (λ (s t : Told). WrittenAll place bytes s t × WriteElapses place (length bytes) past middle s t) _ _
    (λ s t u fits first then. WriteElapses-synced place bytes past middle since s t u fits first.0 first.1 then)
    c.requires.within (BothTell-and old told _ _ written.ok written.any_moment) c.sync.ensures.any_moment

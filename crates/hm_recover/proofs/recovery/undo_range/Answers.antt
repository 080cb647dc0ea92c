use Rattle.std.proofs.Common.{◌≡◌, ℕ, ◌-◌, ap, refl, subst}
use Rattle.std.proofs.lemmas.Result.{err_from_is_err_and}
use Rattle.hm_types.specs.Told.{BothTell}
use Rattle.hm_disk.specs.Moments.{SyncElapses}
use Rattle.hm_disk.proofs.DiskLemmas.{BothTell-and, BothTell-map, BothTell-then}
use Rattle.hm_header.specs.Change.{ChangeElapses, Changes, ChangeFailed}
use Rattle.hm_undo.specs.Recovered.{recovered_header}
use Rattle.hm_recover.specs.Put.{MayPutAll}
use Rattle.hm_recover.specs.Recovery.{IsRangeReady, KeepsRecovery}
use Rattle.hm_recover.proofs.AnswerLemmas.{IfSome-unit, told-bytes}
use Rattle.hm_recover.proofs.RecoverLemmas.{after-change, after-changed, after-counts, after-sync, changes-made, put-keeps, sync-keeps}
use Rattle.hm_recover.proofs.recovery.undo_range.Goals as goal

pub returns-in_err-put_back-clause-any_moment : goal.returns-in_err-put_back-clause-any_moment
returns-in_err-put_back-clause-any_moment g c =
    let past = g.D.Disk.left_since c.args.disk.now in
    let since = g.D.Disk.left_since c.put_back.new.disk in
    BothTell-map (g.D.Disk.told c.args.disk.now) (g.D.Disk.told c.put_back.new.disk) (IsRangeReady c.args.header.now c.args.slot)
    (MayPutAll c.args.header.now past since) (KeepsRecovery past since)
    (λ s t ready put. put-keeps c.args.header.now c.args.slot c.requires.slot past s ready since t put) c.requires.ready c.in_err-put_back.ensures.any_moment

pub returns-in_err-settle-clause-any_moment : goal.returns-in_err-settle-clause-any_moment
returns-in_err-settle-clause-any_moment g c =
    let past = g.D.Disk.left_since c.args.disk.now in
    let middle = g.D.Disk.left_since c.put_back.new.disk in
    let since = g.D.Disk.left_since c.settle.new.disk in
    let told = g.D.Disk.told c.put_back.new.disk in
    let new = g.D.Disk.told c.settle.new.disk in
    BothTell-then (g.D.Disk.told c.args.disk.now) told new (IsRangeReady c.args.header.now c.args.slot) (MayPutAll c.args.header.now past middle)
    (λ t u. (u.bytes ≡ t.bytes) × SyncElapses middle since t u) (KeepsRecovery past since)
    (λ s t u ready put then. sync-keeps c.args.header.now c.args.slot c.requires.slot past s ready middle since t u put then.0 then.1)
    c.requires.ready c.in_ok-put_back.ensures.any_moment
    (BothTell-and told new _ _ (told-bytes told new c.in_err-settle.ensures.err) c.in_err-settle.ensures.any_moment)

pub change_header-requires-clause-before : goal.change_header-requires-clause-before
change_header-requires-clause-before g c =
    let past = g.D.Disk.left_since c.args.disk.now in
    let middle = g.D.Disk.left_since c.put_back.new.disk in
    let since = g.D.Disk.left_since c.settle.new.disk in
    after-counts c.args.header.now c.args.slot c.requires.slot past since (g.D.Disk.told c.args.disk.now) (g.D.Disk.told c.settle.new.disk) c.requires.ready
    (after-sync c.args.header.now c.args.slot c.requires.slot past middle since (g.D.Disk.told c.args.disk.now) (g.D.Disk.told c.put_back.new.disk)
    (g.D.Disk.told c.settle.new.disk) c.requires.ready c.in_ok-put_back.ensures.ok c.in_ok-put_back.ensures.any_moment
    c.in_ok-settle.ensures.ok c.in_ok-settle.ensures.any_moment)

pub returns-in_err-change_header-clause-err : goal.returns-in_err-change_header-clause-err
returns-in_err-change_header-clause-err g c =
    let p = err_from_is_err_and c.from_residual-in_err-change_header.result c.from_residual-in_err-change_header.ensures.1 in
    rw (p.1, p.2) (IfSome-unit (g.D.Disk.told c.args.disk.now))

pub returns-in_err-change_header-clause-any_moment : goal.returns-in_err-change_header-clause-any_moment
returns-in_err-change_header-clause-any_moment g c =
    let header = c.args.header.now in
    let slot = c.args.slot in
    let past = g.D.Disk.left_since c.args.disk.now in
    let first = g.D.Disk.left_since c.put_back.new.disk in
    let middle = g.D.Disk.left_since c.settle.new.disk in
    let since = g.D.Disk.left_since c.change_header.new.disk in
    let old = g.D.Disk.told c.args.disk.now in
    let told = g.D.Disk.told c.settle.new.disk in
    let new = g.D.Disk.told c.change_header.new.disk in
    let after = after-sync header slot c.requires.slot past first middle old (g.D.Disk.told c.put_back.new.disk) told c.requires.ready
    c.in_ok-put_back.ensures.ok c.in_ok-put_back.ensures.any_moment c.in_ok-settle.ensures.ok c.in_ok-settle.ensures.any_moment in
    let failed = c.in_err-change_header.ensures in
    after-change header slot c.requires.slot past middle since old told new c.requires.ready after
    (subst (λ (n : ℕ). BothTell told new (ChangeFailed header slot (record header { generation = n; undo_count = 0 }))) c.next_generation.ensures failed.err)
    (subst (λ (n : ℕ). BothTell told new (ChangeElapses header slot (record header { generation = n; undo_count = 0 }) middle since)) c.next_generation.ensures
    failed.any_moment)

pub returns-clause-ok : goal.returns-clause-ok
returns-clause-ok g c =
    let header = c.args.header.now in
    let slot = c.args.slot in
    let past = g.D.Disk.left_since c.args.disk.now in
    let first = g.D.Disk.left_since c.put_back.new.disk in
    let middle = g.D.Disk.left_since c.settle.new.disk in
    let since = g.D.Disk.left_since c.change_header.new.disk in
    let old = g.D.Disk.told c.args.disk.now in
    let told = g.D.Disk.told c.settle.new.disk in
    let new = g.D.Disk.told c.change_header.new.disk in
    let after = after-sync header slot c.requires.slot past first middle old (g.D.Disk.told c.put_back.new.disk) told c.requires.ready
    c.in_ok-put_back.ensures.ok c.in_ok-put_back.ensures.any_moment c.in_ok-settle.ensures.ok c.in_ok-settle.ensures.any_moment in
    after-changed header slot c.requires.slot past middle since
    (record { header = record header { generation = c.next_generation.result; undo_count = 0 }; slot = 1 - slot }) old told new
    (ap (λ (n : ℕ). record header { generation = n; undo_count = 0 }) c.next_generation.ensures) refl c.requires.ready after
    (subst (λ (n : ℕ). BothTell told new (Changes (record header { generation = n; undo_count = 0 }) (1 - slot))) c.next_generation.ensures
    c.in_ok-change_header.ensures.ok)

pub returns-clause-any_moment : goal.returns-clause-any_moment
returns-clause-any_moment g c =
    let header = c.args.header.now in
    let slot = c.args.slot in
    let past = g.D.Disk.left_since c.args.disk.now in
    let first = g.D.Disk.left_since c.put_back.new.disk in
    let middle = g.D.Disk.left_since c.settle.new.disk in
    let since = g.D.Disk.left_since c.change_header.new.disk in
    let old = g.D.Disk.told c.args.disk.now in
    let told = g.D.Disk.told c.settle.new.disk in
    let new = g.D.Disk.told c.change_header.new.disk in
    let after = after-sync header slot c.requires.slot past first middle old (g.D.Disk.told c.put_back.new.disk) told c.requires.ready
    c.in_ok-put_back.ensures.ok c.in_ok-put_back.ensures.any_moment c.in_ok-settle.ensures.ok c.in_ok-settle.ensures.any_moment in
    let done = c.in_ok-change_header.ensures in
    let changes : BothTell told new (Changes (recovered_header header) (1 - slot)) =
    subst (λ (n : ℕ). BothTell told new (Changes (record header { generation = n; undo_count = 0 }) (1 - slot))) c.next_generation.ensures done.ok in
    after-change header slot c.requires.slot past middle since old told new c.requires.ready after
    (changes-made header slot c.requires.slot told new changes)
    (subst (λ (n : ℕ). BothTell told new (ChangeElapses header slot (record header { generation = n; undo_count = 0 }) middle since)) c.next_generation.ensures
    done.any_moment)

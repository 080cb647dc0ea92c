use Rattle.std.proofs.Common.{ℕ, ◌-◌, List, length, subst}
use Rattle.hm_types.specs.Told.{BothTell}
use Rattle.hm_disk.specs.Moments.{WriteElapses}
use Rattle.hm_disk.specs.Transfer.{TornAll, WrittenSynced}
use Rattle.hm_disk.proofs.DiskLemmas.{BothTell-map}
use Rattle.hm_header.specs.Change.{AnyCrash, IsClosedBeside}
use Rattle.hm_header.specs.OnDisk.{slot_place}
use Rattle.hm_header.proofs.AnswerLemmas.{OnErr-map, OnOk-map}
use Rattle.hm_header.proofs.StageLemmas.{body-done, body-leaves, failed-write, write-elapses}
use Rattle.hm_header.proofs.change.write_body.Goals as goal

pub returns-clause-ok : goal.returns-clause-ok
returns-clause-ok g c =
    let told = g.D.Disk.told c.args.disk.now in
    let new = g.D.Disk.told c.write_synced.new.disk in
    OnOk-map _ _ _ (λ written. BothTell-map told new (AnyCrash (IsClosedBeside c.args.header.now c.args.slot)) _ _
    (λ s t safe first. body-done c.args.header.now c.args.slot c.requires.slot c.args.next.now s t safe first) c.requires.before
    (subst (λ (bs : List ℕ). BothTell told new (WrittenSynced (slot_place (1 - c.args.slot)) bs)) c.encode.ensures
    (subst (λ (place : ℕ). BothTell told new (WrittenSynced place c.encode.new.body)) c.slot_place.ensures written)))
    c.write_synced.ensures.ok

pub returns-clause-err : goal.returns-clause-err
returns-clause-err g c =
    let told = g.D.Disk.told c.args.disk.now in
    let new = g.D.Disk.told c.write_synced.new.disk in
    OnErr-map _ _ _ (λ torn. BothTell-map told new (AnyCrash (IsClosedBeside c.args.header.now c.args.slot)) _ _
    (λ s t safe first. failed-write (IsClosedBeside c.args.header.now c.args.slot) (slot_place (1 - c.args.slot)) 16383 s t
    (body-leaves c.args.header.now c.args.slot c.requires.slot s safe) first) c.requires.before
    (subst (λ (count : ℕ). BothTell told new (TornAll (slot_place (1 - c.args.slot)) count)) c.encode.array_long
    (subst (λ (place : ℕ). BothTell told new (TornAll place (length c.encode.new.body))) c.slot_place.ensures torn)))
    c.write_synced.ensures.err

pub returns-clause-any_moment : goal.returns-clause-any_moment
returns-clause-any_moment g c =
    let told = g.D.Disk.told c.args.disk.now in
    let new = g.D.Disk.told c.write_synced.new.disk in
    let past = g.D.Disk.left_since c.args.disk.now in
    let since = g.D.Disk.left_since c.write_synced.new.disk in
    BothTell-map told new (AnyCrash (IsClosedBeside c.args.header.now c.args.slot)) _ _
    (λ s t safe first. write-elapses (IsClosedBeside c.args.header.now c.args.slot) (slot_place (1 - c.args.slot)) 16383 past since s t
    (body-leaves c.args.header.now c.args.slot c.requires.slot s safe) first) c.requires.before
    (subst (λ (count : ℕ). BothTell told new (WriteElapses (slot_place (1 - c.args.slot)) count past since)) c.encode.array_long
    (subst (λ (place : ℕ). BothTell told new (WriteElapses place (length c.encode.new.body) past since)) c.slot_place.ensures
    c.write_synced.ensures.any_moment))

use Rattle.std.proofs.Common.{ℕ, ◌-◌, [], ◌∷◌, subst}
use Rattle.hm_types.specs.Told.{BothTell}
use Rattle.hm_disk.specs.Moments.{WriteElapses}
use Rattle.hm_disk.specs.Transfer.{TornAll, WrittenSynced}
use Rattle.hm_disk.proofs.DiskLemmas.{BothTell-map}
use Rattle.hm_header.specs.declared.header.TheConstants.{GATE_OPEN}
use Rattle.hm_header.specs.Change.{AnyCrash, HasNextBody}
use Rattle.hm_header.specs.OnDisk.{gate_place}
use Rattle.hm_header.proofs.AnswerLemmas.{OnErr-map, OnOk-map}
use Rattle.hm_header.proofs.StageLemmas.{failed-write, open-done, open-leaves, write-elapses}
use Rattle.hm_header.proofs.change.open_gate.Goals as goal

pub returns-clause-ok : goal.returns-clause-ok
returns-clause-ok g c =
    let r = c.requires in
    let told = g.D.Disk.told c.args.disk.now in
    let new = g.D.Disk.told c.write_synced.new.disk in
    OnOk-map _ _ _ (λ written. BothTell-map told new (AnyCrash (HasNextBody c.args.header.now c.args.slot c.args.next.now)) _ _
    (λ s t safe first. open-done c.args.header.now c.args.slot r.slot c.args.next.now r.next r.follows s t safe first) r.before
    (subst (λ (place : ℕ). BothTell told new (WrittenSynced place (GATE_OPEN ∷ []))) c.gate_place.ensures written))
    c.write_synced.ensures.ok

pub returns-clause-err : goal.returns-clause-err
returns-clause-err g c =
    let r = c.requires in
    let told = g.D.Disk.told c.args.disk.now in
    let new = g.D.Disk.told c.write_synced.new.disk in
    OnErr-map _ _ _ (λ torn. BothTell-map told new (AnyCrash (HasNextBody c.args.header.now c.args.slot c.args.next.now)) _ _
    (λ s t safe first. failed-write (HasNextBody c.args.header.now c.args.slot c.args.next.now) (gate_place (1 - c.args.slot)) 1 s t
    (open-leaves c.args.header.now c.args.slot r.slot c.args.next.now r.next r.follows s safe) first) r.before
    (subst (λ (place : ℕ). BothTell told new (TornAll place 1)) c.gate_place.ensures torn))
    c.write_synced.ensures.err

pub returns-clause-any_moment : goal.returns-clause-any_moment
returns-clause-any_moment g c =
    let r = c.requires in
    let told = g.D.Disk.told c.args.disk.now in
    let new = g.D.Disk.told c.write_synced.new.disk in
    let past = g.D.Disk.left_since c.args.disk.now in
    let since = g.D.Disk.left_since c.write_synced.new.disk in
    BothTell-map told new (AnyCrash (HasNextBody c.args.header.now c.args.slot c.args.next.now)) _ _
    (λ s t safe first. write-elapses (HasNextBody c.args.header.now c.args.slot c.args.next.now) (gate_place (1 - c.args.slot)) 1 past since s t
    (open-leaves c.args.header.now c.args.slot r.slot c.args.next.now r.next r.follows s safe) first) r.before
    (subst (λ (place : ℕ). BothTell told new (WriteElapses place 1 past since)) c.gate_place.ensures c.write_synced.ensures.any_moment)

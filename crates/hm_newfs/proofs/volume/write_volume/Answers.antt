use Rattle.std.proofs.Common.{ℕ, ◌+◌, ◌≤◌, [], ◌∷◌, length, subst, arith}
use Rattle.hm_types.specs.Told.{BothTell}
use Rattle.hm_disk.specs.Moments.{WriteElapses}
use Rattle.hm_disk.specs.Transfer.{WrittenSynced}
use Rattle.hm_disk.proofs.DiskLemmas.{BothTell-map, BothTell-then, IfSome-then}
use Rattle.hm_header.specs.declared.header.TheConstants.{GATE_OPEN}
use Rattle.hm_header.proofs.AnswerLemmas.{OnErr-all, OnOk-map}
use Rattle.hm_newfs.specs.Steps.{HasClosedGates, HasSpace}
use Rattle.hm_newfs.proofs.VolumeLemmas.{closing-time, contents-time, failed, ready-told, volume-elapses, volume-made}
use Rattle.hm_newfs.proofs.volume.write_volume.Goals as goal

pub write_contents-requires-clause-closed : goal.write_contents-requires-clause-closed
write_contents-requires-clause-closed g c =
    IfSome-then _ _ (HasSpace c.args.bigblocks) HasClosedGates _ (λ s t room closes. closes.gates) c.requires.room c.in_ok-close_gates.ensures.ok

pub write_synced-requires-clause-within : goal.write_synced-requires-clause-within
write_synced-requires-clause-within g c =
    let b = c.args.bigblocks in
    let size = c.requires.size in
    let at = c.gate_place.ensures in
    IfSome-then _ _ (HasSpace b) (λ t. c.gate_place.result + 1 ≤ length t.bytes) _
    (λ s t room wrote. omega (arith, room, wrote.size, size.0, at))
    (IfSome-then _ _ (HasSpace b) (HasSpace b) _ (λ s t room closes. omega (arith, room, closes.size)) c.requires.room c.in_ok-close_gates.ensures.ok)
    c.in_ok-write_contents.ensures.ok

pub returns-clause-ok : goal.returns-clause-ok
returns-clause-ok g c =
    let b = c.args.bigblocks in
    let past = g.D.Disk.left_since c.args.disk.now in
    let l1 = g.D.Disk.left_since c.close_gates.new.disk in
    let l2 = g.D.Disk.left_since c.write_contents.new.disk in
    let since = g.D.Disk.left_since c.write_synced.new.disk in
    let told = g.D.Disk.told c.write_contents.new.disk in
    let new = g.D.Disk.told c.write_synced.new.disk in
    let first = c.in_ok-close_gates.ensures in
    let then = c.in_ok-write_contents.ensures in
    let ready = ready-told b past l1 l2 _ _ told c.requires.room first.ok first.any_moment then.ok then.any_moment in
    OnOk-map _ _ _ (λ opened. BothTell-then _ told new (HasSpace b) _ _ _
    (λ s u v room is written. volume-made b c.requires.size past l2 since s u v is written) c.requires.room ready
    (subst (λ (place : ℕ). BothTell told new (WrittenSynced place (GATE_OPEN ∷ []))) c.gate_place.ensures opened))
    c.write_synced.ensures.ok

pub returns-clause-any_moment : goal.returns-clause-any_moment
returns-clause-any_moment g c =
    let b = c.args.bigblocks in
    let past = g.D.Disk.left_since c.args.disk.now in
    let l1 = g.D.Disk.left_since c.close_gates.new.disk in
    let l2 = g.D.Disk.left_since c.write_contents.new.disk in
    let since = g.D.Disk.left_since c.write_synced.new.disk in
    let told = g.D.Disk.told c.write_contents.new.disk in
    let new = g.D.Disk.told c.write_synced.new.disk in
    let first = c.in_ok-close_gates.ensures in
    let then = c.in_ok-write_contents.ensures in
    let ready = ready-told b past l1 l2 _ _ told c.requires.room first.ok first.any_moment then.ok then.any_moment in
    BothTell-then _ told new (HasSpace b) _ _ _
    (λ s u v room is written. volume-elapses b c.requires.size past l2 since s u v is written) c.requires.room ready
    (subst (λ (place : ℕ). BothTell told new (WriteElapses place 1 l2 since)) c.gate_place.ensures c.write_synced.ensures.any_moment)

pub returns-in_err-close_gates-clause-any_moment : goal.returns-in_err-close_gates-clause-any_moment
returns-in_err-close_gates-clause-any_moment g c =
    BothTell-map _ _ (HasSpace c.args.bigblocks) _ _ (λ s t room time. closing-time c.args.bigblocks _ _ s t time) c.requires.room
    c.in_err-close_gates.ensures.any_moment

pub returns-in_err-write_contents-clause-any_moment : goal.returns-in_err-write_contents-clause-any_moment
returns-in_err-write_contents-clause-any_moment g c =
    BothTell-then _ _ _ (HasSpace c.args.bigblocks) _ _ _
    (λ s t u room closing writing. contents-time c.args.bigblocks _ (g.D.Disk.left_since c.close_gates.new.disk) _ s t u closing writing) c.requires.room
    c.in_ok-close_gates.ensures.any_moment c.in_err-write_contents.ensures.any_moment

-- whatever failed, the disk reads as a crash may leave it
pub returns-in_err-close_gates-clause-err : goal.returns-in_err-close_gates-clause-err
returns-in_err-close_gates-clause-err g c =
    OnErr-all _ _ (failed c.args.bigblocks (g.D.Disk.left_since c.args.disk.now) (g.D.Disk.left_since c.close_gates.new.disk) _ _
    (g.met.D.Disk.only_now c.args.disk.now) (g.met.D.Disk.counts_now c.close_gates.new.disk) (returns-in_err-close_gates-clause-any_moment g c))

pub returns-in_err-write_contents-clause-err : goal.returns-in_err-write_contents-clause-err
returns-in_err-write_contents-clause-err g c =
    OnErr-all _ _ (failed c.args.bigblocks (g.D.Disk.left_since c.args.disk.now) (g.D.Disk.left_since c.write_contents.new.disk) _ _
    (g.met.D.Disk.only_now c.args.disk.now) (g.met.D.Disk.counts_now c.write_contents.new.disk) (returns-in_err-write_contents-clause-any_moment g c))

pub returns-clause-err : goal.returns-clause-err
returns-clause-err g c =
    OnErr-all _ _ (failed c.args.bigblocks (g.D.Disk.left_since c.args.disk.now) (g.D.Disk.left_since c.write_synced.new.disk) _ _
    (g.met.D.Disk.only_now c.args.disk.now) (g.met.D.Disk.counts_now c.write_synced.new.disk) (returns-clause-any_moment g c))

use Rattle.std.proofs.Common.{ℕ, [], ◌∷◌, subst, arith}
use Rattle.hm_types.specs.Told.{BothTell}
use Rattle.hm_disk.specs.Crash.{Told}
use Rattle.hm_disk.specs.Disk.{Written}
use Rattle.hm_disk.specs.Moments.{CallElapses}
use Rattle.hm_disk.proofs.DiskLemmas.{BothTell-and, BothTell-then}
use Rattle.hm_header.proofs.AnswerLemmas.{OnOk-map}
use Rattle.hm_header.specs.OnDisk.{HasSlots}
use Rattle.hm_newfs.proofs.ClosingLemmas.{OnlyGates, WroteGates, closing-synced, gate-more, gates-closed, only-none}
use Rattle.hm_newfs.proofs.volume.close_gates.Goals as goal

pub returns-clause-ok : goal.returns-clause-ok
returns-clause-ok g c =
    let old = g.D.Disk.told c.args.disk.now in
    let told = g.D.Disk.told c.write_at.new.self in
    let first = subst (λ (place : ℕ). BothTell old told (Written place (0 ∷ []))) c.gate_place.ensures c.in_ok-write_at.ensures.ok in
    let second = subst (λ (place : ℕ). BothTell told (g.D.Disk.told c.write_at-2.new.self) (Written place (0 ∷ []))) c.gate_place-2.ensures
    c.in_ok-write_at-2.ensures.ok in
    OnOk-map _ _ _ (BothTell-then _ _ _ (λ t. HasSlots t.bytes) WroteGates _ _
    (λ s u v slots wrote synced. gates-closed s u v slots wrote synced) c.requires.slots
    (BothTell-then _ _ _ (λ t. HasSlots t.bytes) _ _ WroteGates (λ s t u slots first second. record { told = t; first = first; second = second })
    c.requires.slots first second))
    c.sync.ensures.ok

pub returns-clause-any_moment : goal.returns-clause-any_moment
returns-clause-any_moment g c =
    let old = g.D.Disk.told c.args.disk.now in
    let told = g.D.Disk.told c.write_at.new.self in
    let then = g.D.Disk.told c.write_at-2.new.self in
    let past = g.D.Disk.left_since c.args.disk.now in
    let l1 = g.D.Disk.left_since c.write_at.new.self in
    let l2 = g.D.Disk.left_since c.write_at-2.new.self in
    let since = g.D.Disk.left_since c.sync.new.self in
    let first = subst (λ (place : ℕ). BothTell old told (λ (s t : Told). Written place (0 ∷ []) s t × CallElapses place 1 past l1 s t)) c.gate_place.ensures
    (BothTell-and old told _ _ c.in_ok-write_at.ensures.ok c.in_ok-write_at.ensures.any_moment) in
    let second = subst (λ (place : ℕ). BothTell told then (λ (s t : Told). Written place (0 ∷ []) s t × CallElapses place 1 l1 l2 s t)) c.gate_place-2.ensures
    (BothTell-and told then _ _ c.in_ok-write_at-2.ensures.ok c.in_ok-write_at-2.ensures.any_moment) in
    BothTell-then _ _ _ (λ t. HasSlots t.bytes) (OnlyGates past l2) _ _
    (λ s u v slots only synced. closing-synced past l2 since s u v only synced) c.requires.slots
    (BothTell-then _ _ _ (λ t. HasSlots t.bytes) _ _ (OnlyGates past l2)
    (λ s t u slots p q. gate-more 1 (omega arith) past l1 l2 s t u (omega (arith, slots, p.1.begun.size))
    (gate-more 0 (omega arith) past past l1 s s t slots (only-none past s) p.0 p.1.begun) q.0 q.1.begun)
    c.requires.slots first second)
    c.sync.ensures.any_moment

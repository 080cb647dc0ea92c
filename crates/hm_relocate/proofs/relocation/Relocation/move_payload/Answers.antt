-- A payload of the choice moves.
use Rattle.std.proofs.Common.{◌≡◌, ◌∙◌, ◌≤◌, List, Option, ap, arith, false, inr, refl, subst, sym, ℕ}
use Rattle.std.specs.Prelude.{IfSome, is_some}
use Rattle.std.proofs.lemmas.Result.{err_from_is_err_and}
use Rattle.hm_types.specs.Offset.{zone_of}
use Rattle.hm_types.specs.Space.{IsPayloadZone, reserve_of}
use Rattle.hm_key.specs.Balance.{content_of}
use Rattle.hm_key.specs.Job.{HasMoreCause}
use Rattle.hm_key.specs.declared.element.Element.{Element}
use Rattle.hm_key.proofs.ChargeLemmas.{charges_admitted}
use Rattle.hm_reblock.specs.Choice.{SomeChosenIn}
use Rattle.hm_reblock.specs.Stages.{most_for, next_of, reblock_place}
use Rattle.hm_pages.specs.Store.{contents}
use Rattle.hm_stored.specs.Heap.{free_of, heap_of, room_of}
use Rattle.hm_stored.specs.Told.{elements_told}
use Rattle.hm_stored.specs.declared.space.Space.{Space}
use Rattle.hm_relocate.specs.Unit.{LooksThrough, Way}
use Rattle.hm_relocate.specs.Way.{way_of}
use Rattle.hm_relocate.proofs.GotOnLemmas.{ends_none, got_by_payloads, got_on_payload, payloads_later, zone_there}
use Rattle.hm_relocate.proofs.UnitLemmas.{balanced_same, moves_payload, rearranges_later, reserve_for, spends_less, spends_next}
use Rattle.hm_relocate.proofs.UnitLemmas.{tries_job, tries_moved, tries_none, tries_room}
use Rattle.hm_relocate.proofs.relocation.Relocation.move_payload.Goals as goal

pub returns-in_default-clause-tries : goal.returns-in_default-clause-tries
returns-in_default-clause-tries g c =
    let heap = λ (s : Space g.row.D.Denot g.D.Disk). heap_of (contents s.pages.store) (g.D.Disk.told s.disk) s.books in
    let s = c.args.stored.now in
    let s1 = c.next_zone.new.store in
    let j = c.args.self.now.payloads in
    let keeps = c.next_zone.ensures.keeps in
    tries_none (way_of c.args.self.now) (record { payloads = reblock_place c.next_zone.new.self; nodes = (way_of c.args.self.now).nodes }) j.choice
    (g.D.Disk.faults s.space.disk) (g.D.Disk.faults s1.space.disk) (heap s.space) (heap s1.space) s.root s1.root (
      c.next_zone.ensures.place,
      refl,
      record { elements = keeps.elements; mark = keeps.mark; extents = keeps.extents; room = keeps.room; free = keeps.free },
    )
    c.next_zone.ensures.cause.counted.never_falls

pub returns-in_err-admit-clause-tries : goal.returns-in_err-admit-clause-tries
returns-in_err-admit-clause-tries g c =
    let heap = λ (s : Space g.row.D.Denot g.D.Disk). heap_of (contents s.pages.store) (g.D.Disk.told s.disk) s.books in
    let s = c.args.stored.now in
    let s1 = c.next_zone.new.store in
    let s2 = c.admit.new.self in
    let j = c.args.self.now.payloads in
    let keeps = c.next_zone.ensures.keeps in
    let p = err_from_is_err_and c.from_residual-in_err-admit.result c.from_residual-in_err-admit.ensures.1 in
    rw (p.1, p.2) (tries_room (way_of c.args.self.now)
    (record { payloads = reblock_place c.next_zone.new.self; nodes = (way_of c.args.self.now).nodes }) j.choice (g.D.Disk.faults s.space.disk)
    (g.D.Disk.faults s2.space.disk) (heap s.space) (heap s2.space) s.root s2.root (heap s1.space) s1.root (g.D.Disk.faults s1.space.disk)
    c.next_zone.ensures.cause.counted.never_falls c.only.result c.in-Some.zone c.in_err-admit.field-0.0
    (record { elements = keeps.elements; mark = keeps.mark; extents = keeps.extents; room = keeps.room; free = keeps.free })
    c.only.ensures (inr (zone_there j.choice (elements_told (heap s.space) s.root) c.in_ok-zone.field-0 c.in-Some.zone c.in-Some.is c.in_ok-zone.ensures.ok))
    c.in_err-admit.ensures.cause c.in_err-admit.ensures.answers.no_space)

pub unit-requires : goal.unit-requires
unit-requires g c =
    let heap = λ (s : Space g.row.D.Denot g.D.Disk). heap_of (contents s.pages.store) (g.D.Disk.told s.disk) s.books in
    let s = c.args.stored.now in
    let s2 = c.admit.new.self in
    let next = next_of c.next_zone.new.self in
    let keeps = c.next_zone.ensures.keeps in
    let content = c.in_ok-admit.ensures.answers.content in
    let zone = subst (λ (found : Option ℕ). IfSome found (λ z. IsPayloadZone z × IfSome next (λ e. zone_of e.payload ≡ z))) c.in-Some.is
    c.in_ok-zone.ensures.zone in
    record {
      fits = (
        balanced_same (heap s.space) (heap s2.space) s.root s2.root (content.elements ∙ keeps.elements) (content.extents ∙ keeps.extents)
            c.requires.balanced,
        reserve_for (room_of (heap s2.space)) next c.in-Some.zone zone.1 (c.in_ok-admit.ensures.answers.ok.reserve c.in-Some.zone c.only.ensures.named),
      );
    }

pub returns-in_err-_progress-clause-tries : goal.returns-in_err-_progress-clause-tries
returns-in_err-_progress-clause-tries g c =
    let heap = λ (s : Space g.row.D.Denot g.D.Disk). heap_of (contents s.pages.store) (g.D.Disk.told s.disk) s.books in
    let s = c.args.stored.now in
    let s2 = c.admit.new.self in
    let s3 = c.unit.new.store in
    let j = c.args.self.now.payloads in
    let keeps = c.next_zone.ensures.keeps in
    let content = c.in_ok-admit.ensures.answers.content in
    let grows : g.D.Disk.faults s.space.disk ≤ g.D.Disk.faults s2.space.disk =
    omega (arith, c.next_zone.ensures.cause.counted.never_falls, c.admit.ensures.cause.counted.never_falls) in
    let p = err_from_is_err_and c.from_residual-in_err-_progress.result c.from_residual-in_err-_progress.ensures.1 in
    rw (p.1, p.2) (tries_job (way_of c.args.self.now)
    (record { payloads = reblock_place c.unit.new.self; nodes = (way_of c.args.self.now).nodes }) j.choice (g.D.Disk.faults s.space.disk)
    (g.D.Disk.faults s3.space.disk)
    (heap s.space) (heap s3.space) s.root s3.root (heap s2.space) s2.root (g.D.Disk.faults s2.space.disk) grows c.in_err-_progress.field-0.0
    (λ i. content_of ((content.elements ∙ keeps.elements) i) ((content.extents ∙ keeps.extents) i)) c.in_err-_progress.ensures.cause)

pub returns-clause-tries : goal.returns-clause-tries
returns-clause-tries g c =
    let heap = λ (s : Space g.row.D.Denot g.D.Disk). heap_of (contents s.pages.store) (g.D.Disk.told s.disk) s.books in
    let s = c.args.stored.now in
    let s1 = c.next_zone.new.store in
    let s2 = c.admit.new.self in
    let s3 = c.unit.new.store in
    let j = c.args.self.now.payloads in
    let j1 = c.next_zone.new.self in
    let j3 = c.unit.new.self in
    let keeps = c.next_zone.ensures.keeps in
    let content = c.in_ok-admit.ensures.answers.content in
    let admitted = c.in_ok-admit.ensures.answers.ok in
    let did = c.in_ok-_progress.ensures in
    let told : Option (List Element) = elements_told (heap s3.space) s3.root in
    let looks : LooksThrough (heap s.space) (heap s1.space) s.root s1.root =
    record { elements = keeps.elements; mark = keeps.mark; extents = keeps.extents; room = keeps.room; free = keeps.free } in
    let grows : g.D.Disk.faults s.space.disk ≤ g.D.Disk.faults s3.space.disk =
    omega (arith, c.next_zone.ensures.cause.counted.never_falls, c.admit.ensures.cause.counted.never_falls, c.unit.ensures.cause.counted.never_falls) in
    let charged =
    charges_admitted room_of free_of c.only.result 0 (heap s1.space) (heap s2.space)
    (record { enough = admitted.enough; no_more = admitted.no_more; paid = admitted.paid; reserve = admitted.reserve })
    c.in_ok-admit.ensures.answers.whole c.in_ok-admit.ensures.answers.room in
    let rearranges =
    moves_payload (heap s1.space) (heap s2.space) s1.root s2.root content.elements content.extents content.mark charged (heap s3.space) s3.root
    did.store.content did.store.marks
    (spends_less (most_for (next_of j1)) reserve_of (heap s2.space) (heap s3.space) (spends_next (next_of j1))
    (record { room = did.reblock.space.room; free = did.reblock.space.free })) in
    let there = zone_there j.choice (elements_told (heap s.space) s.root) c.in_ok-zone.field-0 c.in-Some.zone c.in-Some.is c.in_ok-zone.ensures.ok in
    let got =
    got_on_payload (reblock_place j1) (reblock_place j3) j.choice c.in-Some.zone (heap s1.space) (heap s3.space) s1.root s3.root c.in_ok-_progress._progress
    (subst (λ (o : Option (List Element)). IfSome o (SomeChosenIn c.in-Some.zone j.choice)) (sym keeps.elements) there)
    (did.store.keeps.elements ∙ ap (λ (o : Option (List Element)). is_some o) content.elements)
    (subst (λ (o : Option (List Element)). HasMoreCause (reblock_place j1) (reblock_place j3) o told c.in_ok-_progress._progress) content.elements did.more)
    (ends_none told j3.choice j.choice _ _ c.in_ok-_progress._progress (did.reblock.choice ∙ c.next_zone.ensures.choice) did.progress) in
    let to : Way = record { payloads = reblock_place j3; nodes = false } in
    tries_moved (way_of c.args.self.now) to j.choice (g.D.Disk.faults s.space.disk) (g.D.Disk.faults s3.space.disk) (heap s.space) (heap s3.space)
    s.root s3.root grows (rearranges_later (heap s.space) (heap s1.space) s.root s1.root looks (heap s3.space) s3.root rearranges)
    (got_by_payloads (way_of c.args.self.now) to j.choice j.choice (heap s.space) (heap s3.space) s.root s3.root
    (payloads_later (heap s.space) (heap s1.space) s.root s1.root looks (reblock_place j) (reblock_place j1) (reblock_place j3) j.choice j.choice
    (heap s3.space) s3.root c.next_zone.ensures.place got))

use Rattle.std.proofs.Common.{◌≡◌, ◌≢◌, ◌⊎◌, ⊎_elim, inl, inr, ℕ, List, sym, ◌∙◌, ap}
use Rattle.hm_types.specs.Told.{BothTell}
use Rattle.hm_header.specs.Change.{StageElapses, StageFailed}
use Rattle.hm_header.proofs.AnswerLemmas.{OnErr-map, OnOk-map}
use Rattle.hm_pages.specs.Store.{contents}
use Rattle.hm_flush.specs.declared.flush.Position.{Position}
use Rattle.hm_flush.specs.declared.flush.Position.TheVariants.{Idle}
use Rattle.hm_flush.specs.Group.{group_of}
use Rattle.hm_flush.specs.Stages.{due_stage, due_stage_at}
use Rattle.hm_flush.proofs.StageLemmas.{as-change, change-before, IsChangeDue, place-elapses, place-failed, place-made, sync-elapses, sync-failed}
use Rattle.hm_flush.proofs.StageLemmas.{undo-elapses, undo-failed, undo-made}
use Rattle.hm_flush.proofs.flush.Flush.make.Goals as goal

pub change_header-requires-clause-before : goal.change_header-requires-clause-before
change_header-requires-clause-before g c =
    let f = c.args.self.now in
    let gr = group_of (contents c.args.pages.now) in
    let is : IsChangeDue (due_stage f gr) = ⊎_elim (λ w. inl (w.0, sym c.requires.due ∙ w.1)) (λ w. inr (w.0, sym c.requires.due ∙ w.1)) c.in-Arm.is in
    change-before f gr c.change.result c.next_header.result (g.D.Disk.told c.args.disk.now) is c.change.ensures c.next_header.ensures.value c.requires.stands

pub returns-in-Arm-clause-err : goal.returns-in-Arm-clause-err
returns-in-Arm-clause-err g c =
    let f = c.args.self.now in
    let gr = group_of (contents c.args.pages.now) in
    let old = g.D.Disk.told c.args.disk.now in
    let new = g.D.Disk.told c.change_header.new.disk in
    let is : IsChangeDue (due_stage f gr) = ⊎_elim (λ w. inl (w.0, sym c.requires.due ∙ w.1)) (λ w. inr (w.0, sym c.requires.due ∙ w.1)) c.in-Arm.is in
    OnErr-map c.change_header.result _ _
    (as-change (λ (Has : List ℕ → Type 0) (range : ℕ × ℕ). BothTell old new (StageFailed Has range.0 range.1)) f gr c.change.result c.next_header.result is
    c.change.ensures c.next_header.ensures.value) c.change_header.ensures.err

pub returns-in-Arm-clause-any_moment : goal.returns-in-Arm-clause-any_moment
returns-in-Arm-clause-any_moment g c =
    let f = c.args.self.now in
    let gr = group_of (contents c.args.pages.now) in
    let old = g.D.Disk.told c.args.disk.now in
    let new = g.D.Disk.told c.change_header.new.disk in
    let is : IsChangeDue (due_stage f gr) = ⊎_elim (λ w. inl (w.0, sym c.requires.due ∙ w.1)) (λ w. inr (w.0, sym c.requires.due ∙ w.1)) c.in-Arm.is in
    as-change (λ (Has : List ℕ → Type 0) (range : ℕ × ℕ).
    BothTell old new (StageElapses Has range.0 range.1 (g.D.Disk.left_since c.args.disk.now) (g.D.Disk.left_since c.change_header.new.disk)))
    f gr c.change.result c.next_header.result is c.change.ensures c.next_header.ensures.value c.change_header.ensures.any_moment

pub returns-in-UndoSync-clause-err : goal.returns-in-UndoSync-clause-err
returns-in-UndoSync-clause-err g c =
    OnErr-map c.sync.result _ _
    (λ same. sync-failed c.args.self.now _ _ (g.D.Disk.told c.args.disk.now) (g.D.Disk.told c.sync.new.self) c.requires.stands same) c.sync.ensures.err

pub returns-in-UndoSync-clause-any_moment : goal.returns-in-UndoSync-clause-any_moment
returns-in-UndoSync-clause-any_moment g c =
    sync-elapses c.args.self.now _ _ _ _ (g.D.Disk.told c.args.disk.now) (g.D.Disk.told c.sync.new.self) c.requires.stands c.sync.ensures.any_moment

pub returns-in-Undo-clause-ok : goal.returns-in-Undo-clause-ok
returns-in-Undo-clause-ok g c =
    let f = c.args.self.now in
    let s = contents c.args.pages.now in
    let flight : f.at ≢ Idle = λ idle. c.requires.flight (c.requires.due ∙ ap (λ (p : Position). due_stage_at p f (group_of s)) idle) in
    OnOk-map c.save.result _ _
    (undo-made f s c.requires.sound c.requires.group c.requires.places flight (g.D.Disk.told c.args.disk.now) (g.D.Disk.told c.save.new.disk) c.requires.stands
    c.in-Undo.i (sym c.requires.due ∙ c.in-Undo.is)) c.save.ensures.ok

pub returns-in-Undo-clause-err : goal.returns-in-Undo-clause-err
returns-in-Undo-clause-err g c =
    let f = c.args.self.now in
    let s = contents c.args.pages.now in
    let flight : f.at ≢ Idle = λ idle. c.requires.flight (c.requires.due ∙ ap (λ (p : Position). due_stage_at p f (group_of s)) idle) in
    OnErr-map c.save.result _ _
    (undo-failed f s c.requires.sound c.requires.group c.requires.places flight (g.D.Disk.told c.args.disk.now) (g.D.Disk.told c.save.new.disk)
    c.requires.stands c.in-Undo.i (sym c.requires.due ∙ c.in-Undo.is)) c.save.ensures.err

pub returns-in-Undo-clause-any_moment : goal.returns-in-Undo-clause-any_moment
returns-in-Undo-clause-any_moment g c =
    let f = c.args.self.now in
    let s = contents c.args.pages.now in
    let flight : f.at ≢ Idle = λ idle. c.requires.flight (c.requires.due ∙ ap (λ (p : Position). due_stage_at p f (group_of s)) idle) in
    undo-elapses f s c.requires.sound c.requires.group c.requires.places flight (g.D.Disk.told c.args.disk.now) (g.D.Disk.told c.save.new.disk)
    c.requires.stands c.in-Undo.i _ _ (sym c.requires.due ∙ c.in-Undo.is) c.save.ensures.any_moment

pub returns-in-Place-clause-ok : goal.returns-in-Place-clause-ok
returns-in-Place-clause-ok g c =
    let f = c.args.self.now in
    let s = contents c.args.pages.now in
    let flight : f.at ≢ Idle = λ idle. c.requires.flight (c.requires.due ∙ ap (λ (p : Position). due_stage_at p f (group_of s)) idle) in
    OnOk-map c.place_page.result _ _
    (place-made f s c.requires.sound c.requires.group c.requires.places flight (g.D.Disk.told c.args.disk.now) (g.D.Disk.told c.place_page.new.disk)
    c.requires.stands c.in-Place.i (sym c.requires.due ∙ c.in-Place.is)) c.place_page.ensures.ok

pub returns-in-Place-clause-err : goal.returns-in-Place-clause-err
returns-in-Place-clause-err g c =
    let f = c.args.self.now in
    let s = contents c.args.pages.now in
    let flight : f.at ≢ Idle = λ idle. c.requires.flight (c.requires.due ∙ ap (λ (p : Position). due_stage_at p f (group_of s)) idle) in
    OnErr-map c.place_page.result _ _
    (place-failed f s c.requires.sound c.requires.group c.requires.places flight (g.D.Disk.told c.args.disk.now) (g.D.Disk.told c.place_page.new.disk)
    c.requires.stands c.in-Place.i (sym c.requires.due ∙ c.in-Place.is)) c.place_page.ensures.err

pub returns-in-Place-clause-any_moment : goal.returns-in-Place-clause-any_moment
returns-in-Place-clause-any_moment g c =
    let f = c.args.self.now in
    let s = contents c.args.pages.now in
    let flight : f.at ≢ Idle = λ idle. c.requires.flight (c.requires.due ∙ ap (λ (p : Position). due_stage_at p f (group_of s)) idle) in
    place-elapses f s c.requires.sound c.requires.group c.requires.places flight (g.D.Disk.told c.args.disk.now) (g.D.Disk.told c.place_page.new.disk)
    c.requires.stands c.in-Place.i _ _ (sym c.requires.due ∙ c.in-Place.is) c.place_page.ensures.any_moment

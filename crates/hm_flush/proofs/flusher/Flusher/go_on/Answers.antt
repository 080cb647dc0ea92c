use Rattle.std.proofs.Common.{◌≡◌, ◌≢◌, sym, ◌∙◌, ap, subst, IfSome}
use Rattle.hm_types.specs.Told.{BothTell}
use Rattle.hm_header.specs.Change.{StageElapses, StageFailed}
use Rattle.hm_pages.specs.Store.{contents}
use Rattle.hm_flush.specs.declared.flush.Flush.{Flush}
use Rattle.hm_flush.specs.declared.stage.Stage.{Stage}
use Rattle.hm_flush.specs.Calls.{PagesMove, FlushStands}
use Rattle.hm_flush.specs.Flush.{IsFlush, tried}
use Rattle.hm_flush.specs.Group.{group_of}
use Rattle.hm_flush.specs.Stages.{DueStageMade, asks, due_stage, moved_flush, range_of}
use Rattle.hm_flush.specs.Guard.{ElapsesRecoverable, GuardsOn}
use Rattle.hm_flush.proofs.CallLemmas.{guards-still, guards-then, recoverable-within}
use Rattle.hm_flush.proofs.MoveLemmas.{moves, sound-moved}
use Rattle.hm_flush.proofs.StageLemmas.{stands-still, stands-then}
use Rattle.hm_flush.proofs.flusher.Flusher.go_on.Goals as goal

pub invariant_of-self : goal.invariant_of-self
invariant_of-self g c =
    let f = c.args.self.now in
    let s = contents c.args.pages.now in
    let s' = contents c.commit_last.new.pages in
    let stage = c.due-stage.result in
    sound-moved f c.moved-self-inside.result f.target stage s s' c.requires.flight (subst IsFlush c.self.view_is c.self.invariant) c.requires.ready.group
    (subst (λ (x : Flush). PagesMove x.at f.target s s') c.self.view_is (c.commit_last.ensures f.target))
    (c.due-stage.ensures.value ∙ ap (λ (x : Flush). due_stage x (group_of s)) c.self.view_is)
    (c.moved-self-inside.ensures ∙ ap (λ (x : Flush). moved_flush stage x) c.self.view_is)

pub returns-in-Ok-clause-ok : goal.returns-in-Ok-clause-ok
returns-in-Ok-clause-ok g c = λ now.
    let f = c.args.self.now in
    let s = contents c.args.pages.now in
    let s' = contents c.commit_last.new.pages in
    let stage = c.due-stage.result in
    moves f c.moved-self-inside.result now stage s s' c.requires.flight (subst IsFlush c.self.view_is c.self.invariant) c.requires.ready
    (subst (λ (x : Flush). PagesMove x.at now s s') c.self.view_is (c.commit_last.ensures now))
    (c.due-stage.ensures.value ∙ ap (λ (x : Flush). due_stage x (group_of s)) c.self.view_is)
    (c.moved-self-inside.ensures ∙ ap (λ (x : Flush). moved_flush stage x) c.self.view_is)

pub returns-in-Ok-clause-stands : goal.returns-in-Ok-clause-stands
returns-in-Ok-clause-stands g c =
    let f = c.args.self.now in
    let s = contents c.args.pages.now in
    let old = g.D.Disk.told c.args.disk.now in
    let new = g.D.Disk.told c.make.new.disk in
    let stage = c.due-stage.result in
    let is_due : stage ≡ due_stage f (group_of s) = c.due-stage.ensures.value ∙ ap (λ (x : Flush). due_stage x (group_of s)) c.self.view_is in
    let is : c.moved-self-inside.result ≡ moved_flush (due_stage f (group_of s)) f =
    c.moved-self-inside.ensures ∙ (ap (λ (x : Flush). moved_flush stage x) c.self.view_is ∙ ap (λ (st : Stage). moved_flush st f) is_due) in
    subst (λ (x : Flush). IfSome new (FlushStands x)) (sym is)
    (stands-then f s (subst IsFlush c.self.view_is c.self.invariant) c.requires.ready.group c.requires.ready.placed c.requires.flight old new c.requires.stands
    (subst (λ (x : Flush). BothTell old new (DueStageMade x (group_of s))) c.self.view_is c.in-Ok.ensures.ok))

pub returns-in-Err-clause-stands : goal.returns-in-Err-clause-stands
returns-in-Err-clause-stands g c =
    let f = c.args.self.now in
    let s = contents c.args.pages.now in
    let old = g.D.Disk.told c.args.disk.now in
    let new = g.D.Disk.told c.make.new.disk in
    let is : c.tried-self-inside.result ≡ tried f = c.tried-self-inside.ensures ∙ ap (λ (x : Flush). tried x) c.self.view_is in
    subst (λ (x : Flush). IfSome new (FlushStands x)) (sym is)
    (stands-still f s (subst IsFlush c.self.view_is c.self.invariant) c.requires.ready.group c.requires.ready.placed c.requires.flight old new c.requires.stands
    (subst (λ (x : Flush). BothTell old new (StageFailed (asks x) (range_of x (group_of s)).0 (range_of x (group_of s)).1)) c.self.view_is
    c.in-Err.ensures.err))

pub returns-in-Ok-clause-guards : goal.returns-in-Ok-clause-guards
returns-in-Ok-clause-guards g c =
    let f = c.args.self.now in
    let s = contents c.args.pages.now in
    let s' = contents c.commit_last.new.pages in
    let old = g.D.Disk.told c.args.disk.now in
    let new = g.D.Disk.told c.make.new.disk in
    let stage = c.due-stage.result in
    let is_due : stage ≡ due_stage f (group_of s) = c.due-stage.ensures.value ∙ ap (λ (x : Flush). due_stage x (group_of s)) c.self.view_is in
    let is : c.moved-self-inside.result ≡ moved_flush (due_stage f (group_of s)) f =
    c.moved-self-inside.ensures ∙ (ap (λ (x : Flush). moved_flush stage x) c.self.view_is ∙ ap (λ (st : Stage). moved_flush st f) is_due) in
    subst (λ (x : Flush). BothTell old new (GuardsOn f s x s')) (sym is)
    (guards-then f s (subst IsFlush c.self.view_is c.self.invariant) c.requires.ready.group c.requires.ready.placed c.store_is_sound.ensures c.requires.flight
    old new c.requires.stands s' f.target (subst (λ (x : Flush). PagesMove x.at f.target s s') c.self.view_is (c.commit_last.ensures f.target))
    (subst (λ (x : Flush). BothTell old new (DueStageMade x (group_of s))) c.self.view_is c.in-Ok.ensures.ok))

pub returns-in-Ok-clause-recoverable : goal.returns-in-Ok-clause-recoverable
returns-in-Ok-clause-recoverable g c =
    let f = c.args.self.now in
    let s = contents c.args.pages.now in
    let old = g.D.Disk.told c.args.disk.now in
    let new = g.D.Disk.told c.make.new.disk in
    recoverable-within f s (subst IsFlush c.self.view_is c.self.invariant) c.requires.ready.group c.requires.ready.placed c.store_is_sound.ensures
    c.requires.flight old new c.requires.stands _ _
    (subst (λ (x : Flush). BothTell old new (StageElapses (asks x) (range_of x (group_of s)).0 (range_of x (group_of s)).1
    (g.D.Disk.left_since c.args.disk.now) (g.D.Disk.left_since c.make.new.disk))) c.self.view_is c.in-Ok.ensures.any_moment)

pub returns-in-Err-clause-guards : goal.returns-in-Err-clause-guards
returns-in-Err-clause-guards g c =
    let f = c.args.self.now in
    let s = contents c.args.pages.now in
    let old = g.D.Disk.told c.args.disk.now in
    let new = g.D.Disk.told c.make.new.disk in
    let is : c.tried-self-inside.result ≡ tried f = c.tried-self-inside.ensures ∙ ap (λ (x : Flush). tried x) c.self.view_is in
    subst (λ (x : Flush). BothTell old new (GuardsOn f s x s)) (sym is)
    (guards-still f s (subst IsFlush c.self.view_is c.self.invariant) c.requires.ready.group c.requires.ready.placed c.store_is_sound.ensures
    c.requires.flight old new c.requires.stands
    (subst (λ (x : Flush). BothTell old new (StageFailed (asks x) (range_of x (group_of s)).0 (range_of x (group_of s)).1)) c.self.view_is
    c.in-Err.ensures.err))

pub returns-in-Err-clause-recoverable : goal.returns-in-Err-clause-recoverable
returns-in-Err-clause-recoverable g c =
    let f = c.args.self.now in
    let s = contents c.args.pages.now in
    let old = g.D.Disk.told c.args.disk.now in
    let new = g.D.Disk.told c.make.new.disk in
    recoverable-within f s (subst IsFlush c.self.view_is c.self.invariant) c.requires.ready.group c.requires.ready.placed c.store_is_sound.ensures
    c.requires.flight old new c.requires.stands _ _
    (subst (λ (x : Flush). BothTell old new (StageElapses (asks x) (range_of x (group_of s)).0 (range_of x (group_of s)).1
    (g.D.Disk.left_since c.args.disk.now) (g.D.Disk.left_since c.make.new.disk))) c.self.view_is c.in-Err.ensures.any_moment)

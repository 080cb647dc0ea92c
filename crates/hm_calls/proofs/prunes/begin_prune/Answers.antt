use Rattle.std.proofs.Common.{◌∙◌, Err, Ok, ap}
use Rattle.std.proofs.lemmas.Result.{err_from_is_err_and}
use Rattle.hm_cursor.specs.Told.{OnBalanced, fulls}
use Rattle.hm_dirs.specs.Walk.{mode_of}
use Rattle.hm_dirs.proofs.WalkLoopLemmas.{same_twice}
use Rattle.hm_calls.specs.Call.{OnCalls}
use Rattle.hm_calls.specs.Prunes.{IsRetainedIn, command_of}
use Rattle.hm_calls.proofs.PruneCheckLemmas.{comes_by, on_by}
use Rattle.hm_calls.proofs.PruneLemmas.{Tells, gives_cut, gives_later, gives_stopped, later_refused, leads_cut, leads_refused, refused_both}
use Rattle.hm_calls.proofs.PruneRecordLemmas.{known_cut}
use Rattle.hm_calls.proofs.StageLemmas.{told_before}
use Rattle.hm_calls.proofs.prunes.begin_prune.Goals as goal

pub returns-in_err-stand-clause-leads : goal.returns-in_err-stand-clause-leads
returns-in_err-stand-clause-leads g c =
    let p = err_from_is_err_and c.from_residual.result c.from_residual.ensures.1 in
    leads_refused g.T.HasElements.elements g.T.HasElements.mark g.T.HasRoom.extents g.T.HasRoom.room g.T.HasRoom.free
    (g.H.NameHash.hash_of c.args.hash.now) c.args.id.0 c.args.pruning c.args.word.now c.args.store.now c.reach_system.new.store c.from_residual.result
    c.in_err-stand.field-0.0 (p.1 ∙ ap Err p.2)
    (c.in_err-stand.ensures.refused (command_of c.args.pruning c.args.word.now)
    (on_by c.args.pruning c.args.word.now (mode_of c.follow.result) c.follow.ensures))
    c.in_err-stand.ensures.keeps

pub returns-in_err-stand-clause-gives : goal.returns-in_err-stand-clause-gives
returns-in_err-stand-clause-gives g c =
    let p = err_from_is_err_and c.from_residual.result c.from_residual.ensures.1 in
    gives_stopped c.args.id.0 (command_of c.args.pruning c.args.word.now) c.from_residual.result c.in_err-stand.field-0.0 (p.1 ∙ ap Err p.2)
    (refused_both c.args.id.0 (command_of c.args.pruning c.args.word.now) c.in_err-stand.field-0.0
    (c.in_err-stand.ensures.gives (command_of c.args.pruning c.args.word.now)
    (on_by c.args.pruning c.args.word.now (mode_of c.follow.result) c.follow.ensures)) c.in_err-stand.ensures.refuses)

pub returns-in_err-to-clause-leads : goal.returns-in_err-to-clause-leads
returns-in_err-to-clause-leads g c =
    let p = err_from_is_err_and c.from_residual-in_err-to.result c.from_residual-in_err-to.ensures.1 in
    leads_refused g.T.HasElements.elements g.T.HasElements.mark g.T.HasRoom.extents g.T.HasRoom.room g.T.HasRoom.free
    (g.H.NameHash.hash_of c.args.hash.now) c.args.id.0 c.args.pruning c.args.word.now c.args.store.now c.record_after.new.store
    c.from_residual-in_err-to.result c.in_err-to.field-0.0 (p.1 ∙ ap Err p.2)
    (later_refused g.T.HasElements.elements g.T.HasElements.mark g.T.HasRoom.extents g.T.HasRoom.room g.T.HasRoom.free
    (g.H.NameHash.hash_of c.args.hash.now) c.args.id.0 c.args.pruning c.args.word.now c.args.store.now c.record_after.new.store c.in_ok-stand.stand
    (comes_by (g.H.NameHash.hash_of c.args.hash.now) c.args.id.0 (g.T.HasElements.elements c.args.store.now) (g.T.HasRoom.extents c.args.store.now)
    (g.T.HasRoom.room c.args.store.now) (g.T.HasRoom.free c.args.store.now) c.in_ok-stand.stand c.args.pruning c.args.word.now
    (mode_of c.follow.result) c.follow.ensures c.in_ok-stand.ensures.comes)
    c.in_err-to.field-0.0
    (told_before (g.T.HasElements.elements c.args.store.now) (g.T.HasElements.elements c.reach_system.new.store)
    (g.T.HasRoom.extents c.args.store.now) (g.T.HasRoom.extents c.reach_system.new.store) c.in_ok-stand.ensures.keeps.elements
    c.in_ok-stand.ensures.keeps.extents
    (λ es xs. OnCalls (g.H.NameHash.hash_of c.args.hash.now) c.args.id.0 es xs (Tells c.args.pruning c.args.word.now
    (g.T.HasRoom.room c.args.store.now) (g.T.HasRoom.free c.args.store.now) c.in_ok-stand.stand (Err c.in_err-to.field-0.0)))
    (c.in_err-to.ensures.told (g.H.NameHash.hash_of c.args.hash.now) c.args.word.now (g.T.HasRoom.room c.args.store.now)
    (g.T.HasRoom.free c.args.store.now) (g.met.H.NameHash.bounded c.args.hash.now))))
    (same_twice c.in_ok-stand.ensures.keeps c.in_err-to.ensures.keeps)

pub returns-in_err-to-clause-gives : goal.returns-in_err-to-clause-gives
returns-in_err-to-clause-gives g c =
    let p = err_from_is_err_and c.from_residual-in_err-to.result c.from_residual-in_err-to.ensures.1 in
    gives_stopped c.args.id.0 (command_of c.args.pruning c.args.word.now) c.from_residual-in_err-to.result c.in_err-to.field-0.0 (p.1 ∙ ap Err p.2)
    (gives_later c.args.id.0 (command_of c.args.pruning c.args.word.now) c.in_err-to.field-0.0
    (c.in_ok-stand.ensures.early (command_of c.args.pruning c.args.word.now)
    (on_by c.args.pruning c.args.word.now (mode_of c.follow.result) c.follow.ensures))
    (c.in_err-to.ensures.gives c.args.word.now))

pub returns-clause-leads : goal.returns-clause-leads
returns-clause-leads g c =
    leads_cut g.T.HasElements.elements g.T.HasElements.mark g.T.HasRoom.extents g.T.HasRoom.room g.T.HasRoom.free
    (g.H.NameHash.hash_of c.args.hash.now) c.args.id.0 c.args.pruning c.args.word.now c.args.store.now c.record_after.new.store c.in_ok-stand.stand
    (comes_by (g.H.NameHash.hash_of c.args.hash.now) c.args.id.0 (g.T.HasElements.elements c.args.store.now) (g.T.HasRoom.extents c.args.store.now)
    (g.T.HasRoom.room c.args.store.now) (g.T.HasRoom.free c.args.store.now) c.in_ok-stand.stand c.args.pruning c.args.word.now
    (mode_of c.follow.result) c.follow.ensures c.in_ok-stand.ensures.comes)
    c.in_ok-to.to
    (told_before (g.T.HasElements.elements c.args.store.now) (g.T.HasElements.elements c.reach_system.new.store)
    (g.T.HasRoom.extents c.args.store.now) (g.T.HasRoom.extents c.reach_system.new.store) c.in_ok-stand.ensures.keeps.elements
    c.in_ok-stand.ensures.keeps.extents
    (λ es xs. OnCalls (g.H.NameHash.hash_of c.args.hash.now) c.args.id.0 es xs (Tells c.args.pruning c.args.word.now
    (g.T.HasRoom.room c.args.store.now) (g.T.HasRoom.free c.args.store.now) c.in_ok-stand.stand (Ok c.in_ok-to.to)))
    (c.in_ok-to.ensures.told (g.H.NameHash.hash_of c.args.hash.now) c.args.word.now (g.T.HasRoom.room c.args.store.now)
    (g.T.HasRoom.free c.args.store.now) (g.met.H.NameHash.bounded c.args.hash.now)))
    (same_twice c.in_ok-stand.ensures.keeps c.in_ok-to.ensures.keeps)
    c.cut.new.store c.cut.result c.requires.balanced c.cut.ensures.check c.cut.ensures.led c.cut.ensures.sets c.cut.ensures.refused

pub returns-clause-gives : goal.returns-clause-gives
returns-clause-gives g c =
    gives_cut c.args.id.0 c.args.pruning c.args.word.now c.cut.result
    (c.in_ok-stand.ensures.early (command_of c.args.pruning c.args.word.now)
    (on_by c.args.pruning c.args.word.now (mode_of c.follow.result) c.follow.ensures))
    c.cut.ensures.gives

pub returns-clause-known : goal.returns-clause-known
returns-clause-known g c =
    let same = same_twice c.in_ok-stand.ensures.keeps c.in_ok-to.ensures.keeps in
    known_cut g.T.HasElements.elements g.T.HasRoom.extents c.args.store.now c.record_after.new.store c.cut.new.store c.in_ok-stand.stand.at.pfs.0
    c.in_ok-to.to c.cut.result (g.met.T.ElementStore.sorted c.args.store.now) c.requires.balanced
    (told_before (g.T.HasElements.elements c.args.store.now) (g.T.HasElements.elements c.reach_system.new.store)
    (g.T.HasRoom.extents c.args.store.now) (g.T.HasRoom.extents c.reach_system.new.store) c.in_ok-stand.ensures.keeps.elements
    c.in_ok-stand.ensures.keeps.extents (λ es xs. OnBalanced es xs (λ lists. IsRetainedIn c.in_ok-stand.stand.at.pfs.0 c.in_ok-to.to (fulls lists)))
    c.in_ok-to.ensures.retained)
    same.elements same.extents c.cut.ensures.keeps.elements c.cut.ensures.keeps.extents c.cut.ensures.sets

use Rattle.std.proofs.Common.{Err, IfErr, Result, ap, subst, sym, ◌∙◌}
use Rattle.std.proofs.lemmas.Result.{err_from_is_err_and}
use Rattle.hm_types.specs.Faults.{IsCaused}
use Rattle.hm_types.specs.declared.fault.Fault.{Fault}
use Rattle.hm_node.specs.declared.node.Node.{Node}
use Rattle.hm_pages.specs.Store.{contents}
use Rattle.hm_load.proofs.NodeLemmas.{node_added}
use Rattle.hm_load.proofs.StoreLemmas.{told_both}
use Rattle.hm_load.proofs.TwiceLemmas.{node_read, not_twice}
use Rattle.hm_load.proofs.tree.load_node.Goals as goal

pub returns-clause-ok : goal.returns-clause-ok
returns-clause-ok g c =
    node_added c.args.volume.now.bigblocks c.args.subtree.now c.in_ok-node.node c.page.new.page (contents c.args.store.now) (contents c.put.new.store)
    c.args.volume.now.most c.requires.place c.in_ok-node.ensures.ok c.in_ok-page.ensures.past
    (sym c.has_page.ensures ∙ c.if-has_page.false) c.in_ok-put.ensures

pub returns-clause-read : goal.returns-clause-read
returns-clause-read g c =
    told_both (g.D.Disk.told c.args.disk.now)
    (λ t pages same. node_read t.bytes c.args.volume.now.bigblocks c.args.subtree.now c.in_ok-node.node c.page.new.page
    (contents c.args.store.now).current c.requires.place c.in_ok-node.ensures.ok same pages (contents c.put.new.store).current
    c.in_ok-page.ensures.past c.in_ok-put.ensures.put)
    c.requires.read c.in_ok-page.ensures.ok

pub returns-then-has_page-clause-damage : goal.returns-then-has_page-clause-damage
returns-then-has_page-clause-damage g c =
    told_both (g.D.Disk.told c.args.disk.now)
    (λ t pages same. absurd (not_twice t.bytes c.args.volume.now.bigblocks c.args.subtree.now c.in_ok-node.node c.page.new.page
    (contents c.args.store.now).current c.requires.place c.in_ok-node.ensures.ok same pages c.requires.apart
    (sym c.has_page.ensures ∙ c.if-has_page.true)))
    c.requires.read c.in_ok-page.ensures.ok

pub returns-in_err-node-clause-cause : goal.returns-in_err-node-clause-cause
returns-in_err-node-clause-cause g c =
    let p = err_from_is_err_and c.from_residual-in_err-node.result c.from_residual-in_err-node.ensures.1 in
    let old = g.D.Disk.faults c.args.disk.now in
    let new = g.D.Disk.faults c.page.new.disk in
    record {
      never_falls = c.in_ok-page.ensures.cause.counted.never_falls;
      caused = subst (λ (r : Result Node Fault). IfErr r (IsCaused old new)) (sym (p.1 ∙ ap Err p.2)) (c.in_err-node.ensures.cause old new);
    }

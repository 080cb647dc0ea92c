use Rattle.std.proofs.Common.{◌∙◌, ℕ, List, ap, subst, sym}
use Rattle.hm_key.specs.Counts.{Counts}
use Rattle.hm_records.specs.View.{IsTargetOf}
use Rattle.hm_cursor.specs.Told.{OnBalanced, fulls}
use Rattle.hm_view.specs.Snapshots.{id_number, visible_id}
use Rattle.hm_view.proofs.SnapshotLemmas.{names_link, names_none, names_other}
use Rattle.hm_view.proofs.snapshots.shown_id.Goals as goal

pub returns-in_default-clause-ok : goal.returns-in_default-clause-ok
returns-in_default-clause-ok g c =
    names_none (g.T.HasElements.elements c.args.store.now) (g.T.HasRoom.extents c.args.store.now) c.args.pfs.0 c.args.as_of.0 c.args.object
    c.args.shown.0 (g.met.T.ElementStore.sorted c.args.store.now) c.in_ok-inode.field-0 c.in_default.is c.in_ok-inode.ensures.ok

pub returns-then-inode-ne-SOFTLINK-clause-ok : goal.returns-then-inode-ne-SOFTLINK-clause-ok
returns-then-inode-ne-SOFTLINK-clause-ok g c =
    names_other (g.T.HasElements.elements c.args.store.now) (g.T.HasRoom.extents c.args.store.now) c.args.pfs.0 c.args.as_of.0 c.args.object
    c.args.shown.0 (g.met.T.ElementStore.sorted c.args.store.now) c.in_ok-inode.field-0 c.in-Some.inode c.in-Some.is c.if-inode-ne-SOFTLINK.true
    c.in_ok-inode.ensures.ok

pub returns-clause-ok : goal.returns-clause-ok
returns-clause-ok g c =
    names_link (g.T.HasElements.elements c.args.store.now) (g.T.HasRoom.extents c.args.store.now) c.args.pfs.0 c.args.as_of.0 c.args.object
    c.args.shown.0 (g.met.T.ElementStore.sorted c.args.store.now) c.in_ok-inode.field-0 c.in-Some.inode c.bytes.result.now
    (id_number c.visible_id.result) (g.T.HasElements.elements c.find_inode.new.store) (g.T.HasRoom.extents c.find_inode.new.store)
    c.in_ok-inode.ensures.keeps.elements c.in_ok-inode.ensures.keeps.extents c.in-Some.is c.if-inode-ne-SOFTLINK.false
    (c.visible_id.ensures ∙ ap (visible_id c.args.shown.0) c.named_id.ensures) c.in_ok-inode.ensures.ok
    (subst (λ (text : List ℕ). OnBalanced (g.T.HasElements.elements c.find_inode.new.store) (g.T.HasRoom.extents c.find_inode.new.store)
    (λ lists. IsTargetOf (Counts (fulls lists) c.args.as_of.0) c.args.pfs.0 c.args.object.0 text)) (sym c.bytes.ensures) c.in_ok-target.ensures.ok)

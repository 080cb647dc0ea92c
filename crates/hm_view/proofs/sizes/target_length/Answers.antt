use Rattle.std.proofs.Common.{◌≡◌, List, ℕ, length, sym, subst}
use Rattle.hm_key.specs.Counts.{Counts, subject_of}
use Rattle.hm_key.specs.Key.{key_of}
use Rattle.hm_records.specs.View.{IsTargetOf}
use Rattle.hm_cursor.specs.Told.{OnBalanced, fulls}
use Rattle.hm_view.proofs.SizeLemmas.{length_none, length_some}
use Rattle.hm_view.proofs.sizes.target_length.Goals as goal

pub returns-in-Some-clause-ok : goal.returns-in-Some-clause-ok
returns-in-Some-clause-ok g c =
    let es = g.T.HasElements.elements c.args.store.now in
    let xs = g.T.HasRoom.extents c.args.store.now in
    subst (λ (n : ℕ). OnBalanced es xs (λ lists. (text : List ℕ) → IsTargetOf (Counts (fulls lists) c.args.as_of.0) c.args.pfs.0 c.args.object.0 text
    → n ≡ length text)) (sym c.from.ensures)
    (length_some es xs (subject_of (key_of c.target_base.result)) c.args.as_of.0 c.args.pfs.0 c.args.object.0
    (g.met.T.ElementStore.sorted c.args.store.now) c.target_base.ensures c.in_ok-element.field-0 c.in_ok-element.ensures.ok c.in-Some.element
    (g.met.T.Extents.live c.args.store.now) c.in-Some.is)

pub returns-in-None-clause-ok : goal.returns-in-None-clause-ok
returns-in-None-clause-ok g c =
    length_none (g.T.HasElements.elements c.args.store.now) (g.T.HasRoom.extents c.args.store.now) (subject_of (key_of c.target_base.result))
    c.args.as_of.0 c.args.pfs.0 c.args.object.0 (g.met.T.ElementStore.sorted c.args.store.now) c.target_base.ensures c.in_ok-element.field-0
    c.in_ok-element.ensures.ok c.in-None.is

use Rattle.std.proofs.Common.{List, None, OnOk, subst, sym}
use Rattle.std.proofs.lemmas.Result.{on_ok_weaker}
use Rattle.hm_types.specs.Elements.{FullElement}
use Rattle.hm_types.specs.Tree.{without_object}
use Rattle.hm_key.specs.Counts.{Subject, inode_subject, subject_of, target_subject}
use Rattle.hm_key.specs.Key.{key_of}
use Rattle.hm_cursor.specs.Told.{Lists, fulls}
use Rattle.hm_cursor.specs.Write.{IsFresh, IsFreshFor, Writes}
use Rattle.hm_cursor.proofs.CallLemmas.{Change, Then, known_after, writes_both, writes_so}
use Rattle.hm_objects.specs.Objects.{ChangesBy, IsGone, IsOlder}
use Rattle.hm_objects.proofs.ShownLemmas.{Closed, inode_left, object_closed, object_removed}
use Rattle.hm_objects.proofs.remove.remove_object.Given.{Over}
use Rattle.hm_objects.proofs.remove.remove_object.Goals.{After-close_versions-2}
use Rattle.hm_objects.proofs.remove.remove_object.Goals as goal

pub close_versions-requires-2-clause-fresh : goal.close_versions-requires-2-clause-fresh
close_versions-requires-2-clause-fresh g c =
    subst (λ (s : Subject). IsFresh (g.T.HasElements.elements c.close_versions.new.store) (g.T.HasRoom.extents c.close_versions.new.store) s c.args.id.0)
    (sym c.inode_base.ensures)
    (known_after g.T.HasElements.elements g.T.HasRoom.extents (Closed (subject_of (key_of c.target_base.result)) c.args.id.0)
    (λ lists. IsOlder c.args.pfs.0 c.args.obj.0 c.args.id.0 (fulls lists)) (IsFreshFor (inode_subject c.args.pfs.0 c.args.obj.0) c.args.id.0)
    c.args.store.now c.close_versions.new.store c.in_ok-close_versions.ensures.keeps.elements c.in_ok-close_versions.ensures.keeps.extents
    c.requires.balanced c.requires.older
    (λ was mid older closed. inode_left c.args.pfs.0 c.args.obj.0 c.args.id.0 None (fulls was) mid
    (subst (λ (s : Subject). Closed s c.args.id.0 (fulls was) mid) c.target_base.ensures closed) older)
    c.in_ok-close_versions.ensures.ok)

-- both calls, one after the other
both : (g : Over) (c : After-close_versions-2 g) (B : Change)
    → ((was : Lists) (mid es' : List FullElement) → Closed (target_subject c.args.pfs.0 c.args.obj.0) c.args.id.0 (fulls was) mid
    → Closed (inode_subject c.args.pfs.0 c.args.obj.0) c.args.id.0 mid es' → B (fulls was) es')
    → OnOk c.close_versions-2.result (Writes g.T.HasElements.elements g.T.HasRoom.extents B c.args.store.now c.close_versions-2.new.store)
both g c B makes =
    let One : Change = Closed (subject_of (key_of c.target_base.result)) c.args.id.0 in
    let Other : Change = Closed (subject_of (key_of c.inode_base.result)) c.args.id.0 in
    on_ok_weaker c.close_versions-2.result
    (λ second. writes_so g.T.HasElements.elements g.T.HasRoom.extents (Then One Other) B
    (λ lists. IsOlder c.args.pfs.0 c.args.obj.0 c.args.id.0 (fulls lists)) c.args.store.now c.close_versions-2.new.store c.requires.older
    (λ was es' older steps.
    let (mid, first, then) = steps in
    makes was mid es' (subst (λ (s : Subject). Closed s c.args.id.0 (fulls was) mid) c.target_base.ensures first)
    (subst (λ (s : Subject). Closed s c.args.id.0 mid es') c.inode_base.ensures then))
    (writes_both g.T.HasElements.elements g.T.HasRoom.extents One Other c.args.store.now c.close_versions.new.store c.close_versions-2.new.store
    c.in_ok-close_versions.ensures.ok second))
    c.close_versions-2.ensures.ok

pub returns-clause-ok : goal.returns-clause-ok
returns-clause-ok g c =
    both g c (ChangesBy c.args.pfs.0 c.args.obj.0 c.args.id.0 (λ tree. without_object tree c.args.obj))
    (λ was mid es'. object_removed c.args.pfs.0 c.args.id.0 c.args.obj (fulls was) mid es')

pub returns-clause-gone : goal.returns-clause-gone
returns-clause-gone g c =
    both g c (λ _ es'. IsGone c.args.pfs.0 c.args.obj.0 c.args.id.0 es')
    (λ was mid es'. object_closed c.args.pfs.0 c.args.id.0 c.args.obj (fulls was) mid es')

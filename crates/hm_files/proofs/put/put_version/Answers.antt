use Rattle.std.proofs.Common.{None, Option, Some, subst}
use Rattle.std.specs.Prelude.{IfSome}
use Rattle.std.proofs.lemmas.Result.{on_ok_weaker}
use Rattle.hm_key.specs.Counts.{subject_of}
use Rattle.hm_key.specs.Key.{key_of}
use Rattle.hm_key.specs.declared.element.Element.{Element}
use Rattle.hm_cursor.specs.Version.{IsVersion}
use Rattle.hm_cursor.specs.Write.{FollowWith, Rewrites}
use Rattle.hm_cursor.proofs.CallLemmas.{Change, writes_from, writes_so}
use Rattle.hm_files.proofs.FollowLemmas.{unseen_follows}
use Rattle.hm_files.proofs.TellLemmas.{known_elements}
use Rattle.hm_files.proofs.VersionLemmas.{version_open}
use Rattle.hm_files.proofs.put.put_version.Goals as goal

pub renew_version-requires-clause-there : goal.renew_version-requires-clause-there
renew_version-requires-clause-there g c =
    version_open (g.T.HasElements.elements c.args.store.now) (g.T.HasElements.elements c.version_at.new.store) (g.T.HasRoom.extents c.args.store.now)
    (subject_of (key_of c.args.base.now)) c.args.base.now.create c.in_ok-old.field-0 c.in-Some.old c.in_ok-old.ensures.keeps.elements
    (g.met.T.Extents.together c.args.store.now) (g.met.T.ElementStore.sorted c.args.store.now) c.requires.fresh c.in_ok-old.ensures.ok c.in-Some.is

pub returns-in-None-clause-follows : goal.returns-in-None-clause-follows
returns-in-None-clause-follows g c =
    let elements = g.T.HasElements.elements in
    let extents = g.T.HasRoom.extents in
    let s = subject_of (key_of c.args.base.now) in
    let i = c.args.base.now.create in
    let bytes = c.args.bytes.now in
    let old = c.args.store.now in
    let mid = c.version_at.new.store in
    let new = c.add_version.new.store in
    let New : Change = Rewrites s (Some bytes) i in
    let keeps = c.in_ok-old.ensures.keeps in
    on_ok_weaker c.add_version.result
    (λ added. writes_so elements extents New (FollowWith s bytes i) (λ lists. IsVersion lists.0 s i None) old new
    (known_elements (elements old) (extents old) (λ list. IsVersion list s i None)
    (subst (λ (f : Option Element). IfSome (elements old) (λ list. IsVersion list s i f)) c.in-None.is c.in_ok-old.ensures.ok))
    (λ was es' none wrote. unseen_follows was s bytes i es' none wrote)
    (writes_from elements extents New old mid new keeps.elements keeps.extents added))
    c.add_version.ensures.ok

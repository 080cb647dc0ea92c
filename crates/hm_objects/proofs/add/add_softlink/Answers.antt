use Rattle.std.proofs.Common.{◌≡◌, ◌∙◌, ℕ, List, Some, ap, length, refl, subst, sym}
use Rattle.std.proofs.lemmas.Result.{on_ok_weaker}
use Rattle.hm_key.specs.Counts.{Subject, inode_subject, subject_of, target_subject}
use Rattle.hm_key.specs.Key.{key_of}
use Rattle.hm_key.specs.declared.base.Base.{Base}
use Rattle.hm_records.specs.declared.inode.Inode.{Inode}
use Rattle.hm_records.specs.declared.kind.TheConstants.{SOFTLINK}
use Rattle.hm_cursor.specs.Told.{fulls}
use Rattle.hm_cursor.specs.Write.{IsFresh, IsFreshFor, Rewrites}
use Rattle.hm_cursor.proofs.CallLemmas.{Change, Then, known_after, writes_both, writes_so}
use Rattle.hm_objects.specs.Objects.{AddsObject, IsOlder, inode_of, softlink_of}
use Rattle.hm_objects.proofs.ShownLemmas.{Closed, NewInode, made_as, softlink_added, target_left}
use Rattle.hm_objects.proofs.add.add_softlink.Goals as goal

pub add_version-requires-clause-fresh : goal.add_version-requires-clause-fresh
add_version-requires-clause-fresh g c =
    let s = subject_of (key_of c.made_by-base.result) in
    let i = c.args.id.0 in
    let elements = g.T.HasElements.elements in
    let extents = g.T.HasRoom.extents in
    let old = c.args.store.now in
    let low = c.close_versions.new.store in
    let about : s ≡ target_subject c.args.pfs.0 c.args.number.0 =
    ap (λ (base : Base). subject_of (key_of base)) c.made_by-base.ensures ∙ c.target_base.ensures in
    subst (λ (n : ℕ). IsFresh (elements low) (extents low) s n) (sym (ap (λ (base : Base). base.create) c.made_by-base.ensures))
    (known_after elements extents (Closed s i) (λ lists. IsOlder c.args.pfs.0 c.args.number.0 i (fulls lists)) (IsFreshFor s i) old low
    c.in_ok-close_versions.ensures.keeps.elements c.in_ok-close_versions.ensures.keeps.extents c.requires.balanced c.requires.older
    (λ was mid older closed. closed.closed refl (subst (λ (u : Subject). IsFreshFor u i (fulls was)) (sym about) older.target))
    c.in_ok-close_versions.ensures.ok)

pub add_inode-requires-clause-fresh : goal.add_inode-requires-clause-fresh
add_inode-requires-clause-fresh g c =
    let s = subject_of (key_of c.made_by-base.result) in
    let elements = g.T.HasElements.elements in
    let extents = g.T.HasRoom.extents in
    let pfs = c.args.pfs.0 in
    let i = c.args.id.0 in
    let old = c.args.store.now in
    let low = c.close_versions.new.store in
    let mid = c.add_version.new.store in
    let closed = c.in_ok-close_versions.ensures in
    let added = c.in_ok-add_version.ensures in
    let about : s ≡ target_subject pfs c.args.number.0 =
    ap (λ (base : Base). subject_of (key_of base)) c.made_by-base.ensures ∙ c.target_base.ensures in
    let One : Change = Closed s i in
    let Two : Change = Rewrites s (Some c.bytes.result.now) c.made_by-base.result.create in
    known_after elements extents (Then One Two) (λ lists. IsOlder pfs c.args.number.0 i (fulls lists))
    (IsFreshFor (inode_subject pfs c.args.number.0) i) old mid
    (added.keeps.elements ∙ closed.keeps.elements) (added.keeps.extents ∙ closed.keeps.extents) c.requires.balanced c.requires.older
    (λ was es' older both.
    let (first, one, two) = both in
    target_left pfs c.args.number.0 i (Some c.args.target.now) (fulls was) first es' (subst (λ (u : Subject). Closed u i (fulls was) first) about one)
    (made_as (target_subject pfs c.args.number.0) SOFTLINK i c.target_base.result c.made_by-base.result c.bytes.result.now
    c.args.target.now first es' c.made_by-base.ensures c.target_base.ensures c.bytes.ensures two) older)
    (writes_both elements extents One Two old low mid closed.ok added.ok)

pub returns-clause-ok : goal.returns-clause-ok
returns-clause-ok g c =
    let s = subject_of (key_of c.made_by-base.result) in
    let elements = g.T.HasElements.elements in
    let extents = g.T.HasRoom.extents in
    let pfs = c.args.pfs.0 in
    let i = c.args.id.0 in
    let text = c.args.target.now in
    let old = c.args.store.now in
    let low = c.close_versions.new.store in
    let mid = c.add_version.new.store in
    let One : Change = Closed s i in
    let Two : Change = Rewrites s (Some c.bytes.result.now) c.made_by-base.result.create in
    let Three : Change = NewInode pfs c.args.number.0 i c.new_inode-inode.result in
    let about : s ≡ target_subject pfs c.args.number.0 =
    ap (λ (base : Base). subject_of (key_of base)) c.made_by-base.ensures ∙ c.target_base.ensures in
    on_ok_weaker c.add_inode.result
    (λ third. writes_so elements extents (Then One (Then Two Three)) (AddsObject pfs i (softlink_of c.args.number text))
    (λ lists. IsOlder pfs c.args.number.0 i (fulls lists)) old c.add_inode.new.store c.requires.older
    (λ was es' older all.
    let (first, closed, then) = all in
    let (second, put, last) = then in
    softlink_added pfs i c.args.number text (fulls was) first second es' c.requires.target
    (subst (λ (u : Subject). Closed u i (fulls was) first) about closed)
    (made_as (target_subject pfs c.args.number.0) SOFTLINK i c.target_base.result c.made_by-base.result c.bytes.result.now
    text first second c.made_by-base.ensures c.target_base.ensures c.bytes.ensures put)
    (subst (λ (inode : Inode). NewInode pfs c.args.number.0 i inode second es')
    (c.new_inode-inode.ensures ∙ ap (λ (b : List ℕ). inode_of SOFTLINK (length b)) c.bytes-2.ensures) last))
    (writes_both elements extents One (Then Two Three) old low c.add_inode.new.store c.in_ok-close_versions.ensures.ok
    (writes_both elements extents Two Three low mid c.add_inode.new.store c.in_ok-add_version.ensures.ok third)))
    c.add_inode.ensures.ok

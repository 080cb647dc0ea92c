use Rattle.std.proofs.Common.{ℕ, Option, Some, ap, refl, sym, subst, ◌∙◌}
use Rattle.std.specs.Prelude.{IfSome}
use Rattle.std.proofs.lemmas.Result.{on_ok_weaker}
use Rattle.hm_types.specs.declared.id.Id.{Id}
use Rattle.hm_key.specs.declared.base.Base.{Base}
use Rattle.hm_key.specs.Balance.{content_of}
use Rattle.hm_key.specs.Counts.{inode_subject, subject_of}
use Rattle.hm_key.specs.Key.{key_of}
use Rattle.hm_records.specs.declared.inode.Inode.{Inode}
use Rattle.hm_records.specs.declared.kind.TheConstants.{FILE}
use Rattle.hm_records.specs.Inode.{IsInode, inode_bytes}
use Rattle.hm_cursor.specs.Told.{Lists, fulls}
use Rattle.hm_cursor.specs.Write.{FollowWith, HasRoomFor, Rewrites}
use Rattle.hm_cursor.proofs.CallLemmas.{Change, known_both, writes_from, writes_none, writes_ok, writes_so}
use Rattle.hm_objects.specs.Objects.{IsInodeMade, IsOlder, ResizesObject, sized, spent}
use Rattle.hm_objects.proofs.NewLemmas.{new_inode}
use Rattle.hm_objects.proofs.ShownLemmas.{follow_as, made_as}
use Rattle.hm_objects.proofs.SizeLemmas.{size_given, size_of_none, size_of_other, sized_ranges}
use Rattle.hm_objects.proofs.SpaceLemmas.{inode_room, inode_spends, spends_from}
use Rattle.hm_objects.proofs.VersionLemmas.{version_open}
use Rattle.hm_objects.proofs.sizes.set_size.Goals as goal

pub returns-in_default-clause-ok : goal.returns-in_default-clause-ok
returns-in_default-clause-ok g c =
    let Known : Lists → Type 0 = λ lists. IsOlder c.args.pfs.0 c.args.obj.0 c.args.id.0 (fulls lists)
    × IsInodeMade lists c.args.id.0 c.args.pfs.0 c.args.obj.0 c.in_ok-made.field-0 in
    let told = content_of (g.T.HasElements.elements c.args.store.now) (g.T.HasRoom.extents c.args.store.now) in
    writes_none g.T.HasElements.elements g.T.HasRoom.extents
    (ResizesObject c.args.pfs.0 c.args.obj.0 c.args.id.0 c.args.size) Known c.args.store.now
    c.find_made_inode.new.store c.in_ok-made.ensures.keeps.elements c.in_ok-made.ensures.keeps.extents
    (known_both {R = Known} told (λ lists older made. (older, made)) c.requires.older
    (known_both told (λ lists made balanced. made balanced) c.in_ok-made.ensures.ok c.requires.balanced))
    (λ was known. size_of_none c.args.pfs.0 c.args.id.0 c.args.obj c.args.size (fulls was) known.0.inode
    (subst (λ (o : Option (Id × Inode)). IsInodeMade was c.args.id.0 c.args.pfs.0 c.args.obj.0 o) c.in_default.is known.1))

pub returns-then-inode-ne-FILE-clause-ok : goal.returns-then-inode-ne-FILE-clause-ok
returns-then-inode-ne-FILE-clause-ok g c =
    let Known : Lists → Type 0 = λ lists. IsOlder c.args.pfs.0 c.args.obj.0 c.args.id.0 (fulls lists)
    × IsInodeMade lists c.args.id.0 c.args.pfs.0 c.args.obj.0 c.in_ok-made.field-0 in
    let told = content_of (g.T.HasElements.elements c.args.store.now) (g.T.HasRoom.extents c.args.store.now) in
    writes_none g.T.HasElements.elements g.T.HasRoom.extents (ResizesObject c.args.pfs.0 c.args.obj.0 c.args.id.0 c.args.size) Known c.args.store.now
    c.find_made_inode.new.store c.in_ok-made.ensures.keeps.elements c.in_ok-made.ensures.keeps.extents
    (known_both {R = Known} told (λ lists older made. (older, made)) c.requires.older
    (known_both told (λ lists made balanced. made balanced) c.in_ok-made.ensures.ok c.requires.balanced))
    (λ was known. size_of_other c.args.pfs.0 c.args.id.0 c.args.obj c.args.size (fulls was) known.0.inode c.in-Some.inode
    (subst (λ (o : Option (Id × Inode)). IsInodeMade was c.args.id.0 c.args.pfs.0 c.args.obj.0 o) c.in-Some.is known.1).0 c.if-inode-ne-FILE.true)

pub renew_version-requires-clause-new : goal.renew_version-requires-clause-new
renew_version-requires-clause-new g c =
    let ranges : IsInode c.in-Some.inode =
    subst (λ (o : Option (Id × Inode)). IfSome o (λ pair. IsInode pair.1)) c.in-Some.is c.in_ok-made.ensures.ranges in
    new_inode c.args.pfs.0 c.args.obj.0 c.args.id.0 FILE c.inode_base.result c.made_by-base.result
    (sized c.args.size c.in-Some.inode) c.deref.result.now c.requires.id
    (sized_ranges c.args.size c.in-Some.inode c.ranges.size.fits c.if-inode-ne-FILE.false ranges)
    (sym c.if-inode-ne-FILE.false) c.inode_base.ensures c.made_by-base.ensures
    (c.deref.ensures.value ∙ c.in_ok-bytes.ensures)

pub renew_version-requires-clause-there : goal.renew_version-requires-clause-there
renew_version-requires-clause-there g c =
    version_open (g.T.HasElements.elements c.args.store.now) (g.T.HasElements.elements c.find_made_inode.new.store)
    (g.T.HasRoom.extents c.args.store.now) c.args.pfs.0 c.args.obj.0 c.args.id.0 c.in_ok-made.field-0 c.in-Some.made c.in-Some.inode
    (key_of (record c.made_by-base.result { create = c.in-Some.made.0 })) c.in_ok-made.ensures.keeps.elements
    (g.met.T.Extents.together c.args.store.now) (g.met.T.ElementStore.sorted c.args.store.now) c.requires.balanced c.requires.older
    c.in_ok-made.ensures.ok c.in-Some.is (ap (λ (base : Base). subject_of (key_of base)) c.made_by-base.ensures ∙ c.inode_base.ensures) refl

pub renew_version-requires-clause-room : goal.renew_version-requires-clause-room
renew_version-requires-clause-room g c =
    subst (λ (room : ℕ → ℕ). HasRoomFor room 9 c.deref.result.now) (sym c.in_ok-made.ensures.keeps.room)
    (inode_room (g.T.HasRoom.room c.args.store.now) (sized c.args.size c.in-Some.inode) c.deref.result.now
    (c.deref.ensures.value ∙ c.in_ok-bytes.ensures) c.requires.room)

pub returns-clause-ok : goal.returns-clause-ok
returns-clause-ok g c =
    let Known : Lists → Type 0 = λ lists. IsOlder c.args.pfs.0 c.args.obj.0 c.args.id.0 (fulls lists)
    × IsInodeMade lists c.args.id.0 c.args.pfs.0 c.args.obj.0 c.in_ok-made.field-0 in
    let told = content_of (g.T.HasElements.elements c.args.store.now) (g.T.HasRoom.extents c.args.store.now) in
    let New : Change = Rewrites (subject_of (key_of c.made_by-base.result)) (Some c.deref.result.now) c.made_by-base.result.create in
    let Follow : Change = FollowWith (subject_of (key_of c.made_by-base.result)) c.deref.result.now c.made_by-base.result.create in
    let One : Change = λ es es'. New es es' × Follow es es' in
    on_ok_weaker c.renew_version.result
    (λ writes. writes_so g.T.HasElements.elements g.T.HasRoom.extents One
    (ResizesObject c.args.pfs.0 c.args.obj.0 c.args.id.0 c.args.size) Known c.args.store.now
    c.renew_version.new.store
    (known_both {R = Known} told (λ lists older made. (older, made)) c.requires.older
    (known_both told (λ lists made balanced. made balanced) c.in_ok-made.ensures.ok c.requires.balanced))
    (λ was es' known new. size_given c.args.pfs.0 c.args.id.0 c.args.obj c.args.size (fulls was) known.0.inode c.in-Some.inode
    (subst (λ (o : Option (Id × Inode)). IsInodeMade was c.args.id.0 c.args.pfs.0 c.args.obj.0 o) c.in-Some.is known.1).0 c.if-inode-ne-FILE.false
    c.ranges.size.fits es'
    (made_as (inode_subject c.args.pfs.0 c.args.obj.0) FILE c.args.id.0 c.inode_base.result c.made_by-base.result c.deref.result.now
    (inode_bytes (sized c.args.size c.in-Some.inode)) (fulls was) es' c.made_by-base.ensures c.inode_base.ensures
    (c.deref.ensures.value ∙ c.in_ok-bytes.ensures) new.0)
    (follow_as (inode_subject c.args.pfs.0 c.args.obj.0) FILE c.args.id.0 c.inode_base.result c.made_by-base.result c.deref.result.now
    (inode_bytes (sized c.args.size c.in-Some.inode)) (fulls was) es' c.made_by-base.ensures c.inode_base.ensures
    (c.deref.ensures.value ∙ c.in_ok-bytes.ensures) new.1))
    (writes_from g.T.HasElements.elements g.T.HasRoom.extents One c.args.store.now c.find_made_inode.new.store c.renew_version.new.store
    c.in_ok-made.ensures.keeps.elements c.in_ok-made.ensures.keeps.extents writes))
    (writes_ok g.T.HasElements.elements g.T.HasRoom.extents New Follow c.find_made_inode.new.store c.renew_version.new.store c.renew_version.result
    c.renew_version.ensures.ok c.renew_version.ensures.follows)

pub returns-clause-space : goal.returns-clause-space
returns-clause-space g c =
    spends_from g.T.HasRoom.room g.T.HasRoom.free (spent 1 32) c.args.store.now c.find_made_inode.new.store c.renew_version.new.store
    c.in_ok-made.ensures.keeps.room c.in_ok-made.ensures.keeps.free
    (inode_spends g.T.HasRoom.room g.T.HasRoom.free (sized c.args.size c.in-Some.inode) c.deref.result.now c.find_made_inode.new.store
    c.renew_version.new.store (c.deref.ensures.value ∙ c.in_ok-bytes.ensures) c.renew_version.ensures.space)

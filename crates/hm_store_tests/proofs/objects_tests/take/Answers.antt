use Rattle.std.proofs.Common.{ℕ, Some, ◌+◌, ap, subst}
use Rattle.hm_types.specs.Tree.{directory_of, with_change, with_links, without_object}
use Rattle.hm_key.specs.Counts.{subject_of}
use Rattle.hm_key.specs.Key.{key_of}
use Rattle.hm_key.specs.Memory.{extents_of}
use Rattle.hm_key.specs.Versions.{IsBelow}
use Rattle.hm_key.specs.declared.base.Base.{Base}
use Rattle.hm_key.specs.declared.memory.MemStore.{MemStore}
use Rattle.hm_cursor.specs.Told.{Lists, fulls}
use Rattle.hm_cursor.specs.Write.{Rewrites}
use Rattle.hm_objects.specs.Objects.{AddsObject, ChangesBy, ResizesObject, file_of, pfs_link_of, softlink_of}
use Rattle.hm_store_tests.proofs.TestLemmas.{fresh_below, ready_after}
use Rattle.hm_cursor.proofs.ViewsLemmas.{below_still}
use Rattle.hm_store_tests.proofs.objects_tests.take.Goals as goal

abbrev lists_of : MemStore → Lists
lists_of store = (store.elements.list.items, extents_of store.extents.list.items)

pub add_version-requires-clause-fresh : goal.add_version-requires-clause-fresh
add_version-requires-clause-fresh c =
    rw (c.made_by-base.ensures)
    (fresh_below (subject_of (key_of c.inode_base.result)) c.args.id.0 (fulls (lists_of c.args.store.now)) c.requires.ready.below)

pub returns-in-AddDirectory : goal.returns-in-AddDirectory
returns-in-AddDirectory c =
    ready_after c.add_directory.result c.args.id.0 (lists_of c.args.store.now) (lists_of c.add_directory.new.store)
    (AddsObject 0 c.args.id.0 (directory_of c.args.obj))
    c.requires.ready (λ done. below_still done.writes.up_to) c.add_directory.ensures.ok

pub returns-in-AddFile : goal.returns-in-AddFile
returns-in-AddFile c =
    ready_after c.add_file.result c.args.id.0 (lists_of c.args.store.now) (lists_of c.add_file.new.store)
    (AddsObject 0 c.args.id.0 (file_of c.args.obj))
    c.requires.ready (λ done. below_still done.writes.up_to) c.add_file.ensures.ok

pub returns-in_ok-target-in-AddSoftlink : goal.returns-in_ok-target-in-AddSoftlink
returns-in_ok-target-in-AddSoftlink c =
    ready_after c.add_softlink-in-AddSoftlink.result c.args.id.0 (lists_of c.args.store.now) (lists_of c.add_softlink-in-AddSoftlink.new.store)
    (AddsObject 0 c.args.id.0 (softlink_of c.args.obj _))
    c.requires.ready (λ done. below_still done.writes.up_to) c.add_softlink-in-AddSoftlink.ensures.ok

pub returns-in-AddPfsLink : goal.returns-in-AddPfsLink
returns-in-AddPfsLink c =
    ready_after c.add_pfs_link.result c.args.id.0 (lists_of c.args.store.now) (lists_of c.add_pfs_link.new.store)
    (AddsObject 0 c.args.id.0 (pfs_link_of c.args.obj _))
    c.requires.ready (λ done. below_still done.writes.up_to) c.add_pfs_link.ensures.ok

pub returns-in-AddDamaged : goal.returns-in-AddDamaged
returns-in-AddDamaged c =
    ready_after c.add_version.result c.args.id.0 (lists_of c.args.store.now) (lists_of c.add_version.new.store)
    (Rewrites (subject_of (key_of c.made_by-base.result)) (Some _) c.made_by-base.result.create)
    c.requires.ready
    (λ done. subst
    (λ (i : ℕ). IsBelow (i + 1) (fulls (lists_of c.args.store.now)) → IsBelow (i + 1) (fulls (lists_of c.add_version.new.store)))
    (ap (λ (base : Base). base.create) c.made_by-base.ensures) (below_still done.up_to))
    c.add_version.ensures.ok

pub returns-in-SetLinks : goal.returns-in-SetLinks
returns-in-SetLinks c =
    ready_after c.set_links.result c.args.id.0 (lists_of c.args.store.now) (lists_of c.set_links.new.store)
    (ChangesBy 0 c.args.obj.0 c.args.id.0 (λ tree. with_change tree c.args.obj (with_links _)))
    c.requires.ready (λ done. below_still done.writes.up_to) c.set_links.ensures.ok

pub returns-in-SetSize : goal.returns-in-SetSize
returns-in-SetSize c =
    ready_after c.set_size.result c.args.id.0 (lists_of c.args.store.now) (lists_of c.set_size.new.store)
    (ResizesObject 0 c.args.obj.0 c.args.id.0 _)
    c.requires.ready (λ done. below_still done.writes.up_to) c.set_size.ensures.ok

pub returns-in-Remove : goal.returns-in-Remove
returns-in-Remove c =
    ready_after c.remove_object.result c.args.id.0 (lists_of c.args.store.now) (lists_of c.remove_object.new.store)
    (ChangesBy 0 c.args.obj.0 c.args.id.0 (λ tree. without_object tree c.args.obj))
    c.requires.ready (λ done. below_still done.writes.up_to) c.remove_object.ensures.ok

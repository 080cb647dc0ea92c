use Rattle.std.proofs.Common.{refl, ◌∙◌}
use Rattle.hm_objects.proofs.NewLemmas.{new_inode}
use Rattle.hm_objects.proofs.SpaceLemmas.{inode_room, inode_spends}
use Rattle.hm_objects.proofs.add.add_inode.Goals as goal

pub add_version-requires-clause-new : goal.add_version-requires-clause-new
add_version-requires-clause-new g c =
    new_inode c.args.pfs.0 c.args.number.0 c.args.id.0 c.args.inode.now.kind c.inode_base.result c.made_by-base.result c.args.inode.now
    c.deref.result.now c.requires.id c.requires.inode refl c.inode_base.ensures c.made_by-base.ensures
    (c.deref.ensures.value ∙ c.in_ok-bytes.ensures)

pub add_version-requires-clause-room : goal.add_version-requires-clause-room
add_version-requires-clause-room g c =
    inode_room (g.T.HasRoom.room c.args.store.now) c.args.inode.now c.deref.result.now (c.deref.ensures.value ∙ c.in_ok-bytes.ensures)
    c.requires.room

pub returns-clause-space : goal.returns-clause-space
returns-clause-space g c =
    inode_spends g.T.HasRoom.room g.T.HasRoom.free c.args.inode.now c.deref.result.now c.args.store.now c.add_version.new.store
    (c.deref.ensures.value ∙ c.in_ok-bytes.ensures) c.add_version.ensures.space

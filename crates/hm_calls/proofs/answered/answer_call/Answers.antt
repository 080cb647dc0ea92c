use Rattle.std.proofs.Common.{◌+◌, arith, rules}
use Rattle.std.specs.Prelude.{option_map}
use Rattle.hm_types.specs.declared.id.Id.{Id}
use Rattle.hm_calls.specs.Commands.{reserves_for}
use Rattle.hm_calls.specs.declared.new_systems.NewSystem.TheVariants.{Master, Slave}
use Rattle.hm_calls.specs.declared.pruning.Pruning.TheVariants.{Present, Snapshots}
use Rattle.hm_calls.proofs.AnsweredLemmas.{of_prune, of_system, of_trees, on_trees_else, opened_reply}
use Rattle.hm_calls.proofs.KnownLemmas.{known_next, known_same}
use Rattle.hm_calls.proofs.TakeLemmas.{took_nothing}
use Rattle.hm_calls.proofs.answered.answer_call.Goals as goal

-- ---- one that tells of a pseudo file system

pub returns-in_ok-reply-in-PfsStatus-clause-possible : goal.returns-in_ok-reply-in-PfsStatus-clause-possible
returns-in_ok-reply-in-PfsStatus-clause-possible g c =
    rw c.in-PfsStatus.is (c.in_ok-reply-in-PfsStatus.ensures.possible (option_map (λ (i : Id). i.0) c.args.beside.busy))

pub returns-in_ok-reply-in-PfsStatus-clause-known : goal.returns-in_ok-reply-in-PfsStatus-clause-known
returns-in_ok-reply-in-PfsStatus-clause-known g c =
    let same = c.in_ok-reply-in-PfsStatus.ensures.keeps in
    known_same (g.T.HasElements.elements c.args.store.now) (g.T.HasElements.elements c.pfs_status.new.store) (g.T.HasRoom.extents c.args.store.now)
    (g.T.HasRoom.extents c.pfs_status.new.store) c.args.id.0 same.elements same.extents c.requires.known

pub returns-in_ok-reply-in-PfsStatus-clause-charges : goal.returns-in_ok-reply-in-PfsStatus-clause-charges
returns-in_ok-reply-in-PfsStatus-clause-charges g c =
    let same = c.in_ok-reply-in-PfsStatus.ensures.keeps in
    took_nothing g.T.HasRoom.room g.T.HasRoom.free (reserves_for c.args.command.now) c.args.store.now c.pfs_status.new.store same.room same.free

-- ---- one that makes a pseudo file system

pub returns-in_ok-reply-in-PfsMaster-clause-answers : goal.returns-in_ok-reply-in-PfsMaster-clause-answers
returns-in_ok-reply-in-PfsMaster-clause-answers g c =
    rw c.in-PfsMaster.is (of_system g.T.HasElements.elements g.T.HasElements.mark g.T.HasRoom.extents g.T.HasRoom.room g.T.HasRoom.free
    (g.H.NameHash.hash_of c.args.hash.now) c.args.id.0 c.args.beside c.args.store.now c.make_system.new.store Master _ _
    (c.in_ok-reply-in-PfsMaster.reply, c.in_ok-reply-in-PfsMaster.field-0-1) (omega arith) c.requires.balanced c.in_ok-reply-in-PfsMaster.ensures.founded)

pub returns-in_ok-reply-in-PfsMaster-clause-possible : goal.returns-in_ok-reply-in-PfsMaster-clause-possible
returns-in_ok-reply-in-PfsMaster-clause-possible g c =
    rw c.in-PfsMaster.is (c.in_ok-reply-in-PfsMaster.ensures.possible (option_map (λ (i : Id). i.0) c.args.beside.busy))

pub returns-in_ok-reply-in-PfsSlave-clause-answers : goal.returns-in_ok-reply-in-PfsSlave-clause-answers
returns-in_ok-reply-in-PfsSlave-clause-answers g c =
    rw c.in-PfsSlave.is (of_system g.T.HasElements.elements g.T.HasElements.mark g.T.HasRoom.extents g.T.HasRoom.room g.T.HasRoom.free
    (g.H.NameHash.hash_of c.args.hash.now) c.args.id.0 c.args.beside c.args.store.now c.make_system-in-PfsSlave.new.store Slave _ _
    (c.in_ok-reply-in-PfsSlave.reply, c.in_ok-reply-in-PfsSlave.field-0-1) (omega arith) c.requires.balanced c.in_ok-reply-in-PfsSlave.ensures.founded)

pub returns-in_ok-reply-in-PfsSlave-clause-possible : goal.returns-in_ok-reply-in-PfsSlave-clause-possible
returns-in_ok-reply-in-PfsSlave-clause-possible g c =
    rw c.in-PfsSlave.is (c.in_ok-reply-in-PfsSlave.ensures.possible (option_map (λ (i : Id). i.0) c.args.beside.busy))

-- ---- the opening of a prune

pub returns-in_ok-opened-in-Prune-clause-answers : goal.returns-in_ok-opened-in-Prune-clause-answers
returns-in_ok-opened-in-Prune-clause-answers g c =
    rw c.answer_of.ensures (rw c.in-Prune.is (of_prune g.T.HasElements.elements g.T.HasElements.mark g.T.HasRoom.extents g.T.HasRoom.room
    g.T.HasRoom.free (g.H.NameHash.hash_of c.args.hash.now) c.args.id.0 c.args.beside c.args.store.now c.open_prune.new.store Snapshots _
    c.in_ok-opened-in-Prune.opened c.requires.balanced c.in_ok-opened-in-Prune.ensures.opens c.in_ok-opened-in-Prune.ensures.refused))

pub returns-in_ok-opened-in-Prune-clause-possible : goal.returns-in_ok-opened-in-Prune-clause-possible
returns-in_ok-opened-in-Prune-clause-possible g c =
    let busy = option_map (λ (i : Id). i.0) c.args.beside.busy in
    rw c.answer_of.ensures (rw c.in-Prune.is
    (rw (opened_reply c.in_ok-opened-in-Prune.opened) at (c.in_ok-opened-in-Prune.ensures.possible busy)))

pub returns-in_ok-opened-in-Prune-clause-known : goal.returns-in_ok-opened-in-Prune-clause-known
returns-in_ok-opened-in-Prune-clause-known g c =
    c.in_ok-opened-in-Prune.ensures.known (c.args.id.0 + 1)
    (known_next (g.T.HasElements.elements c.args.store.now) (g.T.HasRoom.extents c.args.store.now) c.args.id.0 c.requires.known)

pub returns-in_ok-opened-in-PruneAll-clause-answers : goal.returns-in_ok-opened-in-PruneAll-clause-answers
returns-in_ok-opened-in-PruneAll-clause-answers g c =
    rw c.answer_of-in-PruneAll.ensures (rw c.in-PruneAll.is (of_prune g.T.HasElements.elements g.T.HasElements.mark g.T.HasRoom.extents
    g.T.HasRoom.room g.T.HasRoom.free (g.H.NameHash.hash_of c.args.hash.now) c.args.id.0 c.args.beside c.args.store.now
    c.open_prune-in-PruneAll.new.store Present _ c.in_ok-opened-in-PruneAll.opened c.requires.balanced c.in_ok-opened-in-PruneAll.ensures.opens
    c.in_ok-opened-in-PruneAll.ensures.refused))

pub returns-in_ok-opened-in-PruneAll-clause-possible : goal.returns-in_ok-opened-in-PruneAll-clause-possible
returns-in_ok-opened-in-PruneAll-clause-possible g c =
    let busy = option_map (λ (i : Id). i.0) c.args.beside.busy in
    rw c.answer_of-in-PruneAll.ensures (rw c.in-PruneAll.is
    (rw (opened_reply c.in_ok-opened-in-PruneAll.opened) at (c.in_ok-opened-in-PruneAll.ensures.possible busy)))

pub returns-in_ok-opened-in-PruneAll-clause-known : goal.returns-in_ok-opened-in-PruneAll-clause-known
returns-in_ok-opened-in-PruneAll-clause-known g c =
    c.in_ok-opened-in-PruneAll.ensures.known (c.args.id.0 + 1)
    (known_next (g.T.HasElements.elements c.args.store.now) (g.T.HasRoom.extents c.args.store.now) c.args.id.0 c.requires.known)

-- ---- one on trees

pub returns-in_ok-reply-in_default : goal.returns-in_ok-reply-in_default
returns-in_ok-reply-in_default g c =
    let done = c.in_ok-reply-in_default.ensures in
    record {
      answers = of_trees g.T.HasElements.elements g.T.HasElements.mark g.T.HasRoom.extents g.T.HasRoom.room g.T.HasRoom.free
          (g.H.NameHash.hash_of c.args.hash.now) c.args.id.0 c.args.beside c.args.store.now c.answer.new.store c.args.command.now
          c.in_ok-reply-in_default.reply
          (on_trees_else c.args.command.now c.requires.command.0 c.in_default.not-Prune c.in_default.not-PruneAll c.in_default.not-PfsMaster
          c.in_default.not-PfsSlave c.in_default.not-PfsStatus) done.replies;
      possible = done.possible;
      known = done.known;
      keeps = record { elements = done.keeps.elements; extents = done.keeps.extents };
      room = done.room;
      charges = done.charges;
      borrowed = done.borrowed;
      cause = search rules;
    }

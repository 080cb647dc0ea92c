use Rattle.std.specs.Prelude.{option_map}
use Rattle.hm_types.specs.declared.id.Id.{Id}
use Rattle.hm_calls.proofs.AnswerLemmas.{refused_same, replies_accepted, replies_refused}
use Rattle.hm_calls.specs.Commands.{reserves_for}
use Rattle.hm_calls.proofs.KnownLemmas.{known_same}
use Rattle.hm_calls.proofs.TakeLemmas.{took_nothing}
use Rattle.hm_calls.proofs.calls.answer.Goals as goal

pub returns-in-Ok-clause-replies : goal.returns-in-Ok-clause-replies
returns-in-Ok-clause-replies g c =
    replies_accepted g.T.HasElements.elements g.T.HasElements.mark g.T.HasRoom.extents g.T.HasRoom.room g.T.HasRoom.free
    (g.H.NameHash.hash_of c.args.hash.now) c.args.id.0 c.args.command.now c.args.busy c.args.store.now c.serve.new.store c.in-Ok.reply
    c.in-Ok.ensures.answers c.in-Ok.ensures.done

pub returns-in-Err-Refused-clause-replies : goal.returns-in-Err-Refused-clause-replies
returns-in-Err-Refused-clause-replies g c =
    replies_refused g.T.HasElements.elements g.T.HasElements.mark g.T.HasRoom.extents g.T.HasRoom.room g.T.HasRoom.free
    (g.H.NameHash.hash_of c.args.hash.now) c.args.id.0 c.args.command.now c.args.busy c.args.store.now c.serve.new.store c.in-Err-Refused.reply
    c.requires.balanced (rw c.in-Err-Refused.field-0-is at c.in-Err-Refused.ensures.answers)

pub returns-in-Err-Refused-clause-known : goal.returns-in-Err-Refused-clause-known
returns-in-Err-Refused-clause-known g c =
    let same = refused_same g.T.HasElements.elements g.T.HasElements.mark g.T.HasRoom.extents g.T.HasRoom.room g.T.HasRoom.free
    (g.H.NameHash.hash_of c.args.hash.now) c.args.id.0 c.args.command.now c.args.busy c.args.store.now c.serve.new.store c.in-Err-Refused.reply
    (rw c.in-Err-Refused.field-0-is at c.in-Err-Refused.ensures.answers) in
    known_same (g.T.HasElements.elements c.args.store.now) (g.T.HasElements.elements c.serve.new.store) (g.T.HasRoom.extents c.args.store.now)
    (g.T.HasRoom.extents c.serve.new.store) c.args.id.0 same.elements same.extents c.requires.known

pub returns-in-Err-Refused-clause-charges : goal.returns-in-Err-Refused-clause-charges
returns-in-Err-Refused-clause-charges g c =
    let same = refused_same g.T.HasElements.elements g.T.HasElements.mark g.T.HasRoom.extents g.T.HasRoom.room g.T.HasRoom.free
    (g.H.NameHash.hash_of c.args.hash.now) c.args.id.0 c.args.command.now c.args.busy c.args.store.now c.serve.new.store c.in-Err-Refused.reply
    (rw c.in-Err-Refused.field-0-is at c.in-Err-Refused.ensures.answers) in
    took_nothing g.T.HasRoom.room g.T.HasRoom.free (reserves_for c.args.command.now) c.args.store.now c.serve.new.store same.room same.free

pub returns-in-Ok-clause-possible : goal.returns-in-Ok-clause-possible
returns-in-Ok-clause-possible g c = c.in-Ok.ensures.gives (option_map (λ (i : Id). i.0) c.args.busy)

pub returns-in-Err-Refused-clause-possible : goal.returns-in-Err-Refused-clause-possible
returns-in-Err-Refused-clause-possible g c =
    (rw c.in-Err-Refused.field-0-is at c.in-Err-Refused.ensures.gives) (option_map (λ (i : Id). i.0) c.args.busy)

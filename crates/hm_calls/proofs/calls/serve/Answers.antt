use Rattle.std.proofs.Common.{sym}
use Rattle.std.proofs.lemmas.Bool.{false≢true}
use Rattle.hm_calls.specs.Commands.{reserves_for}
use Rattle.hm_calls.proofs.KnownLemmas.{known_same, on_ok_always}
use Rattle.hm_calls.proofs.TakeLemmas.{takes_same}
use Rattle.hm_calls.proofs.calls.serve.Goals as goal

pub returns-in-Ln-clause-answers : goal.returns-in-Ln-clause-answers
returns-in-Ln-clause-answers g c = rw c.in-Ln.is (record { acts = λ _. c.link.ensures.answers; looks = λ no. absurd (false≢true (sym no)) })

pub returns-in-Ls-clause-known : goal.returns-in-Ls-clause-known
returns-in-Ls-clause-known g c =
    on_ok_always c.list_names.result _ (known_same (g.T.HasElements.elements c.args.store.now) (g.T.HasElements.elements c.list_names.new.store)
    (g.T.HasRoom.extents c.args.store.now) (g.T.HasRoom.extents c.list_names.new.store) c.args.id.0 c.list_names.ensures.keeps.elements
    c.list_names.ensures.keeps.extents c.requires.known)

pub returns-in-Stat-clause-known : goal.returns-in-Stat-clause-known
returns-in-Stat-clause-known g c =
    on_ok_always c.tell_status.result _ (known_same (g.T.HasElements.elements c.args.store.now) (g.T.HasElements.elements c.tell_status.new.store)
    (g.T.HasRoom.extents c.args.store.now) (g.T.HasRoom.extents c.tell_status.new.store) c.args.id.0 c.tell_status.ensures.keeps.elements
    c.tell_status.ensures.keeps.extents c.requires.known)

pub returns-in-Readlink-clause-known : goal.returns-in-Readlink-clause-known
returns-in-Readlink-clause-known g c =
    on_ok_always c.tell_target.result _ (known_same (g.T.HasElements.elements c.args.store.now) (g.T.HasElements.elements c.tell_target.new.store)
    (g.T.HasRoom.extents c.args.store.now) (g.T.HasRoom.extents c.tell_target.new.store) c.args.id.0 c.tell_target.ensures.keeps.elements
    c.tell_target.ensures.keeps.extents c.requires.known)

pub returns-in-Cat-clause-known : goal.returns-in-Cat-clause-known
returns-in-Cat-clause-known g c =
    on_ok_always c.tell_bytes.result _ (known_same (g.T.HasElements.elements c.args.store.now) (g.T.HasElements.elements c.tell_bytes.new.store)
    (g.T.HasRoom.extents c.args.store.now) (g.T.HasRoom.extents c.tell_bytes.new.store) c.args.id.0 c.tell_bytes.ensures.keeps.elements
    c.tell_bytes.ensures.keeps.extents c.requires.known)

pub returns-in-Ls-clause-room : goal.returns-in-Ls-clause-room
returns-in-Ls-clause-room g c = (
  takes_same g.T.HasRoom.room g.T.HasRoom.free (reserves_for c.args.command.now) c.args.store.now c.list_names.new.store c.list_names.result
      c.list_names.ensures.keeps.room c.list_names.ensures.keeps.free,
  c.list_names.ensures.borrowed.0,
  c.list_names.ensures.borrowed.1,
)

pub returns-in-Cat-clause-room : goal.returns-in-Cat-clause-room
returns-in-Cat-clause-room g c = (
  takes_same g.T.HasRoom.room g.T.HasRoom.free (reserves_for c.args.command.now) c.args.store.now c.tell_bytes.new.store c.tell_bytes.result
      c.tell_bytes.ensures.keeps.room c.tell_bytes.ensures.keeps.free,
  c.tell_bytes.ensures.borrowed.0,
  c.tell_bytes.ensures.borrowed.1,
)

pub returns-in-Stat-clause-room : goal.returns-in-Stat-clause-room
returns-in-Stat-clause-room g c = (
  takes_same g.T.HasRoom.room g.T.HasRoom.free (reserves_for c.args.command.now) c.args.store.now c.tell_status.new.store c.tell_status.result
      c.tell_status.ensures.keeps.room c.tell_status.ensures.keeps.free,
  c.tell_status.ensures.borrowed.0,
  c.tell_status.ensures.borrowed.1,
)

pub returns-in-Readlink-clause-room : goal.returns-in-Readlink-clause-room
returns-in-Readlink-clause-room g c = (
  takes_same g.T.HasRoom.room g.T.HasRoom.free (reserves_for c.args.command.now) c.args.store.now c.tell_target.new.store c.tell_target.result
      c.tell_target.ensures.keeps.room c.tell_target.ensures.keeps.free,
  c.tell_target.ensures.borrowed.0,
  c.tell_target.ensures.borrowed.1,
)

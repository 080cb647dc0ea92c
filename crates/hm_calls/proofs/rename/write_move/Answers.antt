use Rattle.std.proofs.Common.{arith, refl, subst, sym}
use Rattle.hm_calls.specs.Moves.{WritesMove}
use Rattle.hm_calls.specs.Writes.{place_of_name}
use Rattle.hm_calls.specs.declared.rename.Move.{Move}
use Rattle.hm_calls.proofs.LinkCallLemmas.{wrote_nothing}
use Rattle.hm_calls.proofs.MoveStageLemmas.{older_in}
use Rattle.hm_calls.proofs.StageLemmas.{Wrote}
use Rattle.hm_calls.proofs.rename.write_move.Goals as goal

pub rename-requires-clause-older : goal.rename-requires-clause-older
rename-requires-clause-older g c =
    let es = g.T.HasElements.elements c.args.store.now in
    let xs = g.T.HasRoom.extents c.args.store.now in (
      older_in es xs c.args.new.directory.now.at.pfs.0 c.args.id.0 c.args.old.directory.now.at.object c.requires.below,
      older_in es xs c.args.new.directory.now.at.pfs.0 c.args.id.0 c.args.new.directory.now.at.object c.requires.below,
    )

pub returns-in-Itself-clause-ok : goal.returns-in-Itself-clause-ok
returns-in-Itself-clause-ok g c =
    let es = g.T.HasElements.elements c.args.store.now in
    let xs = g.T.HasRoom.extents c.args.store.now in
    let hash = g.H.NameHash.hash_of c.args.hash.now in
    subst (λ (m : Move). Wrote (WritesMove hash (place_of_name c.args.old) (place_of_name c.args.new) c.args.id.0 c.args.moved m) es xs es xs)
    (sym c.in-Itself.is) (wrote_nothing es es xs xs refl refl)

pub returns-in-Itself-clause-space : goal.returns-in-Itself-clause-space
returns-in-Itself-clause-space g c = record { room = λ zone. omega arith; free = omega arith }

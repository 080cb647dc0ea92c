use Rattle.std.proofs.Common.{Some}
use Rattle.hm_key.specs.Counts.{subject_of}
use Rattle.hm_key.specs.Key.{key_of}
use Rattle.hm_calls_bench.proofs.FreshLemmas.{made_fresh, made_same, made_written}
use Rattle.hm_calls_bench.proofs.volume.put.Goals as goal

pub add_version-requires-clause-fresh : goal.add_version-requires-clause-fresh
add_version-requires-clause-fresh g c =
    let same = c.in-Ok.ensures.answers.content in
    made_fresh (g.T.HasElements.elements c.admit.new.self) (g.T.HasRoom.extents c.admit.new.self) (subject_of (key_of (record c.args.about.now {
      create = c.args.id;
      delete = 0;
      obj_type = 1;
      btype = 1;
    }))) c.args.id (made_same same.elements same.extents c.requires)

pub returns-in_ok-add_version-in-Ok : goal.returns-in_ok-add_version-in-Ok
returns-in_ok-add_version-in-Ok g c =
    let same = c.in-Ok.ensures.answers.content in
    let wrote = c.in_ok-add_version-in-Ok.ensures in
    made_written (subject_of (key_of (record c.args.about.now {
      create = c.args.id;
      delete = 0;
      obj_type = 1;
      btype = 1;
    }))) (Some c.args.bytes.now) c.args.id (g.T.HasElements.elements c.admit.new.self) (g.T.HasElements.elements c.add_version.new.store)
    (g.T.HasRoom.extents c.admit.new.self) (g.T.HasRoom.extents c.add_version.new.store) wrote.keeps.elements wrote.keeps.extents
    (made_same same.elements same.extents c.requires) wrote.ok

use Rattle.hm_header.proofs.AnswerLemmas.{OnOk-map}
use Rattle.hm_newfs.proofs.StepLemmas.{all-done, all-ended, body-done, body-ended, first-done, first-ended, second-done, second-ended, tree-done, tree-ended}
use Rattle.hm_newfs.proofs.volume.write_contents.Goals as goal

pub returns-in_err-write_body-clause-any_moment : goal.returns-in_err-write_body-clause-any_moment
returns-in_err-write_body-clause-any_moment g c =
    body-ended c.args.bigblocks c.requires.size (g.D.Disk.left_since c.args.disk.now) _ c.requires.room (g.D.Disk.left_since c.args.disk.now) _
    (g.D.Disk.told c.args.disk.now) _ c.requires.closed c.in_err-write_body.ensures.any_moment

pub returns-in_err-write_layer-clause-any_moment : goal.returns-in_err-write_layer-clause-any_moment
returns-in_err-write_layer-clause-any_moment g c =
    let b = c.args.bigblocks in
    let size = c.requires.size in
    let room = c.requires.room in
    let past = g.D.Disk.left_since c.args.disk.now in
    let old = g.D.Disk.told c.args.disk.now in
    let body = body-done b size past old room past _ old _ c.requires.closed c.in_ok-write_body.ensures.ok c.in_ok-write_body.ensures.any_moment in
    first-ended b size past old room _ _ _ _ body c.in_err-write_layer.ensures.any_moment

pub returns-in_err-write_layer-2-clause-any_moment : goal.returns-in_err-write_layer-2-clause-any_moment
returns-in_err-write_layer-2-clause-any_moment g c =
    let b = c.args.bigblocks in
    let size = c.requires.size in
    let room = c.requires.room in
    let past = g.D.Disk.left_since c.args.disk.now in
    let old = g.D.Disk.told c.args.disk.now in
    let body = body-done b size past old room past _ old _ c.requires.closed c.in_ok-write_body.ensures.ok c.in_ok-write_body.ensures.any_moment in
    let first = first-done b size past old room _ _ _ _ body c.in_ok-write_layer.ensures.ok c.in_ok-write_layer.ensures.any_moment in
    second-ended b size past old room _ _ _ _ first c.in_err-write_layer-2.ensures.any_moment

pub returns-in_err-write_tree-clause-any_moment : goal.returns-in_err-write_tree-clause-any_moment
returns-in_err-write_tree-clause-any_moment g c =
    let b = c.args.bigblocks in
    let size = c.requires.size in
    let room = c.requires.room in
    let past = g.D.Disk.left_since c.args.disk.now in
    let old = g.D.Disk.told c.args.disk.now in
    let body = body-done b size past old room past _ old _ c.requires.closed c.in_ok-write_body.ensures.ok c.in_ok-write_body.ensures.any_moment in
    let first = first-done b size past old room _ _ _ _ body c.in_ok-write_layer.ensures.ok c.in_ok-write_layer.ensures.any_moment in
    let second = second-done b size past old room _ _ _ _ first c.in_ok-write_layer-2.ensures.ok c.in_ok-write_layer-2.ensures.any_moment in
    tree-ended b size past old room _ _ _ _ second c.in_err-write_tree.ensures.any_moment

pub returns-clause-ok : goal.returns-clause-ok
returns-clause-ok g c =
    let b = c.args.bigblocks in
    let size = c.requires.size in
    let room = c.requires.room in
    let past = g.D.Disk.left_since c.args.disk.now in
    let old = g.D.Disk.told c.args.disk.now in
    let body = body-done b size past old room past _ old _ c.requires.closed c.in_ok-write_body.ensures.ok c.in_ok-write_body.ensures.any_moment in
    let first = first-done b size past old room _ _ _ _ body c.in_ok-write_layer.ensures.ok c.in_ok-write_layer.ensures.any_moment in
    let second = second-done b size past old room _ _ _ _ first c.in_ok-write_layer-2.ensures.ok c.in_ok-write_layer-2.ensures.any_moment in
    let tree = tree-done b size past old room _ _ _ _ second c.in_ok-write_tree.ensures.ok c.in_ok-write_tree.ensures.any_moment in
    OnOk-map _ _ _ (all-done b size past old room _ (g.D.Disk.left_since c.sync.new.self) _ _ tree) c.sync.ensures.ok

pub returns-clause-any_moment : goal.returns-clause-any_moment
returns-clause-any_moment g c =
    let b = c.args.bigblocks in
    let size = c.requires.size in
    let room = c.requires.room in
    let past = g.D.Disk.left_since c.args.disk.now in
    let old = g.D.Disk.told c.args.disk.now in
    let body = body-done b size past old room past _ old _ c.requires.closed c.in_ok-write_body.ensures.ok c.in_ok-write_body.ensures.any_moment in
    let first = first-done b size past old room _ _ _ _ body c.in_ok-write_layer.ensures.ok c.in_ok-write_layer.ensures.any_moment in
    let second = second-done b size past old room _ _ _ _ first c.in_ok-write_layer-2.ensures.ok c.in_ok-write_layer-2.ensures.any_moment in
    let tree = tree-done b size past old room _ _ _ _ second c.in_ok-write_tree.ensures.ok c.in_ok-write_tree.ensures.any_moment in
    all-ended b size past old room _ _ _ _ tree c.sync.ensures.any_moment

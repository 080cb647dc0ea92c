use Rattle.hm_key.specs.Elements.{removed}
use Rattle.hm_key.specs.Key.{key_of}
use Rattle.hm_btree.specs.Marking.{TakesOut}
use Rattle.hm_btree.specs.Space.{HasLost, IsUpdated}
use Rattle.hm_btree.proofs.KeptLemmas.{kept_read, kept_change, kept_both}
use Rattle.hm_btree.proofs.SpendLemmas.{spends_nothing, spends_both}
use Rattle.hm_btree.proofs.UnrootLemmas.{holds_lowered, low_there, updated_result, dropped_result}
use Rattle.std.proofs.Common.{ap, arith}
use Rattle.hm_node.specs.Node.{node_in}
use Rattle.hm_btree.proofs.LowestLemmas.{only_child_is}
use Rattle.hm_btree.proofs.StepLemmas.{level_most}
use Rattle.hm_btree.proofs.top.remove_from.Goals as goal

pub returns-in_err-step_into-clause-spent : goal.returns-in_err-step_into-clause-spent
returns-in_err-step_into-clause-spent g c =
    let same = g.met.S.NodeSpace.rests c.args.space.now c.step_into.new.pages c.step_into.ensures.same.rest in
    spends_nothing g.S.Counted g.S.HasRoom c.args.space.now c.step_into.new.pages same c.step_into.ensures.same.name c.step_into.ensures.same.frame

pub returns-in_err-root-clause-spent : goal.returns-in_err-root-clause-spent
returns-in_err-root-clause-spent g c =
    let same = g.met.S.NodeSpace.rests c.args.space.now c.step_into.new.pages c.step_into.ensures.same.rest in
    spends_both g.S.Counted g.S.HasRoom c.args.space.now c.step_into.new.pages c.lowest.new.space (spends_nothing g.S.Counted g.S.HasRoom c.args.space.now
    c.step_into.new.pages same c.step_into.ensures.same.name c.step_into.ensures.same.frame) c.lowest.ensures.spent

pub remove_below-requires-clause-told : goal.remove_below-requires-clause-told
remove_below-requires-clause-told g c =
    holds_lowered (key_of c.args.at.now) c.args.root c.in_ok-root.root (node_in c.lowest.new.page) (g.S.Pages.pages c.args.space.now)
    (g.S.Pages.pages c.step_into.new.pages) (g.S.Pages.pages c.lowest.new.space) c.step_into.ensures.same.pages
    c.in_ok-root.ensures.done.lowered c.in_ok-root.ensures.done.kept.told c.requires.there

pub returns-in_err-changed-clause-spent : goal.returns-in_err-changed-clause-spent
returns-in_err-changed-clause-spent g c =
    let same = g.met.S.NodeSpace.rests c.args.space.now c.step_into.new.pages c.step_into.ensures.same.rest in
    let lower = spends_both g.S.Counted g.S.HasRoom c.args.space.now c.step_into.new.pages c.lowest.new.space
    (spends_nothing g.S.Counted g.S.HasRoom c.args.space.now c.step_into.new.pages same c.step_into.ensures.same.name c.step_into.ensures.same.frame)
    c.lowest.ensures.spent in
    spends_both g.S.Counted g.S.HasRoom c.args.space.now c.lowest.new.space c.remove_below.new.space lower c.remove_below.ensures.spent

pub drop_node-requires : goal.drop_node-requires
drop_node-requires g c =
    low_there (key_of c.args.at.now) c.args.root c.in_ok-root.root (node_in c.lowest.new.page) (g.S.Pages.pages c.args.space.now)
    (g.S.Pages.pages c.step_into.new.pages) (g.S.Pages.pages c.lowest.new.space) c.step_into.ensures.same.pages
    c.in_ok-root.ensures.done.lowered c.in_ok-root.ensures.done.kept.told
    (removed (key_of c.args.at.now)) TakesOut (g.S.Pages.pages c.remove_below.new.space) (node_in c.remove_below.new.page)
    c.in_ok-changed.ensures.done.shrinks c.in_ok-changed.ensures.done.kept.told c.requires.there

pub returns-in_err-drop_node-in-Some-clause-spent : goal.returns-in_err-drop_node-in-Some-clause-spent
returns-in_err-drop_node-in-Some-clause-spent g c =
    let same = g.met.S.NodeSpace.rests c.args.space.now c.step_into.new.pages c.step_into.ensures.same.rest in
    let lower = spends_both g.S.Counted g.S.HasRoom c.args.space.now c.step_into.new.pages c.lowest.new.space
    (spends_nothing g.S.Counted g.S.HasRoom c.args.space.now c.step_into.new.pages same c.step_into.ensures.same.name c.step_into.ensures.same.frame)
    c.lowest.ensures.spent in
    let shrunk = spends_both g.S.Counted g.S.HasRoom c.args.space.now c.lowest.new.space c.remove_below.new.space lower c.remove_below.ensures.spent in
    spends_both g.S.Counted g.S.HasRoom c.args.space.now c.remove_below.new.space c.drop_node.new.self shrunk c.drop_node.ensures.spent

pub returns-in_err-update_page-in-None-clause-spent : goal.returns-in_err-update_page-in-None-clause-spent
returns-in_err-update_page-in-None-clause-spent g c =
    let same = g.met.S.NodeSpace.rests c.args.space.now c.step_into.new.pages c.step_into.ensures.same.rest in
    let lower = spends_both g.S.Counted g.S.HasRoom c.args.space.now c.step_into.new.pages c.lowest.new.space
    (spends_nothing g.S.Counted g.S.HasRoom c.args.space.now c.step_into.new.pages same c.step_into.ensures.same.name c.step_into.ensures.same.frame)
    c.lowest.ensures.spent in
    let shrunk = spends_both g.S.Counted g.S.HasRoom c.args.space.now c.lowest.new.space c.remove_below.new.space lower c.remove_below.ensures.spent in
    let kept = g.met.S.NodeSpace.rests c.remove_below.new.space c.update_page.new.space c.update_page.ensures.rest in
    spends_both g.S.Counted g.S.HasRoom c.args.space.now c.remove_below.new.space c.update_page.new.space shrunk
    (spends_nothing g.S.Counted g.S.HasRoom c.remove_below.new.space c.update_page.new.space kept c.update_page.ensures.stays.name
    c.update_page.ensures.stays.frame)

pub returns-in_ok-drop_node-in-Some-clause-done : goal.returns-in_ok-drop_node-in-Some-clause-done
returns-in_ok-drop_node-in-Some-clause-done g c =
    record {
      tree = dropped_result (key_of c.args.at.now) c.args.root c.in_ok-root.root (node_in c.lowest.new.page) (g.S.Pages.pages c.args.space.now)
          (g.S.Pages.pages c.step_into.new.pages) (g.S.Pages.pages c.lowest.new.space) c.step_into.ensures.same.pages
          c.in_ok-root.ensures.done.lowered c.in_ok-root.ensures.done.kept.told
          (removed (key_of c.args.at.now)) TakesOut (g.S.Pages.pages c.remove_below.new.space) (node_in c.remove_below.new.page)
          c.in_ok-changed.ensures.done.shrinks c.in_ok-changed.ensures.done.kept.told (g.S.Pages.pages c.drop_node.new.self)
          c.in-Some.below.at (only_child_is c.remove_below.new.page c.in-Some.below c.in-Some.ensures.one) c.in_ok-drop_node-in-Some.ensures.ok;
      kept = let same = g.met.S.NodeSpace.rests c.args.space.now c.step_into.new.pages c.step_into.ensures.same.rest in
          let read = kept_read g.S.Pages g.S.HasRoom c.args.space.now c.step_into.new.pages same.2 c.step_into.ensures.same.pages in
          let low = kept_both g.S.Pages g.S.HasRoom c.args.space.now c.step_into.new.pages c.lowest.new.space read c.in_ok-root.ensures.done.kept in
          let below = kept_both g.S.Pages g.S.HasRoom c.args.space.now c.lowest.new.space c.remove_below.new.space low
          c.in_ok-changed.ensures.done.kept in
          kept_both g.S.Pages g.S.HasRoom c.args.space.now c.remove_below.new.space c.drop_node.new.self below
          (kept_change g.S.Pages g.S.HasRoom c.remove_below.new.space c.drop_node.new.self (HasLost c.in_ok-root.root)
          c.in_ok-drop_node-in-Some.ensures.extents c.in_ok-drop_node-in-Some.ensures.ok);
    }

pub returns-in_ok-drop_node-in-Some-clause-spent : goal.returns-in_ok-drop_node-in-Some-clause-spent
returns-in_ok-drop_node-in-Some-clause-spent g c =
    let same = g.met.S.NodeSpace.rests c.args.space.now c.step_into.new.pages c.step_into.ensures.same.rest in
    let lower = spends_both g.S.Counted g.S.HasRoom c.args.space.now c.step_into.new.pages c.lowest.new.space
    (spends_nothing g.S.Counted g.S.HasRoom c.args.space.now c.step_into.new.pages same c.step_into.ensures.same.name c.step_into.ensures.same.frame)
    c.lowest.ensures.spent in
    let shrunk = spends_both g.S.Counted g.S.HasRoom c.args.space.now c.lowest.new.space c.remove_below.new.space lower c.remove_below.ensures.spent in
    spends_both g.S.Counted g.S.HasRoom c.args.space.now c.remove_below.new.space c.drop_node.new.self shrunk c.drop_node.ensures.spent

pub returns-in_ok-update_page-in-None-clause-done : goal.returns-in_ok-update_page-in-None-clause-done
returns-in_ok-update_page-in-None-clause-done g c =
    record {
      tree = updated_result (key_of c.args.at.now) c.args.root c.in_ok-root.root (node_in c.lowest.new.page) (g.S.Pages.pages c.args.space.now)
          (g.S.Pages.pages c.step_into.new.pages) (g.S.Pages.pages c.lowest.new.space) c.step_into.ensures.same.pages
          c.in_ok-root.ensures.done.lowered c.in_ok-root.ensures.done.kept.told
          (removed (key_of c.args.at.now)) TakesOut (g.S.Pages.pages c.remove_below.new.space) (node_in c.remove_below.new.page)
          c.in_ok-changed.ensures.done.shrinks c.in_ok-changed.ensures.done.kept.told (g.S.Pages.pages c.update_page.new.space)
          c.in_ok-changed.changed (λ no. ap node_in (c.in_ok-changed.ensures.done.same no)) c.in_ok-update_page-in-None.ensures.ok;
      kept = let same = g.met.S.NodeSpace.rests c.args.space.now c.step_into.new.pages c.step_into.ensures.same.rest in
          let kept = g.met.S.NodeSpace.rests c.remove_below.new.space c.update_page.new.space c.update_page.ensures.rest in
          let read = kept_read g.S.Pages g.S.HasRoom c.args.space.now c.step_into.new.pages same.2 c.step_into.ensures.same.pages in
          let low = kept_both g.S.Pages g.S.HasRoom c.args.space.now c.step_into.new.pages c.lowest.new.space read c.in_ok-root.ensures.done.kept in
          let below = kept_both g.S.Pages g.S.HasRoom c.args.space.now c.lowest.new.space c.remove_below.new.space low
          c.in_ok-changed.ensures.done.kept in
          kept_both g.S.Pages g.S.HasRoom c.args.space.now c.remove_below.new.space c.update_page.new.space below
          (kept_change g.S.Pages g.S.HasRoom c.remove_below.new.space c.update_page.new.space
          (IsUpdated c.in_ok-changed.changed c.in_ok-root.root (node_in c.remove_below.new.page)) kept.2 c.in_ok-update_page-in-None.ensures.ok);
    }

pub returns-in_ok-update_page-in-None-clause-spent : goal.returns-in_ok-update_page-in-None-clause-spent
returns-in_ok-update_page-in-None-clause-spent g c =
    let same = g.met.S.NodeSpace.rests c.args.space.now c.step_into.new.pages c.step_into.ensures.same.rest in
    let lower = spends_both g.S.Counted g.S.HasRoom c.args.space.now c.step_into.new.pages c.lowest.new.space
    (spends_nothing g.S.Counted g.S.HasRoom c.args.space.now c.step_into.new.pages same c.step_into.ensures.same.name c.step_into.ensures.same.frame)
    c.lowest.ensures.spent in
    let shrunk = spends_both g.S.Counted g.S.HasRoom c.args.space.now c.lowest.new.space c.remove_below.new.space lower c.remove_below.ensures.spent in
    let kept = g.met.S.NodeSpace.rests c.remove_below.new.space c.update_page.new.space c.update_page.ensures.rest in
    spends_both g.S.Counted g.S.HasRoom c.args.space.now c.remove_below.new.space c.update_page.new.space shrunk
    (spends_nothing g.S.Counted g.S.HasRoom c.remove_below.new.space c.update_page.new.space kept c.update_page.ensures.stays.name
    c.update_page.ensures.stays.frame)

pub returns-in_err-root-clause-steps : goal.returns-in_err-root-clause-steps
returns-in_err-root-clause-steps g c =
    let most = level_most (node_in c.step_into.new.page) c.in_ok-step_into.ensures.visits.holds.level in
    omega (arith, c.step_into.ensures.step, c.lowest.ensures.steps, most)

pub returns-in_err-changed-clause-steps : goal.returns-in_err-changed-clause-steps
returns-in_err-changed-clause-steps g c =
    let most = level_most (node_in c.step_into.new.page) c.in_ok-step_into.ensures.visits.holds.level in
    let low = level_most (node_in c.lowest.new.page) c.in_ok-root.ensures.done.stands.1.level in
    omega (arith, c.step_into.ensures.step, c.in_ok-root.ensures.lower, c.remove_below.ensures.steps, most, low)

pub returns-in_err-drop_node-in-Some-clause-steps : goal.returns-in_err-drop_node-in-Some-clause-steps
returns-in_err-drop_node-in-Some-clause-steps g c =
    let most = level_most (node_in c.step_into.new.page) c.in_ok-step_into.ensures.visits.holds.level in
    let low = level_most (node_in c.lowest.new.page) c.in_ok-root.ensures.done.stands.1.level in
    omega (arith, c.step_into.ensures.step, c.in_ok-root.ensures.lower, c.remove_below.ensures.steps, most, low)

pub returns-in_err-update_page-in-None-clause-steps : goal.returns-in_err-update_page-in-None-clause-steps
returns-in_err-update_page-in-None-clause-steps g c =
    let most = level_most (node_in c.step_into.new.page) c.in_ok-step_into.ensures.visits.holds.level in
    let low = level_most (node_in c.lowest.new.page) c.in_ok-root.ensures.done.stands.1.level in
    omega (arith, c.step_into.ensures.step, c.in_ok-root.ensures.lower, c.remove_below.ensures.steps, most, low)

pub returns-in_ok-drop_node-in-Some-clause-steps : goal.returns-in_ok-drop_node-in-Some-clause-steps
returns-in_ok-drop_node-in-Some-clause-steps g c =
    let most = level_most (node_in c.step_into.new.page) c.in_ok-step_into.ensures.visits.holds.level in
    let low = level_most (node_in c.lowest.new.page) c.in_ok-root.ensures.done.stands.1.level in
    omega (arith, c.step_into.ensures.step, c.in_ok-root.ensures.lower, c.remove_below.ensures.steps, most, low)

pub returns-in_ok-update_page-in-None-clause-steps : goal.returns-in_ok-update_page-in-None-clause-steps
returns-in_ok-update_page-in-None-clause-steps g c =
    let most = level_most (node_in c.step_into.new.page) c.in_ok-step_into.ensures.visits.holds.level in
    let low = level_most (node_in c.lowest.new.page) c.in_ok-root.ensures.done.stands.1.level in
    omega (arith, c.step_into.ensures.step, c.in_ok-root.ensures.lower, c.remove_below.ensures.steps, most, low)

use Rattle.std.proofs.Common.{◌∙◌, ◌+◌, Some, ap, arith}
use Rattle.std.specs.Prelude.{slice_index_or}
use Rattle.hm_node.specs.declared.inner.Inner.{Inner}
use Rattle.hm_btree.specs.Edits.{with_mirror}
use Rattle.hm_btree.specs.Space.{HasLost, HasWritten}
use Rattle.hm_btree.proofs.JoinAtLemmas.{second_page, there_written, joined_one, joined_two}
use Rattle.hm_btree.proofs.KeptLemmas.{kept_change, kept_both}
use Rattle.hm_btree.proofs.ShapeLemmas.{count_kept, joins_shaped, left_shaped, mirror_shaped, removed_child_shaped}
use Rattle.hm_btree.proofs.SpendLemmas.{spends_nothing, spends_both}
use Rattle.hm_btree.proofs.remove.join_at.Goals as goal
use Rattle.hm_btree.proofs.remove.join_at.Goals.{in-None+in_ok-drop_node-in-None, in-Some+in_ok-write_node-in-Some}

pub returns-in_err-write_node-clause-spent : goal.returns-in_err-write_node-clause-spent
returns-in_err-write_node-clause-spent g c =
    let kept = g.met.S.NodeSpace.rests c.args.space.now c.write_node.new.space c.write_node.ensures.rest in
    spends_nothing g.S.Counted g.S.HasRoom c.args.space.now c.write_node.new.space kept c.write_node.ensures.stays.name c.write_node.ensures.stays.frame

pub drop_node-requires : goal.drop_node-requires
drop_node-requires g c =
    there_written (g.S.Pages.pages c.args.space.now) (g.S.Pages.pages c.write_node.new.space)
    (slice_index_or c.deref.result.now c.args.i c.index-deref-i.result).child (slice_index_or c.deref-2.result.now
    (c.args.i + 1) c.index-deref-i-2.result).child c.join-upper.new.left
    (second_page c.args.inner.now c.give_mirror.new.inner c.args.i c.mirror.result c.args.left c.args.right c.join-upper.new.left
    c.index-deref-i.result c.index-deref-i-2.result c.deref.result.now c.deref-2.result.now c.deref.ensures.0
    c.give_mirror.ensures.level c.give_mirror.ensures.mirror c.give_mirror.ensures.items c.give_mirror.ensures.right c.mirror.ensures
    c.deref-2.ensures.0 (g.S.Pages.pages c.args.space.now) c.requires.pair.within c.requires.told)
    c.in_ok-write_node.ensures.ok

pub returns-in_err-drop_node-in-None-clause-spent :
    goal.returns-in_err-drop_node-in-None-clause-spent
returns-in_err-drop_node-in-None-clause-spent g c =
    let kept = g.met.S.NodeSpace.rests c.args.space.now c.write_node.new.space c.write_node.ensures.rest in
    spends_both g.S.Counted g.S.HasRoom c.args.space.now c.write_node.new.space c.drop_node.new.self
    (spends_nothing g.S.Counted g.S.HasRoom c.args.space.now c.write_node.new.space kept c.write_node.ensures.stays.name
    c.write_node.ensures.stays.frame) c.drop_node.ensures.spent

pub returns-in_err-write_node-in-Some-clause-spent : goal.returns-in_err-write_node-in-Some-clause-spent
returns-in_err-write_node-in-Some-clause-spent g c =
    let kept = g.met.S.NodeSpace.rests c.args.space.now c.write_node.new.space c.write_node.ensures.rest in
    let more = g.met.S.NodeSpace.rests c.write_node.new.space c.write_node-in-Some.new.space c.write_node-in-Some.ensures.rest in
    spends_both g.S.Counted g.S.HasRoom c.args.space.now c.write_node.new.space c.write_node-in-Some.new.space
    (spends_nothing g.S.Counted g.S.HasRoom c.args.space.now c.write_node.new.space kept c.write_node.ensures.stays.name c.write_node.ensures.stays.frame)
    (spends_nothing g.S.Counted g.S.HasRoom c.write_node.new.space c.write_node-in-Some.new.space more
    c.write_node-in-Some.ensures.stays.name c.write_node-in-Some.ensures.stays.frame)

pub returns-clause-done : goal.returns-clause-done
returns-clause-done g c =
    record {
      joined = elim c.match-upper.branch [
        | in-None+in_ok-drop_node-in-None w ↦
            rw w.space-is (rw w.inner-is
            (joined_one c.args.inner.now c.give_mirror.new.inner c.args.i c.mirror.result c.args.left c.args.right
            c.join-upper.new.left c.index-deref-i.result c.index-deref-i-2.result c.deref.result.now c.deref-2.result.now c.deref.ensures.0
            c.give_mirror.ensures.level c.give_mirror.ensures.mirror c.give_mirror.ensures.items c.give_mirror.ensures.right c.mirror.ensures
            c.deref-2.ensures.0
            w.remove_child.new.inner (g.S.Pages.pages c.args.space.now) (g.S.Pages.pages c.write_node.new.space)
            (g.S.Pages.pages w.drop_node.new.self) w.in-None.ensures c.in_ok-write_node.ensures.ok
            w.in_ok-drop_node-in-None.ensures.ok w.remove_child.ensures))
        | in-Some+in_ok-write_node-in-Some w ↦
            rw w.space-is (rw w.inner-is
            (joined_two c.args.inner.now c.give_mirror.new.inner c.args.i c.mirror.result c.args.left c.args.right
            c.join-upper.new.left c.index-deref-i.result c.index-deref-i-2.result c.deref.result.now c.deref-2.result.now c.deref.ensures.0
            c.give_mirror.ensures.level c.give_mirror.ensures.mirror c.give_mirror.ensures.items c.give_mirror.ensures.right c.mirror.ensures
            c.deref-2.ensures.0
            w.give_mirror-in-Some.new.inner w.set_left.new.inner w.mirror-in-Some.result w.in-Some.upper
            (g.S.Pages.pages c.args.space.now) (g.S.Pages.pages c.write_node.new.space) (g.S.Pages.pages w.write_node-in-Some.new.space)
            w.in-Some.ensures c.in_ok-write_node.ensures.ok w.in_ok-write_node-in-Some.ensures.ok w.mirror-in-Some.ensures
            w.give_mirror-in-Some.ensures.level w.give_mirror-in-Some.ensures.mirror w.give_mirror-in-Some.ensures.items w.give_mirror-in-Some.ensures.right
            w.set_left.ensures.level w.set_left.ensures.mirror w.set_left.ensures.items w.set_left.ensures.right))
      ];
      shape = let shape = mirror_shaped c.args.inner.now c.give_mirror.new.inner c.args.i c.mirror.result c.requires.pair.shape
          c.give_mirror.ensures.level c.give_mirror.ensures.items c.give_mirror.ensures.right in
          let long = count_kept (with_mirror c.mirror.result) c.args.inner.now c.give_mirror.new.inner c.args.i c.give_mirror.ensures.items in
          elim c.match-upper.branch [
            | in-None+in_ok-drop_node-in-None w ↦
                rw w.inner-is (record {
                  shape = removed_child_shaped c.give_mirror.new.inner w.remove_child.new.inner (c.args.i + 1)
                      (omega (arith, long, c.requires.pair.within)) (omega (arith, long, c.requires.pair.within)) shape w.remove_child.ensures;
                  level = ap (λ (n : Inner). n.level) w.remove_child.ensures ∙ c.give_mirror.ensures.level;
                })
            | in-Some+in_ok-write_node-in-Some w ↦
                let upper = (joins_shaped c.args.left c.args.right c.join-upper.new.left (Some w.in-Some.upper) c.requires.pair.left_fits.0
                c.requires.pair.right_fits.0 w.in-Some.ensures).above in
                let next = mirror_shaped c.give_mirror.new.inner w.give_mirror-in-Some.new.inner (c.args.i + 1) w.mirror-in-Some.result
                shape w.give_mirror-in-Some.ensures.level w.give_mirror-in-Some.ensures.items w.give_mirror-in-Some.ensures.right in
                rw w.inner-is (record {
                  shape = left_shaped w.give_mirror-in-Some.new.inner w.set_left.new.inner (c.args.i + 1) w.in-Some.upper.left upper.left
                      next w.set_left.ensures.level w.set_left.ensures.items w.set_left.ensures.right;
                  level = w.set_left.ensures.level ∙ w.give_mirror-in-Some.ensures.level ∙ c.give_mirror.ensures.level;
                })
          ];
      kept = let kept = g.met.S.NodeSpace.rests c.args.space.now c.write_node.new.space c.write_node.ensures.rest in
          let first = (slice_index_or c.deref.result.now c.args.i c.index-deref-i.result).child in
          let second = (slice_index_or c.deref-2.result.now (c.args.i + 1) c.index-deref-i-2.result).child in
          let written = kept_change g.S.Pages g.S.HasRoom c.args.space.now c.write_node.new.space
          (HasWritten first c.join-upper.new.left) kept.2 c.in_ok-write_node.ensures.ok in
          elim c.match-upper.branch [
            | in-None+in_ok-drop_node-in-None w ↦
                rw w.space-is (kept_both g.S.Pages g.S.HasRoom c.args.space.now c.write_node.new.space w.drop_node.new.self written
                (kept_change g.S.Pages g.S.HasRoom c.write_node.new.space w.drop_node.new.self (HasLost second)
                w.in_ok-drop_node-in-None.ensures.extents w.in_ok-drop_node-in-None.ensures.ok))
            | in-Some+in_ok-write_node-in-Some w ↦
                let more = g.met.S.NodeSpace.rests c.write_node.new.space w.write_node-in-Some.new.space w.write_node-in-Some.ensures.rest in
                rw w.space-is (kept_both g.S.Pages g.S.HasRoom c.args.space.now c.write_node.new.space w.write_node-in-Some.new.space written
                (kept_change g.S.Pages g.S.HasRoom c.write_node.new.space w.write_node-in-Some.new.space
                (HasWritten second w.in-Some.upper.node) more.2 w.in_ok-write_node-in-Some.ensures.ok))
          ];
    }

pub returns-clause-spent : goal.returns-clause-spent
returns-clause-spent g c =
    let kept = g.met.S.NodeSpace.rests c.args.space.now c.write_node.new.space c.write_node.ensures.rest in
    elim c.match-upper.branch [
      | in-None+in_ok-drop_node-in-None w ↦
          rw w.space-is
          (spends_both g.S.Counted g.S.HasRoom c.args.space.now c.write_node.new.space w.drop_node.new.self
          (spends_nothing g.S.Counted g.S.HasRoom c.args.space.now c.write_node.new.space kept c.write_node.ensures.stays.name
          c.write_node.ensures.stays.frame)
          w.drop_node.ensures.spent)
      | in-Some+in_ok-write_node-in-Some w ↦
          let more = g.met.S.NodeSpace.rests c.write_node.new.space w.write_node-in-Some.new.space w.write_node-in-Some.ensures.rest in
          rw w.space-is
          (spends_both g.S.Counted g.S.HasRoom c.args.space.now c.write_node.new.space w.write_node-in-Some.new.space
          (spends_nothing g.S.Counted g.S.HasRoom c.args.space.now c.write_node.new.space kept c.write_node.ensures.stays.name
          c.write_node.ensures.stays.frame)
          (spends_nothing g.S.Counted g.S.HasRoom c.write_node.new.space w.write_node-in-Some.new.space more
          w.write_node-in-Some.ensures.stays.name w.write_node-in-Some.ensures.stays.frame))
    ]

pub write_node-requires-clause-node : goal.write_node-requires-clause-node
write_node-requires-clause-node g c = (joins_shaped c.args.left c.args.right c.join-upper.new.left c.join-upper.result
    c.requires.pair.left_fits.0 c.requires.pair.right_fits.0 c.join-upper.ensures).shape

pub write_node-requires-in-Some-clause-node : goal.write_node-requires-in-Some-clause-node
write_node-requires-in-Some-clause-node g c = (joins_shaped c.args.left c.args.right c.join-upper.new.left (Some c.in-Some.upper)
    c.requires.pair.left_fits.0 c.requires.pair.right_fits.0 c.in-Some.ensures).above.node

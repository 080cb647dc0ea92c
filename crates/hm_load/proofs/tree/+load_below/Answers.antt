use Rattle.std.proofs.Common.{◌<◌, ◌≤◌, IfSome, sym, subst, ◌∙◌, arith, rules, length}
use Rattle.std.proofs.lemmas.Result.{IfErr-weaker, err_from_is_err_and}
use Rattle.hm_node.specs.Inner.{IsNodeOffset}
use Rattle.hm_node.specs.declared.node.Node.{Node}
use Rattle.hm_pages.specs.Store.{contents}
use Rattle.hm_search.specs.Descent.{levels_below}
use Rattle.hm_search.proofs.DescentLemmas.{child_lower}
use Rattle.hm_load.specs.Damage.{IsTreeDamage}
use Rattle.hm_load.specs.Faults.{Tells}
use Rattle.hm_load.specs.Held.{AreRead, IsApart}
use Rattle.hm_load.specs.Payload.{IsFirstBadPayload}
use Rattle.hm_load.specs.Tree.{AddsNode}
use Rattle.hm_load.proofs.ApartLemmas.{child_apart}
use Rattle.hm_load.proofs.StoreLemmas.{err_is, on_any, on_ok, told_both, told_so, told_three, told_was}
use Rattle.hm_load.proofs.TreeLemmas.{child_offset, children_more, inner_added, leaf_added, no_children}
use Rattle.hm_load.proofs.WholeLemmas.{child_damage, first_read_more, inner_read, leaf_damage, leaf_read, no_first_read, node_damage}
use Rattle.hm_load.proofs.tree.+load_below.Goals as goal

pub check_payloads-requires-clause-placed : goal.check_payloads-requires-clause-placed
check_payloads-requires-clause-placed g t c =
    (subst (λ (n : Node). AddsNode c.args.subtree.now n (contents c.args.store.now).current
    (contents c.load_node.new.store).current) c.in-Leaf.is c.in_ok-leaf.ensures.ok.1).sound.fields

pub returns-in-Leaf-clause-ok : goal.returns-in-Leaf-clause-ok
returns-in-Leaf-clause-ok g t c =
    let adds = subst (λ (n : Node). AddsNode c.args.subtree.now n (contents c.args.store.now).current
    (contents c.load_node.new.store).current) c.in-Leaf.is c.in_ok-leaf.ensures.ok.1 in
    on_any c.check_payloads.result (
      c.in_ok-leaf.ensures.ok.0,
      leaf_added c.args.subtree.now c.in-Leaf.leaf (contents c.args.store.now).current
          (contents c.load_node.new.store).current adds,
    )

pub returns-in-Leaf-clause-read : goal.returns-in-Leaf-clause-read
returns-in-Leaf-clause-read g t c =
    let adds = subst (λ (n : Node). AddsNode c.args.subtree.now n (contents c.args.store.now).current
    (contents c.load_node.new.store).current) c.in-Leaf.is c.in_ok-leaf.ensures.ok.1 in
    on_ok c.check_payloads.result
    (λ checked. told_both (g.D.Disk.told c.args.disk.now)
    (λ u pages payloads. leaf_read u.bytes c.args.volume.now.bigblocks c.args.subtree.now c.in-Leaf.leaf (contents c.args.store.now).current
    (contents c.load_node.new.store).current adds pages payloads)
    c.in_ok-leaf.ensures.read (told_was _ _ _ c.load_node.ensures.same checked)) c.check_payloads.ensures.ok

pub returns-in-Leaf-clause-damage : goal.returns-in-Leaf-clause-damage
returns-in-Leaf-clause-damage g t c =
    let adds = subst (λ (n : Node). AddsNode c.args.subtree.now n (contents c.args.store.now).current
    (contents c.load_node.new.store).current) c.in-Leaf.is c.in_ok-leaf.ensures.ok.1 in
    told_both (g.D.Disk.told c.args.disk.now)
    (λ u pages damage. IfErr-weaker c.check_payloads.result (Tells (IsFirstBadPayload u.bytes c.args.volume.now.bigblocks c.in-Leaf.leaf.places.items))
    (Tells (λ at kind. IsTreeDamage u.bytes c.args.volume.now.bigblocks at kind c.args.subtree.now))
    (λ fault tells. leaf_damage u.bytes c.args.volume.now.bigblocks c.args.subtree.now c.in-Leaf.leaf (contents c.args.store.now).current
    (contents c.load_node.new.store).current fault adds pages tells) damage)
    c.in_ok-leaf.ensures.read (told_was _ _ _ c.load_node.ensures.same c.check_payloads.ensures.damage)

pub returns-in_err-leaf-clause-damage : goal.returns-in_err-leaf-clause-damage
returns-in_err-leaf-clause-damage g t c =
    let p = err_from_is_err_and c.from_residual.result c.from_residual.ensures.1 in
    err_is (g.D.Disk.told c.args.disk.now) (λ u. Tells
    (λ at kind. IsTreeDamage u.bytes c.args.volume.now.bigblocks at kind c.args.subtree.now)) c.from_residual.result p.0 c.in_err-leaf.field-0.0 p.1 p.2
    (told_so (g.D.Disk.told c.args.disk.now) (λ u damage. node_damage u.bytes c.args.volume.now.bigblocks c.args.subtree.now c.in_err-leaf.field-0.0
    damage) c.in_err-leaf.ensures.damage)

pub load_below-requires : goal.load_below-requires
load_below-requires g t c κs within =
    let adds = subst (λ (n : Node). AddsNode c.args.subtree.now n (contents c.args.store.now).current
    (contents c.load_node.new.store).current) c.in-Inner.is c.in_ok-leaf.ensures.ok.1 in
    let smaller : levels_below c.child.result < levels_below c.args.subtree.now =
    child_lower c.args.subtree.now c.in-Inner.inner c.loop-i.i c.child.result adds.sound adds.fits c.child.ensures in
    let space = told_was _ _ _ (sym c.loop-i.invariant.told) c.requires.space in
    let place : IsNodeOffset c.child.result.at = child_offset c.in-Inner.inner c.loop-i.i c.child.result adds.sound c.child.ensures in
    let read : IfSome (g.D.Disk.told c.loop-i.disk) (λ u. AreRead u.bytes c.args.volume.now.bigblocks (contents c.loop-i.store).current) =
    told_was _ _ _ (sym c.loop-i.invariant.told) (told_so (g.D.Disk.told c.args.disk.now) (λ u first. first.pages) c.loop-i.invariant.read) in
    let apart : IsApart c.child.result (contents c.loop-i.store).current =
    child_apart c.args.subtree.now c.in-Inner.inner c.loop-i.i c.child.result (contents c.args.store.now).current
    (contents c.load_node.new.store).current (contents c.loop-i.store).current
    c.child.ensures c.requires.apart adds c.loop-i.invariant.children in
    search rules

pub loop-i-init : goal.loop-i-init
loop-i-init g t c = record {
  told = c.load_node.ensures.same;
  crashes = c.load_node.ensures.crashes;
  counted = c.load_node.ensures.cause.never_falls;
  plain = c.in_ok-leaf.ensures.ok.0;
  children = no_children c.in-Inner.inner (contents c.load_node.new.store).current;
  read = told_so (g.D.Disk.told c.args.disk.now) (λ u pages. no_first_read u.bytes c.args.volume.now.bigblocks c.in-Inner.inner
      (contents c.load_node.new.store).current pages) c.in_ok-leaf.ensures.read;
}

pub loop-i-preserved : goal.loop-i-preserved
loop-i-preserved g t c = record {
  told = c.load_below.ensures.same ∙ c.loop-i.invariant.told;
  crashes = c.load_below.ensures.crashes ∙ c.loop-i.invariant.crashes;
  counted = omega (arith, c.loop-i.invariant.counted, c.load_below.ensures.cause.never_falls);
  plain = c.in_ok-load_below.ensures.ok.0;
  children = children_more c.in-Inner.inner c.loop-i.i c.child.result (contents c.load_node.new.store).current (contents c.loop-i.store).current
      (contents c.load_below.new.store).current
      c.child.ensures c.loop-i.invariant.children c.in_ok-load_below.ensures.ok.1;
  read = told_both (g.D.Disk.told c.args.disk.now)
      (λ u first read. first_read_more u.bytes c.args.volume.now.bigblocks c.in-Inner.inner c.loop-i.i c.child.result
      (contents c.load_node.new.store).current (contents c.loop-i.store).current
      (contents c.load_below.new.store).current c.child.ensures c.loop-i.invariant.children c.in_ok-load_below.ensures.ok.1 first read)
      c.loop-i.invariant.read (told_was _ _ _ c.loop-i.invariant.told c.in_ok-load_below.ensures.read);
}

pub returns-in_err-load_below-clause-damage : goal.returns-in_err-load_below-clause-damage
returns-in_err-load_below-clause-damage g t c =
    let adds = subst (λ (n : Node). AddsNode c.args.subtree.now n (contents c.args.store.now).current
    (contents c.load_node.new.store).current) c.in-Inner.is c.in_ok-leaf.ensures.ok.1 in
    let p = err_from_is_err_and c.from_residual-in_err-load_below.result c.from_residual-in_err-load_below.ensures.1 in
    err_is (g.D.Disk.told c.args.disk.now) (λ u. Tells (λ at kind. IsTreeDamage u.bytes c.args.volume.now.bigblocks at kind c.args.subtree.now))
    c.from_residual-in_err-load_below.result p.0 c.in_err-load_below.field-0.0 p.1 p.2
    (told_three (g.D.Disk.told c.args.disk.now)
    (λ u first pages damage. child_damage u.bytes c.args.volume.now.bigblocks c.args.subtree.now c.in-Inner.inner (contents c.args.store.now).current
    (contents c.load_node.new.store).current
    (contents c.loop-i.store).current c.loop-i.i adds c.loop-i.invariant.children first pages c.child.result c.in_err-load_below.field-0.0
    c.child.ensures damage)
    c.loop-i.invariant.read c.in_ok-leaf.ensures.read (told_was _ _ _ c.loop-i.invariant.told c.in_err-load_below.ensures.damage))

pub returns-clause-ok : goal.returns-clause-ok
returns-clause-ok g t c =
    let adds = subst (λ (n : Node). AddsNode c.args.subtree.now n (contents c.args.store.now).current
    (contents c.load_node.new.store).current) c.in-Inner.is c.in_ok-leaf.ensures.ok.1 in (
      c.loop-i.invariant.plain,
      inner_added c.args.subtree.now c.in-Inner.inner (contents c.args.store.now).current (contents c.load_node.new.store).current
          (contents c.loop-i.store).current adds
          c.loop-i.i (omega (arith, c.len-i-end.ensures.value)) c.loop-i.invariant.children,
    )

pub returns-clause-read : goal.returns-clause-read
returns-clause-read g t c =
    let adds = subst (λ (n : Node). AddsNode c.args.subtree.now n (contents c.args.store.now).current
    (contents c.load_node.new.store).current) c.in-Inner.is c.in_ok-leaf.ensures.ok.1 in
    let all : length c.in-Inner.inner.places.items ≤ c.loop-i.i = omega (arith, c.len-i-end.ensures.value) in
    told_so (g.D.Disk.told c.args.disk.now)
    (λ u first. inner_read u.bytes c.args.volume.now.bigblocks c.args.subtree.now c.in-Inner.inner (contents c.args.store.now).current
    (contents c.load_node.new.store).current
    (contents c.loop-i.store).current c.loop-i.i adds c.loop-i.invariant.children first all) c.loop-i.invariant.read

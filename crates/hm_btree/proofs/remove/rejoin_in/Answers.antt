use Rattle.std.proofs.Common.{sym, subst}
use Rattle.std.specs.Prelude.{IfSome}
use Rattle.hm_node.specs.Inner.{inner_in}
use Rattle.hm_node.specs.Node.{node_in}
use Rattle.hm_node.specs.declared.inner.Inner.{Inner}
use Rattle.hm_node.specs.declared.node.Node.{Node}
use Rattle.hm_node.proofs.SameLemmas.{inner_there}
use Rattle.hm_btree.specs.Calls.Remove.{HasPair, JoinsChild}
use Rattle.hm_btree.specs.Shrink.{IsLevelBelow, IsShrunk}
use Rattle.hm_btree.proofs.PageLemmas.{inner_written, page_shaped}
use Rattle.hm_btree.proofs.remove.rejoin_in.Goals as goal

pub rejoin-requires-clause-inner : goal.rejoin-requires-clause-inner
rejoin-requires-clause-inner g c = subst (λ (x : Inner). HasPair x c.args.i) (sym c.of-inner.ensures) c.requires.may.pair

pub rejoin-requires-clause-child : goal.rejoin-requires-clause-child
rejoin-requires-clause-child g c =
    subst (λ (n : Node). IsLevelBelow c.of-inner.result.level n) (sym c.node_of.ensures)
    (subst (λ (x : Inner). IsLevelBelow x.level (node_in c.args.child.now)) (sym c.of-inner.ensures)
    (page_shaped c.args.child.now c.requires.may.holds, c.requires.may.level))

pub rejoin-requires-clause-told : goal.rejoin-requires-clause-told
rejoin-requires-clause-told g c =
    subst (λ (n : Node). IfSome (g.S.Pages.pages c.args.space.now) (IsShrunk c.of-inner.result c.args.i n)) (sym c.node_of.ensures)
    (subst (λ (x : Inner). IfSome (g.S.Pages.pages c.args.space.now) (IsShrunk x c.args.i (node_in c.args.child.now))) (sym c.of-inner.ensures)
    c.requires.told)

pub returns-clause-done : goal.returns-clause-done
returns-clause-done g c =
    let p = g.S.Pages.pages in
    let e = g.S.HasRoom.extents in
    let old = c.args.page.now in
    let new = c.write.new.page in
    let child : Node = node_in c.args.child.now in
    let inner = c.rejoin.new.inner in
    let done = subst (λ (x : Inner). JoinsChild p e c.args.i child c.args.space.now c.rejoin.new.space x inner) c.of-inner.ensures
    (subst (λ (n : Node). JoinsChild p e c.args.i n c.args.space.now c.rejoin.new.space c.of-inner.result inner) c.node_of.ensures
    c.in_ok-rejoin.ensures.done) in
    record {
      held = inner_written new inner c.write.ensures done.shape.shape;
      joins = subst (λ (x : Inner). JoinsChild p e c.args.i child c.args.space.now c.rejoin.new.space (inner_in old) x)
          (sym (inner_there new inner c.write.ensures)) done;
    }

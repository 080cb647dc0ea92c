use Rattle.std.proofs.Common.{◌≡◌, ◌∙◌, ap, sym, subst, length, arith}
use Rattle.hm_node.specs.Head.{head_in}
use Rattle.hm_node.specs.Inner.{child_in, inner_in}
use Rattle.hm_node.specs.Places.{place}
use Rattle.hm_node.specs.declared.inner.Inner.{Inner}
use Rattle.hm_node.specs.declared.node.Node.{Node}
use Rattle.hm_node.proofs.PlaceLemmas.{first_length}
use Rattle.hm_node.proofs.ReadyLemmas.{inner_here}
use Rattle.hm_node.proofs.SameLemmas.{inner_there}
use Rattle.hm_btree.specs.Edits.{with_child, ChildChange}
use Rattle.hm_btree.specs.Shape.{IsShaped}
use Rattle.hm_btree.proofs.PageLemmas.{inner_written, page_shaped}
use Rattle.hm_btree.proofs.ShapeLemmas.{child_shaped}
use Rattle.hm_btree.proofs.inner_edit.set_child_in.Goals as goal

pub set_child-requires : goal.set_child-requires
set_child-requires c =
    let old = c.args.page.now in
    omega (
      arith,
      c.requires.within,
      ap (λ (x : Inner). length x.places.items) c.of-inner.ensures,
      first_length (λ i. child_in old (place i))
          (head_in old).count,
    )

pub returns : goal.returns
returns c =
    let old = c.args.page.now in
    let new = c.write.new.page in
    let inner : Inner = c.set_child.new.inner in
    let did = c.set_child.ensures in
    let from = c.of-inner.ensures in
    let is : inner_in new ≡ inner = inner_there new inner c.write.ensures in
    let level : inner.level ≡ (inner_in old).level = did.level ∙ ap (λ (x : Inner). x.level) from in
    let right : inner.right ≡ (inner_in old).right = did.right ∙ ap (λ (x : Inner). x.right) from in
    let items : ChildChange (with_child c.args.to) (inner_in old).places.items c.args.at inner.places.items =
    subst (λ (x : Inner). ChildChange (with_child c.args.to) x.places.items c.args.at inner.places.items) from did.items in
    let shape = child_shaped (with_child c.args.to) (inner_in old) inner c.args.at (λ d is. record { left = is.left; child = c.requires.to })
    (subst (λ (n : Node). IsShaped n) (inner_here old c.requires.inner) (page_shaped old c.requires.inner.holds)) level items right in
    record {
      held = inner_written new inner c.write.ensures shape;
      level = ap (λ (x : Inner). x.level) is ∙ level;
      mirror = ap (λ (x : Inner). x.mirror) is ∙ did.mirror ∙ ap (λ (x : Inner). x.mirror) from;
      items = subst (λ (x : Inner). ChildChange (with_child c.args.to) (inner_in old).places.items c.args.at x.places.items) (sym is) items;
      right = ap (λ (x : Inner). x.right) is ∙ right;
    }

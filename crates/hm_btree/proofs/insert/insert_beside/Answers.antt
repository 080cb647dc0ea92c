use Rattle.std.proofs.Common.{◌≡◌, ◌≤◌, Some, None, length, ap, subst, ◌∙◌, arith, max, nat_eq, refl}
use Rattle.std.specs.Prelude.{insert}
use Rattle.hm_fields.specs.Pages.{page_in}
use Rattle.hm_node.specs.Head.{head_in}
use Rattle.hm_node.specs.Inner.{child_in, inner_in}
use Rattle.hm_node.specs.Node.{node_in}
use Rattle.hm_node.specs.Places.{place}
use Rattle.hm_node.specs.declared.inner.Inner.{Inner}
use Rattle.hm_node.specs.declared.node.Node.TheVariants.{Inner as inner_node}
use Rattle.hm_node.proofs.PlaceLemmas.{first_length}
use Rattle.hm_btree.specs.Edits.{lower_count, InnerGrown}
use Rattle.hm_btree.specs.Shape.{IsShaped}
use Rattle.hm_btree.proofs.InsertLemmas.{both_many}
use Rattle.hm_btree.proofs.PageLemmas.{inner_split, page_shaped, spells_itself}
use Rattle.hm_btree.proofs.insert.insert_beside.Goals as goal

pub insert_child-more-requires : goal.insert_child-more-requires
insert_child-more-requires c =
    rw c.of-inner.ensures (omega (arith, c.requires.at, first_length (λ i. child_in c.args.page.now (place i)) (head_in c.args.page.now).count))

pub returns-in-None : goal.returns-in-None
returns-in-None c =
    let page = c.args.page.now in
    let inner = inner_in page in
    let new = c.insert_child-more.new.inner in
    let here : node_in page ≡ inner_node inner = rw c.requires.inner.kind refl in
    let shape = subst IsShaped here (page_shaped page c.requires.inner.holds) in
    let low : c.args.at ≤ length inner.places.items = omega (arith, c.requires.at, first_length (λ i. child_in page (place i)) (head_in page).count) in
    let grown = subst (λ (x : Inner). InnerGrown (lower_count 62 c.args.at (nat_eq c.args.at 62)) x.level (max x.mirror c.args.child.mirror)
    (insert x.places.items c.args.at c.args.child) x.right new None)
    c.of-inner.ensures c.in-None.ensures in
    inner_split (max inner.mirror c.args.child.mirror) c.args.at c.args.child inner new c.write.new.page (page_in c.args.upper.now) None
    c.write.ensures shape c.requires.child low grown tt

pub returns-in-Some : goal.returns-in-Some
returns-in-Some c =
    let page = c.args.page.now in
    let inner = inner_in page in
    let new = c.insert_child-more.new.inner in
    let more = c.in-Some.more in
    let here : node_in page ≡ inner_node inner = rw c.requires.inner.kind refl in
    let shape = subst IsShaped here (page_shaped page c.requires.inner.holds) in
    let low : c.args.at ≤ length inner.places.items = omega (arith, c.requires.at, first_length (λ i. child_in page (place i)) (head_in page).count) in
    let grown = subst (λ (x : Inner). InnerGrown (lower_count 62 c.args.at (nat_eq c.args.at 62)) x.level (max x.mirror c.args.child.mirror)
    (insert x.places.items c.args.at c.args.child) x.right new (Some more))
    c.of-inner.ensures c.in-Some.ensures in
    inner_split (max inner.mirror c.args.child.mirror) c.args.at c.args.child inner new c.write.new.page c.write-in-Some.new.page (Some new.right)
    c.write.ensures shape c.requires.child low (
      lower_count 62 c.args.at (nat_eq c.args.at 62),
      both_many 62 c.args.at (nat_eq c.args.at 62) (omega arith),
      grown.2,
      grown.0,
      c.write-in-Some.ensures.value ∙ ap inner_node grown.1,
      ap (λ (x : Inner). x.right) grown.0,
    )
    (spells_itself c.write-in-Some.new.page (inner_node more) c.write-in-Some.ensures)

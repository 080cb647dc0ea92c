use Rattle.std.proofs.Common.{◌≡◌, ◌∙◌, ap, sym, arith}
use Rattle.std.specs.Prelude.{slice_get}
use Rattle.std.proofs.Common.{is_eq}
use Rattle.hm_types.specs.Elements.{key_cmp}
use Rattle.hm_key.specs.declared.base.Base.{Base}
use Rattle.hm_key.specs.Elements.{element_key}
use Rattle.hm_key.specs.Key.{key_of}
use Rattle.hm_key.proofs.PlaceLemmas.{first_from-leading}
use Rattle.hm_key.proofs.ElementLemmas.{stands_same}
use Rattle.hm_key.proofs.SearchLemmas.{has_found, has_none}
use Rattle.std.proofs.lemmas.Cmp.{is_eq_index}
use Rattle.hm_node.specs.Base.{base_in}
use Rattle.hm_node.specs.Head.{head_in}
use Rattle.hm_node.specs.Leaf.{element_in, leaf_in}
use Rattle.hm_node.specs.Places.{place as place_at}
use Rattle.hm_node.specs.declared.head.Head.{Head}
use Rattle.hm_node.proofs.EditLemmas.{leaf_few}
use Rattle.hm_search.proofs.LookLemmas.{first_get, first_past}
use Rattle.hm_btree.proofs.change.has_element_in.Goals as goal

pub returns-then-from-i-clause-value : goal.returns-then-from-i-clause-value
returns-then-from-i-clause-value c = λ order at.
    let page = c.args.page.now in
    let es = (leaf_in page).places.items in
    let count = c.from.ensures ∙ ap (λ (h : Head). h.count) c.read.ensures.value in
    has_none (key_of c.args.at.now) es order (first_from-leading (key_of c.args.at.now) es ∙ ap (slice_get es) (sym at)
    ∙ first_past (λ i. element_in page (place_at i)) (head_in page).count c.args.i (omega (arith, count, c.if-from-i.true)))

pub place-requires : goal.place-requires
place-requires c =
    let count = c.from.ensures ∙ ap (λ (h : Head). h.count) c.read.ensures.value in
    omega (arith, count, c.if-from-i.false, leaf_few c.args.page.now c.requires.leaf)

pub read_base-requires : goal.read_base-requires
read_base-requires c =
    let count = c.from.ensures ∙ ap (λ (h : Head). h.count) c.read.ensures.value in
    omega (arith, count, c.place.ensures, c.if-from-i.false, leaf_few c.args.page.now c.requires.leaf)

pub returns-clause-here : goal.returns-clause-here
unfolding element_in
returns-clause-here c = λ yes.
    let page = c.args.page.now in
    let key = key_of c.args.at.now in
    let e = element_in page (place_at c.args.i) in
    let read : c.read_base.result ≡ base_in page (place_at c.args.i) = c.read_base.ensures ∙ ap (base_in page) c.place.ensures in
    let order : c.order.result ≡ key_cmp (element_key e) key = c.order.ensures ∙ ap (λ (b : Base). key_cmp (key_of b) key) read in
    stands_same key e (ap is_eq (sym order) ∙ sym c.is_eq.ensures ∙ yes)

pub returns-clause-value : goal.returns-clause-value
unfolding element_in
returns-clause-value c = λ order at.
    let page = c.args.page.now in
    let key = key_of c.args.at.now in
    let es = (leaf_in page).places.items in
    let e = element_in page (place_at c.args.i) in
    let count = c.from.ensures ∙ ap (λ (h : Head). h.count) c.read.ensures.value in
    has_found key e es c.order.result _ order (first_from-leading key es ∙ ap (slice_get es) (sym at)
    ∙ first_get (λ i. element_in page (place_at i)) (head_in page).count c.args.i (omega (arith, count, c.if-from-i.false)))
    (c.order.ensures ∙ ap (λ (b : Base). key_cmp (key_of b) key) (c.read_base.ensures ∙ ap (base_in page) c.place.ensures))
    (c.is_eq.ensures ∙ is_eq_index c.order.result)

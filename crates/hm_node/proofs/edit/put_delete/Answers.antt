use Rattle.std.proofs.Common.{◌≡◌, ◌+◌, ℕ, ap, ◌∙◌, arith, max, refl}
use Rattle.hm_fields.specs.Fields.{Apart, get, put}
use Rattle.hm_fields.proofs.FieldLemmas.{get_put_apart_two}
use Rattle.hm_key.specs.Elements.{closed_at}
use Rattle.hm_node.specs.Head.{head_in}
use Rattle.hm_node.specs.Leaf.{element_in}
use Rattle.hm_node.specs.Places.{place}
use Rattle.hm_node.specs.declared.head.Head.{Head}
use Rattle.hm_node.proofs.EditLemmas.{delete_put, leaf_bytes, leaf_changed}
use Rattle.hm_node.proofs.FieldLemmas.{apart_field}
use Rattle.hm_node.proofs.edit.put_delete.Goals as goal

pub returns : goal.returns
returns c =
    let old = c.args.page.now in
    let new = c.put_u64-2.new.page in
    let at = c.args.at in
    let n = (head_in old).count in
    let start : c.place.result ≡ place at = c.place.ensures in
    let is : new ≡ put (put old (place at + 24) 8 c.args.delete) 8 8 c.max.result =
    c.put_u64-2.ensures.change ∙ rw (c.put_u64.ensures.change, start) refl in
    let beside : (x size : ℕ) → Apart (place at) 52 x size → Apart 8 8 x size → get new x size ≡ get old x size = λ x size a b.
    rw is (get_put_apart_two old (place at + 24) 8 c.args.delete 8 8 c.max.result x size
    (apart_field (place at) 52 (place at + 24) 8 x size (omega arith) (omega arith) a) b) in
    let here : element_in new (place at) ≡ closed_at c.args.delete (element_in old (place at)) =
    rw is (delete_put old (place at) c.args.delete c.max.result (omega arith) (omega (arith, c.ranges.delete.fits))) in
    leaf_changed (closed_at c.args.delete) old new at n (max (head_in old).mirror c.args.delete) (leaf_bytes old c.requires.leaf) c.requires.at
    beside c.put_u64-2.ensures.sized here c.requires.element refl
    (c.put_u64-2.ensures.held ∙ c.max.ensures ∙ ap (λ (h : Head). max h.mirror c.args.delete) c.read-mirror.ensures.value)

use Rattle.std.proofs.Common.{◌≡◌, ◌+◌, ℕ, ◌∙◌, arith, inr, refl}
use Rattle.hm_fields.specs.Fields.{Apart, get, put}
use Rattle.hm_fields.proofs.FieldLemmas.{get_put_apart}
use Rattle.hm_key.specs.Elements.{moved_to}
use Rattle.hm_node.specs.Head.{head_in}
use Rattle.hm_node.specs.Leaf.{element_in, IsPlaced}
use Rattle.hm_node.specs.Places.{place}
use Rattle.hm_node.proofs.EditLemmas.{leaf_bytes, leaf_changed, payload_put, placed_changed}
use Rattle.hm_node.proofs.FieldLemmas.{apart_field}
use Rattle.hm_node.proofs.edit.put_payload.Goals as goal

pub returns : goal.returns
returns c =
    let old = c.args.page.now in
    let new = c.put_u64.new.page in
    let at = c.args.at in
    let n = (head_in old).count in
    let to = c.args.to in
    let bytes = leaf_bytes old c.requires.leaf in
    let is : new ≡ put old (place at + 40) 8 to = c.put_u64.ensures.change ∙ rw (c.place.ensures, c.raw.ensures.value) refl in
    let beside : (x size : ℕ) → Apart (place at) 52 x size → Apart 8 8 x size → get new x size ≡ get old x size = λ x size a b.
    rw is (get_put_apart old (place at + 40) 8 to x size (apart_field (place at) 52 (place at + 40) 8 x size (omega arith) (omega arith) a)) in
    let here : element_in new (place at) ≡ moved_to to (element_in old (place at)) = rw is
    (payload_put old (place at) to (omega (arith, c.raw.type_inv, c.raw.ensures.value))) in
    let was = (bytes.places at c.requires.at).placed in
    let e = element_in old (place at) in
    let placed : IsPlaced (moved_to to e) = placed_changed e e.base.delete to was was.element.closed c.requires.to in
    leaf_changed (moved_to to) old new at n (head_in old).mirror bytes c.requires.at beside c.put_u64.ensures.sized here placed refl
    (rw is (get_put_apart old (place at + 40) 8 to 8 8 (inr (omega arith))))

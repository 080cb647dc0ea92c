use Rattle.std.proofs.Common.{ℕ, ◌+◌, ◌≡◌, ◌∙◌, sym, ap, subst, arith, max, inr, refl}
use Rattle.hm_fields.specs.Fields.{Apart, get}
use Rattle.hm_fields.specs.Moves.{HasMoved}
use Rattle.hm_fields.proofs.FieldLemmas.{get_put_apart, get_put_apart_two}
use Rattle.hm_key.specs.Elements.{last_id}
use Rattle.hm_node.specs.Head.{head_in}
use Rattle.hm_node.specs.Leaf.{element_in}
use Rattle.hm_node.specs.Places.{place}
use Rattle.hm_node.specs.declared.head.Head.{Head}
use Rattle.hm_node.proofs.EditLemmas.{leaf_bytes, leaf_inserted}
use Rattle.hm_node.proofs.edit.insert_element.Goals as goal

pub returns : goal.returns
returns c =
    let old = c.args.page.now in
    let p1 = c.move_bytes.new.page in
    let p2 = c.write_element.new.page in
    let p3 = c.put_u16.new.page in
    let new = c.put_u64.new.page in
    let at = c.args.at in
    let n = (head_in old).count in
    let e = c.args.element.now in
    let count : c.read-head.result.count ≡ n = ap (λ (h : Head). h.count) c.read-head.ensures.value in
    let mirror : c.max.result ≡ max (head_in old).mirror (last_id e) =
    c.max.ensures ∙ rw (ap (λ (h : Head). h.mirror) c.read-head.ensures.value, c.max-last.ensures) refl in
    let moved : HasMoved (place at) (place n) (place (at + 1)) old p1 =
    subst (λ (a : ℕ). HasMoved a (place n) (place (at + 1)) old p1) c.place.ensures
    (subst (λ (b : ℕ). HasMoved c.place.result b (place (at + 1)) old p1) (c.place-2.ensures ∙ ap place (c.from.ensures ∙ count))
    (subst (λ (d : ℕ). HasMoved c.place.result c.place-2.result d old p1) c.place-3.ensures c.move_bytes.ensures)) in
    let value : element_in p2 (place at) ≡ e = ap (element_in p2) (sym c.place-4.ensures) ∙ c.write_element.ensures.value in
    let others = λ (x size : ℕ) (apart : Apart (place at) 52 x size).
    c.write_element.ensures.others x size (subst (λ (a : ℕ). Apart a 52 x size) (sym c.place-4.ensures) apart) in
    let beside : (x size : ℕ) → Apart 2 2 x size → Apart 8 8 x size → get new x size ≡ get p2 x size = λ x size a b.
    rw (c.put_u64.ensures.change, c.put_u16.ensures.change) (get_put_apart_two p2 2 2 (c.read-head.result.count + 1) 8 8 c.max.result x size a b) in
    let counted : get new 2 2 ≡ n + 1 =
    rw c.put_u64.ensures.change (get_put_apart p3 8 8 c.max.result 2 2 (inr (omega arith))) ∙ c.put_u16.ensures.held ∙ ap (λ (k : ℕ). k + 1) count in
    leaf_inserted old p1 p2 new at n (max (head_in old).mirror (last_id e)) e (leaf_bytes old c.requires.leaf) c.requires.at
    (omega (arith, c.requires.room)) c.requires.element moved value others beside c.put_u64.ensures.sized counted (c.put_u64.ensures.held ∙ mirror) refl

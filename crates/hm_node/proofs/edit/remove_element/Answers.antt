use Rattle.std.proofs.Common.{◌≡◌, ◌+◌, ◌-◌, ℕ, suc, ap, sym, subst, ◌∙◌, arith}
use Rattle.hm_fields.specs.Fields.{Apart, get}
use Rattle.hm_fields.specs.Moves.{HasCleared, HasMoved}
use Rattle.hm_fields.proofs.FieldLemmas.{get_put_apart}
use Rattle.hm_node.specs.Head.{head_in}
use Rattle.hm_node.specs.Places.{place}
use Rattle.hm_node.specs.declared.head.Head.{Head}
use Rattle.hm_node.proofs.EditLemmas.{LeafBytes, leaf_bytes, leaf_removed}
use Rattle.hm_node.proofs.edit.remove_element.Goals as goal

pub returns : goal.returns
returns c =
    let old = c.args.page.now in
    let p1 = c.move_bytes.new.page in
    let p2 = c.clear_bytes.new.page in
    let new = c.put_u16.new.page in
    let at = c.args.at in
    let n : ℕ = (head_in old).count - 1 in
    let more : suc n ≡ (head_in old).count = omega (arith, c.requires.at) in
    let count : c.read-count.result.count ≡ suc n = ap (λ (h : Head). h.count) c.read-count.ensures.value ∙ sym more in
    let bytes : LeafBytes old (suc n) = subst (LeafBytes old) (sym more) (leaf_bytes old c.requires.leaf) in
    let end : c.place-end.result ≡ place (suc n) = c.place-end.ensures ∙ ap place (c.from.ensures ∙ count) in
    let moved : HasMoved (place (at + 1)) (place (suc n)) (place at) old p1 =
    subst (λ (a : ℕ). HasMoved a (place (suc n)) (place at) old p1) c.place.ensures
    (subst (λ (b : ℕ). HasMoved c.place.result b (place at) old p1) end
    (subst (λ (d : ℕ). HasMoved c.place.result c.place-end.result d old p1) c.place-2.ensures c.move_bytes.ensures)) in
    let start : c.place-end.result - 64 ≡ place n = omega (arith, end) in
    let cleared : HasCleared (place n) (place (suc n)) p1 p2 =
    subst (λ (a : ℕ). HasCleared a (place (suc n)) p1 p2) start
    (subst (λ (b : ℕ). HasCleared (c.place-end.result - 64) b p1 p2) end c.clear_bytes.ensures) in
    let beside : (x size : ℕ) → Apart 2 2 x size → get new x size ≡ get p2 x size = λ x size a.
    rw c.put_u16.ensures.change (get_put_apart p2 2 2 (c.read-count.result.count - 1) x size a) in
    let counted : get new 2 2 ≡ n = c.put_u16.ensures.held ∙ omega (arith, count) in
    leaf_removed old p1 p2 new at n bytes (omega (arith, c.requires.at, more)) moved cleared beside c.put_u16.ensures.sized counted more

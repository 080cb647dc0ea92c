use Rattle.std.proofs.Common.{◌≡◌, ◌≤◌, ℕ, List, ◌∙◌, subst, ap}
use Rattle.hm_node.specs.Base.{base_in}
use Rattle.hm_node.specs.Inner.{child_in}
use Rattle.hm_node.specs.Places.{place, IsWritten}
use Rattle.hm_node.specs.declared.inner.Child.{Child}
use Rattle.hm_node.specs.declared.head.TheConstants.{INNER}
use Rattle.hm_node.proofs.SpellLemmas.{HasHeadAlone, head_alone, places_blank, inner_spelled}
use Rattle.hm_node.proofs.WriteLemmas.{Elsewhere}
use Rattle.hm_node.proofs.inner.Inner.write.Goals as goal

pub write_children-requires-clause-zero : goal.write_children-requires-clause-zero
write_children-requires-clause-zero c =
    places_blank c.write.new.page _ (head_alone c.clear.new.self c.write.new.page _ c.clear.ensures.value c.write.ensures.sized c.write.ensures.value
    c.write.ensures.others c.write.ensures.between)

pub returns : goal.returns
returns c =
    let alone = head_alone c.clear.new.self c.write.new.page _ c.clear.ensures.value c.write.ensures.sized c.write.ensures.value
    c.write.ensures.others c.write.ensures.between in
    let there = c.place.ensures ∙ ap place c.len-count.ensures.value in
    inner_spelled c.args.self.now c.write.new.page c.write_children.new.page c.write_base.new.page
    (subst (λ (n : ℕ). HasHeadAlone c.write.new.page (record
    { kind = INNER; level = c.args.self.now.level; count = n; mirror = c.args.self.now.mirror })) c.len-count.ensures.value alone)
    (subst (λ (xs : List Child). IsWritten child_in 56 xs c.write.new.page c.write_children.new.page) c.as_slice.ensures.value c.write_children.ensures)
    (subst (λ (at : ℕ). Elsewhere at 40 c.write_children.new.page c.write_base.new.page) there (record { same = c.write_base.ensures.others }))
    (subst (λ (at : ℕ). base_in c.write_base.new.page at ≡ c.args.self.now.right) there c.write_base.ensures.value)
    c.write_base.ensures.sized
    (subst (λ (n : ℕ). n ≤ 62) c.len-count.ensures.value c.len-count.ensures.fits)

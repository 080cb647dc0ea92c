use Rattle.std.proofs.Common.{◌-◌, refl, sym, ap, subst, ◌∙◌, true≢false, arith}
use Rattle.hm_key.specs.Key.{key_of}
use Rattle.hm_key.specs.declared.base.Base.{Base}
use Rattle.hm_node.specs.Base.{base_in}
use Rattle.hm_search.specs.Place.{IsInside}
use Rattle.hm_search.proofs.HeldLemmas.{inside_at, at_inside}
use Rattle.hm_search.proofs.subtree.Subtree.holds_ends.Goals as goal

pub returns-then-count-eq0 : goal.returns-then-count-eq0
returns-then-count-eq0 c = (
  λ is. (
    inside_at c.args.self.now.left c.args.self.now.right c.args.page.now c.args.count 0 (λ low. absurd (omega (arith, c.if-count-eq0.true))),
    inside_at c.args.self.now.left c.args.self.now.right c.args.page.now c.args.count (c.args.count - 1) (λ low. absurd (omega (arith, c.if-count-eq0.true))),
  ),
  λ all. refl,
)

pub returns-then-not-holds : goal.returns-then-not-holds
returns-then-not-holds c =
    let base = ap (base_in c.args.page.now) c.place.ensures in (
      λ is. absurd cc,
      λ all.
          let inside = at_inside c.args.self.now.left c.args.self.now.right c.args.page.now c.args.count 0 (omega (arith, c.if-count-eq0.false)) all.0 in
          absurd (true≢false (sym (c.holds.ensures.1 (subst (λ (b : Base). IsInside c.args.self.now.left c.args.self.now.right (key_of b)) (sym base)
          inside)) ∙ c.if-not-holds.true)),
    )

pub returns : goal.returns
returns c =
    let front = ap (base_in c.args.page.now) c.place.ensures in
    let last = ap (base_in c.args.page.now) c.place-2.ensures in (
      λ is. (
        inside_at c.args.self.now.left c.args.self.now.right c.args.page.now c.args.count 0
            (λ low. subst (λ (b : Base). IsInside c.args.self.now.left c.args.self.now.right (key_of b)) front (c.holds.ensures.0 c.if-not-holds.false)),
        inside_at c.args.self.now.left c.args.self.now.right c.args.page.now c.args.count (c.args.count - 1)
            (λ low. subst (λ (b : Base). IsInside c.args.self.now.left c.args.self.now.right (key_of b)) last (c.holds-2.ensures.0 is)),
      ),
      λ all. c.holds-2.ensures.1 (subst (λ (b : Base). IsInside c.args.self.now.left c.args.self.now.right (key_of b)) (sym last)
          (at_inside c.args.self.now.left c.args.self.now.right c.args.page.now c.args.count (c.args.count - 1) (omega (arith, c.if-count-eq0.false)) all.1)),
    )

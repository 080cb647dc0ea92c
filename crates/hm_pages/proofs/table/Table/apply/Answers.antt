use Rattle.std.specs.Prelude.{nat_eq}
use Rattle.std.specs.List.{IsDistinct}
use Rattle.std.specs.Map.{keys_of}
use Rattle.std.proofs.Common.{ℕ, Option, subst, ◌≡◌, ◌∷◌, ◌∙◌, sym, ap, arith, length, option_map}
use Rattle.std.proofs.lemmas.Map.Iter.{rest_more, rest_all}
use Rattle.hm_pages.specs.Table.{page_at}
use Rattle.hm_pages.specs.Counts.{Boxed, bytes_of}
use Rattle.hm_pages.specs.Maps.{set_at}
use Rattle.hm_pages.proofs.FoldLemmas.{folded_more, folded_done, folded_over}
use Rattle.hm_pages.proofs.table.Table.apply.Goals as goal

pub loop-at-preserved-in-Some-change : goal.loop-at-preserved-in-Some-change
loop-at-preserved-in-Some-change c =
    let entry : ℕ × Option Boxed = (c.in-Some.at, c.in-Some.change) in
    let rest = c.next.new.self in
    let more : c.loop-at.at-iterator ≡ entry ∷ rest = rest_more (λ x. x) c.loop-at.at-iterator rest _ entry c.in-Some.is c.next.ensures.steps in
    let long = ap length more in
    let value = c.put.ensures.value ∙ ap (λ change. set_at c.in-Some.at (option_map bytes_of change) (page_at c.loop-at.self)) (sym c.in-Some-change.is) in
    record {
      value = folded_more (option_map bytes_of) (page_at c.loop-at.self) (page_at c.put.new.self) c.loop-at.at-iterator rest entry more value ∙
          c.loop-at.invariant.value;
      room = omega (arith, long, c.loop-at.invariant.room, c.put.ensures.spare);
    }

pub loop-at-preserved : goal.loop-at-preserved
loop-at-preserved c =
    let entry : ℕ × Option Boxed = (c.in-Some.at, c.in-Some.change) in
    let rest = c.next.new.self in
    let more : c.loop-at.at-iterator ≡ entry ∷ rest = rest_more (λ x. x) c.loop-at.at-iterator rest _ entry c.in-Some.is c.next.ensures.steps in
    let long = ap length more in
    let value = c.remove.ensures.value ∙ ap (λ change. set_at c.in-Some.at (option_map bytes_of change) (page_at c.loop-at.self)) (sym c.in-None-change.is) in
    record {
      value = folded_more (option_map bytes_of) (page_at c.loop-at.self) (page_at c.remove.new.self) c.loop-at.at-iterator rest entry more value ∙
          c.loop-at.invariant.value;
      room = omega (arith, long, c.loop-at.invariant.room, c.remove.ensures.spare);
    }

pub returns : goal.returns
returns c =
    let done = rest_all (λ x. x) c.loop-at.at-iterator c.next.new.self _ c.in-None.is c.next.ensures.steps in
    sym (folded_done (option_map bytes_of) (page_at c.loop-at.self) c.loop-at.at-iterator done) ∙ c.loop-at.invariant.value ∙
    folded_over (page_at c.args.self.now) c.args.changes.places.entries
    (subst (λ m. IsDistinct nat_eq (keys_of m.entries)) c.into_places-at-items.ensures c.into_iter-at-iterator.ensures.into_iter_gives.4)

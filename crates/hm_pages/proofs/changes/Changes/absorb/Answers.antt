use Rattle.std.specs.Prelude.{nat_eq}
use Rattle.std.specs.List.{IsDistinct}
use Rattle.std.specs.Map.{keys_of}
use Rattle.std.proofs.Common.{ℕ, Option, subst, ◌≡◌, ◌∷◌, ◌∙◌, sym, ap, arith, length}
use Rattle.std.proofs.lemmas.Map.Iter.{rest_more, rest_all}
use Rattle.hm_pages.specs.Changes.{change_at}
use Rattle.hm_pages.specs.Counts.{Boxed, pages_in}
use Rattle.hm_pages.proofs.CountLemmas.{pages-cons, pages_put}
use Rattle.hm_pages.proofs.FoldLemmas.{folded_more, folded_done, folded_joined, put_change}
use Rattle.hm_pages.proofs.ResultLemmas.{on_ok}
use Rattle.hm_pages.proofs.changes.Changes.absorb.Goals as goal

pub loop-at-preserved : goal.loop-at-preserved
loop-at-preserved c =
    let entry : ℕ × Option Boxed = (c.in-Some.at, c.in-Some.page) in
    let rest = c.next.new.self in
    let more : c.loop-at.at-iterator ≡ entry ∷ rest = rest_more (λ x. x) c.loop-at.at-iterator rest _ entry c.in-Some.is c.next.ensures.steps in
    let long = ap length more in
    let fits = c.put.ensures.succeeds (omega (arith, long, c.loop-at.invariant.room)) in
    let value = on_ok c.put.result fits c.put.ensures.ok in
    let pages = on_ok c.put.result fits c.put.ensures.pages in
    let counted = ap pages_in more ∙ pages-cons entry rest in
    record {
      value = folded_more put_change (change_at c.loop-at.self) (change_at c.put.new.self) c.loop-at.at-iterator rest entry more value ∙
          c.loop-at.invariant.value;
      room = omega (arith, long, c.loop-at.invariant.room, c.put.ensures.spare);
      pages = omega (arith, pages, counted, pages_put c.in-Some.page, c.loop-at.invariant.pages);
    }

pub returns-clause-value : goal.returns-clause-value
returns-clause-value c =
    let done = rest_all (λ x. x) c.loop-at.at-iterator c.next.new.self _ c.in-None.is c.next.ensures.steps in
    sym (folded_done put_change (change_at c.loop-at.self) c.loop-at.at-iterator done) ∙ c.loop-at.invariant.value ∙
    folded_joined (change_at c.args.self.now) c.args.later.places.entries
    (subst (λ m. IsDistinct nat_eq (keys_of m.entries)) c.into_places-at-items.ensures c.into_iter-at-iterator.ensures.into_iter_gives.4)

-- The big-blocks are chosen one after another.
use Rattle.std.proofs.Common.{◌≡◌, ◌+◌, ◌<◌, ◌≤◌, ◌++◌, ◌∷◌, ◌∙◌, [], List, ℕ, ap, arith, subst, sym}
use Rattle.std.specs.List.{Contains}
use Rattle.std.specs.List.Sorted.{IsNonDecreasing}
use Rattle.std.proofs.lemmas.Result.{err_from_is_err_and}
use Rattle.hm_types.specs.Layout.{IsPool, first_pool}
use Rattle.hm_pages.specs.Store.{contents}
use Rattle.hm_stored.specs.Heap.{heap_of}
use Rattle.hm_stored.specs.declared.books.Books.{Books}
use Rattle.hm_stored.specs.declared.space.Space.{Space}
use Rattle.hm_relocate.specs.Chosen.{is_chosen}
use Rattle.hm_relocate.specs.Leaving.{AppendsToNone}
use Rattle.hm_relocate.proofs.ChosenLemmas.{apart_more, below_more, chosen_less, chosen_more, rises_more}
use Rattle.hm_relocate.proofs.LookedLemmas.{looked_both, looked_damage, looked_tells}
use Rattle.hm_relocate.proofs.choosing.choose.Goals as goal
use Rattle.hm_relocate.proofs.choosing.choose.Goals.{then-branch+in_ok-push, else-branch}

pub returns-in_err-is_chosen-clause-cause : goal.returns-in_err-is_chosen-clause-cause
unfolding heap_of
returns-in_err-is_chosen-clause-cause g c =
    let heap = λ (s : Space g.row.D.Denot g.D.Disk). heap_of (contents s.pages.store) (g.D.Disk.told s.disk) s.books in
    let s = c.args.stored.now.space in
    let p = err_from_is_err_and c.from_residual.result c.from_residual.ensures.1 in
    let blocks = ap (λ (b : Books). b.bigblocks) (c.books.ensures ∙ ap (λ s. s.books) c.space.ensures) in
    let first = c.first_pool-block.ensures.value ∙ ap first_pool blocks in
    let pool : IsPool s.books.bigblocks c.loop-block.block = (omega (arith, first), omega (arith, blocks)) in
    rw (p.1, p.2) (looked_damage (heap s) (heap c.loop-block.stored.space) c.loop-block.invariant.looks c.loop-block.block c.in_err-is_chosen.field-0.0 pool
    c.in_err-is_chosen.ensures.cause)

pub loop-block-preserved : goal.loop-block-preserved
unfolding heap_of
loop-block-preserved g c =
    let heap = λ (s : Space g.row.D.Denot g.D.Disk). heap_of (contents s.pages.store) (g.D.Disk.told s.disk) s.books in
    let s = c.args.stored.now.space in
    let h = heap s in
    let h1 = heap c.loop-block.stored.space in
    let h2 = heap c.is_chosen.new.stored.space in
    let block = c.loop-block.block in
    let list = c.loop-block.chosen.items in
    let was = c.loop-block.invariant in
    let looks = looked_both h h1 h2 was.looks c.is_chosen.ensures.same in
    let tells = looked_tells h h1 was.looks c.args.fill block c.in_ok-is_chosen.field-0 c.in_ok-is_chosen.ensures.ok in
    let blocks = ap (λ (b : Books). b.bigblocks) (c.books.ensures ∙ ap (λ s. s.books) c.space.ensures) in
    let first = c.first_pool-block.ensures.value ∙ ap first_pool blocks in
    let low : first_pool s.books.bigblocks ≤ block = omega (arith, first) in
    let below : (b : ℕ) → Contains list b → b < block + 1 = λ b has. (let is = was.below b has in omega (arith, is)) in
    elim c.if-branch.branch [
      | then-branch+in_ok-push w ↦ (
          let items : c.if-branch.chosen.items ≡ list ++ block ∷ [] = ap (λ v. v.items) w.chosen-is ∙ w.in_ok-push.ensures.items in
          record {
            looks = looks;
            root = c.is_chosen.ensures.rest.0 ∙ was.root;
            disk = c.is_chosen.ensures.rest.1 ∙ was.disk;
            exact = λ states stand. items ∙ chosen_more (is_chosen c.args.fill s.books.append states.current) (first_pool s.books.bigblocks) block list
                low (was.exact states stand) (sym (tells.exact states stand) ∙ w.if-branch.true);
            rising = subst IsNonDecreasing (sym items) (rises_more list block was.rising was.below);
            below = subst (λ (l : List ℕ). (b : ℕ) → Contains l b → b < block + 1) (sym items) (below_more list block was.below);
            apart = subst (AppendsToNone s.books.append) (sym items) (apart_more s.books.append list block was.apart (tells.apart w.if-branch.true));
          }
          )
      | else-branch w ↦ (
          let items : c.if-branch.chosen.items ≡ list = ap (λ v. v.items) w.chosen-is in
          record {
            looks = looks;
            root = c.is_chosen.ensures.rest.0 ∙ was.root;
            disk = c.is_chosen.ensures.rest.1 ∙ was.disk;
            exact = λ states stand. items ∙ chosen_less (is_chosen c.args.fill s.books.append states.current) (first_pool s.books.bigblocks) block list
                low (was.exact states stand) (sym (tells.exact states stand) ∙ w.if-branch.false);
            rising = subst IsNonDecreasing (sym items) was.rising;
            below = subst (λ (l : List ℕ). (b : ℕ) → Contains l b → b < block + 1) (sym items) below;
            apart = subst (AppendsToNone s.books.append) (sym items) was.apart;
          }
          )
    ]

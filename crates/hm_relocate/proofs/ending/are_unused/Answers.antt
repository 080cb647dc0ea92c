-- It is told whether nothing is live in any of some big-blocks.
use Rattle.std.proofs.Common.{◌<◌, ◌∙◌, ℕ, List, length, get_or, take, sym, subst, inl, inr, arith}
use Rattle.std.specs.List.{Contains}
use Rattle.std.proofs.lemmas.List.{take_all, take_more}
use Rattle.std.proofs.lemmas.List.Elements.{Contains-push_cases}
use Rattle.hm_pages.specs.Store.{contents}
use Rattle.hm_stored.specs.Heap.{heap_of}
use Rattle.hm_stored.specs.declared.space.Space.{Space}
use Rattle.hm_relocate.specs.Leaving.{HasNothingLive}
use Rattle.hm_relocate.proofs.LookedLemmas.{looked_both, looked_live}
use Rattle.hm_relocate.proofs.ending.are_unused.Goals as goal

pub loop-block-preserved : goal.loop-block-preserved
unfolding heap_of
loop-block-preserved g c =
    let heap = λ (s : Space g.row.D.Denot g.D.Disk). heap_of (contents s.pages.store) (g.D.Disk.told s.disk) s.books in
    let h = heap c.args.stored.now.space in
    let h1 = heap c.loop-block.stored.space in
    let h2 = heap c.is_unused.new.stored.space in
    let blocks = c.args.blocks.now in
    let i = c.loop-block.block-index in
    let looks = c.is_unused.ensures in
    let low : i < length blocks = omega arith in
    record {
      looks = looked_both h h1 h2 c.loop-block.invariant.looks looks.same;
      root = looks.rest.0 ∙ c.loop-block.invariant.root;
      disk = looks.rest.1 ∙ c.loop-block.invariant.disk;
      unused = λ b has.
          elim (Contains-push_cases (take i blocks) (get_or blocks i 0) b (subst (λ (l : List ℕ). Contains l b) (take_more blocks i 0 low) has)) [
            | inl before ↦ looked_live h1 h2 looks.same b (c.loop-block.invariant.unused b before)
            | inr is ↦ subst (HasNothingLive h2) is (c.in_ok-is_unused.ensures.ok c.if-not-branch.false)
          ];
    }

pub returns-clause-ok : goal.returns-clause-ok
returns-clause-ok g c = λ is block has.
    c.loop-block.invariant.unused block
    (subst (λ (l : List ℕ). Contains l block) (sym (take_all c.loop-block.block-index c.args.blocks.now c.loop-block-test.false)) has)

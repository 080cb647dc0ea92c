use Rattle.std.proofs.Common.{◌≡◌, ◌≤◌, ◌+◌, ◌-◌, ◌*◌, ◌/◌, ℕ, refl, arith, subst, ◌∙◌}
use Rattle.std.specs.List.{range_with_len}
use Rattle.hm_types.specs.Layout.{first_pool}
use Rattle.hm_types.specs.References.{pool}
use Rattle.hm_freemap.specs.Scan.{Finds, AreRead}
use Rattle.hm_freemap.specs.Stand.{WhereTold, is_free_by}
use Rattle.hm_freemap.proofs.ScanLemmas.{finds_rest}
use Rattle.hm_freemap.proofs.SheetLemmas.{agreed, range-none, bad_block}
use Rattle.hm_freemap.proofs.ToldLemmas.{where_all, where_at, where_map, where_both}
use Rattle.hm_freemap.proofs.scan.scan.Goals as goal
use Rattle.hm_freemap.proofs.scan.scan.Goals.{then-loop-from-test+else-found-limit, else-loop-from-test}

pub loop-from-init : goal.loop-from-init
loop-from-init g c =
    let first = first_pool c.args.bigblocks in
    record {
      low = omega (arith, c.first_pool-from.ensures.value);
      high = omega (arith, c.first_pool-from.ensures.small, c.requires.least);
      few = omega (arith, c.none-found.ensures.none);
      found = where_all (g.P.States.committed c.args.pages.now) (g.P.States.frozen c.args.pages.now) (g.P.Pages.pages c.args.pages.now)
          (λ maps. Finds (is_free_by c.args.append.now maps) c.args.limit (range_with_len first (c.first_pool-from.result - first)) c.none-found.result)
          (λ maps. rw (c.first_pool-from.ensures.value, range-none first) (c.none-found.ensures.found (is_free_by c.args.append.now maps) c.args.limit));
      pages = refl;
      committed = refl;
      frozen = refl;
      layer2 = refl;
      others = refl;
      name = refl;
      frame = refl;
      below = c.none-found.ensures.below c.args.bigblocks (omega (arith, c.requires.least));
      faults = omega arith;
    }

pub loop-from-preserved : goal.loop-from-preserved
loop-from-preserved g c =
    let first = first_pool c.args.bigblocks in
    let append = c.args.append.now in
    let from = c.loop-from.from in
    let to = c.min-to.result in
    let committed = g.P.States.committed c.args.pages.now in
    let frozen = g.P.States.frozen c.args.pages.now in
    let current = g.P.Pages.pages c.args.pages.now in
    let invariant = c.loop-from.invariant in
    let same = c.in_ok-read.ensures.same in
    let further : to ≤ (from / 256 + 1) * 256 = omega (arith, c.min-to.ensures) in
    let inside : to ≤ c.args.bigblocks = omega (arith, c.min-to.ensures) in
    let onward : from ≤ to = omega (arith, c.min-to.ensures, c.loop-from-test.true) in
    let read : WhereTold committed frozen current (λ maps. AreRead maps from c.read.new.self) =
    where_at committed frozen current (g.P.States.committed c.loop-from.pages) (g.P.States.frozen c.loop-from.pages)
    (g.P.Pages.pages c.loop-from.pages) (λ maps. AreRead maps from c.read.new.self)
    invariant.committed invariant.frozen invariant.pages (rw (← c.from.ensures) c.in_ok-read.ensures.ok) in
    record {
      low = omega (arith, invariant.low, onward);
      high = inside;
      few = c.in-Ok.ensures.few;
      found = where_both committed frozen current
          (λ maps. Finds (is_free_by append maps) c.args.limit (range_with_len first (from - first)) c.loop-from.found)
          (λ maps. AreRead maps from c.read.new.self)
          (λ maps. Finds (is_free_by append maps) c.args.limit (range_with_len first (to - first)) c.look.new.self)
          (λ maps finds each. c.in-Ok.ensures.ok (is_free_by append maps) first invariant.low (agreed maps append from to c.read.new.self each further) finds)
          invariant.found read;
      pages = same.0 ∙ invariant.pages;
      committed = same.1 ∙ invariant.committed;
      frozen = same.2 ∙ invariant.frozen;
      layer2 = same.3 ∙ invariant.layer2;
      others = c.in_ok-read.ensures.rest ∙ invariant.others;
      name = c.in_ok-read.ensures.name ∙ invariant.name;
      frame = c.in_ok-read.ensures.frame ∙ invariant.frame;
      below = c.in-Ok.ensures.below c.args.bigblocks inside invariant.below;
      faults = omega (arith, invariant.faults, c.in_ok-read.ensures.counted.never_falls);
    }

pub returns-in-Err-clause-cause : goal.returns-in-Err-clause-cause
returns-in-Err-clause-cause g c =
    let from = c.loop-from.from in
    let to = c.min-to.result in
    let committed = g.P.States.committed c.args.pages.now in
    let frozen = g.P.States.frozen c.args.pages.now in
    let current = g.P.Pages.pages c.args.pages.now in
    let invariant = c.loop-from.invariant in
    let read : WhereTold committed frozen current (λ maps. AreRead maps from c.read.new.self) =
    where_at committed frozen current (g.P.States.committed c.loop-from.pages) (g.P.States.frozen c.loop-from.pages)
    (g.P.Pages.pages c.loop-from.pages) (λ maps. AreRead maps from c.read.new.self)
    invariant.committed invariant.frozen invariant.pages (rw (← c.from.ensures) c.in_ok-read.ensures.ok) in
    let err = c.in-Err.ensures.err in
    bad_block c.args.bigblocks c.args.append.now committed frozen current from to c.in-Err.block (g.P.Counted.faults c.args.pages.now)
    (g.P.Counted.faults c.read.new.pages) c.read.new.self c.bad_entry.result
    (rw (← c.from-in-Err.ensures) c.bad_entry.ensures) (omega (arith, invariant.faults, c.in_ok-read.ensures.counted.never_falls)) read invariant.low
    (omega (arith, c.min-to.ensures)) (omega (arith, c.min-to.ensures)) err.0 err.1 err.2

pub returns-clause-ok : goal.returns-clause-ok
returns-clause-ok g c =
    let first = first_pool c.args.bigblocks in
    let append = c.args.append.now in
    let committed = g.P.States.committed c.args.pages.now in
    let frozen = g.P.States.frozen c.args.pages.now in
    let current = g.P.Pages.pages c.args.pages.now in
    let invariant = c.loop-from.invariant in
    let from = c.loop-from.from in
    elim c.loop-from-test.branch [
      | then-loop-from-test+else-found-limit w ↦ where_map committed frozen current
          (λ maps. Finds (is_free_by append maps) c.args.limit (range_with_len first (from - first)) c.loop-from.found)
          (λ maps. Finds (is_free_by append maps) c.args.limit (pool c.args.bigblocks) c.loop-from.found)
          (λ maps finds. finds_rest (is_free_by append maps) c.args.limit first from c.args.bigblocks c.loop-from.found invariant.low invariant.high
          (omega arith) finds)
          invariant.found
      | else-loop-from-test w ↦
          let end : from ≡ c.args.bigblocks = omega arith in
          where_map committed frozen current
          (λ maps. Finds (is_free_by append maps) c.args.limit (range_with_len first (from - first)) c.loop-from.found)
          (λ maps. Finds (is_free_by append maps) c.args.limit (pool c.args.bigblocks) c.loop-from.found)
          (λ maps finds. subst (λ (to : ℕ). Finds (is_free_by append maps) c.args.limit (range_with_len first (to - first)) c.loop-from.found) end finds)
          invariant.found
    ]

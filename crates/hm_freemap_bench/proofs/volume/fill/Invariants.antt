-- No call is open, nothing is frozen, and the pages so far are there.
use Rattle.std.proofs.Common.{◌≡◌, ◌*◌, ◌<◌, ℕ, None, true, is_some}
use Rattle.hm_pages.specs.Store.{contents}
use Rattle.hm_freemap.specs.Places.{page_of}
use Rattle.hm_freemap_bench.proofs.volume.fill.Given as goal

abbrev pub invariant-loop-number : goal.invariant-loop-number
invariant-loop-number l = record {
  closed : (contents l.pages).begin ≡ None;
  idle : (contents l.pages).boundary ≡ None;
  there : (i : ℕ) → i < l.number → is_some ((contents l.pages).current (page_of (i * 256))) ≡ true;
}

-- No flush is in flight yet.
use Rattle.std.proofs.Common.{◌≡◌, ◌∙◌, ap, arith, rules, subst, sym}
use Rattle.hm_flush.specs.declared.flush.Flush.{Flush}
use Rattle.hm_flush.specs.Calls.{IsTarget}
use Rattle.hm_stored.specs.Flushed.{IsFlushedBy}
use Rattle.hm_stored.specs.Heap.{heap_of}
use Rattle.hm_stored.specs.Space.{heap}
use Rattle.hm_stored_tests.proofs.flush_tests.Flushed.new.Goals as goal

pub invariant_of-result : goal.invariant_of-result
unfolding heap_of
invariant_of-result c =
    let books : c.in_ok-header.header.bigblocks ≡ c.books-books.result.now.bigblocks = grind arith in
    let size : c.books-books.result.now.bigblocks ≡ c.args.store.space.books.bigblocks = grind arith in
    subst (λ (f : Flush). IsFlushedBy f (heap c.args.store.space) × IsTarget f c.in_ok-now.now) (sym c.new.ensures) (
      record { closed = c.requires.closed; bigblocks = books ∙ size; group = c.requires.idle; stands = tt },
      record { header = c.in_ok-now.ensures.range; bigblocks = grind arith },
    )

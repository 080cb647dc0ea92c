-- The append big-blocks are four different ones of the pool still.
use Rattle.hm_stored.proofs.extents.renew.Goals as goal

pub invariant_of-books : goal.invariant_of-books
invariant_of-books c =
    let b = c.args.books.now in
    record {
      least = b.least;
      most = b.most;
      below = c.in-Ok.ensures.ok.0;
      begun_below = b.begun_below;
      distinct = c.in-Ok.ensures.ok.1.distinct b.distinct;
      begun_distinct = b.begun_distinct;
      pool = c.in-Ok.ensures.ok.1.pool b.pool;
      begun_pool = b.begun_pool;
    }

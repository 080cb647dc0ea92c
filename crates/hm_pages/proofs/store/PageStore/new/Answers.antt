use Rattle.std.proofs.Common.{false, None}
use Rattle.hm_pages.specs.Store.{contents, store_of}
use Rattle.hm_pages.proofs.store.PageStore.new.Goals as goal

pub returns : goal.returns
unfolding contents
returns c = λ i. store_of (c.new.ensures i) (c.new-2.ensures.none i) (c.new-3.ensures.none i) (c.new-4.ensures.none i) false
    (c.new-3.ensures.pages i) (c.new-4.ensures.pages i) (c.new-5.ensures.items i) None

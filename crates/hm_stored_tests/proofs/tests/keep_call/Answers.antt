-- A call is kept, and another opened.
use Rattle.std.proofs.Common.{Option, ap, is_some, subst, sym}
use Rattle.hm_fields.specs.Pages.{PageMap}
use Rattle.hm_stored.specs.Heap.{heap_of}
use Rattle.hm_stored.specs.Turn.{IsClosed}
use Rattle.hm_stored_tests.proofs.tests.keep_call.Goals as goal

pub begin-requires : goal.begin-requires
unfolding heap_of
begin-requires g c = record {
  closed = subst IsClosed (sym c.keep.ensures.turn.rest) (record { begin = c.keep.ensures.turn.pages.begin; whole = c.requires.keepable.whole });
}

pub returns : goal.returns
unfolding heap_of
returns g c = record { begun = ap (λ (o : Option PageMap). is_some o) c.begin.ensures.turn.pages.begin }

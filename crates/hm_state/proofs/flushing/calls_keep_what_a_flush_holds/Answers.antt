use Rattle.hm_state.proofs.FlushKeptLemmas.{holds_same_flush, read_kept, told_kept}
use Rattle.hm_state.proofs.flushing.calls_keep_what_a_flush_holds.Goals as goal

pub returns-clause-told : goal.returns-clause-told
returns-clause-told c = λ f old new s t committed frozen same was is told holds. told_kept f old new s t committed frozen same was is told holds

pub returns-clause-as_read : goal.returns-clause-as_read
returns-clause-as_read c = λ f old new s t committed frozen same was is told holds. read_kept f old new s t committed frozen same was is told holds

pub returns-clause-same : goal.returns-clause-same
returns-clause-same c = λ f old new t committed frozen flush bigblocks mine theirs holds.
    holds_same_flush f old new t committed frozen flush bigblocks mine theirs holds

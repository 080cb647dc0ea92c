use Rattle.hm_records.proofs.MeetLemmas.{follows_way, aged_follow, follows_later, nothing_ended}
use Rattle.hm_records.proofs.views.follow.what_follows_goes_on.Goals as goal

pub returns-clause-closed : goal.returns-clause-closed
returns-clause-closed c = aged_follow

pub returns-clause-added : goal.returns-clause-added
returns-clause-added c = follows_way

pub returns-clause-nothing : goal.returns-clause-nothing
returns-clause-nothing c = nothing_ended

pub returns-clause-later : goal.returns-clause-later
returns-clause-later c = follows_later

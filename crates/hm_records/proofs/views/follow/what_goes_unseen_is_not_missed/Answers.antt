use Rattle.hm_records.proofs.FollowLemmas.{dead_unseen, follows_still, unseen_view}
use Rattle.hm_records.proofs.views.follow.what_goes_unseen_is_not_missed.Goals as goal

pub returns-clause-follows : goal.returns-clause-follows
returns-clause-follows c = follows_still

pub returns-clause-unseen : goal.returns-clause-unseen
returns-clause-unseen c = unseen_view

pub returns-clause-dead : goal.returns-clause-dead
returns-clause-dead c = dead_unseen

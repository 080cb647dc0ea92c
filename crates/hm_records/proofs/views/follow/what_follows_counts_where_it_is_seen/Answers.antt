use Rattle.hm_records.proofs.FollowLemmas.{follows_counts, seen_once}
use Rattle.hm_records.proofs.MeetLemmas.{follows_versions, meet_once}
use Rattle.hm_records.proofs.views.follow.what_follows_counts_where_it_is_seen.Goals as goal

pub returns-clause-counts : goal.returns-clause-counts
returns-clause-counts c = follows_counts

pub returns-clause-one : goal.returns-clause-one
returns-clause-one c = seen_once

pub returns-clause-versions : goal.returns-clause-versions
returns-clause-versions c = follows_versions

pub returns-clause-meeting : goal.returns-clause-meeting
returns-clause-meeting c = meet_once

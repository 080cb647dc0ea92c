use Rattle.hm_search.proofs.FrameLemmas.{frame_elements, frame_mark, frame_reaches, frame_tree}
use Rattle.hm_search.proofs.laws.what_is_not_reached_does_not_matter.Goals as goal

pub returns-clause-elements : goal.returns-clause-elements
returns-clause-elements c = frame_elements

pub returns-clause-mark : goal.returns-clause-mark
returns-clause-mark c = frame_mark

pub returns-clause-reached : goal.returns-clause-reached
returns-clause-reached c = frame_reaches

pub returns-clause-sound : goal.returns-clause-sound
returns-clause-sound c = frame_tree

use Rattle.hm_state.proofs.ApartLemmas.{pages_apart, pages_within, payloads_apart}
use Rattle.hm_state.proofs.laws.pages_of_a_space_are_apart.Goals as goal

pub returns-clause-pages : goal.returns-clause-pages
returns-clause-pages c = pages_apart

pub returns-clause-payloads : goal.returns-clause-payloads
returns-clause-payloads c = payloads_apart

pub returns-clause-within : goal.returns-clause-within
returns-clause-within c = pages_within

use Rattle.hm_pages.proofs.ByteLemmas.{state_bytes}
use Rattle.hm_pages.proofs.laws.pages_are_bytes.Goals as goal

pub returns : goal.returns
returns c = state_bytes c.args.store.now

use Rattle.hm_core.specs.History.{setting_of}
use Rattle.hm_core.proofs.NumberLemmas.{used_told}
use Rattle.hm_core.proofs.laws.told_numbers_are_used.Goals as goal

pub returns : goal.returns
returns c = λ free start counts opening foreigners events legal. used_told (setting_of free start counts opening foreigners) events legal

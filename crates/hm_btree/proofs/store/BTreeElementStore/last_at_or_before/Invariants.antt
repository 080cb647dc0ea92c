use Rattle.hm_btree.proofs.store.BTreeElementStore.last_at_or_before.Given as goal

-- the steps are counted in the ledger that the call makes
abbrev pub ghosts-last_uncounted : goal.ghosts-last_uncounted
ghosts-last_uncounted g a = record { name = a.blank.name; parts = a.blank.parts }

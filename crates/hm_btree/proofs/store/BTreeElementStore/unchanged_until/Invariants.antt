use Rattle.hm_btree.proofs.store.BTreeElementStore.unchanged_until.Given as goal

-- the steps are counted in the ledger that the call makes
abbrev pub ghosts-quiet_uncounted : goal.ghosts-quiet_uncounted
ghosts-quiet_uncounted g a = record { name = a.blank.name; parts = a.blank.parts }

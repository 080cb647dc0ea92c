use Rattle.hm_btree.proofs.store.BTreeElementStore.remove.Given as goal

-- the steps are counted in the ledger that the call makes
abbrev pub ghosts-remove_uncounted : goal.ghosts-remove_uncounted
ghosts-remove_uncounted g a = record { name = a.blank.name; parts = a.blank.parts }

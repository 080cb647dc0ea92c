use Rattle.hm_btree.proofs.store.BTreeElementStore.readdress.Given as goal

-- the steps are counted in the ledger that the call makes
abbrev pub ghosts-change_uncounted : goal.ghosts-change_uncounted
ghosts-change_uncounted g a = record { name = a.blank.name; parts = a.blank.parts }

use Rattle.hm_btree.proofs.store.BTreeElementStore.first_at_or_after.Given as goal

-- the steps are counted in the ledger that the call makes
abbrev pub ghosts-first_uncounted : goal.ghosts-first_uncounted
ghosts-first_uncounted g a = record { name = a.blank.name; parts = a.blank.parts }

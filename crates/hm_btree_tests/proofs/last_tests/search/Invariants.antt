use Rattle.hm_btree_tests.proofs.last_tests.search.Given as goal

abbrev pub ghosts-last_in : goal.ghosts-last_in
ghosts-last_in a = record { name = a.blank.name; parts = a.blank.parts }

use Rattle.hm_search_tests.proofs.tree.quiet_from.Given as goal

abbrev pub ghosts-quiet_in : goal.ghosts-quiet_in
ghosts-quiet_in a = record { name = a.blank.name; parts = a.blank.parts }

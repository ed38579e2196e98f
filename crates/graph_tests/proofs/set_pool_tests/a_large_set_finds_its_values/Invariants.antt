use Rattle.graph_tests.proofs.set_pool_tests.a_large_set_finds_its_values.Given as goal

abbrev pub ghosts-finds_values : goal.ghosts-finds_values
ghosts-finds_values g a = record { name = a.blank.name; parts = a.blank.parts }

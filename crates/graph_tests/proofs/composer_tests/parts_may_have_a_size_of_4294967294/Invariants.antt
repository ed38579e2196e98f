use Rattle.graph_tests.proofs.composer_tests.parts_may_have_a_size_of_4294967294.Given as goal

abbrev pub ghosts-graph_of : goal.ghosts-graph_of
ghosts-graph_of g a = record { name = a.blank.name; parts = a.blank.parts }

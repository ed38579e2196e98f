use Rattle.graph_tests.proofs.composer_tests.more_than_a_few_functions_come_to_one_vertex.Given as goal

abbrev pub ghosts-graph_of : goal.ghosts-graph_of
ghosts-graph_of g a = record { name = a.blank.name; parts = a.blank.parts }

use Rattle.graph_tests.proofs.composer_tests.a_function_calls_itself.Given as goal

abbrev pub ghosts-graph_of : goal.ghosts-graph_of
ghosts-graph_of g a = record { name = a.blank.name; parts = a.blank.parts }

use Rattle.graph_tests.proofs.set_pool_tests.a_chunk_has_fifteen_values.Given as goal

abbrev pub ghosts-fills_chunks : goal.ghosts-fills_chunks
ghosts-fills_chunks g a = record { name = a.blank.name; parts = a.blank.parts }

use Rattle.app_tests.proofs.bench.status_of.Given as goal

abbrev pub ghosts-ran : goal.ghosts-ran
ghosts-ran g a = record { name = a.blank.name; parts = a.blank.parts }

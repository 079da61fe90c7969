use Rattle.graph_tests.proofs.silence.destination_that_hears_nothing_is_silent.Given as goal

abbrev pub ghosts-loudest : goal.ghosts-loudest
ghosts-loudest g a = record { name = a.blank.name; parts = a.blank.parts }

use Rattle.graph_tests.proofs.plans.is_met_in.Given as goal

abbrev pub ghosts-is_prepared : goal.ghosts-is_prepared
ghosts-is_prepared a = record { name = a.blank.name; parts = a.blank.parts }

use Rattle.graph_tests.proofs.orders.told.Given as goal

abbrev pub ghosts-ask : goal.ghosts-ask
ghosts-ask a = record { name = a.blank.name; parts = a.blank.parts }

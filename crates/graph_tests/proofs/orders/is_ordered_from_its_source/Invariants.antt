use Rattle.graph_tests.proofs.orders.is_ordered_from_its_source.Given as goal

abbrev pub ghosts-ask : goal.ghosts-ask
ghosts-ask a = record { name = a.blank.name; parts = a.blank.parts }

use Rattle.graph_tests.proofs.orders.is_tried_as.Given as goal

abbrev pub ghosts-is_legal_list : goal.ghosts-is_legal_list
ghosts-is_legal_list a = record { name = a.blank.name; parts = a.blank.parts }

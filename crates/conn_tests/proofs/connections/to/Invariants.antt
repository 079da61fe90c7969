use Rattle.conn_tests.proofs.connections.to.Given as goal

abbrev pub ghosts-walk_to : goal.ghosts-walk_to
ghosts-walk_to a = record { name = a.blank.name; parts = a.blank.parts }

use Rattle.conn_tests.proofs.connections.from.Given as goal

abbrev pub ghosts-walk_from : goal.ghosts-walk_from
ghosts-walk_from a = record { name = a.blank.name; parts = a.blank.parts }

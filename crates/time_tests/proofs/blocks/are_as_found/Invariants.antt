use Rattle.time_tests.proofs.blocks.are_as_found.Given as goal

abbrev pub ghosts-all_are_as_found : goal.ghosts-all_are_as_found
ghosts-all_are_as_found a = record { name = a.blank.name; parts = a.blank.parts }

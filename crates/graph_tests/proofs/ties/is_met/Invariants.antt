use Rattle.graph_tests.proofs.ties.is_met.Given as goal

abbrev pub ghosts-play_both : goal.ghosts-play_both
ghosts-play_both a = record { name = a.blank.name; parts = a.blank.parts }

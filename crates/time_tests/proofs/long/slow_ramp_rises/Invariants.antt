use Rattle.time_tests.proofs.long.slow_ramp_rises.Given as goal

abbrev pub ghosts-rises_after_129_frames : goal.ghosts-rises_after_129_frames
ghosts-rises_after_129_frames a = record { name = a.blank.name; parts = a.blank.parts }

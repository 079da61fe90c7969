use Rattle.time_tests.proofs.long.sum_of_many_sets.Given as goal

abbrev pub ghosts-counted_sum : goal.ghosts-counted_sum
ghosts-counted_sum a = record { name = a.blank.name; parts = a.blank.parts }

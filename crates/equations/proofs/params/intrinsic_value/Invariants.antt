use Rattle.equations.proofs.params.intrinsic_value.Given as goal

abbrev pub ghosts-line_value : goal.ghosts-line_value
ghosts-line_value a = record { name = a.blank.name; parts = a.blank.parts }

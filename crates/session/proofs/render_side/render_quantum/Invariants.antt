use Rattle.session.proofs.render_side.render_quantum.Given as goal

abbrev pub ghosts-render_counted : goal.ghosts-render_counted
ghosts-render_counted a = record { name = a.blank.name; parts = a.blank.parts }

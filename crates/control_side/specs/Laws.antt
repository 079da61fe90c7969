-- What holds of the lines of a session.
use Rattle.std.specs.Prelude.{ℕ, List, [], ◌∷◌}
use Rattle.std.specs.List.Sorted.{IsStrictlyIncreasing}
use Rattle.transcript.specs.declared.lines.Line.{Line}
use Rattle.transcript.specs.declared.lines.Line.TheVariants as line
use Rattle.meaning.specs.declared.world.World.{World}
use Rattle.meaning.specs.Validity.{IsValid}
use Rattle.control_side.specs.Turns.{ended_lines}

-- the node numbers that the lines of ends have, line by line
abbrev pub ended_nodes : List Line → List ℕ
ended_nodes [] = []
ended_nodes (line.Ended node name ∷ lines) = node.0 ∷ ended_nodes lines
ended_nodes (other ∷ lines) = ended_nodes lines

-- The sources that end in a quantum have their lines in order of node number.
abbrev pub EndedLaw : Type 0
EndedLaw = (names : List (ℕ × List ℕ)) (now : ℕ) (w : World) → IsValid w → IsStrictlyIncreasing (ended_nodes (ended_lines names now w.scheds.items))

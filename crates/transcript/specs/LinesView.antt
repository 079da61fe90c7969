-- What contracts see of a list of lines.
use Rattle.std.specs.Prelude.{ℕ, List}
use Rattle.transcript.specs.declared.lines.Line.{Line}

-- the lines in order, and for how many more there is room
pub record LinesView : Type 0 where
  pub items : List Line
  pub room : ℕ

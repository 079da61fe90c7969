-- A source or a sink in memory.
use Rattle.std.specs.Prelude.{ℕ, List}
use Rattle.io_edge.specs.Plan.{Plan}

-- the bytes that are not read yet, or were written, the greatest count of them per call, and the plan of its calls
pub record MemStream : Type 0 where
  pub bytes : List ℕ
  pub most : ℕ
  pub plan : Plan

use Rattle.std.proofs.Common.{ℕ, ◌≡◌, ◌++◌, ◌≤◌, length, max, replicate}
use Rattle.convolve.specs.Lines.{silence}
use Rattle.convolve.proofs.convolver.add_lines.Given as goal

pub record Growing (here size most : Type 0) : Type 0 where
  pub grown : here
  pub long : size
  pub bound : most

abbrev pub invariant-loop : goal.invariant-loop
invariant-loop l = Growing
    ((more : ℕ) × (l.lines.items ≡ l.fn.lines.items ++ replicate more (silence l.kept)))
    (length l.lines.items ≡ l.counter)
    (l.counter ≤ max (length l.fn.lines.items) l.count)

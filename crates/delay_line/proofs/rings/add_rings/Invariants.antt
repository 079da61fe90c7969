use Rattle.std.proofs.Common.{ℕ, ◌≡◌, ◌++◌, [], ◌≤◌, length, max, replicate}
use Rattle.circular_buffer.specs.Buffer.{buffer}
use Rattle.delay_line.proofs.rings.add_rings.Given as goal

pub record Growing (here size most : Type 0) : Type 0 where
  pub grown : here
  pub long : size
  pub bound : most

abbrev pub invariant-loop : goal.invariant-loop
invariant-loop l = Growing
    ((more : ℕ) × (l.rings.items ≡ l.fn.rings.items ++ replicate more (buffer [] l.capacity)))
    (length l.rings.items ≡ l.counter)
    (l.counter ≤ max (length l.fn.rings.items) l.count)

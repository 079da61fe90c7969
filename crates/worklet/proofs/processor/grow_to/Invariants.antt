use Rattle.std.proofs.Common.{◌≡◌, ◌≤◌, ℕ, ℤ, List, get_or, vec_len, vec_capacity, Vec, Global}
use Rattle.worklet.proofs.processor.grow_to.Given as goal

-- so many channels are there, those after the old ones are like the others, and there is memory for them all
pub record Growing (old : List (List ℤ)) (now : Vec (List ℤ) Global) (others : List ℤ) (reached count : ℕ) : Type 0 where
  pub cells : (c : ℕ) → get_or now.items c others ≡ get_or old c others
  pub long : vec_len now ≡ reached
  pub room : count ≤ vec_capacity now

abbrev pub invariant-loop : goal.invariant-loop
invariant-loop l = Growing l.initial.channels.items l.channels l.others l.counter l.count

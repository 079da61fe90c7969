use Rattle.std.proofs.Common.{◌≡◌, ◌≤◌, ℕ, List, get_or, vec_len, vec_capacity, Vec, Global}
use Rattle.shaper_iir.specs.declared.histories.History.{History}
use Rattle.shaper_iir.specs.Histories.{silent}
use Rattle.shaper_iir.proofs.iir.grow_to.Given as goal

-- so many channels are there, those after the old ones are silent, and there is memory for them all
pub record Growing (old : List History) (now : Vec History Global) (reached count : ℕ) : Type 0 where
  pub histories : (c : ℕ) → get_or now.items c silent ≡ get_or old c silent
  pub long : vec_len now ≡ reached
  pub room : count ≤ vec_capacity now

abbrev pub invariant-loop : goal.invariant-loop
invariant-loop l = Growing l.initial.channels.items l.channels l.counter l.count

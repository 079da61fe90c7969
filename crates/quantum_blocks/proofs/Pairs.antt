-- What one connection carries, channel by channel.
use Rattle.std.proofs.Common.{ℕ, ℤ, ◌≡◌, ◌<◌, ap}
use Rattle.quantum_blocks.specs.declared.held.Held.{Held}
use Rattle.quantum_blocks.specs.declared.held.Held.TheVariants.{Steady, Moving}
use Rattle.quantum_blocks.specs.Held.{IsCarried, HasChannels, held_at}

pub carried_long : (q : ℕ) (frames : ℕ → ℕ → ℤ) (n : ℕ) (h : Held) → IsCarried q frames n h → HasChannels q n h
carried_long q frames n (Steady v) is = is.0
carried_long q frames n (Moving v) is = is.0

pub carried_at : (q : ℕ) (frames : ℕ → ℕ → ℤ) (n : ℕ) (h : Held) → IsCarried q frames n h → (c m : ℕ) → m < q → held_at q h c m ≡ frames m c
carried_at q frames n (Steady v) is c m now = ap (λ (f : ℕ → ℤ). f c) (is.1 m now)
carried_at q frames n (Moving v) is c m now = ap (λ (f : ℕ → ℤ). f c) (is.1 m now)

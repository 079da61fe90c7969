use Rattle.std.proofs.Common.{rules, ℕ, ℤ, pos, ◌≡◌, ◌<◌, slice_index_or, FitsSigned, sym, ◌∙◌, ap, ap₂, subst}
use Rattle.std.specs.Int.{w32}
use Rattle.std.proofs.lemmas.Int.{to_z-of_z}
use Rattle.wa_base.specs.Numbers.{scale as scaled}
use Rattle.quantum_blocks.specs.Blocks.{BlockView, carried}
use Rattle.quantum_blocks.proofs.block.Block.is_scaled.Goals as goal

-- what the other block carries on a channel
heard_is : (c : goal.After-are_scaled) → (channel m : ℕ) → m < c.args.self.now.frames → slice_index_or c.in-Steady-Steady.heard.now channel (pos 0) ≡ carried c.args.other.now c.args.self.now.lanes c.args.output m channel
heard_is c channel m now =
    ap (λ (f : ℕ → ℤ). f channel) (c.in-Steady-Steady.ensures'.1 m (subst (λ k. m < k) (sym c.requires.frames) now))
    ∙ ap (λ (b : BlockView). carried c.args.other.now b.lanes c.args.output m channel) c.self.view_is

pub returns-in-Steady-Steady-clause-values : goal.returns-in-Steady-Steady-clause-values
returns-in-Steady-Steady-clause-values c is channel m low now =
    let held = c.in-Steady-Steady.ensures in
    held.1 channel m low now
    ∙ c.are_scaled.ensures.values is channel (subst (λ n. channel < n) (sym held.0) low)
    ∙ ap₂ scaled (heard_is c channel m now) (to_z-of_z w32 c.args.gain (search rules))

pub returns-in-Steady-Steady-clause-fit : goal.returns-in-Steady-Steady-clause-fit
returns-in-Steady-Steady-clause-fit c is channel m low now =
    subst (FitsSigned w32) (heard_is c channel m now) (c.are_scaled.ensures.fit is channel (subst (λ n. channel < n) (sym c.in-Steady-Steady.ensures.0) low))

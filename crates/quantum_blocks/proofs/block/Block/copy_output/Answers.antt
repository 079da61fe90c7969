use Rattle.std.proofs.Common.{ℕ, ℤ, ◌<◌, ◌≤◌, sym, ◌∙◌, ap, subst, FitsSigned}
use Rattle.std.specs.Int.{w32}
use Rattle.mix_rules.specs.Blocks.{sample}
use Rattle.quantum_blocks.proofs.block.Block.copy_output.Goals as goal

pub copy_steady-requires-clause-few : goal.copy_steady-requires-clause-few
copy_steady-requires-clause-few c = subst (λ n. n ≤ 32) (sym c.in-Steady.ensures.0) c.requires.few

pub returns-in-Steady-clause-values : goal.returns-in-Steady-clause-values
returns-in-Steady-clause-values c channel m low now =
    let held = c.in-Steady.ensures in
    let heard = subst (λ k. m < k) (sym c.requires.frames) now in
    c.copy_steady.ensures.values channel m (subst (λ n. channel < n) (sym held.0) low) now ∙ ap (λ (f : ℕ → ℤ). f channel) (held.1 m heard)

pub returns-in-Steady-clause-fit : goal.returns-in-Steady-clause-fit
returns-in-Steady-clause-fit c channel m low now =
    let held = c.in-Steady.ensures in
    let heard = subst (λ k. m < k) (sym c.requires.frames) now in
    subst (FitsSigned w32) (ap (λ (f : ℕ → ℤ). f channel) (held.1 m heard)) (c.copy_steady.ensures.fit channel (subst (λ n. channel < n) (sym held.0) low))

pub returns-in-Moving-clause-values : goal.returns-in-Moving-clause-values
returns-in-Moving-clause-values c channel m low now =
    let held = c.in-Moving.ensures in
    let heard = subst (λ k. m < k) (sym c.requires.frames) now in
    c.copy_moving.ensures.values channel m low now
    ∙ ap (λ k. sample k c.in-Moving.values.now channel m) (sym c.requires.frames)
    ∙ ap (λ (f : ℕ → ℤ). f channel) (held.1 m heard)

pub returns-in-Moving-clause-fit : goal.returns-in-Moving-clause-fit
returns-in-Moving-clause-fit c channel m low now =
    let held = c.in-Moving.ensures in
    let heard = subst (λ k. m < k) (sym c.requires.frames) now in
    subst (FitsSigned w32) (ap (λ k. sample k c.in-Moving.values.now channel m) (sym c.requires.frames) ∙ ap (λ (f : ℕ → ℤ). f channel) (held.1 m heard)) (c.copy_moving.ensures.fit channel m low now)

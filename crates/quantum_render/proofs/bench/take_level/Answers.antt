use Rattle.std.proofs.Common.{ℕ, pos, ◌≡◌, ◌<◌, ◌+◌, ◌*◌, slice_index_or, sym, ◌∙◌, ap, arith, subst, FitsSigned}
use Rattle.std.specs.Int.{w32}
use Rattle.quantum_render.proofs.bench.take_level.Goals as goal

-- frame m of the first lane
first_lane : (q m : ℕ) → 0 * q + m ≡ m
first_lane q m = omega arith

pub returns-in-Moving-clause-values : goal.returns-in-Moving-clause-values
returns-in-Moving-clause-values c m now =
    c.copy_moving.ensures.values 0 m (omega arith) now
    ∙ ap (λ k. slice_index_or c.in-Moving.values.now k (pos 0)) (first_lane c.args.block.now.frames m)
    ∙ sym (c.in-Moving.ensures.1 m (subst (λ n. m < n) (sym c.requires.level) now))

pub returns-in-Moving-clause-fit : goal.returns-in-Moving-clause-fit
returns-in-Moving-clause-fit c m now =
    subst (FitsSigned w32) (ap (λ k. slice_index_or c.in-Moving.values.now k (pos 0)) (first_lane c.args.block.now.frames m) ∙ sym (c.in-Moving.ensures.1 m (subst (λ n. m < n) (sym c.requires.level) now))) (c.copy_moving.ensures.fit 0 m (omega arith) now)

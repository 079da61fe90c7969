use Rattle.std.proofs.Common.{rules, ◌≡◌, ◌*ℤ◌, pos, ◌≤◌, ◌^◌, arith, FitsSigned, to_z}
use Rattle.std.specs.Prelude.{unsigned_abs}
use Rattle.std.specs.Int.{w128}
use Rattle.std.proofs.lemmas.Int.{unsigned_abs-mul, to_z-of_z}
use Rattle.std.proofs.lemmas.Nat.{mul-le}
use Rattle.param_events.proofs.Euclid.{abs_fits}
use Rattle.param_events.proofs.lines.times.Goals as goal

small : (c : goal.Start) → unsigned_abs (c.args.rise *ℤ pos c.args.n) ≤ 2 ^ 97
small c = rw (unsigned_abs-mul c.args.rise (pos c.args.n)) (mul-le (unsigned_abs c.args.rise) c.args.n (2 ^ 33) (2 ^ 64) c.requires (omega arith))

pub returns-clause-bound : goal.returns-clause-bound
returns-clause-bound c =
    let wide : FitsSigned w128 c.args.rise = search rules in
    let all : FitsSigned w128 (c.args.rise *ℤ pos c.args.n) = abs_fits _ (omega (arith, small c)) in
    let k = small c in
    let count : to_z w128 c.args.n ≡ pos c.args.n = search rules in
    simp (count, to_z-of_z _ _ c.ranges.rise, to_z-of_z _ _ wide, to_z-of_z _ _ all) (omega (arith, k))

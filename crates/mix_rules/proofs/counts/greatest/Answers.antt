use Rattle.std.proofs.Common.{rules, ◌≡◌, ◌≤◌, ℕ, max, List, [], ◌∷◌, arith}
use Rattle.std.specs.List.{fold}
use Rattle.mix_rules.specs.Counts as spec
use Rattle.mix_rules.proofs.counts.greatest.Goals as goal

-- the greatest of a and the numbers, from the first one on
fold_is : (a : ℕ) (ns : List ℕ) → 1 ≤ a → fold (λ m n. max m n) a ns ≡ max a (spec.greatest ns)
fold_is a [] h = omega arith
fold_is a (n ∷ ns) h = let rest = fold_is (max a n) ns (omega arith) in omega arith

at_least_one : (ns : List ℕ) → 1 ≤ spec.greatest ns
at_least_one [] = omega arith
at_least_one (n ∷ ns) = let rest = at_least_one ns in omega arith

pub returns : goal.returns
returns c =
    let chained : c.fold.result ≡ fold (λ m n. max m n) 1 c.args.counts.now = search rules in
    let folded = fold_is 1 c.args.counts.now (omega arith) in
    let some = at_least_one c.args.counts.now in
    omega (arith, chained, folded, some)

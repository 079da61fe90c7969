use Rattle.std.proofs.Common.{rules, ◌≡◌, ◌≤◌, sym, subst}
use Rattle.equations.specs.Given.{meaning_of}
use Rattle.equations.proofs.Saying.{few}
use Rattle.equations.proofs.told.count_of.Goals as goal

low : (c : goal.After-unsigned_abs) → c.unsigned_abs.result ≤ 32
low c =
    let same : c.unsigned_abs.result ≡ (meaning_of c.args.context).counts c.args.quantum c.args.end = search rules in
    subst (λ k. k ≤ 32) (sym same) (few c.args.context c.requires.given c.args.quantum c.args.end)

pub overflow_cast-result : goal.overflow_cast-result
overflow_cast-result c = let l = low c in search rules

pub returns-clause-few : goal.returns-clause-few
returns-clause-few c = low c

use Rattle.std.proofs.Common.{[], inr}
use Rattle.explain.proofs.Completeness.{longer}
use Rattle.explain.proofs.needs_law.Goals as goal

pub returns : goal.returns
returns c q some few tape regular facts checked x form is standing = longer q some tape regular [] facts (λ y h. absurd h) checked x form is (λ key h. inr (standing key h))

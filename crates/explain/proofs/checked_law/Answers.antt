use Rattle.std.proofs.Common.{[]}
use Rattle.explain.proofs.Soundness.{all_hold}
use Rattle.explain.proofs.checked_law.Goals as goal

pub returns : goal.returns
returns c q some few tape regular facts checked x is = (all_hold q some tape regular [] facts (λ y h. absurd h) checked x is).said

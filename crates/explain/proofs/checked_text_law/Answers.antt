use Rattle.std.proofs.Common.{[]}
use Rattle.explain.proofs.Soundness.{all_hold}
use Rattle.explain.proofs.checked_text_law.Goals as goal

pub returns : goal.returns
returns c q some few tape regular text facts is x there = (all_hold q some tape regular [] facts (λ y h. absurd h) is.checked x there).said

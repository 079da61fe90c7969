use Rattle.std.proofs.Common.{refl}
use Rattle.std.specs.Prelude.{◌/◌}
use Rattle.meaning.specs.Counts.{count, counts_before}
use Rattle.meaning.proofs.Joined.{joined_in}
use Rattle.meaning.proofs.CountLaws.{count_gives}
use Rattle.meaning.proofs.ValueLaws.{value_solves}
use Rattle.meaning.proofs.fixpoint_law.Goals as goal

pub returns : goal.returns
returns c q some few tape valid f e is =
    let joined = joined_in tape valid (f / q) in
    (value_solves q tape some f joined e is, count_gives q tape (f / q) joined (counts_before q tape (f / q)) (λ n k delay low high. refl) (count q tape (f / q)) e is (λ d in_d a. refl))

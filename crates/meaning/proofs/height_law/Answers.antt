use Rattle.std.specs.Prelude.{◌/◌}
use Rattle.meaning.proofs.Joined.{joined_in}
use Rattle.meaning.proofs.CountLaws.{count_settled}
use Rattle.meaning.proofs.ValueLaws.{value_settled}
use Rattle.meaning.proofs.height_law.Goals as goal

pub returns : goal.returns
returns c q some few tape valid f h low e is =
    let joined = joined_in tape valid (f / q) in
    (count_settled q tape (f / q) joined h low e is, value_settled q tape some f joined h low e is)

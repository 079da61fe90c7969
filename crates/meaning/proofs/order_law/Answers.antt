use Rattle.std.specs.Prelude.{◌/◌}
use Rattle.meaning.proofs.Joined.{joined_in}
use Rattle.meaning.proofs.OrderLaws.{any_order}
use Rattle.meaning.proofs.order_law.Goals as goal

pub returns : goal.returns
returns c q some few tape valid f order legal e is = any_order q some tape f (joined_in tape valid (f / q)) order legal e is

use Rattle.std.proofs.Common.{refl}
use Rattle.meaning.specs.Counts.{count}
use Rattle.meaning.proofs.Joined.{joined_in}
use Rattle.meaning.proofs.BlockLaws.{blocks_right}
use Rattle.meaning.proofs.block_law.Goals as goal

pub returns : goal.returns
returns c q some few tape valid j order legal m l e is = blocks_right q some tape j (joined_in tape valid j) (count q tape j) (λ d in_d. refl) order legal m l e is

use Rattle.derivations.specs.Groups.{group}
use Rattle.derivations.proofs.Growing.{past_grows}
use Rattle.derivations.proofs.searched_law.Goals as goal

pub returns : goal.returns
returns c = λ q tape facts walk x past. past_grows q tape (λ a. group q tape a walk.key) facts walk.place x past

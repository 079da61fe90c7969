use Rattle.derivations.specs.Groups.{group}
use Rattle.derivations.proofs.Growing.{past_first}
use Rattle.derivations.proofs.needs.Search.new.Goals as goal

pub returns-clause-searched : goal.returns-clause-searched
returns-clause-searched c = λ q tape facts. past_first q tape (λ a. group q tape a c.args.key) facts

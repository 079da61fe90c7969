use Rattle.meaning.proofs.Valid.{plain_valid, valid_plain}
use Rattle.graph_tests.proofs.building.make.Goals as goal

pub returns-in_err-apply-clause-valid : goal.returns-in_err-apply-clause-valid
returns-in_err-apply-clause-valid c = valid_plain c.apply.new.self (c.apply.ensures.grows.valid (plain_valid c.args.world.now c.requires.valid))

pub returns-clause-valid : goal.returns-clause-valid
returns-clause-valid c = valid_plain c.apply.new.self (c.apply.ensures.grows.valid (plain_valid c.args.world.now c.requires.valid))

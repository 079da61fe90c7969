use Rattle.equations.proofs.Ranging.{param_fix, cast_fix, read_fix}
use Rattle.equations.proofs.told.param_of.Goals as goal

pub overflow_cast-result : goal.overflow_cast-result
overflow_cast-result c = cast_fix c.value_of.result _ c.value_of.ensures (param_fix c.args.context c.requires.given c.args.frame c.args.node c.args.name c.requires.known)

pub returns : goal.returns
returns c = read_fix c.value_of.result _ c.value_of.ensures (param_fix c.args.context c.requires.given c.args.frame c.args.node c.args.name c.requires.known)

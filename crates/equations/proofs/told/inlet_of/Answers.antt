use Rattle.equations.proofs.Ranging.{input_fix, cast_fix, read_fix}
use Rattle.equations.proofs.told.inlet_of.Goals as goal

pub overflow_cast-result : goal.overflow_cast-result
overflow_cast-result c = cast_fix c.value_of.result _ c.value_of.ensures (input_fix _ c.args.end.node.0 c.args.input c.args.channel)

pub returns : goal.returns
returns c = read_fix c.value_of.result _ c.value_of.ensures (input_fix _ c.args.end.node.0 c.args.input c.args.channel)

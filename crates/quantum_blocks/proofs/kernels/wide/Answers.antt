use Rattle.quantum_blocks.proofs.Doubled.{doubled_is}
use Rattle.quantum_blocks.proofs.kernels.wide.Goals as goal

pub returns : goal.returns
returns c = doubled_is c.args.gain c.ranges.gain

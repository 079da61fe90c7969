use Rattle.quantum_blocks.proofs.Sources.{end_low}
use Rattle.quantum_render.proofs.counting.count_of.Goals as goal

pub channels_of-requires : goal.channels_of-requires
channels_of-requires c = end_low c.args.census.now.world.now c.requires.valid c.args.end c.requires.there

pub input_count-requires-clause-node : goal.input_count-requires-clause-node
input_count-requires-clause-node c = end_low c.args.census.now.world.now c.requires.valid c.args.end c.requires.there

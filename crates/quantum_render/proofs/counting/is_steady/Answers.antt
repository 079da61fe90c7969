use Rattle.std.proofs.Common.{◌<◌, length, sym, subst}
use Rattle.quantum_blocks.specs.Blocks.{slot}
use Rattle.quantum_blocks.proofs.Slots.{slot_low}
use Rattle.quantum_blocks.proofs.Sources.{end_low}
use Rattle.quantum_render.proofs.counting.is_steady.Goals as goal

pub channels_of-requires : goal.channels_of-requires
channels_of-requires c = end_low c.args.world.now c.requires.valid c.args.end c.requires.there

pub input_count-requires-clause-node : goal.input_count-requires-clause-node
input_count-requires-clause-node c = end_low c.args.world.now c.requires.valid c.args.end c.requires.there

pub has_count-requires-in-Some-OfInput : goal.has_count-requires-in-Some-OfInput
has_count-requires-in-Some-OfInput c = subst (λ n. slot c.args.end < n) (sym c.requires.range.places) (slot_low c.args.end (length c.args.world.now.nodes) (end_low c.args.world.now c.requires.valid c.args.end c.requires.there))

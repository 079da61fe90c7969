use Rattle.std.proofs.Common.{false, subst}
use Rattle.node_table.specs.Kinds.{IsInLimits}
use Rattle.node_table.proofs.NodeLists.{curve_allowed}
use Rattle.quantum_render.proofs.bench.Bench.render_plain.Goals as goal

-- the curve of a node that is there has its points
pub render_shaper-requires-clause-curve : goal.render_shaper-requires-clause-curve
render_shaper-requires-clause-curve c = curve_allowed _ false (subst IsInLimits c.in-Shaper.is c.requires.limits)

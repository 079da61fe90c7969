use Rattle.std.proofs.Common.{refl}
use Rattle.quantum_render.proofs.Drawing.{draws_anyway}
use Rattle.quantum_render.proofs.bench.Bench.render_delay.Goals as goal

pub returns-then-site-clause-draws : goal.returns-then-site-clause-draws
returns-then-site-clause-draws c = draws_anyway c.args.site.now c.args.memory.now c.args.blocks.now c.render_writer.new.blocks c.render_writer.ensures.draws

pub returns-else-site-clause-draws : goal.returns-else-site-clause-draws
returns-else-site-clause-draws c = c.render_reader.ensures.draws c.args.memory.now refl

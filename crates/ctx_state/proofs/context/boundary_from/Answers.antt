use Rattle.std.proofs.Common.{◌*◌, ◌∙◌, ap, arith}
use Rattle.ctx_state.proofs.Boundaries.{rounded_up}
use Rattle.ctx_state.proofs.context.boundary_from.Goals as goal

-- src/context.rt:235:1
pub returns-clause-frame : goal.returns-clause-frame
returns-clause-frame c = ap (λ n. n * c.args.quantum) (c.div_ceil.ensures ∙ rounded_up c.args.time c.args.quantum (omega (arith, c.requires.quantum.low)))

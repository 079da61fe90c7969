use Rattle.std.proofs.Common.{◌∙◌, ap, subst}
use Rattle.node_table.specs.declared.rows.Row.{Row}
use Rattle.node_table.specs.Kinds.{outputs, IsInLimits}
use Rattle.quantum_render.proofs.site.Site.outputs.Goals as goal

pub returns-clause-count : goal.returns-clause-count
returns-clause-count c = ap (λ (r : Row). r.outputs) c.row.ensures ∙ ap outputs c.kind.ensures.value

pub returns-clause-ports : goal.returns-clause-ports
returns-clause-ports c = subst IsInLimits c.kind.ensures.value c.kind.ensures.limits

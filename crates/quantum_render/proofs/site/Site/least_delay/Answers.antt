use Rattle.std.proofs.Common.{◌<◌, sym, ◌∙◌, subst}
use Rattle.quantum_blocks.proofs.Sources.{same_nodes, end_low}
use Rattle.quantum_render.proofs.site.Site.least_delay.Goals as goal

pub bounds-self-inside-self-inside : goal.bounds-self-inside-self-inside
bounds-self-inside-self-inside c =
    let site = c.self.invariant.0 in
    let w = c.self.inside.quantum.now.world.now in
    subst (λ n. c.self.inside.end.node.0 < n) (sym (c.self.invariant.1.count ∙ same_nodes w site.quantum.valid)) (end_low w site.quantum.valid c.self.inside.end site.there)
